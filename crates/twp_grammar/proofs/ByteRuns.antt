-- Runs of letters, of digits, and of other bytes at the start of bytes.
use Rattle.std.proofs.Common.{◌≡◌, ℕ, ◌+◌, ◌<◌, Bool, true, false, cond, ◌&&◌, List, [], ◌∷◌, ◌++◌, length}
use Rattle.std.proofs.Common.{take, drop, refl, ap, ◌∙◌, arith, one-add}
use Rattle.std.specs.Char.{is_ascii_alphabetic, is_ascii_digit}
use Rattle.std.specs.List.{prefix_len, list_all}
use Rattle.std.proofs.lemmas.Bool.Decides.{nat_tests}
use Rattle.std.proofs.lemmas.List.Sums.{AllPass-from_list_all, list_all-from_AllPass}
use Rattle.std.proofs.lemmas.List.Folds.{length-prefix_len}
use Rattle.twp_grammar.specs.Tokens.{is_white, begins_with, IsWholeRun}

-- a byte of one class is not in another
pub letter_no_digit : (byte : ℕ) → is_ascii_digit byte ≡ true → is_ascii_alphabetic byte ≡ false
letter_no_digit byte h = grind (arith, nat_tests)

pub letter_no_space : (byte : ℕ) → is_ascii_alphabetic byte ≡ true → is_white byte ≡ false
letter_no_space byte h = grind (arith, nat_tests)

pub digit_no_space : (byte : ℕ) → is_ascii_digit byte ≡ true → is_white byte ≡ false
digit_no_space byte h = grind (arith, nat_tests)

pub both : (x y : Bool) → (x && y) ≡ true → (x ≡ true) × (y ≡ true)
both true y h = (refl, h)
both false y h = cc h

-- the length of a run that ends
pub run_len : (p : ℕ → Bool) (text rest : List ℕ) → list_all p text ≡ true → begins_with p rest ≡ false
    → prefix_len p (text ++ rest) ≡ length text
run_len p [] [] all end = refl
run_len p [] (byte ∷ rest) all end = ap (λ x. cond x (1 + prefix_len p rest) 0) end
run_len p (byte ∷ text) rest all end =
    let parts = both (p byte) (list_all p text) all in
    ap (λ x. cond x (1 + prefix_len p (text ++ rest)) 0) parts.0
    ∙ ap (λ n. 1 + n) (run_len p text rest parts.1 end)
    ∙ one-add (length text)

pub run_of : (p : ℕ → Bool) (text rest : List ℕ) → IsWholeRun p text rest
    → prefix_len p (text ++ rest) ≡ length text
run_of p text rest run = run_len p text rest (list_all-from_AllPass p text run.all) run.ends

-- the run at the start of bytes is complete
pub front_passes : (p : ℕ → Bool) (bytes : List ℕ) → list_all p (take (prefix_len p bytes) bytes) ≡ true
front_passes p [] = refl
front_passes p (byte ∷ bytes) = step p byte bytes (p byte) refl (front_passes p bytes)
  where
    step : (p : ℕ → Bool) (byte : ℕ) (bytes : List ℕ) (x : Bool) → p byte ≡ x
        → list_all p (take (prefix_len p bytes) bytes) ≡ true
        → list_all p (take (cond x (1 + prefix_len p bytes) 0) (byte ∷ bytes)) ≡ true
    step p byte bytes true e more = rw one-add (rw e more)
    step p byte bytes false e more = refl

pub front_ends : (p : ℕ → Bool) (bytes : List ℕ) → begins_with p (drop (prefix_len p bytes) bytes) ≡ false
front_ends p [] = refl
front_ends p (byte ∷ bytes) = step p byte bytes (p byte) refl (front_ends p bytes)
  where
    step : (p : ℕ → Bool) (byte : ℕ) (bytes : List ℕ) (x : Bool) → p byte ≡ x
        → begins_with p (drop (prefix_len p bytes) bytes) ≡ false
        → begins_with p (drop (cond x (1 + prefix_len p bytes) 0) (byte ∷ bytes)) ≡ false
    step p byte bytes true e more = rw one-add more
    step p byte bytes false e more = e

pub front_run : (p : ℕ → Bool) (bytes : List ℕ) → 0 < prefix_len p bytes
    → IsWholeRun p (take (prefix_len p bytes) bytes) (drop (prefix_len p bytes) bytes)
front_run p bytes some = record {
  some = rw length-prefix_len some;
  all = AllPass-from_list_all p _ (front_passes p bytes);
  ends = front_ends p bytes;
}

pub starts_run : (p : ℕ → Bool) (byte : ℕ) (bytes : List ℕ) → p byte ≡ true → 0 < prefix_len p (byte ∷ bytes)
starts_run p byte bytes h = rw h (omega arith)
