-- Bytes begin with white space and then the token that is split off, and with nothing else. So
-- bytes have only one list of tokens.
use Rattle.std.proofs.Common.{◌≡◌, ℕ, zero, suc, ◌+◌, ◌-◌, ◌<◌, ◌≤◌, false, List, [], ◌∷◌, ◌++◌, length, take}
use Rattle.std.proofs.Common.{drop, refl, sym, ap, subst, ◌∙◌, arith, length-append, length-drop}
use Rattle.std.proofs.Common.{length-take-le}
use Rattle.std.specs.List.{prefix_len, AllPass}
use Rattle.std.proofs.lemmas.List.{take-append-drop, append-nil, drop_all, drop-drop}
use Rattle.std.proofs.lemmas.List.Sums.{AllPass-from_list_all, list_all-from_AllPass}
use Rattle.std.proofs.lemmas.List.Folds.{length-prefix_len}
use Rattle.std.proofs.Math.Seq.{take-append_seam, drop-append_seam}
use Rattle.twp_grammar.specs.declared.tokens.Kind.{Kind}
use Rattle.twp_grammar.specs.declared.tokens.Lexeme.{Lexeme}
use Rattle.twp_grammar.specs.Cutting.{lexeme, cut, IsFirstIn}
use Rattle.twp_grammar.specs.Tokens.{is_white, begins_with, StartsWith, HasTokens, Token}
use Rattle.twp_grammar.proofs.ByteRuns.{run_len, front_passes, front_ends}
use Rattle.twp_grammar.proofs.Cuts.{IsTheCut, the_cut, IsFirstToken, cut_is_token, kind_of_cut, size_of_cut}

abbrev spaces : List ℕ → ℕ
spaces bytes = prefix_len is_white bytes

pub all_white : (bytes : List ℕ) → AllPass is_white (take (spaces bytes) bytes)
all_white bytes = AllPass-from_list_all is_white _ (front_passes is_white bytes)

-- the token after white space
abbrev token_with : Lexeme → ℕ → List ℕ → Token
token_with l at left = record { kind = l.kind; text = take l.size left; at = at }

first_of : (left : List ℕ) → 0 < length left → begins_with is_white left ≡ false
    → IsFirstToken left (cut left)
first_of [] some ends = absurd (omega arith)
first_of (byte ∷ bytes) some ends = cut_is_token byte bytes ends

pub first_after : (bytes : List ℕ) → 0 < length (drop (spaces bytes) bytes)
    → IsFirstToken (drop (spaces bytes) bytes) (cut (drop (spaces bytes) bytes))
first_after bytes some = first_of (drop (spaces bytes) bytes) some (front_ends is_white bytes)

pub starts_with : (at : ℕ) (bytes : List ℕ) → 0 < length (drop (spaces bytes) bytes)
    → StartsWith at bytes
    (token_with (cut (drop (spaces bytes) bytes)) (at + spaces bytes) (drop (spaces bytes) bytes))
    (drop (cut (drop (spaces bytes) bytes)).size (drop (spaces bytes) bytes))
starts_with at bytes some =
    let left = drop (spaces bytes) bytes in
    let l = cut left in
    let first : IsFirstToken left l = first_after bytes some in
    record {
      space = take (spaces bytes) bytes;
      white = all_white bytes;
      spelled =
          sym
          (ap (λ t. take (spaces bytes) bytes ++ t) (take-append-drop l.size left)
          ∙ take-append-drop (spaces bytes) bytes);
      place = rw length-prefix_len refl;
      is = first.is;
    }

nothing : (bytes : List ℕ) → length bytes ≡ 0 → bytes ≡ []
nothing [] h = refl
nothing (byte ∷ bytes) h = absurd (omega arith)

no_more : (bytes : List ℕ) → drop (spaces bytes) bytes ≡ [] → AllPass is_white bytes
no_more bytes e =
    let whole : take (spaces bytes) bytes ≡ bytes =
    sym (append-nil (take (spaces bytes) bytes))
    ∙ ap (λ t. take (spaces bytes) bytes ++ t) (sym e)
    ∙ take-append-drop (spaces bytes) bytes in
    subst (λ (t : List ℕ). AllPass is_white t) whole (all_white bytes)

-- the bytes from the place after the white space
after_spaces : (text : List ℕ) (from at : ℕ) → at ≡ from + spaces (drop from text)
    → drop (spaces (drop from text)) (drop from text) ≡ drop at text
after_spaces text from at is = drop-drop (spaces (drop from text)) from text ∙ ap (λ n. drop n text) (sym is)

-- the token that is split off there
pub first_at : (text : List ℕ) (from at : ℕ) → at ≡ from + spaces (drop from text) → at < length text
    → IsFirstToken (drop at text) (cut (drop at text))
first_at text from at is below =
    let left : drop (spaces (drop from text)) (drop from text) ≡ drop at text =
    after_spaces text from at is in
    subst (λ (b : List ℕ). IsFirstToken b (cut b)) left
    (first_after (drop from text) (rw left (rw (length-drop at text) (omega arith))))

pub first_in : (text : List ℕ) (from at : ℕ) (l : Lexeme) (token : List ℕ)
    → at ≡ from + spaces (drop from text) → at < length text → l ≡ cut (drop at text)
    → token ≡ take l.size (drop at text)
    → IsFirstIn text from (record { kind = l.kind; text = token; at = at })
first_in text from at l token is below l_is token_is =
    let bytes : List ℕ = drop from text in
    let left : drop (spaces bytes) bytes ≡ drop at text = after_spaces text from at is in
    let some : 0 < length (drop at text) = rw (length-drop at text) (omega arith) in
    let first : IsFirstToken (drop at text) l =
    subst (λ (m : Lexeme). IsFirstToken (drop at text) m) (sym l_is) (first_at text from at is below) in
    let fits : l.size ≤ length text - at = rw (length-drop at text) at first.fits in
    let positive : 0 < l.size = first.some in
    let size : length token ≡ l.size = rw token_is (length-take-le l.size (drop at text) first.fits) in
    let here : StartsWith from bytes (token_with (cut (drop at text)) (from + spaces bytes) (drop at text))
    (drop (cut (drop at text)).size (drop at text)) =
    subst (λ (b : List ℕ).
    StartsWith from bytes (token_with (cut b) (from + spaces bytes) b) (drop (cut b).size b)) left
    (starts_with from bytes (rw left some)) in
    let placed : StartsWith from bytes (token_with (cut (drop at text)) at (drop at text))
    (drop (cut (drop at text)).size (drop at text)) =
    subst (λ (n : ℕ).
    StartsWith from bytes (token_with (cut (drop at text)) n (drop at text))
    (drop (cut (drop at text)).size (drop at text))) (sym is) here in
    let starts : StartsWith from bytes (token_with l at (drop at text)) (drop l.size (drop at text)) =
    subst
    (λ (m : Lexeme). StartsWith from bytes (token_with m at (drop at text)) (drop m.size (drop at text)))
    (sym l_is) placed in
    record {
      starts = rw (size, sym (drop-drop l.size at text), token_is) starts;
      further = rw size (omega arith);
      within = rw size (omega arith);
    }

pub none_in : (text : List ℕ) (from : ℕ) → length text ≡ from + spaces (drop from text)
    → AllPass is_white (drop from text)
none_in text from is =
    no_more (drop from text)
    (after_spaces text from (length text) is ∙ drop_all (length text) text (omega arith))

-- facts about a token that the bytes begin with
record IsStart (at : ℕ) (bytes : List ℕ) (token : Token) (rest : List ℕ) : Type 0 where
  left_is : drop (spaces bytes) bytes ≡ token.text ++ rest
  place : token.at ≡ at + spaces bytes
  cut_is : cut (drop (spaces bytes) bytes) ≡ lexeme token.kind (length token.text)
  some : 0 < length token.text

is_start : (at : ℕ) (bytes : List ℕ) (token : Token) (rest : List ℕ) → StartsWith at bytes token rest
    → IsStart at bytes token rest
is_start at bytes token rest s =
    let here : IsTheCut token.text rest token.kind = the_cut token.text rest token.kind s.is in
    let gap : spaces bytes ≡ length s.space =
    ap spaces s.spelled
    ∙ run_len is_white s.space (token.text ++ rest) (list_all-from_AllPass is_white s.space s.white)
    here.no_space in
    let left : drop (spaces bytes) bytes ≡ token.text ++ rest =
    ap (λ n. drop n bytes) gap
    ∙ ap (λ b. drop (length s.space) b) s.spelled
    ∙ drop-append_seam s.space (token.text ++ rest) in
    record {
      left_is = left;
      place = s.place ∙ ap (λ n. at + n) (sym gap);
      cut_is = ap cut left ∙ here.is;
      some = here.some;
    }

abbrev made : Kind → List ℕ → ℕ → Token
made kind text at = record { kind = kind; text = text; at = at }

token_is : (at : ℕ) (bytes : List ℕ) (token : Token) (rest : List ℕ) → IsStart at bytes token rest
    → token ≡ token_with (cut (drop (spaces bytes) bytes)) (at + spaces bytes) (drop (spaces bytes) bytes)
token_is at bytes token rest s =
    let left = drop (spaces bytes) bytes in
    let kind : token.kind ≡ (cut left).kind =
    sym (kind_of_cut (cut left) token.kind (length token.text) s.cut_is) in
    let size : (cut left).size ≡ length token.text =
    size_of_cut (cut left) token.kind (length token.text) s.cut_is in
    let text : token.text ≡ take (cut left).size left =
    sym
    (ap (λ n. take n left) size
    ∙ ap (λ b. take (length token.text) b) s.left_is
    ∙ take-append_seam token.text rest) in
    ap (λ k. made k token.text token.at) kind
    ∙ ap (λ t. made (cut left).kind t token.at) text
    ∙ ap (λ n. made (cut left).kind (take (cut left).size left) n) s.place

rest_is : (at : ℕ) (bytes : List ℕ) (token : Token) (rest : List ℕ) → IsStart at bytes token rest
    → rest ≡ drop (cut (drop (spaces bytes) bytes)).size (drop (spaces bytes) bytes)
rest_is at bytes token rest s =
    let left = drop (spaces bytes) bytes in
    let size : (cut left).size ≡ length token.text =
    size_of_cut (cut left) token.kind (length token.text) s.cut_is in
    sym
    (ap (λ n. drop n left) size
    ∙ ap (λ b. drop (length token.text) b) s.left_is
    ∙ drop-append_seam token.text rest)

-- bytes that are all white space begin with no token
not_all_white : (at : ℕ) (bytes : List ℕ) (token : Token) (rest : List ℕ) → AllPass is_white bytes
    → IsStart at bytes token rest → ⊥
not_all_white at bytes token rest white s =
    let all_spaces : spaces bytes ≡ length bytes =
    ap spaces (sym (append-nil bytes))
    ∙ run_len is_white bytes [] (list_all-from_AllPass is_white bytes white) refl in
    let none : drop (spaces bytes) bytes ≡ [] =
    ap (λ n. drop n bytes) all_spaces ∙ drop_all (length bytes) bytes (omega arith) in
    let long : length (token.text ++ rest) ≡ 0 = ap length (sym s.left_is ∙ none) in
    let longer : length token.text + length rest ≡ 0 = rw length-append at long in
    absurd (let some : 0 < length token.text = s.some in omega arith)

-- bytes can be split into tokens in only one way
pub one_token_list : (at : ℕ) (bytes : List ℕ) (tokens tokens' : List Token) → HasTokens at bytes tokens
    → HasTokens at bytes tokens' → tokens ≡ tokens'
one_token_list at bytes [] [] has has' = refl
one_token_list at bytes [] (token ∷ tokens) has (rest, starts, more) =
    absurd (not_all_white at bytes token rest has (is_start at bytes token rest starts))
one_token_list at bytes (token ∷ tokens) [] (rest, starts, more) has' =
    absurd (not_all_white at bytes token rest has' (is_start at bytes token rest starts))
one_token_list at bytes (token ∷ tokens) (token' ∷ tokens') (rest, starts, more) (rest', starts', more') =
    let s : IsStart at bytes token rest = is_start at bytes token rest starts in
    let s' : IsStart at bytes token' rest' = is_start at bytes token' rest' starts' in
    let same : token' ≡ token = token_is at bytes token' rest' s' ∙ sym (token_is at bytes token rest s) in
    let same_rest : rest' ≡ rest = rest_is at bytes token' rest' s' ∙ sym (rest_is at bytes token rest s) in
    let others : HasTokens (token.at + length token.text) rest tokens' =
    subst (λ (t : Token). HasTokens (t.at + length t.text) rest tokens') same
    (subst (λ (r : List ℕ). HasTokens (token'.at + length token'.text) r tokens') same_rest more') in
    let ends : tokens ≡ tokens' =
    one_token_list (token.at + length token.text) rest tokens tokens' more others in
    ap (λ t. t ∷ tokens) (sym same) ∙ ap (λ ts. token' ∷ ts) ends

-- each list of bytes can be split into tokens
abbrev pub Cutting : ℕ → List ℕ → Type 0
Cutting at bytes = (tokens : List Token) × HasTokens at bytes tokens

cut_one : (n : ℕ) → ((at : ℕ) (bytes : List ℕ) → length bytes ≤ n → Cutting at bytes)
    → (at : ℕ) (bytes : List ℕ) → length bytes ≤ suc n → (left : List ℕ) → drop (spaces bytes) bytes ≡ left
    → Cutting at bytes
cut_one n others at bytes few [] e = ([], no_more bytes e)
cut_one n others at bytes few (byte ∷ more) e =
    let left : List ℕ = drop (spaces bytes) bytes in
    let long : length left ≡ length (byte ∷ more) = ap length e in
    let some : 0 < length left = omega arith in
    let first : IsFirstToken left (cut left) = first_after bytes some in
    let size : 0 < (cut left).size = first.some in
    let shorter : length (drop (cut left).size left) ≡ length left - (cut left).size =
    length-drop (cut left).size left in
    let whole : length left ≡ length bytes - spaces bytes = length-drop (spaces bytes) bytes in
    let token : Token = token_with (cut left) (at + spaces bytes) left in
    let after : Cutting (token.at + length token.text) (drop (cut left).size left) =
    others (token.at + length token.text) (drop (cut left).size left) (omega arith) in
    (token ∷ after.0, (drop (cut left).size left, starts_with at bytes some, after.1))

cutting : (n : ℕ) (at : ℕ) (bytes : List ℕ) → length bytes ≤ n → Cutting at bytes
cutting zero at bytes few = (
  [],
  subst (λ (t : List ℕ). AllPass is_white t) (sym (nothing bytes (omega arith)))
      (λ k d below. absurd (omega arith)),
)
cutting (suc n) at bytes few = cut_one n (cutting n) at bytes few (drop (spaces bytes) bytes) refl

pub has_token_list : (at : ℕ) (bytes : List ℕ) → Cutting at bytes
has_token_list at bytes = cutting (length bytes) at bytes (omega arith)
