-- Hexadecimal digits: the last one, how many there are, and that they are printable.
use Rattle.std.proofs.Common.{◌≡◌, ℕ, zero, suc, ◌+◌, ◌/◌, ◌%◌, ◌^◌, ◌<◌, ◌≤◌, cond, true, List, []}
use Rattle.std.proofs.Common.{◌∷◌, ◌++◌, length, refl, sym, ap, ◌∙◌, arith, append_assoc, ⊎_elim}
use Rattle.std.proofs.Common.{length-append, eq-eqb, ne_eqb}
use Rattle.std.proofs.lemmas.Bool.{cases_lt}
use Rattle.std.proofs.lemmas.Bool.Decides.{nat_tests}
use Rattle.std.proofs.lemmas.Fmt.{hex_one_digit}
use Rattle.std.proofs.lemmas.List.Folds.{list_all-append}
use Rattle.std.specs.Fmt.{digits, digits_onto}
use Rattle.std.specs.List.{list_all}
use Rattle.twp_excerpt.specs.Signs.{hex_digit}
use Rattle.twp_excerpt.specs.steps.Looks.{is_printable}
use Rattle.twp_excerpt.proofs.ShownFacts.{both_true}

abbrev onto : ℕ → ℕ → List ℕ → List ℕ
onto k n after = digits_onto k 16 true n after

onto_last : (k n : ℕ) (after : List ℕ) → n < 16 → onto (suc k) n after ≡ hex_digit (n % 16) ∷ after
onto_last k n after low =
    ap (λ b. cond b (hex_digit (n % 16) ∷ after) (onto k (n / 16) (hex_digit (n % 16) ∷ after)))
    (eq-eqb (n / 16) 0 (omega arith))

onto_next : (k n : ℕ) (after : List ℕ) → 16 ≤ n
    → onto (suc k) n after ≡ onto k (n / 16) (hex_digit (n % 16) ∷ after)
onto_next k n after high =
    ap (λ b. cond b (hex_digit (n % 16) ∷ after) (onto k (n / 16) (hex_digit (n % 16) ∷ after)))
    (ne_eqb (n / 16) 0 (λ e. omega arith))

onto_append : (k n : ℕ) (after : List ℕ) → onto k n after ≡ onto k n [] ++ after
onto_append zero n after = refl
onto_append (suc k) n after = ⊎_elim
    (λ low. onto_last k n after low ∙ ap (λ t. t ++ after) (sym (onto_last k n [] low)))
    (λ high.
    onto_next k n after high ∙ onto_append k (n / 16) (hex_digit (n % 16) ∷ after)
    ∙ sym (append_assoc (onto k (n / 16) []) (hex_digit (n % 16) ∷ []) after)
    ∙ ap (λ t. t ++ after)
    (sym (onto_next k n [] high ∙ onto_append k (n / 16) (hex_digit (n % 16) ∷ []))))
    (cases_lt n 16)

-- the limit on the digits makes no difference once it is large enough
onto_enough : (j k n : ℕ) (after : List ℕ) → n < 16 ^ suc j → n < 16 ^ suc k
    → onto (suc j) n after ≡ onto (suc k) n after
onto_enough zero k n after p q =
    onto_last zero n after (omega arith) ∙ sym (onto_last k n after (omega arith))
onto_enough (suc j) zero n after p q =
    onto_last (suc j) n after (omega arith) ∙ sym (onto_last zero n after (omega arith))
onto_enough (suc j) (suc k) n after p q = ⊎_elim
    (λ low. onto_last (suc j) n after low ∙ sym (onto_last (suc k) n after low))
    (λ high.
    onto_next (suc j) n after high
    ∙ onto_enough j k (n / 16) (hex_digit (n % 16) ∷ after) (omega arith) (omega arith)
    ∙ sym (onto_next (suc k) n after high))
    (cases_lt n 16)

onto_digits : (n : ℕ) → onto 64 n [] ≡ digits 16 true n
unfolding digits
onto_digits n = refl

-- the last digit, after the other digits
pub hex_step : (n : ℕ) → 16 ≤ n → n < 2 ^ 32
    → digits 16 true n ≡ digits 16 true (n / 16) ++ hex_digit (n % 16) ∷ []
hex_step n high small =
    sym (onto_digits n) ∙ onto_next 63 n [] high
    ∙ onto_enough 62 63 (n / 16) (hex_digit (n % 16) ∷ []) (omega arith) (omega arith)
    ∙ onto_append 64 (n / 16) (hex_digit (n % 16) ∷ [])
    ∙ ap (λ t. t ++ hex_digit (n % 16) ∷ []) (onto_digits (n / 16))

pub hex_last : (n : ℕ) → n < 16 → digits 16 true n ≡ hex_digit (n % 16) ∷ []
hex_last n low =
    let same : n % 16 ≡ n = omega arith in
    hex_one_digit true n low ∙ ap (λ d. hex_digit d ∷ []) (sym same)

pub hex_length_step : (n : ℕ) → 16 ≤ n → n < 2 ^ 32
    → length (digits 16 true n) ≡ length (digits 16 true (n / 16)) + 1
hex_length_step n high small =
    ap length (hex_step n high small)
    ∙ length-append (digits 16 true (n / 16)) (hex_digit (n % 16) ∷ [])

pub hex_length_last : (n : ℕ) → n < 16 → length (digits 16 true n) ≡ 1
hex_length_last n low = ap length (hex_last n low)

hex_few : (k n : ℕ) → n < 16 ^ suc k → n < 2 ^ 32 → length (digits 16 true n) ≤ suc k
hex_few zero n p small = omega (arith, hex_length_last n (omega arith))
hex_few (suc k) n p small = ⊎_elim
    (λ low. omega (arith, hex_length_last n low))
    (λ high. omega (arith, hex_length_step n high small, hex_few k (n / 16) (omega arith) (omega arith)))
    (cases_lt n 16)

pub hex_at_most : (n : ℕ) → n < 2 ^ 32 → length (digits 16 true n) ≤ 8
hex_at_most n small = hex_few 7 n (omega arith) small

-- the digits are printable
pub hex_digit_prints : (digit : ℕ) → digit < 16 → is_printable (hex_digit digit) ≡ true
hex_digit_prints digit low = grind (arith, nat_tests)

last_prints : (n : ℕ) → n < 16 → list_all is_printable (digits 16 true n) ≡ true
last_prints n low =
    ap (list_all is_printable) (hex_last n low)
    ∙ both_true _ _ (hex_digit_prints (n % 16) (omega arith)) refl

hex_prints_in : (k n : ℕ) → n < 16 ^ suc k → n < 2 ^ 32 → list_all is_printable (digits 16 true n) ≡ true
hex_prints_in zero n p small = last_prints n (omega arith)
hex_prints_in (suc k) n p small = ⊎_elim
    (λ low. last_prints n low)
    (λ high.
    ap (list_all is_printable) (hex_step n high small)
    ∙ list_all-append is_printable (digits 16 true (n / 16)) (hex_digit (n % 16) ∷ [])
    ∙ both_true _ _ (hex_prints_in k (n / 16) (omega arith) (omega arith))
    (both_true _ _ (hex_digit_prints (n % 16) (omega arith)) refl))
    (cases_lt n 16)

pub hex_prints : (n : ℕ) → n < 2 ^ 32 → list_all is_printable (digits 16 true n) ≡ true
hex_prints n small = hex_prints_in 7 n (omega arith) small
