-- Digits and the numbers that they spell.
use Rattle.std.proofs.Common.{◌≡◌, ℕ, ◌+◌, ◌-◌, ◌*◌, ◌^◌, ◌<◌, ◌≤◌, ◌==◌, ◌&&◌, Bool, true, false, cond}
use Rattle.std.proofs.Common.{one-add, le-leb, inl, inr, List, [], ◌∷◌, length, take, slice_index, get_or}
use Rattle.std.proofs.Common.{refl, ap, sym, ◌∙◌, arith, add-one, subst}
use Rattle.std.specs.Char.{is_ascii_digit, digit_value}
use Rattle.std.specs.Int.{IsInRange}
use Rattle.std.specs.Str.{all_ascii_digits}
use Rattle.std.specs.List.{list_all, prefix_len}
use Rattle.twp_grammar.specs.declared.tokens.Kind.TheVariants.{Number, BadNumber}
use Rattle.twp_grammar.specs.declared.tokens.Lexeme.{Lexeme}
use Rattle.twp_grammar.specs.Cutting.{lexeme, numeral_of, cut_number, cut_digits}
use Rattle.std.specs.Str.Parse.{AllDigits, digits_value}
use Rattle.std.proofs.Math.Nat.{pow-suc}
use Rattle.std.proofs.Math.Dec.{leb}
use Rattle.std.proofs.lemmas.Bool.{ne_eqb}
use Rattle.std.proofs.lemmas.Bool.Decides.{leb_tells}
use Rattle.std.proofs.lemmas.List.{take_more}
use Rattle.std.proofs.lemmas.Str.{digit_value_digit}
use Rattle.std.proofs.lemmas.Str.Parse.{IsNumeralModel, numerals_by_value, tells_all_ascii_digits, digit_at}
use Rattle.std.proofs.lemmas.Int.Digits.{digits_value_push}

list_all-is : (text : List ℕ) → list_all is_ascii_digit text ≡ all_ascii_digits text
list_all-is [] = refl
list_all-is (c ∷ cs) = rw (list_all-is cs) refl

own : IsNumeralModel (λ text. all_ascii_digits text ≡ true) (digits_value 10)
own = numerals_by_value _ tells_all_ascii_digits

-- testing each byte shows whether all are digits
pub digits_tested : (text : List ℕ) → list_all is_ascii_digit text ≡ true → AllDigits 10 text
digits_tested text h = own.to text (sym (list_all-is text) ∙ h)

pub digits_test : (text : List ℕ) → AllDigits 10 text → list_all is_ascii_digit text ≡ true
digits_test text h = list_all-is text ∙ own.from text h

-- One more digit: its byte is that of a digit, and the new value is ten times the value so far,
-- plus the digit.
pub record OneMoreDigit (digits : List ℕ) (i v : ℕ) : Type 0 where
  pub byte : 48 ≤ get_or digits i 0
  pub value : 10 * v + (get_or digits i 0 - 48) ≡ digits_value 10 (take (i + 1) digits)
  pub bound : 10 * v + (get_or digits i 0 - 48) < 10 ^ (i + 1)

pub one_more_digit : (digits : List ℕ) (i v : ℕ) → AllDigits 10 digits → i < length digits
    → v ≡ digits_value 10 (take i digits) → v < 10 ^ i → OneMoreDigit digits i v
one_more_digit digits i v all in_range is small =
    let digit = get_or digits i 0 in
    let range : IsInRange 48 57 digit = digit_at digits i all in_range in
    let worth : digit_value digit + 48 ≡ digit = digit_value_digit digit range in
    let more =
    ap (digits_value 10) (take_more digits i 0 in_range) ∙ digits_value_push 10 (take i digits) digit in
    let power : 10 ^ (i + 1) ≡ 10 ^ i * 10 = rw add-one (pow-suc 10 i) in
    record { byte = omega arith; value = omega arith; bound = omega arith }

-- the digits at the start of bytes are digits
one_in_front : (p : ℕ → Bool) (byte : ℕ) (bytes : List ℕ) (x : Bool) → p byte ≡ x
    → list_all p (take (prefix_len p bytes) bytes) ≡ true
    → list_all p (take (cond x (1 + prefix_len p bytes) 0) (byte ∷ bytes)) ≡ true
one_in_front p byte bytes true e more = rw one-add (rw e more)
one_in_front p byte bytes false e more = refl

all_in_front : (p : ℕ → Bool) (bytes : List ℕ) → list_all p (take (prefix_len p bytes) bytes) ≡ true
all_in_front p [] = refl
all_in_front p (byte ∷ bytes) = one_in_front p byte bytes (p byte) refl (all_in_front p bytes)

pub digits_in_front : (bytes : List ℕ) (size : ℕ) → size ≡ prefix_len is_ascii_digit bytes
    → AllDigits 10 (take size bytes)
digits_in_front bytes size is =
    rw is (digits_tested (take (prefix_len is_ascii_digit bytes) bytes) (all_in_front is_ascii_digit bytes))

number_to : (bytes : List ℕ) (size : ℕ) → size ≡ prefix_len is_ascii_digit bytes
    → numeral_of size bytes ≡ cut_number bytes
unfolding cut_number
number_to bytes size is = ap (λ n. numeral_of n bytes) is

pub few_digits : (bytes : List ℕ) (size : ℕ) → size ≡ prefix_len is_ascii_digit bytes → size ≤ 4
    → lexeme (Number (digits_value 10 (take size bytes))) size ≡ cut_number bytes
few_digits bytes size is few =
    sym
    (ap (λ x. cond x (lexeme (Number (digits_value 10 (take size bytes))) size) (lexeme BadNumber size))
    (le-leb size 4 few))
    ∙ number_to bytes size is

pub many_digits : (bytes : List ℕ) (size : ℕ) → size ≡ prefix_len is_ascii_digit bytes → 4 < size
    → lexeme BadNumber size ≡ cut_number bytes
many_digits bytes size is many =
    sym
    (ap (λ x. cond x (lexeme (Number (digits_value 10 (take size bytes))) size) (lexeme BadNumber size))
    (not_le size many))
    ∙ number_to bytes size is
  where
    not_le : (n : ℕ) → 4 < n → leb n 4 ≡ false
    not_le n many = elim (leb_tells n 4) [ inl (e, few) ↦ absurd (omega arith) | inr (e, more) ↦ e ]

-- one digit before something else
one_in_bytes : (bytes : List ℕ) → is_ascii_digit (slice_index bytes 0) ≡ true
    → is_ascii_digit (slice_index bytes 1) ≡ false → 1 ≡ prefix_len is_ascii_digit bytes
one_in_bytes [] h k = cc h
one_in_bytes (x ∷ []) h k = rw h refl
one_in_bytes (x ∷ y ∷ bytes) h k = rw (h, k) refl

its_value : (bytes : List ℕ) → is_ascii_digit (slice_index bytes 0) ≡ true
    → digits_value 10 (take 1 bytes) ≡ slice_index bytes 0 - 48
its_value [] h = cc h
its_value (x ∷ bytes) h =
    let all : AllDigits 10 (x ∷ []) = digits_tested (x ∷ []) (rw h refl) in
    let more : OneMoreDigit (x ∷ []) 0 0 = one_more_digit (x ∷ []) 0 0 all (omega arith) refl (omega arith) in
    let value : 10 * 0 + (x - 48) ≡ digits_value 10 (x ∷ []) = more.value in
    sym value ∙ omega arith

pub one_digit : (bytes : List ℕ) → is_ascii_digit (slice_index bytes 0) ≡ true
    → is_ascii_digit (slice_index bytes 1) ≡ false
    → lexeme (Number (slice_index bytes 0 - 48)) 1 ≡ cut_number bytes
one_digit bytes h k =
    ap (λ v. lexeme (Number v) 1) (sym (its_value bytes h))
    ∙ few_digits bytes 1 (one_in_bytes bytes h k) (omega arith)

-- two digits before something else
two_in_bytes : (bytes : List ℕ) → is_ascii_digit (slice_index bytes 0) ≡ true
    → is_ascii_digit (slice_index bytes 1) ≡ true → is_ascii_digit (slice_index bytes 2) ≡ false
    → 2 ≡ prefix_len is_ascii_digit bytes
two_in_bytes [] h k l = cc h
two_in_bytes (x ∷ []) h k l = cc k
two_in_bytes (x ∷ y ∷ []) h k l = rw (h, k) refl
two_in_bytes (x ∷ y ∷ z ∷ bytes) h k l = rw (h, k, l) refl

two_in_value : (bytes : List ℕ) → is_ascii_digit (slice_index bytes 0) ≡ true
    → is_ascii_digit (slice_index bytes 1) ≡ true
    → digits_value 10 (take 2 bytes) ≡ 10 * (slice_index bytes 0 - 48) + (slice_index bytes 1 - 48)
two_in_value [] h k = cc h
two_in_value (x ∷ []) h k = cc k
two_in_value (x ∷ y ∷ bytes) h k =
    let all : AllDigits 10 (x ∷ y ∷ []) = digits_tested (x ∷ y ∷ []) (rw (h, k) refl) in
    let first : digits_value 10 (x ∷ []) ≡ x - 48 = its_value (x ∷ []) h in
    let small : x - 48 < 10 =
    omega (arith, (one_more_digit (x ∷ y ∷ []) 0 0 all (omega arith) refl (omega arith)).bound) in
    let more : OneMoreDigit (x ∷ y ∷ []) 1 (x - 48) =
    one_more_digit (x ∷ y ∷ []) 1 (x - 48) all (omega arith) (sym first) small in
    sym more.value

pub two_digits : (bytes : List ℕ) (first second : ℕ) → first ≡ slice_index bytes 0
    → second ≡ slice_index bytes 1 → is_ascii_digit first ≡ true → is_ascii_digit second ≡ true
    → is_ascii_digit (slice_index bytes 2) ≡ false
    → lexeme (Number (10 * (first - 48) + (second - 48))) 2 ≡ cut_number bytes
two_digits bytes first second e f h k l =
    let h' : is_ascii_digit (slice_index bytes 0) ≡ true = ap is_ascii_digit (sym e) ∙ h in
    let k' : is_ascii_digit (slice_index bytes 1) ≡ true = ap is_ascii_digit (sym f) ∙ k in
    rw (e, f)
    (ap (λ v. lexeme (Number v) 2) (sym (two_in_value bytes h' k'))
    ∙ few_digits bytes 2 (two_in_bytes bytes h' k' l) (omega arith))

-- if the second of some digits is a digit too, they begin neither a half nor a quarter
no_slash : (byte : ℕ) → is_ascii_digit byte ≡ true → (byte == 47) ≡ false
no_slash byte h = ne_eqb byte 47 (λ (e : byte ≡ 47).
    let g : is_ascii_digit 47 ≡ true = subst (λ n. is_ascii_digit n ≡ true) e h in cc g)

no_fraction : (a b c d : Bool) (l m n : Lexeme) → b ≡ false
    → n ≡ cond (a && b && c) l (cond (a && b && d) m n)
no_fraction true b c d l m n h = rw h refl
no_fraction false b c d l m n h = refl

pub two_or_more : (bytes : List ℕ) → is_ascii_digit (slice_index bytes 1) ≡ true
    → cut_number bytes ≡ cut_digits bytes
unfolding cut_digits
two_or_more bytes h =
    no_fraction (slice_index bytes 0 == 49) _ (slice_index bytes 2 == 50) (slice_index bytes 2 == 52) _ _ _
    (no_slash (slice_index bytes 1) h)

pub ruleset digits_alone = (one_digit, two_or_more)

-- the token of the digits at the start of a text
pub ruleset numbers = (digits_in_front, few_digits, many_digits)
