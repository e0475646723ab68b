-- Digits and the numbers that they spell.
use Rattle.std.proofs.Common.{◌≡◌, ℕ, ◌+◌, ◌-◌, ◌*◌, ◌^◌, ◌<◌, ◌≤◌, true, List, [], ◌∷◌, length}
use Rattle.std.proofs.Common.{take, get_or, refl, ap, sym, ◌∙◌, arith, add-one}
use Rattle.std.specs.Char.{is_ascii_digit, digit_value}
use Rattle.std.specs.Int.{IsInRange}
use Rattle.std.specs.Str.{all_ascii_digits}
use Rattle.std.specs.List.{list_all}
use Rattle.std.specs.Str.Parse.{AllDigits, digits_value}
use Rattle.std.proofs.Math.Nat.{pow-suc}
use Rattle.std.proofs.lemmas.List.{take_more}
use Rattle.std.proofs.lemmas.Str.{digit_value_digit}
use Rattle.std.proofs.lemmas.Str.Parse.{IsNumeralModel, numerals_by_value, tells_all_ascii_digits}
use Rattle.std.proofs.lemmas.Str.Parse.{digit_at}
use Rattle.std.proofs.lemmas.Int.Digits.{digits_value_push}

list_all-is : (text : List ℕ) → list_all is_ascii_digit text ≡ all_ascii_digits text
list_all-is [] = refl
list_all-is (c ∷ cs) = rw (list_all-is cs) refl

own : IsNumeralModel (λ text. all_ascii_digits text ≡ true) (digits_value 10)
own = numerals_by_value _ tells_all_ascii_digits

-- a test of each byte says whether all are digits
pub digits_tested : (text : List ℕ) → list_all is_ascii_digit text ≡ true → AllDigits 10 text
digits_tested text h = own.to text (sym (list_all-is text) ∙ h)

pub digits_test : (text : List ℕ) → AllDigits 10 text → list_all is_ascii_digit text ≡ true
digits_test text h = list_all-is text ∙ own.from text h

-- One more digit: its byte is that of a digit, and the new value is ten times the value so far,
-- plus the digit.
pub record OneMoreDigit (digits : List ℕ) (i v : ℕ) : Type 0 where
  pub byte : 48 ≤ get_or digits i 0
  pub value : 10 * v + (get_or digits i 0 - 48) ≡ digits_value 10 (take (i + 1) digits)
  pub bound : 10 * v + (get_or digits i 0 - 48) < 10 ^ (i + 1)

pub one_more_digit : (digits : List ℕ) (i v : ℕ) → AllDigits 10 digits → i < length digits
    → v ≡ digits_value 10 (take i digits) → v < 10 ^ i → OneMoreDigit digits i v
one_more_digit digits i v all in_range is small =
    let digit = get_or digits i 0 in
    let range : IsInRange 48 57 digit = digit_at digits i all in_range in
    let worth : digit_value digit + 48 ≡ digit = digit_value_digit digit range in
    let more =
    ap (digits_value 10) (take_more digits i 0 in_range) ∙ digits_value_push 10 (take i digits) digit in
    let power : 10 ^ (i + 1) ≡ 10 ^ i * 10 = rw add-one (pow-suc 10 i) in
    record { byte = omega arith; value = omega arith; bound = omega arith }
