-- Short lists by their elements.
use Rattle.std.proofs.Common.{◌≡◌, ℕ, ◌+◌, ◌*◌, ◌<◌, List, [], ◌∷◌, length, get_or, inl, inr, refl}
use Rattle.std.proofs.Common.{arith}
use Rattle.std.specs.Char.{digit_value}
use Rattle.std.specs.Str.Parse.{AllDigits, digits_value}
use Rattle.twp_notes.specs.Records.{Fields, field}
use Rattle.twp_notes.specs.FieldNotes.{Returns}
use Rattle.twp_notes.specs.NotesFaults.{HasNoLength}
use Rattle.twp_notes.specs.declared.parsing.Returned.{Returned}

-- a text of one byte
pub record IsOneDigit (text : List ℕ) : Type 0 where
  pub is : AllDigits 10 text → digit_value (get_or text 0 0) < 10
  pub all : digit_value (get_or text 0 0) < 10 → AllDigits 10 text
  pub value : digits_value 10 text ≡ digit_value (get_or text 0 0)

pub one_digit : (text : List ℕ) → length text ≡ 1 → IsOneDigit text
one_digit [] h = absurd (omega arith)
one_digit (a ∷ []) h = record { is = λ all. all.0; all = λ is. (is, tt); value = omega arith }
one_digit (a ∷ b ∷ rest) h = absurd (omega arith)

-- a text of two bytes
pub record IsTwoDigits (text : List ℕ) : Type 0 where
  pub first : AllDigits 10 text → digit_value (get_or text 0 0) < 10
  pub second : AllDigits 10 text → digit_value (get_or text 1 0) < 10
  pub all : digit_value (get_or text 0 0) < 10 → digit_value (get_or text 1 0) < 10 → AllDigits 10 text
  pub value : digits_value 10 text ≡ 10 * digit_value (get_or text 0 0) + digit_value (get_or text 1 0)

pub two_digits : (text : List ℕ) → length text ≡ 2 → IsTwoDigits text
two_digits [] h = absurd (omega arith)
two_digits (a ∷ []) h = absurd (omega arith)
two_digits (a ∷ b ∷ []) h = record {
  first = λ all. all.0;
  second = λ all. all.1.0;
  all = λ is is'. (is, (is', tt));
  value = omega arith;
}
two_digits (a ∷ b ∷ c ∷ rest) h = absurd (omega arith)

-- a record of five fields
pub five_fields : (fields : Fields) → length fields ≡ 5
    → fields ≡ field fields 0 ∷ field fields 1 ∷ field fields 2 ∷ field fields 3 ∷ field fields 4 ∷ []
five_fields [] h = absurd (omega arith)
five_fields (a ∷ []) h = absurd (omega arith)
five_fields (a ∷ b ∷ []) h = absurd (omega arith)
five_fields (a ∷ b ∷ c ∷ []) h = absurd (omega arith)
five_fields (a ∷ b ∷ c ∷ d ∷ []) h = absurd (omega arith)
five_fields (a ∷ b ∷ c ∷ d ∷ e ∷ []) h = refl
five_fields (a ∷ b ∷ c ∷ d ∷ e ∷ f ∷ rest) h = absurd (omega arith)

-- both distances together are the returned value
pub same_returned : (a b : Returned) → a.quarter ≡ b.quarter → a.corner ≡ b.corner → a ≡ b
same_returned a b quarter corner = rw (quarter, corner) refl

-- a record that returns distances has no fault in them
pub has_lengths : (fields : Fields) (returned : Returned) → Returns fields returned → HasNoLength fields → ⊥
has_lengths fields returned is (inl none) = none returned.quarter is.quarter
has_lengths fields returned is (inr none) = none returned.corner is.corner
