-- Why a text is not a length, and which fault is reported.
use Rattle.std.specs.Prelude.{◌≡◌, ℕ, ◌≤◌, ◌<◌, List, [], length}
use Rattle.std.specs.Str.Parse.{IsNumeral}
use Rattle.twp_measure.specs.LengthTexts.{place_of_point, before_point, after_point}
use Rattle.twp_measure.specs.declared.length.LengthFault.{LengthFault}
use Rattle.twp_measure.specs.declared.length.LengthFault.TheVariants.{Empty, BadDigit}
use Rattle.twp_measure.specs.declared.length.LengthFault.TheVariants.{TooManyPlaces, TooLong}

-- digits before the first point, digits after it if there is a point, and no other bytes
pub record IsDecimalNumber (text : List ℕ) : Type 0 where
  pub before : IsNumeral 10 (before_point text)
  pub after : place_of_point text < length text → IsNumeral 10 (after_point text)

-- the fault is present
abbrev pub HasLengthFault : List ℕ → LengthFault → Type 0
HasLengthFault text Empty = text ≡ []
HasLengthFault text BadDigit = ¬ IsDecimalNumber text
HasLengthFault text TooManyPlaces = 3 < length (after_point text)
HasLengthFault text TooLong = 2 < length (before_point text)

-- the order in which faults are reported
abbrev pub order_of : LengthFault → ℕ
order_of Empty = 0
order_of BadDigit = 1
order_of TooManyPlaces = 2
order_of TooLong = 3

-- the fault is present, and no fault that precedes it is
pub record IsFirstLengthFault (text : List ℕ) (fault : LengthFault) : Type 0 where
  pub is : HasLengthFault text fault
  pub first : (other : LengthFault) → HasLengthFault text other → order_of fault ≤ order_of other
