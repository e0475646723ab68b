-- The date of a plat's approval, as text and as a number.
use Rattle.std.specs.Prelude.{◌≡◌, ℕ, ◌+◌, ◌*◌, ◌%◌, ◌≤◌, ◌==◌, ◌&&◌, ◌||◌, not, Bool, List, ◌∷◌, ◌++◌}
use Rattle.std.specs.Prelude.{length}
use Rattle.std.specs.Prelude.{if◌then◌else◌}
use Rattle.std.specs.Str.Parse.{IsNumeral, digits_value}

-- the byte between the year, the month, and the day
abbrev pub dash : ℕ
dash = 45

-- the years with a day more, in the Gregorian calendar
abbrev pub is_leap_year : ℕ → Bool
is_leap_year year = (year % 4 == 0) && (not (year % 100 == 0) || (year % 400 == 0))

-- how many days a month of a year has
abbrev pub days_of : ℕ → ℕ → ℕ
days_of year month =
    if month == 2
    then (if is_leap_year year then 29 else 28)
    else (if (month == 4) || ((month == 6) || ((month == 9) || (month == 11))) then 30 else 31)

-- a year from 1 on, one of its months, and a day of the month
pub record IsDay (year month day : ℕ) : Type 0 where
  pub year_is : 1 ≤ year
  pub month_is : (1 ≤ month) × (month ≤ 12)
  pub day_is : (1 ≤ day) × (day ≤ days_of year month)

-- two digits
abbrev pub AreTwoDigits : List ℕ → Type 0
AreTwoDigits text = IsNumeral 10 text × (length text ≡ 2)

-- the number of a date: 10,000 times the year, 100 times the month, and the day
abbrev pub date_number : ℕ → ℕ → ℕ → ℕ
date_number year month day = 10000 * year + 100 * month + day

-- the text is `YYYY-MM-DD`, a day that there is, and this is its number
pub record IsDateText (text : List ℕ) (date : ℕ) : Type 0 where
  pub century : List ℕ
  pub years : List ℕ
  pub month : List ℕ
  pub day : List ℕ
  pub year_text : AreTwoDigits century × AreTwoDigits years
  pub month_text : AreTwoDigits month
  pub day_text : AreTwoDigits day
  pub text_is : text ≡ century ++ years ++ dash ∷ month ++ dash ∷ day
  pub is_day : IsDay (100 * digits_value 10 century + digits_value 10 years) (digits_value 10 month)
      (digits_value 10 day)
  pub date_is : date ≡ date_number (100 * digits_value 10 century + digits_value 10 years)
      (digits_value 10 month) (digits_value 10 day)
