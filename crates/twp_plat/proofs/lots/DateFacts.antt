-- The text of a date, by its parts.
use Rattle.std.proofs.Common.{◌≡◌, ◌⊎◌, inl, inr, ℕ, ◌+◌, ◌*◌, ◌≤◌, List, [], ◌∷◌, ◌++◌, Option, Some, None}
use Rattle.std.proofs.Common.{length, take}
use Rattle.std.proofs.Common.{drop, get_or, ap, refl, sym, subst, ◌∙◌, arith}
use Rattle.std.proofs.lemmas.List.{length-take, length-drop}
use Rattle.std.specs.Option.{SomeIff}
use Rattle.twp_grid.specs.Finding.{Finds}
use Rattle.std.specs.Str.Parse.{IsNumeral, digits_value}
use Rattle.twp_notes.specs.Records.{Fields, field}
use Rattle.twp_notes.specs.FieldNotes.{FIELDS}
use Rattle.twp_plat.specs.LotRecords.{IsDateIn}
use Rattle.twp_plat.specs.LotDates.{IsDateText, IsDay, dash, date_number}

two : (xs : List ℕ) → length xs ≡ 2 → xs ≡ get_or xs 0 0 ∷ get_or xs 1 0 ∷ []
two [] long = absurd (omega arith)
two (a ∷ []) long = absurd (omega arith)
two (a ∷ b ∷ []) long = refl
two (a ∷ b ∷ c ∷ rest) long = absurd (omega arith)

-- the parts of a date's text are where they are read
pub record AreDateParts (text century years month day : List ℕ) : Type 0 where
  pub long : length text ≡ 10
  pub first : get_or text 4 0 ≡ dash
  pub second : get_or text 7 0 ≡ dash
  pub century_is : take 2 text ≡ century
  pub years_is : take 2 (drop 2 text) ≡ years
  pub month_is : take 2 (drop 5 text) ≡ month
  pub day_is : take 2 (drop 8 text) ≡ day

pub parts_of_date : (text : List ℕ) (date : ℕ) → (is : IsDateText text date)
    → AreDateParts text is.century is.years is.month is.day
parts_of_date text date is = record {
  long = ap length whole;
  first = ap (λ t. get_or t 4 0) whole;
  second = ap (λ t. get_or t 7 0) whole;
  century_is = ap (λ t. take 2 t) whole ∙ sym century;
  years_is = ap (λ t. take 2 (drop 2 t)) whole ∙ sym years;
  month_is = ap (λ t. take 2 (drop 5 t)) whole ∙ sym month;
  day_is = ap (λ t. take 2 (drop 8 t)) whole ∙ sym day;
}
  where
    century : is.century ≡ get_or is.century 0 0 ∷ get_or is.century 1 0 ∷ []
    century = two is.century is.year_text.0.1

    years : is.years ≡ get_or is.years 0 0 ∷ get_or is.years 1 0 ∷ []
    years = two is.years is.year_text.1.1

    month : is.month ≡ get_or is.month 0 0 ∷ get_or is.month 1 0 ∷ []
    month = two is.month is.month_text.1

    day : is.day ≡ get_or is.day 0 0 ∷ get_or is.day 1 0 ∷ []
    day = two is.day is.day_text.1

    whole : text
        ≡ get_or is.century 0 0
        ∷ get_or is.century 1 0
        ∷ get_or is.years 0 0
        ∷ get_or is.years 1 0
        ∷ dash
        ∷ get_or is.month 0 0
        ∷ get_or is.month 1 0
        ∷ dash
        ∷ get_or is.day 0 0
        ∷ get_or is.day 1 0
        ∷ []
    whole = is.text_is ∙ (λ i. century i ++ years i ++ dash ∷ month i ++ dash ∷ day i)

-- ten bytes, of which two are dashes, are these parts
pub date_of_parts : (text : List ℕ) → length text ≡ 10 → get_or text 4 0 ≡ dash → get_or text 7 0 ≡ dash
    → text
    ≡ take 2 text ++ take 2 (drop 2 text) ++ dash ∷ take 2 (drop 5 text) ++ dash ∷ take 2 (drop 8 text)
date_of_parts [] long first second = absurd (omega arith)
date_of_parts (a ∷ []) long first second = absurd (omega arith)
date_of_parts (a ∷ b ∷ []) long first second = absurd (omega arith)
date_of_parts (a ∷ b ∷ c ∷ []) long first second = absurd (omega arith)
date_of_parts (a ∷ b ∷ c ∷ d ∷ []) long first second = absurd (omega arith)
date_of_parts (a ∷ b ∷ c ∷ d ∷ e ∷ []) long first second = absurd (omega arith)
date_of_parts (a ∷ b ∷ c ∷ d ∷ e ∷ f ∷ []) long first second = absurd (omega arith)
date_of_parts (a ∷ b ∷ c ∷ d ∷ e ∷ f ∷ g ∷ []) long first second = absurd (omega arith)
date_of_parts (a ∷ b ∷ c ∷ d ∷ e ∷ f ∷ g ∷ h ∷ []) long first second = absurd (omega arith)
date_of_parts (a ∷ b ∷ c ∷ d ∷ e ∷ f ∷ g ∷ h ∷ i ∷ []) long first second = absurd (omega arith)
date_of_parts (a ∷ b ∷ c ∷ d ∷ e ∷ f ∷ g ∷ h ∷ i ∷ j ∷ []) long first second =
    (λ k. a ∷ b ∷ c ∷ d ∷ first k ∷ f ∷ g ∷ second k ∷ i ∷ j ∷ [])
date_of_parts (a ∷ b ∷ c ∷ d ∷ e ∷ f ∷ g ∷ h ∷ i ∷ j ∷ k ∷ rest) long first second = absurd (omega arith)

-- a text is only one date
pub one_date : (text : List ℕ) (date date' : ℕ) → IsDateText text date → IsDateText text date'
    → date ≡ date'
one_date text date date' is is' =
    let parts = parts_of_date text date is in
    let parts' = parts_of_date text date' is' in
    let century : is.century ≡ is'.century = sym parts.century_is ∙ parts'.century_is in
    let years : is.years ≡ is'.years = sym parts.years_is ∙ parts'.years_is in
    let month : is.month ≡ is'.month = sym parts.month_is ∙ parts'.month_is in
    let day : is.day ≡ is'.day = sym parts.day_is ∙ parts'.day_is in
    is.date_is
    ∙ (λ i.
    date_number (100 * digits_value 10 (century i) + digits_value 10 (years i)) (digits_value 10 (month i))
    (digits_value 10 (day i)))
    ∙ sym is'.date_is

-- the parts of a date's text are numerals
pub record AreNumerals (text : List ℕ) : Type 0 where
  pub century : IsNumeral 10 (take 2 text)
  pub years : IsNumeral 10 (take 2 (drop 2 text))
  pub month : IsNumeral 10 (take 2 (drop 5 text))
  pub day : IsNumeral 10 (take 2 (drop 8 text))

pub numerals_of_date : (text : List ℕ) (date : ℕ) → IsDateText text date → AreNumerals text
numerals_of_date text date is =
    let parts = parts_of_date text date is in
    record {
      century = subst (λ (t : List ℕ). IsNumeral 10 t) (sym parts.century_is) is.year_text.0.0;
      years = subst (λ (t : List ℕ). IsNumeral 10 t) (sym parts.years_is) is.year_text.1.0;
      month = subst (λ (t : List ℕ). IsNumeral 10 t) (sym parts.month_is) is.month_text.0;
      day = subst (λ (t : List ℕ). IsNumeral 10 t) (sym parts.day_is) is.day_text.0;
    }

two_long : (text : List ℕ) (n : ℕ) → length text ≡ 10 → n ≤ 8 → length (take 2 (drop n text)) ≡ 2
two_long text n long few = omega (arith, long, few, length-take 2 (drop n text), length-drop n text)

-- the date is found if there is such a day
pub date_found : (text : List ℕ) (found : Option ℕ) (century years month day : ℕ)
    → length text ≡ 10 → get_or text 4 0 ≡ dash → get_or text 7 0 ≡ dash → AreNumerals text
    → century ≡ digits_value 10 (take 2 text) → years ≡ digits_value 10 (take 2 (drop 2 text))
    → month ≡ digits_value 10 (take 2 (drop 5 text)) → day ≡ digits_value 10 (take 2 (drop 8 text))
    → SomeIff found (IsDay (100 * century + years) month day) (date_number (100 * century + years) month day)
    → Finds found (IsDateText text)
date_found text None century years month day long first second are century_is years_is month_is day_is none =
    λ date is.
    let parts = parts_of_date text date is in
    none
    (subst (λ (y : ℕ). IsDay y month day)
    (λ i.
    100 * (ap (digits_value 10) (sym parts.century_is) ∙ sym century_is) i
    + (ap (digits_value 10) (sym parts.years_is) ∙ sym years_is) i)
    (subst (λ (m : ℕ). IsDay (100 * digits_value 10 is.century + digits_value 10 is.years) m day)
    (ap (digits_value 10) (sym parts.month_is) ∙ sym month_is)
    (subst (λ (d : ℕ).
    IsDay (100 * digits_value 10 is.century + digits_value 10 is.years) (digits_value 10 is.month) d)
    (ap (digits_value 10) (sym parts.day_is) ∙ sym day_is) is.is_day)))
date_found text (Some date) century years month day long first second are century_is years_is month_is day_is
    some =
    (here, λ date' is'. one_date text date' date is' here)
  where
    same : (y m d y' m' d' : ℕ) → y ≡ y' → m ≡ m' → d ≡ d' → IsDay y m d → IsDay y' m' d'
    same y m d y' m' d' ys ms ds is =
        subst (λ (n : ℕ). IsDay n m' d') ys
        (subst (λ (n : ℕ). IsDay y n d') ms (subst (λ (n : ℕ). IsDay y m n) ds is))

    here : IsDateText text date
    here = record {
      century = take 2 text;
      years = take 2 (drop 2 text);
      month = take 2 (drop 5 text);
      day = take 2 (drop 8 text);
      year_text = (
        (are.century, two_long text 0 long (omega arith)),
        (are.years, two_long text 2 long (omega arith)),
      );
      month_text = (are.month, two_long text 5 long (omega arith));
      day_text = (are.day, two_long text 8 long (omega arith));
      text_is = date_of_parts text long first second;
      is_day =
          same (100 * century + years) month day _ _ _ (λ i. 100 * century_is i + years_is i) month_is day_is
          some.0;
      date_is =
          some.1 ∙ (λ i. date_number (100 * century_is i + years_is i) (month_is i) (day_is i));
    }

-- the date in the record of a plat with six fields
pub dated : (fields : Fields) (found : Option ℕ) → length fields ≡ FIELDS + 1
    → Finds found (IsDateText (field fields FIELDS)) → Finds found (IsDateIn fields)
dated fields None six none = λ date has. elim has [
  | inl five ↦ absurd (omega (arith, five.0, six))
  | inr is ↦ none date is.1
]
dated fields (Some date) six (is, only) = (
  inr (six, is),
  λ other has. elim has [
    | inl five ↦ absurd (omega (arith, five.0, six))
    | inr is' ↦ only other is'.1
  ],
)

-- if a record of a plat has no date, it has six fields
pub no_date : (fields : Fields) → (length fields ≡ FIELDS) ⊎ (length fields ≡ FIELDS + 1)
    → ((date : ℕ) → IsDateIn fields date → ⊥)
    → (length fields ≡ FIELDS + 1) × ((date : ℕ) → ¬ IsDateText (field fields FIELDS) date)
no_date fields (inl five) none = absurd (none 0 (inl (five, refl)))
no_date fields (inr six) none = (six, λ date is. none date (inr (six, is)))

-- no date is found in a text that is none
pub none_found : (text : List ℕ) (found : Option ℕ) → found ≡ None
    → (AreNumerals text → ⊥) → Finds found (IsDateText text)
none_found text found is none =
    subst (λ (o : Option ℕ). Finds o (IsDateText text)) (sym is)
    (λ date has. none (numerals_of_date text date has))
