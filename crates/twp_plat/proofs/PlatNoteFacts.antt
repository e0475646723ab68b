-- The notes that are written for a plat make it; over plain values.
use Rattle.std.proofs.Common.{◌≡◌, ◌⊎◌, ℕ, ◌+◌, ◌*◌, ◌/◌, ◌%◌, ◌<◌, ◌≤◌, List, [], ◌∷◌, ◌++◌, length, get_or}
use Rattle.std.proofs.Common.{set}
use Rattle.std.proofs.Common.{refl, sym, ap, subst, ◌∙◌, inl, inr, arith, below_more}
use Rattle.std.specs.Char.{digit_value}
use Rattle.std.proofs.lemmas.Bool.{cases_lt, cases_eq}
use Rattle.std.proofs.lemmas.Int.{ints}
use Rattle.std.proofs.lemmas.List.{get_or-set_same, get_or-set_other}
use Rattle.std.proofs.lemmas.Str.{digit_value_digit}
use Rattle.twp_measure.specs.LengthTexts.{IsLength, IsLengthText, IsShortNumber, IsDecimals, digit_byte}
use Rattle.twp_measure.specs.LengthTexts.{point}
use Rattle.twp_grid.specs.Lines.{IsLine, IsClosing}
use Rattle.twp_grid.proofs.LineFacts.{closing_north, closing_west, closing_test}
use Rattle.twp_notes.specs.FieldNotes.{FieldNotes, nothing_returned}
use Rattle.twp_notes.specs.NotesTexts.{AppendsNotes, IsNotesText}
use Rattle.twp_notes.specs.declared.parsing.Returned.{Returned}
use Rattle.twp_plat.specs.Closing.{IsInLimits, IsClosingQuarter, CLOSING_LEAST, CLOSING_MOST}
use Rattle.twp_plat.specs.Plats.{SurveyPlat, IsPlat, IsPlatOf, IsQuarterOnPlat, closing_quarter_of}
use Rattle.twp_plat.specs.PlatNotes.{AreNotesFor, returned_with}

-- ---- the text of a length

digit_value-byte : (digit : ℕ) → digit < 10 → digit_value (digit_byte digit) ≡ digit
digit_value-byte digit small =
    let worth : digit_value (digit_byte digit) + 48 ≡ digit_byte digit =
    digit_value_digit (digit_byte digit) (omega arith) in
    omega arith

two_digits : (a b : ℕ) → a < 10 → b < 10 → IsShortNumber (digit_byte a ∷ digit_byte b ∷ []) (10 * a + b)
two_digits a b small-a small-b =
    let first : digit_value (digit_byte a) ≡ a = digit_value-byte a small-a in
    let second : digit_value (digit_byte b) ≡ b = digit_value-byte b small-b in
    record {
      numeral = (omega arith, (omega arith, (omega arith, tt)));
      places = omega arith;
      value = omega arith;
    }

three_decimals : (a b c : ℕ) → a < 10 → b < 10 → c < 10
    → IsDecimals (digit_byte a ∷ digit_byte b ∷ digit_byte c ∷ []) (100 * a + 10 * b + c)
three_decimals a b c small-a small-b small-c =
    let first : digit_value (digit_byte a) ≡ a = digit_value-byte a small-a in
    let second : digit_value (digit_byte b) ≡ b = digit_value-byte b small-b in
    let third : digit_value (digit_byte c) ≡ c = digit_value-byte c small-c in
    record {
      numeral = (omega arith, (omega arith, (omega arith, (omega arith, tt))));
      places = omega arith;
      value = omega arith;
    }

-- the text of six bytes is that of the length
is_length_text : (v : ℕ) → v < 100000
    → IsLengthText
    (digit_byte (v / 10000 % 10) ∷ digit_byte (v / 1000 % 10) ∷ point ∷ digit_byte (v / 100 % 10)
    ∷ digit_byte (v / 10 % 10) ∷ digit_byte (v % 10) ∷ [])
    v
is_length_text v bound =
    inr (record {
      whole = digit_byte (v / 10000 % 10) ∷ digit_byte (v / 1000 % 10) ∷ [];
      decimals = digit_byte (v / 100 % 10) ∷ digit_byte (v / 10 % 10) ∷ digit_byte (v % 10) ∷ [];
      chains = 10 * (v / 10000 % 10) + v / 1000 % 10;
      thousandths = 100 * (v / 100 % 10) + 10 * (v / 10 % 10) + v % 10;
      before = two_digits (v / 10000 % 10) (v / 1000 % 10) (omega arith) (omega arith);
      after = three_decimals (v / 100 % 10) (v / 10 % 10) (v % 10) (omega arith) (omega arith) (omega arith);
      text_is = refl;
      value = omega arith;
    })

-- such bytes are read as the length
pub is_text_of : (v a b c d e : ℕ) → v < 100000 → a ≡ 48 + v / 10000 % 10 → b ≡ 48 + v / 1000 % 10
    → c ≡ 48 + v / 100 % 10 → d ≡ 48 + v / 10 % 10 → e ≡ 48 + v % 10
    → IsLengthText (a ∷ b ∷ point ∷ c ∷ d ∷ e ∷ []) v
is_text_of v a b c d e bound is-a is-b is-c is-d is-e =
    rw (is-a, is-b, is-c, is-d, is-e) (is_length_text v bound)

-- ---- the lines

-- the distances of one more line are returned
pub lines_next : (quarters : List ℕ) (lines : List Returned) (index : ℕ) (returned : Returned)
    → index < length lines
    → ((line : ℕ) → line < index
    → get_or lines line nothing_returned ≡ returned_with (get_or quarters line 0))
    → returned ≡ returned_with (get_or quarters index 0) → (line : ℕ) → line < index + 1
    → get_or (set lines index returned) line nothing_returned ≡ returned_with (get_or quarters line 0)
lines_next quarters lines index returned within before here =
    below_more _ _
    (λ line below.
    rw (get_or-set_other lines index line returned nothing_returned (λ same. absurd (omega arith)))
    (before line below))
    (rw (get_or-set_same lines index returned nothing_returned within) here)

-- a line closes, or it doesn't
closes_or_not : (line : ℕ) → IsLine line → IsClosing line ⊎ (IsClosing line → ⊥)
closes_or_not line is_line = elim (cases_lt line 7) [
  | inl north ↦ inl (closing_north line north)
  | inr not_north ↦ elim (cases_lt line 42) [
    | inl below ↦ inr (λ is. elim (closing_test line is) [
      | inl north ↦ omega arith
      | inr west ↦ omega (arith, west.0)
    ])
    | inr from ↦ elim (cases_eq (line % 6) 5) [
      | inl west ↦ inl (closing_west line is_line (omega arith) west)
      | inr other ↦ inr (λ is. elim (closing_test line is) [
        | inl north ↦ omega arith
        | inr west ↦ other west.1
      ])
    ]
  ]
]

in_limits : (line quarter : ℕ) → IsQuarterOnPlat line quarter → IsInLimits line (returned_with quarter)
in_limits line quarter is =
    let least : CLOSING_LEAST ≤ quarter = is.least in
    let most : quarter ≤ CLOSING_MOST = is.most in
    record {
      first = record { least = omega (arith, ints); most = omega (arith, ints) };
      second = λ regular.
          let same : quarter ≡ 20000 = is.regular regular in
          record { least = omega (arith, ints); most = omega (arith, ints) };
      closing = λ closes. record { least = omega (arith, ints); most = omega (arith, ints) };
    }

closing_is : (line quarter : ℕ) → IsLine line → IsQuarterOnPlat line quarter
    → IsClosingQuarter line (returned_with quarter) quarter
closing_is line quarter is_line is = elim (closes_or_not line is_line) [
  | inl closes ↦ inl (closes, omega (arith, ints))
  | inr regular ↦ inr (regular, is.regular regular)
]

pub plat_of : (notes : FieldNotes) (plat : SurveyPlat) → IsPlat plat → AreNotesFor plat notes
    → IsPlatOf notes plat
plat_of notes plat is are = record {
  makes = λ line is_line.
      rw (are.lines_are line is_line)
      (in_limits line (closing_quarter_of plat line) (is.within line is_line));
  township_is = sym are.township_is;
  closing = λ line is_line.
      rw (are.lines_are line is_line)
      (closing_is line (closing_quarter_of plat line) is_line (is.within line is_line));
  lines = is.lines;
}

-- ---- the text

pub are_lengths : (quarter : ℕ) → quarter ≤ CLOSING_MOST
    → IsLength (returned_with quarter).quarter × IsLength (returned_with quarter).corner
are_lengths quarter most = (omega arith, omega arith)

-- the text of notes that was appended to nothing
pub appended : (notes : FieldNotes) (old new : List ℕ) → old ≡ [] → AppendsNotes notes old new
    → IsNotesText notes new
appended notes old new none (text, is, same) =
    subst (IsNotesText notes) (sym (same ∙ ap (λ (o : List ℕ). o ++ text) none)) is
