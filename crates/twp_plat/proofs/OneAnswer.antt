-- Notes have only one answer, and a position only one area.
use Rattle.std.proofs.Common.{◌≡◌, ℕ, ◌*◌, ◌<◌, List, Result, Ok, Err, ℤ, pos, ◌*ℤ◌, ◌<ℤ◌, ◌≤ℤ◌, ap}
use Rattle.std.proofs.Common.{sym, ◌∙◌, inl, inr, arith}
use Rattle.std.proofs.lemmas.Grind.{same_number_lists}
use Rattle.std.proofs.lemmas.Int.{ints}
use Rattle.twp_measure.specs.Areas.{Fraction}
use Rattle.twp_grid.specs.Townships.{Designation}
use Rattle.twp_notes.specs.FieldNotes.{FieldNotes, returned_of}
use Rattle.twp_notes.specs.declared.parsing.Returned.{Returned}
use Rattle.twp_plat.specs.Closing.{CLOSING_LEAST, CLOSING_MOST, last_quarter, IsInLimits}
use Rattle.twp_plat.specs.Closing.{IsClosingQuarter}
use Rattle.twp_plat.specs.Plats.{SurveyPlat, closing_quarter_of, IsPlat, IsPlatOf}
use Rattle.twp_plat.specs.Plats.{IsQuarterOnPlat}
use Rattle.twp_plat.specs.PlatFaults.{place_of, half_of, HasLineFault, IsFrom, IsFirstPlatFault}
use Rattle.twp_plat.specs.PlatFaults.{AnswersPlat}
use Rattle.twp_plat.specs.Pieces.{piece, IsPieceArea}
use Rattle.twp_plat.specs.declared.fault.HalfMile.TheVariants as half
use Rattle.twp_plat.specs.declared.fault.PlatFault.{PlatFault}
use Rattle.twp_plat.specs.declared.fault.PlatFault.TheVariants as fault
use Rattle.twp_plat.proofs.FaultFacts.{no_line_fault}
use Rattle.twp_plat.proofs.FormulaFacts.{piece_terms}
use Rattle.twp_plat.proofs.RatioFacts.{cancelled, numbers_same}
use Rattle.twp_plat.proofs.SideFacts.{one_quarters}

-- a line has only one closing quarter
one_closing : (line : ℕ) (returned : Returned) (quarter quarter' : ℕ) → IsClosingQuarter line returned quarter
    → IsClosingQuarter line returned quarter' → quarter ≡ quarter'
one_closing line returned quarter quarter' (inl (closing, is)) (inl (closing', is')) =
    numbers_same quarter quarter' (is ∙ sym is')
one_closing line returned quarter quarter' (inl (closing, is)) (inr (regular, is')) = absurd (regular closing)
one_closing line returned quarter quarter' (inr (regular, is)) (inl (closing, is')) = absurd (regular closing)
one_closing line returned quarter quarter' (inr (regular, is)) (inr (regular', is')) = is ∙ sym is'

-- the same notes make only one plat
one_plat : (notes : FieldNotes) (plat plat' : SurveyPlat) → IsPlatOf notes plat → IsPlatOf notes plat'
    → plat ≡ plat'
one_plat notes plat plat' is is' =
    let make : Designation → List ℕ → SurveyPlat =
    λ township quarters. record { township = township; closing_quarters = quarters } in
    let quarters : plat.closing_quarters ≡ plat'.closing_quarters =
    same_number_lists plat.closing_quarters plat'.closing_quarters (is.lines ∙ sym is'.lines)
    (λ line below.
    one_closing line (returned_of notes line) (closing_quarter_of plat line) (closing_quarter_of plat' line)
    (is.closing line (omega (arith, is.lines))) (is'.closing line (omega (arith, is.lines)))) in
    ap (λ t. make t plat.closing_quarters) (is.township_is ∙ sym is'.township_is)
    ∙ ap (make plat'.township) quarters

-- a line's closing quarter is within its limits
quarter_within : (line : ℕ) (returned : Returned) (quarter : ℕ) → IsInLimits line returned
    → IsClosingQuarter line returned quarter → IsQuarterOnPlat line quarter
quarter_within line returned quarter is (inl (closing, quarter_is)) =
    let low : pos CLOSING_LEAST ≤ℤ last_quarter returned = (is.closing closing).least in
    let high : last_quarter returned ≤ℤ pos CLOSING_MOST = (is.closing closing).most in
    record {
      least = omega (arith, ints);
      most = omega (arith, ints);
      regular = λ not_closing. absurd (not_closing closing);
    }
quarter_within line returned quarter is (inr (regular, quarter_is)) = record {
  least = omega arith;
  most = omega arith;
  regular = λ _. quarter_is;
}

-- the plat of notes is a plat
pub plat_of_notes : (notes : FieldNotes) (plat : SurveyPlat) → IsPlatOf notes plat → IsPlat plat
plat_of_notes notes plat is = record {
  lines = is.lines;
  within = λ line is_line.
      quarter_within line (returned_of notes line) (closing_quarter_of plat line) (is.makes line is_line)
      (is.closing line is_line);
}

short_or_long : (z : ℤ) → z <ℤ pos CLOSING_LEAST → pos CLOSING_MOST <ℤ z → ⊥
short_or_long z short long = omega (arith, ints)

-- a half of a line has only one fault
one_fault : (line : ℕ) (returned : Returned) (f f' : PlatFault) → HasLineFault line returned f
    → HasLineFault line returned f'
    → place_of f ≡ place_of f' → half_of f ≡ half_of f' → f ≡ f'
one_fault line returned (fault.Irregular at half.First) (fault.Irregular at' half.First) has has' place same =
    ap (λ n. fault.Irregular n half.First) place
one_fault line returned (fault.Irregular at half.Second) (fault.Irregular at' half.Second) has has' place
    same = ap (λ n. fault.Irregular n half.Second) place
one_fault line returned (fault.ClosingShort at) (fault.ClosingShort at') has has' place same =
    ap (λ n. fault.ClosingShort n) place
one_fault line returned (fault.ClosingLong at) (fault.ClosingLong at') has has' place same =
    ap (λ n. fault.ClosingLong n) place
one_fault line returned (fault.Irregular at half.First) (fault.Irregular at' half.Second) has has' place
    same = absurd (omega arith)
one_fault line returned (fault.Irregular at half.First) (fault.ClosingShort at') has has' place same =
    absurd (omega arith)
one_fault line returned (fault.Irregular at half.First) (fault.ClosingLong at') has has' place same =
    absurd (omega arith)
one_fault line returned (fault.Irregular at half.Second) (fault.Irregular at' half.First) has has' place
    same = absurd (omega arith)
one_fault line returned (fault.Irregular at half.Second) (fault.ClosingShort at') has has' place same =
    absurd (has.0 has'.0)
one_fault line returned (fault.Irregular at half.Second) (fault.ClosingLong at') has has' place same =
    absurd (has.0 has'.0)
one_fault line returned (fault.ClosingShort at) (fault.Irregular at' half.First) has has' place same =
    absurd (omega arith)
one_fault line returned (fault.ClosingShort at) (fault.Irregular at' half.Second) has has' place same =
    absurd (has'.0 has.0)
one_fault line returned (fault.ClosingShort at) (fault.ClosingLong at') has has' place same =
    absurd (short_or_long (last_quarter returned) has.1 has'.1)
one_fault line returned (fault.ClosingLong at) (fault.Irregular at' half.First) has has' place same =
    absurd (omega arith)
one_fault line returned (fault.ClosingLong at) (fault.Irregular at' half.Second) has has' place same =
    absurd (has'.0 has.0)
one_fault line returned (fault.ClosingLong at) (fault.ClosingShort at') has has' place same =
    absurd (short_or_long (last_quarter returned) has'.1 has.1)

-- if two faults are both the first, they are at the same place
same_spot : (f f' : PlatFault) → IsFrom (place_of f) (half_of f) f' → IsFrom (place_of f') (half_of f') f
    → (place_of f ≡ place_of f') × (half_of f ≡ half_of f')
same_spot f f' (inl ahead) (inl after) = absurd (omega arith)
same_spot f f' (inl ahead) (inr same) = absurd (omega (arith, same.0))
same_spot f f' (inr same) (inl after) = absurd (omega (arith, same.0))
same_spot f f' (inr same) (inr same') = (same.0, omega (arith, same.1, same'.1))

one_first_fault : (notes : FieldNotes) (f f' : PlatFault) → IsFirstPlatFault notes f
    → IsFirstPlatFault notes f'
    → f ≡ f'
one_first_fault notes f f' is is' =
    let spot = same_spot f f' (is.first f' is'.is) (is'.first f is.is) in
    one_fault (place_of f) (returned_of notes (place_of f)) f f' is.is.1 (rw (sym spot.0) at is'.is.1) spot.0
    spot.1

-- notes that make a plat have no fault
no_fault : (notes : FieldNotes) (plat : SurveyPlat) (f : PlatFault) → IsPlatOf notes plat
    → IsFirstPlatFault notes f → ⊥
no_fault notes plat f is first =
    no_line_fault (place_of f) (returned_of notes (place_of f)) f (is.makes (place_of f) first.is.0)
    first.is.1

pub one_answer : (notes : FieldNotes) (answer answer' : Result SurveyPlat PlatFault)
    → AnswersPlat notes answer → AnswersPlat notes answer' → answer ≡ answer'
one_answer notes (Ok plat) (Ok plat') is is' = ap (λ p. Ok p) (one_plat notes plat plat' is is')
one_answer notes (Ok plat) (Err f') is is' = absurd (no_fault notes plat f' is is')
one_answer notes (Err f) (Ok plat') is is' = absurd (no_fault notes plat' f is' is)
one_answer notes (Err f) (Err f') is is' = ap (λ e. Err e) (one_first_fault notes f f' is is')

-- a position has only one area over a denominator
pub one_area : (plat : SurveyPlat) (section column row : ℕ) (area area' : Fraction) → column < 4 → row < 4
    → IsPieceArea plat section column row area → IsPieceArea plat section column row area'
    → area.over ≡ area'.over → area ≡ area'
one_area plat section column row area area' in_column in_row is is' over =
    let same : is.quarters ≡ is'.quarters =
    one_quarters plat section is.quarters is'.quarters is.are is'.are in
    let terms = piece_terms is.quarters column row in_column in_row in
    let first : pos (area.units * (piece is.quarters column row).denominator)
    ≡ (piece is.quarters column row).numerator *ℤ pos area.over = is.area_is in
    let second : pos (area'.units * (piece is.quarters column row).denominator)
    ≡ (piece is.quarters column row).numerator *ℤ pos area.over =
    rw (same, over) is'.area_is in
    let units : area.units ≡ area'.units =
    cancelled area.units area'.units (piece is.quarters column row).denominator terms.some
    (numbers_same _ _ (first ∙ sym second)) in
    let make : ℕ → ℕ → Fraction = λ units over. record { units = units; over = over } in
    ap (λ u. make u area.over) units ∙ ap (make area'.units) over
