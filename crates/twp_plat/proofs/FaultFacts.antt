-- The first fault, and the lines before it.
use Rattle.std.proofs.Common.{◌≡◌, ℕ, ◌+◌, ◌<◌, List, length, get_or, Ok, pos, ◌≤ℤ◌, ◌<ℤ◌, inl, inr}
use Rattle.std.proofs.Common.{arith, below_more, set}
use Rattle.std.proofs.lemmas.Bool.{cases_lt}
use Rattle.std.proofs.lemmas.Int.{ints}
use Rattle.std.proofs.lemmas.List.{get_or-set_same, get_or-set_other}
use Rattle.twp_grid.specs.Lines.{IsLine}
use Rattle.twp_notes.specs.FieldNotes.{FieldNotes, returned_of}
use Rattle.twp_notes.specs.declared.parsing.Returned.{Returned}
use Rattle.twp_plat.specs.Closing.{IsInLimits, last_quarter, CLOSING_LEAST, CLOSING_MOST}
use Rattle.twp_plat.specs.PlatFaults.{place_of, HasLineFault, IsFirstPlatFault}
use Rattle.twp_plat.specs.steps.LineFaults.{IsFirstLineFault, AnswersLine}
use Rattle.twp_plat.specs.declared.fault.HalfMile.TheVariants as half
use Rattle.twp_plat.specs.declared.fault.PlatFault.{PlatFault}
use Rattle.twp_plat.specs.declared.fault.PlatFault.TheVariants as fault

-- a line within its limits has no fault
pub no_line_fault : (line : ℕ) (returned : Returned) (fault : PlatFault) → IsInLimits line returned
    → HasLineFault line returned fault → ⊥
no_line_fault line returned (fault.Irregular at half.First) is has = has is.first
no_line_fault line returned (fault.Irregular at half.Second) is has = has.1 (is.second has.0)
no_line_fault line returned (fault.ClosingShort at) is has =
    let low : pos CLOSING_LEAST ≤ℤ last_quarter returned = (is.closing has.0).least in
    let short : last_quarter returned <ℤ pos CLOSING_LEAST = has.1 in
    omega (arith, ints)
no_line_fault line returned (fault.ClosingLong at) is has =
    let high : last_quarter returned ≤ℤ pos CLOSING_MOST = (is.closing has.0).most in
    let long : pos CLOSING_MOST <ℤ last_quarter returned = has.1 in
    omega (arith, ints)

-- the first fault of a line is the first of all if the lines before it are within their limits
pub first_here : (notes : FieldNotes) (index : ℕ) (fault : PlatFault) → IsLine index
    → ((line : ℕ) → line < index → IsInLimits line (returned_of notes line))
    → IsFirstLineFault index (returned_of notes index) fault → IsFirstPlatFault notes fault
first_here notes index fault is_line before here = record {
  is = rw here.place (is_line, here.is);
  first = λ other has. rw here.place (elim (cases_lt index (place_of other)) [
    | inl after ↦ inl after
    | inr not_after ↦ elim (cases_lt (place_of other) index) [
      | inl ahead ↦
          absurd
          (no_line_fault (place_of other) (returned_of notes (place_of other)) other
          (before (place_of other) ahead) has.1)
      | inr not_ahead ↦
          let same : place_of other ≡ index = omega arith in
          let on_line : HasLineFault index (returned_of notes index) other = rw same at has.1 in
          inr (omega arith, here.first other on_line)
    ]
  ]);
}

-- the closing quarter of one more line is recorded
pub taken_down : (notes : FieldNotes) (quarters : List ℕ) (index place quarter : ℕ) → place ≡ index
    → index < length quarters
    → ((line : ℕ) → line < index → AnswersLine line (returned_of notes line) (Ok (get_or quarters line 0)))
    → AnswersLine index (returned_of notes index) (Ok quarter)
    → (line : ℕ) → line < index + 1
    → AnswersLine line (returned_of notes line) (Ok (get_or (set quarters place quarter) line 0))
taken_down notes quarters index place quarter is within before here =
    below_more _ _
    (λ line below.
    rw (get_or-set_other quarters place line quarter 0 (λ same. absurd (omega arith))) (before line below))
    (rw (is, get_or-set_same quarters index quarter 0 within) here)
