-- How distances come to be out of their limits, and what they are without that.
use Rattle.std.specs.Prelude.{◌≡◌, ◌+◌, ◌≤◌}
use Rattle.twp_sentences.specs.declared.field_notes.half_mile_hints.Distances.{Distances}
use Rattle.twp_sentences.specs.declared.field_notes.half_mile_hints.Slip.{Slip}
use Rattle.twp_sentences.specs.declared.field_notes.half_mile_hints.Slip.TheVariants as slip

-- The mended distances start at the line's first end: to the quarter corner, and to the corner. If the second
-- one was measured from the quarter corner, both together reach the corner; if both were measured from the
-- other end, the quarter corner is as far from the first end as the rest of the line is long.
abbrev pub IsMended : Slip → Distances → Distances → Type 0
IsMended slip.HalfMileAlone found mended = found.quarter + found.corner ≤ 4294967295
    → (mended.quarter ≡ found.quarter) × (mended.corner ≡ found.quarter + found.corner)
IsMended slip.Exchanged found mended =
    (mended.quarter ≡ found.corner) × (mended.corner ≡ found.quarter)
IsMended slip.OtherEnd found mended = found.quarter ≤ found.corner
    → (mended.quarter + found.quarter ≡ found.corner) × (mended.corner ≡ found.corner)
