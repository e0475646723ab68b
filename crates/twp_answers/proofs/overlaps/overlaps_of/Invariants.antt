use Rattle.std.proofs.Common.{List, length}
use Rattle.twp_notes.specs.Records.{Fields}
use Rattle.twp_answers.specs.steps.OverlapTaking.{AreFoundTo, AreLandsTo}
use Rattle.twp_answers.proofs.overlaps.overlaps_of.Given as goal

-- the overlaps of the lands so far were found
abbrev pub invariant-loop-second : goal.invariant-loop-second
invariant-loop-second g l = (rows : List Fields)
    → AreLandsTo g.L.PlaceSet.places (g.M.Measuring.measure l.by).lots (g.M.Measuring.measure l.by).township
    rows (length rows) l.lands
    → AreFoundTo (g.M.Measuring.measure l.by) rows 0 l.second l.overlaps.items
