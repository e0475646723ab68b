use Rattle.std.proofs.Common.{List, length}
use Rattle.twp_notes.specs.Records.{Fields}
use Rattle.twp_answers.specs.steps.OverlapTaking.{AreFoundTo, AreLandsTo}
use Rattle.twp_answers.proofs.overlaps.add_overlaps.Given as goal

-- the overlaps with the lands so far were found
abbrev pub invariant-loop-first : goal.invariant-loop-first
invariant-loop-first g l = (rows : List Fields)
    → AreLandsTo g.L.PlaceSet.places (g.M.Measuring.measure l.by).lots (g.M.Measuring.measure l.by).township
    rows (length rows) l.lands
    → AreFoundTo (g.M.Measuring.measure l.by) rows 0 l.fn.second l.fn.overlaps.items
    → AreFoundTo (g.M.Measuring.measure l.by) rows l.first l.fn.second l.overlaps.items
