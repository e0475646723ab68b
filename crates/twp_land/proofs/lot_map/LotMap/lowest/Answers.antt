-- One more position has a lower mark, or it hasn't.
use Rattle.std.proofs.Common.{arith}
use Rattle.twp_land.proofs.SectionMarks.{lower_next, not_lower_next}
use Rattle.twp_land.proofs.lot_map.LotMap.lowest.Goals as goal
use Rattle.twp_land.proofs.lot_map.LotMap.lowest.Goals.{then-here-lowest, else-here-lowest}

pub loop-index-preserved : goal.loop-index-preserved
loop-index-preserved c =
    let self = c.args.self.now in
    let here = c.lowest_at-here.ensures in
    record {
      lowest = elim c.if-here-lowest.branch [
        | then-here-lowest w ↦
            rw w.lowest-is
            (lower_next self.positions self.divided c.args.section c.args.after c.loop-index.index
            c.position.result c.loop-index.lowest c.lowest_at-here.result c.position.ensures
            c.loop-index.invariant.lowest here.more here.most here.is here.least
            (omega (arith, w.if-here-lowest.true)))
        | else-here-lowest w ↦
            rw w.lowest-is
            (not_lower_next self.positions self.divided c.args.section c.args.after c.loop-index.index
            c.position.result c.loop-index.lowest c.lowest_at-here.result c.position.ensures
            c.loop-index.invariant.lowest here.least (omega (arith, w.if-here-lowest.false)))
      ];
    }
