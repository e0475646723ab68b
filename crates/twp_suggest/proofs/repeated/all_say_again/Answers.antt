use Rattle.twp_grid.specs.Lands.{lotting}
use Rattle.twp_suggest.proofs.RepeatFacts.{next_changes, next_repeated}
use Rattle.twp_suggest.proofs.repeated.all_say_again.Goals as goal

pub loop-change-preserved : goal.loop-change-preserved
loop-change-preserved g c =
    let says = rw (
      c.as_slice.ensures.value,
      c.in_ok-extend_from_slice.ensures.items,
      c.between.ensures,
      c.between-phrase.ensures,
    ) at (c.in_ok-is_said.ensures c.if-not-is_said.false) in (
      next_changes c.args.text.now c.loop-change.at c.args.changes.now c.loop-change.change-index _
          c.loop-change-test.true c.loop-change.invariant.0,
      λ rest. c.loop-change.invariant.1
          (next_repeated (lotting (g.P.Lotting.layout c.args.lots.now)) c.args.text.now
          c.loop-change.made.items c.loop-change.at c.args.changes.now
          c.loop-change.change-index _ c.loop-change-test.true says
          (rw (
            c.in_ok-extend_from_slice-2.ensures.items,
            c.in_ok-extend_from_slice.ensures.items,
            c.between.ensures,
          ) at rest)),
    )
