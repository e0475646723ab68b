-- There is too little room, or one more overlap is put there.
use Rattle.std.proofs.Common.{◌≡◌, subst, length, arith}
use Rattle.std.specs.List.{SameFrom}
use Rattle.std.proofs.lemmas.Grind.{common_steps}
use Rattle.std.proofs.lemmas.List.{get_or_default}
use Rattle.twp_calls.specs.LotOverlapCalls.{ArePlainOverlapsTo, IsPlainOverlap, lots_overlaps_put}
use Rattle.twp_calls.specs.LotOverlapCalls.{no_lots_room}
use Rattle.twp_calls.proofs.EachFacts.{kept_next, plain_next}
use Rattle.twp_calls.proofs.lots_overlaps_call.put_overlaps.Goals as goal

pub loop-index-preserved : goal.loop-index-preserved
loop-index-preserved c = record {
  length_is = grind (arith, common_steps, c.loop-index.invariant.length_is);
  plain =
      plain_next IsPlainOverlap c.loop-index.index c.args.found.now _ c.loop-index.overlaps c.plain.result
      (omega (arith, c.loop-index.invariant.length_is)) (omega arith)
      (get_or_default c.args.found.now c.loop-index.index _ _ (omega arith)) c.plain.ensures
      c.loop-index.invariant.plain;
  kept =
      kept_next c.loop-index.index c.args.overlaps.now c.loop-index.overlaps c.plain.result
      c.loop-index.invariant.kept;
}

pub returns-then-overlaps-count-clause-put : goal.returns-then-overlaps-count-clause-put
returns-then-overlaps-count-clause-put c = no_lots_room (omega arith) c.counted.ensures

pub returns-clause-put : goal.returns-clause-put
returns-clause-put c =
    let all : c.loop-index.index ≡ length c.args.found.now = omega arith in
    lots_overlaps_put (omega arith) c.loop-index.invariant.length_is
    (subst (λ n. ArePlainOverlapsTo n c.args.found.now c.loop-index.overlaps) all
    c.loop-index.invariant.plain)
    (subst (SameFrom c.args.overlaps.now c.loop-index.overlaps) all c.loop-index.invariant.kept)
    c.counted-2.ensures
