-- There is too little room, or one more overlap is put there.
use Rattle.std.proofs.Common.{◌≡◌, subst, refl, length, arith, map, take}
use Rattle.std.specs.List.{SameFrom}
use Rattle.std.proofs.lemmas.Grind.{common_steps}
use Rattle.twp_calls.specs.OverlapCalls.{overlap_of}
use Rattle.twp_calls.proofs.OverlapFacts.{all_put, kept_next, plain_next, too_many}
use Rattle.twp_calls.proofs.overlaps_call.put_overlaps.Goals as goal

pub loop-index-preserved : goal.loop-index-preserved
loop-index-preserved c = record {
  length_is = grind (arith, common_steps, c.loop-index.invariant.length_is);
  plain =
      plain_next c.loop-index.index c.loop-index.overlaps c.plain.result c.args.found.now _
      (omega (arith, c.loop-index.invariant.length_is)) (omega arith) c.plain.ensures
      c.loop-index.invariant.plain;
  kept =
      kept_next c.loop-index.index c.args.overlaps.now c.loop-index.overlaps c.plain.result
      c.loop-index.invariant.kept;
}

pub returns-then-overlaps-count-clause-put : goal.returns-then-overlaps-count-clause-put
returns-then-overlaps-count-clause-put c =
    too_many c.args.found.now c.args.overlaps.now c.counted.result (length c.args.found.now) refl
    (omega arith) c.counted.ensures

pub returns-clause-put : goal.returns-clause-put
returns-clause-put c =
    let all : c.loop-index.index ≡ length c.args.found.now = omega arith in
    all_put c.args.found.now c.args.overlaps.now c.loop-index.overlaps c.counted-2.result
    (length c.args.found.now)
    refl (omega arith) c.loop-index.invariant.length_is
    (subst (λ n. map overlap_of (take n c.loop-index.overlaps) ≡ take n c.args.found.now) all
    c.loop-index.invariant.plain)
    (subst (SameFrom c.args.overlaps.now c.loop-index.overlaps) all c.loop-index.invariant.kept)
    c.counted-2.ensures
