use Rattle.std.proofs.Common.{◌≡◌, true, refl}
use Rattle.twp_land.specs.steps.Marked.{marked}
use Rattle.twp_land.proofs.MarkedLoops.{each_next}
use Rattle.twp_land.proofs.lot_map.LotMap.is_held.Goals as goal

pub loop-found-preserved : goal.loop-found-preserved
loop-found-preserved g c =
    let self = c.args.self.now in
    record {
      each =
          each_next (marked self.positions self.divided c.args.section c.args.least c.args.most)
          c.loop-found.from
          (λ column row. g.S.PlaceSet.places c.args.set.now c.args.section column row ≡ true)
          c.in-Some.found.block c.in-Some.found.end c.in-Some.ensures.next c.loop-found.invariant.each
          (c.if-not-full.ensures.0 refl);
    }
