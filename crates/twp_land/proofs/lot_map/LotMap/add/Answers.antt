use Rattle.std.proofs.Common.{refl, ◌∙◌}
use Rattle.twp_land.specs.steps.Marked.{marked}
use Rattle.twp_land.proofs.MarkedLoops.{added_next, added_all, met_next}
use Rattle.twp_land.proofs.lot_map.LotMap.add.Goals as goal

pub returns-then-not-add_apart-clause-met : goal.returns-then-not-add_apart-clause-met
returns-then-not-add_apart-clause-met g c is =
    let self = c.args.self.now in
    met_next c.args.section (marked self.positions self.divided c.args.section c.args.least c.args.most)
    c.loop-found.from c.in-Some.found.block c.in-Some.found.end (g.S.PlaceSet.places c.args.set.now)
    (g.S.PlaceSet.places c.loop-found.set) c.in-Some.ensures.next c.loop-found.invariant.added
    (c.if-not-add_apart.ensures.met is)

pub loop-found-preserved : goal.loop-found-preserved
loop-found-preserved g c =
    let self = c.args.self.now in
    record {
      added =
          added_next c.args.section
          (marked self.positions self.divided c.args.section c.args.least c.args.most) c.loop-found.from
          c.in-Some.found.block c.in-Some.found.end (g.S.PlaceSet.places c.args.set.now)
          (g.S.PlaceSet.places c.loop-found.set) (g.S.PlaceSet.places c.add_apart.new.self)
          c.in-Some.ensures.next c.loop-found.invariant.added
          (c.if-not-add_apart.ensures.apart refl)
          (c.if-not-add_apart.ensures.places refl);
      room = c.if-not-add_apart.ensures.room ∙ c.loop-found.invariant.room;
    }

pub returns-clause-places : goal.returns-clause-places
returns-clause-places g c is =
    let self = c.args.self.now in
    (added_all c.args.section (marked self.positions self.divided c.args.section c.args.least c.args.most)
    c.loop-found.from (g.S.PlaceSet.places c.args.set.now) (g.S.PlaceSet.places c.loop-found.set)
    c.in_default.ensures.next c.loop-found.invariant.added).0
