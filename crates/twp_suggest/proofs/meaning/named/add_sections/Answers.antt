-- Section by section, the added places grow by its land, which shares none with the land before.
use Rattle.std.proofs.Common.{◌≡◌, ◌-◌, ◌+◌, IsTrue, subst, arith}
use Rattle.twp_grid.specs.Lands.{lotting, section_places}
use Rattle.twp_land.proofs.LotFacts.{section_is}
use Rattle.twp_resolve.specs.steps.ResolvingSteps.{sections_from, AreAdded}
use Rattle.twp_resolve.proofs.RangeFacts.{more_added, next_section}
use Rattle.twp_suggest.proofs.meaning.named.add_sections.Goals as goal

pub add_section-requires : goal.add_section-requires
add_section-requires g c = record { room = g.met.L.Land.roomy c.loop-number.land c.unwrap-section.result }

pub loop-number-preserved : goal.loop-number-preserved
loop-number-preserved g c =
    let lots = lotting (g.P.Lotting.layout c.args.lots.now) in
    let so_far = c.loop-number.invariant in
    let number : c.unwrap-section.result ≡ c.loop-number.number =
    section_is c.loop-number.number c.unwrap-section.result _ c.new.ensures c.unwrap-section.ensures in
    let is : IsTrue c.add_section.result = cc (c.if-not-add_section.false) in
    let free = rw number at c.add_section.ensures.apart is in
    let grown = rw number at c.add_section.ensures.places is in
    let next : c.loop-number.number ≡ c.loop-number.number + 1 - 1 = omega arith in
    record {
      least = omega (arith, so_far.least);
      added = subst (λ n.
          AreAdded (sections_from lots c.args.first n) (g.L.PlaceSet.places c.args.land.now)
          (g.L.PlaceSet.places c.add_section.new.set)) next
          (more_added (sections_from lots c.args.first (c.loop-number.number - 1))
          (sections_from lots c.args.first c.loop-number.number) (g.L.PlaceSet.places c.args.land.now)
          (g.L.PlaceSet.places c.loop-number.land) (g.L.PlaceSet.places c.add_section.new.set)
          (section_places lots c.loop-number.number)
          so_far.added free grown
          (next_section lots c.args.first c.loop-number.number
          (omega (arith, c.requires.first.0, so_far.least)) so_far.least));
    }

pub returns : goal.returns
returns g c =
    let all : c.loop-number.number - 1 ≡ c.args.last = omega (arith, c.requires.order) in
    subst (λ n.
    AreAdded (sections_from (lotting (g.P.Lotting.layout c.args.lots.now)) c.args.first n)
    (g.L.PlaceSet.places c.args.land.now)
    (g.L.PlaceSet.places c.loop-number.land)) all c.loop-number.invariant.added
