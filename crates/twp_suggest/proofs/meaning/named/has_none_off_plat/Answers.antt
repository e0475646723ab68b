-- A place off the plat's land is in what is left of the set.
use Rattle.std.proofs.Common.{◌≡◌, IsTrue, ap, subst, sym, ◌∙◌}
use Rattle.twp_grid.specs.Places.{PLACE_DIGITS}
use Rattle.twp_grid.specs.Spans.{whole_block}
use Rattle.twp_grid.specs.Lands.{Meets, difference, lotting, section_places, union}
use Rattle.twp_suggest.proofs.meaning.NamedFacts.{on_land_here}
use Rattle.twp_suggest.proofs.meaning.named.has_none_off_plat.Goals as goal

pub add_section-requires : goal.add_section-requires
add_section-requires g c = record { room = g.met.L.Land.roomy c.empty-on_plat.result c.args.section }

pub returns : goal.returns
returns g c = λ _.
    let layout = g.P.Lotting.layout c.args.lots.now in
    let s = c.args.section in
    let land = g.L.PlaceSet.places c.args.land.now in
    let more = section_places (lotting layout) s in
    let is : IsTrue c.add_section.result = cc (c.if-not-add_section.false) in
    let on_plat : g.L.PlaceSet.places c.add_section.new.set ≡ more =
    c.add_section.ensures.places is ∙ ap (λ p. union p more) c.empty-on_plat.ensures in
    let off_plat : g.L.PlaceSet.places c.take_away.new.self ≡ difference land more =
    c.take_away.ensures
    ∙ ap (λ p. difference p (g.L.PlaceSet.places c.add_section.new.set))
    (c.add_land.ensures ∙ ap (λ p. union p land) c.empty-off_plat.ensures)
    ∙ ap (λ p. difference land p) on_plat in
    on_land_here layout s land
    (λ column row held. (g.met.L.PlaceSet.within c.args.land.now s column row held).1)
    (λ meets. absurd (cc (
      c.meets.ensures.1
          (rw c.whole.ensures
          (subst (λ p. Meets (p s) (whole_block PLACE_DIGITS)) (sym off_plat) meets)),
      c.if-meets.false,
    )))
