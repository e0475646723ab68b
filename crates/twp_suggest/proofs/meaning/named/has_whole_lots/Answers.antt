-- Section by section: outside of those between which the land is, it has no lots.
use Rattle.std.proofs.Common.{◌≡◌, inl, inr, refl, arith}
use Rattle.std.proofs.lemmas.Bool.{cases_lt}
use Rattle.twp_grid.specs.Lands.{lotting}
use Rattle.twp_land.proofs.LotFacts.{section_is}
use Rattle.twp_suggest.proofs.meaning.NamedFacts.{whole_after}
use Rattle.twp_suggest.proofs.meaning.named.has_whole_lots.Goals as goal

pub loop-number-preserved : goal.loop-number-preserved
loop-number-preserved g c =
    let number : c.unwrap-section.result ≡ c.loop-number.number =
    section_is c.loop-number.number c.unwrap-section.result _ c.new.ensures c.unwrap-section.ensures in
    let here = rw number at c.if-not-holds_whole_lots.ensures.0 in
    record {
      least = omega arith;
      whole = λ section lot below. elim (cases_lt section c.loop-number.number) [
        | inl before ↦ c.loop-number.invariant.whole section lot before
        | inr last ↦ let same : section ≡ c.loop-number.number = omega arith in rw same (here refl lot)
      ];
    }

pub returns : goal.returns
returns g c = λ _ section lot range. elim (cases_lt section c.loop-number.number) [
  | inl below ↦ c.loop-number.invariant.whole section lot below
  | inr above ↦
      whole_after (lotting (g.P.Lotting.layout c.args.lots.now)) (g.L.PlaceSet.places c.args.land.now) _ _
      section lot
      c.in-Some.ensures.1
      (omega (arith, c.number-number-end.ensures.value, c.in-Some.last-is))
]
