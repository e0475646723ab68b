-- Section by section: no place is outside of those between which the land is.
use Rattle.std.proofs.Common.{◌≡◌, inl, inr, refl, arith}
use Rattle.std.proofs.lemmas.Bool.{cases_lt}
use Rattle.twp_land.proofs.LotFacts.{section_is}
use Rattle.twp_suggest.proofs.meaning.named.is_on_land.Goals as goal

pub loop-number-preserved : goal.loop-number-preserved
loop-number-preserved g c =
    let number : c.unwrap-section.result ≡ c.loop-number.number =
    section_is c.loop-number.number c.unwrap-section.result _ c.new.ensures c.unwrap-section.ensures in
    let here = rw number at c.if-not-is_on_land_in.ensures in
    record {
      least = omega arith;
      on_land = λ section column row below held. elim (cases_lt section c.loop-number.number) [
        | inl before ↦ c.loop-number.invariant.on_land section column row before held
        | inr last ↦
            let same : section ≡ c.loop-number.number = omega arith in
            rw same (here refl column row (rw same at held))
      ];
    }

pub returns : goal.returns
returns g c = λ _ section column row held. elim (cases_lt section c.loop-number.number) [
  | inl below ↦ c.loop-number.invariant.on_land section column row below held
  | inr above ↦
      let within = c.in-Some.ensures.1 section column row held in
      absurd (omega (arith, within.1, above, c.number-number-end.ensures.value, c.in-Some.last-is))
]
