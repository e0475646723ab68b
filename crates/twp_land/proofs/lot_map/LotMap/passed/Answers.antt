-- The positions before both that were found have marks out of the range, and aren't divided.
use Rattle.std.proofs.Common.{◌≡◌, ℕ, ◌+◌, ◌-◌, ◌*◌, ◌/◌, get_or, inl, inr, arith}
use Rattle.std.proofs.lemmas.Bool.{cases_lt}
use Rattle.std.proofs.lemmas.Bool.Decides.{nat_tests}
use Rattle.twp_land.proofs.SectionMarks.{passed_places}
use Rattle.twp_land.proofs.lot_map.LotMap.passed.Goals as goal

pub returns-clause-passed : goal.returns-clause-passed
returns-clause-passed c number after less =
    let self = c.args.self.now in
    let whole = c.first_between-whole in
    let divided = c.first_between-divided in
    let from : ℕ = c.args.place / 64 in
    let start : from * 64 ≡ c.args.place = grind (arith, nat_tests, c.if-place-ne0.false) in
    passed_places self.positions self.divided c.args.section c.args.least c.args.most from c.min.result
    (λ index least short. elim (cases_lt (get_or self.positions ((c.args.section - 1) * 16 + index) 0) 101) [
      | inl few ↦ few
      | inr great ↦
          let byte = divided.ensures.bytes ((c.args.section - 1) * 16 + index) in
          absurd
          (divided.ensures.passed index least (omega (arith, short, c.min.ensures)) (omega (arith, great))
          (omega (arith, byte)))
    ])
    (λ index least short. whole.ensures.passed index least (omega (arith, short, c.min.ensures)))
    number
    (omega (arith, start, after)) (omega (arith, less))
