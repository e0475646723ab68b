-- The lowest bit is that of the first position.
use Rattle.std.proofs.Common.{ℕ, ◌-◌, ◌*◌, drop, leb, not, refl, sym, ap, ◌∙◌, arith}
use Rattle.std.proofs.lemmas.List.Sums.{prefix_len-le-length}
use Rattle.std.proofs.lemmas.Simd.{leading_from_mask_l, trailing_mask_l}
use lib.Count.{count_trailing_zeros}
use lib.Lanes.{chunk}
use Rattle.twp_land.specs.steps.LotBytes.{bytes_less}
use Rattle.twp_land.proofs.MaskFacts.{later_length, passed_bytes}
use Rattle.twp_land.proofs.lot_map.bytes.first_between.Goals as goal

pub returns-then-sought-eq0-clause-passed : goal.returns-then-sought-eq0-clause-passed
returns-then-sought-eq0-clause-passed c index after less low =
    let first : ℕ = (c.args.section - 1) * 16 in
    let v = chunk first 16 c.args.positions.now in
    let room = c.later_between-sought.ensures.fits in
    let long = later_length c.args.positions.now first c.args.from c.args.least room in
    let count =
    leading_from_mask_l (λ x. leb x (c.args.most - c.args.least))
    (drop c.args.from (bytes_less c.args.least v))
    (sym c.later_between-sought.ensures.bits ∙ c.if-sought-eq0.true) in
    passed_bytes c.args.positions.now v (bytes_less c.args.least v) first c.args.from c.args.least c.args.most
    (16 - c.args.from) refl room refl c.fits-positions c.requires.range (omega arith)
    (omega (arith, count, long)) index after (omega (arith, less)) less low

pub returns-clause-within : goal.returns-clause-within
returns-clause-within c =
    let first : ℕ = (c.args.section - 1) * 16 in
    let sought = c.later_between-sought in
    let ws = drop c.args.from (bytes_less c.args.least (chunk first 16 c.args.positions.now)) in
    let long = later_length c.args.positions.now first c.args.from c.args.least sought.ensures.fits in
    let count =
    ap (count_trailing_zeros 64) sought.ensures.bits
    ∙ trailing_mask_l (λ x. leb x (c.args.most - c.args.least)) 64 ws (omega (arith, long))
    (omega (arith, sought.ensures.bits, c.if-sought-eq0.false)) in
    omega (
      arith,
      count,
      long,
      prefix_len-le-length (λ x. not (leb x (c.args.most - c.args.least))) ws,
      c.requires.from,
    )

pub returns-clause-passed : goal.returns-clause-passed
returns-clause-passed c index after less low =
    let first : ℕ = (c.args.section - 1) * 16 in
    let sought = c.later_between-sought in
    let v = chunk first 16 c.args.positions.now in
    let ws = drop c.args.from (bytes_less c.args.least v) in
    let long = later_length c.args.positions.now first c.args.from c.args.least sought.ensures.fits in
    let count =
    ap (count_trailing_zeros 64) sought.ensures.bits
    ∙ trailing_mask_l (λ x. leb x (c.args.most - c.args.least)) 64 ws (omega (arith, long))
    (omega (arith, sought.ensures.bits, c.if-sought-eq0.false)) in
    let most = prefix_len-le-length (λ x. not (leb x (c.args.most - c.args.least))) ws in
    passed_bytes c.args.positions.now v (bytes_less c.args.least v) first c.args.from c.args.least c.args.most
    (count_trailing_zeros 64 sought.result) refl sought.ensures.fits refl c.fits-positions c.requires.range
    (omega arith) (omega (arith, count)) index after less
    (omega (arith, less, count, most, long, c.requires.from)) low
