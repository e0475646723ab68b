use Rattle.std.proofs.Common.{◌≡◌, ℕ, ◌+◌, ◌-◌, ◌*◌, ◌/◌, ◌%◌, ◌^◌, drop, leb, length, map, ap, ◌∙◌, arith}
use Rattle.std.proofs.Common.{w8}
use Rattle.std.proofs.lemmas.List.{length-map}
use Rattle.std.proofs.lemmas.Simd.{bitmask_splat, length-chunk, zip2_splat}
use lib.Lanes.{mask_l}
use Rattle.twp_land.specs.steps.LotBytes.{bytes_less}
use Rattle.twp_land.proofs.MaskFacts.{later_mask}
use Rattle.twp_land.proofs.lot_map.bytes.later_between.Goals as goal

pub returns-clause-bits : goal.returns-clause-bits
returns-clause-bits c =
    let first : ℕ = (c.args.section - 1) * 16 in
    let bytes = c.section_bytes.result in
    let long : length bytes ≡ 16 =
    ap length c.section_bytes.ensures.bytes
    ∙ length-chunk first 16 c.args.positions.now c.section_bytes.ensures.fits in
    let moved = zip2_splat (λ (a b : ℕ). (a + (256 - b)) % 256) bytes 16 c.args.least long in
    let hits =
    bitmask_splat w8 leb (bytes_less c.args.least bytes) 16 (c.args.most - c.args.least)
    (length-map bytes (λ x. (x + (256 - c.args.least)) % 256) ∙ long) (omega arith) in
    rw moved
    (ap (λ n. n / 2 ^ c.args.from) hits
    ∙ later_mask (λ x. leb x (c.args.most - c.args.least)) (bytes_less c.args.least bytes) c.args.from
    ∙ ap
    (λ l.
    mask_l (map (λ x. leb x (c.args.most - c.args.least)) (drop c.args.from (bytes_less c.args.least l))))
    c.section_bytes.ensures.bytes)
