use Rattle.std.proofs.Common.{◌≡◌, ℕ, ◌+◌, ◌-◌, ◌%◌, leb, length, map, ap, ◌∙◌, arith, w8}
use Rattle.std.proofs.lemmas.List.{length-map}
use Rattle.std.proofs.lemmas.Simd.{bitmask_splat, length-chunk, zip2_splat}
use lib.Lanes.{mask_l}
use Rattle.twp_land.specs.steps.LotBytes.{bytes_less}
use Rattle.twp_land.proofs.lot_map.bytes.half_bits.Goals as goal

pub returns-clause-bits : goal.returns-clause-bits
returns-clause-bits c =
    let bytes = c.half_bytes.result in
    let long : length bytes ≡ 32 =
    ap length c.half_bytes.ensures.bytes
    ∙ length-chunk c.args.first 32 c.args.divided.now c.half_bytes.ensures.fits in
    let moved = zip2_splat (λ (a b : ℕ). (a + (256 - b)) % 256) bytes 32 c.args.least long in
    let hits =
    bitmask_splat w8 leb (bytes_less c.args.least bytes) 32 (c.args.most - c.args.least)
    (length-map bytes (λ x. (x + (256 - c.args.least)) % 256) ∙ long) (omega arith) in
    rw moved
    (hits
    ∙ ap (λ l. mask_l (map (λ x. leb x (c.args.most - c.args.least)) (bytes_less c.args.least l)))
    c.half_bytes.ensures.bytes)
