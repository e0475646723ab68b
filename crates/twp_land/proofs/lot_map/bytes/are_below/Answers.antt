use Rattle.std.proofs.Common.{◌≡◌, ℕ, ◌+◌, ◌-◌, ◌*◌, ◌^◌, ◌%◌, false, leb, get_or, length, map, replicate}
use Rattle.std.proofs.Common.{sym, ap}
use Rattle.std.proofs.Common.{◌∙◌, arith, w8}
use Rattle.std.proofs.lemmas.Bool.{eqb-true}
use Rattle.std.proofs.lemmas.Bool.Decides.{nat_tests}
use Rattle.std.proofs.lemmas.List.{length-map}
use Rattle.std.proofs.lemmas.Simd.{length-chunk, mask_l-mod, none_from_empty_mask, tops_compared}
use Rattle.std.proofs.lemmas.Simd.{zip2_splat_left}
use lib.Lanes.{chunk, mask_l}
use Rattle.twp_land.proofs.lot_map.bytes.are_below.Goals as goal

pub returns : goal.returns
returns c is index less =
    let positions = c.args.positions.now in
    let first : ℕ = (c.args.section - 1) * 16 in
    let bytes = c.section_bytes-bytes in
    let long : length bytes.result ≡ 16 =
    ap length bytes.ensures.bytes ∙ length-chunk first 16 positions bytes.ensures.fits in
    let hits =
    ap (λ ms. mask_l ms % 2 ^ 64)
    (tops_compared w8 leb (replicate 16 c.args.least) bytes.result
    ∙ zip2_splat_left leb c.args.least 16 bytes.result long)
    ∙ mask_l-mod (map (λ y. leb c.args.least y) bytes.result) 64
    (omega (arith, length-map bytes.result (λ y. leb c.args.least y), long)) in
    let none : mask_l (map (λ y. leb c.args.least y) (chunk first 16 positions)) ≡ 0 =
    ap (λ l. mask_l (map (λ y. leb c.args.least y) l)) (sym bytes.ensures.bytes)
    ∙ sym hits
    ∙ eqb-true _ 0 is in
    let fails : leb c.args.least (get_or positions (first + index) 0) ≡ false =
    none_from_empty_mask (λ y. leb c.args.least y) positions first 16 0 bytes.ensures.fits none
    (first + index)
    (omega arith) (omega (arith, less)) in
    grind (arith, nat_tests, fails)
