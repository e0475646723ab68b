use Rattle.std.proofs.Common.{◌≡◌, ℕ, ◌-◌, ◌*◌, ◌<◌, eqb, get_or, length, not, sym, ap, ◌∙◌, arith}
use Rattle.std.proofs.Common.{w8}
use Rattle.std.proofs.lemmas.Bool.{eq-eqb, eqb-true, false≢true}
use Rattle.std.proofs.lemmas.Simd.{bitmask_splat, get_or-chunk, length-chunk}
use Rattle.twp_land.proofs.MaskFacts.{some_in_mask}
use Rattle.twp_land.proofs.lot_map.bytes.has_byte.Goals as goal

pub returns : goal.returns
returns c is =
    let positions = c.args.positions.now in
    let first : ℕ = (c.args.section - 1) * 16 in
    let bytes = c.section_bytes-bytes in
    let long : length bytes.result ≡ 16 =
    ap length bytes.ensures.bytes ∙ length-chunk first 16 positions bytes.ensures.fits in
    let hits = bitmask_splat w8 eqb bytes.result 16 c.args.byte long (omega arith) in
    let found =
    some_in_mask (λ x. eqb x c.args.byte) bytes.result
    (λ none. false≢true (sym (ap not (eq-eqb _ 0 (hits ∙ none))) ∙ is)) in
    let less : found.0 < 16 = omega (arith, found.1, long) in (
      found.0,
      less,
      sym
          (ap (λ l. get_or l found.0 0) bytes.ensures.bytes
          ∙ get_or-chunk first 16 positions found.0 0 less)
          ∙ eqb-true (get_or bytes.result found.0 0) c.args.byte found.2,
    )
