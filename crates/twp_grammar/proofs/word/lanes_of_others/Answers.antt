use Rattle.std.proofs.Common.{◌≡◌, ◌^◌, length, ap, arith, nat_eq, w8}
use Rattle.std.proofs.lemmas.Simd.{bitmask_splat}
use Rattle.twp_grammar.proofs.WhiteFacts.{other_lanes}
use Rattle.twp_grammar.proofs.word.lanes_of_others.Goals as goal

pub returns : goal.returns
returns c =
    let bytes = c.args.bytes in
    let long : length bytes ≡ 64 = c.fits-bytes.0 in
    omega (
      arith,
      bitmask_splat w8 nat_eq bytes 64 32 long (omega arith),
      other_lanes (λ x. nat_eq x 32) bytes,
      ap (λ n. 2 ^ n) long,
    )
