use Rattle.std.proofs.Common.{arith}
use Rattle.std.proofs.lemmas.Simd.{zip2_splat, zip2_of_maps}
use Rattle.twp_grammar.proofs.WhiteFacts.{dark_mask}
use Rattle.twp_grammar.proofs.word.dark_lanes.Goals as goal

pub returns : goal.returns
returns c =
    let v = c.args.bytes in
    let long = c.fits-bytes.0 in
    dark_mask v _ (omega arith) (zip2_of_maps _ _ _ v
    (zip2_of_maps _ _ _ v (zip2_splat _ v 16 32 long) (zip2_splat _ v 16 9 long))
    (zip2_of_maps _ _ _ v (zip2_splat _ v 16 10 long) (zip2_splat _ v 16 13 long)))
