-- A character takes at least one byte, and no more than there are.
use Rattle.std.proofs.Common.{arith}
use Rattle.bstr.proofs.lemmas.PieceLemmas.{piece-bounds}
use Rattle.twp_excerpt.proofs.spot.first_size.Goals as goal

pub returns-in-Some-default-clause-some : goal.returns-in-Some-default-clause-some
returns-in-Some-default-clause-some c =
    omega (arith, c.decode.ensures.size, (piece-bounds c.args.bytes.now c.requires).0)

pub returns-in-Some-default-clause-within : goal.returns-in-Some-default-clause-within
returns-in-Some-default-clause-within c =
    omega (arith, c.decode.ensures.size, (piece-bounds c.args.bytes.now c.requires).2)
