-- A character takes at least one byte, and no more than there are.
use Rattle.std.proofs.Common.{arith, sym, ◌∙◌}
use Rattle.bstr.proofs.lemmas.PieceLemmas.{piece-bounds}
use Rattle.twp_excerpt.proofs.LookFacts.{drawn_char}
use Rattle.twp_excerpt.proofs.escaped.Sign.first.Goals as goal

pub returns-in-Some-default-clause-some : goal.returns-in-Some-default-clause-some
returns-in-Some-default-clause-some c =
    omega (arith, c.decode.ensures.size, (piece-bounds c.args.bytes.now c.requires).0)

pub returns-in-Some-default-clause-within : goal.returns-in-Some-default-clause-within
returns-in-Some-default-clause-within c =
    omega (arith, c.decode.ensures.size, (piece-bounds c.args.bytes.now c.requires).2)

pub returns-in-Some-default-clause-first : goal.returns-in-Some-default-clause-first
returns-in-Some-default-clause-first c =
    drawn_char c.args.bytes.now c.in-Some-default.character c.decode.result.1 c.of.result
    (sym c.decode.ensures.char ∙ c.in-Some-default.is-0)
    c.of.ensures.look
    c.decode.ensures.size
