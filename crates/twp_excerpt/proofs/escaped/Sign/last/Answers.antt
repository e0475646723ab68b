-- The last sign is a character, or a single byte.
use Rattle.std.proofs.Common.{refl}
use Rattle.twp_excerpt.proofs.LookFacts.{drawn_last_char, drawn_last_stray}
use Rattle.twp_excerpt.proofs.escaped.Sign.last.Goals as goal

pub returns-in-Some-default-clause-last : goal.returns-in-Some-default-clause-last
returns-in-Some-default-clause-last c =
    drawn_last_char c.args.bytes.now _ c.in-Some-default.character c.of.result
    (c.decode_last.ensures.last c.requires)
    c.in-Some-default.is-0 c.of.ensures.look

pub returns-in-None-default-clause-last : goal.returns-in-None-default-clause-last
returns-in-None-default-clause-last c =
    drawn_last_stray c.args.bytes.now _ _ c.requires (c.decode_last.ensures.last c.requires)
    c.in-None-default.is-0 refl
