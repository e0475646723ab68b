use Rattle.std.proofs.Common.{arith, sym}
use Rattle.twp_grammar.proofs.WhiteFacts.{one_more_white}
use Rattle.twp_grammar.proofs.word.after_last_white.Goals as goal

pub loop-at-preserved : goal.loop-at-preserved
loop-at-preserved c =
    let more = one_more_white c.args.text.now c.loop-at.at (sym c.loop-at-test.ensures.value) in
    (omega (arith, c.is_white_at.ensures.within), omega (arith, more, c.loop-at.invariant.1))
