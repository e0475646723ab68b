use Rattle.std.proofs.Common.{◌∙◌, arith}
use Rattle.twp_grammar.proofs.WhiteFacts.{all_spaces, spaces_ahead}
use Rattle.twp_grammar.proofs.word.after_spaces.Goals as goal

pub returns-then-others-ne0-clause-white : goal.returns-then-others-ne0-clause-white
returns-then-others-ne0-clause-white c =
    spaces_ahead c.args.text.now c.loop-at.at 64 _ (omega arith) (omega arith)
    c.lanes_of_others-others.ensures (omega arith) ∙ c.loop-at.invariant.1

pub loop-at-preserved : goal.loop-at-preserved
loop-at-preserved c =
    let run =
    all_spaces c.args.text.now c.loop-at.at 64 _ (omega arith) c.lanes_of_others-others.ensures
    (omega arith) in
    (omega arith, run ∙ c.loop-at.invariant.1)
