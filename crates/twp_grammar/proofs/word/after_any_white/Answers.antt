use Rattle.std.proofs.Common.{sym, ap, ◌∙◌, arith}
use lib.Count.{count_trailing_zeros}
use Rattle.twp_grammar.proofs.WhiteFacts.{white_within, all_white_lanes, some_dark_lane}
use Rattle.twp_grammar.proofs.word.after_any_white.Goals as goal

pub returns-then-dark-ne0-clause-value : goal.returns-then-dark-ne0-clause-value
returns-then-dark-ne0-clause-value c =
    let dark = c.dark_lanes-dark in
    let run =
    some_dark_lane c.args.text.now c.loop-at.at 16 (omega arith) (omega arith) (omega (arith, dark.ensures))
    ∙ ap (count_trailing_zeros 64) (sym dark.ensures) in
    omega (arith, run, c.loop-at.invariant.1)

pub returns-then-dark-ne0-clause-range : goal.returns-then-dark-ne0-clause-range
returns-then-dark-ne0-clause-range c =
    let dark = c.dark_lanes-dark in
    let run =
    some_dark_lane c.args.text.now c.loop-at.at 16 (omega arith) (omega arith) (omega (arith, dark.ensures))
    ∙ ap (count_trailing_zeros 64) (sym dark.ensures) in
    omega (arith, run, white_within c.args.text.now c.loop-at.at c.loop-at.invariant.0)

pub loop-at-preserved : goal.loop-at-preserved
loop-at-preserved c =
    let run =
    all_white_lanes c.args.text.now c.loop-at.at 16 (omega arith)
    (omega (arith, c.dark_lanes-dark.ensures)) in
    (omega arith, omega (arith, run, c.loop-at.invariant.1))
