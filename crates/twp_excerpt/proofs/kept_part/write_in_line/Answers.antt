-- One more sign is written, and at the end none is left.
use Rattle.std.proofs.Common.{arith, length-drop}
use Rattle.twp_excerpt.specs.Shown.{is_shown}
use Rattle.twp_excerpt.specs.Signs.{in_line}
use Rattle.twp_excerpt.proofs.ShownFacts.{adds_trans}
use Rattle.twp_excerpt.proofs.SoFar.{sign_added, sign_failed, signs_done}
use Rattle.twp_excerpt.proofs.kept_part.write_in_line.Goals as goal

pub loop-at-preserved : goal.loop-at-preserved
loop-at-preserved c =
    let sign = c.in_line-sign in
    let drawn = sign.ensures.drawn _ c.first.ensures.first in
    record {
      within =
          omega (arith, c.first.ensures.within, sign.ensures.size, length-drop c.loop-at.at c.args.bytes.now);
      safe = adds_trans is_shown _ _ _ c.loop-at.invariant.safe c.write.ensures.safe;
      added =
          sign_added in_line c.args.bytes.now c.loop-at.at sign.result.size c.loop-at-test.true
          drawn.size_is _ _ _ _ drawn.text_is c.loop-at.invariant.added c.in_ok-write.ensures.added.whole;
    }

pub returns-in_err-write-clause-added : goal.returns-in_err-write-clause-added
returns-in_err-write-clause-added c =
    let sign = c.in_line-sign in
    let drawn = sign.ensures.drawn _ c.first.ensures.first in
    sign_failed in_line c.args.bytes.now c.loop-at.at sign.result.size c.loop-at-test.true
    drawn.size_is _ _ _ _ c.from_residual.result c.from_residual.ensures.0 drawn.text_is
    c.loop-at.invariant.added c.write.ensures.added.front

pub returns-in_err-write-clause-safe : goal.returns-in_err-write-clause-safe
returns-in_err-write-clause-safe c = adds_trans is_shown _ _ _ c.loop-at.invariant.safe c.write.ensures.safe

pub returns-clause-added : goal.returns-clause-added
returns-clause-added c =
    signs_done in_line c.args.bytes.now _ _ c.loop-at.at tt c.loop-at-test.false c.loop-at.invariant.added
