-- One more sign is written, and at the end none is left.
use Rattle.std.proofs.Common.{arith, length-drop}
use Rattle.twp_excerpt.specs.Shown.{is_shown}
use Rattle.twp_excerpt.specs.Signs.{written}
use Rattle.twp_excerpt.proofs.LookFacts.{drawn_written}
use Rattle.twp_excerpt.proofs.SameFacts.{shown_same}
use Rattle.twp_excerpt.proofs.ShownFacts.{adds_trans}
use Rattle.twp_excerpt.proofs.SoFar.{sign_added, sign_failed, signs_done}
use Rattle.twp_excerpt.proofs.escaped.write_escaped.Goals as goal

pub loop-at-preserved : goal.loop-at-preserved
loop-at-preserved c =
    let sign = c.first-sign in
    record {
      within = omega (arith, sign.ensures.within, length-drop c.loop-at.at c.args.bytes.now);
      safe = adds_trans is_shown _ _ _ c.loop-at.invariant.safe c.write.ensures.safe;
      added =
          sign_added written c.args.bytes.now c.loop-at.at sign.result.size c.loop-at-test.true
          sign.ensures.first.size_is _ _ _ _ (drawn_written _ _ sign.ensures.first)
          c.loop-at.invariant.added c.in_ok-write.ensures.added.whole;
    }

pub returns-in_err-write-clause-escaped : goal.returns-in_err-write-clause-escaped
returns-in_err-write-clause-escaped c =
    let sign = c.first-sign in
    sign_failed written c.args.bytes.now c.loop-at.at sign.result.size c.loop-at-test.true
    sign.ensures.first.size_is _ _ _ _ c.from_residual.result c.from_residual.ensures.0
    (drawn_written _ _ sign.ensures.first)
    c.loop-at.invariant.added c.write.ensures.added.front

pub returns-clause-escaped : goal.returns-clause-escaped
returns-clause-escaped c =
    signs_done written c.args.bytes.now _ _ c.loop-at.at tt c.loop-at-test.false c.loop-at.invariant.added

pub returns-clause-same : goal.returns-clause-same
returns-clause-same c = λ shown. shown_same c.args.bytes.now _ _ shown (returns-clause-escaped c).whole

pub returns-in_err-write-clause-safe : goal.returns-in_err-write-clause-safe
returns-in_err-write-clause-safe c = adds_trans is_shown _ _ _ c.loop-at.invariant.safe c.write.ensures.safe
