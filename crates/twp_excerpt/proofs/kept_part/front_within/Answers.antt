-- One more sign fits; at the end none is left, or the next one does not fit.
use Rattle.std.proofs.Common.{arith, ap, ◌∙◌, length-drop}
use Rattle.twp_excerpt.specs.Signs.{width}
use Rattle.twp_excerpt.proofs.FitFacts.{front_begins, front_grows}
use Rattle.twp_excerpt.proofs.FitFacts.{front_whole_found, front_cut_found}
use Rattle.twp_excerpt.proofs.kept_part.front_within.Goals as goal
use Rattle.twp_excerpt.proofs.kept_part.front_within.Goals.{else-loop-at-test}
use Rattle.twp_excerpt.proofs.kept_part.front_within.Goals.{then-loop-at-test+then-more-room}

pub loop-at-init : goal.loop-at-init
loop-at-init c =
    record { within = omega arith; fits = omega arith; so_far = front_begins c.args.bytes.now c.args.room }

pub loop-at-preserved : goal.loop-at-preserved
loop-at-preserved c =
    let sign = c.in_line-sign in
    let drawn = sign.ensures.drawn _ c.first.ensures.first in
    record {
      within =
          omega (arith, c.first.ensures.within, sign.ensures.size, length-drop c.loop-at.at c.args.bytes.now);
      fits = omega (arith, c.if-more-room.false);
      so_far =
          front_grows c.args.bytes.now c.args.room c.loop-at.at c.loop-at.columns sign.result.size
          c.columns.result
          c.loop-at-test.true drawn.size_is (c.columns.ensures.width ∙ ap width drawn.text_is)
          (omega (arith, c.if-more-room.false)) c.loop-at.invariant.so_far;
    }

pub returns-clause-kept : goal.returns-clause-kept
returns-clause-kept c = elim c.loop-at-test.branch [
  | else-loop-at-test w ↦
      (front_whole_found c.args.bytes.now c.args.room c.loop-at.at c.loop-at.columns w.loop-at-test.false
      c.loop-at.invariant.fits c.loop-at.invariant.so_far).kept
  | then-loop-at-test+then-more-room w ↦
      let drawn = w.in_line-sign.ensures.drawn _ w.first.ensures.first in
      (front_cut_found c.args.bytes.now c.args.room c.loop-at.at c.loop-at.columns w.columns.result
      w.loop-at-test.true (w.columns.ensures.width ∙ ap width drawn.text_is) c.loop-at.invariant.fits
      w.if-more-room.true c.loop-at.invariant.so_far).kept
]

pub returns-clause-cut : goal.returns-clause-cut
returns-clause-cut c = elim c.loop-at-test.branch [
  | else-loop-at-test w ↦
      (front_whole_found c.args.bytes.now c.args.room c.loop-at.at c.loop-at.columns w.loop-at-test.false
      c.loop-at.invariant.fits c.loop-at.invariant.so_far).cut
  | then-loop-at-test+then-more-room w ↦
      let drawn = w.in_line-sign.ensures.drawn _ w.first.ensures.first in
      (front_cut_found c.args.bytes.now c.args.room c.loop-at.at c.loop-at.columns w.columns.result
      w.loop-at-test.true (w.columns.ensures.width ∙ ap width drawn.text_is) c.loop-at.invariant.fits
      w.if-more-room.true c.loop-at.invariant.so_far).cut
]

pub returns-clause-columns : goal.returns-clause-columns
returns-clause-columns c = c.loop-at.invariant.so_far.columns_is
