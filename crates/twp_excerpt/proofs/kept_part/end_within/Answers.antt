-- One more sign fits; at the end none is left, or the one before does not fit.
use Rattle.std.proofs.Common.{arith, ap, sym, subst, ◌∙◌}
use Rattle.std.proofs.lemmas.List.{take_rest}
use Rattle.twp_excerpt.specs.Excerpts.{line_width}
use Rattle.twp_excerpt.specs.Signs.{signs, width}
use Rattle.twp_excerpt.proofs.EndFacts.{end_begins, end_grows, end_whole_found, end_cut_found}
use Rattle.twp_excerpt.proofs.ExcerptFacts.{PastSign, past_sign}
use Rattle.twp_excerpt.proofs.kept_part.end_within.Goals as goal
use Rattle.twp_excerpt.proofs.kept_part.end_within.Goals.{else-loop-at-test, then-loop-at-test+then-more-room}

pub loop-at-init : goal.loop-at-init
loop-at-init c =
    record { within = omega arith; fits = omega arith; so_far = end_begins c.args.bytes.now c.args.room }

pub loop-at-preserved : goal.loop-at-preserved
loop-at-preserved c =
    let end = c.last.ensures.last in
    let sign = c.in_line-sign in
    let drawn = sign.ensures.drawn end.sign end.is in
    let past : PastSign c.args.bytes.now c.loop-at.at sign.result.size end.sign =
    subst (λ n. PastSign c.args.bytes.now c.loop-at.at n end.sign) (sym sign.ensures.size)
    (past_sign c.args.bytes.now c.loop-at.at c.last.result.size end.sign c.loop-at.invariant.within
    c.loop-at.invariant.so_far.between end.last) in
    record {
      within = omega (arith, c.loop-at.invariant.within);
      fits = omega (arith, c.if-more-room.false);
      so_far =
          end_grows c.args.bytes.now c.args.room c.loop-at.at c.loop-at.columns sign.result.size
          c.columns.result
          end.sign past (c.columns.ensures.width ∙ ap width drawn.text_is)
          (omega (arith, c.if-more-room.false)) c.loop-at.invariant.so_far;
    }

pub returns-clause-kept : goal.returns-clause-kept
returns-clause-kept c = elim c.loop-at-test.branch [
  | else-loop-at-test w ↦
      (end_whole_found c.args.bytes.now c.args.room c.loop-at.at c.loop-at.columns
      (omega (arith, w.loop-at-test.false)) c.loop-at.invariant.fits c.loop-at.invariant.so_far).kept
  | then-loop-at-test+then-more-room w ↦
      let end = w.last.ensures.last in
      let drawn = w.in_line-sign.ensures.drawn end.sign end.is in
      (end_cut_found c.args.bytes.now c.args.room c.loop-at.at c.loop-at.columns w.last.result.size
      w.columns.result
      end.sign (omega (arith, w.loop-at-test.true))
      (past_sign c.args.bytes.now c.loop-at.at w.last.result.size end.sign c.loop-at.invariant.within
      c.loop-at.invariant.so_far.between end.last)
      (w.columns.ensures.width ∙ ap width drawn.text_is) c.loop-at.invariant.fits w.if-more-room.true
      c.loop-at.invariant.so_far).kept
]

pub returns-clause-cut : goal.returns-clause-cut
returns-clause-cut c = elim c.loop-at-test.branch [
  | else-loop-at-test w ↦
      (end_whole_found c.args.bytes.now c.args.room c.loop-at.at c.loop-at.columns
      (omega (arith, w.loop-at-test.false)) c.loop-at.invariant.fits c.loop-at.invariant.so_far).cut
  | then-loop-at-test+then-more-room w ↦
      let end = w.last.ensures.last in
      let drawn = w.in_line-sign.ensures.drawn end.sign end.is in
      (end_cut_found c.args.bytes.now c.args.room c.loop-at.at c.loop-at.columns w.last.result.size
      w.columns.result
      end.sign (omega (arith, w.loop-at-test.true))
      (past_sign c.args.bytes.now c.loop-at.at w.last.result.size end.sign c.loop-at.invariant.within
      c.loop-at.invariant.so_far.between end.last)
      (w.columns.ensures.width ∙ ap width drawn.text_is) c.loop-at.invariant.fits w.if-more-room.true
      c.loop-at.invariant.so_far).cut
]

pub returns-clause-columns : goal.returns-clause-columns
returns-clause-columns c =
    c.loop-at.invariant.so_far.columns_is
    ∙ ap (λ l. line_width (signs l)) (sym (take_rest c.args.bytes.now c.loop-at.at))
