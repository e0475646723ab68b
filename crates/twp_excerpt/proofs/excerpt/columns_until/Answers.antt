-- One more sign begins before the place; at the end none does.
use Rattle.std.proofs.Common.{arith, ap, ◌∙◌, length-drop}
use Rattle.twp_excerpt.specs.Signs.{width}
use Rattle.twp_excerpt.proofs.BegunFacts.{begun_begins, begun_grows, begun_at_end, begun_at_place}
use Rattle.twp_excerpt.proofs.excerpt.columns_until.Goals as goal

pub loop-at-init : goal.loop-at-init
loop-at-init c =
    record { within = omega arith; few = omega arith; so_far = begun_begins c.args.bytes.now c.args.place }

pub loop-at-preserved : goal.loop-at-preserved
loop-at-preserved c =
    let sign = c.in_line-sign in
    let drawn = sign.ensures.drawn _ c.first.ensures.first in
    record {
      within =
          omega (arith, c.first.ensures.within, sign.ensures.size, length-drop c.loop-at.at c.args.bytes.now);
      few = omega (arith, c.if-columns-lt-COLUMNS.true, c.columns-columns.ensures.few);
      so_far =
          begun_grows c.args.bytes.now c.args.place c.loop-at.at c.loop-at.columns sign.result.size
          c.columns-columns.result c.if-at-bytes.true c.loop-at-test.true drawn.size_is
          (c.columns-columns.ensures.width ∙ ap width drawn.text_is)
          c.loop-at.invariant.so_far;
    }

pub returns-else-at-bytes : goal.returns-else-at-bytes
returns-else-at-bytes c =
    begun_at_end c.args.bytes.now c.args.place c.loop-at.at c.loop-at.columns c.if-at-bytes.false
    c.loop-at.invariant.so_far

pub returns-after-loop-at : goal.returns-after-loop-at
returns-after-loop-at c =
    begun_at_place c.args.bytes.now c.args.place c.loop-at.at c.loop-at.columns c.loop-at-test.false
    c.loop-at.invariant.so_far
