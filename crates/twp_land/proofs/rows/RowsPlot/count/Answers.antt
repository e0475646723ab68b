-- The sum of the rows' counts.
use Rattle.std.proofs.Common.{◌≡◌, sym, ◌∙◌, arith}
use Rattle.twp_land.proofs.RowFacts.{count_in_rows-zero, count_in_rows-next, count_of_rows}
use Rattle.twp_land.proofs.rows.RowsPlot.count.Goals as goal

pub loop-up-init : goal.loop-up-init
loop-up-init c = (sym (count_in_rows-zero _ _ _ _), omega arith)

pub loop-up-preserved : goal.loop-up-preserved
loop-up-preserved c =
    let window = c.of-window.result in
    let next = count_in_rows-next c.args.self.now.rows window.row c.loop-up.up window.column window.width in
    let even = c.of-window.ensures.columns in (
      omega (arith, c.count_held-count.ensures.count),
      omega (arith, c.count_held-count.ensures.most, even.within, c.of-window.ensures.width),
    )

pub returns : goal.returns
returns c =
    let of = c.of-window.ensures in
    let last : c.loop-up.up ≡ c.of-window.result.height = omega arith in
    c.loop-up.invariant.0
    ∙ rw (last, of.row, of.height, of.column, of.width)
    (count_of_rows c.args.self.now.rows c.args.block of.rows of.columns)
