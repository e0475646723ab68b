use Rattle.std.proofs.Common.{◌≡◌, arith}
use Rattle.twp_land.proofs.RowFacts.{held_after_filling}
use Rattle.twp_land.proofs.rows.RowsPlot.add.Goals as goal

pub returns : goal.returns
returns c =
    let of = c.of-window.ensures in
    let last : c.loop-up.up ≡ c.of-window.result.height = omega arith in
    held_after_filling c.args.self.now.rows c.args.block c.loop-up.self.rows of.rows of.columns
    (rw (last, of.row, of.height, of.column, of.width) at c.loop-up.invariant)
