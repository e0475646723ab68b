use Rattle.std.proofs.Common.{◌≡◌, arith}
use Rattle.twp_land.proofs.RemovalFacts.{held_after_clearing}
use Rattle.twp_land.proofs.rows.RowsPlot.remove.Goals as goal

pub returns : goal.returns
returns c =
    let of = c.of-window.ensures in
    let last : c.loop-up.up ≡ c.of-window.result.height = omega arith in
    held_after_clearing c.args.self.now.rows c.args.block c.loop-up.self.rows
    (rw (last, of.row, of.height, of.column, of.width) at c.loop-up.invariant)
