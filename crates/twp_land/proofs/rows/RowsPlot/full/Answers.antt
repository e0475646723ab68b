-- Rows that each contain all the places.
use Rattle.std.proofs.Common.{refl, arith}
use Rattle.twp_land.proofs.RowFacts.{full_of_rows}
use Rattle.twp_land.proofs.rows.RowsPlot.full.Goals as goal

pub returns : goal.returns
returns c =
    let of = c.of-window.ensures in (
      λ _. full_of_rows c.args.self.now.rows c.args.block of.rows of.columns (λ k lt.
          rw (of.row, of.column, of.width) at (c.loop-up.invariant k (omega (arith, of.height)))),
      λ _. refl,
    )
