-- A row that contains some of the places, or no such row.
use Rattle.std.proofs.Common.{◌<◌, refl, arith, below_more}
use Rattle.twp_land.proofs.RowFacts.{meets_found, meets_nowhere}
use Rattle.twp_land.proofs.rows.RowsPlot.meets.Goals as goal

pub returns-then-some_held : goal.returns-then-some_held
returns-then-some_held c =
    let of = c.of-window.ensures in
    let below : c.loop-up.up < c.args.block.rows.len = omega (arith, of.height) in
    let found = c.some_held.ensures.0 c.if-some_held.true in (
      λ _.
          meets_found c.args.self.now.rows c.args.block c.loop-up.up of.rows of.columns below
          (rw (of.row, of.column, of.width) at found),
      λ _. refl,
    )

pub loop-up-preserved : goal.loop-up-preserved
loop-up-preserved c =
    below_more _ _ c.loop-up.invariant (λ some. absurd (cc (c.some_held.ensures.1 some)))

pub returns : goal.returns
returns c =
    let of = c.of-window.ensures in (
      λ h. cc h,
      λ meets. absurd (meets_nowhere c.args.self.now.rows c.args.block of.rows of.columns (λ k lt.
          rw (of.row, of.column, of.width) at (c.loop-up.invariant k (omega (arith, of.height)))) meets),
    )
