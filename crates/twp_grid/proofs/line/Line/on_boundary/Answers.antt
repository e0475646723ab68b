-- A line with a section on one side only is on the boundary.
use Rattle.std.proofs.Common.{◌≤◌, ◌<◌, arith, rules}
use Rattle.twp_grid.proofs.LineFacts.{OnBoundary, on_boundary}
use Rattle.twp_grid.proofs.line.Line.on_boundary.Goals as goal

pub returns-in-0 : goal.returns-in-0
returns-in-0 c = (
  search rules,
  λ index is.
      let run : index < 42 = rw c.in-North.is at is.0 in
      let on : OnBoundary _ _ index = on_boundary _ _ _ index c.standing-row.ensures is.1 in
      grind arith,
)

pub returns-in-5 : goal.returns-in-5
returns-in-5 c = (
  search rules,
  λ index is.
      let run : index < 42 = rw c.in-North.is at is.0 in
      let on : OnBoundary _ _ index = on_boundary _ _ _ index c.standing-row.ensures is.1 in
      grind arith,
)

pub returns-in_default : goal.returns-in_default
returns-in_default c index is =
    let run : index < 42 = rw c.in-North.is at is.0 in
    let on : OnBoundary _ _ index = on_boundary _ _ _ index c.standing-row.ensures is.1 in
    grind arith

pub returns-in-0-row : goal.returns-in-0-row
returns-in-0-row c = (
  search rules,
  λ index is.
      let run : 42 ≤ index = rw c.in-West.is at is.0 in
      let on : OnBoundary _ _ index = on_boundary _ _ _ index c.standing-row.ensures is.1 in
      grind arith,
)

pub returns-in-5-row : goal.returns-in-5-row
returns-in-5-row c = (
  search rules,
  λ index is.
      let run : 42 ≤ index = rw c.in-West.is at is.0 in
      let on : OnBoundary _ _ index = on_boundary _ _ _ index c.standing-row.ensures is.1 in
      grind arith,
)

pub returns-in_default-row : goal.returns-in_default-row
returns-in_default-row c index is =
    let run : 42 ≤ index = rw c.in-West.is at is.0 in
    let on : OnBoundary _ _ index = on_boundary _ _ _ index c.standing-row.ensures is.1 in
    grind arith
