use Rattle.std.proofs.Common.{◌<◌, arith}
use Rattle.twp_grid.specs.Places.{PLACE_DIGITS}
use Rattle.twp_grid.proofs.SpanFacts.{upper_is_dyadic}
use Rattle.twp_grid.proofs.block.Interval.upper.Goals as goal

pub invariant_of-result : goal.invariant_of-result
invariant_of-result c =
    let even = c.self.invariant in
    let more : 1 < c.self.inside.len = omega (arith, even.some) in
    upper_is_dyadic PLACE_DIGITS (record { start = c.self.inside.start; len = c.self.inside.len }) even more
