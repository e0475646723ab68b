use Rattle.std.proofs.Common.{◌≡◌, ◌*◌, ◌^◌, ◌%◌, arith}
use Rattle.twp_land.specs.steps.BitLanes.{LANE_BITS}
use Rattle.twp_land.proofs.BitFacts.{ones_beside}
use Rattle.twp_land.proofs.row.count_pair.Goals as goal

pub returns-clause-count : goal.returns-clause-count
returns-clause-count c =
    let shifted : c.from-2.result * 4294967296 % 18446744073709551616 ≡ c.args.high * 2 ^ LANE_BITS =
    omega (arith, c.from-2.ensures, c.ranges.high.fits) in
    rw (c.from.ensures, shifted)
    (ones_beside LANE_BITS c.args.low c.args.high (omega (arith, c.ranges.low.fits)))
