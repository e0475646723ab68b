use Rattle.std.proofs.Common.{refl, bit_or}
use Rattle.twp_read.proofs.StandingSteps.{small_by_bit}
use Rattle.twp_read.proofs.usual.chain.quarter.Goals as goal

pub returns : goal.returns
returns c = (
  record {
    small = bit_or c.args.first 32;
    letter =
        small_by_bit c.args.first (bit_or c.args.first 32) c.ranges.first.fits refl c.in-Some.ensures.letter;
    after = bit_or c.args.second 32;
    letter_after =
        small_by_bit c.args.second (bit_or c.args.second 32) c.ranges.second.fits refl
        c.in-Some.ensures.letter_after;
    letters = c.in-Some.ensures.kind;
    fraction = refl;
  },
  refl,
)
