use Rattle.std.proofs.Common.{refl, bit_or}
use Rattle.twp_read.proofs.StandingSteps.{small_by_bit}
use Rattle.twp_read.proofs.usual.chain.half.Goals as goal

pub returns : goal.returns
returns c = (
  record {
    small = bit_or c.args.first 32;
    letter =
        small_by_bit c.args.first (bit_or c.args.first 32) c.ranges.first.fits refl c.in-Some.ensures.letter;
    letters = c.in-Some.ensures.kind;
    fraction = refl;
  },
  refl,
)
