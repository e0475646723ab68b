-- Rows of bits are land only if they contain each lot wholly or not at all.
use Rattle.std.proofs.Common.{subst, sym}
use Rattle.twp_grid.specs.Places.{PLACE_DIGITS}
use Rattle.twp_grid.specs.Lands.{HasWholeLots}
use Rattle.twp_grid.specs.Lands.{STANDARD_LOTS}
use Rattle.twp_trials.proofs.trials.parcels.print_parcel.Goals as goal

pub acres_of-requires : goal.acres_of-requires
acres_of-requires c = record {
  whole = subst (HasWholeLots STANDARD_LOTS) (sym c.in-Some.ensures.1) c.in-Some.ensures.0;
}

pub acres_of-requires-2 : goal.acres_of-requires-2
acres_of-requires-2 c = record {
  whole = subst (HasWholeLots STANDARD_LOTS) (sym c.in-Some.ensures.1) c.in-Some.ensures.0;
}
