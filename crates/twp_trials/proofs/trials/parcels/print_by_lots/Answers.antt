-- The land of a description contains each lot wholly or not at all.
use Rattle.twp_trials.proofs.trials.parcels.print_by_lots.Goals as goal

pub area_by_lots-requires : goal.area_by_lots-requires
area_by_lots-requires c = record { whole = c.in-Ok.ensures.whole }
