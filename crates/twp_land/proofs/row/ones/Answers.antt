use Rattle.twp_land.proofs.BitFacts.{shifted_ones, ones_fit_a_lane}
use Rattle.twp_land.proofs.row.ones.Goals as goal

pub overflow_cast-result-3 : goal.overflow_cast-result-3
overflow_cast-result-3 c = record { fits = ones_fit_a_lane c.args.start c.args.len c.requires }

pub returns : goal.returns
returns c = shifted_ones c.args.start c.args.len c.requires
