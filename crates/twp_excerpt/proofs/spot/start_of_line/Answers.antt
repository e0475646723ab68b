-- The line begins after the last line feed before the place, or where the text begins.
use Rattle.twp_excerpt.proofs.SpotFacts.{start_found, start_missing}
use Rattle.twp_excerpt.proofs.spot.start_of_line.Goals as goal

pub returns-in-Some-clause-value : goal.returns-in-Some-clause-value
returns-in-Some-clause-value c =
    start_found c.args.text.now c.args.at c.in-Some.feed c.requires c.in-Some.ensures

pub returns-in-None-clause-value : goal.returns-in-None-clause-value
returns-in-None-clause-value c = start_missing c.args.text.now c.args.at c.requires c.in-None.ensures
