-- The record is a tract's with a new name, and its description names land.
use Rattle.std.proofs.Common.{refl}
use Rattle.twp_answers.proofs.TractFacts.{is_anew}
use Rattle.twp_answers.proofs.earlier_tracts.EarlierTracts.read.Goals as goal

pub returns-in-Ok-clause-read : goal.returns-in-Ok-clause-read
returns-in-Ok-clause-read g c =
    let tract = c.in-Some.ensures in
    record {
      is_record = tract.0;
      is_new = is_anew _ (rw (c.if-not-branch.false, tract.1) at c.in_ok-add.ensures.is_new);
      names_are = rw tract.1 at c.in_ok-add.ensures.names;
      places_are = refl;
      land = rw tract.2 at c.in-Ok.ensures.land;
      whole = c.in-Ok.ensures.whole_lots;
    }
