-- The data is land as it stands, or its lots are not valid.
use Rattle.twp_calls.proofs.LandCallFacts.{given_land, valid_lots}
use Rattle.twp_calls.proofs.land.TownshipLand.valid_township.Goals as goal

pub returns-then-not-are_lots_valid : goal.returns-then-not-are_lots_valid
returns-then-not-are_lots_valid c = λ township places is.
    cc (
      c.are_lots_valid.ensures.1 (valid_lots c.args.self.now township places is),
      c.if-not-are_lots_valid.true,
    )

pub returns : goal.returns
returns c =
    given_land c.args.self.now c.in_ok-township.township c.in_ok-township.ensures
    (c.are_lots_valid.ensures.0 c.if-not-are_lots_valid.false)
