use Rattle.twp_land.proofs.lotting.StandardLotsLotting.lacks_land.Goals as goal

pub returns : goal.returns
returns c = (λ is. cc is, λ lacks. cc lacks.none)
