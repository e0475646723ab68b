use Rattle.twp_land.proofs.land_rows.Sections+LaneRows.from_rows.Goals as goal

pub returns-then-not-lots_whole : goal.returns-then-not-lots_whole
returns-then-not-lots_whole c whole = cc (c.lots_whole.ensures.1 whole, c.if-not-lots_whole.true)

pub returns : goal.returns
returns c = (c.lots_whole.ensures.0 c.if-not-lots_whole.false, c.of_rows.ensures)
