use Rattle.twp_land.proofs.whole_sections.all_places.Goals as goal

pub returns : goal.returns
returns c = rw (c.empty-plot.ensures, c.whole.ensures) at c.add.ensures
