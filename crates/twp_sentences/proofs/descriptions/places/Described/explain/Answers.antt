use Rattle.twp_sentences.proofs.descriptions.places.Described.explain.Goals as goal

-- it is land that is named again
pub returns-in-Overlap-clause-span : goal.returns-in-Overlap-clause-span
returns-in-Overlap-clause-span g c = rw c.in-Overlap.is c.explain_overlap.ensures.span

pub returns-in-Overlap-clause-other : goal.returns-in-Overlap-clause-other
returns-in-Overlap-clause-other g c = rw c.in-Overlap.is c.explain_overlap.ensures.other

-- it is land that the plat doesn't have
pub returns-in-NoLand-clause-span : goal.returns-in-NoLand-clause-span
returns-in-NoLand-clause-span g c = rw c.in-NoLand.is c.explain_no_land.ensures.span

pub returns-in-NoLand-clause-other : goal.returns-in-NoLand-clause-other
returns-in-NoLand-clause-other g c = rw c.in-NoLand.is c.explain_no_land.ensures.other
