-- Both lands have whole lots, and so do the places in both.
use Rattle.twp_answers.proofs.OverlapFacts.{whole_in_both}
use Rattle.twp_answers.proofs.overlaps.common_acres.Goals as goal

pub acres_of-requires : goal.acres_of-requires
acres_of-requires g c =
    rw (c.keep_common.ensures, c.add_land.ensures, c.empty-shared.ensures)
    (whole_in_both (g.M.Measuring.measure c.args.by.now).lots (g.L.PlaceSet.places c.args.one.now)
    (g.L.PlaceSet.places c.args.other.now)
    c.requires.one c.requires.other)
