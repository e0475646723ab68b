use Rattle.std.proofs.Common.{◌∙◌, ap}
use Rattle.twp_land.proofs.sections.SectionsPlaceSet.is_untouched.Goals as goal

pub returns : goal.returns
returns g c untouched met =
    let none = c.plot.ensures ∙ c.is_untouched.ensures untouched in
    cc (ap (λ held. held met.column met.row) none, met.is_held)
