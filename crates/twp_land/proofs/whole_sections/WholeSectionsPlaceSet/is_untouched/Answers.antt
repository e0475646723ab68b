use Rattle.std.proofs.Common.{◌∙◌, ap}
use Rattle.twp_land.specs.Storage.{all_if}
use Rattle.twp_land.proofs.whole_sections.WholeSectionsPlaceSet.is_untouched.Goals as goal

pub returns : goal.returns
returns c = λ _ met.
    let none = c.has.ensures ∙ ap (λ is. all_if is) c.if-has.false in
    cc (ap (λ held. held met.column met.row) none, met.is_held)
