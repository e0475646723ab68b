use Rattle.std.proofs.Common.{◌∙◌, ap}
use Rattle.twp_land.specs.Storage.{all_if}
use Rattle.twp_land.proofs.whole_sections.WholeSectionsPlaceSet.meets.Goals as goal

pub returns-else-has : goal.returns-else-has
returns-else-has c =
    let none = c.has.ensures ∙ ap (λ is. all_if is) c.if-has.false in (
      λ is. cc (is, c.if-has.false),
      λ met. cc (ap (λ held. held met.column met.row) none, met.is_held),
    )
