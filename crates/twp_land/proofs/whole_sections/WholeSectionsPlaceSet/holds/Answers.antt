use Rattle.std.proofs.Common.{◌∙◌, ap, sym}
use Rattle.twp_land.specs.Storage.{all_if}
use Rattle.twp_land.proofs.whole_sections.WholeSectionsPlaceSet.holds.Goals as goal

pub returns-then-has : goal.returns-then-has
returns-then-has c =
    c.holds.ensures
    ∙ ap (λ held. held c.args.column c.args.row)
    (c.all_places.ensures ∙ sym (c.has.ensures ∙ ap (λ is. all_if is) c.if-has.true))

pub returns-else-has : goal.returns-else-has
returns-else-has c =
    c.if-has.false
    ∙ sym (ap (λ held. held c.args.column c.args.row) (c.has.ensures ∙ ap (λ is. all_if is) c.if-has.false))
