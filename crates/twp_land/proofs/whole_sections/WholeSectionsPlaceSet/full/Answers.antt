use Rattle.std.proofs.Common.{◌≡◌, ◌↔◌, true, false, IsTrue, ◌∙◌, ap, sym, subst}
use Rattle.twp_grid.specs.Lands.{HoldsAll}
use Rattle.twp_land.specs.Storage.{all_if}
use Rattle.twp_land.proofs.whole_sections.WholeSectionsPlaceSet.full.Goals as goal

pub returns-then-not-has : goal.returns-then-not-has
returns-then-not-has c =
    let out : c.has.result ≡ false = cc (c.if-not-has.true) in
    subst (λ held. IsTrue c.full.result ↔ HoldsAll held c.args.block)
    (c.empty.ensures ∙ sym (c.has.ensures ∙ ap (λ is. all_if is) out)) c.full.ensures

pub returns : goal.returns
returns c =
    let is_in : c.has.result ≡ true = cc (c.if-not-has.false) in
    subst (λ held. IsTrue c.full-2.result ↔ HoldsAll held c.args.block)
    (c.all_places.ensures ∙ sym (c.has.ensures ∙ ap (λ is. all_if is) is_in)) c.full-2.ensures
