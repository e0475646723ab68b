-- Nothing is taken, and the whole township remains.
use Rattle.std.proofs.Common.{ap, ◌∙◌}
use Rattle.twp_measure.specs.Areas.{Fraction}
use Rattle.twp_answers.proofs.TractAreas.{totals_none}
use Rattle.twp_plat.proofs.WholeAreas.{township_area_is_of_land}
use Rattle.twp_answers.proofs.totals.Totals.new.Goals as goal

pub returns : goal.returns
returns c =
    totals_none c.args.plat.now _ (ap (λ (f : Fraction). f.units) c.zero.ensures)
    (ap (λ (f : Fraction). f.over) c.zero.ensures ∙ c.over.ensures.value)
    (township_area_is_of_land c.args.plat.now c.township_area.result c.township_area.ensures.sum)
