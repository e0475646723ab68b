-- The figures that the plat shows were written.
use Rattle.twp_calls.specs.Calls.{on_plat}
use Rattle.twp_calls.proofs.FigureFacts.{shows}
use Rattle.twp_calls.proofs.figures.township_figures.Goals as goal

pub returns-clause-answer : goal.returns-clause-answer
returns-clause-answer c =
    on_plat c.in-Some.plat c.in-Some.ensures
    (record {
      shows =
          shows c.in-Some.plat _ c.township_area-township.result c.in-Some.ensures.is c.lots_of.ensures
          c.sections_of.ensures c.township_area-township.ensures.sum c.hundredths.ensures;
      answer_is = c.bare-2.ensures;
    })
