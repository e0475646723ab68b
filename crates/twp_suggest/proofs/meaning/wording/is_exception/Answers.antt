-- Each text names one set of places, or none on the plat.
use Rattle.twp_grid.specs.Lands.{lotting}
use Rattle.twp_suggest.proofs.meaning.LandFacts.{is_no_exception}
use Rattle.twp_suggest.proofs.meaning.wording.is_exception.Goals as goal

pub returns-then-not-names_land : goal.returns-then-not-names_land
returns-then-not-names_land g c = λ _ places others of_whole of_excepted inside.
    absurd (c.in_ok-names_land.ensures.none c.if-not-names_land.true places of_whole)

pub returns-then-not-names_less : goal.returns-then-not-names_less
returns-then-not-names_less g c = λ _ places others of_whole of_excepted inside.
    absurd (c.in_ok-names_less.ensures.none c.if-not-names_less.true others of_excepted)

pub returns : goal.returns
returns g c = λ is.
    is_no_exception (lotting (g.P.Lotting.layout c.args.lots.now)) c.args.township c.args.parts.whole.now
    c.args.parts.excepted.now _ _ (c.in_ok-names_land.ensures.only c.if-not-names_land.false)
    (c.in_ok-names_less.ensures.only c.if-not-names_less.false) (c.is_proper_part.ensures.none_left is)
