-- The numbers of sections or of lots are those of the item.
use Rattle.std.proofs.Common.{MatchOption, sym, subst}
use Rattle.twp_sentences.specs.steps.NamedNumbers.{HasNumberAt, HasNoNumberAt}
use Rattle.twp_sentences.proofs.descriptions.places.items.number_in.Goals as goal

pub returns-in-Sections : goal.returns-in-Sections
returns-in-Sections c =
    subst (λ it. MatchOption c.one_of.result (HasNoNumberAt c.args.at it) (HasNumberAt c.args.at it))
    (sym c.in-Sections.is) c.one_of.ensures

pub returns-in-Lots : goal.returns-in-Lots
returns-in-Lots c =
    subst (λ it. MatchOption c.one_of-in-Lots.result (HasNoNumberAt c.args.at it) (HasNumberAt c.args.at it))
    (sym c.in-Lots.is) c.one_of-in-Lots.ensures
