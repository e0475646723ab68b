use Rattle.std.proofs.Common.{All, arith, subst, take_all}
use Rattle.std.proofs.lemmas.List.Elements.{All-more}
use Rattle.twp_suggest.specs.Told.{Assumes}
use Rattle.twp_suggest.proofs.ToldFacts.{not_so}
use Rattle.twp_suggest.proofs.only_reading.told.is_made.Goals as goal

pub loop-change-preserved : goal.loop-change-preserved
loop-change-preserved c =
    All-more (λ change. Assumes c.args.text.now c.args.assumption change → ⊥) c.args.changes.now
    c.loop-change.change-index _ c.loop-change-test.true c.loop-change.invariant
    (not_so c.assumes.result _ c.assumes.ensures c.if-assumes.false)

pub returns : goal.returns
returns c =
    λ _. subst (All (λ change. Assumes c.args.text.now c.args.assumption change → ⊥))
    (take_all c.loop-change.change-index c.args.changes.now (omega arith)) c.loop-change.invariant
