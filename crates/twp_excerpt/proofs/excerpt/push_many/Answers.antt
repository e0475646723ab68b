-- One more character is added, and at the end none is left.
use Rattle.std.proofs.Common.{◌≡◌, ap, arith, ◌∷◌, []}
use Rattle.std.specs.Prelude.{replicate}
use Rattle.std.proofs.lemmas.Result.{IfOk-from_err}
use Rattle.twp_excerpt.specs.Shown.{is_shown}
use Rattle.twp_excerpt.proofs.AddingFacts.{replicate_next, so_far_end, so_far_failed, so_far_next}
use Rattle.twp_excerpt.proofs.ShownFacts.{adds_trans}
use Rattle.twp_excerpt.proofs.excerpt.push_many.Goals as goal

pub loop-left-preserved : goal.loop-left-preserved
loop-left-preserved c = record {
  safe = adds_trans is_shown _ _ _ c.loop-left.invariant.safe c.push_shown.ensures.safe;
  added =
      so_far_next _ _ (c.args.character ∷ []) _ _ _ _ c.loop-left.invariant.added
      (replicate_next c.loop-left.left c.args.character (omega (arith, c.loop-left-test.true)))
      c.in_ok-push_shown.ensures.added.whole;
}

pub returns-in_err-push_shown-clause-added : goal.returns-in_err-push_shown-clause-added
returns-in_err-push_shown-clause-added c = record {
  whole = IfOk-from_err c.from_residual.result _ c.from_residual.ensures.0;
  front =
      so_far_failed _ _ (c.args.character ∷ []) _ _ _ _ c.loop-left.invariant.added
      (replicate_next c.loop-left.left c.args.character (omega (arith, c.loop-left-test.true)))
      c.push_shown.ensures.added.front;
}

pub returns-in_err-push_shown-clause-safe : goal.returns-in_err-push_shown-clause-safe
returns-in_err-push_shown-clause-safe c =
    adds_trans is_shown _ _ _ c.loop-left.invariant.safe c.push_shown.ensures.safe

pub returns-clause-added : goal.returns-clause-added
returns-clause-added c =
    let none : c.loop-left.left ≡ 0 = omega (arith, c.loop-left-test.false) in
    so_far_end _ _ _ _ tt c.loop-left.invariant.added (ap (λ n. replicate n c.args.character) none)
