-- The gutter, spaces, and carets.
use Rattle.std.proofs.Common.{ℕ, ◌++◌, refl, subst}
use Rattle.std.specs.Prelude.{replicate, string_bytes}
use Rattle.twp_excerpt.specs.Excerpts.{empty_gutter, piece_width}
use Rattle.twp_excerpt.specs.Signs.{Adding}
use Rattle.twp_excerpt.proofs.AddingFacts.{adding_failed, adding_then}
use Rattle.twp_excerpt.proofs.ShownFacts.{shown_printable}
use Rattle.twp_excerpt.proofs.excerpt.View.write_carets.Goals as goal

pub push_many-requires : goal.push_many-requires
push_many-requires c = shown_printable 32 refl

pub push_many-requires-2 : goal.push_many-requires-2
push_many-requires-2 c = shown_printable 94 refl

pub returns-in_err-write_empty_gutter-clause-added : goal.returns-in_err-write_empty_gutter-clause-added
returns-in_err-write_empty_gutter-clause-added c = λ view is.
    adding_failed (empty_gutter c.args.digits)
    (replicate (piece_width view.before) 32 ++ replicate view.carets 94) _ _ _ _
    c.from_residual.ensures.0
    c.write_empty_gutter.ensures.added

pub returns-in_err-push_many-clause-added : goal.returns-in_err-push_many-clause-added
returns-in_err-push_many-clause-added c = λ view is.
    subst
    (λ n.
    Adding (empty_gutter c.args.digits ++ (replicate n 32 ++ replicate view.carets 94))
    c.from_residual-in_err-push_many.result (string_bytes c.args.out.now) (string_bytes c.push_many.new.out))
    is.before_is.columns_is
    (adding_then (empty_gutter c.args.digits)
    (replicate c.args.self.now.before.columns 32 ++ replicate view.carets 94) _ _ _ _
    c.in_ok-write_empty_gutter.ensures.added.whole
    (adding_failed (replicate c.args.self.now.before.columns 32) (replicate view.carets 94) _ _ _ _
    c.from_residual-in_err-push_many.ensures.0
    c.push_many.ensures.added))

pub returns-clause-added : goal.returns-clause-added
returns-clause-added c = λ view is.
    let AddsIt : ℕ → ℕ → Type 0 =
    λ n m.
    Adding (empty_gutter c.args.digits ++ (replicate n 32 ++ replicate m 94)) c.push_many-2.result
    (string_bytes c.args.out.now) (string_bytes c.push_many-2.new.out) in
    subst (λ n. AddsIt n view.carets) is.before_is.columns_is
    (subst (AddsIt c.args.self.now.before.columns) is.carets_is
    (adding_then (empty_gutter c.args.digits)
    (replicate c.args.self.now.before.columns 32 ++ replicate c.args.self.now.carets 94) _ _ _ _
    c.in_ok-write_empty_gutter.ensures.added.whole
    (adding_then (replicate c.args.self.now.before.columns 32) (replicate c.args.self.now.carets 94) _ _ _ _
    c.in_ok-push_many.ensures.added.whole
    c.push_many-2.ensures.added)))
