-- The gutter, the suffix of the part before the place, and the prefix of the rest.
use Rattle.std.proofs.Common.{◌++◌}
use Rattle.twp_excerpt.specs.Excerpts.{end_text, front_text, gutter}
use Rattle.twp_excerpt.proofs.AddingFacts.{adding_failed, adding_then}
use Rattle.twp_excerpt.proofs.excerpt.View.write_text.Goals as goal

pub returns-in_err-write_gutter-clause-added : goal.returns-in_err-write_gutter-clause-added
returns-in_err-write_gutter-clause-added c = λ view is.
    adding_failed (gutter c.args.number.now) (end_text view.before ++ front_text view.ahead) _ _ _ _
    c.from_residual.ensures.0
    c.write_gutter.ensures.added

pub returns-in_err-write_end-clause-added : goal.returns-in_err-write_end-clause-added
returns-in_err-write_end-clause-added c = λ view is.
    adding_then (gutter c.args.number.now) (end_text view.before ++ front_text view.ahead) _ _ _ _
    c.in_ok-write_gutter.ensures.added.whole
    (adding_failed (end_text view.before) (front_text view.ahead) _ _ _ _
    c.from_residual-in_err-write_end.ensures.0
    (c.write_end.ensures.added view.before is.before_is))

pub returns-clause-added : goal.returns-clause-added
returns-clause-added c = λ view is.
    adding_then (gutter c.args.number.now) (end_text view.before ++ front_text view.ahead) _ _ _ _
    c.in_ok-write_gutter.ensures.added.whole
    (adding_then (end_text view.before) (front_text view.ahead) _ _ _ _
    (c.in_ok-write_end.ensures.added view.before is.before_is).whole
    (c.write_front.ensures.added view.ahead is.ahead_is))
