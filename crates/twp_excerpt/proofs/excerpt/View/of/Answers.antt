-- The pieces and the carets, by the places in the span's line.
use Rattle.std.proofs.Common.{refl, ap, subst, max, min, ◌-◌, ◌∙◌}
use Rattle.twp_excerpt.specs.declared.excerpt.View.{View}
use Rattle.twp_excerpt.specs.Excerpts.{between, begun, line_width}
use Rattle.twp_excerpt.specs.Signs.{signs}
use Rattle.twp_excerpt.specs.steps.Views.{IsKept}
use Rattle.twp_excerpt.proofs.PieceFacts.{kept_view, view_is}
use Rattle.twp_excerpt.proofs.excerpt.View.of.Goals as goal

pub returns : goal.returns
returns c =
    let text = c.args.text.now in
    let from = c.start_of_line-start.result in
    let to = c.end_of_line-end.result in
    let place = c.min-place.result in
    let ahead = signs (between text place to) in
    let size = min c.args.span.end to - place in
    let kept : View = record {
      before = c.end_of-before.result;
      ahead = c.widened-ahead.result;
      carets = c.max-2.result;
    } in
    subst (λ view. IsKept view kept)
    (view_is c.args.room text c.args.span.start c.args.span.end from to place
    c.start_of_line-start.ensures.value
    c.end_of_line-end.ensures.value c.min-place.ensures)
    (kept_view c.args.room _ _ size _ (signs (between text from place)) ahead
    c.front_of-least.result c.end_of-before.result c.widened-ahead.result c.front_of-least.ensures.piece
    (ap (λ n. c.args.room - n) c.max.ensures) c.end_of-before.ensures.piece
    refl (c.widened-ahead.ensures.piece _ c.front_of-least.ensures.piece)
    (c.max-2.ensures
    ∙ ap (λ n. max n 1)
    (c.columns_until-marked.ensures
    ∙ ap (λ n. line_width (begun (n - place) (signs c.widened-ahead.result.bytes.now))) c.min.ensures)))
