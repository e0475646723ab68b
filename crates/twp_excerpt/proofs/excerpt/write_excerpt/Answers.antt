-- Two lines, each ended by a line feed, and both safe at each step.
use Rattle.std.proofs.Common.{◌≡◌, ℕ, ◌-◌, ◌^◌, ◌<◌, true, List, [], ◌∷◌, ◌++◌, length, sym, subst, arith}
use Rattle.std.specs.Prelude.{string_bytes}
use Rattle.std.proofs.lemmas.Result.{on_ok_weaker}
use Rattle.std.specs.List.{list_all}
use Rattle.twp_excerpt.specs.Excerpts.{View, view_in, numbered_line, caret_line}
use Rattle.twp_excerpt.specs.Shown.{is_shown_or_feed}
use Rattle.twp_excerpt.specs.Signs.{Adding}
use Rattle.twp_excerpt.specs.steps.Looks.{is_printable}
use Rattle.twp_excerpt.proofs.AddingFacts.{adding_failed, adding_then}
use Rattle.twp_excerpt.proofs.PieceFacts.{excerpt_is}
use Rattle.twp_excerpt.proofs.ShownFacts.{adds_trans, lines_of_shown, number_printable, two_lines}
use Rattle.twp_excerpt.proofs.excerpt.write_excerpt.Goals as goal

-- the first line, and what follows it
abbrev shown : List ℕ → List ℕ → ℕ → ℕ → View
shown number text start end = view_in (100 - length number - 5) text start end

abbrev feed : List ℕ
feed = 10 ∷ []

abbrev ending : ℕ → View → List ℕ
ending digits view = caret_line digits view ++ 10 ∷ []

abbrev following : ℕ → View → List ℕ
following digits view = 10 ∷ ending digits view

pub write_text-requires : goal.write_text-requires
write_text-requires c =
    let Prints : List ℕ → Type 0 = λ text. list_all is_printable text ≡ true in
    let small : c.args.line < 2 ^ 64 = omega arith in
    subst Prints (sym c.format-number.ensures.text) (number_printable c.args.line small)

pub returns-in_err-write_text-clause-safe : goal.returns-in_err-write_text-clause-safe
returns-in_err-write_text-clause-safe c = lines_of_shown _ _ c.write_text.ensures.safe

pub returns-in_err-end_line-clause-safe : goal.returns-in_err-end_line-clause-safe
returns-in_err-end_line-clause-safe c =
    adds_trans is_shown_or_feed _ _ _ (lines_of_shown _ _ c.write_text.ensures.safe) c.end_line.ensures.safe

pub returns-in_err-write_carets-clause-safe : goal.returns-in_err-write_carets-clause-safe
returns-in_err-write_carets-clause-safe c =
    adds_trans is_shown_or_feed _ _ _
    (adds_trans is_shown_or_feed _ _ _ (lines_of_shown _ _ c.write_text.ensures.safe) c.end_line.ensures.safe)
    (lines_of_shown _ _ c.write_carets.ensures.safe)

pub returns-clause-safe : goal.returns-clause-safe
returns-clause-safe c =
    adds_trans is_shown_or_feed _ _ _
    (adds_trans is_shown_or_feed _ _ _
    (adds_trans is_shown_or_feed _ _ _ (lines_of_shown _ _ c.write_text.ensures.safe) c.end_line.ensures.safe)
    (lines_of_shown _ _ c.write_carets.ensures.safe))
    c.end_line-2.ensures.safe

pub returns-clause-lines : goal.returns-clause-lines
returns-clause-lines c =
    on_ok_weaker c.end_line-2.result
    (λ ends.
    two_lines _ _ _ _ _ c.write_text.ensures.safe c.in_ok-end_line.ensures.feed c.write_carets.ensures.safe
    ends)
    c.end_line-2.ensures.feed

pub returns-in_err-write_text-clause-excerpt : goal.returns-in_err-write_text-clause-excerpt
returns-in_err-write_text-clause-excerpt c =
    let number = c.format-number.result.now in
    let view = shown number c.args.text.now c.args.span.start c.args.span.end in
    let digits = length number in
    subst
    (λ t. Adding t c.from_residual.result (string_bytes c.args.out.now) (string_bytes c.write_text.new.out))
    (excerpt_is c.args.text.now number c.args.span.start c.args.span.end c.args.line
    c.format-number.ensures.text)
    (adding_failed (numbered_line number view) (following digits view) _ _ _ _ c.from_residual.ensures.0
    (c.write_text.ensures.added view c.of-view.ensures))

pub returns-in_err-end_line-clause-excerpt : goal.returns-in_err-end_line-clause-excerpt
returns-in_err-end_line-clause-excerpt c =
    let number = c.format-number.result.now in
    let view = shown number c.args.text.now c.args.span.start c.args.span.end in
    let digits = length number in
    subst (λ t.
    Adding t c.from_residual-in_err-end_line.result (string_bytes c.args.out.now)
    (string_bytes c.end_line.new.out))
    (excerpt_is c.args.text.now number c.args.span.start c.args.span.end c.args.line
    c.format-number.ensures.text)
    (adding_then (numbered_line number view) (following digits view) _ _ _ _
    (c.in_ok-write_text.ensures.added view c.of-view.ensures).whole
    (adding_failed feed (ending digits view) _ _ _ _ c.from_residual-in_err-end_line.ensures.0
    c.end_line.ensures.added))

pub returns-in_err-write_carets-clause-excerpt : goal.returns-in_err-write_carets-clause-excerpt
returns-in_err-write_carets-clause-excerpt c =
    let number = c.format-number.result.now in
    let view = shown number c.args.text.now c.args.span.start c.args.span.end in
    let digits = length number in
    subst (λ t.
    Adding t c.from_residual-in_err-write_carets.result (string_bytes c.args.out.now)
    (string_bytes c.write_carets.new.out))
    (excerpt_is c.args.text.now number c.args.span.start c.args.span.end c.args.line
    c.format-number.ensures.text)
    (adding_then (numbered_line number view) (following digits view) _ _ _ _
    (c.in_ok-write_text.ensures.added view c.of-view.ensures).whole
    (adding_then feed (ending digits view) _ _ _ _ c.in_ok-end_line.ensures.added.whole
    (adding_failed (caret_line digits view) feed _ _ _ _ c.from_residual-in_err-write_carets.ensures.0
    (c.write_carets.ensures.added view c.of-view.ensures))))

pub returns-clause-excerpt : goal.returns-clause-excerpt
returns-clause-excerpt c =
    let number = c.format-number.result.now in
    let view = shown number c.args.text.now c.args.span.start c.args.span.end in
    let digits = length number in
    subst
    (λ t. Adding t c.end_line-2.result (string_bytes c.args.out.now) (string_bytes c.end_line-2.new.out))
    (excerpt_is c.args.text.now number c.args.span.start c.args.span.end c.args.line
    c.format-number.ensures.text)
    (adding_then (numbered_line number view) (following digits view) _ _ _ _
    (c.in_ok-write_text.ensures.added view c.of-view.ensures).whole
    (adding_then feed (ending digits view) _ _ _ _ c.in_ok-end_line.ensures.added.whole
    (adding_then (caret_line digits view) feed _ _ _ _
    (c.in_ok-write_carets.ensures.added view c.of-view.ensures).whole
    c.end_line-2.ensures.added)))
