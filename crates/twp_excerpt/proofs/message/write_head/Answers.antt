-- A word, the name, the place, and a colon.
use Rattle.std.proofs.Common.{ℕ, List, ◌++◌, ◌∙◌, ap, subst}
use Rattle.std.specs.Prelude.{codes, encode_utf8_all, string_bytes}
use Rattle.twp_excerpt.specs.Messages.{heading_text}
use Rattle.twp_excerpt.specs.Shown.{is_shown}
use Rattle.twp_excerpt.specs.Signs.{Adding, escaped}
use Rattle.twp_excerpt.specs.declared.message.MessagePlace.{MessagePlace}
use Rattle.twp_excerpt.proofs.AddingFacts.{adding_failed, adding_then}
use Rattle.twp_excerpt.proofs.ShownFacts.{adds_trans}
use Rattle.twp_excerpt.proofs.message.write_head.Goals as goal

abbrev word : List ℕ
word = codes "township: "

abbrev end : List ℕ
end = codes ": "

abbrev after_name : MessagePlace → List ℕ
after_name heading = heading_text heading ++ end

abbrev after_word : List ℕ → MessagePlace → List ℕ
after_word name heading = escaped name ++ after_name heading

pub returns-in_err-push_printable-clause-head : goal.returns-in_err-push_printable-clause-head
returns-in_err-push_printable-clause-head c =
    adding_failed word (after_word c.args.name.now c.args.heading) _ _ _ _ c.from_residual.ensures.0
    c.push_printable.ensures.added

pub returns-in_err-write_escaped-clause-head : goal.returns-in_err-write_escaped-clause-head
returns-in_err-write_escaped-clause-head c =
    adding_then word (after_word c.args.name.now c.args.heading) _ _ _ _
    c.in_ok-push_printable.ensures.added.whole
    (adding_failed (escaped c.args.name.now) (after_name c.args.heading) _ _ _ _
    c.from_residual-in_err-write_escaped.ensures.0
    (subst
    (λ n.
    Adding (escaped n) c.write_escaped.result (string_bytes c.push_printable.new.out)
    (string_bytes c.write_escaped.new.out))
    c.as_bytes.ensures.value
    c.write_escaped.ensures.escaped))

pub returns-in_err-write_heading-clause-head : goal.returns-in_err-write_heading-clause-head
returns-in_err-write_heading-clause-head c =
    adding_then word (after_word c.args.name.now c.args.heading) _ _ _ _
    c.in_ok-push_printable.ensures.added.whole
    (adding_then (escaped c.args.name.now) (after_name c.args.heading) _ _ _ _
    (c.in_ok-write_escaped.ensures.escaped.whole
    ∙ ap (λ n. string_bytes c.push_printable.new.out ++ encode_utf8_all (escaped n)) c.as_bytes.ensures.value)
    (adding_failed (heading_text c.args.heading) end _ _ _ _ c.from_residual-in_err-write_heading.ensures.0
    c.write_heading.ensures.heading))

pub returns-clause-head : goal.returns-clause-head
returns-clause-head c =
    adding_then word (after_word c.args.name.now c.args.heading) _ _ _ _
    c.in_ok-push_printable.ensures.added.whole
    (adding_then (escaped c.args.name.now) (after_name c.args.heading) _ _ _ _
    (c.in_ok-write_escaped.ensures.escaped.whole
    ∙ ap (λ n. string_bytes c.push_printable.new.out ++ encode_utf8_all (escaped n)) c.as_bytes.ensures.value)
    (adding_then (heading_text c.args.heading) end _ _ _ _ c.in_ok-write_heading.ensures.heading.whole
    c.push_printable-2.ensures.added))

pub returns-clause-safe : goal.returns-clause-safe
returns-clause-safe c =
    adds_trans is_shown _ _ _
    (adds_trans is_shown _ _ _
    (adds_trans is_shown _ _ _ c.push_printable.ensures.safe c.write_escaped.ensures.safe)
    c.write_heading.ensures.safe)
    c.push_printable-2.ensures.safe
