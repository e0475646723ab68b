-- `and` or `to` is there, and leads on.
use Rattle.std.proofs.Common.{◌≡◌, ◌+◌, ◌<◌, ◌≤◌, ◌∙◌, false, length, drop, slice_index, refl, sym, ap, arith}
use Rattle.std.specs.List.{prefix_len}
use Rattle.twp_grammar.specs.Tokens.{is_white}
use Rattle.twp_grammar.specs.declared.tokens.Kind.TheVariants.{And, To}
use Rattle.twp_read.proofs.NumberFacts.{EndsWithin, right_here, word_ends, word_leads}
use Rattle.twp_read.proofs.WatchFacts.{and_is_usual, to_is_usual}
use Rattle.twp_read.proofs.usual.list.after_joining_word.Goals as goal

pub overflow_add-result : goal.overflow_add-result
overflow_add-result c =
    let below : c.args.from.at + 0 < length c.args.text.now =
    c.byte_at.ensures.inside (c.if-not-begins_joining_word.ensures.some refl) in
    let dark : is_white (slice_index (drop c.args.from.at c.args.text.now) 0) ≡ false =
    ap is_white (sym c.byte_at.ensures.value) ∙ c.if-not-begins_joining_word.ensures.dark refl in
    let here : c.args.from.at ≡ c.args.from.at + prefix_len is_white (drop c.args.from.at c.args.text.now) =
    right_here c.args.text.now c.args.from.at dark in
    let end : EndsWithin c.args.text.now c.args.from.at (c.args.from.at + c.lexeme_at-word.result.size) =
    word_ends c.args.text.now c.args.from.at c.args.from.at c.lexeme_at-word.result here (omega arith)
    c.lexeme_at-word.ensures in
    let within : c.args.from.at + c.lexeme_at-word.result.size ≤ length c.args.text.now = end.within in
    omega arith

pub returns-in_ok-next-in-And-clause-leads : goal.returns-in_ok-next-in-And-clause-leads
returns-in_ok-next-in-And-clause-leads c =
    let below : c.args.from.at + 0 < length c.args.text.now =
    c.byte_at.ensures.inside (c.if-not-begins_joining_word.ensures.some refl) in
    let dark : is_white (slice_index (drop c.args.from.at c.args.text.now) 0) ≡ false =
    ap is_white (sym c.byte_at.ensures.value) ∙ c.if-not-begins_joining_word.ensures.dark refl in
    let here : c.args.from.at ≡ c.args.from.at + prefix_len is_white (drop c.args.from.at c.args.text.now) =
    right_here c.args.text.now c.args.from.at dark in
    word_leads c.args.text.now c.args.from.at c.args.from.at c.lexeme_at-word.result And
    c.args.from.state c.in_ok-next-in-And.field-0 here (omega arith)
    c.lexeme_at-word.ensures c.in-And.is (sym c.next.ensures ∙ c.in_ok-next-in-And.was) (λ place items. refl)
    (λ token. and_is_usual c.args.from.state c.args.from.at token (sym c.if-may_join_doubtfully.ensures))

pub returns-in_ok-next-in-And-clause-forward : goal.returns-in_ok-next-in-And-clause-forward
returns-in_ok-next-in-And-clause-forward c =
    let below : c.args.from.at + 0 < length c.args.text.now =
    c.byte_at.ensures.inside (c.if-not-begins_joining_word.ensures.some refl) in
    let dark : is_white (slice_index (drop c.args.from.at c.args.text.now) 0) ≡ false =
    ap is_white (sym c.byte_at.ensures.value) ∙ c.if-not-begins_joining_word.ensures.dark refl in
    let here : c.args.from.at ≡ c.args.from.at + prefix_len is_white (drop c.args.from.at c.args.text.now) =
    right_here c.args.text.now c.args.from.at dark in
    (word_ends c.args.text.now c.args.from.at c.args.from.at c.lexeme_at-word.result here
    (omega arith) c.lexeme_at-word.ensures).further

pub overflow_add-result-in-To : goal.overflow_add-result-in-To
overflow_add-result-in-To c =
    let below : c.args.from.at + 0 < length c.args.text.now =
    c.byte_at.ensures.inside (c.if-not-begins_joining_word.ensures.some refl) in
    let dark : is_white (slice_index (drop c.args.from.at c.args.text.now) 0) ≡ false =
    ap is_white (sym c.byte_at.ensures.value) ∙ c.if-not-begins_joining_word.ensures.dark refl in
    let here : c.args.from.at ≡ c.args.from.at + prefix_len is_white (drop c.args.from.at c.args.text.now) =
    right_here c.args.text.now c.args.from.at dark in
    let end : EndsWithin c.args.text.now c.args.from.at (c.args.from.at + c.lexeme_at-word.result.size) =
    word_ends c.args.text.now c.args.from.at c.args.from.at c.lexeme_at-word.result here (omega arith)
    c.lexeme_at-word.ensures in
    let within : c.args.from.at + c.lexeme_at-word.result.size ≤ length c.args.text.now = end.within in
    omega arith

pub returns-in_ok-next-in-To-clause-leads : goal.returns-in_ok-next-in-To-clause-leads
returns-in_ok-next-in-To-clause-leads c =
    let below : c.args.from.at + 0 < length c.args.text.now =
    c.byte_at.ensures.inside (c.if-not-begins_joining_word.ensures.some refl) in
    let dark : is_white (slice_index (drop c.args.from.at c.args.text.now) 0) ≡ false =
    ap is_white (sym c.byte_at.ensures.value) ∙ c.if-not-begins_joining_word.ensures.dark refl in
    let here : c.args.from.at ≡ c.args.from.at + prefix_len is_white (drop c.args.from.at c.args.text.now) =
    right_here c.args.text.now c.args.from.at dark in
    word_leads c.args.text.now c.args.from.at c.args.from.at c.lexeme_at-word.result To
    c.args.from.state c.in_ok-next-in-To.field-0 here (omega arith)
    c.lexeme_at-word.ensures c.in-To.is (sym c.next-in-To.ensures ∙ c.in_ok-next-in-To.was)
    (λ place items. refl)
    (λ token. to_is_usual c.args.from.state c.args.from.at token (sym c.if-may_join_doubtfully.ensures))

pub returns-in_ok-next-in-To-clause-forward : goal.returns-in_ok-next-in-To-clause-forward
returns-in_ok-next-in-To-clause-forward c =
    let below : c.args.from.at + 0 < length c.args.text.now =
    c.byte_at.ensures.inside (c.if-not-begins_joining_word.ensures.some refl) in
    let dark : is_white (slice_index (drop c.args.from.at c.args.text.now) 0) ≡ false =
    ap is_white (sym c.byte_at.ensures.value) ∙ c.if-not-begins_joining_word.ensures.dark refl in
    let here : c.args.from.at ≡ c.args.from.at + prefix_len is_white (drop c.args.from.at c.args.text.now) =
    right_here c.args.text.now c.args.from.at dark in
    (word_ends c.args.text.now c.args.from.at c.args.from.at c.lexeme_at-word.result here
    (omega arith) c.lexeme_at-word.ensures).further
