-- The reader has come to a token that it takes, to one that it can't take, or to the end.
use Rattle.std.proofs.Common.{◌<◌, ◌≤◌, ℕ, ◌+◌, List, arith, length, drop, sym, ap, subst, reverse}
use Rattle.twp_grammar.specs.declared.item.Item.{Item}
use Rattle.twp_read.specs.declared.description.Reached.{Reached}
use Rattle.twp_read.specs.declared.watch.Watch.{Watch}
use Rattle.twp_grammar.specs.declared.state.State.{State}
use Rattle.twp_grammar.specs.declared.state.State.TheVariants.{Start}
use Rattle.twp_read.specs.steps.TokenSteps.{take_token}
use Rattle.twp_read.specs.steps.Watching.{watch_after}
use Rattle.twp_grammar.specs.Tokens.{seen}
use Rattle.twp_grammar.specs.Sentences.{IsReadAs}
use Rattle.twp_read.proofs.Watched.{Watched, watched_nothing, watched_further, watched_next, is_clear}
use Rattle.twp_read.proofs.ReaderFacts.{none_bad_before, wrong_here, wrong_at_end, read_whole, begins}
use Rattle.twp_read.proofs.description.Description.read_within.Goals as goal

pub tokens-init : goal.tokens-init
tokens-init c =
    subst (λ (its : List Item). Watched c.args.text.now 0 Start its c.begun-watch.result)
    (sym c.in_ok-items.ensures)
    (watched_nothing c.args.text.now c.begun-watch.result (ap (λ (w : Watch). w.word) c.begun-watch.ensures))

-- the tokens that were taken are good
pub fault_of-requires-clause-good : goal.fault_of-requires-clause-good
fault_of-requires-clause-good c =
    let text : List ℕ = c.args.text.now in
    let reached : Reached = c.in_ok-reached.reached in
    let its : List Item = c.take_watched.new.self in
    let here : Watched text reached.at reached.state its c.tokens.watch =
    watched_further text c.tokens.reached c.tokens.items c.tokens.watch its reached c.tokens.invariant
    c.in_ok-reached.ensures.moves in
    none_bad_before text reached.at reached.state its c.in_ok-reached.ensures.within here.front

pub fault_of-requires-then-not-is_final-clause-good : goal.fault_of-requires-then-not-is_final-clause-good
fault_of-requires-then-not-is_final-clause-good c =
    let text : List ℕ = c.args.text.now in
    let reached : Reached = c.in_ok-reached.reached in
    let its : List Item = c.take_watched.new.self in
    let here : Watched text reached.at reached.state its c.tokens.watch =
    watched_further text c.tokens.reached c.tokens.items c.tokens.watch its reached c.tokens.invariant
    c.in_ok-reached.ensures.moves in
    none_bad_before text reached.at reached.state its c.in_ok-reached.ensures.within here.front

pub fault_of-requires-clause-wrong : goal.fault_of-requires-clause-wrong
fault_of-requires-clause-wrong c =
    let text : List ℕ = c.args.text.now in
    let reached : Reached = c.in_ok-reached.reached in
    let its : List Item = c.take_watched.new.self in
    let here : Watched text reached.at reached.state its c.tokens.watch =
    watched_further text c.tokens.reached c.tokens.items c.tokens.watch its reached c.tokens.invariant
    c.in_ok-reached.ensures.moves in
    let end : ℕ = c.in-Some.token.at + length c.in-Some.token.text.now in
    rw c.expected.ensures
    (wrong_here text reached.at (drop reached.at text) reached.state its (seen c.in-Some.token)
    (drop end text) here.front c.in-Some.ensures.starts (sym c.in_default-next.ensures))

pub tokens-preserved : goal.tokens-preserved
tokens-preserved c =
    let text : List ℕ = c.args.text.now in
    let reached : Reached = c.in_ok-reached.reached in
    let its : List Item = c.take_watched.new.self in
    let here : Watched text reached.at reached.state its c.tokens.watch =
    watched_further text c.tokens.reached c.tokens.items c.tokens.watch its reached c.tokens.invariant
    c.in_ok-reached.ensures.moves in
    let end : ℕ = c.in-Some.token.at + length c.in-Some.token.text.now in
    let after : State = c.in-Some-next.after in
    let taken : List Item = take_token reached.state c.in-Some.token.kind c.in-Some.token.at its in
    let watch : Watch = watch_after c.tokens.watch reached.state reached.at (seen c.in-Some.token) after in
    let after_token : Watched text end after taken watch =
    watched_next text reached.at reached.state after its c.tokens.watch (seen c.in-Some.token) here
    c.in-Some.ensures.starts (sym c.in-Some-next.ensures) in
    subst (λ (w : Watch). Watched text end after c.take.new.self w) (sym c.after-watch.ensures)
    (subst (λ (is : List Item). Watched text end after is watch) (sym c.in_ok-take.ensures) after_token)

pub tokens-smaller : goal.tokens-smaller
tokens-smaller c =
    let stepped : c.tokens.reached.at ≤ c.in_ok-reached.reached.at = c.in_ok-reached.ensures.forward in
    let further : c.in_ok-reached.reached.at < c.in-Some.token.at + length c.in-Some.token.text.now =
    c.in-Some.ensures.further in
    let within : c.in-Some.token.at + length c.in-Some.token.text.now ≤ length c.args.text.now =
    c.in-Some.ensures.within in
    omega arith

pub fault_of-requires-then-not-is_final-clause-wrong : goal.fault_of-requires-then-not-is_final-clause-wrong
fault_of-requires-then-not-is_final-clause-wrong c =
    let text : List ℕ = c.args.text.now in
    let reached : Reached = c.in_ok-reached.reached in
    let its : List Item = c.take_watched.new.self in
    let here : Watched text reached.at reached.state its c.tokens.watch =
    watched_further text c.tokens.reached c.tokens.items c.tokens.watch its reached c.tokens.invariant
    c.in_ok-reached.ensures.moves in
    rw c.expected-then-not-is_final.ensures
    (wrong_at_end text reached.at (drop reached.at text) reached.state its here.front c.in_default.ensures
    (sym c.if-not-is_final.ensures))

pub invariant_of-result : goal.invariant_of-result
invariant_of-result c =
    let text : List ℕ = c.args.text.now in
    let reached : Reached = c.in_ok-reached.reached in
    let its : List Item = c.take_watched.new.self in
    let here : Watched text reached.at reached.state its c.tokens.watch =
    watched_further text c.tokens.reached c.tokens.items c.tokens.watch its reached c.tokens.invariant
    c.in_ok-reached.ensures.moves in
    let read : IsReadAs text (reverse its) =
    read_whole text reached.at (drop reached.at text) reached.state its here.front c.in_default.ensures
    (sym c.if-not-is_final.ensures) c.requires in
    rw c.into_vec.ensures (begins text (reverse its) read)

pub returns-clause-read : goal.returns-clause-read
returns-clause-read c =
    let text : List ℕ = c.args.text.now in
    let reached : Reached = c.in_ok-reached.reached in
    let its : List Item = c.take_watched.new.self in
    let here : Watched text reached.at reached.state its c.tokens.watch =
    watched_further text c.tokens.reached c.tokens.items c.tokens.watch its reached c.tokens.invariant
    c.in_ok-reached.ensures.moves in
    rw c.into_vec.ensures
    (read_whole text reached.at (drop reached.at text) reached.state its here.front c.in_default.ensures
    (sym c.if-not-is_final.ensures) c.requires)

pub returns-clause-clear : goal.returns-clause-clear
returns-clause-clear c clear =
    let text : List ℕ = c.args.text.now in
    let reached : Reached = c.in_ok-reached.reached in
    let its : List Item = c.take_watched.new.self in
    let here : Watched text reached.at reached.state its c.tokens.watch =
    watched_further text c.tokens.reached c.tokens.items c.tokens.watch its reached c.tokens.invariant
    c.in_ok-reached.ensures.moves in
    let seen_clear = c.clarity.ensures clear in
    is_clear text reached.at reached.state its c.tokens.watch here c.in_default.ensures seen_clear.0
    seen_clear.1
