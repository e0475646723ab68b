use Rattle.std.proofs.Common.{List, ℕ}
use Rattle.twp_read.specs.steps.Usual.{IsNumberAfter, IsNumberToken}
use Rattle.twp_read.proofs.NumberFacts.{number_ahead, token_ahead}
use Rattle.twp_read.proofs.NewestItem.{if_some}
use Rattle.twp_read.proofs.usual.list.number_after.Goals as goal

pub returns-clause-number : goal.returns-clause-number
returns-clause-number c =
    let text : List ℕ = c.args.text.now in
    let at : ℕ = c.after_white.result in
    if_some c.number_at.result
    (λ it. IsNumberAfter text at it.numeral it.end) (λ it. IsNumberAfter text c.args.from it.numeral it.end)
    (λ it leads.
    number_ahead text c.args.from at it.numeral it.end
    (c.after_white.ensures.value, c.after_white.ensures.range) leads)
    c.number_at.ensures.number

pub returns-clause-token : goal.returns-clause-token
returns-clause-token c =
    let text : List ℕ = c.args.text.now in
    let at : ℕ = c.after_white.result in
    if_some c.number_at.result
    (λ it. IsNumberToken text at it.numeral it.end) (λ it. IsNumberToken text c.args.from it.numeral it.end)
    (λ it is.
    token_ahead text c.args.from at it.numeral it.end
    (c.after_white.ensures.value, c.after_white.ensures.range) is)
    c.number_at.ensures.token
