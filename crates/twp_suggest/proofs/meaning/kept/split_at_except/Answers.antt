use Rattle.std.proofs.Common.{◌≡◌, length, rules}
use Rattle.twp_suggest.specs.Excepting.{except}
use Rattle.twp_suggest.proofs.meaning.ExceptingFacts.{too_short}
use Rattle.twp_suggest.proofs.meaning.TextFacts.{in_three}
use Rattle.twp_suggest.proofs.meaning.kept.split_at_except.Goals as goal

pub returns-clause-some : goal.returns-clause-some
returns-clause-some c =
    let mark : c.split_at-2.result.0.now ≡ except = search rules in
    rw mark at
    (in_three c.args.text.now c.split_at.result.0.now c.split_at.result.1.now c.split_at-2.result.0.now
    c.split_at-2.result.1.now c.args.at (length except) c.split_at.ensures.front c.split_at.ensures.back
    c.split_at-2.ensures.front c.split_at-2.ensures.back)

pub returns-then-rest-clause-none : goal.returns-then-rest-clause-none
returns-then-rest-clause-none c =
    rw c.split_at.ensures.back at (too_short c.split_at.result.1.now c.if-rest.true)
