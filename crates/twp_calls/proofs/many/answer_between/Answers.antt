-- The description is that of the range.
use Rattle.std.proofs.Common.{Bor, ℕ, List}
use Rattle.twp_calls.specs.Calls.{IsAcresCall}
use Rattle.twp_calls.proofs.ManyFacts.{in_range, range_of}
use Rattle.twp_calls.proofs.many.answer_between.Goals as goal

pub returns : goal.returns
returns c = λ given code is.
    in_range (λ text. IsAcresCall given text code) c.args.descriptions.now c.in-Some.description.now
    c.args.start c.args.end c.acres.result
    (range_of (λ (part : Bor (List ℕ)). part.now) c.args.descriptions.now c.args.start c.args.end c.get.result
    c.in-Some.description c.in-Some.is c.get.ensures.lookup)
    (c.acres.ensures given code is)
