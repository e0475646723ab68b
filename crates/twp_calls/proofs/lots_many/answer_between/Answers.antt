-- The description is that of the range.
use Rattle.std.proofs.Common.{Bor, ℕ, List}
use Rattle.twp_calls.specs.LotCalls.{IsLotsAcresCall}
use Rattle.twp_calls.proofs.ManyFacts.{in_range, range_of}
use Rattle.twp_calls.proofs.lots_many.answer_between.Goals as goal

pub returns : goal.returns
returns c =
    in_range (IsLotsAcresCall c.args.lots.now) c.args.descriptions.now c.in-Some.description.now c.args.start
    c.args.end c.township_lots_acres.result
    (range_of (λ (part : Bor (List ℕ)). part.now) c.args.descriptions.now c.args.start c.args.end c.get.result
    c.in-Some.description c.in-Some.is c.get.ensures.lookup)
    c.township_lots_acres.ensures
