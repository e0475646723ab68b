-- The description is that of the range.
use Rattle.std.proofs.Common.{Bor, ℕ, List}
use Rattle.twp_calls.specs.LotFullAnswers.{calls_by_lots}
use Rattle.twp_calls.proofs.FullFacts.{in_range, range_of}
use Rattle.twp_calls.proofs.lots_answer_many.answer_between.Goals as goal

pub returns : goal.returns
returns c =
    in_range (calls_by_lots c.args.lots.now) c.args.descriptions.now c.in-Some.description.now c.args.start
    c.args.end c.args.old _
    (range_of (λ (part : Bor (List ℕ)). part.now) c.args.descriptions.now c.args.start c.args.end c.get.result
    c.in-Some.description c.in-Some.is c.get.ensures.lookup)
    (record {
      acres = c.township_lots_acres-acres.ensures;
      normal = c.normal_by_lots-normal.ensures;
      note = c.note_by_lots.ensures.noted;
      no_note = c.note_by_lots.ensures.unnoted;
    })
