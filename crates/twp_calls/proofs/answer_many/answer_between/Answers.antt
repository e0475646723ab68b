-- The description is that of the range.
use Rattle.std.proofs.Common.{Bor, ℕ, List}
use Rattle.twp_calls.specs.FullAnswers.{calls_on}
use Rattle.twp_calls.proofs.FullFacts.{in_range, range_of}
use Rattle.twp_calls.proofs.answer_many.answer_between.Goals as goal

pub returns : goal.returns
returns c =
    in_range (calls_on c.args.plat.now c.args.account) c.args.descriptions.now c.in-Some.description.now
    c.args.start c.args.end
    c.args.old _
    (range_of (λ (part : Bor (List ℕ)). part.now) c.args.descriptions.now c.args.start c.args.end c.get.result
    c.in-Some.description c.in-Some.is c.get.ensures.lookup)
    (record {
      acres = c.township_acres-acres.ensures;
      normal = c.township_normal-normal.ensures.answer;
      note = c.note_on.ensures.noted c.args.account;
      no_note = c.note_on.ensures.unnoted;
    })
