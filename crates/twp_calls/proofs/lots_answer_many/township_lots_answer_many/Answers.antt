-- There is too little room, or one more description is answered.
use Rattle.std.proofs.Common.{◌≡◌, subst, arith}
use Rattle.std.specs.List.{SameFrom}
use Rattle.std.proofs.lemmas.Grind.{common_steps}
use Rattle.twp_calls.specs.Answers.{bare}
use Rattle.twp_calls.specs.FullAnswers.{AreFullAnswersTo}
use Rattle.twp_calls.specs.LotFullAnswers.{calls_by_lots}
use Rattle.twp_calls.proofs.BasisFacts.{is_no_short, is_no_short_table}
use Rattle.twp_calls.proofs.FullFacts.{all_answered, answers_next, kept_next, too_many}
use Rattle.twp_calls.proofs.lots_answer_many.township_lots_answer_many.Goals as goal

pub loop-index-preserved : goal.loop-index-preserved
loop-index-preserved c = record {
  length_is = grind (arith, common_steps, c.loop-index.invariant.length_is);
  answers =
      answers_next (calls_by_lots c.args.lots.now) c.args.descriptions.now c.args.offsets.now
      c.loop-index.index
      c.args.answers.now c.loop-index.answers _ c.answer_between.result
      (omega (arith, c.loop-index.invariant.length_is))
      c.loop-index.invariant.kept
      c.loop-index.invariant.answers
      c.answer_between.ensures;
  kept =
      kept_next c.loop-index.index c.args.answers.now c.loop-index.answers c.answer_between.result
      c.loop-index.invariant.kept;
}

pub returns-then-answers-count-clause-answer : goal.returns-then-answers-count-clause-answer
returns-then-answers-count-clause-answer c =
    too_many (calls_by_lots c.args.lots.now) c.args.descriptions.now c.args.offsets.now
    c.args.answers.now
    c.counted.result c.saturating_sub-count.result (omega (arith, c.saturating_sub-count.ensures))
    c.if-answers-count.true c.counted.ensures

pub returns-clause-answer : goal.returns-clause-answer
returns-clause-answer c =
    let all : c.loop-index.index ≡ c.saturating_sub-count.result = omega arith in
    all_answered (calls_by_lots c.args.lots.now) c.args.descriptions.now c.args.offsets.now
    c.args.answers.now
    c.loop-index.answers (bare c.verdict.result) c.counted-2.result c.saturating_sub-count.result
    (omega (arith, c.saturating_sub-count.ensures)) (omega arith) c.loop-index.invariant.length_is
    (subst (λ n.
    AreFullAnswersTo (calls_by_lots c.args.lots.now) c.args.descriptions.now c.args.offsets.now n
    c.args.answers.now c.loop-index.answers) all c.loop-index.invariant.answers)
    (subst (SameFrom c.args.answers.now c.loop-index.answers) all c.loop-index.invariant.kept)
    c.verdict.ensures c.counted-2.ensures

pub returns-clause-kept : goal.returns-clause-kept
returns-clause-kept c = λ short.
    absurd (is_no_short c.verdict.result c.saturating_sub-count.result c.counted-2.result
    (is_no_short_table c.args.lots.now c.verdict.result c.verdict.ensures) c.counted-2.ensures short)
