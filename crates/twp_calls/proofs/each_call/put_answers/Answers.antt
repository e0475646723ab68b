-- There is too little room, or one more answer is put there.
use Rattle.std.proofs.Common.{◌≡◌, subst, length, arith}
use Rattle.std.specs.List.{SameFrom}
use Rattle.std.proofs.lemmas.Grind.{common_steps}
use Rattle.twp_calls.specs.steps.Plain.{ArePlainTo, IsPlainAnswer, answers_put, no_answer_room}
use Rattle.twp_calls.proofs.EachFacts.{kept_next, plain_next}
use Rattle.twp_calls.proofs.each_call.put_answers.Goals as goal

pub loop-index-preserved : goal.loop-index-preserved
loop-index-preserved c = record {
  length_is = grind (arith, common_steps, c.loop-index.invariant.length_is);
  plain =
      plain_next IsPlainAnswer c.loop-index.index c.args.given.now _ c.loop-index.answers c.plain.result
      (omega (arith, c.loop-index.invariant.length_is)) (omega arith) c.index-given-index.is c.plain.ensures
      c.loop-index.invariant.plain;
  kept =
      kept_next c.loop-index.index c.args.answers.now c.loop-index.answers c.plain.result
      c.loop-index.invariant.kept;
}

pub returns-then-answers-count-clause-put : goal.returns-then-answers-count-clause-put
returns-then-answers-count-clause-put c = no_answer_room (omega arith) c.counted.ensures

pub returns-clause-put : goal.returns-clause-put
returns-clause-put c =
    let all : c.loop-index.index ≡ length c.args.given.now = omega arith in
    answers_put (omega arith) c.loop-index.invariant.length_is
    (subst (λ n. ArePlainTo n c.args.given.now c.loop-index.answers) all c.loop-index.invariant.plain)
    (subst (SameFrom c.args.answers.now c.loop-index.answers) all c.loop-index.invariant.kept)
    c.counted-2.ensures
