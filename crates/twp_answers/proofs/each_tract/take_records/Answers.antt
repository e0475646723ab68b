-- The next record is answered; if none is left, all were.
use Rattle.std.proofs.Common.{◌≡◌, sym, ◌∙◌, length, subst, arith}
use Rattle.twp_notes.specs.Records.{records_left}
use Rattle.twp_notes.proofs.Taking.{next_record_is, no_record_left}
use Rattle.twp_answers.specs.EachTract.{AreAnswersTo}
use Rattle.twp_answers.proofs.EachFacts.{answers_next}
use Rattle.twp_answers.proofs.each_tract.take_records.Goals as goal

pub records-preserved : goal.records-preserved
records-preserved g c =
    let rows = records_left c.args.records.now in
    let next = rw c.if-branch.true at c.in_ok-read.ensures in
    let is = next_record_is rows c.records.taken _ _ (sym c.records.invariant.rest ∙ next.0) in
    record {
      reading = next.1;
      rest = is.after;
      within = omega (arith, is.within);
      few = omega arith;
      names = c.in_ok-answer.ensures.names rows c.records.taken is.is c.records.invariant.names;
      answers =
          rw c.in_ok-push.ensures.items
          (answers_next (g.M.Answering.answers c.args.by.now) rows c.records.taken _ _
          c.records.invariant.answers
          (c.in_ok-answer.ensures.answer rows c.records.taken is.is c.records.invariant.names (omega arith)));
    }

pub returns-clause-few : goal.returns-clause-few
returns-clause-few g c =
    let none = rw c.if-branch.false at c.in_ok-read.ensures in
    let short =
    no_record_left (records_left c.args.records.now) c.records.taken (sym c.records.invariant.rest ∙ none) in
    omega arith

pub returns-clause-answers : goal.returns-clause-answers
returns-clause-answers g c =
    let rows = records_left c.args.records.now in
    let none = rw c.if-branch.false at c.in_ok-read.ensures in
    let short = no_record_left rows c.records.taken (sym c.records.invariant.rest ∙ none) in
    let all : c.records.taken ≡ length rows = omega arith in
    subst (λ count. AreAnswersTo (g.M.Answering.answers c.args.by.now) rows count c.records.answers.items) all
    c.records.invariant.answers
