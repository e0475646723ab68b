-- The next record's tract is added, or has the first fault; if no record is left, all were added.
use Rattle.std.proofs.Common.{◌≡◌, refl, sym, ◌∙◌, length, subst, arith}
use Rattle.std.proofs.lemmas.Result.{err_from_is_err_and}
use Rattle.twp_notes.specs.Records.{records_left}
use Rattle.twp_notes.proofs.Taking.{next_record_is, no_record_left}
use Rattle.twp_answers.specs.steps.TractTaking.{tally_of, IsTallyOf}
use Rattle.twp_answers.specs.ClearTracts.{AreClearTracts}
use Rattle.twp_answers.proofs.ClearFacts.{one_more_clear}
use Rattle.twp_answers.proofs.TallyFacts.{next_tally}
use Rattle.twp_answers.proofs.FirstTractFaults.{refused_next}
use Rattle.twp_answers.proofs.tracts.take_tracts.Goals as goal
use Rattle.twp_grid.specs.Lands.{STANDARD_LOTS}

pub records-init : goal.records-init
records-init g c = record {
  reading = c.requires.reading;
  rest = refl;
  within = omega arith;
  few = omega arith;
  tally = c.requires.empty;
  clear = λ clear index below. absurd (omega arith);
}

pub take-requires : goal.take-requires
take-requires g c = c.records.invariant.tally.totals_are

pub records-preserved : goal.records-preserved
records-preserved g c =
    let rows = records_left c.args.records.now in
    let next = rw c.if-branch.true at c.in_ok-read.ensures in
    let is = next_record_is rows c.records.taken _ _ (sym c.records.invariant.rest ∙ next.0) in
    record {
      reading = next.1;
      rest = is.after;
      within = omega (arith, is.within);
      few = omega arith;
      tally =
          next_tally c.args.plat.now rows c.records.taken _ _ c.records.invariant.tally
          (rw is.is c.in_ok-take.ensures.taken);
      clear = λ clear.
          let taken = c.in_ok-take.ensures.clear clear in
          one_more_clear rows c.records.taken (c.records.invariant.clear taken.0) (rw is.is taken.1);
    }

pub returns-in_err-take-clause-fault : goal.returns-in_err-take-clause-fault
returns-in_err-take-clause-fault g c =
    let rows = records_left c.args.records.now in
    let next = rw c.if-branch.true at c.in_ok-read.ensures in
    let is = next_record_is rows c.records.taken _ _ (sym c.records.invariant.rest ∙ next.0) in
    let gone = err_from_is_err_and c.from_residual-in_err-take.result c.from_residual-in_err-take.ensures.1 in
    rw (gone.1, gone.2)
    (refused_next STANDARD_LOTS c.args.plat.now.township rows c.records.taken _
    c.records.invariant.tally.earlier is.within
    (omega arith) _
    (rw is.is c.in_err-take.ensures.fault))

pub returns-clause-taken : goal.returns-clause-taken
returns-clause-taken g c =
    let rows = records_left c.args.records.now in
    let none = rw c.if-branch.false at c.in_ok-read.ensures in
    let short = no_record_left rows c.records.taken (sym c.records.invariant.rest ∙ none) in
    let all : c.records.taken ≡ length rows = omega arith in
    subst (λ count. IsTallyOf c.args.plat.now rows count (tally_of g.L.PlaceSet.places c.records.account)) all
    c.records.invariant.tally

pub returns-clause-clear : goal.returns-clause-clear
returns-clause-clear g c =
    let rows = records_left c.args.records.now in
    let none = rw c.if-branch.false at c.in_ok-read.ensures in
    let short = no_record_left rows c.records.taken (sym c.records.invariant.rest ∙ none) in
    let all : c.records.taken ≡ length rows = omega arith in
    λ clear. subst (AreClearTracts rows) all (c.records.invariant.clear clear)

pub returns-clause-few : goal.returns-clause-few
returns-clause-few g c =
    let none = rw c.if-branch.false at c.in_ok-read.ensures in
    let short =
    no_record_left (records_left c.args.records.now) c.records.taken (sym c.records.invariant.rest ∙ none) in
    omega arith
