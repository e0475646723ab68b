-- One more tract is put there.
use Rattle.std.proofs.Common.{◌≡◌, subst, arith, take, length}
use Rattle.std.specs.List.{All, SameFrom, flat_map}
use Rattle.std.proofs.lemmas.Grind.{common_steps}
use Rattle.twp_answers.specs.AccountFigures.{line_of as figure_line}
use Rattle.twp_calls.specs.Accounts.{HasEndedName, line_of}
use Rattle.twp_calls.specs.steps.Plain.{ArePlainTractsTo}
use Rattle.twp_calls.proofs.AccountFacts.{ended_next, kept_next, lines_next, plain_next}
use Rattle.twp_calls.proofs.account_call.put_tracts.Goals as goal

pub loop-index-preserved : goal.loop-index-preserved
loop-index-preserved c = record {
  length_is = grind (arith, common_steps, c.loop-index.invariant.length_is);
  lines =
      lines_next c.loop-index.index c.loop-index.tracts c.tract_of.result _ _
      (omega (arith, c.loop-index.invariant.length_is)) (omega arith) c.index-figures-index.is
      c.tract_of.ensures.line
      c.loop-index.invariant.lines;
  plain =
      plain_next c.loop-index.index c.args.figures.now _ c.loop-index.tracts c.tract_of.result
      (omega (arith, c.loop-index.invariant.length_is)) (omega arith) c.index-figures-index.is
      c.tract_of.ensures.plain c.loop-index.invariant.plain;
  ended =
      ended_next c.loop-index.index c.loop-index.tracts c.tract_of.result
      (omega (arith, c.loop-index.invariant.length_is)) c.loop-index.invariant.ended c.tract_of.ensures.ended;
  kept =
      kept_next c.loop-index.index c.args.tracts.now c.loop-index.tracts c.tract_of.result
      c.loop-index.invariant.kept;
}

pub returns-clause-lines : goal.returns-clause-lines
returns-clause-lines c =
    let all : c.loop-index.index ≡ length c.args.figures.now = omega arith in
    subst (λ n. flat_map line_of (take n c.loop-index.tracts)
    ≡ flat_map figure_line (take n c.args.figures.now)) all c.loop-index.invariant.lines

pub returns-clause-plain : goal.returns-clause-plain
returns-clause-plain c =
    let all : c.loop-index.index ≡ length c.args.figures.now = omega arith in
    subst (λ n. ArePlainTractsTo n c.args.figures.now c.loop-index.tracts) all c.loop-index.invariant.plain

pub returns-clause-ended : goal.returns-clause-ended
returns-clause-ended c =
    let all : c.loop-index.index ≡ length c.args.figures.now = omega arith in
    subst (λ n. All HasEndedName (take n c.loop-index.tracts)) all c.loop-index.invariant.ended

pub returns-clause-kept : goal.returns-clause-kept
returns-clause-kept c =
    let all : c.loop-index.index ≡ length c.args.figures.now = omega arith in
    subst (SameFrom c.args.tracts.now c.loop-index.tracts) all c.loop-index.invariant.kept
