-- If reading failed, there is no answer; too many bytes are refused.
use Rattle.std.proofs.Common.{[]}
use Rattle.std.specs.Prelude.{unwrap_or}
use Rattle.std.proofs.lemmas.Result.{err_from_is_err_and}
use Rattle.twp_answers.specs.ClearTracts.{IsClearList}
use Rattle.twp_answers.proofs.runs.ClarityFacts.{says_nothing_of}
use Rattle.twp_answers.proofs.RunFacts.{some_bytes, if_ok}
use Rattle.twp_answers.specs.declared.tract_fault.TractFault.TheVariants.{TractsTooLarge}
use Rattle.twp_answers.proofs.FirstTractFaults.{large_first, list_refused}
use Rattle.twp_answers.proofs.runs.report_answer.report_on.Goals as goal
use Rattle.twp_grid.specs.Lands.{STANDARD_LOTS}

pub returns-in_err-bytes-clause-answer : goal.returns-in_err-bytes-clause-answer
returns-in_err-bytes-clause-answer g c =
    let told = g.T.Source.remaining c.args.tracts.now in
    let gone = err_from_is_err_and c.from_residual.result c.from_residual.ensures.1 in
    record { bytes = unwrap_or told []; tells = some_bytes told; holds = rw gone.1 tt }

pub returns-in_default-clause-answer : goal.returns-in_default-clause-answer
returns-in_default-clause-answer g c =
    let read = rw c.in_default.is at c.in_ok-bytes.ensures.bytes in
    record {
      bytes = read.0;
      tells = read.1;
      holds = if_ok c.refuse_list.result _ _ c.refuse_list.ensures.answer (λ answer is.
          list_refused c.args.plat.now read.0 answer.text.items answer.verdict TractsTooLarge
          (large_first STANDARD_LOTS c.args.plat.now.township read.0 read.2) is.0 is.1 is.2);
    }

pub returns-in_default-clause-clear : goal.returns-in_default-clause-clear
returns-in_default-clause-clear g c =
    says_nothing_of c.refuse_list.result (g.T.Source.remaining c.args.tracts.now) (λ t. IsClearList t)
    c.refuse_list.ensures.unclear

pub returns-clause-clear : goal.returns-clause-clear
returns-clause-clear g c =
    says_nothing_of c.refuse_list-in-Err.result (g.T.Source.remaining c.args.tracts.now) (λ t. IsClearList t)
    c.refuse_list-in-Err.ensures.unclear
