use Rattle.std.proofs.Common.{◌≡◌, Ok, arith}
use Rattle.std.proofs.lemmas.Grind.{common_steps}
use Rattle.std.proofs.lemmas.Result.{err_from_is_err_and}
use Rattle.twp_plat.specs.steps.LineFaults.{AnswersLine, IsFirstLineFault}
use Rattle.twp_plat.proofs.SideFacts.{line_at}
use Rattle.twp_plat.proofs.FaultFacts.{first_here, taken_down}
use Rattle.twp_plat.proofs.plat.Plat.protract.Goals as goal

pub returns-in_err-closing_quarters : goal.returns-in_err-closing_quarters
returns-in_err-closing_quarters c =
    let same : c.unwrap-line.result ≡ c.loop-index.index =
    line_at _ _ _ c.at_index.ensures c.unwrap-line.ensures in
    let fault = c.in_err-closing_quarters.field-0.0 in
    let here : IsFirstLineFault c.unwrap-line.result c.line.result fault =
    c.in_err-closing_quarters.ensures in
    let p = err_from_is_err_and c.from_residual.result c.from_residual.ensures.1 in
    rw (p.1, p.2)
    (first_here c.args.notes.now c.loop-index.index fault (omega arith)
    (λ line below. (c.loop-index.invariant.each line below).0) (rw (c.line.ensures, same) at here))

pub loop-index-preserved : goal.loop-index-preserved
loop-index-preserved c =
    let same : c.unwrap-line.result ≡ c.loop-index.index =
    line_at _ _ _ c.at_index.ensures c.unwrap-line.ensures in
    let quarter = c.in_ok-closing_quarters.field-0 in
    let here : AnswersLine c.unwrap-line.result c.line.result (Ok quarter) =
    c.in_ok-closing_quarters.ensures in
    record {
      lines = grind (arith, common_steps);
      each =
          taken_down c.args.notes.now c.loop-index.closing_quarters c.loop-index.index c.from.result quarter
          c.from.ensures (omega arith) c.loop-index.invariant.each (rw (c.line.ensures, same) at here);
    }
