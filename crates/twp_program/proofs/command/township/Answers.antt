-- The subcommand `report` comes after the others.
use Rattle.std.proofs.Common.{◌∙◌, ap₂}
use Rattle.std.proofs.lemmas.Result.{IfOk-weaker}
use Rattle.clap.specs.Words.{with_subcommand}
use Rattle.twp_program.proofs.command.township.Goals as goal

pub returns : goal.returns
returns c =
    let before = c.in_ok-without_report.ensures in
    let report = c.in_ok-report.ensures in
    IfOk-weaker c.subcommand.result _ _ (λ command adds.
    (before.0, before.1, adds.shape report.local ∙ ap₂ with_subcommand before.2 report.shape))
    c.subcommand.ensures
