-- The subcommand `normal` comes after the two before it.
use Rattle.std.proofs.Common.{◌∙◌, ap₂}
use Rattle.std.proofs.lemmas.Result.{IfOk-weaker}
use Rattle.clap.specs.Words.{with_subcommand}
use Rattle.twp_program.proofs.command.without_report.Goals as goal

pub returns : goal.returns
returns c =
    let before = c.in_ok-measures.ensures in
    let normal = c.in_ok-normal.ensures in
    IfOk-weaker c.subcommand.result _ _ (λ command adds.
    (before.0, before.1, adds.shape normal.local ∙ ap₂ with_subcommand before.2 normal.shape))
    c.subcommand.ensures
