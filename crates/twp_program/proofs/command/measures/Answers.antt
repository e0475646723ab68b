-- The subcommand `acres` comes after `plat`.
use Rattle.std.proofs.Common.{◌≡◌, ◌∙◌, ap₂, rules, codes, true, []}
use Rattle.std.proofs.lemmas.Result.{IfOk-weaker}
use Rattle.clap.specs.Words.{App, app_of, with_subcommand}
use Rattle.clap.specs.Simple.{new_shape}
use Rattle.twp_program.proofs.command.measures.Goals as goal

-- the command before its subcommands
abbrev alone : App
alone = record { top = record (new_shape (codes "township")) { subcommand_required = true }; subs = [] }

pub returns : goal.returns
returns c =
    let named : app_of c.subcommand_required.result ≡ alone = search rules in
    let plat = c.in_ok-plat.ensures in
    let first = c.in_ok-subcommand.ensures.shape plat.local ∙ ap₂ with_subcommand named plat.shape in
    let acres = c.in_ok-acres.ensures in
    IfOk-weaker c.subcommand-2.result _ _ (λ command adds.
    (acres.shape.0, acres.shape.1, adds.shape acres.local ∙ ap₂ with_subcommand first acres.shape.2))
    c.subcommand-2.ensures
