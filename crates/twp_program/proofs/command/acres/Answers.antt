-- The option comes after the two words.
use Rattle.std.proofs.Common.{◌≡◌, ◌∙◌, ap, ap₂, rules, codes}
use Rattle.std.proofs.lemmas.Result.{IfOk-weaker}
use Rattle.clap.specs.Words.{App, app_of, new_app, with_rule}
use Rattle.twp_program.proofs.command.acres.Goals as goal

pub returns-clause-shape : goal.returns-clause-shape
returns-clause-shape c =
    let named : app_of c.after_help.result ≡ new_app (codes "acres") = search rules in
    let first = c.in_ok-arg.ensures.shape c.notes.ensures.local ∙ ap₂ with_rule named c.notes.ensures.rule in
    let both =
    c.in_ok-arg-2.ensures.shape c.description.ensures.local
    ∙ ap₂ with_rule first c.description.ensures.rule in
    let option = c.account.ensures.rule in
    IfOk-weaker c.arg-3.result _ _ (λ command adds. (
      option.0,
      option.1,
      ap (λ (a : App). a.top) (adds.shape c.account.ensures.local ∙ ap₂ with_rule both option.2),
    )) c.arg-3.ensures
