-- There is no such account.
use Rattle.std.proofs.Common.{sym, ◌∙◌, refl}
use Rattle.twp_calls.specs.Calls.{by_none, on_plat}
use Rattle.twp_calls.proofs.basis.Basis.of.Goals as goal

pub returns-in_default-account_of : goal.returns-in_default-account_of
returns-in_default-account_of c =
    on_plat c.in-Some.plat c.in-Some.ensures
    (by_none (sym c.account_of.ensures ∙ c.in_default-account_of.is) refl)
