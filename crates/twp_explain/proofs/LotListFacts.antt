-- The first fault of a list by a lot table, or its account; over plain values.
use Rattle.std.proofs.Common.{◌≢◌, ℕ, List, refl}
use Rattle.twp_grid.specs.Townships.{Designation}
use Rattle.twp_plat.specs.declared.lots.returned.ReturnedLots.{ReturnedLots}
use Rattle.twp_answers.specs.LotAccounts.{IsAccountByLots}
use Rattle.twp_answers.specs.LotTractFaults.{AnswersFaultByLots, IsFirstFaultByLots}
use Rattle.twp_answers.specs.declared.account_figures.TractFigure.{TractFigure}
use Rattle.twp_answers.specs.declared.tract_fault.TractFault.{TractFault}
use Rattle.twp_answers.specs.declared.tract_fault.TractFault.TheVariants as fault
use Rattle.twp_explain.specs.LotListRefusals.{HasAccountByLots}

-- a fault of a list is its first one
pub is_first_by : (township : Designation) (lots : ReturnedLots) (bytes : List ℕ) (is : TractFault)
    → is ≢ fault.Memory → AnswersFaultByLots township lots bytes is
    → IsFirstFaultByLots township lots bytes is
is_first_by township lots bytes fault.TractsTooLarge some first = first
is_first_by township lots bytes (fault.TractRow number) some first = first
is_first_by township lots bytes (fault.NameRepeated number) some first = first
is_first_by township lots bytes (fault.TractRefused number inner) some first = first
is_first_by township lots bytes (fault.TractsOverlap number) some first = first
is_first_by township lots bytes fault.TooManyTracts some first = first
is_first_by township lots bytes fault.Memory some first = absurd (some refl)

-- a list with this account has one
pub has_account : (township : Designation) (lots : ReturnedLots) (bytes : List ℕ)
    (figures : List TractFigure) (total : ℕ) → IsAccountByLots township lots bytes figures total
    → HasAccountByLots township lots bytes
has_account township lots bytes figures total account =
    record { figures = figures; total = total; account = account }
