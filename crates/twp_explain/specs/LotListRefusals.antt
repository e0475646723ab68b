-- Which lists have an account by a lot table.
use Rattle.std.specs.Prelude.{ℕ, List}
use Rattle.twp_grid.specs.Townships.{Designation}
use Rattle.twp_plat.specs.declared.lots.returned.ReturnedLots.{ReturnedLots}
use Rattle.twp_answers.specs.LotAccounts.{IsAccountByLots}
use Rattle.twp_answers.specs.declared.account_figures.TractFigure.{TractFigure}

-- the list has an account by the table
pub record HasAccountByLots (township : Designation) (lots : ReturnedLots) (list : List ℕ) : Type 0 where
  pub figures : List TractFigure
  pub total : ℕ
  pub account : IsAccountByLots township lots list figures total
