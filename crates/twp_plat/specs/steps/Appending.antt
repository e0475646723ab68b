-- The figures of one section after those of another. No public contract cites this module.
use Rattle.std.specs.Prelude.{◌≡◌, ℕ, ◌-◌, ◌≤◌, ◌<◌, nat_lt, List, get_or}
use Rattle.twp_grid.specs.Spans.{total, one_where}
use Rattle.twp_grid.specs.Lands.{LOT_NUMBER_MOST}
use Rattle.twp_plat.specs.LotTables.{figure_among, figure_within}

-- for how many lots of a section something is entered
abbrev pub count_entered : List ℕ → ℕ
count_entered entered = total LOT_NUMBER_MOST (λ less. one_where (nat_lt 0 (get_or entered less 0)))

-- the figures from a number on to an end are those that are entered; those before are as they were
pub record Appends (figures numbers figures' numbers' : List ℕ) (used end : ℕ) (entered : List ℕ)
    : Type 0 where
  pub before : (index d : ℕ) → index < used → get_or figures' index d ≡ get_or figures index d
  pub numbers_before : (index d : ℕ) → index < used → get_or numbers' index d ≡ get_or numbers index d
  pub appended : (number : ℕ) → 1 ≤ number → number ≤ LOT_NUMBER_MOST
      → figure_among figures' numbers' number used (end - used)
      ≡ figure_within (get_or entered (number - 1) 0)
  pub beyond : (number : ℕ) → LOT_NUMBER_MOST < number
      → figure_among figures' numbers' number used (end - used) ≡ 0
