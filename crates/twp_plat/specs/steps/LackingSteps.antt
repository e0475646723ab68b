-- The search for a lot without a figure. No public contract cites this module.
use Rattle.std.specs.Prelude.{◌≡◌, ℕ, ◌≤◌, Bool}
use Rattle.twp_grid.specs.Lands.{Lotting}
use Rattle.twp_plat.specs.LotAreas.{Lacks}

-- the first lot of a section that the set contains and for which no figure is returned
pub record IsFirstLackingIn (lots : Lotting) (figure : ℕ → ℕ → ℕ) (places : ℕ → ℕ → ℕ → Bool)
    (section found number : ℕ) : Type 0 where
  pub here : found ≡ section
  pub lacks : Lacks lots figure places section number
  pub first : (other : ℕ) → Lacks lots figure places section other → number ≤ other
