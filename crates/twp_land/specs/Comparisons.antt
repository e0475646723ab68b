-- How two sets of places relate, and whether both contain each lot wholly or not at all.
use Rattle.std.specs.Prelude.{ℕ, Bool}
use Rattle.twp_grid.specs.Lands.{Lotting, SharePlace, SamePlaces, ContainsAll, HasWholeLots}
use Rattle.twp_land.specs.declared.comparing.Comparison.{Comparison}
use Rattle.twp_land.specs.declared.comparing.Comparison.TheVariants.{Same, Contains, IsContained}
use Rattle.twp_land.specs.declared.comparing.Comparison.TheVariants.{Overlaps, Disjoint}

-- The first set compares in this way to the second. For each two sets, this is so of only one way.
-- The empty set is contained in each other set.
abbrev pub Compares : Comparison → (ℕ → ℕ → ℕ → Bool) → (ℕ → ℕ → ℕ → Bool) → Type 0
Compares Same places more = SamePlaces places more
Compares Contains places more = ContainsAll places more × (¬ ContainsAll more places)
Compares IsContained places more = ContainsAll more places × (¬ ContainsAll places more)
Compares Overlaps places more =
    SharePlace places more × (¬ ContainsAll places more) × (¬ ContainsAll more places)
Compares Disjoint places more =
    (¬ SharePlace places more) × (¬ ContainsAll places more) × (¬ ContainsAll more places)

-- each of the two sets contains each lot wholly or not at all
abbrev pub HaveWholeLots : Lotting → (ℕ → ℕ → ℕ → Bool) → (ℕ → ℕ → ℕ → Bool) → Type 0
HaveWholeLots lots places more = HasWholeLots lots places × HasWholeLots lots more
