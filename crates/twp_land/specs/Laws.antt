-- Laws of combined sets of places.
use Rattle.std.specs.Prelude.{ℕ, Bool}
use Rattle.twp_grid.specs.Lands.{union, intersection, difference}
use Rattle.twp_grid.specs.Lands.{Lotting, HasWholeLots}

-- if two sets contain each lot wholly or not at all, so do their union, their intersection, and
-- their difference
abbrev pub CombinedLotsAreWhole : Type 0
CombinedLotsAreWhole = (lots : Lotting) (places more : ℕ → ℕ → ℕ → Bool)
    → HasWholeLots lots places → HasWholeLots lots more
    → HasWholeLots lots (union places more) × HasWholeLots lots (intersection places more)
    × HasWholeLots lots (difference places more)
