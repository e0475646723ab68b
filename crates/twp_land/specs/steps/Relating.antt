-- Three tests of how two sets of places relate, and whether one section's lots are whole.
use Rattle.std.specs.Prelude.{◌↔◌, ℕ, Bool, IsTrue}
use Rattle.twp_grid.specs.Lands.{Lotting, SharePlace, ContainsAll, IsWholeOrNot}
use Rattle.twp_land.specs.declared.relation.Relation.{Relation}

-- the tests are those of these two sets
pub record Relates (relation : Relation) (places more : ℕ → ℕ → ℕ → Bool) : Type 0 where
  pub contains : IsTrue relation.contains ↔ ContainsAll places more
  pub is_contained : IsTrue relation.is_contained ↔ ContainsAll more places
  pub shares : IsTrue relation.shares ↔ SharePlace places more

-- a set in one section contains each of its lots wholly or not at all
abbrev pub HoldsWholeLots : Lotting → ℕ → (ℕ → ℕ → Bool) → Type 0
HoldsWholeLots lots section held = (lot : ℕ) → IsWholeOrNot lots section lot held
