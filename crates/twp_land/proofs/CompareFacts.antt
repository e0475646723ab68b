-- Sets that contain each other contain the same places.
use Rattle.std.proofs.Common.{◌≡◌, ℕ, Bool, true, false, sym, refl}
use Rattle.twp_grid.specs.Lands.{SamePlaces, ContainsAll}

pub same_of_both : (places more : ℕ → ℕ → ℕ → Bool) → ContainsAll places more → ContainsAll more places
    → SamePlaces places more
same_of_both places more first second section column row =
    alike (places section column row) (more section column row)
    (first section column row) (second section column row)
  where
    alike : (a b : Bool) → (b ≡ true → a ≡ true) → (a ≡ true → b ≡ true) → a ≡ b
    alike true true up down = refl
    alike true false up down = sym (down refl)
    alike false true up down = up refl
    alike false false up down = refl
