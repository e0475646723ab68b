-- Tables of returned distances.
use Rattle.std.proofs.Common.{◌≡◌, ℕ, zero, suc, get_or, replicate, refl}

-- a table of equal entries has that entry at each index
pub same_everywhere : {A : Type 0} (x : A) (n line : ℕ) → get_or (replicate n x) line x ≡ x
same_everywhere x zero line = refl
same_everywhere x (suc n) zero = refl
same_everywhere x (suc n) (suc line) = same_everywhere x n line
