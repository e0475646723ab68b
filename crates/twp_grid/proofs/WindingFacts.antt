-- A section's number and its row and column determine each other.
use Rattle.std.proofs.Common.{◌≡◌, ℕ, ◌+◌, ◌-◌, ◌*◌, ◌/◌, ◌%◌, ◌<◌, ◌≢◌, ◌⊎◌, inl, inr, arith}
use Rattle.twp_grid.specs.Winding.{IsSection, LiesAt}

pub parity : (n : ℕ) → (n % 2 ≡ 0) ⊎ (n % 2 ≡ 1)
parity n = grind arith

-- the code's row and column of a number
pub stands_even : (k : ℕ) → IsSection k → (k - 1) / 6 % 2 ≡ 0 → LiesAt k ((k - 1) / 6) ((k - 1) % 6)
stands_even k range even =
    record { row_range = omega arith; column_range = omega arith; winds = inl (even, omega arith) }

pub stands_odd : (k : ℕ) → IsSection k → (k - 1) / 6 % 2 ≢ 0 → LiesAt k ((k - 1) / 6) (5 - (k - 1) % 6)
stands_odd k range odd =
    record { row_range = omega arith; column_range = omega arith; winds = inr (omega arith, omega arith) }

pub ruleset where_it_stands = (stands_even, stands_odd)

pub same_standing : (k row column row' column' : ℕ) → LiesAt k row column → LiesAt k row' column'
    → (row ≡ row') × (column ≡ column')
same_standing k row column row' column' is is' = grind arith

pub same_number : (k k' row column : ℕ) → LiesAt k row column → LiesAt k' row column → k ≡ k'
same_number k k' row column is is' = grind arith

-- there is a section at each row and column
pub section_at : (row column : ℕ) → row < 6 → column < 6 → (k : ℕ) × LiesAt k row column
section_at row column row_range column_range = elim (parity row) [
  | inl even ↦ (
    6 * row + column + 1,
    record { row_range = row_range; column_range = column_range; winds = inl (even, omega arith) },
  )
  | inr odd ↦ (
    6 * row + 6 - column,
    record { row_range = row_range; column_range = column_range; winds = inr (odd, omega arith) },
  )
]
