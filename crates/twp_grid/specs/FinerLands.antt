-- Land in which each place is divided into four, so that its column and its row have one more
-- binary digit.
use Rattle.std.specs.Prelude.{ℕ, ◌/◌, Bool}

-- the same places of a section, each divided into four
abbrev pub cut_in_four : (ℕ → ℕ → Bool) → ℕ → ℕ → Bool
cut_in_four held column row = held (column / 2) (row / 2)

-- the same land in a township
abbrev pub finer_land : (ℕ → ℕ → ℕ → Bool) → ℕ → ℕ → ℕ → Bool
finer_land places section column row = cut_in_four (places section) column row
