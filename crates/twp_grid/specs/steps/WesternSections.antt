-- Which sections are in the western column, by their numbers.
use Rattle.std.specs.Prelude.{ℕ, ◌==◌, ◌||◌, Bool}

-- the sections of the western column
abbrev pub is_western_number : ℕ → Bool
is_western_number section =
    (section == 6) || (section == 7) || (section == 18) || (section == 19)
    || (section == 30) || (section == 31)
