-- Whether each number that is moved is copied: in most texts it is, or nothing is moved, and what was named
-- last decides nothing.
use Rattle.std.specs.Prelude.{◌||◌, ◌&&◌, ℕ, suc, Bool, true, false, List, [], ◌∷◌, not, slice_range}
use Rattle.twp_rules.specs.declared.rule.Rule.{Rule}
use Rattle.twp_rules.specs.declared.rule.Rule.TheVariants.{MovedSection, MovedHeading}
use Rattle.twp_rules.specs.Changes.{Change}
use Rattle.twp_rules.specs.Moves.{first_place, is_copied_by, is_number_at}

-- a rule leaves out what is written elsewhere
abbrev pub moves : Rule → Bool
moves MovedSection = true
moves MovedHeading = true
moves rule = false

-- the number at a place, if one begins there, is copied
abbrev pub is_copied_at : List ℕ → List Change → ℕ → ℕ → Bool
is_copied_at text changes start at =
    not (is_number_at text start at) || is_copied_by changes (first_place text at)

-- and each number of what is left out, from a place on
abbrev pub are_copied_from : List ℕ → List Change → ℕ → ℕ → List ℕ → Bool
are_copied_from text changes start at [] = true
are_copied_from text changes start at (byte ∷ bytes) =
    is_copied_at text changes start at && are_copied_from text changes start (suc at) bytes

-- a change moves nothing, or its numbers are copied
abbrev pub is_copied_if_moved : List ℕ → List Change → Change → Bool
is_copied_if_moved text all change =
    not (moves change.rule)
    || are_copied_from text all change.start change.start (slice_range text change.start change.end)

-- so does each change
abbrev pub are_moved_copied : List ℕ → List Change → List Change → Bool
are_moved_copied text all [] = true
are_moved_copied text all (change ∷ changes) =
    is_copied_if_moved text all change && are_moved_copied text all changes
