-- The sections that a changed text names, without the land between them: only they decide where land lies.
use Rattle.std.specs.Prelude.{◌==◌, ◌&&◌, ℕ, Bool, false, List, [], ◌∷◌, ◌++◌, if◌then◌else◌}
use Rattle.twp_rules.specs.declared.mark.Mark.{Mark}
use Rattle.twp_rules.specs.declared.mark.Mark.TheVariants.{Section, Land}

-- the first of some marks is this section
abbrev pub begins_with_section : ℕ → ℕ → List Mark → Bool
begins_with_section number place [] = false
begins_with_section number place (Section next spot ∷ marks) = (next == number) && (spot == place)
begins_with_section number place (Land spot ∷ marks) = false

-- a mark before others, if it is a section, and the next one isn't the same section
abbrev pub section_before : Mark → List Mark → List Mark
section_before (Section number place) marks =
    if begins_with_section number place marks then [] else Section number place ∷ []
section_before (Land place) marks = []

-- the sections among marks, of which a single one is named as the first and as the last of a list
abbrev pub sections_of : List Mark → List Mark
sections_of [] = []
sections_of (mark ∷ marks) = section_before mark marks ++ sections_of marks
