-- Land of the only section of a changed text: most texts have one, and then its land lies with it, unless
-- land before it follows land after it.
use Rattle.std.specs.Prelude.{◌≡◌, ◌==◌, ◌||◌, ◌&&◌, ℕ, Bool, true, false, List, [], ◌∷◌, ◌++◌, Option}
use Rattle.std.specs.Prelude.{Some, None, nat_le, not}
use Rattle.twp_rules.specs.declared.alone.Alone.{Alone}
use Rattle.twp_rules.specs.declared.mark.Mark.{Mark}
use Rattle.twp_rules.specs.declared.mark.Mark.TheVariants.{Section, Land}

-- a section, with land after it in the text, or without land so far
abbrev pub alone : ℕ → ℕ → Bool → Alone
alone number section is_after = record { number = number; section = section; is_after = is_after }

-- one section is named before its land, and no land before it in the text follows land after it
abbrev pub is_alone : Option Alone → List Mark → Bool
is_alone None [] = true
is_alone None (Section number place ∷ marks) = is_alone (Some (alone number place false)) marks
is_alone None (Land place ∷ marks) = false
is_alone (Some it) [] = true
is_alone (Some it) (Section number place ∷ marks) =
    (number == it.number) && (place == it.section) && is_alone (Some it) marks
is_alone (Some it) (Land place ∷ marks) =
    (not it.is_after || nat_le it.section place)
    && is_alone (Some (alone it.number it.section (nat_le it.section place))) marks

-- after a mark, the rest decides
abbrev pub IsAloneFrom : List Mark → Option Alone → Option Alone → Type 0
IsAloneFrom first before after =
    (marks : List Mark) → is_alone after marks ≡ true → is_alone before (first ++ marks) ≡ true
