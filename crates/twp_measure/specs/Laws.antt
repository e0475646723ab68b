-- Laws over the definitions.
use Rattle.std.specs.Prelude.{◌≡◌, ◌↔◌, ℕ, ◌-◌, ◌*◌, ◌≤◌, List}
use Rattle.twp_measure.specs.LengthTexts.{IsLength, IsLengthText, length_text}
use Rattle.twp_measure.specs.Areas.{Fraction, IsRounded}

-- each length's text is a text of that length
abbrev pub WrittenIsRead : Type 0
WrittenIsRead = (v : ℕ) → IsLength v → IsLengthText (length_text v) v

-- a text spells at most one length
abbrev pub OneLength : Type 0
OneLength = (text : List ℕ) (v v' : ℕ) → IsLengthText text v → IsLengthText text v' → v ≡ v'

-- an area has one rounding
abbrev pub OneRounding : Type 0
OneRounding = (area : Fraction) (h h' : ℕ) → IsRounded area h → IsRounded area h' → h ≡ h'

-- h hundredths minus half a hundredth is at most the area; 0 minus a half counts as 0
abbrev pub Reaches : Fraction → ℕ → Type 0
Reaches area h = (2 * h - 1) * area.over * 100000 ≤ 2 * area.units

-- the rounding of an area is the greatest number of hundredths that it reaches
abbrev pub RoundingIsGreatest : Type 0
RoundingIsGreatest = (area : Fraction) (h : ℕ)
    → IsRounded area h ↔ (Reaches area h × ((more : ℕ) → Reaches area more → more ≤ h))
