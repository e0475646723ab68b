-- How the assumptions of a suggested reading are stated.
use Rattle.std.specs.Prelude.{◌≡◌, ⊤, ℕ, ◌++◌, List, [], ◌∷◌, All, Some, string_bytes}
use Rattle.twp_grid.specs.Lands.{Lotting}
use Rattle.twp_diagnose.specs.declared.suggests.Suggestion.{Suggestion}
use Rattle.twp_diagnose.specs.declared.suggests.Suggestion.TheVariants.{Nothing, Beyond, Several, Only}
use Rattle.twp_rules.specs.Changes.{seen}
use Rattle.twp_rules.specs.declared.change.Change.{Change}
use Rattle.twp_suggest.specs.Assumptions.{assumed, words_of}
use Rattle.twp_suggest.specs.Readings.{AreReadings}
use Rattle.twp_suggest.specs.declared.assumptions.Assumption.{Assumption}
use Rattle.twp_suggest.specs.declared.reading.Reading.{Reading}

-- a text has a piece
pub record Has (all piece : List ℕ) : Type 0 where
  pub before : List ℕ
  pub after : List ℕ
  pub all_is : all ≡ before ++ (piece ++ after)

-- a text was appended to another
pub record Grows (old new : List ℕ) : Type 0 where
  pub more : List ℕ
  pub new_is : new ≡ old ++ more

-- a change of a text makes an assumption
abbrev pub Assumes : List ℕ → Assumption → Change → Type 0
Assumes text assumption change = assumed text (seen change) ≡ Some assumption

-- if a change makes an assumption, it is stated in words
abbrev pub IsSaid : List ℕ → List ℕ → Assumption → Change → Type 0
IsSaid text said assumption change = Assumes text assumption change → Has said (words_of assumption)

-- WHATEVER CHANGES ASSUME is said in words
abbrev pub AreSaid : List ℕ → List Change → List ℕ → Type 0
AreSaid text changes said =
    All (λ change. (assumption : Assumption) → IsSaid text said assumption change) changes

-- a suggested reading is the only one of its text on a plat, and its assumptions are stated with it
pub record IsTold (lots : Lotting) (text said : List ℕ) : Type 0 where
  pub reading : Reading
  pub only : AreReadings lots text (reading ∷ [])
  pub told : AreSaid text reading.changes.items said

-- the same of whatever is suggested
abbrev pub IsToldIn : Lotting → List ℕ → Suggestion → Type 0
IsToldIn lots text Nothing = ⊤
IsToldIn lots text (Beyond reason) = ⊤
IsToldIn lots text Several = ⊤
IsToldIn lots text (Only suggested) = IsTold lots text (string_bytes suggested.assumptions)
