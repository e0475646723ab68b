-- Where in a text phrases are that somebody says aren't land. The phrases are given as bytes in a row and
-- the offsets between them.
use Rattle.std.specs.Prelude.{◌≡◌, ◌⊎◌, ◌+◌, ◌<◌, ℕ, List, [], ◌∷◌, length, map}
use Rattle.std.specs.Prelude.{slice_index_or, slice_range}
use Rattle.twp_grid.specs.declared.refusal.Refusal.{Refusal}
use Rattle.twp_phrases.specs.SetAside.{AreRemarks, AreSetAside, IsFirstOfLand}
use Rattle.twp_phrases.specs.declared.stretches.Stretch.{Stretch}
use Rattle.twp_calls.specs.Answers.{NO_MEMORY, NO_RANGE, bare}
use Rattle.twp_calls.specs.Calls.{IsRefusedFor}
use Rattle.twp_calls.specs.ManyAnswers.{IsRange, count_between}
use Rattle.twp_calls.specs.UnreadCalls.{AreStretchesPut, run_data}
use Rattle.twp_calls.specs.declared.answer.TownshipAnswer.{TownshipAnswer}
use Rattle.twp_calls.specs.declared.unread.TownshipStretch.{TownshipStretch}

-- the most bytes of phrases, and the most phrases
abbrev pub PHRASES_LIMIT : ℕ
PHRASES_LIMIT = 65536

-- the phrases between offsets
abbrev pub phrases_between : List ℕ → List ℕ → List (List ℕ)
phrases_between bytes [] = []
phrases_between bytes (start ∷ []) = []
phrases_between bytes (start ∷ end ∷ more) =
    slice_range bytes start end ∷ phrases_between bytes (end ∷ more)

-- each offset and the next enclose some of the bytes
abbrev pub AreRanges : List ℕ → List ℕ → Type 0
AreRanges bytes offsets = (index : ℕ) → index < count_between offsets
    → IsRange bytes (slice_index_or offsets index 0) (slice_index_or offsets (index + 1) 0)

-- there are too many phrases, or they have too many bytes
abbrev pub AreTooLarge : List ℕ → List ℕ → Type 0
AreTooLarge bytes offsets = (PHRASES_LIMIT < length bytes) ⊎ (PHRASES_LIMIT < count_between offsets)

-- the refusal of phrases one of which names land, at the number of the first such phrase, from 1
pub record IsOfLand (phrases : List (List ℕ)) (answer : Refusal) : Type 0 where
  pub index : ℕ
  pub first : IsFirstOfLand phrases index
  pub is : answer ≡ record { number = 51; at = index + 1 }

-- where these phrases are in the text, as data
pub record AreDataOfSetAside (phrases : List (List ℕ)) (text : List ℕ) (list : List TownshipStretch)
    : Type 0 where
  pub found : List Stretch
  pub are : AreSetAside phrases text found
  pub list_is : list ≡ map run_data found

-- `township_set_aside`: where the phrases are; or they are too large, or don't lie in the bytes, or one of
-- them names land; or memory ran out.
pub data IsSetAsideCall (text bytes offsets : List ℕ) (old new : List TownshipStretch)
    (answer : TownshipAnswer) : Type 0 where
  set_aside : (list : List TownshipStretch) → AreRanges bytes offsets
      → AreRemarks (phrases_between bytes offsets)
      → AreDataOfSetAside (phrases_between bytes offsets) text list → AreStretchesPut list old new answer
      → IsSetAsideCall text bytes offsets old new answer
  too_large : AreTooLarge bytes offsets
      → IsRefusedFor (λ refusal. refusal ≡ record { number = 50; at = PHRASES_LIMIT }) answer
      → IsSetAsideCall text bytes offsets old new answer
  no_range : ¬ AreRanges bytes offsets → answer ≡ bare NO_RANGE
      → IsSetAsideCall text bytes offsets old new answer
  names_land : AreRanges bytes offsets → IsRefusedFor (IsOfLand (phrases_between bytes offsets)) answer
      → IsSetAsideCall text bytes offsets old new answer
  no_memory : answer ≡ bare NO_MEMORY → IsSetAsideCall text bytes offsets old new answer
