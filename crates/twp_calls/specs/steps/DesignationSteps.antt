-- The machine that reads the spellings of a township: the stage after each token.
use Rattle.std.specs.Prelude.{◌≡◌, ℕ, Bool, true, false, List, [], ◌∷◌, Option, Some, None, length}
use Rattle.twp_grid.specs.Townships.{Designation}
use Rattle.twp_grammar.specs.Tokens.{Token, HasTokens}
use Rattle.twp_calls.specs.declared.designation_stage.DesignationStage.{DesignationStage}
use Rattle.twp_calls.specs.declared.designation_stage.DesignationStage.TheVariants as at
use Rattle.twp_calls.specs.declared.designation_parts.DesignationParts.{DesignationParts}
use Rattle.twp_calls.specs.declared.designation_reading.DesignationProgress.{DesignationProgress}
use Rattle.twp_calls.specs.DesignationTexts.{MarkSort, tier_word, range_word, complete, unit, tens, filled}
use Rattle.twp_calls.specs.DesignationTexts.{north_south}
use Rattle.twp_calls.specs.DesignationTexts.{east_west, stop, comma, hyphen, slash, sort_of}
use Rattle.twp_calls.specs.DesignationTexts.{mark_of_token, with_mark, no_parts, AreOf}

-- a numeral of the township's number, where letters come before it
abbrev pub numeral_of_tier : MarkSort → Option DesignationStage
numeral_of_tier complete = Some at.TierNumber
numeral_of_tier unit = Some at.TierNumber
numeral_of_tier tens = Some at.TierTens
numeral_of_tier _ = None

-- a numeral of the range's number
abbrev pub numeral_of_range : MarkSort → Option DesignationStage
numeral_of_range complete = Some at.RangeNumber
numeral_of_range unit = Some at.RangeNumber
numeral_of_range tens = Some at.RangeTens
numeral_of_range _ = None

-- a mark between the township and the range
abbrev pub between : DesignationStage → MarkSort → Option DesignationStage
between stage comma = Some stage
between stage hyphen = Some stage
between stage slash = Some stage
between stage _ = None

-- the stage after one more token
abbrev pub next_stage : DesignationStage → MarkSort → Option DesignationStage
next_stage at.Start tier_word = Some at.Tier
next_stage at.Start complete = Some at.BareNumber
next_stage at.Start unit = Some at.BareNumber
next_stage at.Start tens = Some at.BareTens
next_stage at.Start filled = Some at.Filled
next_stage at.Tier stop = Some at.TierMark
next_stage at.Tier hyphen = Some at.TierMark
next_stage at.Tier sort = numeral_of_tier sort
next_stage at.TierMark sort = numeral_of_tier sort
next_stage at.TierNumber hyphen = Some at.TierHyphen
next_stage at.TierNumber north_south = Some at.TierSide
next_stage at.TierTens unit = Some at.TierNumber
next_stage at.TierTens hyphen = Some at.TierTensHyphen
next_stage at.TierTens north_south = Some at.TierSide
next_stage at.TierTensHyphen unit = Some at.TierNumber
next_stage at.TierTensHyphen north_south = Some at.TierSide
next_stage at.TierHyphen north_south = Some at.TierSide
next_stage at.TierSide stop = Some at.TierStop
next_stage at.TierSide range_word = Some at.Range
next_stage at.TierSide sort = between at.TierEnd sort
next_stage at.TierStop range_word = Some at.Range
next_stage at.TierStop sort = between at.TierEnd sort
next_stage at.TierEnd range_word = Some at.Range
next_stage at.Range stop = Some at.RangeMark
next_stage at.Range hyphen = Some at.RangeMark
next_stage at.Range sort = numeral_of_range sort
next_stage at.RangeMark sort = numeral_of_range sort
next_stage at.RangeNumber hyphen = Some at.RangeHyphen
next_stage at.RangeNumber east_west = Some at.RangeSide
next_stage at.RangeTens unit = Some at.RangeNumber
next_stage at.RangeTens hyphen = Some at.RangeTensHyphen
next_stage at.RangeTens east_west = Some at.RangeSide
next_stage at.RangeTensHyphen unit = Some at.RangeNumber
next_stage at.RangeTensHyphen east_west = Some at.RangeSide
next_stage at.RangeHyphen east_west = Some at.RangeSide
next_stage at.RangeSide stop = Some at.RangeStop
next_stage at.RangeSide comma = Some at.RangeEnd
next_stage at.RangeStop comma = Some at.RangeEnd
next_stage at.BareNumber hyphen = Some at.BareHyphen
next_stage at.BareNumber north_south = Some at.BareSide
next_stage at.BareTens unit = Some at.BareNumber
next_stage at.BareTens hyphen = Some at.BareTensHyphen
next_stage at.BareTens north_south = Some at.BareSide
next_stage at.BareTensHyphen unit = Some at.BareNumber
next_stage at.BareTensHyphen north_south = Some at.BareSide
next_stage at.BareHyphen north_south = Some at.BareSide
next_stage at.BareSide stop = Some at.BareStop
next_stage at.BareSide comma = Some at.RangeMark
next_stage at.BareSide hyphen = Some at.RangeMark
next_stage at.BareSide slash = Some at.RangeMark
next_stage at.BareSide sort = numeral_of_range sort
next_stage at.BareStop comma = Some at.RangeMark
next_stage at.BareStop hyphen = Some at.RangeMark
next_stage at.BareStop slash = Some at.RangeMark
next_stage at.BareStop sort = numeral_of_range sort
next_stage at.Filled north_south = Some at.FilledSide
next_stage at.FilledSide filled = Some at.FilledRange
next_stage at.FilledSide sort = between at.FilledEnd sort
next_stage at.FilledEnd filled = Some at.FilledRange
next_stage at.FilledRange east_west = Some at.RangeSide
next_stage _ _ = None

-- the tokens so far are those of a spelling
abbrev pub ends_spelling : DesignationStage → Bool
ends_spelling at.RangeSide = true
ends_spelling at.RangeStop = true
ends_spelling at.RangeEnd = true
ends_spelling _ = false

-- what was read of a text
abbrev pub read_up_to : DesignationParts → ℕ → Bool → DesignationProgress
read_up_to parts place whole = record { parts = parts; at = place; whole = whole }

-- on to the next stage, if there is one
abbrev pub go_to_stage : Option DesignationStage → (DesignationStage → DesignationProgress)
    → DesignationProgress → DesignationProgress
go_to_stage None go stopped = stopped
go_to_stage (Some stage) go stopped = go stage

-- Reading tokens from a stage on, with the parts before them, up to the first token that no spelling has
-- there, or up to the end of the text.
abbrev pub read_marks : List Token → DesignationStage → DesignationParts → ℕ → DesignationProgress
read_marks [] stage parts end = read_up_to parts end (ends_spelling stage)
read_marks (token ∷ tokens) stage parts end =
    go_to_stage (next_stage stage (sort_of (mark_of_token token)))
    (λ stage'. read_marks tokens stage' (with_mark parts (mark_of_token token)) end)
    (read_up_to parts token.at false)

-- this was read of a text
pub record IsDesignationProgress (text : List ℕ) (progress : DesignationProgress) : Type 0 where
  pub tokens : List Token
  pub cut : HasTokens 0 text tokens
  pub is : progress ≡ read_marks tokens at.Start no_parts (length text)

-- the township of what was read, if it is whole
abbrev pub IsOfDesignationProgress : DesignationProgress → Designation → Type 0
IsOfDesignationProgress progress township = (progress.whole ≡ true) × AreOf progress.parts township
