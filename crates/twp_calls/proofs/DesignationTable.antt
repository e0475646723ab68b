-- The machine agrees with the forms: in each stage it accepts the tokens that the forms leave to be read
-- there.
use Rattle.std.proofs.Common.{◌≡◌, true, List, [], ◌∷◌, Option, Some, None}
use Rattle.std.proofs.Common.{refl}
use Rattle.twp_calls.specs.declared.designation_stage.DesignationStage.{DesignationStage}
use Rattle.twp_calls.specs.declared.designation_stage.DesignationStage.TheVariants as past
use Rattle.twp_calls.specs.DesignationTexts.{MarkSort, tier_word, range_word, complete, unit, tens, filled}
use Rattle.twp_calls.specs.DesignationTexts.{north_south}
use Rattle.twp_calls.specs.DesignationTexts.{east_west, stop, comma, hyphen, slash, other}
use Rattle.twp_calls.specs.DesignationTexts.{SpellingForm, spelling_forms}
use Rattle.twp_calls.specs.steps.DesignationSteps.{next_stage, ends_spelling}
use Rattle.twp_calls.proofs.DesignationForms.{after_forms, after_sorts, have_end}

-- a shortest way to each stage
abbrev pub way_to : DesignationStage → List MarkSort
way_to past.Start = []
way_to past.Tier = tier_word ∷ []
way_to past.TierMark = tier_word ∷ stop ∷ []
way_to past.TierNumber = tier_word ∷ complete ∷ []
way_to past.TierTens = tier_word ∷ tens ∷ []
way_to past.TierTensHyphen = tier_word ∷ tens ∷ hyphen ∷ []
way_to past.TierHyphen = tier_word ∷ complete ∷ hyphen ∷ []
way_to past.TierSide = tier_word ∷ complete ∷ north_south ∷ []
way_to past.TierStop = tier_word ∷ complete ∷ north_south ∷ stop ∷ []
way_to past.TierEnd = tier_word ∷ complete ∷ north_south ∷ comma ∷ []
way_to past.Range = tier_word ∷ complete ∷ north_south ∷ range_word ∷ []
way_to past.RangeMark = complete ∷ north_south ∷ comma ∷ []
way_to past.RangeNumber = complete ∷ north_south ∷ complete ∷ []
way_to past.RangeTens = complete ∷ north_south ∷ tens ∷ []
way_to past.RangeTensHyphen = complete ∷ north_south ∷ tens ∷ hyphen ∷ []
way_to past.RangeHyphen = complete ∷ north_south ∷ complete ∷ hyphen ∷ []
way_to past.RangeSide = complete ∷ north_south ∷ complete ∷ east_west ∷ []
way_to past.RangeStop = complete ∷ north_south ∷ complete ∷ east_west ∷ stop ∷ []
way_to past.RangeEnd = complete ∷ north_south ∷ complete ∷ east_west ∷ comma ∷ []
way_to past.BareNumber = complete ∷ []
way_to past.BareTens = tens ∷ []
way_to past.BareTensHyphen = tens ∷ hyphen ∷ []
way_to past.BareHyphen = complete ∷ hyphen ∷ []
way_to past.BareSide = complete ∷ north_south ∷ []
way_to past.BareStop = complete ∷ north_south ∷ stop ∷ []
way_to past.Filled = filled ∷ []
way_to past.FilledSide = filled ∷ north_south ∷ []
way_to past.FilledEnd = filled ∷ north_south ∷ comma ∷ []
way_to past.FilledRange = filled ∷ north_south ∷ filled ∷ []

-- a shortest way from each stage to the end of a spelling
abbrev pub way_out : DesignationStage → List MarkSort
way_out past.Start = complete ∷ north_south ∷ complete ∷ east_west ∷ []
way_out past.Tier = complete ∷ north_south ∷ range_word ∷ complete ∷ east_west ∷ []
way_out past.TierMark = complete ∷ north_south ∷ range_word ∷ complete ∷ east_west ∷ []
way_out past.TierNumber = north_south ∷ range_word ∷ complete ∷ east_west ∷ []
way_out past.TierTens = north_south ∷ range_word ∷ complete ∷ east_west ∷ []
way_out past.TierTensHyphen = north_south ∷ range_word ∷ complete ∷ east_west ∷ []
way_out past.TierHyphen = north_south ∷ range_word ∷ complete ∷ east_west ∷ []
way_out past.TierSide = range_word ∷ complete ∷ east_west ∷ []
way_out past.TierStop = range_word ∷ complete ∷ east_west ∷ []
way_out past.TierEnd = range_word ∷ complete ∷ east_west ∷ []
way_out past.Range = complete ∷ east_west ∷ []
way_out past.RangeMark = complete ∷ east_west ∷ []
way_out past.RangeNumber = east_west ∷ []
way_out past.RangeTens = east_west ∷ []
way_out past.RangeTensHyphen = east_west ∷ []
way_out past.RangeHyphen = east_west ∷ []
way_out past.RangeSide = []
way_out past.RangeStop = []
way_out past.RangeEnd = []
way_out past.BareNumber = north_south ∷ complete ∷ east_west ∷ []
way_out past.BareTens = north_south ∷ complete ∷ east_west ∷ []
way_out past.BareTensHyphen = north_south ∷ complete ∷ east_west ∷ []
way_out past.BareHyphen = north_south ∷ complete ∷ east_west ∷ []
way_out past.BareSide = complete ∷ east_west ∷ []
way_out past.BareStop = complete ∷ east_west ∷ []
way_out past.Filled = north_south ∷ filled ∷ east_west ∷ []
way_out past.FilledSide = filled ∷ east_west ∷ []
way_out past.FilledEnd = filled ∷ east_west ∷ []
way_out past.FilledRange = east_west ∷ []

-- what the forms leave to be read in each stage
abbrev pub rest_of : DesignationStage → List SpellingForm
rest_of stage = after_sorts spelling_forms (way_to stage)

abbrev pub rest_after : Option DesignationStage → List SpellingForm
rest_after None = []
rest_after (Some stage) = rest_of stage

-- this holds for each sort
abbrev pub Each : (MarkSort → Type 0) → Type 0
Each P =
    P tier_word × P range_word × P complete × P unit × P tens × P filled × P north_south × P east_west
    × P stop × P comma × P hyphen × P slash × P other

pub at_sort : (P : MarkSort → Type 0) → Each P → (sort : MarkSort) → P sort
at_sort P each tier_word = each.0
at_sort P each range_word = each.1
at_sort P each complete = each.2
at_sort P each unit = each.3
at_sort P each tens = each.4
at_sort P each filled = each.5
at_sort P each north_south = each.6
at_sort P each east_west = each.7
at_sort P each stop = each.8
at_sort P each comma = each.9
at_sort P each hyphen = each.10
at_sort P each slash = each.11
at_sort P each other = each.12

-- the machine's step from a stage is that of the forms
abbrev pub Agrees : DesignationStage → MarkSort → Type 0
Agrees stage sort = after_forms sort (rest_of stage) ≡ rest_after (next_stage stage sort)

agreed : (stage : DesignationStage) → Each (Agrees stage)
agreed past.Start = (refl, refl, refl, refl, refl, refl, refl, refl, refl, refl, refl, refl, refl)
agreed past.Tier = (refl, refl, refl, refl, refl, refl, refl, refl, refl, refl, refl, refl, refl)
agreed past.TierMark = (refl, refl, refl, refl, refl, refl, refl, refl, refl, refl, refl, refl, refl)
agreed past.TierNumber = (refl, refl, refl, refl, refl, refl, refl, refl, refl, refl, refl, refl, refl)
agreed past.TierTens = (refl, refl, refl, refl, refl, refl, refl, refl, refl, refl, refl, refl, refl)
agreed past.TierTensHyphen = (refl, refl, refl, refl, refl, refl, refl, refl, refl, refl, refl, refl, refl)
agreed past.TierHyphen = (refl, refl, refl, refl, refl, refl, refl, refl, refl, refl, refl, refl, refl)
agreed past.TierSide = (refl, refl, refl, refl, refl, refl, refl, refl, refl, refl, refl, refl, refl)
agreed past.TierStop = (refl, refl, refl, refl, refl, refl, refl, refl, refl, refl, refl, refl, refl)
agreed past.TierEnd = (refl, refl, refl, refl, refl, refl, refl, refl, refl, refl, refl, refl, refl)
agreed past.Range = (refl, refl, refl, refl, refl, refl, refl, refl, refl, refl, refl, refl, refl)
agreed past.RangeMark = (refl, refl, refl, refl, refl, refl, refl, refl, refl, refl, refl, refl, refl)
agreed past.RangeNumber = (refl, refl, refl, refl, refl, refl, refl, refl, refl, refl, refl, refl, refl)
agreed past.RangeTens = (refl, refl, refl, refl, refl, refl, refl, refl, refl, refl, refl, refl, refl)
agreed past.RangeTensHyphen = (refl, refl, refl, refl, refl, refl, refl, refl, refl, refl, refl, refl, refl)
agreed past.RangeHyphen = (refl, refl, refl, refl, refl, refl, refl, refl, refl, refl, refl, refl, refl)
agreed past.RangeSide = (refl, refl, refl, refl, refl, refl, refl, refl, refl, refl, refl, refl, refl)
agreed past.RangeStop = (refl, refl, refl, refl, refl, refl, refl, refl, refl, refl, refl, refl, refl)
agreed past.RangeEnd = (refl, refl, refl, refl, refl, refl, refl, refl, refl, refl, refl, refl, refl)
agreed past.BareNumber = (refl, refl, refl, refl, refl, refl, refl, refl, refl, refl, refl, refl, refl)
agreed past.BareTens = (refl, refl, refl, refl, refl, refl, refl, refl, refl, refl, refl, refl, refl)
agreed past.BareTensHyphen = (refl, refl, refl, refl, refl, refl, refl, refl, refl, refl, refl, refl, refl)
agreed past.BareHyphen = (refl, refl, refl, refl, refl, refl, refl, refl, refl, refl, refl, refl, refl)
agreed past.BareSide = (refl, refl, refl, refl, refl, refl, refl, refl, refl, refl, refl, refl, refl)
agreed past.BareStop = (refl, refl, refl, refl, refl, refl, refl, refl, refl, refl, refl, refl, refl)
agreed past.Filled = (refl, refl, refl, refl, refl, refl, refl, refl, refl, refl, refl, refl, refl)
agreed past.FilledSide = (refl, refl, refl, refl, refl, refl, refl, refl, refl, refl, refl, refl, refl)
agreed past.FilledEnd = (refl, refl, refl, refl, refl, refl, refl, refl, refl, refl, refl, refl, refl)
agreed past.FilledRange = (refl, refl, refl, refl, refl, refl, refl, refl, refl, refl, refl, refl, refl)

pub agrees : (stage : DesignationStage) (sort : MarkSort) → Agrees stage sort
agrees stage sort = at_sort (Agrees stage) (agreed stage) sort

pub ends_agree : (stage : DesignationStage) → have_end (rest_of stage) ≡ ends_spelling stage
ends_agree past.Start = refl
ends_agree past.Tier = refl
ends_agree past.TierMark = refl
ends_agree past.TierNumber = refl
ends_agree past.TierTens = refl
ends_agree past.TierTensHyphen = refl
ends_agree past.TierHyphen = refl
ends_agree past.TierSide = refl
ends_agree past.TierStop = refl
ends_agree past.TierEnd = refl
ends_agree past.Range = refl
ends_agree past.RangeMark = refl
ends_agree past.RangeNumber = refl
ends_agree past.RangeTens = refl
ends_agree past.RangeTensHyphen = refl
ends_agree past.RangeHyphen = refl
ends_agree past.RangeSide = refl
ends_agree past.RangeStop = refl
ends_agree past.RangeEnd = refl
ends_agree past.BareNumber = refl
ends_agree past.BareTens = refl
ends_agree past.BareTensHyphen = refl
ends_agree past.BareHyphen = refl
ends_agree past.BareSide = refl
ends_agree past.BareStop = refl
ends_agree past.Filled = refl
ends_agree past.FilledSide = refl
ends_agree past.FilledEnd = refl
ends_agree past.FilledRange = refl

pub leads_out : (stage : DesignationStage) → have_end (after_sorts (rest_of stage) (way_out stage)) ≡ true
leads_out past.Start = refl
leads_out past.Tier = refl
leads_out past.TierMark = refl
leads_out past.TierNumber = refl
leads_out past.TierTens = refl
leads_out past.TierTensHyphen = refl
leads_out past.TierHyphen = refl
leads_out past.TierSide = refl
leads_out past.TierStop = refl
leads_out past.TierEnd = refl
leads_out past.Range = refl
leads_out past.RangeMark = refl
leads_out past.RangeNumber = refl
leads_out past.RangeTens = refl
leads_out past.RangeTensHyphen = refl
leads_out past.RangeHyphen = refl
leads_out past.RangeSide = refl
leads_out past.RangeStop = refl
leads_out past.RangeEnd = refl
leads_out past.BareNumber = refl
leads_out past.BareTens = refl
leads_out past.BareTensHyphen = refl
leads_out past.BareHyphen = refl
leads_out past.BareSide = refl
leads_out past.BareStop = refl
leads_out past.Filled = refl
leads_out past.FilledSide = refl
leads_out past.FilledEnd = refl
leads_out past.FilledRange = refl
