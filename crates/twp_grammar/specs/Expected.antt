-- What is expected at the place where a description is wrong.
use Rattle.std.specs.Prelude.{◌≡◌, ◌⊎◌, List, [], ◌∷◌, ◌++◌}
use Rattle.twp_grammar.specs.declared.expected.Expected.{Expected}
use Rattle.twp_grammar.specs.declared.expected.Expected.TheVariants as expected
use Rattle.twp_grammar.specs.declared.state.State.{State}
use Rattle.twp_grammar.specs.declared.state.State.TheVariants as past
use Rattle.twp_grammar.specs.Grammar.{Class, sec, lot, all, and, to, inclusive, of, the, t, r}
use Rattle.twp_grammar.specs.Grammar.{north_south, east_west, corner, half, quarter, number, comma}
use Rattle.twp_grammar.specs.Grammar.{semicolon, colon, stop}

-- the beginning of a part: lots, an aliquot part, or all
abbrev pub part_begins : List Class
part_begins = lot ∷ north_south ∷ east_west ∷ corner ∷ all ∷ []

-- marks that are followed by more of a list, by another part, or by nothing
abbrev pub marks : List Class
marks = comma ∷ stop ∷ []

-- the classes of tokens that are reported as expected: each can come next
abbrev pub reported : Expected → List Class
reported expected.Beginning = t ∷ sec ∷ []
reported expected.TownshipNumber = number ∷ []
reported expected.TownshipSide = north_south ∷ []
reported expected.Range = r ∷ []
reported expected.RangeNumber = number ∷ []
reported expected.RangeSide = east_west ∷ []
reported expected.Sections = sec ∷ []
reported expected.SectionNumber = number ∷ []
reported expected.PartsOrSections = to ∷ and ∷ semicolon ∷ colon ∷ marks ++ part_begins
reported expected.PartOrSection = and ∷ number ∷ part_begins
reported expected.MoreSections = and ∷ all ∷ semicolon ∷ colon ∷ marks
reported expected.InclusiveOrMoreSections = inclusive ∷ and ∷ all ∷ semicolon ∷ colon ∷ marks
reported expected.LastSection = number ∷ []
reported expected.SectionOrAll = number ∷ and ∷ all ∷ []
reported expected.InclusiveSectionOrAll = inclusive ∷ number ∷ and ∷ all ∷ []
reported expected.All = all ∷ []
reported expected.GroupEnd = semicolon ∷ stop ∷ []
reported expected.LotNumber = number ∷ []
reported expected.MoreLots = and ∷ semicolon ∷ marks
reported expected.InclusiveOrMoreLots = inclusive ∷ and ∷ semicolon ∷ marks
reported expected.LastLot = number ∷ []
reported expected.LotOrPart = number ∷ part_begins
reported expected.InclusiveLotOrPart = inclusive ∷ number ∷ and ∷ part_begins
reported expected.Part = part_begins
reported expected.Half = half ∷ []
reported expected.Quarter = quarter ∷ []
reported expected.MoreStepsOrParts = of ∷ north_south ∷ east_west ∷ corner ∷ and ∷ semicolon ∷ marks
reported expected.MoreParts = and ∷ semicolon ∷ marks
reported expected.Step = north_south ∷ east_west ∷ corner ∷ []
reported expected.Nothing = []

-- the marks and words that can come before them, after some of the beginnings for which they are
-- reported
abbrev pub leading : Expected → List Class
leading expected.TownshipNumber = stop ∷ []
leading expected.Range = marks
leading expected.RangeNumber = stop ∷ []
leading expected.Sections = and ∷ marks
leading expected.SectionNumber = stop ∷ []
leading expected.MoreSections = to ∷ []
leading expected.MoreLots = to ∷ []
leading expected.LotOrPart = and ∷ []
leading expected.Part = and ∷ []
leading expected.Step = the ∷ []
leading _ = []

-- every token that can come next belongs to one of these classes
abbrev pub named : Expected → List Class
named e = reported e ++ leading e

-- the class is named
abbrev pub IsClassNamed : Class → List Class → Type 0
IsClassNamed class [] = ⊥
IsClassNamed class (first ∷ rest) = (class ≡ first) ⊎ IsClassNamed class rest

-- what is expected in each state
abbrev pub expected_of : State → Expected
expected_of past.Start = expected.Beginning
expected_of past.Township = expected.TownshipNumber
expected_of past.TownshipStop = expected.TownshipNumber
expected_of past.TownshipNumber = expected.TownshipSide
expected_of past.TownshipSide = expected.Range
expected_of past.TownshipSideStop = expected.Range
expected_of past.TownshipComma = expected.Range
expected_of past.Range = expected.RangeNumber
expected_of past.RangeStop = expected.RangeNumber
expected_of past.RangeNumber = expected.RangeSide
expected_of past.RangeSide = expected.Sections
expected_of past.RangeSideStop = expected.Sections
expected_of past.BeforeGroup = expected.Sections
expected_of past.Semicolon = expected.Sections
expected_of past.SectionWord = expected.SectionNumber
expected_of past.SectionStop = expected.SectionNumber
expected_of past.SectionNumber = expected.PartsOrSections
expected_of past.SectionComma = expected.PartOrSection
expected_of past.ListTo = expected.LastSection
expected_of past.ListComma = expected.SectionOrAll
expected_of past.ListLastComma = expected.InclusiveSectionOrAll
expected_of past.ListAnd = expected.SectionNumber
expected_of past.ListNumber = expected.MoreSections
expected_of past.ListLast = expected.InclusiveOrMoreSections
expected_of past.ListInclusive = expected.MoreSections
expected_of past.ListColon = expected.All
expected_of past.ListAll = expected.GroupEnd
expected_of past.Lot = expected.LotNumber
expected_of past.LotTo = expected.LastLot
expected_of past.LotComma = expected.LotOrPart
expected_of past.LotLastComma = expected.InclusiveLotOrPart
expected_of past.LotAnd = expected.LotOrPart
expected_of past.LotNumber = expected.MoreLots
expected_of past.LotLast = expected.InclusiveOrMoreLots
expected_of past.LotInclusive = expected.MoreLots
expected_of past.BeforePart = expected.Part
expected_of past.PartComma = expected.Part
expected_of past.Side = expected.Half
expected_of past.Corner = expected.Quarter
expected_of past.Step = expected.MoreStepsOrParts
expected_of past.Of = expected.Step
expected_of past.OfThe = expected.Step
expected_of past.All = expected.MoreParts
expected_of past.End = expected.Nothing
