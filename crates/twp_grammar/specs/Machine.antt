-- The smallest machine that accepts the sentences: which tokens may follow the beginning of one.
-- proofs/Table shows that it agrees with the grammar.
use Rattle.std.specs.Prelude.{Bool, true, false, Option}
use Rattle.std.specs.Prelude.{Some, None}
use Rattle.twp_grammar.specs.declared.state.State.{State}
use Rattle.twp_grammar.specs.declared.state.State.TheVariants as past
use Rattle.twp_grammar.specs.Grammar.{Class, sec, lot, all, and, to, inclusive, of, the, t}
use Rattle.twp_grammar.specs.Grammar.{r, north_south, east_west, corner, half, quarter, number, comma}
use Rattle.twp_grammar.specs.Grammar.{semicolon, colon, stop}

-- a group ends
abbrev pub group_end : Class → Option State
group_end semicolon = Some past.Semicolon
group_end stop = Some past.End
group_end _ = None

-- a part begins
abbrev pub before_part : Class → Option State
before_part lot = Some past.Lot
before_part north_south = Some past.Side
before_part east_west = Some past.Side
before_part corner = Some past.Corner
before_part all = Some past.All
before_part _ = None

-- the state after one more token
abbrev pub next : State → Class → Option State
next past.Start t = Some past.Township
next past.Start sec = Some past.SectionWord
next past.Township stop = Some past.TownshipStop
next past.Township number = Some past.TownshipNumber
next past.TownshipStop number = Some past.TownshipNumber
next past.TownshipNumber north_south = Some past.TownshipSide
next past.TownshipSide stop = Some past.TownshipSideStop
next past.TownshipSide comma = Some past.TownshipComma
next past.TownshipSide r = Some past.Range
next past.TownshipSideStop comma = Some past.TownshipComma
next past.TownshipSideStop r = Some past.Range
next past.TownshipComma r = Some past.Range
next past.Range stop = Some past.RangeStop
next past.Range number = Some past.RangeNumber
next past.RangeStop number = Some past.RangeNumber
next past.RangeNumber east_west = Some past.RangeSide
next past.RangeSide stop = Some past.RangeSideStop
next past.RangeSide comma = Some past.BeforeGroup
next past.RangeSide sec = Some past.SectionWord
next past.RangeSideStop comma = Some past.BeforeGroup
next past.RangeSideStop sec = Some past.SectionWord
next past.BeforeGroup sec = Some past.SectionWord
next past.Semicolon and = Some past.BeforeGroup
next past.Semicolon sec = Some past.SectionWord
next past.SectionWord stop = Some past.SectionStop
next past.SectionWord number = Some past.SectionNumber
next past.SectionStop number = Some past.SectionNumber
next past.SectionNumber to = Some past.ListTo
next past.SectionNumber comma = Some past.SectionComma
next past.SectionNumber colon = Some past.BeforePart
next past.SectionNumber and = Some past.ListAnd
next past.SectionNumber semicolon = Some past.Semicolon
next past.SectionNumber stop = Some past.End
next past.SectionNumber class = before_part class
next past.SectionComma and = Some past.ListAnd
next past.SectionComma number = Some past.ListNumber
next past.SectionComma class = before_part class
next past.ListNumber to = Some past.ListTo
next past.ListNumber comma = Some past.ListComma
next past.ListNumber and = Some past.ListAnd
next past.ListNumber all = Some past.ListAll
next past.ListNumber colon = Some past.ListColon
next past.ListNumber class = group_end class
next past.ListTo number = Some past.ListLast
next past.ListLast inclusive = Some past.ListInclusive
next past.ListLast comma = Some past.ListLastComma
next past.ListLast and = Some past.ListAnd
next past.ListLast all = Some past.ListAll
next past.ListLast colon = Some past.ListColon
next past.ListLast class = group_end class
next past.ListInclusive comma = Some past.ListComma
next past.ListInclusive and = Some past.ListAnd
next past.ListInclusive all = Some past.ListAll
next past.ListInclusive colon = Some past.ListColon
next past.ListInclusive class = group_end class
next past.ListComma number = Some past.ListNumber
next past.ListComma and = Some past.ListAnd
next past.ListComma all = Some past.ListAll
next past.ListLastComma number = Some past.ListNumber
next past.ListLastComma inclusive = Some past.ListInclusive
next past.ListLastComma and = Some past.ListAnd
next past.ListLastComma all = Some past.ListAll
next past.ListAnd number = Some past.ListNumber
next past.ListColon all = Some past.ListAll
next past.ListAll class = group_end class
next past.Lot number = Some past.LotNumber
next past.LotNumber to = Some past.LotTo
next past.LotNumber comma = Some past.LotComma
next past.LotNumber and = Some past.LotAnd
next past.LotNumber class = group_end class
next past.LotTo number = Some past.LotLast
next past.LotLast inclusive = Some past.LotInclusive
next past.LotLast comma = Some past.LotLastComma
next past.LotLast and = Some past.LotAnd
next past.LotLast class = group_end class
next past.LotInclusive comma = Some past.LotComma
next past.LotInclusive and = Some past.LotAnd
next past.LotInclusive class = group_end class
next past.LotComma number = Some past.LotNumber
next past.LotComma and = Some past.LotAnd
next past.LotComma class = before_part class
next past.LotLastComma number = Some past.LotNumber
next past.LotLastComma inclusive = Some past.LotInclusive
next past.LotLastComma and = Some past.LotAnd
next past.LotLastComma class = before_part class
next past.LotAnd number = Some past.LotNumber
next past.LotAnd class = before_part class
next past.BeforePart class = before_part class
next past.PartComma and = Some past.BeforePart
next past.PartComma class = before_part class
next past.Side half = Some past.Step
next past.Corner quarter = Some past.Step
next past.Step of = Some past.Of
next past.Step north_south = Some past.Side
next past.Step east_west = Some past.Side
next past.Step corner = Some past.Corner
next past.Step comma = Some past.PartComma
next past.Step and = Some past.BeforePart
next past.Step class = group_end class
next past.Of the = Some past.OfThe
next past.Of north_south = Some past.Side
next past.Of east_west = Some past.Side
next past.Of corner = Some past.Corner
next past.OfThe north_south = Some past.Side
next past.OfThe east_west = Some past.Side
next past.OfThe corner = Some past.Corner
next past.All comma = Some past.PartComma
next past.All and = Some past.BeforePart
next past.All class = group_end class
next _ _ = None

-- the tokens so far are a sentence
abbrev pub is_final : State → Bool
is_final past.SectionNumber = true
is_final past.ListNumber = true
is_final past.ListLast = true
is_final past.ListInclusive = true
is_final past.ListAll = true
is_final past.LotNumber = true
is_final past.LotLast = true
is_final past.LotInclusive = true
is_final past.Step = true
is_final past.All = true
is_final past.End = true
is_final _ = false

-- one more step may follow in a sequence of steps
abbrev pub is_in_chain : State → Bool
is_in_chain past.Step = true
is_in_chain past.Of = true
is_in_chain past.OfThe = true
is_in_chain _ = false
