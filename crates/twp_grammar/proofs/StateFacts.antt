-- A token that some state accepts leads where its kind determines.
use Rattle.std.proofs.Common.{◌≡◌, true, false, Option, Some, None, refl}
use Rattle.std.specs.Option.{option_map, is_some}
use Rattle.twp_grammar.specs.declared.state.State.{State}
use Rattle.twp_grammar.specs.declared.state.State.TheVariants as past
use Rattle.twp_grammar.specs.Grammar.{lot, sec, north_south, east_west, corner}
use Rattle.twp_grammar.specs.Machine.{next, is_in_chain}

pub leads_on : (o : Option State) (after : State) → is_some o ≡ true
    → Some after ≡ option_map (λ _. after) o
leads_on None after h = cc h
leads_on (Some s) after h = refl

pub leads_nowhere : (o : Option State) (after : State) → is_some o ≡ false
    → None ≡ option_map (λ _. after) o
leads_nowhere None after h = refl
leads_nowhere (Some s) after h = cc h

pub ruleset leads = (leads_on, leads_nowhere)

-- a step continues a chain, or begins a part
pub chain_goes_on : (s : State) → is_in_chain s ≡ true → true ≡ is_some (next s corner)
chain_goes_on past.Step h = refl
chain_goes_on past.Of h = refl
chain_goes_on past.OfThe h = refl
chain_goes_on _ h = cc h

pub part_begins : (s : State) → is_in_chain s ≡ false → is_some (next s lot) ≡ is_some (next s corner)
part_begins past.Step h = cc h
part_begins past.Of h = cc h
part_begins past.OfThe h = cc h
part_begins _ h = refl

pub ruleset part_goes_on = (chain_goes_on, part_begins)

-- a direction that a step may begin with
pub north_south_of_step : (s : State) → is_some (next s corner) ≡ true → Some past.Side ≡ next s north_south
north_south_of_step past.SectionNumber h = refl
north_south_of_step past.SectionComma h = refl
north_south_of_step past.LotComma h = refl
north_south_of_step past.LotLastComma h = refl
north_south_of_step past.LotAnd h = refl
north_south_of_step past.BeforePart h = refl
north_south_of_step past.PartComma h = refl
north_south_of_step past.Step h = refl
north_south_of_step past.Of h = refl
north_south_of_step past.OfThe h = refl
north_south_of_step _ h = cc h

pub east_west_of_step : (s : State) → is_some (next s corner) ≡ true → Some past.Side ≡ next s east_west
east_west_of_step past.SectionNumber h = refl
east_west_of_step past.SectionComma h = refl
east_west_of_step past.LotComma h = refl
east_west_of_step past.LotLastComma h = refl
east_west_of_step past.LotAnd h = refl
east_west_of_step past.BeforePart h = refl
east_west_of_step past.PartComma h = refl
east_west_of_step past.Step h = refl
east_west_of_step past.Of h = refl
east_west_of_step past.OfThe h = refl
east_west_of_step _ h = cc h

-- where sections may begin, the word for them may
pub sections_begin : (s : State) → is_some (next s sec) ≡ true → Some past.SectionWord ≡ next s sec
sections_begin past.Start h = refl
sections_begin past.RangeSide h = refl
sections_begin past.RangeSideStop h = refl
sections_begin past.BeforeGroup h = refl
sections_begin past.Semicolon h = refl
sections_begin _ h = cc h

pub nothing_begins : (o : Option State) → is_some o ≡ false → None ≡ o
nothing_begins None h = refl
nothing_begins (Some s) h = cc h

pub ruleset sections_begin_there = (sections_begin, nothing_begins)
