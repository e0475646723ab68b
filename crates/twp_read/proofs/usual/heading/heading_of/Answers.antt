use Rattle.std.proofs.Common.{◌+◌, ℕ, List, [], ◌∷◌, refl}
use Rattle.twp_grid.specs.declared.township.NorthSouth.TheVariants.{N}
use Rattle.twp_grid.specs.declared.township.EastWest.TheVariants.{E}
use Rattle.twp_grammar.specs.declared.item.Item.{Item}
use Rattle.twp_grammar.specs.declared.item.Item.TheVariants.{Heading}
use Rattle.twp_grammar.specs.declared.state.State.TheVariants as past
use Rattle.twp_read.specs.steps.TokenSteps.{take_township}
use Rattle.twp_read.proofs.FrontFacts.{township_leads}
use Rattle.twp_read.proofs.Leading.{leads_then}
use Rattle.twp_read.proofs.usual.heading.heading_of.Goals as goal

pub plain_number-requires-2-clause-place : goal.plain_number-requires-2-clause-place
plain_number-requires-2-clause-place c = (c.in_ok-north_south.ensures []).within

pub returns : goal.returns
returns c items =
    let text : List ℕ = c.args.text.now in
    let number_end : ℕ = c.in_ok-number.number.end in
    let side_end : ℕ = number_end + 8 in
    let range_end : ℕ = c.in_ok-range.range.end in
    let n : ℕ = c.in_ok-number.number.numeral.value in
    let r : ℕ = c.in_ok-range.range.numeral.value in
    let side = c.in_ok-north_south.north_south in
    let way = c.in_ok-east_west.east_west in
    let at : ℕ = c.args.at in
    let begun : List Item = take_township at items in
    let numbered : List Item = Heading n N 0 E at ∷ items in
    let sided : List Item = Heading n side 0 E at ∷ items in
    let ranged : List Item = Heading n side r E at ∷ items in
    let whole : List Item = Heading n side r way at ∷ items in
    leads_then text at past.Start items range_end past.RangeNumber ranged (range_end + 4) past.BeforeGroup
    whole
    (leads_then text at past.Start items side_end past.RangeStop sided range_end past.RangeNumber ranged
    (leads_then text at past.Start items number_end past.TownshipNumber numbered side_end past.RangeStop sided
    (leads_then text at past.Start items (at + 3) past.TownshipStop begun number_end past.TownshipNumber
    numbered
    (township_leads text at items (c.if-not-goes_on.ensures.spelled refl)
    (c.if-not-goes_on.ensures.within refl))
    (c.in_ok-number.ensures.number past.TownshipStop past.TownshipNumber begun refl
    c.in_ok-number.ensures.plain))
    (c.in_ok-north_south.ensures numbered))
    (c.in_ok-range.ensures.number past.RangeStop past.RangeNumber sided refl c.in_ok-range.ensures.plain))
    (c.in_ok-east_west.ensures ranged)
