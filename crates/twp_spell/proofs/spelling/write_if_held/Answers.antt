-- A section without places in the land is skipped, and any other is written after those before it.
use Rattle.std.proofs.Common.{◌+◌, ◌++◌, codes, decimal, refl, sym, ◌∙◌}
use Rattle.std.proofs.lemmas.Bool.{false≢true}
use Rattle.twp_grid.specs.Places.{PLACE_DIGITS}
use Rattle.twp_grid.specs.Spans.{whole_block}
use Rattle.twp_spell.specs.steps.SpellingSteps.{HasSection, AreBegun}
use Rattle.twp_spell.proofs.HeldFacts.{some_of_meets, meets_of_some}
use Rattle.twp_spell.proofs.SpellingFacts.{on_ok, begun_skip, begun_next, text_before, lead_written}
use Rattle.twp_spell.proofs.spelling.write_if_held.Goals as goal
use Rattle.twp_grid.specs.Lands.{lotting}

pub returns-then-is_untouched : goal.returns-then-is_untouched
returns-then-is_untouched g c = λ begun.
    let places = g.L.PlaceSet.places c.args.land.now in
    begun_skip (lotting (g.P.Lotting.layout c.args.lots.now)) c.args.township places c.args.section
    c.args.text.now.items begun
    (λ some.
    c.is_untouched.ensures c.if-is_untouched.true
    (meets_of_some (places c.args.section) (whole_block PLACE_DIGITS) refl some))

pub returns-then-not-meets : goal.returns-then-not-meets
returns-then-not-meets g c = λ begun.
    let places = g.L.PlaceSet.places c.args.land.now in
    begun_skip (lotting (g.P.Lotting.layout c.args.lots.now)) c.args.township places c.args.section
    c.args.text.now.items begun
    (λ some.
    false≢true
    (sym c.if-not-meets.true
    ∙ c.meets.ensures.1 (meets_of_some (places c.args.section) c.whole.result c.whole.ensures some)))

pub returns : goal.returns
returns g c = λ begun.
    let places = g.L.PlaceSet.places c.args.land.now in
    let new = c.write_section.new.text.items in
    let some =
    some_of_meets (places c.args.section) c.whole.result c.whole.ensures
    (c.meets.ensures.0 c.if-not-meets.false) in
    let range =
    (g.met.L.PlaceSet.within c.args.land.now c.args.section some.column some.row some.is_held).0 in
    let before = text_before c.args.township c.args.text.now.items in
    on_ok c.write_section.result
    (HasSection (lotting (g.P.Lotting.layout c.args.lots.now)) places c.args.section before new)
    (AreBegun (lotting (g.P.Lotting.layout c.args.lots.now)) c.args.township places (c.args.section + 1) new)
    (c.write_section.ensures before
    (lead_written c.args.township c.args.text.now.items c.write_lead.new.text.items
    (codes "sec. " ++ decimal c.args.section) c.in_ok-write_lead.ensures.first
    c.in_ok-write_lead.ensures.after)
    some)
    (begun_next (lotting (g.P.Lotting.layout c.args.lots.now)) c.args.township places c.args.section
    c.args.text.now.items new begun range some)
