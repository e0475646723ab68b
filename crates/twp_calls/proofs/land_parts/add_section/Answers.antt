-- The section is one part, or its lots and its written parts are added.
use Rattle.std.proofs.Common.{sym, ◌∙◌, subst}
use Rattle.std.specs.List.{Contains}
use Rattle.std.proofs.lemmas.Bool.{false≢true}
use Rattle.twp_land.proofs.LottingFacts.{section_held}
use Rattle.twp_spell.proofs.HeldFacts.{lot_is_least, lot_is_most}
use Rattle.twp_calls.proofs.PartFacts.{some_parts, whole_section}
use Rattle.twp_calls.proofs.land_parts.add_section.Goals as goal

pub add_lots-requires : goal.add_lots-requires
add_lots-requires g c = λ lot there.
    let held =
    (c.in_ok-lots.ensures.listed lot).1 (subst (λ lots. Contains lots lot) c.deref.ensures.value there) in (
      lot_is_least c.args.section lot (g.L.PlaceSet.places c.args.land.now c.args.section) c.requires held,
      lot_is_most c.args.section lot (g.L.PlaceSet.places c.args.land.now c.args.section) c.requires held,
    )

pub returns-then-full : goal.returns-then-full
returns-then-full g c =
    whole_section c.args.section (g.L.PlaceSet.places c.args.land.now c.args.section)
    c.whole-whole.result c.of.result c.args.parts.now.items _
    ((section_held c.args.section (g.L.PlaceSet.places c.args.land.now c.args.section) c.whole-whole.result
    c.whole-whole.ensures).0
    (c.full.ensures.0 c.if-full.true))
    c.whole-whole.ensures c.of.ensures c.in_ok-push.ensures.items

pub returns : goal.returns
returns g c =
    some_parts c.add_blocks.result c.args.section (g.L.PlaceSet.places c.args.land.now c.args.section)
    c.deref.result.now _ c.deref-2.result.now _ c.args.parts.now.items c.add_lots.new.parts.items _
    (λ each.
    false≢true
    (sym c.if-full.false
    ∙ c.full.ensures.1
    ((section_held c.args.section (g.L.PlaceSet.places c.args.land.now c.args.section) c.whole-whole.result
    c.whole-whole.ensures).1
    each)))
    c.deref.ensures.value c.in_ok-lots.ensures c.in_ok-add_lots.ensures c.deref-2.ensures.value
    c.in_ok-blocks.ensures c.add_blocks.ensures
