-- Section after section, what is entered is appended.
use Rattle.std.proofs.Common.{◌≡◌, ◌∙◌, ◌+◌, arith, refl, subst}
use Rattle.std.proofs.lemmas.List.{length-set}
use Rattle.twp_plat.specs.declared.lots.returned.ReturnedLots.{ReturnedLots}
use Rattle.twp_plat.proofs.lots.EnteredSections.{AreSectionsEntered, sections_all, sections_count}
use Rattle.twp_plat.proofs.lots.EnteredSections.{sections_many}
use Rattle.twp_plat.proofs.lots.EnteredSections.{sections_first, sections_next}
use Rattle.twp_plat.proofs.lots.returned.ReturnedLots.of.Goals as goal

pub loop-index-init : goal.loop-index-init
loop-index-init c = record { long = refl; so_far = sections_first c.args.entered.now _ _ _ refl }

pub returns-in_default : goal.returns-in_default
returns-in_default c =
    sections_many c.args.entered.now c.loop-index.figures c.loop-index.numbers c.loop-index.first
    c.loop-index.used c.loop-index.index c.loop-index-test.true c.loop-index.invariant.so_far
    c.in_default.ensures

pub loop-index-preserved : goal.loop-index-preserved
loop-index-preserved c =
    let so_far = c.loop-index.invariant in
    let added = c.in-Some.ensures in
    record {
      long = length-set c.loop-index.first (c.loop-index.index + 1) c.in-Some.end ∙ so_far.long;
      so_far =
          sections_next c.args.entered.now c.loop-index.figures c.loop-index.numbers c.loop-index.first
          c.append.new.figures c.append.new.numbers c.loop-index.used c.in-Some.end c.loop-index.index
          so_far.long c.loop-index-test.true so_far.so_far added.0 added.1 added.2;
    }

pub returns : goal.returns
returns c =
    let all : c.loop-index.index ≡ 36 = omega (arith, c.loop-index-test.false, c.loop-index.auto.index-end) in
    let so_far =
    subst
    (λ i. AreSectionsEntered c.args.entered.now c.loop-index.figures c.loop-index.numbers c.loop-index.first
    c.loop-index.used i) all c.loop-index.invariant.so_far in
    let lots : ReturnedLots = record {
      figures = c.loop-index.figures;
      first = c.loop-index.first;
      numbers = c.loop-index.numbers;
      plat = c.args.plat;
    } in (
      sections_count c.args.entered.now c.loop-index.figures c.loop-index.numbers c.loop-index.first
          c.loop-index.used so_far,
      refl,
      sections_all c.args.entered.now lots c.loop-index.used so_far,
    )
