-- Section by section, the added places grow by its land, which shares none with the land before.
use Rattle.std.proofs.Common.{◌≡◌, ◌-◌, ◌+◌, IsTrue, subst, arith}
use Rattle.twp_grid.specs.Lands.{STANDARD_LOTS, section_places}
use Rattle.twp_land.specs.Storage.{held_by_section, all_if}
use Rattle.twp_land.proofs.LotFacts.{section_is}
use Rattle.twp_resolve.specs.steps.ResolvingSteps.{sections_from, AreAdded}
use Rattle.twp_resolve.proofs.RangeFacts.{more_added, next_section}
use Rattle.twp_resolve.proofs.whole.add_sections.Goals as goal

pub loop-number-preserved : goal.loop-number-preserved
loop-number-preserved c =
    let so_far = c.loop-number.invariant in
    let number : c.unwrap-section.result ≡ c.loop-number.number =
    section_is c.loop-number.number c.unwrap-section.result _ c.new.ensures c.unwrap-section.ensures in
    let is : IsTrue c.add_whole.result = cc (c.if-not-add_whole.false) in
    let free = rw number at c.add_whole.ensures.apart is in
    let grown = rw number at c.add_whole.ensures.places is in
    let next : c.loop-number.number ≡ c.loop-number.number + 1 - 1 = omega arith in
    record {
      least = omega (arith, so_far.least);
      added = subst (λ n.
          AreAdded (sections_from STANDARD_LOTS c.args.first n) (held_by_section all_if c.args.land.now.held)
          (held_by_section all_if c.add_whole.new.self.held)) next
          (more_added (sections_from STANDARD_LOTS c.args.first (c.loop-number.number - 1))
          (sections_from STANDARD_LOTS c.args.first c.loop-number.number)
          (held_by_section all_if c.args.land.now.held)
          (held_by_section all_if c.loop-number.land.held) (held_by_section all_if c.add_whole.new.self.held)
          (section_places STANDARD_LOTS c.loop-number.number)
          so_far.added free grown
          (next_section STANDARD_LOTS c.args.first c.loop-number.number
          (omega (arith, c.requires.first.0, so_far.least)) so_far.least));
    }

pub returns : goal.returns
returns c = λ _.
    let all : c.loop-number.number - 1 ≡ c.args.last = omega (arith, c.requires.order) in
    subst (λ n.
    AreAdded (sections_from STANDARD_LOTS c.args.first n) (held_by_section all_if c.args.land.now.held)
    (held_by_section all_if c.loop-number.land.held)) all c.loop-number.invariant.added
