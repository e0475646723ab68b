-- A regular township has land in each section.
use Rattle.std.proofs.Common.{arith}
use Rattle.twp_land.proofs.LottingFacts.{section_has_land}
use Rattle.twp_resolve.proofs.whole.add_run.Goals as goal

pub returns : goal.returns
returns c = λ is township section.
    let added = rw (
      c.number.ensures.value,
      c.number-2.ensures.value,
      c.in-Ok.ensures.0,
      c.in-Ok-section_of.ensures.0,
    ) at (c.add_sections.ensures is) in
    record {
      lies = (
        c.in-Ok.ensures.1,
        c.in-Ok-section_of.ensures.1,
        omega (arith, c.if-last-first.false),
        λ _ number least most. section_has_land number,
      );
      apart = added.apart;
      added = added.added;
    }
