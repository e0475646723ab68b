use Rattle.std.proofs.Common.{IsTrue}
use Rattle.twp_suggest.proofs.meaning.named.all_named.Goals as goal

pub add_section-requires : goal.add_section-requires
add_section-requires g c = record { room = g.met.L.Land.roomy c.args.land.now c.in-Some.section }

pub returns-clause-added : goal.returns-clause-added
returns-clause-added g c = λ at.
    let is : IsTrue c.add_section.result = cc (c.if-not-add_section.false) in
    rw c.in-Some.is record {
      apart = c.add_section.ensures.apart is;
      added = c.add_section.ensures.places is;
    }
