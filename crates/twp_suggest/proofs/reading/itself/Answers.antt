use Rattle.std.proofs.Common.{rules, refl}
use Rattle.twp_grid.specs.Lands.{lotting}
use Rattle.twp_suggest.specs.declared.meaning.manner.Manner.TheVariants.{Changed}
use Rattle.twp_suggest.proofs.ReadingFacts.{only_itself}
use Rattle.twp_suggest.proofs.reading.itself.Goals as goal

pub returns : goal.returns
returns g c =
    only_itself (lotting (g.P.Lotting.layout c.args._lots.now)) c.args.text.now c.push.new.self.items
    (record { changes = c.new.result; text = c.extend_from_slice.new.self; manner = Changed }) c.requires
    (search rules) (search rules) refl (search rules)
