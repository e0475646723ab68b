-- The entry is set.
use Rattle.std.proofs.Common.{◌≡◌, arith}
use Rattle.twp_plat.proofs.lots.EntryFacts.{set_for, others_for}
use Rattle.twp_plat.proofs.lots.land_entries.set_entry.Goals as goal

pub returns-clause-entry : goal.returns-clause-entry
returns-clause-entry c =
    set_for c.args.entries.now c.args.section c.args.lot c.args.value _ _
    (omega (arith, c.from.ensures, c.number.ensures.value, c.number.ensures.range))
    (omega (arith, c.told-entries, c.number.ensures.value, c.number.ensures.range)) c.set_lot.ensures.new
    c.set_lot.ensures.fits

pub returns-clause-others : goal.returns-clause-others
returns-clause-others c = λ section lot range least other.
    others_for c.args.entries.now c.args.section c.args.lot c.args.value section lot _ _
    (omega (arith, c.from.ensures, c.number.ensures.value, c.number.ensures.range))
    (omega (arith, c.told-entries, c.number.ensures.value, c.number.ensures.range)) range least
    c.requires.least (omega (arith, c.number.ensures.value, c.number.ensures.range)) other
    c.set_lot.ensures.new
