-- The record read so far names a lot.
use Rattle.std.proofs.Common.{refl}
use Rattle.twp_plat.proofs.lots.parsing.enter_lot.Goals as goal

pub returns-in_default-hundredths_of-clause-fault : goal.returns-in_default-hundredths_of-clause-fault
returns-in_default-hundredths_of-clause-fault c =
    (refl, rw c.field.ensures at c.in_default-hundredths_of.ensures, λ none. none _ _ c.in-Some.ensures)
