-- The record's land is no sequence of parts.
use Rattle.std.proofs.Common.{refl}
use Rattle.twp_plat.proofs.lots.land_row.enter_parts.Goals as goal

pub returns-in-Err-NoParts-clause-fault : goal.returns-in-Err-NoParts-clause-fault
returns-in-Err-NoParts-clause-fault c =
    (refl, rw c.field.ensures at (rw c.in-Err-NoParts.field-0-is at c.in-Err-NoParts.ensures.fault))
