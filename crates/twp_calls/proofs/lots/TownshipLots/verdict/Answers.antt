-- The township is valid.
use Rattle.std.proofs.Common.{refl}
use Rattle.twp_calls.specs.LotCalls.{by_lots}
use Rattle.twp_calls.proofs.lots.TownshipLots.verdict.Goals as goal

pub returns-in-Some : goal.returns-in-Some
returns-in-Some c = by_lots c.in-Some.field-0 c.in-Some.ensures refl
