-- The record of the tract that was found.
use Rattle.std.proofs.Common.{arith}
use Rattle.twp_grid.specs.Lands.{lotting}
use Rattle.twp_explain.proofs.SharingFacts.{sharing_record}
use Rattle.twp_explain.proofs.sharing.first_sharing_record.Goals as goal

pub returns : goal.returns
returns g c =
    let first = rw c.in-Some.is at c.in_ok-found.ensures in
    let index = c.saturating_sub-index.ensures in
    sharing_record (lotting (g.P.Lotting.layout c.args.lots.now)) c.args.township c.args.listed.now
    c.saturating_sub-index.result c.in-Some.earlier
    c.saturating_add.result _ c.numbered.result first (omega (arith, index, c.number.ensures))
    (omega (arith, index, c.number.type_inv, c.saturating_add.ensures, first.is_earlier)) c.numbered.ensures
