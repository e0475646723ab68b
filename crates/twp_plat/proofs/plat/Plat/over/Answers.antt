use Rattle.std.proofs.Common.{◌≡◌, refl, sym, ◌∙◌}
use Rattle.twp_plat.specs.Plats.{AreClosingQuarters}
use Rattle.twp_plat.proofs.SideFacts.{corner_is_six, over_is}
use Rattle.twp_plat.proofs.plat.Plat.over.Goals as goal

pub returns-clause-value : goal.returns-clause-value
returns-clause-value c =
    let six : c.at.result ≡ 6 = corner_is_six c.at.result 0 5 c.at.ensures refl refl in
    let are : AreClosingQuarters c.args.self.now 6 c.quarters.result =
    rw six at c.quarters.ensures.quarters in
    c.divisor.ensures.value ∙ sym (over_is c.args.self.now c.quarters.result are)
