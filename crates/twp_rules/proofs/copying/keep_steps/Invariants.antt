use Rattle.std.proofs.Common.{◌≡◌, true, None, drop, map}
use Rattle.twp_rules.specs.Changes.{seen}
use Rattle.twp_rules.specs.Copying.{keep_steps}
use Rattle.twp_rules.proofs.copying.keep_steps.Given as goal

-- if the steps in the rest are whole, all are
abbrev pub invariant-loop-change : goal.invariant-loop-change
invariant-loop-change l =
    keep_steps l.made (map seen l.changes) l.run (map seen (drop l.change-index l.changes)) ≡ true
    → keep_steps l.made (map seen l.changes) None (map seen l.changes) ≡ true
