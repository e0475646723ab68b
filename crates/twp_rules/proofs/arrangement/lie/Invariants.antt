use Rattle.std.proofs.Common.{◌≡◌, None, drop}
use Rattle.twp_rules.specs.Arrangement.{lie_from}
use Rattle.twp_rules.proofs.arrangement.lie.Given as goal

-- the rest decides
abbrev pub invariant-loop-mark : goal.invariant-loop-mark
invariant-loop-mark l =
    lie_from l.text l.sections 0 0 None l.marks
    ≡ lie_from l.text l.sections l.number l.section l.last (drop l.mark-index l.marks)
