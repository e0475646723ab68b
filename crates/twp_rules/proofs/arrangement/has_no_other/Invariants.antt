use Rattle.std.proofs.Common.{◌≡◌, drop}
use Rattle.twp_rules.specs.Arrangement.{has_no_other}
use Rattle.twp_rules.proofs.arrangement.has_no_other.Given as goal

-- the rest decides
abbrev pub invariant-loop-mark : goal.invariant-loop-mark
invariant-loop-mark l =
    has_no_other l.text l.it l.from l.to l.marks
    ≡ has_no_other l.text l.it l.from l.to (drop l.mark-index l.marks)
