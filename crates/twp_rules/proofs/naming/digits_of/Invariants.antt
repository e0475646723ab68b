use Rattle.std.proofs.Common.{◌≡◌, ◌++◌, drop, take}
use Rattle.twp_rules.specs.Naming.{digits_of}
use Rattle.twp_rules.proofs.naming.digits_of.Given as goal

-- the rest decides
abbrev pub invariant-loop-index : goal.invariant-loop-index
invariant-loop-index l = digits_of l.seen ≡ take l.index l.seen ++ digits_of (drop l.index l.seen)
