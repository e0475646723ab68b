use Rattle.std.proofs.Common.{◌≡◌, ◌-◌, Bool, drop, length}
use Rattle.twp_rules.specs.Apart.{ends_after}
use Rattle.twp_rules.proofs.apart.ends_after.Given as goal

-- the rest decides nothing
abbrev pub invariant-loop-count : goal.invariant-loop-count
invariant-loop-count l =
    (ends : Bool)
    → ends_after ends l.bytes (length l.bytes - l.count) (drop (length l.bytes - l.count) l.bytes) ≡ ends
