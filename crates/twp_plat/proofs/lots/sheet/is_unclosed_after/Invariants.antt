use Rattle.std.proofs.Common.{◌≡◌, drop}
use Rattle.twp_plat.specs.PlainTables.{unclosed_after}
use Rattle.twp_plat.proofs.lots.sheet.is_unclosed_after.Given as goal

abbrev pub invariant-loop-byte : goal.invariant-loop-byte
invariant-loop-byte l = unclosed_after l.unclosed (drop l.byte-index l.line) ≡ unclosed_after l.before l.line
