use Rattle.std.proofs.Common.{◌≡◌, drop}
use Rattle.twp_rules.specs.Rules.{is_figure}
use Rattle.twp_rules.proofs.figures.is_figure.Given as goal

-- the rest decides
abbrev pub invariant-loop-byte : goal.invariant-loop-byte
invariant-loop-byte l = is_figure l.seen ≡ is_figure (drop l.byte-index l.seen)
