use Rattle.std.proofs.Common.{◌≡◌, length, map}
use Rattle.twp_grammar.specs.Tokens.{seen}
use Rattle.twp_read.specs.Doubts.{after_steps}
use Rattle.twp_read.proofs.doubts.parts.after_steps.Given as goal

-- what was passed over is letters and fractions
abbrev pub invariant-loop-left : goal.invariant-loop-left
invariant-loop-left l = after_steps (map seen l.left) ≡ after_steps (map seen l.fn.tokens)

abbrev pub decreases-loop-left : goal.decreases-loop-left
decreases-loop-left l = length l.left
