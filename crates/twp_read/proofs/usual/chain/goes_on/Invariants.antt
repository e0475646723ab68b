use Rattle.std.proofs.Common.{◌≡◌, ℕ, ◌<◌, get_or}
use Rattle.twp_read.proofs.usual.chain.goes_on.Given as goal

-- the bytes so far are the same
abbrev pub invariant-loop-index : goal.invariant-loop-index
invariant-loop-index l = record {
  same : (k : ℕ) → k < l.index → get_or l.left k 0 ≡ get_or l.bytes k 0;
}
