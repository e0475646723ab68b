use Rattle.std.proofs.Common.{◌≡◌, ◌≤◌, ◌<◌, ℕ, false}
use Rattle.std.specs.Prelude.{slice_index}
use Rattle.twp_phrases.specs.Unread.{is_break}
use Rattle.twp_phrases.proofs.stretches.has_break.Given as goal

-- no byte so far is a break
abbrev pub invariant-loop-at : goal.invariant-loop-at
invariant-loop-at l = (k : ℕ) → l.from ≤ k → k < l.at → is_break (slice_index l.left k) ≡ false
