use Rattle.std.proofs.Common.{◌≡◌, ◌≤◌, ◌<◌, ℕ, true}
use Rattle.std.specs.Prelude.{slice_index}
use Rattle.twp_phrases.specs.Unread.{is_of_word}
use Rattle.twp_phrases.proofs.stretches.end_of_word.Given as goal

-- each byte so far is one of a word
abbrev pub invariant-loop-at : goal.invariant-loop-at
invariant-loop-at l = (k : ℕ) → l.from ≤ k → k < l.at → is_of_word (slice_index l.left k) ≡ true
