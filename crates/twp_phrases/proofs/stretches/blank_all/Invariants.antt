use Rattle.std.proofs.Common.{◌≡◌, ℕ, drop}
use Rattle.std.specs.Prelude.{slice_index}
use Rattle.twp_phrases.specs.Unread.{left_at}
use Rattle.twp_phrases.proofs.stretches.blank_all.Given as goal

-- the other phrases leave what all of them do
abbrev pub invariant-loop-phrase : goal.invariant-loop-phrase
invariant-loop-phrase l =
    (k : ℕ) → left_at (drop l.phrase-index l.phrases) k (slice_index l.left k)
    ≡ left_at l.phrases k (slice_index l.initial.left k)
