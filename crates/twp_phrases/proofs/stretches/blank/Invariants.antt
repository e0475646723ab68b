use Rattle.std.proofs.Common.{◌≡◌, ◌<◌, ◌≤◌, ℕ, leb, ltb, ◌&&◌}
use Rattle.std.specs.Prelude.{slice_index, if◌then◌else◌}
use Rattle.twp_phrases.proofs.stretches.blank.Given as goal

-- each byte of the phrase so far is 0, and each other byte as it was
abbrev pub invariant-loop-at : goal.invariant-loop-at
invariant-loop-at l =
    (l.fn.phrase.start < l.at → l.at ≤ l.at-end)
    × ((k : ℕ) → slice_index l.left k
    ≡ (if (leb l.fn.phrase.start k && ltb k l.at) then 0 else slice_index l.initial.left k))
