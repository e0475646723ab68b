use Rattle.std.proofs.Common.{length, ◌-◌, ◌≡◌, ◌≤◌, ◌+◌, drop}
use Rattle.twp_grammar.specs.Tokens.{is_white}
use Rattle.std.specs.List.{prefix_len}
use Rattle.twp_grammar.proofs.word.after_last_white.Given as goal

-- the white space at the place so far ends where that at the first place does
abbrev pub invariant-loop-at : goal.invariant-loop-at
invariant-loop-at l =
    (l.at ≤ length l.text)
    × (l.at + prefix_len is_white (drop l.at l.text) ≡ l.from + prefix_len is_white (drop l.from l.text))

abbrev pub decreases-loop-at : goal.decreases-loop-at
decreases-loop-at l = length l.text - l.at
