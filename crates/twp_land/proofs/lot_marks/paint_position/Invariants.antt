use Rattle.std.proofs.Common.{◌≡◌, ◌+◌, ◌≤◌, ◌<◌, ℕ, length, get_or}
use Rattle.twp_land.proofs.lot_marks.paint_position.Given as goal

-- the places so far have the mark, and the others those that they had
abbrev pub invariant-loop-within : goal.invariant-loop-within
invariant-loop-within l = record {
  long : length l.marks ≡ 1024;
  painted : (number : ℕ) → l.first ≤ number → number < l.first + l.within
      → get_or l.marks number 0 ≡ l.mark;
  before : (number : ℕ) → number < l.first → get_or l.marks number 0 ≡ get_or l.fn.marks number 0;
  after : (number : ℕ) → l.first + l.within ≤ number
      → get_or l.marks number 0 ≡ get_or l.fn.marks number 0;
}
