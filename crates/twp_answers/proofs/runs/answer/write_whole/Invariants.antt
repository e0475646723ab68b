use Rattle.std.proofs.Common.{◌≡◌, ◌-◌, ◌≤◌, false, length, take}
use Rattle.std.specs.Io.KnownBytes.{Appends}
use Rattle.twp_answers.proofs.runs.answer.write_whole.Given as goal

-- the writer has not failed, and has taken the bytes so far
abbrev pub invariant-pieces : goal.invariant-pieces
invariant-pieces g l = record {
  is_open : g.W.Sink.has_failed l.out ≡ false;
  taken : Appends (g.W.Sink.contents l.fn.out) (g.W.Sink.contents l.out) (take l.at l.bytes);
  within : l.at ≤ length l.bytes;
}

abbrev pub decreases-pieces : goal.decreases-pieces
decreases-pieces g l = length l.bytes - l.at
