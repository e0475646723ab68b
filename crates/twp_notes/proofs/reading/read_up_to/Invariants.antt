use Rattle.std.proofs.Common.{◌≡◌, ◌-◌, ◌≤◌, false, length, vec_len}
use Rattle.std.specs.Io.KnownBytes.{Consumes}
use Rattle.twp_notes.proofs.reading.read_up_to.Given as goal

-- the source has not failed, and has given the bytes read so far
abbrev pub invariant-pieces : goal.invariant-pieces
invariant-pieces g l = record {
  is_open : g.S.Source.has_failed l.source ≡ false;
  taken : Consumes (g.S.Source.remaining l.fn.source) (g.S.Source.remaining l.source) l.read.items;
  within : length l.read.items ≤ l.most;
}

abbrev pub decreases-pieces : goal.decreases-pieces
decreases-pieces g l = l.most - vec_len l.read
