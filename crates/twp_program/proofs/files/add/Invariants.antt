use Rattle.std.proofs.Common.{◌≡◌, ◌-◌, ◌≤◌, ◌++◌, take, length}
use Rattle.twp_program.proofs.files.add.Given as goal

-- the bytes before the current index are in the copy
abbrev pub invariant-pieces : goal.invariant-pieces
invariant-pieces l = record {
  within : l.at ≤ length l.bytes;
  copied : l.copy.items ≡ l.fn.copy.items ++ take l.at l.bytes;
}

abbrev pub decreases-pieces : goal.decreases-pieces
decreases-pieces l = length l.bytes - l.at
