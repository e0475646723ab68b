use Rattle.std.proofs.Common.{◌≡◌, length, map, take}
use Rattle.std.specs.List.{SameFrom}
use Rattle.twp_calls.specs.OverlapCalls.{overlap_of}
use Rattle.twp_calls.proofs.overlaps_call.put_overlaps.Given as goal

-- the overlaps so far were put there
abbrev pub invariant-loop-index : goal.invariant-loop-index
invariant-loop-index l = record {
  length_is : length l.overlaps ≡ length l.fn.overlaps;
  plain : map overlap_of (take l.index l.overlaps) ≡ take l.index l.found;
  kept : SameFrom l.fn.overlaps l.overlaps l.index;
}
