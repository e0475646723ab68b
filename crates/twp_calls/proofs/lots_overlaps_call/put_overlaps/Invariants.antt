use Rattle.std.proofs.Common.{◌≡◌, length}
use Rattle.std.specs.List.{SameFrom}
use Rattle.twp_calls.specs.LotOverlapCalls.{ArePlainOverlapsTo}
use Rattle.twp_calls.proofs.lots_overlaps_call.put_overlaps.Given as goal

-- the overlaps so far were put there
abbrev pub invariant-loop-index : goal.invariant-loop-index
invariant-loop-index l = record {
  length_is : length l.overlaps ≡ length l.fn.overlaps;
  plain : ArePlainOverlapsTo l.index l.found l.overlaps;
  kept : SameFrom l.fn.overlaps l.overlaps l.index;
}
