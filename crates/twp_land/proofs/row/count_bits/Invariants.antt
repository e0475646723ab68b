use Rattle.std.proofs.Common.{◌≡◌, ◌*◌, ◌≤◌, count_ones, slice_index_or}
use Rattle.twp_grid.specs.Spans.{total}
use Rattle.twp_land.proofs.row.count_bits.Given as goal

-- the lanes so far are counted
abbrev pub invariant-loop-pair : goal.invariant-loop-pair
invariant-loop-pair l =
    (l.count ≡ total (2 * l.pair) (λ row. count_ones (slice_index_or l.lanes row 0)))
    × (l.count ≤ 64 * l.pair)
