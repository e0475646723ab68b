use Rattle.std.proofs.Common.{◌≡◌, ◌+◌, ◌*◌, ℕ, count_ones, slice_index_or, sym, arith}
use Rattle.twp_grid.proofs.TotalFacts.{total-zero, total-next}
use Rattle.twp_land.proofs.row.count_bits.Goals as goal

pub loop-pair-init : goal.loop-pair-init
loop-pair-init c = (sym (total-zero _), omega arith)

pub loop-pair-preserved : goal.loop-pair-preserved
loop-pair-preserved c =
    let pair : ℕ = c.loop-pair.pair in
    let ones : ℕ → ℕ = λ row. count_ones (slice_index_or c.args.lanes.now row 0) in
    let low = total-next (2 * pair) ones in
    let high = total-next (2 * pair + 1) ones in
    let both : 2 * (pair + 1) ≡ (2 * pair + 1) + 1 = omega arith in
    (rw both (omega (arith, low, high, c.count_pair-count.ensures.count)), omega arith)
