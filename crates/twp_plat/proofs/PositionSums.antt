-- Sums over a section's places, position by position.
use Rattle.std.proofs.Common.{◌≡◌, ◌≢◌, ℕ, zero, suc, ◌+◌, ◌*◌, ◌<◌, ◌≤◌, ap, refl, sym, ◌∙◌, inl, inr, arith}
use Rattle.std.proofs.lemmas.Bool.{cases_eq}
use Rattle.twp_grid.specs.Places.{PLACE_DIGITS}
use Rattle.twp_grid.specs.Lots.{POSITIONS_ACROSS}
use Rattle.twp_plat.specs.steps.Bounds.{ACROSS, TO_POSITION}
use Rattle.twp_grid.specs.Spans.{whole_block, position_block}
use Rattle.twp_grid.specs.Spans.{total, total_over, over_positions}
use Rattle.twp_grid.proofs.TotalFacts.{total-ext, total-add, total-both, total-scale, total-swap}
use Rattle.twp_grid.proofs.TotalFacts.{total-all_zero, total-le}

pub positions-ext : (f g : ℕ → ℕ → ℕ)
    → ((column row : ℕ) → column < 4 → row < 4 → f column row ≡ g column row)
    → over_positions f ≡ over_positions g
positions-ext f g same =
    total-ext 4 (λ row. total 4 (λ column. f column row)) (λ row. total 4 (λ column. g column row))
    (λ row in-row.
    total-ext 4 (λ column. f column row) (λ column. g column row)
    (λ column in-column. same column row in-column in-row))

pub positions-le : (f g : ℕ → ℕ → ℕ) → ((column row : ℕ) → column < 4 → row < 4 → f column row ≤ g column row)
    → over_positions f ≤ over_positions g
positions-le f g least =
    total-le 4 (λ row. total 4 (λ column. f column row)) (λ row. total 4 (λ column. g column row))
    (λ row in-row.
    total-le 4 (λ column. f column row) (λ column. g column row)
    (λ column in-column. least column row in-column in-row))

pub positions-zero : (f : ℕ → ℕ → ℕ) → ((column row : ℕ) → column < 4 → row < 4 → f column row ≡ 0)
    → over_positions f ≡ 0
positions-zero f none =
    total-all_zero 4 (λ row. total 4 (λ column. f column row)) (λ row in-row.
    total-all_zero 4 (λ column. f column row) (λ column in-column. none column row in-column in-row))

pub positions-both : (f g : ℕ → ℕ → ℕ)
    → over_positions (λ column row. f column row + g column row) ≡ over_positions f + over_positions g
positions-both f g =
    total-ext 4 (λ row. total 4 (λ column. f column row + g column row))
    (λ row. total 4 (λ column. f column row) + total 4 (λ column. g column row)) (λ row _.
    total-both 4 (λ column. f column row) (λ column. g column row))
    ∙ total-both 4 (λ row. total 4 (λ column. f column row)) (λ row. total 4 (λ column. g column row))

pub positions-scale : (c : ℕ) (f : ℕ → ℕ → ℕ)
    → over_positions (λ column row. c * f column row) ≡ c * over_positions f
positions-scale c f =
    total-ext 4 (λ row. total 4 (λ column. c * f column row)) (λ row. c * total 4 (λ column. f column row))
    (λ row _. total-scale 4 c (λ column. f column row))
    ∙ total-scale 4 c (λ row. total 4 (λ column. f column row))

-- two sums that differ at one number
pub total_differs : (n at : ℕ) (f g : ℕ → ℕ) → at < n → ((k : ℕ) → k < n → k ≢ at → g k ≡ f k)
    → total n g + f at ≡ total n f + g at
unfolding total
total_differs zero at f g below same = absurd (omega arith)
total_differs (suc n) at f g below same = elim (cases_eq n at) [
  | inl here ↦
      let lower : total n g ≡ total n f =
      total-ext n g f (λ k lt. same k (omega arith) (λ e. absurd (omega arith))) in
      let first : f at ≡ f n = ap f (sym here) in
      let second : g at ≡ g n = ap g (sym here) in
      omega arith
  | inr other ↦
      let rest = total_differs n at f g (omega arith) (λ k lt. same k (omega arith)) in
      let last : g n ≡ f n = same n (omega arith) other in
      omega arith
]

-- two sums over positions that differ at one position
pub positions_differ : (a b : ℕ) (f g : ℕ → ℕ → ℕ) → a < 4 → b < 4
    → ((column row : ℕ) → column < 4 → row < 4 → ((column ≡ a) × (row ≡ b) → ⊥) → g column row ≡ f column row)
    → over_positions g + f a b ≡ over_positions f + g a b
positions_differ a b f g in-a in-b same =
    let in_row : total 4 (λ c. g c b) + f a b ≡ total 4 (λ c. f c b) + g a b =
    total_differs 4 a (λ c. f c b) (λ c. g c b) in-a (λ c lt other. same c b lt in-b (λ h. other h.0)) in
    let rows : over_positions g + total 4 (λ c. f c b) ≡ over_positions f + total 4 (λ c. g c b) =
    total_differs 4 b (λ r. total 4 (λ c. f c r)) (λ r. total 4 (λ c. g c r)) in-b (λ r lt other.
    total-ext 4 (λ c. g c r) (λ c. f c r) (λ c lt'. same c r lt' lt (λ h. other h.1))) in
    omega arith

-- a sum by groups of one length
pub total_blocks : (m n : ℕ) (f : ℕ → ℕ) → total (m * n) f ≡ total m (λ q. total n (λ k. f (q * n + k)))
unfolding total
total_blocks zero n f = let none : zero * n ≡ 0 = omega arith in rw none refl
total_blocks (suc m) n f =
    let e : suc m * n ≡ m * n + n = omega arith in
    rw e (total-add (m * n) n f ∙ ap (λ t. t + total n (λ k. f (m * n + k))) (total_blocks m n f))

-- the sum over a section's places by positions
pub by_position : (f : ℕ → ℕ → ℕ) → total_over (whole_block PLACE_DIGITS) f ≡ over_positions (λ column row.
    total_over (position_block PLACE_DIGITS column row) f)
by_position f =
    total-ext ACROSS _ (λ up. total ACROSS (λ along. f along up))
    (λ up _. total-ext ACROSS _ (λ along. f along up) (λ along _. at along up))
    ∙ total_blocks POSITIONS_ACROSS TO_POSITION (λ up. total ACROSS (λ along. f along up))
    ∙ total-ext POSITIONS_ACROSS
    (λ row. total TO_POSITION (λ up. total ACROSS (λ along. f along (row * TO_POSITION + up)))) _
    (λ row _. in_rows row)
  where
    at : (along up : ℕ) → f (0 + along) (0 + up) ≡ f along up
    at along up =
        let e : 0 + along ≡ along = omega arith in
        let e' : 0 + up ≡ up = omega arith in
        ap (λ c. f c (0 + up)) e ∙ ap (λ r. f along r) e'

    in_rows : (row : ℕ)
        → total TO_POSITION (λ up. total ACROSS (λ along. f along (row * TO_POSITION + up)))
        ≡ total POSITIONS_ACROSS (λ column. total TO_POSITION (λ up. total TO_POSITION (λ along.
        f (column * TO_POSITION + along) (row * TO_POSITION + up))))
    in_rows row =
        total-ext TO_POSITION (λ up. total ACROSS (λ along. f along (row * TO_POSITION + up)))
        (λ up. total POSITIONS_ACROSS (λ column. total TO_POSITION (λ along.
        f (column * TO_POSITION + along) (row * TO_POSITION + up))))
        (λ up _. total_blocks POSITIONS_ACROSS TO_POSITION (λ along. f along (row * TO_POSITION + up)))
        ∙ total-swap TO_POSITION POSITIONS_ACROSS
        (λ up column. total TO_POSITION (λ along. f (column * TO_POSITION + along) (row * TO_POSITION + up)))
