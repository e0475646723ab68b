-- If a section has regular lines, its pieces are whole units.
use Rattle.std.proofs.Common.{◌≡◌, ◌==◌, ℕ, ◌+◌, ◌-◌, ◌*◌, ◌≤◌, ◌<◌, pos, ◌+ℤ◌, ◌-ℤ◌, ◌*ℤ◌, refl}
use Rattle.std.proofs.Common.{ap, sym, ◌∙◌, inl, inr, arith, if◌then◌else◌}
use Rattle.twp_plat.specs.Plats.{ClosingQuarters}
use Rattle.twp_plat.specs.steps.SideLimits.{HaveRegularLines}
use Rattle.twp_plat.specs.Pieces.{ratio, whole, IsSame}
use Rattle.twp_plat.specs.Pieces.{quarter_mile, piece}
use Rattle.twp_plat.specs.Formula.{both_ends}
use Rattle.twp_plat.proofs.FormulaFacts.{under_four, both_are, piece_is_formula, piece_terms}
use Rattle.twp_plat.proofs.RatioFacts.{whole_of_parts}

-- Along a regular line, the distances of a quarter mile's two ends add up to a multiple of eight.
record Eighths (number : ℕ) : Type 0 where
  count : ℕ
  ends : both_ends 80000 number ≡ 8 * count
  within : count ≤ 20000

eighths : (number : ℕ) → number < 4 → Eighths number
eighths number below =
    under_four Eighths number below
    (record { count = 2500; ends = refl; within = omega arith })
    (record { count = 7500; ends = refl; within = omega arith })
    (record { count = 12500; ends = refl; within = omega arith })
    (record { count = 17500; ends = refl; within = omega arith })

eight_times : (f l rest count : ℕ) → f * (8 * rest) + l * (4 * count + 4 * count) ≡ 8 * (f * rest + l * count)
eight_times f l rest count = omega arith

-- along a regular line, the values of a length at both ends of a quarter mile add up to a multiple
-- of eight
along_regular : (a b other number : ℕ) → number < 4 → other < 4
    → (sum : ℕ)
    × ((if number
    == 3 then pos (2 * a * 80000) +ℤ (pos b -ℤ pos a) *ℤ pos (both_ends 80000 other) else pos (40000 * 80000))
    ≡ pos (8 * sum))
along_regular a b other number below below' =
    let e = eighths other below' in
    let x : ℕ = 4 * e.count in
    let k : ℕ = 80000 - x in
    let parts : k + x ≡ 80000 = omega (arith, e.within) in
    let left : k + k ≡ 8 * (20000 - e.count) = omega (arith, e.within) in
    let first : ℕ = quarter_mile a number in
    let last : ℕ = quarter_mile b number in (
      first * (20000 - e.count) + last * e.count,
      both_are a b k x k x 80000 (both_ends 80000 other) number below parts parts (omega (arith, e.ends))
          ∙ ap pos (rw left (eight_times first last (20000 - e.count) e.count)),
    )

-- a column or a row that is between regular lines if it is the last one
abbrev pub IsRegularLast : ℕ → ℕ → ℕ → Type 0
IsRegularLast number first last = number ≡ 3 → (first ≡ 20000) × (last ≡ 20000)

-- a length that varies between regular lines is a quarter mile everywhere
pub between : (first last along ends number : ℕ) → number < 4 → IsRegularLast number first last
    → (if number
    == 3 then pos (2 * first * along) +ℤ (pos last -ℤ pos first) *ℤ pos ends else pos (40000 * along))
    ≡ pos (40000 * along)
between first last along ends number below regular =
    under_four (λ n.
    IsRegularLast n first last
    → (if n == 3 then pos (2 * first * along) +ℤ (pos last -ℤ pos first) *ℤ pos ends else pos (40000 * along))
    ≡ pos (40000 * along))
    number below (λ _. refl) (λ _. refl) (λ _. refl)
    (λ is. let both = is refl in rw (both.0, both.1) (ap pos (omega arith))) regular

-- the order of factors
units_of_widths : (m along : ℕ) → 40000 * along * (8 * m) ≡ m * (4 * along * 80000)
units_of_widths m along = omega arith

units_of_heights : (m along : ℕ) → 8 * m * (40000 * along) ≡ m * (4 * 80000 * along)
units_of_heights m along = omega arith

regular_north : (e w n s column row : ℕ) → column < 4 → row < 4 → n ≡ 20000 → s ≡ 20000
    → (units : ℕ)
    × IsSame (piece (record { east = e; west = w; north = n; south = s }) column row) (whole units)
regular_north e w n s column row in_column in_row n_is s_is =
    rw (n_is, s_is) (
    let q : ClosingQuarters = record { east = e; west = w; north = 20000; south = 20000 } in
    let terms = piece_terms q column row in_column in_row in
    let same = piece_is_formula q column row in_column in_row in
    let heights = along_regular e w column row in_row in_column in
    let widths =
    between 20000 20000 (60000 + w) (both_ends (60000 + w) row) column in_column (λ _. (refl, refl)) in
    let in_parts : IsSame (piece q column row)
    (ratio (pos (40000 * (60000 + w) * (8 * heights.0))) (4 * (60000 + w) * 80000)) =
    rw (widths, heights.1) at same in (
      heights.0,
      whole_of_parts (piece q column row) heights.0 (4 * (60000 + w) * 80000) terms.top (omega arith)
          terms.numerator (rw (sym (units_of_widths heights.0 (60000 + w))) in_parts),
    ))

regular_west : (e w n s column row : ℕ) → column < 4 → row < 4 → e ≡ 20000 → w ≡ 20000
    → (units : ℕ)
    × IsSame (piece (record { east = e; west = w; north = n; south = s }) column row) (whole units)
regular_west e w n s column row in_column in_row e_is w_is =
    rw (e_is, w_is) (
    let q : ClosingQuarters = record { east = 20000; west = 20000; north = n; south = s } in
    let terms = piece_terms q column row in_column in_row in
    let same = piece_is_formula q column row in_column in_row in
    let widths = along_regular s n row column in_column in_row in
    let heights =
    between 20000 20000 (60000 + n) (both_ends (60000 + n) column) row in_row (λ _. (refl, refl)) in
    let in_parts : IsSame (piece q column row)
    (ratio (pos (8 * widths.0 * (40000 * (60000 + n)))) (4 * 80000 * (60000 + n))) =
    rw (widths.1, heights) at same in (
      widths.0,
      whole_of_parts (piece q column row) widths.0 (4 * 80000 * (60000 + n)) terms.top (omega arith)
          terms.numerator (rw (sym (units_of_heights widths.0 (60000 + n))) in_parts),
    ))

pub whole_piece : (q : ClosingQuarters) (column row : ℕ) → column < 4 → row < 4 → HaveRegularLines q
    → (units : ℕ) × IsSame (piece q column row) (whole units)
whole_piece q column row in_column in_row (inl (north, south)) =
    regular_north q.east q.west q.north q.south column row in_column in_row north south
whole_piece q column row in_column in_row (inr (east, west)) =
    regular_west q.east q.west q.north q.south column row in_column in_row east west
