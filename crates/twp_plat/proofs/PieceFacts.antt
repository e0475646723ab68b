-- Pieces as they are computed: in parts of a unit, or in whole units.
use Rattle.std.proofs.Common.{◌≡◌, ℕ, ◌+◌, ◌-◌, ◌*◌, ◌/◌, ◌≤◌, ◌<◌, pos, ◌+ℤ◌, ◌-ℤ◌, ◌*ℤ◌, sym}
use Rattle.std.proofs.Common.{arith}
use Rattle.std.proofs.Math.Nat.{mul-le-mul, mul-div_cancel}
use Rattle.twp_plat.specs.Plats.{ClosingQuarters}
use Rattle.twp_plat.specs.steps.SideLimits.{HaveRegularLines}
use Rattle.twp_plat.specs.Pieces.{ratio, whole, IsSame}
use Rattle.twp_plat.specs.Pieces.{line_length, piece}
use Rattle.twp_plat.specs.Formula.{both_widths, both_heights}
use Rattle.twp_plat.proofs.StraightFacts.{weighted}
use Rattle.twp_plat.proofs.FormulaFacts.{piece_is_formula, piece_terms}
use Rattle.twp_plat.proofs.RatioFacts.{parts_of_whole}
use Rattle.twp_plat.proofs.WholeFacts.{whole_piece}

-- twice the mean of a length that varies linearly, between two points
pub doubled_mean_is : (start end length ends s e : ℕ) → ends ≤ 2 * length → s ≡ start → e ≡ end
    → pos (s * (2 * length - ends) + e * ends)
    ≡ pos (2 * start * length) +ℤ (pos end -ℤ pos start) *ℤ pos ends
doubled_mean_is start end length ends s e within s_is e_is =
    let total : 2 * length - ends + ends ≡ 2 * length = omega arith in
    let twice : start * (2 * length - ends + ends) ≡ 2 * start * length = rw total (omega arith) in
    rw (s_is, e_is, sym twice) (weighted start end (2 * length - ends) ends)

-- a piece in parts, from the sum of its widths and the sum of its heights
pub piece_in_parts : (q : ClosingQuarters) (column row widths heights : ℕ) → column < 4 → row < 4
    → pos widths ≡ both_widths q column row → pos heights ≡ both_heights q column row
    → IsSame (piece q column row)
    (ratio (pos (widths * heights)) (4 * line_length q.north * line_length q.west))
piece_in_parts q column row widths heights in_column in_row widths_are heights_are =
    let same = piece_is_formula q column row in_column in_row in
    let order : 4 * line_length q.west * line_length q.north ≡ 4 * line_length q.north * line_length q.west =
    omega arith in
    rw (sym order) (rw (sym widths_are, sym heights_are) at same)

-- a position is at most 25 by 25 chains
pub parts_most : (west north widths heights : ℕ) → widths ≤ 50000 * west → heights ≤ 50000 * north
    → widths * heights ≤ 625000000 * (4 * north * west)
parts_most west north widths heights below below' =
    let product : widths * heights ≤ (50000 * west) * (50000 * north) = mul-le-mul below below' in
    let regrouped : (50000 * west) * (50000 * north) ≡ 625000000 * (4 * north * west) = omega arith in
    omega arith

-- the whole units of a piece with regular lines, from its parts
pub whole_quotient : (q : ClosingQuarters) (column row parts divisor : ℕ) → column < 4 → row < 4
    → HaveRegularLines q
    → 0 < divisor → IsSame (piece q column row) (ratio (pos parts) divisor)
    → IsSame (piece q column row) (whole (parts / divisor))
whole_quotient q column row parts divisor in_column in_row regular some in_parts =
    let units = whole_piece q column row in_column in_row regular in
    let terms = piece_terms q column row in_column in_row in
    let product : parts ≡ units.0 * divisor =
    parts_of_whole (piece q column row) units.0 parts divisor terms.some units.1 in_parts in
    let quotient : parts / divisor ≡ units.0 = rw product (mul-div_cancel units.0 some) in
    rw quotient units.1
