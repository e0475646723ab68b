-- The lanes of a block: in each of its rows, the bits of its columns.
use Rattle.std.proofs.Common.{◌≡◌, ◌==◌, ℕ, zero, suc, ◌+◌, ◌-◌, ◌*◌, ◌^◌, ◌<◌, ◌≤◌, ◌&&◌, Bool, true, false}
use Rattle.std.proofs.Common.{List, [], ◌∷◌, length, get_or, ap, refl, sym, ◌∙◌, arith, replicate, map, cond}
use Rattle.std.proofs.Common.{w32}
use Rattle.std.proofs.Math.Pow.{pow_mono}
use Rattle.std.specs.Int.{bit_at}
use Rattle.std.specs.Int.Bits.{bit_and}
use Rattle.std.specs.Simd.Lanes.{zip2, sel_l, top}
use Rattle.std.proofs.lemmas.List.{get_or-replicate}
use Rattle.std.proofs.lemmas.Simd.{get_or-zip2, tops_compared, get_or-sel_l}
use Rattle.std.proofs.lemmas.Nat.{pow_pos}
use Rattle.std.proofs.lemmas.Nat.Bits.{and_pow, bit_at-lt, bit_at-zero}
use Rattle.std.proofs.lemmas.Bool.{and_right, ne_eqb, eq-eqb, eqb-true}
use Rattle.twp_grid.specs.Spans.{in_span, Rectangle, in_rectangle}
use Rattle.twp_grid.specs.Spans.{one_where}
use Rattle.twp_grid.proofs.LotFacts.{each, each_of_three}
use Rattle.twp_land.specs.steps.BitLanes.{LANE_BITS, AreBlockLanes}
use Rattle.twp_land.proofs.BitFacts.{bit_of_ones}
use Rattle.twp_land.proofs.BlockFacts.{InSection}

-- the bit of each row, in the row's lane
abbrev pub row_bits : List ℕ
row_bits =
    1 ∷ 2 ∷ 4 ∷ 8 ∷ 16 ∷ 32 ∷ 64 ∷ 128 ∷ 256 ∷ 512 ∷ 1024 ∷ 2048 ∷ 4096 ∷ 8192 ∷ 16384 ∷ 32768 ∷ 65536 ∷
    131072 ∷ 262144 ∷ 524288 ∷ 1048576 ∷ 2097152 ∷ 4194304 ∷ 8388608 ∷ 16777216 ∷ 33554432 ∷ 67108864 ∷
    134217728 ∷ 268435456 ∷ 536870912 ∷ 1073741824 ∷ 2147483648 ∷ []

powers_test : each 1 (λ a. each 1 (λ b. each LANE_BITS (λ row. get_or row_bits row 0 == 2 ^ row))) ≡ true
unfolding each
powers_test = refl

row_bit : (row : ℕ) → row < LANE_BITS → get_or row_bits row 0 ≡ 2 ^ row
row_bit row below =
    eqb-true _ _
    (each_of_three 1 1 LANE_BITS (λ a b row. get_or row_bits row 0 == 2 ^ row) 0 0 row powers_test
    (omega arith)
    (omega arith) below)

-- the lanes whose rows' bits are set
abbrev chosen : ℕ → List Bool
chosen rows = zip2 (λ a b. a == b) (zip2 bit_and (replicate LANE_BITS rows) row_bits) row_bits

abbrev pub selected : ℕ → ℕ → List ℕ
selected rows columns =
    sel_l
    (map (top (LANE_BITS - 1))
    (zip2 (λ a b. cond (a == b) (2 ^ LANE_BITS - 1) 0) (zip2 bit_and (replicate LANE_BITS rows) row_bits)
    row_bits))
    (replicate LANE_BITS columns) (replicate LANE_BITS 0)

selected_is : (rows columns : ℕ)
    → selected rows columns ≡ sel_l (chosen rows) (replicate LANE_BITS columns) (replicate LANE_BITS 0)
selected_is rows columns =
    ap (λ tests. sel_l tests (replicate LANE_BITS columns) (replicate LANE_BITS 0))
    (tops_compared w32 (λ a b. a == b) (zip2 bit_and (replicate LANE_BITS rows) row_bits) row_bits)

chosen_at : (rows row : ℕ) → row < LANE_BITS → get_or (chosen rows) row false ≡ (bit_at rows row == 1)
chosen_at rows row below =
    get_or-zip2 (λ a b. a == b) (zip2 bit_and (replicate LANE_BITS rows) row_bits) row_bits row 0 0 false
    below below
    ∙ ap (λ n. n == get_or row_bits row 0)
    (get_or-zip2 bit_and (replicate LANE_BITS rows) row_bits row 0 0 0 below below
    ∙ ap (λ n. bit_and n (get_or row_bits row 0)) (get_or-replicate LANE_BITS row rows 0 below))
    ∙ ap (λ power. bit_and rows power == power) (row_bit row below)
    ∙ ap (λ n. n == 2 ^ row) (and_pow rows row)
    ∙ test (bit_at rows row) (2 ^ row) (bit_at-lt rows row) (pow_pos row)
  where
    test : (bit power : ℕ) → bit < 2 → 0 < power → (bit * power == power) ≡ (bit == 1)
    test zero power small some = ne_eqb _ _ (λ e. absurd (omega arith))
    test (suc zero) power small some = eq-eqb _ _ (omega arith)
    test (suc (suc bit)) power small some = absurd (omega arith)

selected_at : (rows columns row : ℕ) → row < LANE_BITS
    → get_or (selected rows columns) row 0 ≡ cond (bit_at rows row == 1) columns 0
selected_at rows columns row below =
    ap (λ lanes. get_or lanes row 0) (selected_is rows columns)
    ∙ get_or-sel_l (chosen rows) (replicate LANE_BITS columns) (replicate LANE_BITS 0) row 0 below below below
    ∙ ap
    (λ test. cond test (get_or (replicate LANE_BITS columns) row 0) (get_or (replicate LANE_BITS 0) row 0))
    (chosen_at rows row below)
    ∙ ap (λ n. cond (bit_at rows row == 1) n (get_or (replicate LANE_BITS 0) row 0))
    (get_or-replicate LANE_BITS row columns 0 below)
    ∙ ap (λ n. cond (bit_at rows row == 1) columns n) (get_or-replicate LANE_BITS row 0 0 below)

pub are_block_lanes : (block : Rectangle) (rows columns : ℕ) → InSection block
    → rows ≡ 2 ^ (block.rows.start + block.rows.len) - 2 ^ block.rows.start
    → columns ≡ 2 ^ (block.columns.start + block.columns.len) - 2 ^ block.columns.start
    → AreBlockLanes block (selected rows columns)
are_block_lanes block rows columns lies rows-are columns-are = record {
  count = ap (λ lanes. length lanes) (selected_is rows columns);
  below = λ row below. rw (selected_at rows columns row below) (small (bit_at rows row == 1));
  bits = λ column row below.
      ap (λ n. bit_at n column) (selected_at rows columns row below)
      ∙ ap (λ bit. bit_at (cond (bit == 1) columns 0) column) (row_is row)
      ∙ bit (in_span block.rows row) column (sym (and_is column row));
}
  where
    and_true : (b : Bool) → (b && true) ≡ b
    and_true true = refl
    and_true false = refl

    small : (test : Bool) → cond test columns 0 < 2 ^ LANE_BITS
    small true =
        let most : 2 ^ (block.columns.start + block.columns.len) ≤ 2 ^ LANE_BITS =
        pow_mono {i = block.columns.start + block.columns.len} {j = LANE_BITS} lies.columns in
        omega (arith, columns-are, pow_pos block.columns.start, pow_pos LANE_BITS)
    small false = omega arith

    row_is : (row : ℕ) → bit_at rows row ≡ one_where (in_span block.rows row)
    row_is row = ap (λ n. bit_at n row) rows-are ∙ bit_of_ones block.rows row

    column_is : (column : ℕ) → bit_at columns column ≡ one_where (in_span block.columns column)
    column_is column = ap (λ n. bit_at n column) columns-are ∙ bit_of_ones block.columns column

    and_is : (column row : ℕ)
        → in_rectangle block column row ≡ (in_span block.columns column && in_span block.rows row)
    and_is column row = refl

    bit : (in_rows : Bool) (column : ℕ) {whole : Bool} → (in_span block.columns column && in_rows) ≡ whole
        → bit_at (cond (one_where in_rows == 1) columns 0) column ≡ one_where whole
    bit true column is =
        column_is column ∙ ap (λ t. one_where t) (sym (and_true (in_span block.columns column)) ∙ is)
    bit false column is =
        bit_at-zero column
        ∙ ap (λ t. one_where t) (sym (and_right (in_span block.columns column) false refl) ∙ is)
