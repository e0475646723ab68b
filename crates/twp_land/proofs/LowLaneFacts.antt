-- The lanes of a block with one or two rows: the bits of its columns in its rows, and no bits in
-- the others.
use Rattle.std.proofs.Common.{◌≡◌, ◌↔◌, IsTrue, ◌≢◌, ◌==◌, ℕ, ◌+◌, ◌-◌, ◌^◌, ◌<◌, ◌≤◌, ◌&&◌, Bool}
use Rattle.std.proofs.Common.{true, false, not, List, length, get_or, ap, refl, sym, subst, ◌∙◌, inl, inr}
use Rattle.std.proofs.Common.{arith}
use Rattle.std.proofs.Common.{replicate}
use Rattle.std.proofs.Math.ListN.{set}
use Rattle.std.proofs.Math.Pow.{pow_mono}
use Rattle.std.specs.Int.{bit_at}
use Rattle.std.specs.Int.Bits.{bit_and, bit_or, and_zero_r, or_zero_l, or_zero_r}
use Rattle.std.specs.Simd.Lanes.{zip2, fold_l}
use Rattle.std.proofs.lemmas.Simd.{get_or-zip2, length-zip2, put_chunk_whole}
use Rattle.std.proofs.lemmas.List.{get_or-replicate, get_or-set_same, get_or-set_other, length-set}
use Rattle.std.proofs.lemmas.List.{ext_get_or}
use Rattle.std.proofs.lemmas.Nat.{pow_pos, le_or_l, le_or_r}
use Rattle.std.proofs.lemmas.Nat.Bits.{bit_at-zero}
use Rattle.std.proofs.lemmas.Bool.{cases_eq, cases_lt, and_right, eq-eqb, ne_eqb}
use Rattle.std.proofs.lemmas.Bool.Decides.{nat_tests}
use Rattle.twp_grid.specs.Places.{PLACE_DIGITS, places_across}
use Rattle.twp_grid.specs.Spans.{in_span, Rectangle, in_rectangle}
use Rattle.twp_grid.specs.Spans.{one_where}
use Rattle.twp_grid.specs.Lands.{Meets}
use Rattle.twp_land.specs.Storage.{held_by_lane, with_block}
use Rattle.twp_land.specs.steps.BitLanes.{LANE_BITS, AreBlockLanes}
use Rattle.twp_land.proofs.BitFacts.{bit_of_ones, or_of_zeros, zeros_of_or}
use Rattle.twp_land.proofs.BlockFacts.{InSection}
use Rattle.twp_land.proofs.LaneFacts.{lanes_meet, lanes_with_block}

-- The lanes of a set, and the bits of the columns of a block with one or two rows.
module _ (lanes : List ℕ) (bits : ℕ) (block : Rectangle) (count : length lanes ≡ places_across PLACE_DIGITS)
    (some : 0 < block.rows.len) (few : block.rows.len ≤ 2)
    (are : bits ≡ 2 ^ (block.columns.start + block.columns.len) - 2 ^ block.columns.start)
    (lies : InSection block) where
  -- the first and the last row of the block, which may be the same
  abbrev first : ℕ
  first = block.rows.start

  abbrev last : ℕ
  last = block.rows.start + block.rows.len - 1

  first_row : first < places_across PLACE_DIGITS
  first_row = let within = lies.rows in omega (arith, some, within)

  last_row : last < places_across PLACE_DIGITS
  last_row = let within = lies.rows in omega (arith, some, within)

  -- a fact about the block's rows and one about the others give one about each row
  by_row : (Holds : ℕ → Type 0) (row : ℕ) → Holds first → Holds last
      → (row ≢ first → row ≢ last → Holds row) → Holds row
  by_row Holds row of_first of_last of_others = elim (cases_eq row first) [
    | inl here ↦ subst Holds (sym here) of_first
    | inr not_first ↦ elim (cases_eq row last) [
      | inl here ↦ subst Holds (sym here) of_last
      | inr not_last ↦ of_others not_first not_last
    ]
  ]

  -- no bits, and those of the block's first row
  abbrev first_lane : List ℕ
  first_lane = set (replicate (places_across PLACE_DIGITS) 0) first bits

  -- the block's lanes
  abbrev row_lanes : List ℕ
  row_lanes = set first_lane last bits

  length_first : length first_lane ≡ places_across PLACE_DIGITS
  length_first = length-set (replicate (places_across PLACE_DIGITS) 0) first bits

  length_lanes : length row_lanes ≡ places_across PLACE_DIGITS
  length_lanes = length-set first_lane last bits ∙ length_first

  lane_of_last : get_or row_lanes last 0 ≡ bits
  lane_of_last = get_or-set_same first_lane last bits 0 (omega (arith, length_first, last_row))

  lane_of_first : get_or row_lanes first 0 ≡ bits
  lane_of_first = elim (cases_eq first last) [
    | inl same ↦ subst (λ row. get_or row_lanes row 0 ≡ bits) (sym same) lane_of_last
    | inr other ↦
        get_or-set_other first_lane last first bits 0 other
        ∙ get_or-set_same (replicate (places_across PLACE_DIGITS) 0) first bits 0 first_row
  ]

  lane_of_other : (row : ℕ) → row < places_across PLACE_DIGITS → row ≢ first → row ≢ last
      → get_or row_lanes row 0 ≡ 0
  lane_of_other row below not_first not_last =
      get_or-set_other first_lane last row bits 0 not_last
      ∙ get_or-set_other (replicate (places_across PLACE_DIGITS) 0) first row bits 0 not_first
      ∙ get_or-replicate (places_across PLACE_DIGITS) row 0 0 below

  are_row_lanes : AreBlockLanes block row_lanes
  are_row_lanes = record {
    count = length_lanes;
    below = λ row below. by_row (λ r. get_or row_lanes r 0 < 2 ^ LANE_BITS) row (rw lane_of_first bits_fit)
        (rw lane_of_last bits_fit)
        (λ not_first not_last. rw (lane_of_other row below not_first not_last) (omega arith));
    bits = λ column row below.
        by_row (λ r. bit_at (get_or row_lanes r 0) column ≡ one_where (in_rectangle block column r)) row
        (rw lane_of_first (in_row column first first_in)) (rw lane_of_last (in_row column last last_in))
        (λ not_first not_last.
        rw (lane_of_other row below not_first not_last, out_of_rows column row not_first not_last)
        (bit_at-zero column));
  }
    where
      bits_fit : bits < 2 ^ LANE_BITS
      bits_fit =
          let most : 2 ^ (block.columns.start + block.columns.len) ≤ 2 ^ LANE_BITS =
          pow_mono {i = block.columns.start + block.columns.len} {j = LANE_BITS} lies.columns in
          omega (arith, are, pow_pos block.columns.start, pow_pos LANE_BITS)

      and_true : (test : Bool) → one_where test ≡ one_where (test && true)
      and_true true = refl
      and_true false = refl

      first_in : in_span block.rows first ≡ true
      first_in = grind (arith, nat_tests, some)

      last_in : in_span block.rows last ≡ true
      last_in = grind (arith, nat_tests, some)

      in_row : (column row : ℕ) → in_span block.rows row ≡ true
          → bit_at bits column ≡ one_where (in_rectangle block column row)
      in_row column row there =
          ap (λ n. bit_at n column) are ∙ bit_of_ones block.columns column
          ∙ rw there (and_true (in_span block.columns column))

      out_of_rows : (column row : ℕ) → row ≢ first → row ≢ last → in_rectangle block column row ≡ false
      out_of_rows column row not_first not_last =
          and_right (in_span block.columns column) (in_span block.rows row)
          (elim (cases_lt row first) [
            | inl below ↦ grind (arith, nat_tests)
            | inr from ↦
                let above : block.rows.start + block.rows.len ≤ row =
                omega (arith, some, few, not_first, not_last, from) in
                grind (arith, nat_tests)
          ])

  -- the bits that are both in the set and in the block
  abbrev both : List ℕ
  both = zip2 bit_and lanes row_lanes

  length_both : length both ≡ places_across PLACE_DIGITS
  length_both = length-zip2 bit_and lanes row_lanes (count ∙ sym length_lanes) ∙ count

  lane_of_both : (row : ℕ) → row < places_across PLACE_DIGITS
      → get_or both row 0 ≡ bit_and (get_or lanes row 0) (get_or row_lanes row 0)
  lane_of_both row below =
      get_or-zip2 bit_and lanes row_lanes row 0 0 0 (omega (arith, count)) (omega (arith, length_lanes))

  -- the bits of a row that are both in the set and in the block
  abbrev shared : ℕ → ℕ
  shared row = bit_and (get_or lanes row 0) bits

  none_of_rows : shared first ≡ 0 → shared last ≡ 0 → fold_l bit_or 0 both ≡ 0
  none_of_rows none_first none_last = or_of_zeros 0 both refl (λ row below.
      let within : row < places_across PLACE_DIGITS = omega (arith, length_both) in
      lane_of_both row within
      ∙ by_row (λ r. bit_and (get_or lanes r 0) (get_or row_lanes r 0) ≡ 0) row (rw lane_of_first none_first)
      (rw lane_of_last none_last)
      (λ not_first not_last.
      rw (lane_of_other row within not_first not_last) (and_zero_r (get_or lanes row 0))))

  none_in_row : (row : ℕ) → row < places_across PLACE_DIGITS → get_or row_lanes row 0 ≡ bits
      → fold_l bit_or 0 both ≡ 0 → shared row ≡ 0
  none_in_row row below its_lane none =
      ap (λ n. bit_and (get_or lanes row 0) n) (sym its_lane)
      ∙ sym (lane_of_both row below)
      ∙ (zeros_of_or 0 both none).1 row (omega (arith, length_both, below))

  pub low_meets : IsTrue (not (bit_or (shared first) (shared last) == 0)) ↔ Meets (held_by_lane lanes) block
  low_meets =
      let meet = lanes_meet lanes row_lanes block count are_row_lanes lies in (
        λ some_bit. meet.0 (ap (λ t. not t) (sym same_test) ∙ some_bit),
        λ meets. ap (λ t. not t) same_test ∙ meet.1 meets,
      )
    where
      of_or : bit_or (shared first) (shared last) ≡ 0 → fold_l bit_or 0 both ≡ 0
      of_or none =
          none_of_rows (omega (arith, none, le_or_l (shared first) (shared last)))
          (omega (arith, none, le_or_r (shared first) (shared last)))

      to_or : fold_l bit_or 0 both ≡ 0 → bit_or (shared first) (shared last) ≡ 0
      to_or none =
          ap (λ n. bit_or n (shared last)) (none_in_row first first_row lane_of_first none)
          ∙ or_zero_l (shared last)
          ∙ none_in_row last last_row lane_of_last none

      same_test : (bit_or (shared first) (shared last) == 0) ≡ (fold_l bit_or 0 both == 0)
      same_test = elim (cases_eq (bit_or (shared first) (shared last)) 0) [
        | inl none ↦ eq-eqb _ 0 none ∙ sym (eq-eqb _ 0 (of_or none))
        | inr there ↦ ne_eqb _ 0 there ∙ sym (ne_eqb _ 0 (λ none. there (to_or none)))
      ]

  -- the lanes with the block's bits added
  abbrev either : List ℕ
  either = zip2 bit_or lanes row_lanes

  length_either : length either ≡ length lanes
  length_either = length-zip2 bit_or lanes row_lanes (count ∙ sym length_lanes)

  lane_of_either : (row : ℕ) → row < places_across PLACE_DIGITS
      → get_or either row 0 ≡ bit_or (get_or lanes row 0) (get_or row_lanes row 0)
  lane_of_either row below =
      get_or-zip2 bit_or lanes row_lanes row 0 0 0 (omega (arith, count)) (omega (arith, length_lanes))

  -- a row's lane with the block's bits added
  abbrev joined : ℕ → ℕ
  joined row = bit_or (get_or lanes row 0) bits

  abbrev with_last : List ℕ
  with_last = set lanes last (joined last)

  abbrev with_bits : List ℕ
  with_bits = set with_last first (joined first)

  length_with_last : length with_last ≡ length lanes
  length_with_last = length-set lanes last (joined last)

  length_with_bits : length with_bits ≡ length lanes
  length_with_bits = length-set with_last first (joined first) ∙ length_with_last

  same_lanes : with_bits ≡ either
  same_lanes = ext_get_or 0 with_bits either (length_with_bits ∙ sym length_either) (λ row below.
      let within : row < places_across PLACE_DIGITS = omega (arith, length_with_bits, count) in
      by_row (λ r. get_or with_bits r 0 ≡ get_or either r 0) row
      (set_first ∙ sym (lane_of_either first first_row
      ∙ ap (λ n. bit_or (get_or lanes first 0) n) lane_of_first))
      (set_last ∙ sym (lane_of_either last last_row ∙ ap (λ n. bit_or (get_or lanes last 0) n) lane_of_last))
      (λ not_first not_last.
      get_or-set_other with_last first row (joined first) 0 not_first
      ∙ get_or-set_other lanes last row (joined last) 0 not_last
      ∙ sym (lane_of_either row within
      ∙ rw (lane_of_other row within not_first not_last) (or_zero_r (get_or lanes row 0)))))
    where
      set_first : get_or with_bits first 0 ≡ joined first
      set_first =
          get_or-set_same with_last first (joined first) 0 (omega (arith, length_with_last, count, first_row))

      set_last : get_or with_bits last 0 ≡ joined last
      set_last = elim (cases_eq last first) [
        | inl same ↦ subst (λ row. get_or with_bits row 0 ≡ joined row) (sym same) set_first
        | inr other ↦
            get_or-set_other with_last first last (joined first) 0 other
            ∙ get_or-set_same lanes last (joined last) 0 (omega (arith, count, last_row))
      ]

  pub low_with_block : held_by_lane with_bits ≡ with_block (held_by_lane lanes) block
  low_with_block =
      ap held_by_lane (same_lanes ∙ sym (put_chunk_whole lanes either (sym length_either)))
      ∙ lanes_with_block lanes row_lanes block count are_row_lanes lies
