-- The bytes of the positions so far, from the marks of their places. No public contract cites this module.
use Rattle.std.specs.Prelude.{◌≡◌, ℕ, ◌+◌, ◌*◌, ◌/◌, ◌%◌, ◌<◌, ◌≤◌, List, [], get_or, min}
use Rattle.twp_grid.specs.Spans.{total, one_where}
use Rattle.twp_land.specs.LotMaps.{mark_in}
use Rattle.twp_land.specs.LotMarks.{is_divided}

-- the positions so far have their bytes
pub record AreDivided (sections : List (List ℕ)) (index used : ℕ) (positions divided : List ℕ) : Type 0 where
  pub most : used ≤ 128
  pub count : used ≡ total index (λ i. one_where (is_divided sections i))
  pub bytes : (i : ℕ) → i < index → get_or positions i 0 ≤ 100 + used
  pub marks : (i n : ℕ) → i < index → n < 64
      → mark_in divided (get_or positions i 0) n
      ≡ min (get_or (get_or sections (i / 16) []) (i % 16 * 64 + n) 0) 100
