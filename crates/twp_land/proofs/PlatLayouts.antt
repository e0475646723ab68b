-- The layout of a plat's lots, by the number that says whether they are mapped.
use Rattle.std.proofs.Common.{◌≡◌, ℕ, zero, suc, List, refl}
use Rattle.twp_grid.specs.Lands.{STANDARD_LAYOUT}
use Rattle.twp_land.specs.LotMaps.{layout_of_bytes, layout_of_plat}

pub is_standard : (mapped : ℕ) (positions divided : List ℕ) → mapped ≡ 0
    → STANDARD_LAYOUT ≡ layout_of_plat mapped positions divided
is_standard zero positions divided is = refl
is_standard (suc n) positions divided is = absurd (cc is)

pub is_mapped : (mapped : ℕ) (positions divided : List ℕ) → ¬ (mapped ≡ 0)
    → layout_of_bytes positions divided ≡ layout_of_plat mapped positions divided
is_mapped zero positions divided not = absurd (not refl)
is_mapped (suc n) positions divided not = refl
