-- Which of a township's plats land, or a lot table, is of.
use Rattle.std.specs.Prelude.{◌≡◌, ◌==◌, ◌⊎◌, ℕ, if◌then◌else◌}
use Rattle.twp_calls.specs.declared.land.TownshipLand.{TownshipLand as GivenLand}
use Rattle.twp_calls.specs.declared.lots.TownshipLots.{TownshipLots as GivenLots}
use Rattle.twp_calls.specs.declared.which_plat.WhichPlat.{WhichPlat}

-- the plat of land that was read without a lot table: any plat of a regular township
abbrev pub REGULAR : WhichPlat
REGULAR = record { date = 0; own_lots = 0 }

-- the plat of land
abbrev pub plat_of_land : GivenLand → WhichPlat
plat_of_land given = record { date = given.date; own_lots = given.own_lots }

-- 0 for the standard lots, and 1 for those of a table that says where they lie
abbrev pub code_of_lots : ℕ → ℕ
code_of_lots mapped = if mapped == 0 then 0 else 1

-- the plat of a lot table
abbrev pub plat_of_lots : GivenLots → WhichPlat
plat_of_lots given =
    record { date = given.date; own_lots = code_of_lots given.lots.plat.mapped }

-- Land of this plat can be measured by a lot table of another: it is the same plat; or the land was
-- read without a lot table, and the table has the standard lots.
abbrev pub IsMeasuredBy : WhichPlat → WhichPlat → Type 0
IsMeasuredBy land table = (land ≡ table) ⊎ ((land ≡ REGULAR) × (table.own_lots ≡ 0))
