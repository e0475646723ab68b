-- Facts about the closing quarters of one section's lines.
use Rattle.std.specs.Prelude.{◌≡◌, ◌≤◌, ◌⊎◌}
use Rattle.twp_plat.specs.Closing.{QUARTER_MILE, CLOSING_LEAST, CLOSING_MOST}
use Rattle.twp_plat.specs.Plats.{ClosingQuarters}

-- the closing quarters of a section's lines are within the limits of a plat
pub record AreInLimits (q : ClosingQuarters) : Type 0 where
  pub east : (CLOSING_LEAST ≤ q.east) × (q.east ≤ CLOSING_MOST)
  pub west : (CLOSING_LEAST ≤ q.west) × (q.west ≤ CLOSING_MOST)
  pub north : (CLOSING_LEAST ≤ q.north) × (q.north ≤ CLOSING_MOST)
  pub south : (CLOSING_LEAST ≤ q.south) × (q.south ≤ CLOSING_MOST)

-- a section's north and south lines are regular, or its east and west lines are
abbrev pub HaveRegularLines : ClosingQuarters → Type 0
HaveRegularLines q =
    ((q.north ≡ QUARTER_MILE) × (q.south ≡ QUARTER_MILE))
    ⊎ ((q.east ≡ QUARTER_MILE) × (q.west ≡ QUARTER_MILE))
