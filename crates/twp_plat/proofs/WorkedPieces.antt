-- Pieces calculated by hand, to show that the definitions say what they are meant to say.
use Rattle.std.proofs.Common.{ℕ, pos, refl}
use Rattle.twp_plat.specs.Plats.{ClosingQuarters}
use Rattle.twp_plat.specs.Pieces.{ratio, whole, IsSame}
use Rattle.twp_plat.specs.Pieces.{piece}

abbrev quarters : ℕ → ℕ → ℕ → ℕ → ClosingQuarters
quarters east west north south = record { east = east; west = west; north = north; south = south }

-- If all closing quarters are 20 chains, a position is 20 by 20 chains, 40 acres.
regular : IsSame (piece (quarters 20000 20000 20000 20000) 3 3) (whole 400000000)
unfolding piece
regular = refl

-- 20.20 chains in the east and 20.40 in the west, 80 chains apart: the first of four positions is
-- 20.20 and 20.25 chains high, 20.225 on average, and 20 chains wide.
northern : IsSame (piece (quarters 20200 20400 20000 20000) 0 3) (whole 404500000)
unfolding piece
northern = refl

-- 19.50 chains in the south and 19.60 in the north: the first of four is 19.50 and 19.525 chains
-- wide, 19.5125 on average, and 20 chains high.
western : IsSame (piece (quarters 20000 20000 19600 19500) 3 0) (whole 390250000)
unfolding piece
western = refl

-- Both at once, in the northwest corner: 79.20 chains along the north line and 80.80 along the west
-- line.
corner : IsSame (piece (quarters 20400 20800 19200 19600) 3 3) (ratio (pos 10226112921600000000) 25597440000)
unfolding piece
corner = refl
