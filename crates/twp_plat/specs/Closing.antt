-- Which returned distances make a plat, and the quarter miles that excess and deficiency are thrown
-- into (Manual of Surveying Instructions 2009, chapter 3). The limits are this project's. Lengths
-- are in thousandths of a chain, and a difference of two may be negative.
use Rattle.std.specs.Prelude.{◌≡◌, ℕ, ◌+◌, ◌-◌, ◌*◌, ◌⊎◌, ℤ, pos, ◌-ℤ◌, ◌≤ℤ◌}
use Rattle.twp_grid.specs.Lines.{IsLine, IsClosing}
use Rattle.twp_notes.specs.FieldNotes.{FieldNotes, returned_of}
use Rattle.twp_notes.specs.declared.parsing.Returned.{Returned}

-- a quarter mile: 20 chains
abbrev pub QUARTER_MILE : ℕ
QUARTER_MILE = 20000

-- a half mile: 40 chains
abbrev pub HALF_MILE : ℕ
HALF_MILE = 2 * QUARTER_MILE

-- the most that a half mile may differ from 40 chains
abbrev pub TOLERANCE : ℕ
TOLERANCE = 250

-- the least length of a closing quarter
abbrev pub CLOSING_LEAST : ℕ
CLOSING_LEAST = 5000

-- the greatest length of a closing quarter
abbrev pub CLOSING_MOST : ℕ
CLOSING_MOST = 25000

-- the first half mile of a line, from its start to its quarter corner
abbrev pub first_half : Returned → ℤ
first_half returned = pos returned.quarter

-- the second half mile of a line, from its quarter corner to its end
abbrev pub second_half : Returned → ℤ
second_half returned = pos returned.corner -ℤ pos returned.quarter

-- the part of the second half mile after its first quarter mile
abbrev pub last_quarter : Returned → ℤ
last_quarter returned = pos returned.corner -ℤ pos returned.quarter -ℤ pos QUARTER_MILE

-- a half mile of 40 chains, within the tolerance
pub record IsRegular (half : ℤ) : Type 0 where
  pub least : pos (HALF_MILE - TOLERANCE) ≤ℤ half
  pub most : half ≤ℤ pos (HALF_MILE + TOLERANCE)

-- a last quarter mile that a closing line can have
pub record Closes (quarter : ℤ) : Type 0 where
  pub least : pos CLOSING_LEAST ≤ℤ quarter
  pub most : quarter ≤ℤ pos CLOSING_MOST

-- Both half miles of a line are regular, except that the second one of a closing line only has to close.
pub record IsInLimits (line : ℕ) (returned : Returned) : Type 0 where
  pub first : IsRegular (first_half returned)
  pub second : ¬ IsClosing line → IsRegular (second_half returned)
  pub closing : IsClosing line → Closes (last_quarter returned)

-- the notes make a plat: all their lines are within their limits
abbrev pub MakesPlat : FieldNotes → Type 0
MakesPlat notes = (line : ℕ) → IsLine line → IsInLimits line (returned_of notes line)

-- The closing quarter of a line: the last quarter mile of a closing line, and 20 chains for any other line.
abbrev pub IsClosingQuarter : ℕ → Returned → ℕ → Type 0
IsClosingQuarter line returned quarter = (IsClosing line × (pos quarter ≡ last_quarter returned))
    ⊎ (¬ IsClosing line × (quarter ≡ QUARTER_MILE))
