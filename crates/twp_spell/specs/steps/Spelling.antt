-- How the parts of a section are written by descending from it, quarter by quarter. No public
-- contract cites this module; proofs/DescentLists shows that they are the section's written parts.
use Rattle.std.specs.Prelude.{◌≡◌, ◌^◌, ◌-◌, ◌*◌, ◌+◌, ◌⊎◌, ◌↔◌, ◌&&◌, if◌then◌else◌, ℕ, Bool, IsTrue, List}
use Rattle.std.specs.Prelude.{[], ◌∷◌}
use Rattle.std.specs.Prelude.{◌++◌, Option, Some, None, map, codes}
use Rattle.std.specs.List.{flat_map}
use Rattle.twp_grid.specs.Cuts.{AreWithin, reached}
use Rattle.twp_grid.specs.Places.{PLACE_DIGITS}
use Rattle.twp_grid.specs.Spans.{Rectangle}
use Rattle.twp_grid.specs.declared.block.Side.{Side}
use Rattle.twp_grid.specs.declared.block.Side.TheVariants.{N, S, E, W}
use Rattle.twp_grid.specs.declared.block.Corner.{Corner}
use Rattle.twp_grid.specs.declared.block.Corner.TheVariants.{NE, NW, SW, SE}
use Rattle.twp_grammar.specs.declared.item.Step.TheVariants.{Quarter}
use Rattle.twp_spell.specs.declared.full_quarters.FullQuarters.{FullQuarters}
use Rattle.twp_grammar.specs.ItemPlaces.{cuts_of}
use Rattle.twp_grid.specs.Listing.{AreListed}
use Rattle.twp_spell.specs.WrittenParts.{Part, steps_of_part, IsFull, IsChosenHalf, IsOnSide}
use Rattle.twp_spell.specs.WrittenParts.{IsWritten, ComesBefore}
use Rattle.twp_spell.specs.WrittenParts.Part.{square, half_of_square}
use Rattle.twp_spell.specs.CanonicalText.{step_text, part_text}

-- the quarters that reach a part's square
unfoldable pub square_quarters : Part → List Corner
square_quarters (square quarters) = quarters
square_quarters (half_of_square side quarters) = quarters

-- the quarters reach the square, or a square in it
abbrev pub IsUnder : List Corner → List Corner → Type 0
IsUnder quarters [] = [] ≡ quarters
IsUnder quarters (corner ∷ parent) = ((corner ∷ parent) ≡ quarters) ⊎ IsUnder quarters parent

-- the first of a half's two quarters
unfoldable pub quarter_on : Side → Corner
quarter_on N = NE
quarter_on S = SW
quarter_on E = NE
quarter_on W = NW

-- A part of a square begins in a quarter: it lies in the quarter, or it is the half whose first
-- quarter this is.
abbrev pub BeginsIn : List Corner → Corner → Part → Type 0
BeginsIn parent corner part = IsUnder (corner ∷ parent) (square_quarters part)
    ⊎ ((side : Side) × (part ≡ half_of_square side parent) × (quarter_on side ≡ corner))

-- the written parts of a square
abbrev pub AreOfSquare : ℕ → (ℕ → ℕ → Bool) → List Corner → List Part → Type 0
AreOfSquare g held quarters parts =
    AreListed (λ part. IsWritten g held part × IsUnder quarters (square_quarters part))
    (ComesBefore g) parts

-- the written parts of a square that begin in one of its quarters
abbrev pub AreOfQuarter : ℕ → (ℕ → ℕ → Bool) → List Corner → Corner → List Part → Type 0
AreOfQuarter g held parent corner parts =
    AreListed (λ part. IsWritten g held part × BeginsIn parent corner part) (ComesBefore g) parts

-- the block contains exactly the part's places
pub record IsBlockOf (g : ℕ) (part : Part) (block : Rectangle) : Type 0 where
  pub within : AreWithin g (cuts_of (steps_of_part part))
  pub block_is : block ≡ reached g (cuts_of (steps_of_part part))

-- the square's chosen half, or None if none of its halves is full
abbrev pub IsChoice : ℕ → (ℕ → ℕ → Bool) → List Corner → Option Side → Type 0
IsChoice g held quarters (Some side) = IsChosenHalf g held quarters side
IsChoice g held quarters None = (side : Side) → ¬ IsFull g held (half_of_square side quarters)

-- whether the quarter at this corner is marked as full
abbrev pub full_at : FullQuarters → Corner → Bool
full_at full NE = full.ne
full_at full NW = full.nw
full_at full SW = full.sw
full_at full SE = full.se

-- these quarters of a square are full and the others are not
abbrev pub AreFull : ℕ → (ℕ → ℕ → Bool) → List Corner → FullQuarters → Type 0
AreFull g held quarters full =
    (corner : Corner) → IsTrue (full_at full corner) ↔ IsFull g held (square (corner ∷ quarters))

-- all four are marked as full
abbrev pub all_of : FullQuarters → Bool
all_of full = full.ne && (full.nw && (full.sw && full.se))

-- the first half whose quarters are both full
abbrev pub chosen_of : FullQuarters → Option Side
chosen_of full =
    if full.ne && full.nw then Some N
    else if full.sw && full.se then Some S
    else if full.ne && full.se then Some E
    else if full.nw && full.sw then Some W
    else None

-- the square's quarter does not lie in its chosen half
abbrev pub IsOffChosen : ℕ → (ℕ → ℕ → Bool) → List Corner → Corner → Type 0
IsOffChosen g held quarters corner =
    (side : Side) → IsChosenHalf g held quarters side → ¬ IsOnSide side corner

-- the number of places along a side of a fine square, which two quarterings divide into its places
abbrev pub FINE_SIDE : ℕ
FINE_SIDE = 2 ^ 2

-- the length of a quarter such as NE1/4, in bytes
abbrev pub QUARTER_LENGTH : ℕ
QUARTER_LENGTH = 5

-- the length of the longest path after a part, in bytes: that of a place, without its own quarter
abbrev pub PATH_MOST : ℕ
PATH_MOST = QUARTER_LENGTH * (PLACE_DIGITS - 1)

-- the bytes that are kept for a part: a quarter after a comma and a space, the quarter that
-- contains it, and a path
abbrev pub PART_MOST : ℕ
PART_MOST = 2 + QUARTER_LENGTH + QUARTER_LENGTH + PATH_MOST

-- the length of as many parts as a fine square has places, in bytes
abbrev pub BUFFER_MOST : ℕ
BUFFER_MOST = FINE_SIDE * FINE_SIDE * PART_MOST

-- the length of the longest number of a township, a range, or a section, in bytes
abbrev pub NUMBER_MOST : ℕ
NUMBER_MOST = 3

-- the bytes that are kept for the start of a line, up to its section's number
abbrev pub START_MOST : ℕ
START_MOST = 32

-- quarters as they are written after a smaller part
abbrev pub quarters_text : List Corner → List ℕ
quarters_text quarters = flat_map step_text (map (λ corner. Quarter corner) quarters)

-- parts as they are written after others
abbrev pub parts_text : List Part → List ℕ
parts_text parts = flat_map (λ part. codes ", " ++ part_text part) parts

-- the parts with this property were appended to a text
pub record AreWritten (these : List Part → Type 0) (old new : List ℕ) : Type 0 where
  pub parts : List Part
  pub are : these parts
  pub text_is : new ≡ old ++ parts_text parts
