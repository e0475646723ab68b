-- The written parts of a square, quarter by quarter.
use Rattle.std.proofs.Common.{◌≡◌, ℕ, zero, suc, ◌+◌, ◌-◌, ◌*◌, ◌/◌, ◌%◌, ◌<◌, ◌≤◌, ◌⊎◌, Bool, List, [], ◌∷◌}
use Rattle.std.proofs.Common.{length, refl, sym, ap, subst, ◌∙◌, inl, inr, arith}
use Rattle.twp_grid.specs.declared.block.Side.{Side}
use Rattle.twp_grid.specs.declared.block.Side.TheVariants.{N, S, E, W}
use Rattle.twp_grid.specs.declared.block.Corner.{Corner}
use Rattle.twp_grid.specs.declared.block.Corner.TheVariants.{NE, NW, SW, SE}
use Rattle.twp_spell.specs.WrittenParts.{Part, IsInPart, IsFull, IsOnSide, quarter_named, turn_of_quarter}
use Rattle.twp_spell.specs.WrittenParts.{address, ComesBefore}
use Rattle.twp_spell.specs.WrittenParts.Part.{square, half_of_square}
use Rattle.twp_spell.specs.steps.Spelling.{square_quarters, IsUnder, quarter_on, BeginsIn}
use Rattle.twp_spell.proofs.SquareFacts.{square_within, square_fits, half_fits}
use Rattle.twp_spell.proofs.SquarePlaces.{path, up, corner_at, up_next, in_square, square_in, up_all}
use Rattle.twp_spell.proofs.SquarePlaces.{turn_small, place_of}
use Rattle.twp_spell.proofs.HalfPlaces.{in_half, half_in}
use Rattle.twp_spell.proofs.WrittenFacts.{parent_of}
use Rattle.twp_spell.proofs.PartOrder.{some_place, is_quarter_on}

-- a square is in itself
pub under_itself : (quarters : List Corner) → IsUnder quarters quarters
under_itself [] = refl
under_itself (corner ∷ parent) = inl refl

pub under_whole : (quarters : List Corner) → IsUnder [] quarters
under_whole [] = refl
under_whole (corner ∷ parent) = inr (under_whole parent)

pub under_parent : (corner : Corner) (parent quarters : List Corner) → IsUnder (corner ∷ parent) quarters
    → IsUnder parent quarters
under_parent corner parent [] is = cc is
under_parent corner parent (first ∷ more) (inl is) = inr (rw (there is) (under_itself parent))
  where
    there : (first ∷ more) ≡ (corner ∷ parent) → more ≡ parent
    there is = cc is
under_parent corner parent (first ∷ more) (inr later) = inr (under_parent corner parent more later)

-- a square in a square is that square or lies in one of its quarters
pub under_quarter : (parent quarters : List Corner) → IsUnder parent quarters
    → (quarters ≡ parent) ⊎ ((corner : Corner) × IsUnder (corner ∷ parent) quarters)
under_quarter parent [] is = inl is
under_quarter parent (first ∷ more) (inl is) = inl is
under_quarter parent (first ∷ more) (inr later) = elim (under_quarter parent more later) [
  | inl here ↦ inr (first, inl (ap (λ q. first ∷ q) here))
  | inr found ↦ inr (found.0, inr found.1)
]

pub under_deeper : (parent quarters : List Corner) → IsUnder parent quarters → length parent ≤ length quarters
under_deeper parent [] is = let same = ap length is in omega arith
under_deeper parent (first ∷ more) (inl is) = let same = ap length is in omega arith
under_deeper parent (first ∷ more) (inr later) = let rest = under_deeper parent more later in omega arith

-- a place of a square that lies in a square is a place of the outer one
pub under_place : (g : ℕ) (parent quarters : List Corner) (column row : ℕ) → IsUnder parent quarters
    → length quarters ≤ g → up g (length quarters) column row ≡ quarters
    → up g (length parent) column row ≡ parent
under_place g parent [] column row is fits there = subst (λ q. up g (length q) column row ≡ q) is there
under_place g parent (first ∷ more) column row (inl is) fits there =
    subst (λ q. up g (length q) column row ≡ q) is there
under_place g parent (first ∷ more) column row (inr later) fits there =
    under_place g parent more column row later (omega arith) (parent_of g first more column row fits there).1

-- a square in a full square is full
pub full_under : (g : ℕ) (held : ℕ → ℕ → Bool) (parent quarters : List Corner) → IsUnder parent quarters
    → length quarters ≤ g → IsFull g held (square parent) → IsFull g held (square quarters)
full_under g held parent quarters under fits full = record {
  within = square_within g quarters fits;
  each = λ column row inside.
      let there =
      under_place g parent quarters column row under fits
      (in_square g quarters column row fits inside.asked) in
      full.each column row (record {
        place = inside.place;
        asked = square_in g parent column row (square_fits g parent full.within) there;
      });
}

-- addresses by the quarters that reach a place
value : List Corner → ℕ
value [] = 0
value (corner ∷ parent) = 4 * value parent + turn_of_quarter corner

value_next : (corner : Corner) (parent : List Corner)
    → value (corner ∷ parent) ≡ 4 * value parent + turn_of_quarter corner
unfolding value
value_next corner parent = refl

address_value : (g column row : ℕ) → address g column row ≡ value (path g column row)
unfolding path value
address_value zero column row = refl
address_value (suc g) column row =
    ap (λ n. 4 * n + turn_of_quarter (quarter_named (column % 2) (row % 2)))
    (address_value g (column / 2) (row / 2))

value_up : (g k column row : ℕ) → k < g
    → value (up g (suc k) column row)
    ≡ 4 * value (up g k column row) + turn_of_quarter (corner_at g k column row)
value_up g k column row less =
    ap value (up_next g k column row less) ∙ value_next (corner_at g k column row) (up g k column row)

lower_up : (n g k column row column' row' : ℕ) → k + n ≤ g
    → value (up g k column row) < value (up g k column' row')
    → value (up g (k + n) column row) < value (up g (k + n) column' row')
lower_up zero g k column row column' row' fits less =
    let same : k + 0 ≡ k = omega arith in
    rw same less
lower_up (suc n) g k column row column' row' fits less =
    let next = value_up g k column row (omega arith) in
    let next' = value_up g k column' row' (omega arith) in
    let small = turn_small (corner_at g k column row) in
    let level : k + suc n ≡ suc k + n = omega arith in
    rw level (lower_up n g (suc k) column row column' row' (omega arith) (omega arith))

-- places of earlier quarters of a square have lower addresses
pub lower_quarter : (g : ℕ) (parent : List Corner) (column row column' row' : ℕ) → length parent < g
    → up g (length parent) column row ≡ parent → up g (length parent) column' row' ≡ parent
    → turn_of_quarter (corner_at g (length parent) column row)
    < turn_of_quarter (corner_at g (length parent) column' row')
    → address g column row < address g column' row'
lower_quarter g parent column row column' row' fits there there' less =
    let k = length parent in
    let next =
    value_up g k column row fits ∙ ap (λ q. 4 * value q + turn_of_quarter (corner_at g k column row)) there in
    let next' =
    value_up g k column' row' fits
    ∙ ap (λ q. 4 * value q + turn_of_quarter (corner_at g k column' row')) there' in
    let below : value (up g (suc k) column row) < value (up g (suc k) column' row') = omega arith in
    let all = lower_up (g - suc k) g (suc k) column row column' row' (omega arith) below in
    let level : suc k + (g - suc k) ≡ g = omega arith in
    let whole : value (up g g column row) < value (up g g column' row') = rw level at all in
    let left : address g column row ≡ value (up g g column row) =
    address_value g column row ∙ ap value (sym (up_all g column row)) in
    let right : address g column' row' ≡ value (up g g column' row') =
    address_value g column' row' ∙ ap value (sym (up_all g column' row')) in
    omega arith

-- where a part that begins in a quarter has its places
record BeginsAt (g : ℕ) (parent : List Corner) (turn : ℕ) (part : Part) : Type 0 where
  column : ℕ
  row : ℕ
  inside : IsInPart g part column row
  here : turn_of_quarter (corner_at g (length parent) column row) ≡ turn
  each : (column' row' : ℕ) → IsInPart g part column' row'
      → (up g (length parent) column' row' ≡ parent)
      × (turn ≤ turn_of_quarter (corner_at g (length parent) column' row'))

pub part_fits : (g : ℕ) (held : ℕ → ℕ → Bool) (part : Part) → IsFull g held part
    → length (square_quarters part) ≤ g
unfolding square_quarters
part_fits g held (square quarters) full = square_fits g quarters full.within
part_fits g held (half_of_square side quarters) full =
    let fits = half_fits g side quarters full.within in omega arith

pub part_place : (g : ℕ) (held : ℕ → ℕ → Bool) (part : Part) (column row : ℕ) → IsFull g held part
    → IsInPart g part column row → up g (length (square_quarters part)) column row ≡ square_quarters part
unfolding square_quarters
part_place g held (square quarters) column row full inside =
    in_square g quarters column row (square_fits g quarters full.within) inside.asked
part_place g held (half_of_square side quarters) column row full inside =
    (in_half g side quarters column row (half_fits g side quarters full.within) inside.asked).0

later_quarters : (side : Side) (corner : Corner) → IsOnSide side corner
    → turn_of_quarter (quarter_on side) ≤ turn_of_quarter corner
unfolding quarter_on
later_quarters N corner on = omega arith
later_quarters E corner on = omega arith
later_quarters S NE on = absurd on
later_quarters S NW on = absurd on
later_quarters S SW on = omega arith
later_quarters S SE on = omega arith
later_quarters W NE on = absurd on
later_quarters W NW on = omega arith
later_quarters W SW on = omega arith
later_quarters W SE on = absurd on

quarter_begins : (g : ℕ) (held : ℕ → ℕ → Bool) (parent : List Corner) (corner : Corner) (part : Part)
    → length parent < g → IsFull g held part → IsUnder (corner ∷ parent) (square_quarters part)
    → BeginsAt g parent (turn_of_quarter corner) part
quarter_begins g held parent corner part fits full under =
    let some = some_place g held part full in
    record {
      column = some.column;
      row = some.row;
      inside = some.inside;
      here = ap turn_of_quarter (there some.column some.row some.inside).0;
      each = λ column row inside. (
        (there column row inside).1,
        (let is = ap turn_of_quarter (there column row inside).0 in omega arith),
      );
    }
  where
    there : (column row : ℕ) → IsInPart g part column row
        → (corner_at g (length parent) column row ≡ corner) × (up g (length parent) column row ≡ parent)
    there column row inside =
        parent_of g corner parent column row fits
        (under_place g (corner ∷ parent) (square_quarters part) column row under (part_fits g held part full)
        (part_place g held part column row full inside))

half_begins : (g : ℕ) (held : ℕ → ℕ → Bool) (parent : List Corner) (side : Side)
    → IsFull g held (half_of_square side parent)
    → BeginsAt g parent (turn_of_quarter (quarter_on side)) (half_of_square side parent)
half_begins g held parent side full =
    let fits = half_fits g side parent full.within in
    let first = place_of g (quarter_on side ∷ parent) fits in
    let above = parent_of g (quarter_on side) parent first.column first.row fits first.is in
    let on : IsOnSide side (corner_at g (length parent) first.column first.row) =
    subst (λ c. IsOnSide side c) (sym above.0) (is_quarter_on side) in
    record {
      column = first.column;
      row = first.row;
      inside = record {
        place = first.place;
        asked = half_in g side parent first.column first.row fits above.1 on;
      };
      here = ap turn_of_quarter above.0;
      each = λ column row inside.
          let there = in_half g side parent column row fits inside.asked in
          (there.0, later_quarters side (corner_at g (length parent) column row) there.1);
    }

begins_at : (g : ℕ) (held : ℕ → ℕ → Bool) (parent : List Corner) (corner : Corner) (part : Part)
    → length parent < g → IsFull g held part → BeginsIn parent corner part
    → BeginsAt g parent (turn_of_quarter corner) part
begins_at g held parent corner part fits full (inl under) =
    quarter_begins g held parent corner part fits full under
begins_at g held parent corner part fits full (inr half) =
    let begins : BeginsAt g parent (turn_of_quarter (quarter_on half.0)) (half_of_square half.0 parent) =
    half_begins g held parent half.0 (subst (λ p. IsFull g held p) half.1 full) in
    subst (λ c. BeginsAt g parent (turn_of_quarter c) part) half.2
    (subst (λ p. BeginsAt g parent (turn_of_quarter (quarter_on half.0)) p) (sym half.1) begins)

-- parts that begin in an earlier quarter come first
pub quarters_ahead : (g : ℕ) (held : ℕ → ℕ → Bool) (parent : List Corner) (corner other : Corner)
    (part next : Part)
    → length parent < g → turn_of_quarter corner < turn_of_quarter other
    → IsFull g held part → IsFull g held next → BeginsIn parent corner part → BeginsIn parent other next
    → ComesBefore g part next
quarters_ahead g held parent corner other part next fits less full full' begins begins' =
    let first = begins_at g held parent corner part fits full begins in
    let second = begins_at g held parent other next fits full' begins' in
    let itself = first.each first.column first.row first.inside in
    let here = first.here in
    record {
      column = first.column;
      row = first.row;
      inside = first.inside;
      lower = λ column row inside.
          let there = second.each column row inside in
          let more = there.1 in
          lower_quarter g parent first.column first.row column row fits itself.0 there.0 (omega arith);
    }
