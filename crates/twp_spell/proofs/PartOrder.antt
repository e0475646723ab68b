-- The order of written parts, and the list of all of them.
use Rattle.std.proofs.Common.{◌≡◌, ℕ, zero, suc, ◌<◌, ◌≤◌, ◌⊎◌, ◌&&◌, Bool, false, List, [], ◌∷◌, ◌++◌, map}
use Rattle.std.proofs.Common.{length, refl, sym, ap, subst, ◌∙◌, inl, inr, arith, nat_lt}
use Rattle.std.proofs.lemmas.Bool.{cases_lt, and_parts}
use Rattle.std.proofs.lemmas.Bool.Decides.{nat_tests}
use Rattle.twp_grid.specs.declared.block.Side.{Side}
use Rattle.twp_grid.specs.declared.block.Side.TheVariants.{N, S, E, W}
use Rattle.twp_grid.specs.declared.block.Corner.{Corner}
use Rattle.twp_grid.specs.declared.block.Corner.TheVariants.{NE, NW, SW, SE}
use Rattle.twp_grammar.specs.ItemPlaces.{in_chain}
use Rattle.twp_spell.specs.WrittenParts.{Part, steps_of_part, IsInPart, IsFull, preference, IsChosenHalf}
use Rattle.twp_spell.specs.WrittenParts.{IsOnSide, IsWritten, address, ComesBefore, AreWrittenParts}
use Rattle.twp_spell.specs.WrittenParts.Part.{square, half_of_square}
use Rattle.twp_spell.specs.steps.Spelling.{quarter_on}
use Rattle.twp_grammar.proofs.Membership.{Among, among_left, among_right}
use Rattle.twp_spell.proofs.Listings.{AreCompared, one_listing, has_listing}
use Rattle.twp_spell.proofs.SquareFacts.{square_fits, half_fits}
use Rattle.twp_spell.proofs.SquarePlaces.{first_of, up, corner_at, up_next, square_in, place_of, one_place}
use Rattle.twp_spell.proofs.SquarePlaces.{one_address}
use Rattle.twp_spell.proofs.HalfPlaces.{half_in}
use Rattle.twp_spell.proofs.FullParts.{search_places, is_full, chosen_half, one_chosen, same_side, on_side}
use Rattle.twp_spell.proofs.WrittenFacts.{one_part}

-- the order is strict
pub ahead_once : (g : ℕ) (part other : Part) → ComesBefore g part other → ComesBefore g other part → ⊥
ahead_once g part other ahead after =
    let less = ahead.lower after.column after.row after.inside in
    let more = after.lower ahead.column ahead.row ahead.inside in
    absurd (omega arith)

pub ahead_through : (g : ℕ) (part middle last : Part) → ComesBefore g part middle → ComesBefore g middle last
    → ComesBefore g part last
ahead_through g part middle last ahead after = record {
  column = ahead.column;
  row = ahead.row;
  inside = ahead.inside;
  lower = λ column' row' inside.
      let less = ahead.lower after.column after.row after.inside in
      let more = after.lower column' row' inside in
      omega arith;
}

-- a part that is full contains a place
pub record Inside (g : ℕ) (part : Part) : Type 0 where
  pub column : ℕ
  pub row : ℕ
  pub inside : IsInPart g part column row

pub is_quarter_on : (side : Side) → IsOnSide side (quarter_on side)
unfolding quarter_on
is_quarter_on N = tt
is_quarter_on S = tt
is_quarter_on E = tt
is_quarter_on W = tt

pub some_place : (g : ℕ) (held : ℕ → ℕ → Bool) (part : Part) → IsFull g held part → Inside g part
some_place g held (square quarters) full =
    let fits = square_fits g quarters full.within in
    let there = place_of g quarters fits in
    record {
      column = there.column;
      row = there.row;
      inside =
          record { place = there.place; asked = square_in g quarters there.column there.row fits there.is };
    }
some_place g held (half_of_square side quarters) full =
    let fits = half_fits g side quarters full.within in
    let there = place_of g (quarter_on side ∷ quarters) fits in
    let both =
    first_of (corner_at g (length quarters) there.column there.row) (quarter_on side)
    (up g (length quarters) there.column there.row) quarters
    (sym (up_next g (length quarters) there.column there.row fits) ∙ there.is) in
    let on : IsOnSide side (corner_at g (length quarters) there.column there.row) =
    subst (λ c. IsOnSide side c) (sym both.0) (is_quarter_on side) in
    record {
      column = there.column;
      row = there.row;
      inside = record {
        place = there.place;
        asked = half_in g side quarters there.column there.row fits both.1 on;
      };
    }

pub full_part : (g : ℕ) (held : ℕ → ℕ → Bool) (part : Part) → IsWritten g held part → IsFull g held part
full_part g held (half_of_square side quarters) chosen = chosen.full
full_part g held (square []) full = full
full_part g held (square (corner ∷ parent)) written = written.0

-- the place of a part with the lowest address
record Least (g : ℕ) (part : Part) : Type 0 where
  column : ℕ
  row : ℕ
  inside : IsInPart g part column row
  least : (column' row' : ℕ) → IsInPart g part column' row' → address g column row ≤ address g column' row'

least_place : (fuel g : ℕ) (part : Part) (column row : ℕ) → IsInPart g part column row
    → address g column row ≤ fuel → Least g part
least_place zero g part column row inside few =
    record { column = column; row = row; inside = inside; least = λ column' row' _. omega (arith, few) }
least_place (suc fuel) g part column row inside few = elim (search_places g (λ column' row'.
    in_chain g (steps_of_part part) column' row' && nat_lt (address g column' row') (address g column row))) [
      | inl found ↦
          let both =
          and_parts (in_chain g (steps_of_part part) found.column found.row)
          (nat_lt (address g found.column found.row) (address g column row)) found.here in
          let less : address g found.column found.row < address g column row =
          grind (arith, nat_tests, both.1) in
          least_place fuel g part found.column found.row (record { place = found.place; asked = both.0 })
          (omega arith)
      | inr none ↦ record {
        column = column;
        row = row;
        inside = inside;
        least = λ column' row' there.
            let closed : nat_lt (address g column' row') (address g column row) ≡ false =
            rw there.asked at (none column' row' there.place) in
            grind (arith, nat_tests, closed);
      }
    ]

least_of : (g : ℕ) (held : ℕ → ℕ → Bool) (part : Part) → IsWritten g held part → Least g part
least_of g held part written =
    let there = some_place g held part (full_part g held part written) in
    least_place (address g there.column there.row) g part there.column there.row there.inside (omega arith)

-- of two written parts, one comes first
ahead_of : (g : ℕ) (part other : Part) (first : Least g part) (second : Least g other)
    → address g first.column first.row < address g second.column second.row → ComesBefore g part other
ahead_of g part other first second less = record {
  column = first.column;
  row = first.row;
  inside = first.inside;
  lower = λ column' row' inside. let more = second.least column' row' inside in omega arith;
}

compared : (g : ℕ) (held : ℕ → ℕ → Bool) → AreCompared (IsWritten g held) (ComesBefore g)
compared g held part other written written' =
    let first = least_of g held part written in
    let second = least_of g held other written' in
    elim (cases_lt (address g first.column first.row) (address g second.column second.row)) [
      | inl less ↦ inl (ahead_of g part other first second less)
      | inr more ↦ elim (cases_lt (address g second.column second.row) (address g first.column first.row)) [
        | inl less ↦ inr (inr (ahead_of g other part second first less))
        | inr not_less ↦
            let one =
            one_place g first.column first.row second.column second.row first.inside.place second.inside.place
            (one_address g first.column first.row second.column second.row first.inside.place
            second.inside.place (omega arith)) in
            let there : IsInPart g part second.column second.row =
            subst (λ r. IsInPart g part second.column r) one.1
            (subst (λ c. IsInPart g part c first.row) one.0 first.inside) in
            inr
            (inl (one_part g held second.column second.row part other written written' there second.inside))
      ]
    ]

-- a part is either written or not
is_chosen : (g : ℕ) (held : ℕ → ℕ → Bool) (quarters : List Corner) (side : Side)
    → IsChosenHalf g held quarters side ⊎ ¬ IsChosenHalf g held quarters side
is_chosen g held quarters side = elim (is_full g held (square quarters)) [
  | inl full ↦ inr (λ chosen. chosen.square_is_not full)
  | inr short ↦ elim (chosen_half g held quarters short) [
    | inr none ↦ inr (λ chosen. none side chosen.full)
    | inl found ↦ elim (cases_lt (preference found.0) (preference side)) [
      | inl less ↦ inr (λ chosen. chosen.first found.0 less found.1.full)
      | inr more ↦ elim (cases_lt (preference side) (preference found.0)) [
        | inl less ↦ inr (λ chosen. found.1.first side less chosen.full)
        | inr not_less ↦
            inl (subst (λ s. IsChosenHalf g held quarters s) (same_side found.0 side (omega arith)) found.1)
      ]
    ]
  ]
]

is_written : (g : ℕ) (held : ℕ → ℕ → Bool) (part : Part) → IsWritten g held part ⊎ ¬ IsWritten g held part
is_written g held (half_of_square side quarters) = is_chosen g held quarters side
is_written g held (square []) = is_full g held (square [])
is_written g held (square (corner ∷ parent)) = elim (is_full g held (square (corner ∷ parent))) [
  | inr not_full ↦ inr (λ written. not_full written.0)
  | inl full ↦ elim (is_full g held (square parent)) [
    | inl greater ↦ inr (λ written. written.1 greater)
    | inr short ↦ elim (chosen_half g held parent short) [
      | inr none ↦ inl (full, short, λ side chosen. absurd (none side chosen.full))
      | inl found ↦ elim (on_side found.0 corner) [
        | inl on ↦ inr (λ written. written.2 found.0 found.1 on)
        | inr off ↦ inl (
          full,
          short,
          λ side chosen on.
              off (subst (λ s. IsOnSide s corner) (one_chosen g held parent side found.0 chosen found.1) on),
        )
      ]
    ]
  ]
]

-- all parts that are no smaller than a place
pub among_map : {T U : Type 0} (f : T → U) (thing : T) (list : List T) → Among thing list
    → Among (f thing) (map f list)
among_map f thing [] there = absurd there
among_map f thing (first ∷ list) (inl here) = inl (ap f here)
among_map f thing (first ∷ list) (inr later) = inr (among_map f thing list later)

abbrev under : Corner → List (List Corner) → List (List Corner)
under corner lists = map (λ q. corner ∷ q) lists

abbrev with_corners : List (List Corner) → List (List Corner)
with_corners lists = under NE lists ++ (under NW lists ++ (under SW lists ++ under SE lists))

corner_lists : ℕ → List (List Corner)
corner_lists zero = [] ∷ []
corner_lists (suc n) = [] ∷ with_corners (corner_lists n)

among_under : (corner : Corner) (quarters : List Corner) (lists : List (List Corner)) → Among quarters lists
    → Among (corner ∷ quarters) (under corner lists)
among_under corner quarters lists there = among_map (λ q. corner ∷ q) quarters lists there

among_corners : (corner : Corner) (quarters : List Corner) (lists : List (List Corner)) → Among quarters lists
    → Among (corner ∷ quarters) (with_corners lists)
among_corners NE quarters lists there =
    among_left (NE ∷ quarters) (under NE lists) (under NW lists ++ (under SW lists ++ under SE lists))
    (among_under NE quarters lists there)
among_corners NW quarters lists there =
    among_right (NW ∷ quarters) (under NE lists) (under NW lists ++ (under SW lists ++ under SE lists))
    (among_left (NW ∷ quarters) (under NW lists) (under SW lists ++ under SE lists)
    (among_under NW quarters lists there))
among_corners SW quarters lists there =
    among_right (SW ∷ quarters) (under NE lists) (under NW lists ++ (under SW lists ++ under SE lists))
    (among_right (SW ∷ quarters) (under NW lists) (under SW lists ++ under SE lists)
    (among_left (SW ∷ quarters) (under SW lists) (under SE lists) (among_under SW quarters lists there)))
among_corners SE quarters lists there =
    among_right (SE ∷ quarters) (under NE lists) (under NW lists ++ (under SW lists ++ under SE lists))
    (among_right (SE ∷ quarters) (under NW lists) (under SW lists ++ under SE lists)
    (among_right (SE ∷ quarters) (under SW lists) (under SE lists) (among_under SE quarters lists there)))

all_corner_lists : (n : ℕ) (quarters : List Corner) → length quarters ≤ n → Among quarters (corner_lists n)
unfolding corner_lists
all_corner_lists zero [] few = inl refl
all_corner_lists zero (corner ∷ quarters) few = absurd (omega arith)
all_corner_lists (suc n) [] few = inl refl
all_corner_lists (suc n) (corner ∷ quarters) few =
    inr (among_corners corner quarters (corner_lists n) (all_corner_lists n quarters (omega arith)))

abbrev halves : Side → ℕ → List Part
halves side g = map (λ q. half_of_square side q) (corner_lists g)

abbrev all_parts : ℕ → List Part
all_parts g =
    map (λ q. square q) (corner_lists g) ++ (halves N g ++ (halves S g ++ (halves E g ++ halves W g)))

a_square : (g : ℕ) (quarters : List Corner) → length quarters ≤ g → Among (square quarters) (all_parts g)
a_square g quarters few =
    among_left (square quarters) (map (λ q. square q) (corner_lists g))
    (halves N g ++ (halves S g ++ (halves E g ++ halves W g)))
    (among_map (λ q. square q) quarters (corner_lists g) (all_corner_lists g quarters few))

after_squares : (g : ℕ) (part : Part) → Among part (halves N g ++ (halves S g ++ (halves E g ++ halves W g)))
    → Among part (all_parts g)
after_squares g part there =
    among_right part (map (λ q. square q) (corner_lists g))
    (halves N g ++ (halves S g ++ (halves E g ++ halves W g))) there

a_half : (g : ℕ) (side : Side) (quarters : List Corner) → length quarters ≤ g
    → Among (half_of_square side quarters) (halves side g)
a_half g side quarters few =
    among_map (λ q. half_of_square side q) quarters (corner_lists g) (all_corner_lists g quarters few)

some_half : (g : ℕ) (side : Side) (quarters : List Corner) → length quarters ≤ g
    → Among (half_of_square side quarters) (all_parts g)
some_half g N quarters few = after_squares g (half_of_square N quarters)
    (among_left (half_of_square N quarters) (halves N g) (halves S g ++ (halves E g ++ halves W g))
    (a_half g N quarters few))
some_half g S quarters few = after_squares g (half_of_square S quarters)
    (among_right (half_of_square S quarters) (halves N g) (halves S g ++ (halves E g ++ halves W g))
    (among_left (half_of_square S quarters) (halves S g) (halves E g ++ halves W g)
    (a_half g S quarters few)))
some_half g E quarters few = after_squares g (half_of_square E quarters)
    (among_right (half_of_square E quarters) (halves N g) (halves S g ++ (halves E g ++ halves W g))
    (among_right (half_of_square E quarters) (halves S g) (halves E g ++ halves W g)
    (among_left (half_of_square E quarters) (halves E g) (halves W g) (a_half g E quarters few))))
some_half g W quarters few = after_squares g (half_of_square W quarters)
    (among_right (half_of_square W quarters) (halves N g) (halves S g ++ (halves E g ++ halves W g))
    (among_right (half_of_square W quarters) (halves S g) (halves E g ++ halves W g)
    (among_right (half_of_square W quarters) (halves E g) (halves W g) (a_half g W quarters few))))

is_some_part : (g : ℕ) (held : ℕ → ℕ → Bool) (part : Part) → IsFull g held part → Among part (all_parts g)
is_some_part g held (square quarters) full = a_square g quarters (square_fits g quarters full.within)
is_some_part g held (half_of_square side quarters) full =
    let fits = half_fits g side quarters full.within in some_half g side quarters (omega arith)

-- there is a list of written parts
pub has_parts : (g : ℕ) (held : ℕ → ℕ → Bool) → (parts : List Part) × AreWrittenParts g held parts
has_parts g held =
    has_listing (IsWritten g held) (ComesBefore g) (ahead_through g) (compared g held) (is_written g held)
    (all_parts g)
    (λ part written. is_some_part g held part (full_part g held part written))

pub one_parts : (g : ℕ) (held : ℕ → ℕ → Bool) (parts more : List Part) → AreWrittenParts g held parts
    → AreWrittenParts g held more → parts ≡ more
one_parts g held parts more are are' =
    one_listing (IsWritten g held) (ComesBefore g) (ahead_once g) parts more are are'
