-- The written parts of a square that is not full are those that begin in its quarters, in their
-- order.
use Rattle.std.proofs.Common.{◌≡◌, ℕ, ◌<◌, ◌≤◌, ◌⊎◌, Bool, true, List, [], ◌∷◌, ◌++◌, length, refl, sym, ap}
use Rattle.std.proofs.Common.{subst, ◌∙◌, inl, inr, arith}
use Rattle.twp_grid.specs.declared.block.Side.{Side}
use Rattle.twp_grid.specs.declared.block.Corner.{Corner}
use Rattle.twp_grid.specs.declared.block.Corner.TheVariants.{NE, NW, SW, SE}
use Rattle.twp_spell.specs.WrittenParts.{Part, IsInPart, IsFull, IsChosenHalf, IsOnSide, IsWritten}
use Rattle.twp_spell.specs.WrittenParts.{turn_of_quarter, ComesBefore, AreWrittenParts}
use Rattle.twp_spell.specs.WrittenParts.Part.{square, half_of_square}
use Rattle.twp_spell.specs.steps.Spelling.{square_quarters, IsUnder, quarter_on, BeginsIn, AreOfSquare}
use Rattle.twp_spell.specs.steps.Spelling.{AreOfQuarter}
use Rattle.twp_spell.proofs.Listings.{listed_both, listed_as, listed_none, listed_one}
use Rattle.twp_spell.proofs.SquareFacts.{square_fits, half_fits}
use Rattle.twp_spell.proofs.SquarePlaces.{up, corner_at, square_in}
use Rattle.twp_spell.proofs.HalfPlaces.{half_in}
use Rattle.twp_spell.proofs.FullParts.{one_chosen}
use Rattle.twp_spell.proofs.WrittenFacts.{parent_of, one_part, written_held}
use Rattle.twp_spell.proofs.PartOrder.{Inside, some_place, full_part, is_quarter_on}
use Rattle.twp_spell.proofs.Descent.{under_itself, under_whole, under_parent, under_quarter, under_deeper}
use Rattle.twp_spell.proofs.Descent.{under_place, part_fits, part_place, quarters_ahead}

-- the written parts of a square; those that begin in a quarter of it
abbrev pub InSquare : ℕ → (ℕ → ℕ → Bool) → List Corner → Part → Type 0
InSquare g held quarters part = IsWritten g held part × IsUnder quarters (square_quarters part)

abbrev pub InQuarter : ℕ → (ℕ → ℕ → Bool) → List Corner → Corner → Part → Type 0
InQuarter g held parent corner part = IsWritten g held part × BeginsIn parent corner part

-- the section's written parts are those of the largest square
pub of_section : (g : ℕ) (held : ℕ → ℕ → Bool) (parts : List Part) → AreOfSquare g held [] parts
    → AreWrittenParts g held parts
of_section g held parts are =
    listed_as (InSquare g held []) (IsWritten g held) (ComesBefore g) parts (λ part is. is.0)
    (λ part written. (written, under_whole (square_quarters part))) are

-- a place of a written part of a square
a_place : (g : ℕ) (held : ℕ → ℕ → Bool) (quarters : List Corner) (part : Part) → InSquare g held quarters part
    → (there : Inside g part) × (up g (length quarters) there.column there.row ≡ quarters)
a_place g held quarters part is =
    let full = full_part g held part is.0 in
    let there = some_place g held part full in (
      there,
      under_place g quarters (square_quarters part) there.column there.row is.1 (part_fits g held part full)
          (part_place g held part there.column there.row full there.inside),
    )

-- a square that is written is its only written part
pub of_written : (g : ℕ) (held : ℕ → ℕ → Bool) (quarters : List Corner) → IsWritten g held (square quarters)
    → AreOfSquare g held quarters (square quarters ∷ [])
unfolding square_quarters
of_written g held quarters written =
    listed_one (InSquare g held quarters) (ComesBefore g) (square quarters) (written, under_itself quarters)
    only
  where
    only : (part : Part) → InSquare g held quarters part → part ≡ square quarters
    only part is =
        let place = a_place g held quarters part is in
        let there = place.0 in
        let full = full_part g held (square quarters) written in
        one_part g held there.column there.row part (square quarters) is.0 written there.inside
        (record {
          place = there.inside.place;
          asked = square_in g quarters there.column there.row (square_fits g quarters full.within) place.1;
        })

-- a square without places in the land has no written part
pub of_empty : (g : ℕ) (held : ℕ → ℕ → Bool) (quarters : List Corner) → length quarters ≤ g
    → ((column row : ℕ) → IsInPart g (square quarters) column row → ¬ (held column row ≡ true))
    → AreOfSquare g held quarters []
of_empty g held quarters fits none = listed_none (InSquare g held quarters) (ComesBefore g) (λ part is.
    let place = a_place g held quarters part is in
    let there = place.0 in
    none there.column there.row
    (record { place = there.inside.place; asked = square_in g quarters there.column there.row fits place.1 })
    (written_held g held there.column there.row part is.0 there.inside))

-- nor does a quarter on the side of the chosen half
none_on_side : (g : ℕ) (held : ℕ → ℕ → Bool) (parent : List Corner) (side : Side) (corner : Corner)
    (part : Part)
    → IsChosenHalf g held parent side → IsOnSide side corner → ¬ InSquare g held (corner ∷ parent) part
unfolding square_quarters
none_on_side g held parent side corner part chosen on is =
    let fits = half_fits g side parent chosen.full.within in
    let place = a_place g held (corner ∷ parent) part is in
    let there = place.0 in
    let above = parent_of g corner parent there.column there.row fits place.1 in
    let there_on : IsOnSide side (corner_at g (length parent) there.column there.row) =
    subst (λ c. IsOnSide side c) (sym above.0) on in
    let same =
    one_part g held there.column there.row part (half_of_square side parent) is.0 chosen there.inside
    (record {
      place = there.inside.place;
      asked = half_in g side parent there.column there.row fits above.1 there_on;
    }) in
    let deeper = under_deeper (corner ∷ parent) (square_quarters part) is.1 in
    let level : length (square_quarters part) ≡ length parent = ap (λ p. length (square_quarters p)) same in
    absurd (omega arith)

-- the part that begins in the chosen half's first quarter: the chosen half
pub of_first : (g : ℕ) (held : ℕ → ℕ → Bool) (parent : List Corner) (side : Side) (corner : Corner)
    → IsChosenHalf g held parent side → quarter_on side ≡ corner
    → AreOfQuarter g held parent corner (half_of_square side parent ∷ [])
of_first g held parent side corner chosen is =
    listed_one (InQuarter g held parent corner) (ComesBefore g) (half_of_square side parent)
    (chosen, inr (side, refl, is)) only
  where
    only : (part : Part) → InQuarter g held parent corner part → part ≡ half_of_square side parent
    only part in_it = elim in_it.1 [
      | inl under ↦
          absurd
          (none_on_side g held parent side corner part chosen
          (subst (λ c. IsOnSide side c) is (is_quarter_on side)) (in_it.0, under))
      | inr half ↦
          let other : IsChosenHalf g held parent half.0 = subst (λ p. IsWritten g held p) half.1 in_it.0 in
          half.1 ∙ ap (λ s. half_of_square s parent) (one_chosen g held parent half.0 side other chosen)
    ]

-- no part begins in the other quarter of the chosen half
pub of_second : (g : ℕ) (held : ℕ → ℕ → Bool) (parent : List Corner) (side : Side) (corner : Corner)
    → IsChosenHalf g held parent side → IsOnSide side corner → ¬ (quarter_on side ≡ corner)
    → AreOfQuarter g held parent corner []
of_second g held parent side corner chosen on not_first =
    listed_none (InQuarter g held parent corner) (ComesBefore g) (λ part in_it. elim in_it.1 [
      | inl under ↦ none_on_side g held parent side corner part chosen on (in_it.0, under)
      | inr half ↦
          let other : IsChosenHalf g held parent half.0 = subst (λ p. IsWritten g held p) half.1 in_it.0 in
          not_first (ap quarter_on (sym (one_chosen g held parent half.0 side other chosen)) ∙ half.2)
    ])

-- off the chosen half, or if there is none, the written parts that begin in a quarter are the
-- quarter's own
pub of_quarter : (g : ℕ) (held : ℕ → ℕ → Bool) (parent : List Corner) (corner : Corner) (parts : List Part)
    → ((side : Side) → IsChosenHalf g held parent side → ¬ IsOnSide side corner)
    → AreOfSquare g held (corner ∷ parent) parts → AreOfQuarter g held parent corner parts
of_quarter g held parent corner parts off are =
    listed_as (InSquare g held (corner ∷ parent)) (InQuarter g held parent corner) (ComesBefore g) parts
    (λ part is. (is.0, inl is.1)) from are
  where
    from : (part : Part) → InQuarter g held parent corner part → InSquare g held (corner ∷ parent) part
    from part in_it = elim in_it.1 [
      | inl under ↦ (in_it.0, under)
      | inr half ↦
          let chosen : IsChosenHalf g held parent half.0 = subst (λ p. IsWritten g held p) half.1 in_it.0 in
          absurd (off half.0 chosen (subst (λ c. IsOnSide half.0 c) half.2 (is_quarter_on half.0)))
    ]

-- all quarters of a square that is not full
pub of_quarters : (g : ℕ) (held : ℕ → ℕ → Bool) (quarters : List Corner) (ne nw sw se : List Part)
    → length quarters < g → ¬ IsFull g held (square quarters)
    → AreOfQuarter g held quarters NE ne → AreOfQuarter g held quarters NW nw
    → AreOfQuarter g held quarters SW sw → AreOfQuarter g held quarters SE se
    → AreOfSquare g held quarters (((ne ++ nw) ++ sw) ++ se)
unfolding square_quarters
of_quarters g held quarters ne nw sw se fits short are_ne are_nw are_sw are_se =
    listed_as (λ p. ((In NE p ⊎ In NW p) ⊎ In SW p) ⊎ In SE p) (InSquare g held quarters) (ComesBefore g)
    (((ne ++ nw) ++ sw) ++ se) to from
    (listed_both (λ p. (In NE p ⊎ In NW p) ⊎ In SW p) (In SE) (ComesBefore g) ((ne ++ nw) ++ sw) se
    (listed_both (λ p. In NE p ⊎ In NW p) (In SW) (ComesBefore g) (ne ++ nw) sw
    (listed_both (In NE) (In NW) (ComesBefore g) ne nw are_ne are_nw (ahead NE NW (omega arith)))
    are_sw before_sw) are_se before_se)
  where
    In : Corner → Part → Type 0
    In corner part = InQuarter g held quarters corner part

    ahead : (corner other : Corner) → turn_of_quarter corner < turn_of_quarter other → (x y : Part)
        → In corner x → In other y → ComesBefore g x y
    ahead corner other less x y is is' =
        quarters_ahead g held quarters corner other x y fits less (full_part g held x is.0)
        (full_part g held y is'.0) is.1 is'.1

    before_sw : (x y : Part) → In NE x ⊎ In NW x → In SW y → ComesBefore g x y
    before_sw x y (inl is) is' = ahead NE SW (omega arith) x y is is'
    before_sw x y (inr is) is' = ahead NW SW (omega arith) x y is is'

    before_se : (x y : Part) → (In NE x ⊎ In NW x) ⊎ In SW x → In SE y → ComesBefore g x y
    before_se x y (inl (inl is)) is' = ahead NE SE (omega arith) x y is is'
    before_se x y (inl (inr is)) is' = ahead NW SE (omega arith) x y is is'
    before_se x y (inr is) is' = ahead SW SE (omega arith) x y is is'

    one_in : (part : Part) (corner : Corner) → In corner part → InSquare g held quarters part
    one_in part corner is = elim is.1 [
      | inl under ↦ (is.0, under_parent corner quarters (square_quarters part) under)
      | inr half ↦
          (is.0, subst (λ p. IsUnder quarters (square_quarters p)) (sym half.1) (under_itself quarters))
    ]

    to : (part : Part) → ((In NE part ⊎ In NW part) ⊎ In SW part) ⊎ In SE part → InSquare g held quarters part
    to part (inl (inl (inl is))) = one_in part NE is
    to part (inl (inl (inr is))) = one_in part NW is
    to part (inl (inr is)) = one_in part SW is
    to part (inr is) = one_in part SE is

    at : (part : Part) (corner : Corner) → In corner part
        → ((In NE part ⊎ In NW part) ⊎ In SW part) ⊎ In SE part
    at part NE is = inl (inl (inl is))
    at part NW is = inl (inl (inr is))
    at part SW is = inl (inr is)
    at part SE is = inr is

    same : (part : Part) → IsWritten g held part → square_quarters part ≡ quarters
        → (side : Side) × (part ≡ half_of_square side quarters)
    same (square own) written is =
        absurd (short (subst (λ q. IsFull g held (square q)) is (full_part g held (square own) written)))
    same (half_of_square side own) written is = (side, ap (λ q. half_of_square side q) is)

    from : (part : Part) → InSquare g held quarters part
        → ((In NE part ⊎ In NW part) ⊎ In SW part) ⊎ In SE part
    from part is = elim (under_quarter quarters (square_quarters part) is.1) [
      | inl here ↦
          let half = same part is.0 here in at part (quarter_on half.0) (is.0, inr (half.0, half.1, refl))
      | inr found ↦ at part found.0 (is.0, inl found.1)
    ]
