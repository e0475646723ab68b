-- The written parts of the land: they share no place, and contain all of it.
use Rattle.std.proofs.Common.{◌≡◌, ℕ, zero, suc, ◌<◌, ◌≤◌, Bool, true, List, [], ◌∷◌, length, sym, ap, subst}
use Rattle.std.proofs.Common.{◌∙◌, inl, inr, arith}
use Rattle.std.proofs.lemmas.Bool.{cases_lt}
use Rattle.twp_grid.specs.declared.block.Side.{Side}
use Rattle.twp_grid.specs.declared.block.Corner.{Corner}
use Rattle.twp_grid.specs.Places.{IsPlace}
use Rattle.twp_spell.specs.WrittenParts.{Part, IsInPart, IsFull, IsChosenHalf, IsOnSide, IsWritten}
use Rattle.twp_spell.specs.WrittenParts.Part.{square, half_of_square}
use Rattle.twp_spell.specs.steps.Spelling.{square_quarters}
use Rattle.twp_spell.proofs.SquareFacts.{square_within, square_fits, half_fits}
use Rattle.twp_spell.proofs.SquarePlaces.{first_of, up, corner_at, up_none, up_next, in_square, square_in}
use Rattle.twp_spell.proofs.SquarePlaces.{up_all, one_place}
use Rattle.twp_spell.proofs.HalfPlaces.{in_half, half_in}
use Rattle.twp_spell.proofs.FullParts.{is_full, chosen_half, one_chosen, on_side, length_up, full_below}
use Rattle.twp_spell.proofs.FullParts.{half_below}

-- how many quarters reach a part's square
pub level : Part → ℕ
level (square quarters) = length quarters
level (half_of_square side quarters) = length quarters

-- the square of a written part that contains a place, and which of the place's squares are full
record Covers (g : ℕ) (held : ℕ → ℕ → Bool) (column row : ℕ) (part : Part) : Type 0 where
  fits : level part ≤ g
  below : (j : ℕ) → level part < j → j ≤ g → IsFull g held (square (up g j column row))

covers : (g : ℕ) (held : ℕ → ℕ → Bool) (column row : ℕ) (part : Part) → IsWritten g held part
    → IsInPart g part column row → Covers g held column row part
unfolding level
covers g held column row (half_of_square side quarters) chosen inside =
    let less = half_fits g side quarters chosen.full.within in
    let there = in_half g side quarters column row less inside.asked in
    let full : IsFull g held (half_of_square side (up g (length quarters) column row)) =
    subst (λ q. IsFull g held (half_of_square side q)) (sym there.0) chosen.full in
    let next = half_below g held side (length quarters) column row less there.1 full in
    record {
      fits = omega arith;
      below =
          λ j deeper within. full_below g held (suc (length quarters)) j column row (omega arith) within next;
    }
covers g held column row (square []) full inside =
    record {
      fits = omega arith;
      below = λ j deeper within.
          full_below g held 0 j column row (omega arith) within (rw (up_none g column row) full);
    }
covers g held column row (square (corner ∷ parent)) written inside =
    let fits = square_fits g (corner ∷ parent) written.0.within in
    let there = in_square g (corner ∷ parent) column row fits inside.asked in
    let full : IsFull g held (square (up g (length (corner ∷ parent)) column row)) =
    subst (λ q. IsFull g held (square q)) (sym there) written.0 in
    record {
      fits = fits;
      below = λ j deeper within.
          full_below g held (length (corner ∷ parent)) j column row (omega arith) within full;
    }

-- the parent of a written square that contains a place, and the square's corner in it
pub parent_of : (g : ℕ) (corner : Corner) (parent : List Corner) (column row : ℕ) → suc (length parent) ≤ g
    → up g (suc (length parent)) column row ≡ corner ∷ parent
    → (corner_at g (length parent) column row ≡ corner) × (up g (length parent) column row ≡ parent)
parent_of g corner parent column row fits is =
    first_of (corner_at g (length parent) column row) corner (up g (length parent) column row) parent
    (sym (up_next g (length parent) column row fits) ∙ is)

-- no written part with a place of a written part is deeper than it
not_deeper : (g : ℕ) (held : ℕ → ℕ → Bool) (column row : ℕ) (part other : Part) → IsWritten g held part
    → IsWritten g held other
    → IsInPart g part column row → IsInPart g other column row → level part < level other → ⊥
unfolding level
not_deeper g held column row part (half_of_square side quarters) written chosen inside inside' deeper =
    let less = half_fits g side quarters chosen.full.within in
    let there = in_half g side quarters column row less inside'.asked in
    let all = covers g held column row part written inside in
    chosen.square_is_not
    (subst (λ q. IsFull g held (square q)) there.0 (all.below (length quarters) deeper (omega arith)))
not_deeper g held column row part (square []) written full inside inside' deeper = absurd (omega arith)
not_deeper g held column row part (square (corner ∷ parent)) written written' inside inside' deeper =
    let fits = square_fits g (corner ∷ parent) written'.0.within in
    let there =
    parent_of g corner parent column row fits (in_square g (corner ∷ parent) column row fits inside'.asked) in
    elim (cases_lt (level part) (length parent)) [
      | inl above ↦
          let all = covers g held column row part written inside in
          written'.1
          (subst (λ q. IsFull g held (square q)) there.1 (all.below (length parent) above (omega arith)))
      | inr here ↦ beside part written inside (omega arith) there
    ]
  where
    beside : (part : Part) → IsWritten g held part → IsInPart g part column row → level part ≡ length parent
        → (corner_at g (length parent) column row ≡ corner) × (up g (length parent) column row ≡ parent) → ⊥
    beside (square []) full inside same there =
        let fits = square_fits g [] full.within in
        let is : [] ≡ parent =
        sym (in_square g [] column row fits inside.asked) ∙ ap (λ k. up g k column row) same ∙ there.1 in
        written'.1 (subst (λ q. IsFull g held (square q)) is full)
    beside (square (first ∷ more)) full inside same there =
        let fits = square_fits g (first ∷ more) full.0.within in
        let is : (first ∷ more) ≡ parent =
        sym (in_square g (first ∷ more) column row fits inside.asked)
        ∙ ap (λ k. up g k column row) same
        ∙ there.1 in
        written'.1 (subst (λ q. IsFull g held (square q)) is full.0)
    beside (half_of_square side quarters) chosen inside same there =
        let less = half_fits g side quarters chosen.full.within in
        let half = in_half g side quarters column row less inside.asked in
        let is : quarters ≡ parent = sym half.0 ∙ ap (λ k. up g k column row) same ∙ there.1 in
        let corner_is : corner_at g (length quarters) column row ≡ corner =
        ap (λ k. corner_at g k column row) same ∙ there.0 in
        written'.2 side (subst (λ q. IsChosenHalf g held q side) is chosen)
        (subst (λ c. IsOnSide side c) corner_is half.1)

-- the square of a written part that contains a place
its_square : (g : ℕ) (held : ℕ → ℕ → Bool) (column row : ℕ) (part : Part) → IsWritten g held part
    → IsInPart g part column row → up g (level part) column row ≡ square_quarters part
unfolding level square_quarters
its_square g held column row (half_of_square side quarters) chosen inside =
    (in_half g side quarters column row (half_fits g side quarters chosen.full.within) inside.asked).0
its_square g held column row (square []) full inside = up_none g column row
its_square g held column row (square (corner ∷ parent)) written inside =
    in_square g (corner ∷ parent) column row (square_fits g (corner ∷ parent) written.0.within) inside.asked

full_square : (g : ℕ) (held : ℕ → ℕ → Bool) (quarters : List Corner) → IsWritten g held (square quarters)
    → IsFull g held (square quarters)
full_square g held [] full = full
full_square g held (corner ∷ parent) written = written.0

-- only one part of a square that contains a place is written
same_square : (g : ℕ) (held : ℕ → ℕ → Bool) (part other : Part) → IsWritten g held part
    → IsWritten g held other → square_quarters part ≡ square_quarters other → part ≡ other
unfolding square_quarters
same_square g held (square quarters) (square quarters') written written' same = ap (λ q. square q) same
same_square g held (square quarters) (half_of_square side quarters') written chosen same =
    absurd
    (chosen.square_is_not (subst (λ q. IsFull g held (square q)) same (full_square g held quarters written)))
same_square g held (half_of_square side quarters) (square quarters') chosen written same =
    absurd
    (chosen.square_is_not
    (subst (λ q. IsFull g held (square q)) (sym same) (full_square g held quarters' written)))
same_square g held (half_of_square side quarters) (half_of_square side' quarters') chosen chosen' same =
    let side_is : side ≡ side' =
    one_chosen g held quarters' side side' (subst (λ q. IsChosenHalf g held q side) same chosen) chosen' in
    ap (λ s. half_of_square s quarters) side_is ∙ ap (λ q. half_of_square side' q) same

-- written parts that share a place are the same
pub one_part : (g : ℕ) (held : ℕ → ℕ → Bool) (column row : ℕ) (part other : Part) → IsWritten g held part
    → IsWritten g held other
    → IsInPart g part column row → IsInPart g other column row → part ≡ other
one_part g held column row part other written written' inside inside' =
    elim (cases_lt (level part) (level other)) [
      | inl less ↦ absurd (not_deeper g held column row part other written written' inside inside' less)
      | inr more ↦ elim (cases_lt (level other) (level part)) [
        | inl less ↦ absurd (not_deeper g held column row other part written' written inside' inside less)
        | inr not_less ↦
            let same : level part ≡ level other = omega arith in
            same_square g held part other written written'
            (sym (its_square g held column row part written inside)
            ∙ ap (λ k. up g k column row) same
            ∙ its_square g held column row other written' inside')
      ]
    ]

-- each place of a written part is in the land
pub written_held : (g : ℕ) (held : ℕ → ℕ → Bool) (column row : ℕ) (part : Part) → IsWritten g held part
    → IsInPart g part column row → held column row ≡ true
written_held g held column row (half_of_square side quarters) chosen inside =
    chosen.full.each column row inside
written_held g held column row (square []) full inside = full.each column row inside
written_held g held column row (square (corner ∷ parent)) written inside = written.0.each column row inside

-- the written part that contains a place
pub record HasPart (g : ℕ) (held : ℕ → ℕ → Bool) (column row : ℕ) : Type 0 where
  pub part : Part
  pub written : IsWritten g held part
  pub inside : IsInPart g part column row

square_of_place : (g k column row : ℕ) → IsPlace g column row → k ≤ g
    → IsInPart g (square (up g k column row)) column row
square_of_place g k column row place fits =
    let long = length_up g k column row in
    record {
      place = place;
      asked = square_in g (up g k column row) column row (rw long fits) (ap (λ n. up g n column row) long);
    }

half_of_place : (g : ℕ) (side : Side) (k column row : ℕ) → IsPlace g column row → k < g
    → IsOnSide side (corner_at g k column row)
    → IsInPart g (half_of_square side (up g k column row)) column row
half_of_place g side k column row place less on =
    let long = length_up g k column row in
    record {
      place = place;
      asked =
          half_in g side (up g k column row) column row (rw long less) (ap (λ n. up g n column row) long)
          (subst (λ n. IsOnSide side (corner_at g n column row)) (sym long) on);
    }

climb : (g : ℕ) (held : ℕ → ℕ → Bool) (k column row : ℕ) → IsPlace g column row → k ≤ g
    → IsFull g held (square (up g k column row)) → HasPart g held column row
climb g held zero column row place fits full = record {
  part = square [];
  written = subst (λ q. IsFull g held (square q)) (up_none g column row) full;
  inside =
      subst (λ q. IsInPart g (square q) column row) (up_none g column row)
      (square_of_place g 0 column row place (omega arith));
}
climb g held (suc k) column row place fits full = elim (is_full g held (square (up g k column row))) [
  | inl greater ↦ climb g held k column row place (omega arith) greater
  | inr short ↦ elim (chosen_half g held (up g k column row) short) [
    | inr none ↦ as_square short (λ side chosen. absurd (none side chosen.full))
    | inl chosen ↦ elim (on_side chosen.0 (corner_at g k column row)) [
      | inl on ↦ record {
        part = half_of_square chosen.0 (up g k column row);
        written = chosen.1;
        inside = half_of_place g chosen.0 k column row place (omega arith) on;
      }
      | inr off ↦ as_square short (λ side other on.
          off
          (subst (λ s. IsOnSide s (corner_at g k column row))
          (one_chosen g held (up g k column row) side chosen.0 other chosen.1) on))
    ]
  ]
]
  where
    as_square : ¬ IsFull g held (square (up g k column row))
        → ((side : Side) → IsChosenHalf g held (up g k column row) side
        → ¬ IsOnSide side (corner_at g k column row))
        → HasPart g held column row
    as_square short off =
        let next = up_next g k column row fits in
        record {
          part = square (corner_at g k column row ∷ up g k column row);
          written = (subst (λ q. IsFull g held (square q)) next full, short, off);
          inside =
              subst (λ q. IsInPart g (square q) column row) next
              (square_of_place g (suc k) column row place fits);
        }

pub has_part : (g : ℕ) (held : ℕ → ℕ → Bool) (column row : ℕ) → IsPlace g column row → held column row ≡ true
    → HasPart g held column row
has_part g held column row place is = climb g held g column row place (omega arith) (record {
  within = square_within g (up g g column row) (rw (length_up g g column row) (omega arith));
  each = only;
})
  where
    only : (column' row' : ℕ) → IsInPart g (square (up g g column row)) column' row'
        → held column' row' ≡ true
    only column' row' inside =
        let long = length_up g g column row in
        let there = in_square g (up g g column row) column' row' (rw long (omega arith)) inside.asked in
        let same : up g g column' row' ≡ up g g column row =
        subst (λ n. up g n column' row' ≡ up g g column row) long there in
        let one =
        one_place g column' row' column row inside.place place
        (sym (up_all g column' row') ∙ same ∙ up_all g column row) in
        rw (one.0, one.1) is
