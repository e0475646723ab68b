-- The steps of the code that adds pieces.
use Rattle.std.proofs.Common.{◌≡◌, ℕ, ◌+◌, ◌-◌, ◌*◌, ◌<◌, ◌≤◌, Option, Some, ap, sym, ◌∙◌, inl, inr}
use Rattle.std.proofs.Common.{arith}
use Rattle.std.specs.Option.{SomeIff}
use Rattle.twp_measure.specs.Areas.{Fraction}
use Rattle.twp_grid.specs.Winding.{IsSection}
use Rattle.twp_grid.specs.Spans.{total, over_positions}
use Rattle.twp_grid.proofs.TotalFacts.{total-next}
use Rattle.twp_plat.specs.Plats.{SurveyPlat, IsPlat}
use Rattle.twp_plat.specs.Pieces.{IsPieceArea, over_of}
use Rattle.twp_plat.specs.Pieces.{ArePieces, IsSectionArea, IsTownshipArea}
use Rattle.twp_plat.proofs.SectionPieces.{pieces_of, piece_at}

-- one more term
pub sum_next : (n units more : ℕ) (f : ℕ → ℕ) → units ≡ total n f → more ≡ f n
    → units + more ≡ total (n + 1) f
sum_next n units more f is is' = let next = total-next n f in omega arith

-- the sections before a number, and the section with that number
pub sections_next : (number units more : ℕ) (f : ℕ → ℕ) → 1 ≤ number
    → units ≡ total (number - 1) (λ before. f (before + 1)) → more ≡ f number
    → units + more ≡ total (number + 1 - 1) (λ before. f (before + 1))
sections_next number units more f first is is' =
    let last : number - 1 + 1 ≡ number = omega arith in
    let count : number + 1 - 1 ≡ number - 1 + 1 = omega arith in
    rw count (sum_next (number - 1) units more (λ before. f (before + 1)) is (is' ∙ ap f (sym last)))

-- a bounded term is added to a bounded sum
pub most_next : (n k units more : ℕ) → units ≤ n * k → more ≤ k → units + more ≤ (n + 1) * k
most_next n k units more most added = omega arith

pub sections_most : (number k units more : ℕ) → 1 ≤ number → units ≤ (number - 1) * k → more ≤ k
    → units + more ≤ (number + 1 - 1) * k
sections_most number k units more first most added =
    let count : number + 1 - 1 ≡ number - 1 + 1 = omega arith in
    rw count (most_next (number - 1) k units more most added)

-- the value of an option
pub value_is : {A : Type 0} (found : Option A) (P : Type 0) (value x : A) → SomeIff found P value
    → found ≡ Some x → x ≡ value
value_is found P value x is there = (rw there at is).1

-- a piece belongs to a section
in_section : (plat : SurveyPlat) (section column row : ℕ) (area : Fraction)
    → IsPieceArea plat section column row area → IsSection section
in_section plat section column row area is = elim is.are.sides.stands.winds [
  | inl even ↦ (
    omega (arith, even.1),
    omega (arith, even.1, is.are.sides.stands.row_range, is.are.sides.stands.column_range),
  )
  | inr odd ↦ (
    omega (arith, odd.1, is.are.sides.stands.column_range),
    omega (arith, odd.1, is.are.sides.stands.row_range),
  )
]

-- the units of a piece are those of the plat
pub units_are : (plat : SurveyPlat) (section column row : ℕ) (area : Fraction) (pieces : ℕ → ℕ → ℕ → ℕ)
    → IsPieceArea plat section column row area
    → area.over ≡ over_of plat → column < 4 → row < 4 → ArePieces plat pieces
    → area.units ≡ pieces section column row
units_are plat section column row area pieces is over in_column in_row are =
    piece_at plat pieces section column row area are (in_section plat section column row area is)
    (in_column, in_row) is over

-- the sum over the positions is the section's area
pub section_area : (plat : SurveyPlat) (section : ℕ) (area : Fraction) → IsPlat plat
    → area.over ≡ over_of plat
    → ((pieces : ℕ → ℕ → ℕ → ℕ) → ArePieces plat pieces → area.units ≡ over_positions (pieces section))
    → IsSectionArea plat section area
section_area plat section area is over units =
    let has = pieces_of plat is in
    record { pieces = has.pieces; are = has.are; over_is = over; sum_is = units has.pieces has.are }

-- the sum over the sections is the township's area
pub township_area : (plat : SurveyPlat) (number : ℕ) (area : Fraction) → IsPlat plat
    → area.over ≡ over_of plat → number ≡ 37
    → ((pieces : ℕ → ℕ → ℕ → ℕ) → ArePieces plat pieces
    → area.units ≡ total (number - 1) (λ before. over_positions (pieces (before + 1))))
    → IsTownshipArea plat area
township_area plat number area is over all units =
    let has = pieces_of plat is in
    let count : number - 1 ≡ 36 = omega arith in
    record {
      pieces = has.pieces;
      are = has.are;
      over_is = over;
      sum_is = rw count at (units has.pieces has.are);
    }
