-- A half of a square is full if both its quarters are, and a square if all four are.
use Rattle.std.proofs.Common.{◌≡◌, ◌↔◌, ◌&&◌, ℕ, suc, ◌<◌, ◌⊎◌, Bool, true, false, List, ◌∷◌, length, Option}
use Rattle.std.proofs.Common.{Some, None, is_some, IsTrue, refl, sym, ap, subst, ◌∙◌, inl, inr, arith}
use Rattle.std.proofs.lemmas.Bool.{false≢true}
use Rattle.twp_grid.specs.declared.block.Side.{Side}
use Rattle.twp_grid.specs.declared.block.Side.TheVariants.{N, S, E, W}
use Rattle.twp_grid.specs.declared.block.Corner.{Corner}
use Rattle.twp_grid.specs.declared.block.Corner.TheVariants.{NE, NW, SW, SE}
use Rattle.twp_grid.specs.Places.{IsPlace}
use Rattle.twp_spell.specs.declared.full_quarters.FullQuarters.{FullQuarters}
use Rattle.twp_spell.specs.WrittenParts.{IsFull, IsChosenHalf, IsOnSide}
use Rattle.twp_spell.specs.WrittenParts.Part.{square, half_of_square}
use Rattle.twp_spell.specs.steps.Spelling.{all_of, full_at, quarter_on, AreFull, chosen_of, IsChoice}
use Rattle.twp_spell.specs.steps.Spelling.{IsOffChosen}
use Rattle.twp_spell.proofs.SquareFacts.{square_within, half_within}
use Rattle.twp_spell.proofs.SquarePlaces.{up, corner_at, up_next, in_square, square_in}
use Rattle.twp_spell.proofs.HalfPlaces.{in_half, half_in}
use Rattle.twp_spell.proofs.FullParts.{below_south, below_east, below_west, each_side}
use Rattle.twp_spell.proofs.WrittenFacts.{parent_of}
use Rattle.twp_spell.proofs.Descent.{under_itself, full_under}

-- the second of a half's two quarters
other_on : Side → Corner
other_on N = NW
other_on S = SE
other_on E = SE
other_on W = SW

one_of_two : (side : Side) (corner : Corner) → IsOnSide side corner
    → (corner ≡ quarter_on side) ⊎ (corner ≡ other_on side)
unfolding other_on quarter_on
one_of_two N NE on = inl refl
one_of_two N NW on = inr refl
one_of_two N SW on = absurd on
one_of_two N SE on = absurd on
one_of_two S NE on = absurd on
one_of_two S NW on = absurd on
one_of_two S SW on = inl refl
one_of_two S SE on = inr refl
one_of_two E NE on = inl refl
one_of_two E NW on = absurd on
one_of_two E SW on = absurd on
one_of_two E SE on = inr refl
one_of_two W NE on = absurd on
one_of_two W NW on = inl refl
one_of_two W SW on = inr refl
one_of_two W SE on = absurd on

-- a place of a square whose quarter at the place's corner is full
held_by_quarter : (g : ℕ) (held : ℕ → ℕ → Bool) (quarters : List Corner) (corner : Corner) (column row : ℕ)
    → length quarters < g → IsFull g held (square (corner ∷ quarters))
    → IsPlace g column row → up g (length quarters) column row ≡ quarters
    → corner_at g (length quarters) column row ≡ corner → held column row ≡ true
held_by_quarter g held quarters corner column row fits full place there here =
    let is : up g (suc (length quarters)) column row ≡ corner ∷ quarters =
    up_next g (length quarters) column row fits
    ∙ ap (λ c. c ∷ up g (length quarters) column row) here
    ∙ ap (λ q. corner ∷ q) there in
    full.each column row
    (record { place = place; asked = square_in g (corner ∷ quarters) column row (omega arith) is })

half_full : (g : ℕ) (held : ℕ → ℕ → Bool) (side : Side) (quarters : List Corner) → length quarters < g
    → IsFull g held (square (quarter_on side ∷ quarters)) → IsFull g held (square (other_on side ∷ quarters))
    → IsFull g held (half_of_square side quarters)
half_full g held side quarters fits first second = record {
  within = half_within g side quarters fits;
  each = λ column row inside.
      let there = in_half g side quarters column row fits inside.asked in
      elim (one_of_two side (corner_at g (length quarters) column row) there.1) [
        | inl is ↦
            held_by_quarter g held quarters (quarter_on side) column row fits first inside.place there.0 is
        | inr is ↦
            held_by_quarter g held quarters (other_on side) column row fits second inside.place there.0 is
      ];
}

pub quarter_full : (g : ℕ) (held : ℕ → ℕ → Bool) (side : Side) (corner : Corner) (quarters : List Corner)
    → length quarters < g → IsOnSide side corner → IsFull g held (half_of_square side quarters)
    → IsFull g held (square (corner ∷ quarters))
quarter_full g held side corner quarters fits on full = record {
  within = square_within g (corner ∷ quarters) (omega arith);
  each = λ column row inside.
      let above =
      parent_of g corner quarters column row (omega arith)
      (in_square g (corner ∷ quarters) column row (omega arith) inside.asked) in
      full.each column row (record {
        place = inside.place;
        asked =
            half_in g side quarters column row fits above.1 (subst (λ c. IsOnSide side c) (sym above.0) on);
      });
}

-- the choice by the quarters that are full
pub choice_is_right : (g : ℕ) (held : ℕ → ℕ → Bool) (quarters : List Corner) (full : FullQuarters)
    → length quarters < g → AreFull g held quarters full → ¬ IsFull g held (square quarters)
    → IsChoice g held quarters (chosen_of full)
unfolding quarter_on other_on
choice_is_right g held quarters full fits are short =
    by_tests full.ne full.nw full.sw full.se (are NE) (are NW) (are SW) (are SE)
  where
    Full : Corner → Type 0
    Full corner = IsFull g held (square (corner ∷ quarters))

    HalfFull : Side → Type 0
    HalfFull side = IsFull g held (half_of_square side quarters)

    not_half : (side : Side) (corner : Corner) → IsOnSide side corner → ¬ Full corner → ¬ HalfFull side
    not_half side corner on none half = none (quarter_full g held side corner quarters fits on half)

    none_of : (test : Bool) (P : Type 0) → IsTrue test ↔ P → test ≡ false → ¬ P
    none_of test P is not_so holds = false≢true (sym not_so ∙ is.1 holds)

    off : (test : Bool) (side : Side) (corner : Corner) → IsTrue test ↔ Full corner → IsOnSide side corner
        → test ≡ false → ¬ HalfFull side
    off test side corner is on not_so = not_half side corner on (none_of test (Full corner) is not_so)

    chosen_south : ¬ HalfFull N → Full SW → Full SE → IsChosenHalf g held quarters S
    chosen_south n sw se = record {
      square_is_not = short;
      full = half_full g held S quarters fits sw se;
      first = below_south (λ side. ¬ HalfFull side) n;
    }

    by_tests : (ne nw sw se : Bool) → IsTrue ne ↔ Full NE → IsTrue nw ↔ Full NW → IsTrue sw ↔ Full SW
        → IsTrue se ↔ Full SE
        → IsChoice g held quarters (chosen_of (record { ne = ne; nw = nw; sw = sw; se = se }))
    by_tests true true sw se a b c d = record {
      square_is_not = short;
      full = half_full g held N quarters fits (a.0 refl) (b.0 refl);
      first = λ other less. absurd (omega arith);
    }
    by_tests true false true true a b c d = chosen_south (off false N NW b tt refl) (c.0 refl) (d.0 refl)
    by_tests false true true true a b c d = chosen_south (off false N NE a tt refl) (c.0 refl) (d.0 refl)
    by_tests false false true true a b c d = chosen_south (off false N NE a tt refl) (c.0 refl) (d.0 refl)
    by_tests true false false true a b c d = record {
      square_is_not = short;
      full = half_full g held E quarters fits (a.0 refl) (d.0 refl);
      first = below_east (λ side. ¬ HalfFull side) (off false N NW b tt refl) (off false S SW c tt refl);
    }
    by_tests false true true false a b c d = record {
      square_is_not = short;
      full = half_full g held W quarters fits (b.0 refl) (c.0 refl);
      first =
          below_west (λ side. ¬ HalfFull side) (off false N NE a tt refl) (off false S SE d tt refl)
          (off false E NE a tt refl);
    }
    by_tests true false true false a b c d =
        each_side (λ side. ¬ HalfFull side) (off false N NW b tt refl) (off false S SE d tt refl)
        (off false E SE d tt refl) (off false W NW b tt refl)
    by_tests true false false false a b c d =
        each_side (λ side. ¬ HalfFull side) (off false N NW b tt refl) (off false S SE d tt refl)
        (off false E SE d tt refl) (off false W NW b tt refl)
    by_tests false true false true a b c d =
        each_side (λ side. ¬ HalfFull side) (off false N NE a tt refl) (off false S SW c tt refl)
        (off false E NE a tt refl) (off false W SW c tt refl)
    by_tests false true false false a b c d =
        each_side (λ side. ¬ HalfFull side) (off false N NE a tt refl) (off false S SW c tt refl)
        (off false E NE a tt refl) (off false W SW c tt refl)
    by_tests false false true false a b c d =
        each_side (λ side. ¬ HalfFull side) (off false N NE a tt refl) (off false S SE d tt refl)
        (off false E NE a tt refl) (off false W NW b tt refl)
    by_tests false false false true a b c d =
        each_side (λ side. ¬ HalfFull side) (off false N NE a tt refl) (off false S SW c tt refl)
        (off false E NE a tt refl) (off false W NW b tt refl)
    by_tests false false false false a b c d =
        each_side (λ side. ¬ HalfFull side) (off false N NE a tt refl) (off false S SW c tt refl)
        (off false E NE a tt refl) (off false W NW b tt refl)

pub choice_made : (g : ℕ) (held : ℕ → ℕ → Bool) (quarters : List Corner) (full : FullQuarters)
    (chosen : Option Side)
    → length quarters < g → chosen ≡ chosen_of full → AreFull g held quarters full
    → ¬ IsFull g held (square quarters) → IsChoice g held quarters chosen
choice_made g held quarters full chosen fits is are short =
    subst (λ c. IsChoice g held quarters c) (sym is) (choice_is_right g held quarters full fits are short)

-- a square is full if all its quarters are
pub all_full : (g : ℕ) (held : ℕ → ℕ → Bool) (quarters : List Corner) (full : FullQuarters)
    → length quarters < g → AreFull g held quarters full
    → IsTrue (all_of full) ↔ IsFull g held (square quarters)
all_full g held quarters full fits are = (
  (λ all. square_full (by_tests full.ne full.nw full.sw full.se (are NE) (are NW) (are SW) (are SE) all)),
  (λ whole.
      all_true full.ne full.nw full.sw full.se (quarter_true whole NE) (quarter_true whole NW)
      (quarter_true whole SW) (quarter_true whole SE)),
)
  where
    Full : Corner → Type 0
    Full corner = IsFull g held (square (corner ∷ quarters))

    by_tests : (ne nw sw se : Bool) → IsTrue ne ↔ Full NE → IsTrue nw ↔ Full NW → IsTrue sw ↔ Full SW
        → IsTrue se ↔ Full SE → IsTrue (ne && (nw && (sw && se))) → (corner : Corner) → Full corner
    by_tests true true true true a b c d all NE = a.0 refl
    by_tests true true true true a b c d all NW = b.0 refl
    by_tests true true true true a b c d all SW = c.0 refl
    by_tests true true true true a b c d all SE = d.0 refl
    by_tests true true true false a b c d all corner = cc all
    by_tests true true false se a b c d all corner = cc all
    by_tests true false sw se a b c d all corner = cc all
    by_tests false nw sw se a b c d all corner = cc all

    square_full : ((corner : Corner) → Full corner) → IsFull g held (square quarters)
    square_full each = record {
      within = square_within g quarters (omega arith);
      each = λ column row inside.
          held_by_quarter g held quarters (corner_at g (length quarters) column row) column row fits
          (each (corner_at g (length quarters) column row)) inside.place
          (in_square g quarters column row (omega arith) inside.asked) refl;
    }

    quarter_true : IsFull g held (square quarters) → (corner : Corner) → full_at full corner ≡ true
    quarter_true whole corner =
        (are corner).1
        (full_under g held quarters (corner ∷ quarters) (inr (under_itself quarters)) (omega arith) whole)

    all_true : (ne nw sw se : Bool) → ne ≡ true → nw ≡ true → sw ≡ true → se ≡ true
        → (ne && (nw && (sw && se))) ≡ true
    all_true ne nw sw se a b c d = rw (a, b, c, d) refl

-- if no half is full, no quarter lies in a chosen half
pub no_choice : (full : FullQuarters) → is_some (chosen_of full) ≡ false → chosen_of full ≡ None
no_choice full is = none (chosen_of full) is
  where
    none : (chosen : Option Side) → is_some chosen ≡ false → chosen ≡ None
    none None is = refl
    none (Some side) is = cc is

pub off_all : (g : ℕ) (held : ℕ → ℕ → Bool) (quarters : List Corner) (full : FullQuarters) (corner : Corner)
    → length quarters < g → chosen_of full ≡ None → AreFull g held quarters full
    → ¬ IsFull g held (square quarters) → IsOffChosen g held quarters corner
off_all g held quarters full corner fits none are short = λ side chosen.
    absurd
    (subst (λ c. IsChoice g held quarters c) none (choice_is_right g held quarters full fits are short) side
    chosen.full)
