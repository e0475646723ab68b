-- The places of a set that are left after marked blocks have been taken from it, one after another.
use Rattle.std.proofs.Common.{◌≡◌, ℕ, ◌+◌, ◌≤◌, ◌&&◌, not, Bool, true, false, List, Some, None, is_none}
use Rattle.std.proofs.Common.{nat_le, nat_lt, refl, ◌∙◌, inl, inr, arith, if◌then◌else◌}
use Rattle.std.proofs.lemmas.Bool.{cases_lt}
use Rattle.std.proofs.lemmas.Bool.Decides.{nat_tests}
use Rattle.twp_grid.specs.Places.{PLACE_DIGITS, IsPlace}
use Rattle.twp_grid.specs.Spans.{Rectangle}
use Rattle.twp_grid.specs.Lands.{count_held, lotting}
use Rattle.twp_grid.proofs.PlaceTests.{test_of_place}
use Rattle.twp_land.specs.LotMaps.{NO_LAND, land_off_lots, layout_of_bytes, mark_of, place_number}
use Rattle.twp_land.specs.Storage.{held_without}
use Rattle.twp_land.specs.steps.Marked.{marked, below, NoneLeft, IsNextBlock}
use Rattle.twp_land.proofs.LeftFacts.{count, in_section_by_places, left_next, same_count}
use Rattle.twp_land.proofs.MarkedFacts.{is_marked, marked_parts}
use Rattle.twp_land.proofs.MarkedLoops.{below_next}
use Rattle.twp_land.proofs.MarkedLots.{mark_most}

-- what is marked as a lot, or as no land
abbrev pub off_land : List ℕ → List ℕ → ℕ → ℕ → ℕ → Bool
off_land positions divided section = marked positions divided section 1 NO_LAND

kept : (h m : Bool) → h ≡ (h && not (m && false))
kept true true = refl
kept true false = refl
kept false m = refl

pub marks_first : (set held : ℕ → ℕ → Bool) → count held ≡ count (held_without held (below set 0))
marks_first set held = same_count held (held_without held (below set 0)) (λ c r _. at c r)
  where
    at : (c r : ℕ) → held c r ≡ held_without held (below set 0) c r
    at c r =
        let none : nat_lt (place_number c r) 0 ≡ false = grind (arith, nat_tests) in
        rw none (kept (held c r) (set c r))

pub marks_next : (positions divided : List ℕ) (s from : ℕ) (held : ℕ → ℕ → Bool) (block : Rectangle) (end : ℕ)
    → IsNextBlock (off_land positions divided s) from block end
    → count (held_without held (below (off_land positions divided s) from))
    ≡ count (held_without held (below (off_land positions divided s) end)) + count_held held block
marks_next positions divided s from held block end next =
    left_next held (below (off_land positions divided s) from) (below (off_land positions divided s) end)
    block
    (in_section_by_places block block.columns.start block.rows.start next.some
    (λ c r inside. (marked_parts positions divided s 1 NO_LAND c r (next.is_set c r inside)).0))
    (λ c r inside. apart c r ((next.numbered c r inside).0))
    (λ c r _. below_next (off_land positions divided s) from block end c r next)
  where
    none : (m : Bool) → (m && false) ≡ false
    none true = refl
    none false = refl

    apart : (c r : ℕ) → from ≤ place_number c r → below (off_land positions divided s) from c r ≡ false
    apart c r after =
        let test : nat_lt (place_number c r) from ≡ false = grind (arith, nat_tests, after) in
        rw test (none (off_land positions divided s c r))

-- after the last of them, land in no lot is left
pub marks_last : (positions divided : List ℕ) (s from counted : ℕ) (held : ℕ → ℕ → Bool)
    → counted ≡ count (held_without held (below (off_land positions divided s) from))
    → NoneLeft (off_land positions divided s) from
    → counted ≡ count (land_off_lots (lotting (layout_of_bytes positions divided)) s held)
marks_last positions divided s from counted held is left =
    is
    ∙ same_count (held_without held (below (off_land positions divided s) from))
    (land_off_lots (lotting (layout_of_bytes positions divided)) s held)
    (λ c r place. at c r place)
  where
    taken : (h : Bool) → (h && false) ≡ ((h && false) && true)
    taken true = refl
    taken false = refl

    absent : (h b : Bool) → (h && false) ≡ ((h && b) && false)
    absent true true = refl
    absent true false = refl
    absent false b = refl

    all : (h : Bool) → (h && true) ≡ ((h && true) && true)
    all true = refl
    all false = refl

    at : (c r : ℕ) → IsPlace PLACE_DIGITS c r
        → held_without held (below (off_land positions divided s) from) c r
        ≡ land_off_lots (lotting (layout_of_bytes positions divided)) s held c r
    at c r place =
        let mark = mark_of positions divided s (place_number c r) in
        let most : mark_of positions divided s (place_number c r) ≤ NO_LAND =
        mark_most positions divided s (place_number c r) in
        let there = test_of_place PLACE_DIGITS c r place in
        elim (cases_lt (mark_of positions divided s (place_number c r)) 1) [
          | inl none ↦
              let zero : mark_of positions divided s (place_number c r) ≡ 0 = omega (arith, none) in
              rw (there, zero) (all (held c r))
          | inr some ↦
              let is = is_marked positions divided s 1 NO_LAND c r place (omega (arith, some)) most in
              let less : nat_lt (place_number c r) from ≡ true = grind (arith, nat_tests, left c r is) in
              elim (cases_lt (mark_of positions divided s (place_number c r)) NO_LAND) [
                | inl few ↦
                    let lot : (nat_lt 0 (mark_of positions divided s (place_number c r))
                    && nat_lt (mark_of positions divided s (place_number c r)) NO_LAND) ≡ true =
                    grind (arith, nat_tests, some, few) in
                    let land : nat_le NO_LAND (mark_of positions divided s (place_number c r)) ≡ false =
                    grind (arith, nat_tests, few) in
                    rw (is, less, there, lot, land) (taken (held c r))
                | inr great ↦
                    let land : nat_le NO_LAND (mark_of positions divided s (place_number c r)) ≡ true =
                    grind (arith, nat_tests, great) in
                    rw (is, less, there, land)
                    (absent (held c r) (is_none (if nat_lt 0 (mark_of positions divided s (place_number c r))
                    && nat_lt (mark_of positions divided s (place_number c r)) NO_LAND
                    then Some (mark_of positions divided s (place_number c r)) else None)))
              ]
        ]
