-- The places that cuts leave of a section.
use Rattle.std.proofs.Common.{◌≡◌, ℕ, zero, suc, ◌+◌, ◌^◌, ◌<◌, ◌≤◌, ◌&&◌, Bool, true, false, List, refl, inl}
use Rattle.std.proofs.Common.{inr, arith, nat_lt, nat_le}
use Rattle.std.proofs.Math.Nat.{pow-succ'}
use Rattle.std.proofs.lemmas.Nat.{pow_pos}
use Rattle.std.proofs.lemmas.Bool.{and_parts, cases_Bool}
use Rattle.std.proofs.lemmas.Bool.Decides.{nat_tests}
use Rattle.twp_grid.specs.Cuts.{Cut, rows_asked, columns_asked, AreWithin, reached}
use Rattle.twp_grid.specs.Places.{is_place, IsPlace, PLACE_DIGITS, places_across}
use Rattle.twp_grid.specs.Spans.{Interval, in_span, in_rectangle, whole_block}
use Rattle.twp_grid.proofs.CutFacts.{within_span_of, rows_reached, columns_reached, rows_are_digits}
use Rattle.twp_grid.proofs.CutFacts.{columns_are_digits}

-- a side with this many digits is more than one place if a digit is left
pub more_left : (k : ℕ) → 1 < 2 ^ k → 0 < k
more_left zero more = absurd (omega arith)
more_left (suc k) more = omega arith

pub more_than_one : (k : ℕ) → 0 < k → 1 < 2 ^ k
more_than_one zero some = absurd (omega arith)
more_than_one (suc k) some = let power = pow-succ' 2 k in let least = pow_pos k in omega arith

-- a block that cuts reach lies in the section
outside_span : (g : ℕ) (span : Interval) (n : ℕ) → span.start + span.len ≤ 2 ^ g → nat_lt n (2 ^ g) ≡ false
    → in_span span n ≡ false
outside_span g span n within outside = grind (arith, nat_tests)

and_false : (a : Bool) → (a && false) ≡ false
and_false true = refl
and_false false = refl

pub outside : (g : ℕ) (cuts : List Cut) (column row : ℕ) → AreWithin g cuts → is_place g column row ≡ false
    → in_rectangle (reached g cuts) column row ≡ false
outside g cuts column row within not = elim (cases_Bool (nat_lt column (2 ^ g))) [
  | inl in-column ↦
      let out : nat_lt row (2 ^ g) ≡ false = rw in-column at not in
      let ends = within_span_of g (rows_asked cuts) (rows_are_digits cuts) within.rows in
      let rows_out : in_span (reached g cuts).rows row ≡ false =
      outside_span g (reached g cuts).rows row (rw (rows_reached g cuts within.rows) ends) out in
      rw rows_out (and_false _)
  | inr out ↦
      let ends = within_span_of g (columns_asked cuts) (columns_are_digits cuts) within.columns in
      let columns_out : in_span (reached g cuts).columns column ≡ false =
      outside_span g (reached g cuts).columns column (rw (columns_reached g cuts within.columns) ends) out in
      rw columns_out refl
]
