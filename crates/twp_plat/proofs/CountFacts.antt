-- How many places of a section a set contains.
use Rattle.std.proofs.Common.{◌≡◌, ℕ, zero, suc, ◌+◌, ◌<◌, ◌≤◌, Bool, true, false, refl, sym, ap, ◌∙◌, inl}
use Rattle.std.proofs.Common.{inr, arith}
use Rattle.std.proofs.lemmas.Bool.{cases_lt}
use Rattle.twp_grid.specs.Places.{IsPlace, places_across}
use Rattle.twp_grid.specs.Spans.{one_where, total, whole_block}
use Rattle.twp_grid.specs.Lands.{count_held}
use Rattle.twp_grid.proofs.TotalFacts.{total-ext, total-both, total-all_zero}

-- a term of a sum that is not 0
record SomeTerm (n : ℕ) (f : ℕ → ℕ) : Type 0 where
  index : ℕ
  below : index < n
  some : 0 < f index

some_term : (n : ℕ) (f : ℕ → ℕ) → 0 < total n f → SomeTerm n f
unfolding total
some_term zero f some = absurd (omega (arith, some))
some_term (suc n) f some = elim (cases_lt 0 (f n)) [
  | inl here ↦ record { index = n; below = omega arith; some = here }
  | inr none ↦
      let rest = some_term n f (omega (arith, some, none)) in
      record { index = rest.index; below = omega (arith, rest.below); some = rest.some }
]

term_most : (n k : ℕ) (f : ℕ → ℕ) → k < n → f k ≤ total n f
unfolding total
term_most zero k f below = absurd (omega (arith, below))
term_most (suc n) k f below = elim (cases_lt k n) [
  | inl less ↦ omega (arith, term_most n k f less)
  | inr last ↦
      let same : k ≡ n = omega (arith, below, last) in
      rw same (omega arith)
]

first : (n : ℕ) → 0 + n ≡ n
first n = omega arith

-- a place in the set is counted
pub some_counted : (g : ℕ) (held : ℕ → ℕ → Bool) (c r : ℕ) → IsPlace g c r → held c r ≡ true
    → 0 < count_held held (whole_block g)
some_counted g held c r place is =
    let row =
    term_most (places_across g) r
    (λ up. total (places_across g) (λ along. one_where (held (0 + along) (0 + up)))) place.1 in
    let column = term_most (places_across g) c (λ along. one_where (held (0 + along) (0 + r))) place.0 in
    let one : one_where (held (0 + c) (0 + r)) ≡ 1 = rw (first c, first r, is) refl in
    omega (arith, row, column, one)

-- and what is counted is a place in the set
pub record SomePlace (g : ℕ) (held : ℕ → ℕ → Bool) : Type 0 where
  pub column : ℕ
  pub row : ℕ
  pub place : IsPlace g column row
  pub is_held : held column row ≡ true

held_of_one : (b : Bool) → 0 < one_where b → b ≡ true
held_of_one true some = refl
held_of_one false some = absurd (omega (arith, some))

pub counted_some : (g : ℕ) (held : ℕ → ℕ → Bool) → 0 < count_held held (whole_block g) → SomePlace g held
counted_some g held some =
    let row =
    some_term (places_across g)
    (λ up. total (places_across g) (λ along. one_where (held (0 + along) (0 + up))))
    some in
    let column =
    some_term (places_across g) (λ along. one_where (held (0 + along) (0 + row.index))) row.some in
    record {
      column = column.index;
      row = row.index;
      place = (column.below, row.below);
      is_held = at column.index row.index (held_of_one (held (0 + column.index) (0 + row.index)) column.some);
    }
  where
    at : (c r : ℕ) → held (0 + c) (0 + r) ≡ true → held c r ≡ true
    at c r is = rw (first c, first r) at is

pub counted_none : (g : ℕ) (held : ℕ → ℕ → Bool) → ((c r : ℕ) → held c r ≡ false)
    → count_held held (whole_block g) ≡ 0
counted_none g held none =
    total-all_zero (places_across g) _ (λ up _.
    total-all_zero (places_across g) _ (λ along _. ap one_where (none (0 + along) (0 + up))))

-- sets with the same places have the same count
pub count-ext : (g : ℕ) (held more : ℕ → ℕ → Bool) → ((c r : ℕ) → IsPlace g c r → held c r ≡ more c r)
    → count_held held (whole_block g) ≡ count_held more (whole_block g)
count-ext g held more same =
    total-ext (places_across g) _ _ (λ up north.
    total-ext (places_across g) _ _ (λ along west. at along up west north))
  where
    at : (along up : ℕ) → along < places_across g → up < places_across g
        → one_where (held (0 + along) (0 + up)) ≡ one_where (more (0 + along) (0 + up))
    at along up west north = rw (first along, first up, same along up (west, north)) refl

-- the counts of two sets together
sum_of_counts : (g : ℕ) (held more : ℕ → ℕ → Bool)
    → count_held held (whole_block g) + count_held more (whole_block g)
    ≡ total (places_across g) (λ up. total (places_across g) (λ along.
    one_where (held (0 + along) (0 + up)) + one_where (more (0 + along) (0 + up))))
sum_of_counts g held more =
    sym
    (total-ext (places_across g) _
    (λ up. total (places_across g) (λ along. one_where (held (0 + along) (0 + up)))
    + total (places_across g) (λ along. one_where (more (0 + along) (0 + up))))
    (λ up _. total-both (places_across g) (λ along. one_where (held (0 + along) (0 + up)))
    (λ along. one_where (more (0 + along) (0 + up))))
    ∙ total-both (places_across g)
    (λ up. total (places_across g) (λ along. one_where (held (0 + along) (0 + up))))
    (λ up. total (places_across g) (λ along. one_where (more (0 + along) (0 + up)))))

-- if each place is as often in two sets as in two others, so are all
pub counts_add : (g : ℕ) (held more held' more' : ℕ → ℕ → Bool)
    → ((c r : ℕ)
    → one_where (held c r) + one_where (more c r) ≡ one_where (held' c r) + one_where (more' c r))
    → count_held held (whole_block g) + count_held more (whole_block g)
    ≡ count_held held' (whole_block g) + count_held more' (whole_block g)
counts_add g held more held' more' same =
    sum_of_counts g held more
    ∙ total-ext (places_across g) _ _ (λ up _.
    total-ext (places_across g) _ _ (λ along _. same (0 + along) (0 + up)))
    ∙ sym (sum_of_counts g held' more')
