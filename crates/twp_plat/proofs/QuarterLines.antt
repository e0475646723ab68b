-- The limits of closing quarters, by the tables that the code looks at. The cases are finitely many and
-- are computed.
use Rattle.std.proofs.Common.{◌≡◌, ◌==◌, ℕ, ◌-◌, ◌%◌, ◌+◌, ◌<◌, ◌≤◌, ◌&&◌, ◌||◌, ◌⊎◌, Bool, true}
use Rattle.std.proofs.Common.{false, List, [], ◌∷◌, get_or, refl, inl, inr, arith, nat_le, nat_lt}
use Rattle.std.proofs.Common.{if◌then◌else◌, ◌↔◌, ◌∙◌}
use Rattle.std.specs.Prelude.{slice_index_or}
use Rattle.std.proofs.lemmas.Bool.{cases_lt, and_parts, eqb-true}
use Rattle.std.proofs.lemmas.Bool.Decides.{nat_tests}
use Rattle.twp_grid.specs.Lines.{IsLine, IsClosing}
use Rattle.twp_plat.specs.Plats.{IsQuarterOnPlat}
use Rattle.twp_grid.proofs.LineFacts.{closing_north, closing_west, closing_test}
use Rattle.twp_grid.proofs.LotFacts.{each, each_of_three}

-- whether a line is a closing line
abbrev pub is_closing_line : ℕ → Bool
is_closing_line line = nat_lt line 7 || (nat_le 42 line && (line % 6 == 5))

pub closes : (line : ℕ) → IsLine line → is_closing_line line ≡ true → IsClosing line
closes line range is = cases (side (nat_lt line 7) (nat_le 42 line && (line % 6 == 5)) is)
  where
    side : (a b : Bool) → (a || b) ≡ true → (a ≡ true) ⊎ (b ≡ true)
    side true b h = inl refl
    side false b h = inr h

    cases : (nat_lt line 7 ≡ true) ⊎ ((nat_le 42 line && (line % 6 == 5)) ≡ true) → IsClosing line
    cases (inl north) = closing_north line (grind (arith, nat_tests))
    cases (inr west) =
        let parts = and_parts (nat_le 42 line) (line % 6 == 5) west in
        closing_west line range (grind (arith, nat_tests)) (eqb-true (line % 6) 5 parts.1)

pub does_not_close : (line : ℕ) → is_closing_line line ≡ false → IsClosing line → ⊥
does_not_close line not_one is = elim (closing_test line is) [
  | inl north ↦ grind (arith, nat_tests)
  | inr west ↦ let from = west.0 in let last = west.1 in grind (arith, nat_tests)
]

-- the least closing quarter of each line, and by how much more it can be
abbrev pub least_quarters : List ℕ
least_quarters =
    5000 ∷ 5000 ∷ 5000 ∷ 5000 ∷ 5000 ∷ 5000 ∷ 5000 ∷ 20000 ∷ 20000 ∷ 20000 ∷ 20000 ∷ 20000 ∷ 20000
    ∷ 20000 ∷ 20000 ∷ 20000 ∷ 20000 ∷ 20000 ∷ 20000 ∷ 20000 ∷ 20000 ∷ 20000 ∷ 20000 ∷ 20000 ∷ 20000
    ∷ 20000 ∷ 20000 ∷ 20000 ∷ 20000 ∷ 20000 ∷ 20000 ∷ 20000 ∷ 20000 ∷ 20000 ∷ 20000 ∷ 20000 ∷ 20000
    ∷ 20000 ∷ 20000 ∷ 20000 ∷ 20000 ∷ 20000 ∷ 20000 ∷ 20000 ∷ 20000 ∷ 20000 ∷ 20000 ∷ 5000 ∷ 20000
    ∷ 20000 ∷ 20000 ∷ 20000 ∷ 20000 ∷ 5000 ∷ 20000 ∷ 20000 ∷ 20000 ∷ 20000 ∷ 20000 ∷ 5000 ∷ 20000
    ∷ 20000 ∷ 20000 ∷ 20000 ∷ 20000 ∷ 5000 ∷ 20000 ∷ 20000 ∷ 20000 ∷ 20000 ∷ 20000 ∷ 5000 ∷ 20000
    ∷ 20000 ∷ 20000 ∷ 20000 ∷ 20000 ∷ 5000 ∷ 20000 ∷ 20000 ∷ 20000 ∷ 20000 ∷ 20000 ∷ 5000 ∷ []

abbrev pub spans : List ℕ
spans =
    20000 ∷ 20000 ∷ 20000 ∷ 20000 ∷ 20000 ∷ 20000 ∷ 20000 ∷ 0 ∷ 0 ∷ 0 ∷ 0 ∷ 0 ∷ 0 ∷ 0 ∷ 0 ∷ 0 ∷ 0
    ∷ 0 ∷ 0 ∷ 0 ∷ 0 ∷ 0 ∷ 0 ∷ 0 ∷ 0 ∷ 0 ∷ 0 ∷ 0 ∷ 0 ∷ 0 ∷ 0 ∷ 0 ∷ 0 ∷ 0 ∷ 0 ∷ 0 ∷ 0 ∷ 0 ∷ 0 ∷ 0 ∷ 0
    ∷ 0 ∷ 0 ∷ 0 ∷ 0 ∷ 0 ∷ 0 ∷ 20000 ∷ 0 ∷ 0 ∷ 0 ∷ 0 ∷ 0 ∷ 20000 ∷ 0 ∷ 0 ∷ 0 ∷ 0 ∷ 0 ∷ 20000 ∷ 0 ∷ 0
    ∷ 0 ∷ 0 ∷ 0 ∷ 20000 ∷ 0 ∷ 0 ∷ 0 ∷ 0 ∷ 0 ∷ 20000 ∷ 0 ∷ 0 ∷ 0 ∷ 0 ∷ 0 ∷ 20000 ∷ 0 ∷ 0 ∷ 0 ∷ 0 ∷ 0
    ∷ 20000 ∷ []

least_test : each 1 (λ a. each 1 (λ b. each 84 (λ line.
    get_or least_quarters line 0 == (if is_closing_line line then 5000 else 20000)))) ≡ true
unfolding each
least_test = refl

spans_test : each 1 (λ a. each 1 (λ b. each 84 (λ line.
    get_or spans line 0 == (if is_closing_line line then 20000 else 0)))) ≡ true
unfolding each
spans_test = refl

least_is : (line : ℕ) → line < 84
    → get_or least_quarters line 0 ≡ (if is_closing_line line then 5000 else 20000)
least_is line below =
    eqb-true _ _
    (each_of_three 1 1 84
    (λ a b line. get_or least_quarters line 0 == (if is_closing_line line then 5000 else 20000))
    0 0 line least_test (omega arith) (omega arith) below)

span_is : (line : ℕ) → line < 84 → get_or spans line 0 ≡ (if is_closing_line line then 20000 else 0)
span_is line below =
    eqb-true _ _
    (each_of_three 1 1 84
    (λ a b line. get_or spans line 0 == (if is_closing_line line then 20000 else 0))
    0 0 line spans_test (omega arith) (omega arith) below)

-- no number is both above another and at most as great
pub not_below : (a b : ℕ) → a < b → b ≤ a → ⊥
not_below a b below above = omega arith

-- by how much a quarter is more than the least one, as a word that wraps around
abbrev pub more_than : ℕ → ℕ → ℕ
more_than least quarter = (quarter + (4294967296 - least)) % 4294967296

-- a quarter within the limits is one on a plat
pub quarter_on_plat : (line quarter : ℕ) → line < 84 → quarter < 4294967296
    → more_than (get_or least_quarters line 0) quarter ≤ get_or spans line 0 → IsQuarterOnPlat line quarter
quarter_on_plat line quarter below fits few = go (is_closing_line line) refl
  where
    go : (closing : Bool) → is_closing_line line ≡ closing → IsQuarterOnPlat line quarter
    go true closing =
        let low : get_or least_quarters line 0 ≡ 5000 = least_is line below ∙ rw closing refl in
        let high : get_or spans line 0 ≡ 20000 = span_is line below ∙ rw closing refl in
        let within : more_than 5000 quarter ≤ 20000 = rw (low, high) at few in
        record {
          least = omega (arith, within, fits);
          most = omega (arith, within, fits);
          regular = λ other. absurd (other (closes line below closing));
        }
    go false open_line =
        let low : get_or least_quarters line 0 ≡ 20000 = least_is line below ∙ rw open_line refl in
        let high : get_or spans line 0 ≡ 0 = span_is line below ∙ rw open_line refl in
        let within : more_than 20000 quarter ≤ 0 = rw (low, high) at few in
        record {
          least = omega (arith, within, fits);
          most = omega (arith, within, fits);
          regular = λ other. omega (arith, within, fits);
        }

-- and one on a plat is within the limits
pub within_limits : (line quarter : ℕ) → line < 84 → IsQuarterOnPlat line quarter
    → more_than (get_or least_quarters line 0) quarter ≤ get_or spans line 0
within_limits line quarter below on = go (is_closing_line line) refl
  where
    go : (closing : Bool) → is_closing_line line ≡ closing
        → more_than (get_or least_quarters line 0) quarter ≤ get_or spans line 0
    go true closing =
        let low : get_or least_quarters line 0 ≡ 5000 = least_is line below ∙ rw closing refl in
        let high : get_or spans line 0 ≡ 20000 = span_is line below ∙ rw closing refl in
        let within : more_than 5000 quarter ≤ 20000 = omega (arith, on.least, on.most) in
        rw (low, high) within
    go false open_line =
        let low : get_or least_quarters line 0 ≡ 20000 = least_is line below ∙ rw open_line refl in
        let high : get_or spans line 0 ≡ 0 = span_is line below ∙ rw open_line refl in
        let quarter_mile = on.regular (does_not_close line open_line) in
        let within : more_than 20000 quarter ≤ 0 = omega (arith, quarter_mile) in
        rw (low, high) within

-- none of the lines up to an index is counted exactly if each has a quarter within its limits
abbrev pub IsCounted : List ℕ → ℕ → ℕ → Type 0
IsCounted quarters index outside = (outside ≡ 0)
    ↔ ((line : ℕ) → line < index → IsQuarterOnPlat line (slice_index_or quarters line 0))

-- one more line
pub counted_next : (quarters : List ℕ) (index outside one after : ℕ)
    → ((one ≡ 0) ↔ IsQuarterOnPlat index (slice_index_or quarters index 0)) → after ≡ outside + one
    → IsCounted quarters index outside → IsCounted quarters (index + 1) after
counted_next quarters index outside one after here is before = (
  λ none line below. elim (cases_lt line index) [
    | inl earlier ↦ let nought : outside ≡ 0 = omega (arith, none, is) in before.0 nought line earlier
    | inr last ↦
        let same : line ≡ index = omega arith in
        let nought : one ≡ 0 = omega (arith, none, is) in
        rw same (here.0 nought)
  ],
  λ all.
      let earlier = before.1 (λ line below. all line (omega arith)) in
      let last = here.1 (all index (omega arith)) in
      omega (arith, earlier, last, is),
)
