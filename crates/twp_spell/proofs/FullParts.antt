-- Full parts and chosen halves: each part is either full or not, and a square has at most one
-- chosen half.
use Rattle.std.proofs.Common.{◌≡◌, ℕ, zero, suc, ◌+◌, ◌-◌, ◌/◌, ◌^◌, ◌<◌, ◌≤◌, ◌⊎◌, ◌&&◌, Bool, true, false}
use Rattle.std.proofs.Common.{List, length, refl, sym, ap, subst, ◌∙◌, inl, inr, arith, not}
use Rattle.std.proofs.lemmas.Bool.{cases_Bool, cases_lt, false≢true}
use Rattle.twp_grid.specs.declared.block.Side.{Side}
use Rattle.twp_grid.specs.declared.block.Side.TheVariants.{N, S, E, W}
use Rattle.twp_grid.specs.declared.block.Corner.{Corner}
use Rattle.twp_grid.specs.declared.block.Corner.TheVariants.{NE, NW, SW, SE}
use Rattle.twp_grid.specs.Cuts.{rows_asked, columns_asked, AreWithin}
use Rattle.twp_grid.specs.Places.{IsPlace}
use Rattle.twp_grammar.specs.ItemPlaces.{cuts_of, in_chain}
use Rattle.twp_spell.specs.WrittenParts.{Part, steps_of_part, IsFull, preference, IsChosenHalf, IsOnSide}
use Rattle.twp_spell.specs.WrittenParts.Part.{square, half_of_square}
use Rattle.twp_spell.proofs.SquareFacts.{square_within}
use Rattle.twp_spell.proofs.SquarePlaces.{path, first_of, up, corner_at, up_next, in_square, square_in}
use Rattle.twp_spell.proofs.HalfPlaces.{half_in}

-- a test holds for some number below a bound, or for none
search : (n : ℕ) (test : ℕ → Bool)
    → ((k : ℕ) × (k < n) × (test k ≡ true)) ⊎ ((k : ℕ) → k < n → test k ≡ false)
search zero test = inr (λ k less. absurd (omega arith))
search (suc n) test = elim (cases_Bool (test n)) [
  | inl here ↦ inl (n, omega arith, here)
  | inr not_here ↦ elim (search n test) [
    | inl found ↦ let within = found.1 in inl (found.0, omega arith, found.2)
    | inr none ↦ inr (λ k less. elim (cases_lt k n) [
      | inl below ↦ none k below
      | inr last ↦ let same : k ≡ n = omega arith in rw same not_here
    ])
  ]
]

-- a place that passes a test
pub record Found (g : ℕ) (test : ℕ → ℕ → Bool) : Type 0 where
  pub column : ℕ
  pub row : ℕ
  pub place : IsPlace g column row
  pub here : test column row ≡ true

rows_searched : (g m : ℕ) (test : ℕ → ℕ → Bool) → m ≤ 2 ^ g
    → Found g test ⊎ ((column row : ℕ) → column < m → row < 2 ^ g → test column row ≡ false)
rows_searched g zero test fits = inr (λ column row less less'. absurd (omega arith))
rows_searched g (suc m) test fits = elim (search (2 ^ g) (λ row. test m row)) [
  | inl found ↦ inl (record { column = m; row = found.0; place = ((omega arith), found.1); here = found.2 })
  | inr none ↦ elim (rows_searched g m test (omega arith)) [
    | inl found ↦ inl found
    | inr others ↦ inr (λ column row less less'. elim (cases_lt column m) [
      | inl below ↦ others column row below less'
      | inr last ↦ let same : column ≡ m = omega arith in rw same (none row less')
    ])
  ]
]

pub search_places : (g : ℕ) (test : ℕ → ℕ → Bool)
    → Found g test ⊎ ((column row : ℕ) → IsPlace g column row → test column row ≡ false)
search_places g test = elim (rows_searched g (2 ^ g) test (omega arith)) [
  | inl found ↦ inl found
  | inr none ↦ inr (λ column row place. none column row place.0 place.1)
]

-- a part is either full or not
is_within : (g : ℕ) (part : Part)
    → AreWithin g (cuts_of (steps_of_part part)) ⊎ ¬ AreWithin g (cuts_of (steps_of_part part))
is_within g part = elim (cases_lt g (length (rows_asked (cuts_of (steps_of_part part))))) [
  | inl long ↦ inr (λ within. absurd (omega (arith, within.rows, long)))
  | inr rows ↦ elim (cases_lt g (length (columns_asked (cuts_of (steps_of_part part))))) [
    | inl long ↦ inr (λ within. absurd (omega (arith, within.columns, long)))
    | inr columns ↦ inl (record { rows = rows; columns = columns })
  ]
]

open_place : (a b : Bool) → (a && not b) ≡ true → (a ≡ true) × (b ≡ false)
open_place true false e = (refl, refl)
open_place true true e = cc e
open_place false b e = cc e

closed_place : (a b : Bool) → (a && not b) ≡ false → a ≡ true → b ≡ true
closed_place true true e h = refl
closed_place true false e h = cc e
closed_place false b e h = cc h

pub is_full : (g : ℕ) (held : ℕ → ℕ → Bool) (part : Part) → IsFull g held part ⊎ ¬ IsFull g held part
is_full g held part = elim (is_within g part) [
  | inr outside ↦ inr (λ full. outside full.within)
  | inl within ↦ elim (search_places g (λ column row.
      in_chain g (steps_of_part part) column row && not (held column row))) [
        | inl found ↦
            let is =
            open_place (in_chain g (steps_of_part part) found.column found.row)
            (held found.column found.row) found.here in
            inr (λ full.
            false≢true
            (sym is.1 ∙ full.each found.column found.row (record { place = found.place; asked = is.0 })))
        | inr none ↦ inl (record {
          within = within;
          each = λ column row inside.
              closed_place (in_chain g (steps_of_part part) column row) (held column row)
              (none column row inside.place) inside.asked;
        })
      ]
]

-- the chosen half of a square, or the fact that no half is full
pub below_south : (P : Side → Type 0) → P N → (side : Side) → preference side < 1 → P side
below_south P n N less = n
below_south P n S less = absurd (omega arith)
below_south P n E less = absurd (omega arith)
below_south P n W less = absurd (omega arith)

pub below_east : (P : Side → Type 0) → P N → P S → (side : Side) → preference side < 2 → P side
below_east P n s N less = n
below_east P n s S less = s
below_east P n s E less = absurd (omega arith)
below_east P n s W less = absurd (omega arith)

pub below_west : (P : Side → Type 0) → P N → P S → P E → (side : Side) → preference side < 3 → P side
below_west P n s e N less = n
below_west P n s e S less = s
below_west P n s e E less = e
below_west P n s e W less = absurd (omega arith)

pub each_side : (P : Side → Type 0) → P N → P S → P E → P W → (side : Side) → P side
each_side P n s e w N = n
each_side P n s e w S = s
each_side P n s e w E = e
each_side P n s e w W = w

pub chosen_half : (g : ℕ) (held : ℕ → ℕ → Bool) (quarters : List Corner) → ¬ IsFull g held (square quarters)
    → ((side : Side) × IsChosenHalf g held quarters side)
    ⊎ ((side : Side) → ¬ IsFull g held (half_of_square side quarters))
chosen_half g held quarters short = elim (is_full g held (half_of_square N quarters)) [
  | inl full ↦
      inl (N, record { square_is_not = short; full = full; first = λ other less. absurd (omega arith) })
  | inr n ↦ elim (is_full g held (half_of_square S quarters)) [
    | inl full ↦ inl (
      S,
      record {
        square_is_not = short;
        full = full;
        first = below_south (λ side. ¬ IsFull g held (half_of_square side quarters)) n;
      },
    )
    | inr s ↦ elim (is_full g held (half_of_square E quarters)) [
      | inl full ↦ inl (
        E,
        record {
          square_is_not = short;
          full = full;
          first = below_east (λ side. ¬ IsFull g held (half_of_square side quarters)) n s;
        },
      )
      | inr e ↦ elim (is_full g held (half_of_square W quarters)) [
        | inl full ↦ inl (
          W,
          record {
            square_is_not = short;
            full = full;
            first = below_west (λ side. ¬ IsFull g held (half_of_square side quarters)) n s e;
          },
        )
        | inr w ↦ inr (each_side (λ side. ¬ IsFull g held (half_of_square side quarters)) n s e w)
      ]
    ]
  ]
]

side_of : ℕ → Side
side_of zero = N
side_of (suc zero) = S
side_of (suc (suc zero)) = E
side_of (suc (suc (suc n))) = W

side_back : (side : Side) → side_of (preference side) ≡ side
unfolding side_of
side_back N = refl
side_back S = refl
side_back E = refl
side_back W = refl

pub same_side : (side other : Side) → preference side ≡ preference other → side ≡ other
same_side side other same = sym (side_back side) ∙ ap side_of same ∙ side_back other

pub one_chosen : (g : ℕ) (held : ℕ → ℕ → Bool) (quarters : List Corner) (side other : Side)
    → IsChosenHalf g held quarters side → IsChosenHalf g held quarters other → side ≡ other
one_chosen g held quarters side other is is' = elim (cases_lt (preference side) (preference other)) [
  | inl less ↦ absurd (is'.first side less is.full)
  | inr more ↦ elim (cases_lt (preference other) (preference side)) [
    | inl less ↦ absurd (is.first other less is'.full)
    | inr same ↦ same_side side other (omega arith)
  ]
]

pub on_side : (side : Side) (corner : Corner) → IsOnSide side corner ⊎ ¬ IsOnSide side corner
on_side N NE = inl tt
on_side N NW = inl tt
on_side N SW = inr (λ on. absurd on)
on_side N SE = inr (λ on. absurd on)
on_side S NE = inr (λ on. absurd on)
on_side S NW = inr (λ on. absurd on)
on_side S SW = inl tt
on_side S SE = inl tt
on_side E NE = inl tt
on_side E NW = inr (λ on. absurd on)
on_side E SW = inr (λ on. absurd on)
on_side E SE = inl tt
on_side W NE = inr (λ on. absurd on)
on_side W NW = inl tt
on_side W SW = inl tt
on_side W SE = inr (λ on. absurd on)

-- two places of a square are also together in each larger square
pub up_parent : (g k column row column' row' : ℕ) → k < g
    → up g (suc k) column row ≡ up g (suc k) column' row'
    → (corner_at g k column row ≡ corner_at g k column' row') × (up g k column row ≡ up g k column' row')
up_parent g k column row column' row' less same =
    first_of (corner_at g k column row) (corner_at g k column' row') (up g k column row) (up g k column' row')
    (sym (up_next g k column row less) ∙ same ∙ up_next g k column' row' less)

pub up_same : (n g k j column row column' row' : ℕ) → j ≡ k + n → j ≤ g
    → up g j column row ≡ up g j column' row' → up g k column row ≡ up g k column' row'
up_same zero g k j column row column' row' is fits same =
    let level : k ≡ j = omega arith in
    rw level same
up_same (suc n) g k zero column row column' row' is fits same = absurd (omega arith)
up_same (suc n) g k (suc j) column row column' row' is fits same =
    up_same n g k j column row column' row' (omega arith) (omega arith)
    (up_parent g j column row column' row' (omega arith) same).1

path_long : (k column row : ℕ) → length (path k column row) ≡ k
unfolding path
path_long zero column row = refl
path_long (suc k) column row = ap suc (path_long k (column / 2) (row / 2))

pub length_up : (g k column row : ℕ) → length (up g k column row) ≡ k
length_up g k column row = path_long k (column / 2 ^ (g - k)) (row / 2 ^ (g - k))

-- if a place's square at a level is full, so are its squares at deeper levels, which lie in it
pub full_below : (g : ℕ) (held : ℕ → ℕ → Bool) (k j column row : ℕ) → k ≤ j → j ≤ g
    → IsFull g held (square (up g k column row)) → IsFull g held (square (up g j column row))
full_below g held k j column row more fits full = record {
  within = square_within g (up g j column row) (rw (length_up g j column row) fits);
  each = λ column' row' inside.
      let there =
      in_square g (up g j column row) column' row' (rw (length_up g j column row) fits) inside.asked in
      let same : up g j column' row' ≡ up g j column row =
      subst (λ n. up g n column' row' ≡ up g j column row) (length_up g j column row) there in
      let above : up g k column' row' ≡ up g k column row =
      up_same (j - k) g k j column' row' column row (omega arith) fits same in
      let level : up g (length (up g k column row)) column' row' ≡ up g k column row =
      subst (λ n. up g n column' row' ≡ up g k column row) (sym (length_up g k column row)) above in
      full.each column' row' (record {
        place = inside.place;
        asked =
            square_in g (up g k column row) column' row' (rw (length_up g k column row) (omega arith)) level;
      });
}

-- and if a half is full, so is the place's square in it
pub half_below : (g : ℕ) (held : ℕ → ℕ → Bool) (side : Side) (k column row : ℕ) → k < g
    → IsOnSide side (corner_at g k column row)
    → IsFull g held (half_of_square side (up g k column row))
    → IsFull g held (square (up g (suc k) column row))
half_below g held side k column row less on full = record {
  within = square_within g (up g (suc k) column row) (rw (length_up g (suc k) column row) (omega arith));
  each = λ column' row' inside.
      let there =
      in_square g (up g (suc k) column row) column' row'
      (rw (length_up g (suc k) column row) (omega arith)) inside.asked in
      let same : up g (suc k) column' row' ≡ up g (suc k) column row =
      subst (λ n. up g n column' row' ≡ up g (suc k) column row) (length_up g (suc k) column row) there in
      let both = up_parent g k column' row' column row less same in
      let level : up g (length (up g k column row)) column' row' ≡ up g k column row =
      subst (λ n. up g n column' row' ≡ up g k column row) (sym (length_up g k column row)) both.1 in
      let corner : IsOnSide side (corner_at g (length (up g k column row)) column' row') =
      subst (λ n. IsOnSide side (corner_at g n column' row')) (sym (length_up g k column row))
      (subst (λ c. IsOnSide side c) (sym both.0) on) in
      full.each column' row' (record {
        place = inside.place;
        asked =
            half_in g side (up g k column row) column' row' (rw (length_up g k column row) less) level corner;
      });
}
