-- Lines by the rows and columns of the sections beside them.
use Rattle.std.proofs.Common.{◌≡◌, ◌≢◌, ℕ, ◌+◌, ◌-◌, ◌/◌, ◌%◌, ◌≤◌, ◌<◌, ◌⊎◌, inl, inr, Option}
use Rattle.std.proofs.Common.{Some, None, arith}
use Rattle.std.proofs.lemmas.Bool.{cases_lt}
use Rattle.twp_grid.specs.Winding.{LiesAt}
use Rattle.twp_grid.specs.Lines.{north_run, west_run, IsSide, LiesBeside, IsLineOf, IsClosing}
use Rattle.twp_grid.specs.declared.line.Run.{Run}
use Rattle.twp_grid.specs.declared.line.Run.TheVariants as run
use Rattle.twp_grid.proofs.WindingFacts.{same_standing, same_number, section_at}

-- the sides of a section at a row and a column
abbrev pub HasSide : ℕ → ℕ → ℕ → Type 0
HasSide row column index =
    (index ≡ north_run row column) ⊎ (index ≡ north_run row (column + 1)) ⊎ (index ≡ west_run row column)
    ⊎ (index ≡ west_run (row + 1) column)

pub side_at : (k row column index : ℕ) → LiesAt k row column → IsSide k index → HasSide row column index
side_at k row column index stands is =
    let same = same_standing k row column is.row is.column stands is.stands in
    rw (same.0, same.1) is.side

-- two sections that share a north-run line are side by side in a row
pub share_north : (a b row column row' column' index : ℕ) → LiesAt a row column → LiesAt b row' column'
    → a ≢ b → IsSide a index → IsSide b index → index < 42
    → (row ≡ row')
    × (((column' ≡ column + 1) × (index ≡ north_run row column'))
    ⊎ ((column ≡ column' + 1) × (index ≡ north_run row column)))
share_north a b row column row' column' index at-a at-b different is-a is-b north =
    let side-a : HasSide row column index = side_at a row column index at-a is-a in
    let side-b : HasSide row' column' index = side_at b row' column' index at-b is-b in
    let apart : (row ≡ row') → (column ≡ column') → ⊥ =
    λ r c. different (same_number a b row column at-a (rw (r, c) at-b)) in
    (grind arith, grind arith)

pub share_west : (a b row column row' column' index : ℕ) → LiesAt a row column → LiesAt b row' column'
    → a ≢ b → IsSide a index → IsSide b index → 42 ≤ index
    → (column ≡ column')
    × (((row' ≡ row + 1) × (index ≡ west_run row' column))
    ⊎ ((row ≡ row' + 1) × (index ≡ west_run row column)))
share_west a b row column row' column' index at-a at-b different is-a is-b west =
    let side-a : HasSide row column index = side_at a row column index at-a is-a in
    let side-b : HasSide row' column' index = side_at b row' column' index at-b is-b in
    let apart : (row ≡ row') → (column ≡ column') → ⊥ =
    λ r c. different (same_number a b row column at-a (rw (r, c) at-b)) in
    (grind arith, grind arith)

pub ruleset shared_ends = (share_north, share_west)

-- a section whose side is no other section's has no neighbor with that side
only_standing : (k row column row' column' index : ℕ) → LiesAt k row column
    → ((other : ℕ) → IsSide other index → other ≡ k)
    → row' < 6 → column' < 6 → HasSide row' column' index → (row' ≡ row) × (column' ≡ column)
only_standing k row column row' column' index stands only row_range column_range side =
    let there = section_at row' column' row_range column_range in
    let same : there.0 ≡ k =
    only there.0 (record { row = row'; column = column'; stands = there.1; side = side }) in
    same_standing there.0 row' column' row column there.1 (rw same stands)

-- the boundary lines of a section at a row and a column
abbrev pub OnBoundary : ℕ → ℕ → ℕ → Type 0
OnBoundary row column index =
    ((column ≡ 0) × (index ≡ north_run row 0)) ⊎ ((column ≡ 5) × (index ≡ north_run row 6))
    ⊎ ((row ≡ 0) × (index ≡ west_run 0 column)) ⊎ ((row ≡ 5) × (index ≡ west_run 6 column))

pub on_boundary : (k row column index : ℕ) → LiesAt k row column → LiesBeside k None index
    → OnBoundary row column index
on_boundary k row column index stands beside =
    let stands_there = λ (row' column' : ℕ). only_standing k row column row' column' index stands beside.1 in
    let range-r : row < 6 = stands.row_range in
    let range-c : column < 6 = stands.column_range in
    elim (side_at k row column index stands beside.0) [
      | inl east ↦ elim (cases_lt 0 column) [
        | inl inside ↦ absurd (omega (
          arith,
          (stands_there row (column - 1) range-r (omega arith) (inr (inl (omega arith)))).1,
        ))
        | inr first ↦ inl (omega arith, omega arith)
      ]
      | inr others ↦ elim others [
        | inl west ↦ elim (cases_lt column 5) [
          | inl inside ↦
              absurd (omega (arith, (stands_there row (column + 1) range-r (omega arith) (inl west)).1))
          | inr last ↦ inr (inl (omega arith, omega arith))
        ]
        | inr tiers ↦ elim tiers [
          | inl north ↦ elim (cases_lt 0 row) [
            | inl inside ↦ absurd (omega (
              arith,
              (stands_there (row - 1) column (omega arith) range-c (inr (inr (inr (omega arith))))).0,
            ))
            | inr first ↦ inr (inr (inl (omega arith, omega arith)))
          ]
          | inr south ↦ elim (cases_lt row 5) [
            | inl inside ↦ absurd (omega (
              arith,
              (stands_there (row + 1) column (omega arith) range-c (inr (inr (inl south)))).0,
            ))
            | inr last ↦ inr (inr (inr (omega arith, omega arith)))
          ]
        ]
      ]
    ]

-- a closing line's index, as the code tests it
pub closing_north : (index : ℕ) → index < 7 → IsClosing index
closing_north index below = inl (index, below, omega arith)

pub closing_west : (index : ℕ) → index < 84 → 42 ≤ index → index % 6 ≡ 5 → IsClosing index
closing_west index range west last = inr ((index - 47) / 6, omega arith, omega arith)

pub closing_test : (index : ℕ) → IsClosing index → (index < 7) ⊎ ((42 ≤ index) × (index % 6 ≡ 5))
closing_test index (inl (meridian, range, is)) = inl (omega arith)
closing_test index (inr (tier, range, is)) = inr (omega arith, omega arith)

-- a test of the index for closing lines
pub ruleset closing_lines = (closing_north, closing_west, closing_test)

-- only one line lies between two sections, and only one of each run beside a section on the
-- boundary
pub one_line : (run : Run) (section : ℕ) (other : Option ℕ) (i j : ℕ) → IsLineOf run section other i
    → IsLineOf run section other j → i ≡ j
one_line run.North a (Some b) i j is-i is-j =
    let first = is-i.1.1 in
    let second = is-i.1.2 in
    let share = λ (index : ℕ).
    share_north a b first.row first.column second.row second.column index first.stands second.stands
    is-i.1.0 in
    let at-i = share i is-i.1.1 is-i.1.2 is-i.0 in
    let at-j = share j is-j.1.1 is-j.1.2 is-j.0 in
    grind arith
one_line run.West a (Some b) i j is-i is-j =
    let first = is-i.1.1 in
    let second = is-i.1.2 in
    let share = λ (index : ℕ).
    share_west a b first.row first.column second.row second.column index first.stands second.stands
    is-i.1.0 in
    let at-i = share i is-i.1.1 is-i.1.2 is-i.0 in
    let at-j = share j is-j.1.1 is-j.1.2 is-j.0 in
    grind arith
one_line run.North a None i j is-i is-j =
    let first = is-i.1.0 in
    let at-i : OnBoundary first.row first.column i =
    on_boundary a first.row first.column i first.stands is-i.1 in
    let at-j : OnBoundary first.row first.column j =
    on_boundary a first.row first.column j first.stands is-j.1 in
    grind arith
one_line run.West a None i j is-i is-j =
    let first = is-i.1.0 in
    let at-i : OnBoundary first.row first.column i =
    on_boundary a first.row first.column i first.stands is-i.1 in
    let at-j : OnBoundary first.row first.column j =
    on_boundary a first.row first.column j first.stands is-j.1 in
    grind arith
