-- The rows of a plain table, as the code writes them.
use Rattle.std.proofs.Common.{◌≡◌, ◌==◌, ◌≢◌, ℕ, zero, suc, ◌+◌, ◌-◌, ◌<◌, ◌≤◌, true, false, List, [], ◌∷◌}
use Rattle.std.proofs.Common.{◌++◌}
use Rattle.std.proofs.Common.{length, take, get_or, refl, ap, sym, ◌∙◌, arith, append_assoc}
use Rattle.std.specs.List.{flat_map}
use Rattle.std.proofs.lemmas.List.{take_more, flat_map_more}
use Rattle.twp_plat.specs.PlainTables.{comma, before_empty, trimmed, with_acres}
use Rattle.twp_plat.specs.PlainTables.{cell_text, row_text}

before_some : (cell next : List ℕ) (more : List (List ℕ))
    → before_empty cell (next ∷ more) ≡ cell ∷ next ∷ more
before_some [] next more = refl
before_some (byte ∷ bytes) next more = refl

-- an empty cell at the end of the front of a row
empty_last : (cells : List (List ℕ)) (n : ℕ) → get_or cells n [] ≡ [] → n < length cells
    → trimmed (take n cells) ≡ trimmed (take (suc n) cells)
empty_last [] n is below = absurd (omega arith)
empty_last (cell ∷ cells) zero is below = rw is refl
empty_last (cell ∷ cells) (suc n) is below =
    ap (before_empty cell) (empty_last cells n is (omega arith))

-- a cell that isn't empty there
full_one : (cell : List ℕ) → cell ≢ [] → before_empty cell [] ≡ cell ∷ []
full_one [] full = absurd (full refl)
full_one (byte ∷ bytes) full = refl

full_last : (cells : List (List ℕ)) (n : ℕ) → get_or cells n [] ≢ [] → n < length cells
    → trimmed (take (suc n) cells) ≡ take (suc n) cells
full_last [] n full below = absurd (omega arith)
full_last (cell ∷ cells) zero full below = full_one cell full
full_last (cell ∷ []) (suc n) full below = absurd (omega arith)
full_last (cell ∷ next ∷ more) (suc n) full below =
    ap (before_empty cell) (full_last (next ∷ more) n full (omega arith))
    ∙ before_some cell next (take n more)

none_is_empty : (text : List ℕ) → (length text == 0) ≡ true → text ≡ []
none_is_empty [] is = refl
none_is_empty (byte ∷ bytes) is = grind arith

some_is_full : (text : List ℕ) → (length text == 0) ≡ false → text ≢ []
some_is_full [] is = grind arith
some_is_full (byte ∷ bytes) is = grind arith

pub trimmed_more : (cells : List (List ℕ)) (count : ℕ) → 0 < count → count ≤ length cells
    → (length (get_or cells (count - 1) []) == 0) ≡ true
    → trimmed (take (count - 1) cells) ≡ trimmed (take count cells)
trimmed_more cells zero some within is = absurd (omega arith)
trimmed_more cells (suc n) some within is =
    let e : suc n - 1 ≡ n = omega arith in
    rw e (empty_last cells n (none_is_empty _ (rw e at is)) (omega arith))

pub trimmed_all : (cells : List (List ℕ)) (count : ℕ) → 0 < count → count ≤ length cells
    → (length (get_or cells (count - 1) []) == 0) ≡ false
    → trimmed (take count cells) ≡ take count cells
trimmed_all cells zero some within is = absurd (omega arith)
trimmed_all cells (suc n) some within is =
    let e : suc n - 1 ≡ n = omega arith in
    full_last cells n (some_is_full _ (rw e at is)) (omega arith)

-- a further cell of a row, after a comma
pub row_text_more : (cells : List (List ℕ)) (i : ℕ) → 1 ≤ i → i < length cells
    → row_text (take (i + 1) cells) ≡ row_text (take i cells) ++ comma ∷ cell_text (get_or cells i [])
row_text_more [] i least below = absurd (omega arith)
row_text_more (first ∷ more) zero least below = absurd (omega arith)
row_text_more (first ∷ more) (suc j) least below =
    let f : List ℕ → List ℕ = λ cell. comma ∷ cell_text cell in
    let e : suc j + 1 ≡ suc (j + 1) = omega arith in
    rw e
    (ap (λ (cells : List (List ℕ)). cell_text first ++ flat_map f cells)
    (take_more more j [] (omega arith))
    ∙ sym (flat_map_more f (cell_text first) (take j more) (get_or more j [])))

pub length_with_acres : (cells : List (List ℕ)) → length (with_acres cells) ≡ length cells
length_with_acres [] = refl
length_with_acres (section ∷ []) = refl
length_with_acres (section ∷ lot ∷ []) = refl
length_with_acres (section ∷ lot ∷ acres ∷ more) = refl

-- the next cell of a row with its acreage
pub next_cell : (cells : List (List ℕ)) (i : ℕ) (before after : List ℕ) → 1 ≤ i → i < length cells
    → after ≡ ((before ++ row_text (take i (with_acres cells))) ++ comma ∷ [])
    ++ cell_text (get_or (with_acres cells) i [])
    → after ≡ before ++ row_text (take (i + 1) (with_acres cells))
next_cell cells i before after least below is =
    let within : i < length (with_acres cells) = omega (arith, length_with_acres cells) in
    is
    ∙ append_assoc (before ++ row_text (take i (with_acres cells))) (comma ∷ [])
    (cell_text (get_or (with_acres cells) i []))
    ∙ append_assoc before (row_text (take i (with_acres cells)))
    (comma ∷ cell_text (get_or (with_acres cells) i []))
    ∙ ap (λ (text : List ℕ). before ++ text) (sym (row_text_more (with_acres cells) i least within))
