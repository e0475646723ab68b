-- Aliquot parts: the block that their steps reach, and its places.
use Rattle.std.proofs.Common.{Some, slice_get, ◌≡◌, ◌==◌, ℕ, zero, suc, ◌+◌, ◌-◌, ◌^◌, ◌<◌, ◌≤◌, ◌&&◌, Bool}
use Rattle.std.proofs.Common.{true, false, List, [], ◌∷◌, ◌++◌, length, drop, refl, ap, ◌∙◌, inl, inr, arith}
use Rattle.std.proofs.Common.{length-append, IfSome, Option, None}
use Rattle.std.proofs.lemmas.Bool.{cases_Bool}
use Rattle.std.proofs.Math.Path.{fun_ext}
use Rattle.std.proofs.Math.Seq.{drop-length}
use Rattle.std.proofs.lemmas.List.{drop_more}
use Rattle.std.proofs.lemmas.Option.{slice_get_within, get_or_from_slice_get}
use Rattle.twp_grid.specs.declared.block.Side.TheVariants as side
use Rattle.twp_grid.specs.declared.block.Corner.TheVariants as corner
use Rattle.twp_grid.specs.Cuts.{Cut, row_asked, column_asked, rows_asked, columns_asked, AreWithin, part_of}
use Rattle.twp_grid.specs.Cuts.{reached}
use Rattle.twp_grid.specs.Cuts.Cut.{half, quarter}
use Rattle.twp_grid.specs.Places.{is_place}
use Rattle.twp_grid.specs.Spans.{Rectangle, whole_block}
use Rattle.twp_grid.proofs.CutFacts.{held_as_asked, sides_as_asked}
use Rattle.twp_grid.specs.Lands.{block_places}
use Rattle.twp_grid.specs.Lands.{Lotting}
use Rattle.twp_grammar.specs.declared.item.Step.{Step}
use Rattle.twp_grammar.specs.declared.item.Item.TheVariants.{Chain}
use Rattle.twp_grammar.specs.ItemPlaces.{cut_of, cuts_of, item_places}
use Rattle.twp_grammar.specs.ItemPlaces.{item_of}
use Rattle.twp_grammar.specs.steps.CutSteps.{CanCut, IsCutTo}
use Rattle.twp_grammar.proofs.CutPlaces.{more_left, more_than_one, outside}
use Rattle.twp_grid.proofs.PlaceTests.{place_of_test}

axis_more : (g : ℕ) (asked more : List ℕ) (len : ℕ) → length asked ≤ g → len ≡ 2 ^ (g - length asked)
    → 1 < len → length more ≡ 1 → length (asked ++ more) ≤ g
axis_more g asked more len fits is some one =
    let left = more_left (g - length asked) (rw is at some) in
    omega (arith, length-append asked more)

axis_same : (g : ℕ) (asked : List ℕ) → length asked ≤ g → length (asked ++ []) ≤ g
axis_same g asked fits = omega (arith, length-append asked [])

axis_can : (g : ℕ) (asked more : List ℕ) (len : ℕ) → len ≡ 2 ^ (g - length asked) → length more ≡ 1
    → length (asked ++ more) ≤ g → 1 < len
axis_can g asked more len is one all =
    let left : 0 < g - length asked = omega (arith, length-append asked more) in
    rw is (more_than_one (g - length asked) left)

pub within_more : (g : ℕ) (cut : Cut) (before : List Cut) → AreWithin g before → CanCut (reached g before) cut
    → AreWithin g (cut ∷ before)
within_more g cut before within can = record { rows = rows cut can; columns = columns cut can }
  where
    sides : ((reached g before).columns.len ≡ 2 ^ (g - length (columns_asked before)))
        × ((reached g before).rows.len ≡ 2 ^ (g - length (rows_asked before)))
    sides = sides_as_asked g before within

    rows : (cut : Cut) → CanCut (reached g before) cut → length (rows_asked before ++ row_asked cut) ≤ g
    rows (half side.N) can =
        axis_more g (rows_asked before) (1 ∷ []) (reached g before).rows.len within.rows sides.1 can refl
    rows (half side.S) can =
        axis_more g (rows_asked before) (0 ∷ []) (reached g before).rows.len within.rows sides.1 can refl
    rows (half side.E) can = axis_same g (rows_asked before) within.rows
    rows (half side.W) can = axis_same g (rows_asked before) within.rows
    rows (quarter corner.NE) can =
        axis_more g (rows_asked before) (1 ∷ []) (reached g before).rows.len within.rows sides.1 can.1 refl
    rows (quarter corner.NW) can =
        axis_more g (rows_asked before) (1 ∷ []) (reached g before).rows.len within.rows sides.1 can.1 refl
    rows (quarter corner.SW) can =
        axis_more g (rows_asked before) (0 ∷ []) (reached g before).rows.len within.rows sides.1 can.1 refl
    rows (quarter corner.SE) can =
        axis_more g (rows_asked before) (0 ∷ []) (reached g before).rows.len within.rows sides.1 can.1 refl

    columns : (cut : Cut) → CanCut (reached g before) cut
        → length (columns_asked before ++ column_asked cut) ≤ g
    columns (half side.N) can = axis_same g (columns_asked before) within.columns
    columns (half side.S) can = axis_same g (columns_asked before) within.columns
    columns (half side.E) can =
        axis_more g (columns_asked before) (0 ∷ []) (reached g before).columns.len within.columns sides.0 can
        refl
    columns (half side.W) can =
        axis_more g (columns_asked before) (1 ∷ []) (reached g before).columns.len within.columns sides.0 can
        refl
    columns (quarter corner.NE) can =
        axis_more g (columns_asked before) (0 ∷ []) (reached g before).columns.len within.columns sides.0
        can.0 refl
    columns (quarter corner.NW) can =
        axis_more g (columns_asked before) (1 ∷ []) (reached g before).columns.len within.columns sides.0
        can.0 refl
    columns (quarter corner.SW) can =
        axis_more g (columns_asked before) (1 ∷ []) (reached g before).columns.len within.columns sides.0
        can.0 refl
    columns (quarter corner.SE) can =
        axis_more g (columns_asked before) (0 ∷ []) (reached g before).columns.len within.columns sides.0
        can.0 refl

-- if a digit is left for a cut, the block is large enough for it
pub can_cut : (g : ℕ) (cut : Cut) (before : List Cut) → AreWithin g before → AreWithin g (cut ∷ before)
    → CanCut (reached g before) cut
can_cut g cut before within all = there cut all
  where
    sides : ((reached g before).columns.len ≡ 2 ^ (g - length (columns_asked before)))
        × ((reached g before).rows.len ≡ 2 ^ (g - length (rows_asked before)))
    sides = sides_as_asked g before within

    across : (more : List ℕ) → length more ≡ 1 → length (columns_asked before ++ more) ≤ g
        → 1 < (reached g before).columns.len
    across more one fits =
        axis_can g (columns_asked before) more (reached g before).columns.len sides.0 one fits

    upward : (more : List ℕ) → length more ≡ 1 → length (rows_asked before ++ more) ≤ g
        → 1 < (reached g before).rows.len
    upward more one fits = axis_can g (rows_asked before) more (reached g before).rows.len sides.1 one fits

    there : (cut : Cut) → AreWithin g (cut ∷ before) → CanCut (reached g before) cut
    there (half side.N) all = upward (1 ∷ []) refl all.rows
    there (half side.S) all = upward (0 ∷ []) refl all.rows
    there (half side.E) all = across (0 ∷ []) refl all.columns
    there (half side.W) all = across (1 ∷ []) refl all.columns
    there (quarter corner.NE) all = (across (0 ∷ []) refl all.columns, upward (1 ∷ []) refl all.rows)
    there (quarter corner.NW) all = (across (1 ∷ []) refl all.columns, upward (1 ∷ []) refl all.rows)
    there (quarter corner.SW) all = (across (1 ∷ []) refl all.columns, upward (0 ∷ []) refl all.rows)
    there (quarter corner.SE) all = (across (0 ∷ []) refl all.columns, upward (0 ∷ []) refl all.rows)

within_fewer : (g : ℕ) (cut : Cut) (before : List Cut) → AreWithin g (cut ∷ before) → AreWithin g before
within_fewer g cut before within =
    let rows : length (rows_asked before ++ row_asked cut) ≤ g = within.rows in
    let columns : length (columns_asked before ++ column_asked cut) ≤ g = within.columns in
    record {
      rows = omega (arith, length-append (rows_asked before) (row_asked cut));
      columns = omega (arith, length-append (columns_asked before) (column_asked cut));
    }

within_drop : (g : ℕ) (n : ℕ) (steps : List Step) → AreWithin g (cuts_of steps)
    → AreWithin g (cuts_of (drop n steps))
within_drop g zero steps within = within
within_drop g (suc n) [] within = within
within_drop g (suc n) (step ∷ steps) within =
    within_drop g n steps (within_fewer g (cut_of step) (cuts_of steps) within)

pub cut_none : (g : ℕ) (steps : List Step) (n : ℕ) → n ≡ length steps → (block : Rectangle)
    → block ≡ whole_block g → IsCutTo g steps n block
cut_none g steps n all block is =
    let left : drop n steps ≡ [] = ap (λ k. drop k steps) all ∙ drop-length steps in
    record { within = rw left (record { rows = omega arith; columns = omega arith }); block_is = rw left is }

-- the remaining steps before an index, and the last of them
step_before : (steps : List Step) (n : ℕ) (step : Step) → 0 < n → slice_get steps (n - 1) ≡ Some step
    → drop (n - 1) steps ≡ step ∷ drop n steps
step_before steps n step some at =
    let next : n - 1 + 1 ≡ n = omega arith in
    drop_more steps (n - 1) step (slice_get_within steps (n - 1) step at)
    ∙ ap (λ s. s ∷ drop (n - 1 + 1) steps) (get_or_from_slice_get steps (n - 1) step step at)
    ∙ ap (λ k. step ∷ drop k steps) next

-- one more step
pub cut_next : (g : ℕ) (steps : List Step) (n : ℕ) (step : Step) (block next : Rectangle) → 0 < n
    → slice_get steps (n - 1) ≡ Some step → IsCutTo g steps n block
    → CanCut block (cut_of step) → next ≡ part_of block (cut_of step) → IsCutTo g steps (n - 1) next
cut_next g steps n step block next some at so_far can is =
    let left = step_before steps n step some at in
    let can' : CanCut (reached g (cuts_of (drop n steps))) (cut_of step) = rw (← so_far.block_is) can in
    record {
      within = rw left (within_more g (cut_of step) (cuts_of (drop n steps)) so_far.within can');
      block_is = rw left (is ∙ ap (λ b. part_of b (cut_of step)) so_far.block_is);
    }

-- one more step, if it is taken
pub cut_next_of : (g : ℕ) (steps : List Step) (n : ℕ) (step : Step) (block : Rectangle)
    (next : Option Rectangle)
    → 0 < n → slice_get steps (n - 1) ≡ Some step → IsCutTo g steps n block
    → IfSome next (λ part. CanCut block (cut_of step) × (part ≡ part_of block (cut_of step)))
    → IfSome next (IsCutTo g steps (n - 1))
cut_next_of g steps n step block None some at so_far taken = taken
cut_next_of g steps n step block (Some next) some at so_far taken =
    cut_next g steps n step block next some at so_far taken.0 taken.1

-- a step that cannot be taken
pub cut_stuck : (g : ℕ) (steps : List Step) (n : ℕ) (step : Step) (block : Rectangle) → 0 < n
    → slice_get steps (n - 1) ≡ Some step → IsCutTo g steps n block
    → ¬ CanCut block (cut_of step) → ¬ AreWithin g (cuts_of steps)
cut_stuck g steps n step block some at so_far stuck all =
    let there : AreWithin g (cuts_of (step ∷ drop n steps)) =
    rw (step_before steps n step some at) at (within_drop g (n - 1) steps all) in
    stuck (rw so_far.block_is (can_cut g (cut_of step) (cuts_of (drop n steps)) so_far.within there))

and_false : (a : Bool) → (a && false) ≡ false
and_false true = refl
and_false false = refl

-- the places of an aliquot part that is not too small are those of the block
pub chain_places : (lots : Lotting) (section : ℕ) (steps : List Step) (at : ℕ)
    → AreWithin lots.digits (cuts_of steps)
    → item_places lots (item_of section (Chain steps at))
    ≡ block_places section (reached lots.digits (cuts_of steps))
chain_places lots section steps at within =
    fun_ext (λ other. fun_ext (λ column. fun_ext (λ row. elim (cases_Bool (is_place lots.digits column row)) [
      | inl place ↦
          rw (
            place,
            held_as_asked lots.digits (cuts_of steps) within column row
                (place_of_test lots.digits column row place),
          ) refl
      | inr not ↦ rw (
        not,
        outside lots.digits (cuts_of steps) column row within not,
        and_false (section == other),
      ) refl
    ])))
