-- The result for an aliquot part: the first of its faults, or its places are added.
use Rattle.std.proofs.Common.{◌≡◌, ◌==◌, ℕ, ◌≤◌, Bool, List, refl, sym, ap, subst, ◌∙◌, arith, Result}
use Rattle.std.proofs.Common.{Ok, IsSome, false}
use Rattle.std.proofs.Common.{Err, IfOk, IfErr, MatchResult}
use Rattle.std.proofs.lemmas.Bool.{and_parts}
use Rattle.twp_grid.specs.Cuts.{AreWithin, reached}
use Rattle.twp_grid.specs.Places.{PLACE_DIGITS}
use Rattle.twp_grid.specs.Spans.{Rectangle, in_rectangle}
use Rattle.twp_grid.specs.Townships.{Designation}
use Rattle.twp_grid.specs.Lands.{Meets, block_places, union, SharePlace}
use Rattle.twp_grammar.specs.declared.item.Step.{Step}
use Rattle.twp_grammar.specs.declared.item.Item.TheVariants.{Chain}
use Rattle.twp_resolve.specs.declared.place_fault.PlaceFault.{PlaceFault}
use Rattle.twp_resolve.specs.declared.place_fault.PlaceFault.TheVariants as fault
use Rattle.twp_grammar.specs.ItemPlaces.{cuts_of, item_places}
use Rattle.twp_grammar.specs.OnPlat.{Names}
use Rattle.twp_resolve.specs.PlaceFaults.{HasFault, turn_of}
use Rattle.twp_grammar.specs.ItemPlaces.{item_of}
use Rattle.twp_grid.specs.Lands.{HoldsLotPlace, LacksLand, Layout, lotting}
use Rattle.twp_resolve.specs.steps.ResolvingSteps.{IsItemTaken, IsItemsFirstFault}
use Rattle.twp_land.proofs.LotBlocks.{same_section, share_of_meets, meets_of_share}
use Rattle.twp_grammar.proofs.ChainFacts.{chain_places}

-- an aliquot part names a place of a lot
abbrev NamesLot : Layout → ℕ → List Step → ℕ → Type 0
NamesLot layout section steps at =
    Names (lotting layout) section (Chain steps at) (λ column row. IsSome (layout.lot_of section column row))

-- an aliquot part names a place without land
abbrev NamesNoLand : Layout → ℕ → List Step → ℕ → Type 0
NamesNoLand layout section steps at =
    Names (lotting layout) section (Chain steps at) (λ column row. layout.has_land section column row ≡ false)

-- an aliquot part is too small, contains land of a lot, is not all land, or was named before
at_least : (layout : Layout) (township : Designation) (earlier : ℕ → ℕ → ℕ → Bool) (section : ℕ)
    (steps : List Step)
    (at number : ℕ)
    → (¬ AreWithin PLACE_DIGITS (cuts_of steps) → number ≤ 65)
    → (NamesLot layout section steps at → number ≤ 66)
    → (NamesNoLand layout section steps at → number ≤ 68)
    → number ≤ 69
    → (other : PlaceFault) → HasFault (lotting layout) township earlier section (Chain steps at) other
    → number ≤ turn_of other
at_least layout township earlier section steps at number fine lot land most (fault.TooFine at') has =
    fine has.1
at_least layout township earlier section steps at number fine lot land most (fault.OnLot at') has = lot has.1
at_least layout township earlier section steps at number fine lot land most (fault.Overlap at') has = most
at_least layout township earlier section steps at number fine lot land most (fault.NoLand at') has =
    land has.1
at_least layout township earlier section steps at number fine lot land most other has = absurd has

pub is_too_fine : (layout : Layout) (section : ℕ) (steps : List Step) (at : ℕ)
    (earlier : ℕ → ℕ → ℕ → Bool)
    → ¬ AreWithin PLACE_DIGITS (cuts_of steps)
    → (township : Designation)
    → IsItemsFirstFault (lotting layout) township section (Chain steps at) earlier (fault.TooFine at)
is_too_fine layout section steps at earlier fine township = record {
  is = (refl, fine);
  first =
      at_least layout township earlier section steps at 65 (λ _. omega arith) (λ _. omega arith)
      (λ _. omega arith) (omega arith);
}

-- the block of an aliquot part contains a lot's place if the part names one
of_lot_of_block : (layout : Layout) (section : ℕ) (steps : List Step) (at : ℕ)
    → AreWithin PLACE_DIGITS (cuts_of steps)
    → HoldsLotPlace (lotting layout) section (reached PLACE_DIGITS (cuts_of steps))
    → NamesLot layout section steps at
of_lot_of_block layout section steps at within held = record {
  column = held.column;
  row = held.row;
  named =
      ap (λ places. places section held.column held.row)
      (chain_places (lotting layout) section steps at within)
      ∙ rw (same_section section, held.inside) refl;
  is = held.of_lot;
}

block_of_of_lot : (layout : Layout) (section : ℕ) (steps : List Step) (at : ℕ)
    → AreWithin PLACE_DIGITS (cuts_of steps)
    → NamesLot layout section steps at
    → HoldsLotPlace (lotting layout) section (reached PLACE_DIGITS (cuts_of steps))
block_of_of_lot layout section steps at within held =
    let there =
    ap (λ places. places section held.column held.row)
    (sym (chain_places (lotting layout) section steps at within))
    ∙ held.named in
    record {
      column = held.column;
      row = held.row;
      inside =
          (and_parts (section == section)
          (in_rectangle (reached PLACE_DIGITS (cuts_of steps)) held.column held.row) there).1;
      of_lot = held.is;
    }

pub is_on_lot : (layout : Layout) (section : ℕ) (steps : List Step) (at : ℕ)
    (earlier : ℕ → ℕ → ℕ → Bool) (block : Rectangle)
    → AreWithin PLACE_DIGITS (cuts_of steps) → block ≡ reached PLACE_DIGITS (cuts_of steps)
    → HoldsLotPlace (lotting layout) section block
    → (township : Designation)
    → IsItemsFirstFault (lotting layout) township section (Chain steps at) earlier (fault.OnLot at)
is_on_lot layout section steps at earlier block within is held township = record {
  is = (refl, of_lot_of_block layout section steps at within (rw is at held));
  first =
      at_least layout township earlier section steps at 66 (λ fine. absurd (fine within)) (λ _. omega arith)
      (λ _. omega arith) (omega arith);
}

-- the block of an aliquot part lacks land exactly if the part names a place without land
no_land_of_block : (layout : Layout) (section : ℕ) (steps : List Step) (at : ℕ)
    → AreWithin PLACE_DIGITS (cuts_of steps)
    → LacksLand (lotting layout) section (reached PLACE_DIGITS (cuts_of steps))
    → NamesNoLand layout section steps at
no_land_of_block layout section steps at within lacks = record {
  column = lacks.column;
  row = lacks.row;
  named =
      ap (λ places. places section lacks.column lacks.row)
      (chain_places (lotting layout) section steps at within)
      ∙ rw (same_section section, lacks.inside) refl;
  is = lacks.none;
}

block_of_no_land : (layout : Layout) (section : ℕ) (steps : List Step) (at : ℕ)
    → AreWithin PLACE_DIGITS (cuts_of steps)
    → NamesNoLand layout section steps at
    → LacksLand (lotting layout) section (reached PLACE_DIGITS (cuts_of steps))
block_of_no_land layout section steps at within named =
    let there =
    ap (λ places. places section named.column named.row)
    (sym (chain_places (lotting layout) section steps at within))
    ∙ named.named in
    record {
      column = named.column;
      row = named.row;
      inside =
          (and_parts (section == section)
          (in_rectangle (reached PLACE_DIGITS (cuts_of steps)) named.column named.row) there).1;
      none = named.is;
    }

pub is_no_land : (layout : Layout) (section : ℕ) (steps : List Step) (at : ℕ)
    (earlier : ℕ → ℕ → ℕ → Bool) (block : Rectangle)
    → AreWithin PLACE_DIGITS (cuts_of steps) → block ≡ reached PLACE_DIGITS (cuts_of steps)
    → ¬ HoldsLotPlace (lotting layout) section block → LacksLand (lotting layout) section block
    → (township : Designation)
    → IsItemsFirstFault (lotting layout) township section (Chain steps at) earlier (fault.NoLand at)
is_no_land layout section steps at earlier block within is off lacks township = record {
  is = (refl, no_land_of_block layout section steps at within (rw is at lacks));
  first =
      at_least layout township earlier section steps at 68 (λ fine. absurd (fine within))
      (λ held. absurd (off (rw is (block_of_of_lot layout section steps at within held))))
      (λ _. omega arith) (omega arith);
}

-- the result when a block is added
abbrev pub AddsBlock : {A : Type 0} → (old new : ℕ → ℕ → ℕ → Bool) (section : ℕ) (block : Rectangle) (at : ℕ)
    → Result A PlaceFault → Type 0
AddsBlock old new section block at result = MatchResult result
    (λ _. (¬ Meets (old section) block) × (new ≡ union old (block_places section block)))
    (λ e. (e ≡ fault.Overlap at) × Meets (old section) block)

-- the places of an aliquot part are those of its block
part_places : (layout : Layout) (section : ℕ) (steps : List Step) (at : ℕ) (block : Rectangle)
    → AreWithin PLACE_DIGITS (cuts_of steps) → block ≡ reached PLACE_DIGITS (cuts_of steps)
    → item_places (lotting layout) (item_of section (Chain steps at)) ≡ block_places section block
part_places layout section steps at block within is =
    chain_places (lotting layout) section steps at within ∙ ap (λ b. block_places section b) (sym is)

pub chain_taken : (layout : Layout) {A : Type 0} (result : Result A PlaceFault) (section : ℕ)
    (steps : List Step) (at : ℕ)
    (old new : ℕ → ℕ → ℕ → Bool) (block : Rectangle)
    → AreWithin PLACE_DIGITS (cuts_of steps) → block ≡ reached PLACE_DIGITS (cuts_of steps)
    → ¬ HoldsLotPlace (lotting layout) section block → ¬ LacksLand (lotting layout) section block
    → AddsBlock old new section block at result
    → IfOk result
    (λ _. (township : Designation) → IsItemTaken (lotting layout) township section (Chain steps at) old new)
chain_taken layout (Err e) section steps at old new block within is off land adds = tt
chain_taken layout (Ok _) section steps at old new block within is off land adds = λ township.
    let places = part_places layout section steps at block within is in
    record {
      lies = (
        within,
        λ held. off (rw is (block_of_of_lot layout section steps at within held)),
        λ named. land (rw is (block_of_no_land layout section steps at within named)),
      );
      apart = λ shared.
          adds.0 (meets_of_share old section block (subst (λ named. SharePlace old named) places shared));
      added = adds.1 ∙ ap (λ named. union old named) (sym places);
    }

pub chain_refused : (layout : Layout) {A : Type 0} (result : Result A PlaceFault) (section : ℕ)
    (steps : List Step) (at : ℕ)
    (old new : ℕ → ℕ → ℕ → Bool) (block : Rectangle)
    → AreWithin PLACE_DIGITS (cuts_of steps) → block ≡ reached PLACE_DIGITS (cuts_of steps)
    → ¬ HoldsLotPlace (lotting layout) section block → ¬ LacksLand (lotting layout) section block
    → AddsBlock old new section block at result
    → IfErr result
    (λ e.
    (township : Designation) → IsItemsFirstFault (lotting layout) township section (Chain steps at) old e)
chain_refused layout (Ok _) section steps at old new block within is off land adds = tt
chain_refused layout (Err e) section steps at old new block within is off land adds = λ township.
    subst (λ f. IsItemsFirstFault (lotting layout) township section (Chain steps at) old f) (sym adds.0)
    (record {
      is = (
        refl,
        subst (λ named. SharePlace old named) (sym (part_places layout section steps at block within is))
            (share_of_meets old section block adds.1),
      );
      first =
          at_least layout township old section steps at 69 (λ fine. absurd (fine within))
          (λ held. absurd (off (rw is (block_of_of_lot layout section steps at within held))))
          (λ named. absurd (land (rw is (block_of_no_land layout section steps at within named))))
          (omega arith);
    })
