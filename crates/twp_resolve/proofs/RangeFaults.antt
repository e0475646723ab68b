-- The result for a range of sections or of lots: the first of its faults, or its places are added.
use Rattle.std.proofs.Common.{◌≡◌, ℕ, ◌≤◌, ◌<◌, Bool, true, refl, sym, subst, inl, inr, arith, Result}
use Rattle.std.proofs.Common.{Ok, Err, IfOk, IfErr}
use Rattle.std.proofs.Common.{IsTrue, MatchResult}
use Rattle.twp_grid.specs.Winding.{IsSection}
use Rattle.twp_grid.specs.Townships.{Designation}
use Rattle.twp_grammar.specs.declared.item.Item.TheVariants.{Sections, Lots}
use Rattle.twp_grammar.specs.declared.item.Numeral.{Numeral}
use Rattle.twp_resolve.specs.declared.place_fault.PlaceFault.{PlaceFault}
use Rattle.twp_resolve.specs.declared.place_fault.PlaceFault.TheVariants as fault
use Rattle.twp_grid.specs.Lands.{SharePlace, Lotting, HasLand, HasLot, HasLots, Layout, lotting}
use Rattle.twp_grammar.specs.OnPlat.{Each}
use Rattle.twp_resolve.specs.PlaceFaults.{IsFirstUnlike, HasFault, turn_of}
use Rattle.twp_resolve.specs.steps.ResolvingSteps.{sections_from, lots_from, AreAdded, IsItemTaken}
use Rattle.twp_resolve.specs.steps.ResolvingSteps.{IsItemsFirstFault}

-- if both numbers have the property, there is no first one that lacks it
pub none_unlike : (IsOfKind : ℕ → Type 0) (first last : Numeral) (at : ℕ) → IsOfKind first.value
    → IsOfKind last.value
    → ¬ IsFirstUnlike IsOfKind first last at
none_unlike IsOfKind first last at low high (inl out) = out.1 low
none_unlike IsOfKind first last at low high (inr out) = out.2 high

-- the first number up to which a section lacks a lot of the range
abbrev pub IsFirstLacking : Lotting → ℕ → Numeral → Numeral → ℕ → Type 0
IsFirstLacking lots section first last at =
    IsFirstUnlike (λ number. HasLots lots section first.value number) first last at

-- if the section has all lots of the range, it lacks none
pub none_lacking : (lots : Lotting) (section : ℕ) (first last : Numeral) (at : ℕ) → first.value ≤ last.value
    → HasLots lots section first.value last.value → ¬ IsFirstLacking lots section first last at
none_lacking lots section first last at order have (inl out) =
    out.1 (λ lot least most. have lot least (omega (arith, most, order)))
none_lacking lots section first last at order have (inr out) = out.2 have

-- the first lot alone is a range
one_lot : (lots : Lotting) (section number : ℕ) → HasLot lots section number
    → HasLots lots section number number
one_lot lots section number has lot least most =
    let same : number ≡ lot = omega (arith, least, most) in
    subst (λ n. HasLot lots section n) same has

-- lots run backward, do not exist, or were named before
lots_least : (layout : Layout) (township : Designation) (earlier : ℕ → ℕ → ℕ → Bool)
    (section : ℕ) (first last : Numeral)
    (number : ℕ)
    → (last.value < first.value → number ≤ 63)
    → ((at : ℕ) → IsFirstLacking (lotting layout) section first last at → number ≤ 64)
    → number ≤ 69
    → (other : PlaceFault) → HasFault (lotting layout) township earlier section (Lots first last) other
    → number ≤ turn_of other
lots_least layout township earlier section first last number back none most (fault.Backward at) has =
    back has.1
lots_least layout township earlier section first last number back none most (fault.NoLot at) has = none at has
lots_least layout township earlier section first last number back none most (fault.Overlap at) has = most
lots_least layout township earlier section first last number back none most other has = absurd has

pub lots_backward : (layout : Layout) (section : ℕ) (first last : Numeral)
    (earlier : ℕ → ℕ → ℕ → Bool)
    → last.value < first.value
    → (township : Designation)
    → IsItemsFirstFault (lotting layout) township section (Lots first last) earlier (fault.Backward last.at)
lots_backward layout section first last earlier back township = record {
  is = (refl, back);
  first =
      lots_least layout township earlier section first last 63 (λ _. omega arith) (λ _ _. omega arith)
      (omega arith);
}

-- there is a first number that is not a lot's
no_lot : (layout : Layout) (section : ℕ) (first last : Numeral) (earlier : ℕ → ℕ → ℕ → Bool)
    (at : ℕ)
    → first.value ≤ last.value → IsFirstLacking (lotting layout) section first last at
    → (township : Designation)
    → IsItemsFirstFault (lotting layout) township section (Lots first last) earlier (fault.NoLot at)
no_lot layout section first last earlier at order none township = record {
  is = none;
  first =
      lots_least layout township earlier section first last 64 (λ back. absurd (omega arith))
      (λ _ _. omega arith)
      (omega arith);
}

pub lots_no_first : (layout : Layout) (section : ℕ) (first last : Numeral)
    (earlier : ℕ → ℕ → ℕ → Bool)
    → first.value ≤ last.value → ¬ HasLot (lotting layout) section first.value
    → (township : Designation)
    → IsItemsFirstFault (lotting layout) township section (Lots first last) earlier (fault.NoLot first.at)
lots_no_first layout section first last earlier order none =
    no_lot layout section first last earlier first.at order
    (inl (refl, λ have. none (have first.value (omega arith) (omega arith))))

pub lots_no_last : (layout : Layout) (section : ℕ) (first last : Numeral)
    (earlier : ℕ → ℕ → ℕ → Bool)
    → first.value ≤ last.value → HasLot (lotting layout) section first.value
    → ¬ HasLots (lotting layout) section first.value last.value
    → (township : Designation)
    → IsItemsFirstFault (lotting layout) township section (Lots first last) earlier (fault.NoLot last.at)
lots_no_last layout section first last earlier order low none =
    no_lot layout section first last earlier last.at order
    (inr (refl, one_lot (lotting layout) section first.value low, none))

-- the result when lots are added
abbrev pub AddsLots : (layout : Layout) → {A : Type 0}
    → (old new : ℕ → ℕ → ℕ → Bool) (section first last at : ℕ)
    → Result A PlaceFault → Type 0
AddsLots layout old new section first last at result = MatchResult result
    (λ _. AreAdded (lots_from (lotting layout) section first last) old new)
    (λ e. (e ≡ fault.Overlap at) × SharePlace old (lots_from (lotting layout) section first last))

pub lots_taken : (layout : Layout) {A : Type 0} (result : Result A PlaceFault) (section : ℕ)
    (first last : Numeral)
    (old new : ℕ → ℕ → ℕ → Bool)
    → first.value ≤ last.value → HasLots (lotting layout) section first.value last.value
    → AddsLots layout old new section first.value last.value first.at result
    → IfOk result
    (λ _. (township : Designation) → IsItemTaken (lotting layout) township section (Lots first last) old new)
lots_taken layout (Err e) section first last old new order have adds = tt
lots_taken layout (Ok _) section first last old new order have adds = λ township. record {
  lies = (order, have);
  apart = adds.apart;
  added = adds.added;
}

pub lots_refused : (layout : Layout) {A : Type 0} (result : Result A PlaceFault) (section : ℕ)
    (first last : Numeral)
    (old new : ℕ → ℕ → ℕ → Bool)
    → first.value ≤ last.value → HasLots (lotting layout) section first.value last.value
    → AddsLots layout old new section first.value last.value first.at result
    → IfErr result
    (λ e.
    (township : Designation) → IsItemsFirstFault (lotting layout) township section (Lots first last) old e)
lots_refused layout (Ok _) section first last old new order have adds = tt
lots_refused layout (Err e) section first last old new order have adds = λ township.
    subst (λ f. IsItemsFirstFault (lotting layout) township section (Lots first last) old f) (sym adds.0)
    (record {
      is = (refl, adds.1);
      first =
          lots_least layout township old section first last 69 (λ back. absurd (omega arith))
          (λ at none. absurd (none_lacking (lotting layout) section first last at order have none))
          (omega arith);
    })

-- the first number up to which a section of the range has no land
abbrev pub IsFirstWithoutLand : Lotting → Numeral → Numeral → ℕ → Type 0
IsFirstWithoutLand lots first last at = IsFirstUnlike (Each (HasLand lots) first.value) first last at

-- if each section of the range has land, there is no such number
pub none_without_land : (lots : Lotting) (first last : Numeral) (at : ℕ) → first.value ≤ last.value
    → Each (HasLand lots) first.value last.value → ¬ IsFirstWithoutLand lots first last at
none_without_land lots first last at order have (inl out) =
    out.1 (λ section least most. have section least (omega (arith, most, order)))
none_without_land lots first last at order have (inr out) = out.2 have

-- sections do not exist, run backward, have no land, or were named before
sections_least : (layout : Layout) (township : Designation) (earlier : ℕ → ℕ → ℕ → Bool)
    (section : ℕ) (first last : Numeral)
    (whole : Bool) (number : ℕ)
    → ((at : ℕ) → IsFirstUnlike IsSection first last at → number ≤ 62)
    → (last.value < first.value → number ≤ 63)
    → (IsTrue whole → (at : ℕ) → IsFirstWithoutLand (lotting layout) first last at → number ≤ 68)
    → number ≤ 69
    → (other : PlaceFault)
    → HasFault (lotting layout) township earlier section (Sections first last whole) other
    → number ≤ turn_of other
sections_least layout township earlier section first last whole number none back land most
    (fault.NoSection at)
    has =
    none at has
sections_least layout township earlier section first last whole number none back land most (fault.Backward at)
    has =
    back has.1
sections_least layout township earlier section first last whole number none back land most
    (fault.Overlap at) has =
    most
sections_least layout township earlier section first last whole number none back land most (fault.NoLand at)
    has =
    land has.0 at has.1
sections_least layout township earlier section first last whole number none back land most other has =
    absurd has

-- there is a first number that is not a section's
no_section : (layout : Layout) (section : ℕ) (first last : Numeral) (whole : Bool)
    (earlier : ℕ → ℕ → ℕ → Bool) (at : ℕ)
    → IsFirstUnlike IsSection first last at
    → (township : Designation)
    → IsItemsFirstFault (lotting layout) township section (Sections first last whole) earlier
    (fault.NoSection at)
no_section layout section first last whole earlier at none township = record {
  is = none;
  first =
      sections_least layout township earlier section first last whole 62 (λ _ _. omega arith)
      (λ _. omega arith) (λ _ _ _. omega arith)
      (omega arith);
}

pub sections_no_first : (layout : Layout) (section : ℕ) (first last : Numeral) (whole : Bool)
    (earlier : ℕ → ℕ → ℕ → Bool)
    → ¬ IsSection first.value
    → (township : Designation)
    → IsItemsFirstFault (lotting layout) township section (Sections first last whole) earlier
    (fault.NoSection first.at)
sections_no_first layout section first last whole earlier none =
    no_section layout section first last whole earlier first.at (inl (refl, none))

pub sections_no_last : (layout : Layout) (section : ℕ) (first last : Numeral) (whole : Bool)
    (earlier : ℕ → ℕ → ℕ → Bool)
    → IsSection first.value → ¬ IsSection last.value
    → (township : Designation)
    → IsItemsFirstFault (lotting layout) township section (Sections first last whole) earlier
    (fault.NoSection last.at)
sections_no_last layout section first last whole earlier low none =
    no_section layout section first last whole earlier last.at (inr (refl, low, none))

pub sections_backward : (layout : Layout) (section : ℕ) (first last : Numeral) (whole : Bool)
    (earlier : ℕ → ℕ → ℕ → Bool)
    → IsSection first.value → IsSection last.value → last.value < first.value
    → (township : Designation)
    → IsItemsFirstFault (lotting layout) township section (Sections first last whole) earlier
    (fault.Backward last.at)
sections_backward layout section first last whole earlier low high back township = record {
  is = (refl, back);
  first =
      sections_least layout township earlier section first last whole 63
      (λ at none. absurd (none_unlike IsSection first last at low high none)) (λ _. omega arith)
      (λ _ _ _. omega arith)
      (omega arith);
}

-- a section has no land
pub sections_no_land : (layout : Layout) (section : ℕ) (first last : Numeral) (earlier : ℕ → ℕ → ℕ → Bool)
    (at : ℕ)
    → IsSection first.value → IsSection last.value → first.value ≤ last.value
    → IsFirstWithoutLand (lotting layout) first last at
    → (township : Designation)
    → IsItemsFirstFault (lotting layout) township section (Sections first last true) earlier (fault.NoLand at)
sections_no_land layout section first last earlier at low high order none township = record {
  is = (refl, none);
  first =
      sections_least layout township earlier section first last true 68
      (λ at none. absurd (none_unlike IsSection first last at low high none)) (λ back. absurd (omega arith))
      (λ _ _ _. omega arith)
      (omega arith);
}

pub sections_overlap : (layout : Layout) (section : ℕ) (first last : Numeral)
    (earlier : ℕ → ℕ → ℕ → Bool)
    → IsSection first.value → IsSection last.value → first.value ≤ last.value
    → Each (HasLand (lotting layout)) first.value last.value
    → SharePlace earlier (sections_from (lotting layout) first.value last.value)
    → (township : Designation)
    → IsItemsFirstFault (lotting layout) township section (Sections first last true) earlier
    (fault.Overlap first.at)
sections_overlap layout section first last earlier low high order have shared township = record {
  is = (refl, shared);
  first =
      sections_least layout township earlier section first last true 69
      (λ at none. absurd (none_unlike IsSection first last at low high none)) (λ back. absurd (omega arith))
      (λ _ at none. absurd (none_without_land (lotting layout) first last at order have none))
      (omega arith);
}
