-- The items that were added one after another, the remaining items, and the land so far.
use Rattle.std.proofs.Common.{◌≡◌, ℕ, suc, ◌+◌, ◌<◌, ◌≤◌, ◌||◌, ◌⊎◌, Bool, List, [], ◌∷◌, Option, Some, None}
use Rattle.std.proofs.Common.{length, take, drop, slice_get, refl, sym, ap, subst, ◌∙◌, inl, inr, arith}
use Rattle.std.proofs.Common.{IsSome}
use Rattle.std.proofs.Math.Path.{fun_ext}
use Rattle.std.proofs.Math.ListN.{get_or}
use Rattle.std.proofs.lemmas.Bool.{cases_lt}
use Rattle.std.proofs.lemmas.List.{drop_more, take_all}
use Rattle.std.proofs.lemmas.List.Folds.{list_any_more}
use Rattle.std.proofs.lemmas.Option.{slice_get-get_or}
use Rattle.twp_grid.specs.Townships.{Designation}
use Rattle.twp_grid.specs.declared.township.NorthSouth.{NorthSouth}
use Rattle.twp_grid.specs.declared.township.EastWest.{EastWest}
use Rattle.twp_grid.specs.Lands.{no_places, SharePlace}
use Rattle.twp_grid.specs.Lands.{Lotting}
use Rattle.twp_grammar.specs.declared.item.Item.{Item}
use Rattle.twp_grammar.specs.declared.item.Item.TheVariants as item
use Rattle.twp_resolve.specs.declared.place_fault.PlaceFault.{PlaceFault}
use Rattle.twp_grammar.specs.Items.{BeginWithSections}
use Rattle.twp_grammar.specs.ItemPlaces.{ItemOfSection, item_places, section_after, with_sections, parts_of}
use Rattle.twp_grammar.specs.ItemPlaces.{land_of}
use Rattle.twp_grammar.specs.OnPlat.{LiesOnPlat, IsLandOfItems}
use Rattle.twp_resolve.specs.PlaceFaults.{HasFault, HasFaultAt, IsFrom, IsFirstPlaceFault}
use Rattle.twp_grammar.specs.ItemPlaces.{item_of}
use Rattle.twp_resolve.specs.steps.ResolvingSteps.{IsItemTaken, IsItemsFirstFault, IsBeforeParts}
use Rattle.twp_resolve.specs.steps.ResolvingSteps.{number_of_section}
use Rattle.twp_resolve.proofs.PlaceAnswers.{none_of_item, pairs_of_apart}

-- the items before an index lie on the plat, no place is named by two of them, and this is their land
pub record AreTaken (lots : Lotting) (township : Designation) (items : List Item) (index section : ℕ)
    (places : ℕ → ℕ → ℕ → Bool) : Type 0 where
  pub left : drop index (parts_of items) ≡ with_sections section (drop index items)
  pub each : (i : ℕ) (d : ItemOfSection) → i < index → i < length (parts_of items)
      → LiesOnPlat lots township (get_or (parts_of items) i d).section (get_or (parts_of items) i d).item
  pub apart : (i : ℕ) (d : ItemOfSection) → i < index → i < length (parts_of items)
      → ¬ SharePlace (land_of lots (take i (parts_of items))) (item_places lots (get_or (parts_of items) i d))
  pub land : places ≡ land_of lots (take index (parts_of items))

pub taken_none : (lots : Lotting) (township : Designation) (items : List Item) (places : ℕ → ℕ → ℕ → Bool)
    → places ≡ no_places → AreTaken lots township items 0 0 places
taken_none lots township items places none = record {
  left = refl;
  each = λ i d before within. absurd (omega arith);
  apart = λ i d before within. absurd (omega arith);
  land = none;
}

-- each item has a section
pub parts_count : (section : ℕ) (items : List Item) → length (with_sections section items) ≡ length items
parts_count section [] = refl
parts_count section (it ∷ items) = ap suc (parts_count (section_after section it) items)

-- the item at an index, with its section
pub record IsNextItem (items : List Item) (index section : ℕ) (it : Item) : Type 0 where
  pub within : index < length (parts_of items)
  pub here : (d : ItemOfSection) → get_or (parts_of items) index d ≡ item_of section it
  pub after : drop (index + 1) (parts_of items)
      ≡ with_sections (section_after section it) (drop (index + 1) items)

first_of : {X : Type 0} (x y : X) (xs ys : List X) → (x ∷ xs) ≡ (y ∷ ys) → (x ≡ y) × (xs ≡ ys)
first_of x y xs ys e = (cc e, cc e)

pub next_is : (items : List Item) (index section : ℕ) (it : Item) → index < length items
    → get_or items index it ≡ it
    → drop index (parts_of items) ≡ with_sections section (drop index items)
    → IsNextItem items index section it
next_is items index section it inside at left = record {
  within = within;
  here = λ d. (both d).0;
  after = (both (item_of section it)).1;
}
  where
    within : index < length (parts_of items)
    within = let count = parts_count 0 items in omega arith

    both : (d : ItemOfSection)
        → (get_or (parts_of items) index d ≡ item_of section it)
        × (drop (index + 1) (parts_of items)
        ≡ with_sections (section_after section it) (drop (index + 1) items))
    both d =
        let there : drop index items ≡ it ∷ drop (index + 1) items =
        drop_more items index it inside ∙ ap (λ x. x ∷ drop (index + 1) items) at in
        first_of (get_or (parts_of items) index d) (item_of section it) (drop (index + 1) (parts_of items))
        (with_sections (section_after section it) (drop (index + 1) items))
        (sym (drop_more (parts_of items) index d within) ∙ left ∙ ap (λ xs. with_sections section xs) there)

-- one more item
pub taken_next : (lots : Lotting) (township : Designation) (items : List Item) (index section : ℕ) (it : Item)
    (places new : ℕ → ℕ → ℕ → Bool)
    → index < length items → get_or items index it ≡ it
    → AreTaken lots township items index section places → IsItemTaken lots township section it places new
    → AreTaken lots township items (index + 1) (section_after section it) new
taken_next lots township items index section it places new inside at so_far taken =
    let next : IsNextItem items index section it = next_is items index section it inside at so_far.left in
    record {
      left = next.after;
      each = λ i d before within. elim (cases_lt i index) [
        | inl earlier ↦ so_far.each i d earlier within
        | inr here ↦
            let same : index ≡ i = omega arith in
            subst (λ n.
            LiesOnPlat lots township (get_or (parts_of items) n d).section (get_or (parts_of items) n d).item)
            same
            (subst (λ (p : ItemOfSection). LiesOnPlat lots township p.section p.item) (sym (next.here d))
            taken.lies)
      ];
      apart = λ i d before within. elim (cases_lt i index) [
        | inl earlier ↦ so_far.apart i d earlier within
        | inr here ↦
            let same : index ≡ i = omega arith in
            subst (λ n.
            ¬ SharePlace (land_of lots (take n (parts_of items)))
            (item_places lots (get_or (parts_of items) n d)))
            same
            (subst
            (λ (p : ItemOfSection).
            ¬ SharePlace (land_of lots (take index (parts_of items))) (item_places lots p))
            (sym (next.here d))
            (subst (λ land. ¬ SharePlace land (item_places lots (item_of section it))) so_far.land
            taken.apart))
      ];
      land = taken.added ∙ fun_ext (λ s. fun_ext (λ c. fun_ext (λ r.
          let d = item_of section it in
          ap (λ land. land s c r || item_places lots (item_of section it) s c r) so_far.land
          ∙ ap (λ (p : ItemOfSection).
          land_of lots (take index (parts_of items)) s c r || item_places lots p s c r)
          (sym (next.here d))
          ∙ sym (list_any_more (λ p. item_places lots p s c r) (parts_of items) index d next.within))));
    }

-- the item at an index, as a part of the description
pub part_is : (items : List Item) (index section : ℕ) (it : Item) → IsNextItem items index section it
    → slice_get (parts_of items) index ≡ Some (item_of section it)
part_is items index section it next =
    let part : ItemOfSection = item_of section it in
    slice_get-get_or (parts_of items) index part next.within ∙ ap (λ p. Some p) (next.here part)

-- a fault of the item at an index is a fault there
pub fault_here : (lots : Lotting) (township : Designation) (items : List Item) (index section : ℕ) (it : Item)
    (places : ℕ → ℕ → ℕ → Bool) (fault : PlaceFault)
    → index < length items → get_or items index it ≡ it
    → AreTaken lots township items index section places
    → IsItemsFirstFault lots township section it places fault
    → HasFaultAt lots township items index fault
fault_here lots township items index section it places fault inside at so_far refused = record {
  part = item_of section it;
  part_is = part_is items index section it (next_is items index section it inside at so_far.left);
  has = subst (λ land. HasFault lots township land section it fault) so_far.land refused.is;
}

-- the first fault of the item at an index comes before all others, if the items before it have none
pub first_here : (lots : Lotting) (township : Designation) (items : List Item) (index section : ℕ) (it : Item)
    (places : ℕ → ℕ → ℕ → Bool) (fault : PlaceFault)
    → index < length items → get_or items index it ≡ it
    → AreTaken lots township items index section places
    → IsItemsFirstFault lots township section it places fault
    → (index' : ℕ) (fault' : PlaceFault) → HasFaultAt lots township items index' fault'
    → IsFrom index fault index' fault'
first_here lots township items index section it places fault inside at so_far refused index' fault' other =
    elim (cases_lt index' index) [
      | inl earlier ↦
          let p = other.part in
          let count = parts_count 0 items in
          let within : index' < length (parts_of items) = omega arith in
          let same : get_or (parts_of items) index' p ≡ p =
          some_part (get_or (parts_of items) index' p) p
          (sym (slice_get-get_or (parts_of items) index' p within) ∙ other.part_is) in
          let lies =
          subst (λ (q : ItemOfSection). LiesOnPlat lots township q.section q.item) same
          (so_far.each index' p earlier within) in
          let apart =
          subst (λ (q : ItemOfSection).
          ¬ SharePlace (land_of lots (take index' (parts_of items))) (item_places lots q)) same
          (so_far.apart index' p earlier within) in
          absurd
          (none_of_item lots township (land_of lots (take index' (parts_of items))) p.section p.item fault'
          lies
          apart
          other.has)
      | inr not_earlier ↦ elim (cases_lt index index') [
        | inl later ↦ inl later
        | inr not_later ↦
            let same : index' ≡ index = omega arith in
            let next : IsNextItem items index section it =
            next_is items index section it inside at so_far.left in
            let part : ItemOfSection = item_of section it in
            let p = other.part in
            let it_is : p ≡ part =
            some_part p part
            (sym other.part_is ∙ ap (λ n. slice_get (parts_of items) n) same
            ∙ part_is items index section it next) in
            let land_is : land_of lots (take index' (parts_of items)) ≡ places =
            ap (λ n. land_of lots (take n (parts_of items))) same ∙ sym so_far.land in
            let has : HasFault lots township places part.section part.item fault' =
            subst (λ (q : ItemOfSection). HasFault lots township places q.section q.item fault') it_is
            (subst (λ land. HasFault lots township land p.section p.item fault') land_is other.has) in
            inr (sym same, refused.first fault' has)
      ]
    ]
  where
    some_part : (a b : ItemOfSection) → Some a ≡ Some b → a ≡ b
    some_part a b e = cc e

-- the first fault of the item at an index is the first of all, if the items before it have none
pub refused_here : (lots : Lotting) (township : Designation) (items : List Item) (index section : ℕ)
    (it : Item)
    (places : ℕ → ℕ → ℕ → Bool) (fault : PlaceFault)
    → index < length items → get_or items index it ≡ it
    → AreTaken lots township items index section places
    → IsItemsFirstFault lots township section it places fault
    → IsFirstPlaceFault lots township items fault
refused_here lots township items index section it places fault inside at so_far refused = record {
  index = index;
  is = fault_here lots township items index section it places fault inside at so_far refused;
  first = first_here lots township items index section it places fault inside at so_far refused;
}

-- all items were added
pub taken_all : (lots : Lotting) (township : Designation) (items : List Item) (index section : ℕ)
    (places : ℕ → ℕ → ℕ → Bool)
    → length items ≤ index
    → AreTaken lots township items index section places → IsLandOfItems lots township items places
taken_all lots township items index section places end taken =
    let count = parts_count 0 items in
    record {
      on_plat = record {
        each = λ i d within. taken.each i d (omega arith) within;
        apart = pairs_of_apart lots (parts_of items) (λ i d within. taken.apart i d (omega arith) within);
      };
      land_is = taken.land ∙ ap (λ ps. land_of lots ps) (take_all index (parts_of items) (omega arith));
    }

-- Until sections are named, the remaining items begin with them, or with a heading and then them.
pub SectionKnown : Option ℕ → List Item → Type 0
SectionKnown section left = (1 ≤ number_of_section section) ⊎ BeginWithSections left

pub not_known : (left : List Item) → BeginWithSections left → SectionKnown None left
unfolding SectionKnown
not_known left begin = inr begin

begins : (items : List Item) (index : ℕ) (it : Item) → index < length items → get_or items index it ≡ it
    → BeginWithSections (drop index items) → BeginWithSections (it ∷ drop (index + 1) items)
begins items index it inside at begin =
    subst BeginWithSections (drop_more items index it inside ∙ ap (λ x. x ∷ drop (index + 1) items) at) begin

-- a part comes after sections
pub may_be_taken : (section : Option ℕ) (items : List Item) (index : ℕ) (it : Item) → index < length items
    → get_or items index it ≡ it
    → SectionKnown section (drop index items) → IsSome section ⊎ IsBeforeParts it
unfolding SectionKnown
may_be_taken section items index it inside at (inl known) = inl (some section known)
  where
    some : (o : Option ℕ) → 1 ≤ number_of_section o → IsSome o
    some None least = absurd (omega arith)
    some (Some n) least = refl
may_be_taken section items index it inside at (inr begin) =
    inr (go it (drop (index + 1) items) (begins items index it inside at begin))
  where
    go : (it : Item) (more : List Item) → BeginWithSections (it ∷ more) → IsBeforeParts it
    go (item.Heading number north_south range east_west at) more begin = tt
    go (item.Sections first last whole) more begin = tt
    go (item.Lots first last) more begin = begin
    go (item.Chain steps at) more begin = begin
    go (item.All at) more begin = begin

-- so does the next one
pub known_next : (lots : Lotting) (township : Designation) (section section' : Option ℕ) (items : List Item)
    (index : ℕ) (it : Item)
    → index < length items → get_or items index it ≡ it
    → SectionKnown section (drop index items) → LiesOnPlat lots township (number_of_section section) it
    → number_of_section section' ≡ section_after (number_of_section section) it
    → SectionKnown section' (drop (index + 1) items)
unfolding SectionKnown
known_next lots township section section' items index it inside at known lies is = elim known [
  | inl some ↦ inl (go it lies some is)
  | inr begin ↦ rest it (drop (index + 1) items) lies (begins items index it inside at begin) is
]
  where
    go : (it : Item) → LiesOnPlat lots township (number_of_section section) it → 1 ≤ number_of_section section
        → number_of_section section' ≡ section_after (number_of_section section) it
        → 1 ≤ number_of_section section'
    go (item.Heading number north_south range east_west at) lies some is = omega arith
    go (item.Sections first last whole) lies some is = omega (arith, lies.0.0)
    go (item.Lots first last) lies some is = omega arith
    go (item.Chain steps at) lies some is = omega arith
    go (item.All at) lies some is = omega arith

    after : (number : ℕ) (north_south : NorthSouth) (range : ℕ) (east_west : EastWest) (at : ℕ)
        (more : List Item)
        → BeginWithSections (item.Heading number north_south range east_west at ∷ more)
        → BeginWithSections more
    after number north_south range east_west at (item.Sections first last whole ∷ more) begin = tt
    after number north_south range east_west at [] begin = begin
    after number north_south range east_west at (item.Heading n ns r ew a ∷ more) begin = absurd begin
    after number north_south range east_west at (item.Lots first last ∷ more) begin = absurd begin
    after number north_south range east_west at (item.Chain steps a ∷ more) begin = absurd begin
    after number north_south range east_west at (item.All a ∷ more) begin = absurd begin

    rest : (it : Item) (more : List Item) → LiesOnPlat lots township (number_of_section section) it
        → BeginWithSections (it ∷ more)
        → number_of_section section' ≡ section_after (number_of_section section) it
        → (1 ≤ number_of_section section') ⊎ BeginWithSections more
    rest (item.Heading number north_south range east_west at) more lies begin is =
        inr (after number north_south range east_west at more begin)
    rest (item.Sections first last whole) more lies begin is = inl (omega (arith, lies.0.0))
    rest (item.Lots first last) more lies begin is = absurd begin
    rest (item.Chain steps at) more lies begin is = absurd begin
    rest (item.All at) more lies begin is = absurd begin
