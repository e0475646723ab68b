-- The first item that shares land with the one for which a description is refused.
use Rattle.std.proofs.Common.{◌≡◌, ℕ, ◌+◌, ◌<◌, ◌≤◌, ◌⊎◌, Bool, true, false, List, Option, Some, None, length}
use Rattle.std.proofs.Common.{IsSome, IfSome, MatchOption, take, drop, slice_get, refl, sym, ap, subst, ◌∙◌}
use Rattle.std.proofs.Common.{inl, inr, arith}
use Rattle.std.specs.Option.{option_map_or}
use Rattle.std.proofs.Math.Path.{fun_ext}
use Rattle.std.proofs.Math.ListN.{get_or}
use Rattle.std.proofs.lemmas.Bool.{cases_lt}
use Rattle.std.proofs.lemmas.Option.{slice_get-get_or, get_or_from_slice_get}
use Rattle.twp_grid.specs.Townships.{Designation}
use Rattle.twp_grid.specs.Lands.{no_places, intersection, union, SharePlace}
use Rattle.twp_grid.specs.Lands.{Lotting}
use Rattle.twp_grammar.specs.declared.item.Item.{Item}
use Rattle.twp_grammar.specs.declared.item.Item.TheVariants as item
use Rattle.twp_grammar.specs.ItemPlaces.{ItemOfSection, item_places, item_of, parts_of, land_of}
use Rattle.twp_grammar.specs.ItemPlaces.{section_after, with_sections}
use Rattle.twp_grammar.specs.OnPlat.{AreOnPlat, LiesOnPlat}
use Rattle.twp_resolve.specs.declared.place_fault.PlaceFault.{PlaceFault}
use Rattle.twp_resolve.specs.declared.place_fault.PlaceFault.TheVariants as fault
use Rattle.twp_resolve.specs.PlaceFaults.{HasFault, HasFaultAt, IsFrom, IsFirstPlaceFault, turn_of}
use Rattle.twp_resolve.specs.SharedLand.{places_at, AreRefusedForOverlap}
use Rattle.twp_resolve.specs.steps.ResolvingSteps.{IsItemTaken, IsItemsFirstFault, HasSomeFault}
use Rattle.twp_resolve.specs.steps.ResolvingSteps.{IsBeforeParts}
use Rattle.twp_resolve.specs.steps.ResolvingSteps.{number_of_section}
use Rattle.twp_resolve.specs.declared.shared.RefusedItem.{RefusedItem}
use Rattle.twp_resolve.specs.steps.SharingSteps.{IsOverlap, IsRefusedItem, IsRefusedLand, IsFirstSharing}
use Rattle.twp_resolve.proofs.PlaceAnswers.{IsFound, found, one_fault, no_fault}
use Rattle.twp_resolve.proofs.ResolvingFacts.{AreTaken, IsNextItem, next_is, part_is, fault_here, first_here}
use Rattle.twp_resolve.proofs.ResolvingFacts.{refused_here, may_be_taken, SectionKnown}

-- the places of the item at an index
places_of_part : (lots : Lotting) (items : List Item) (index section : ℕ) (it : Item)
    → slice_get (parts_of items) index ≡ Some (item_of section it)
    → places_at lots items index ≡ item_places lots (item_of section it)
places_of_part lots items index section it part =
    fun_ext (λ s. fun_ext (λ c. fun_ext (λ r.
    ap (λ part. option_map_or (λ (p : ItemOfSection). item_places lots p s c r) part false) part)))

places_here : (lots : Lotting) (items : List Item) (index section : ℕ) (it : Item)
    → IsNextItem items index section it
    → places_at lots items index ≡ item_places lots (item_of section it)
places_here lots items index section it next =
    places_of_part lots items index section it (part_is items index section it next)

-- a fault that an item has whatever the items before it comes before an overlap
alone : (lots : Lotting) (township : Designation) (earlier : ℕ → ℕ → ℕ → Bool) (section : ℕ) (it : Item)
    (is : PlaceFault)
    → HasFault lots township no_places section it is
    → HasFault lots township earlier section it is × (turn_of is < 69)
alone lots township earlier section (item.Heading number north_south range east_west start)
    (fault.OtherTownship at) has = (has, omega arith)
alone lots township earlier section (item.Sections first last whole) (fault.NoSection at) has =
    (has, omega arith)
alone lots township earlier section (item.Sections first last whole) (fault.Backward at) has =
    (has, omega arith)
alone lots township earlier section (item.Lots first last) (fault.Backward at) has = (has, omega arith)
alone lots township earlier section (item.Lots first last) (fault.NoLot at) has = (has, omega arith)
alone lots township earlier section (item.Chain steps start) (fault.TooFine at) has = (has, omega arith)
alone lots township earlier section (item.Chain steps start) (fault.OnLot at) has = (has, omega arith)
alone lots township earlier section (item.Sections first last whole) (fault.NoLand at) has =
    (has, omega arith)
alone lots township earlier section (item.Chain steps start) (fault.NoLand at) has = (has, omega arith)
alone lots township earlier section (item.All start) (fault.NoLand at) has = (has, omega arith)
alone lots township earlier section it (fault.Overlap at) has = absurd (cc has.1.in_first)
alone lots township earlier section it other has = absurd has

-- neither the item for which a description is refused nor any item before it has such a fault
pub no_fault_alone : (lots : Lotting) (township : Designation) (items : List Item) (index section : ℕ)
    (it : Item)
    (refused : AreRefusedForOverlap lots township items)
    → index ≤ refused.fault_is.index
    → slice_get (parts_of items) index ≡ Some (item_of section it)
    → HasSomeFault lots township section it → ⊥
no_fault_alone lots township items index section it refused before part some =
    let land = land_of lots (take index (parts_of items)) in
    let both = alone lots township land section it some.fault some.is in
    let from : IsFrom refused.fault_is.index (fault.Overlap refused.at) index some.fault =
    refused.fault_is.first index some.fault (record {
      part = item_of section it;
      part_is = part;
      has = both.0;
    }) in
    elim from [
      | inl later ↦ omega (arith, before, later)
      | inr same ↦ omega (arith, same.1, both.1)
    ]

-- the places of an item on its own
pub only_places : (lots : Lotting) (township : Designation) (section : ℕ) (it : Item) (new : ℕ → ℕ → ℕ → Bool)
    → IsItemTaken lots township section it no_places new → new ≡ item_places lots (item_of section it)
only_places lots township section it new taken = taken.added

-- another first fault is not an overlap
pub refused_otherwise : (lots : Lotting) (township : Designation) (items : List Item) (is : PlaceFault)
    → IsFirstPlaceFault lots township items is → ¬ IsOverlap is → ¬ AreRefusedForOverlap lots township items
refused_otherwise lots township items is first unlike refused =
    unlike (refused.at, one_fault lots township items is (fault.Overlap refused.at) first refused.fault_is)

-- items on the plat are not refused
pub not_refused : (lots : Lotting) (township : Designation) (items : List Item)
    → AreOnPlat lots township items
    → ¬ AreRefusedForOverlap lots township items
not_refused lots township items on refused =
    no_fault lots township items (fault.Overlap refused.at) on refused.fault_is

-- the item at an index is refused for an overlap
pub refused_item_here : (lots : Lotting) (township : Designation) (items : List Item) (index section : ℕ)
    (it : Item)
    (places : ℕ → ℕ → ℕ → Bool) (is : PlaceFault)
    → index < length items → get_or items index it ≡ it
    → AreTaken lots township items index section places
    → IsItemsFirstFault lots township section it places is → IsOverlap is
    → IsRefusedItem lots township items index section
refused_item_here lots township items index section it places is inside there so_far first overlap = record {
  refused = record {
    at = overlap.0;
    fault_is = record {
      index = index;
      is =
          fault_here lots township items index section it places (fault.Overlap overlap.0) inside there so_far
          fault_is;
      first =
          first_here lots township items index section it places (fault.Overlap overlap.0) inside there so_far
          fault_is;
    };
  };
  index_is = refl;
  part_is = λ some is.
      part_is items index section some
      (next_is items index section some inside (get_or_from_slice_get items index some some is) so_far.left);
}
  where
    fault_is : IsItemsFirstFault lots township section it places (fault.Overlap overlap.0)
    fault_is = subst (λ f. IsItemsFirstFault lots township section it places f) overlap.1 first

-- the land of the refused item
pub refused_land : (lots : Lotting) (township : Designation) (items : List Item) (index section : ℕ)
    (it : Item)
    (new : ℕ → ℕ → ℕ → Bool)
    → slice_get items index ≡ Some it
    → IsRefusedItem lots township items index section → IsItemTaken lots township section it no_places new
    → IsRefusedLand lots township items index new
refused_land lots township items index section it new there refused taken = record {
  refused = refused.refused;
  index_is = refused.index_is;
  places_are =
      only_places lots township section it new taken
      ∙ sym (places_of_part lots items index section it (refused.part_is it there));
}

-- the refused item has no fault of its own
pub refused_not_alone : (lots : Lotting) (township : Designation) (items : List Item) (index section : ℕ)
    (it : Item)
    → slice_get items index ≡ Some it
    → IsRefusedItem lots township items index section → HasSomeFault lots township section it → ⊥
refused_not_alone lots township items index section it there refused some =
    no_fault_alone lots township items index section it refused.refused (omega (arith, refused.index_is))
    (refused.part_is it there) some

-- the items before an index share no place with a later one, and the next item belongs to this
-- section
pub record AreApart (lots : Lotting) (items : List Item) (index section later : ℕ) : Type 0 where
  pub left : drop index (parts_of items) ≡ with_sections section (drop index items)
  pub apart : (i : ℕ) → i < index → ¬ SharePlace (places_at lots items i) (places_at lots items later)

pub apart_none : (lots : Lotting) (items : List Item) (later : ℕ) → AreApart lots items 0 0 later
apart_none lots items later = record { left = refl; apart = λ i before. absurd (omega arith) }

-- one more item, whose land is all of this
pub apart_next : (lots : Lotting) (township : Designation) (items : List Item) (index section later : ℕ)
    (it : Item)
    (new named : ℕ → ℕ → ℕ → Bool)
    → index < length items → get_or items index it ≡ it
    → AreApart lots items index section later
    → IsItemTaken lots township section it no_places new → named ≡ places_at lots items later
    → ¬ SharePlace new named
    → AreApart lots items (index + 1) (section_after section it) later
apart_next lots township items index section later it new named inside there so_far taken are free =
    let next : IsNextItem items index section it = next_is items index section it inside there so_far.left in
    record {
      left = next.after;
      apart = λ i before. elim (cases_lt i index) [
        | inl earlier ↦ so_far.apart i earlier
        | inr here ↦
            let same : index ≡ i = omega arith in
            let places : new ≡ places_at lots items index =
            only_places lots township section it new taken
            ∙ sym (places_here lots items index section it next) in
            subst (λ n. ¬ SharePlace (places_at lots items n) (places_at lots items later)) same
            (subst (λ p. ¬ SharePlace (places_at lots items index) p) are
            (subst (λ p. ¬ SharePlace p named) places free))
      ];
    }

-- the first item that shares land with the later one
pub sharing_here : (lots : Lotting) (township : Designation) (items : List Item) (index section later : ℕ)
    (it : Item)
    (new named common : ℕ → ℕ → ℕ → Bool)
    → index < length items → get_or items index it ≡ it → index < later
    → AreApart lots items index section later
    → IsItemTaken lots township section it no_places new → named ≡ places_at lots items later
    → SharePlace new named → common ≡ intersection new named
    → IsFirstSharing lots items index later common
sharing_here lots township items index section later it new named common inside there before so_far taken are
    shared is =
    let next : IsNextItem items index section it = next_is items index section it inside there so_far.left in
    let places : new ≡ places_at lots items index =
    only_places lots township section it new taken ∙ sym (places_here lots items index section it next) in
    record {
      in_turn = before;
      share =
          subst (λ p. SharePlace (places_at lots items index) p) are
          (subst (λ p. SharePlace p named) places shared);
      first = so_far.apart;
      places_are =
          is
          ∙ ap (λ p. intersection p named) places
          ∙ ap (λ p. intersection (places_at lots items index) p) are;
    }

-- some item before the one for which a description is refused shares land with it
pub some_share : (lots : Lotting) (township : Designation) (items : List Item) (index section later : ℕ)
    (named : ℕ → ℕ → ℕ → Bool)
    → IsRefusedLand lots township items later named → later ≤ index
    → ¬ AreApart lots items index section later
some_share lots township items index section later named refused all so_far =
    let fault = refused.refused.fault_is in
    let part : ItemOfSection = fault.is.part in
    let shared =
    overlap (land_of lots (take fault.index (parts_of items))) part.section refused.refused.at part.item
    fault.is.has in
    let
    at : IsFound (λ p. item_places lots p shared.section shared.column shared.row) (parts_of items)
    fault.index
    part =
    found (λ p. item_places lots p shared.section shared.column shared.row) (parts_of items) fault.index part
    shared.in_first in
    so_far.apart at.at (omega (arith, at.before, refused.index_is)) (record {
      section = shared.section;
      column = shared.column;
      row = shared.row;
      in_first =
          ap (λ p. option_map_or
          (λ (p : ItemOfSection). item_places lots p shared.section shared.column shared.row) p false)
          (slice_get-get_or (parts_of items) at.at part at.within)
          ∙ at.passes;
      in_second =
          ap (λ n. places_at lots items n shared.section shared.column shared.row) (sym refused.index_is)
          ∙ ap (λ p. option_map_or
          (λ (p : ItemOfSection). item_places lots p shared.section shared.column shared.row) p false)
          fault.is.part_is
          ∙ shared.in_second;
    })
  where
    overlap : (earlier : ℕ → ℕ → ℕ → Bool) (section at : ℕ) (it : Item)
        → HasFault lots township earlier section it (fault.Overlap at)
        → SharePlace earlier (item_places lots (item_of section it))
    overlap earlier section at (item.Heading number north_south range east_west start) has = has.1
    overlap earlier section at (item.Sections first last whole) has = has.1
    overlap earlier section at (item.Lots first last) has = has.1
    overlap earlier section at (item.Chain steps start) has = has.1
    overlap earlier section at (item.All start) has = has.1

-- an item before the refused one has no fault of its own
pub before_not_alone : (lots : Lotting) (township : Designation) (items : List Item) (index section later : ℕ)
    (it : Item) (named : ℕ → ℕ → ℕ → Bool)
    → index < length items → get_or items index it ≡ it → index < later
    → AreApart lots items index section later
    → IsRefusedLand lots township items later named → HasSomeFault lots township section it → ⊥
before_not_alone lots township items index section later it named inside there before so_far refused some =
    no_fault_alone lots township items index section it refused.refused (omega (arith, refused.index_is))
    (part_is items index section it (next_is items index section it inside there so_far.left)) some

-- the refused item, if it is refused for an overlap
pub found_refused : (lots : Lotting) (township : Designation) (items : List Item) (index : ℕ)
    (section : Option ℕ)
    (it : Item) (places : ℕ → ℕ → ℕ → Bool) (is : PlaceFault) (found : Option RefusedItem)
    → index < length items → get_or items index it ≡ it
    → AreTaken lots township items index (number_of_section section) places
    → IsItemsFirstFault lots township (number_of_section section) it places is
    → MatchOption found (¬ IsOverlap is)
    (λ r. (r.index ≡ index) × (r.section ≡ section) × IsOverlap is)
    → MatchOption found (¬ AreRefusedForOverlap lots township items)
    (λ r. IsRefusedItem lots township items r.index (number_of_section r.section))
found_refused lots township items index section it places is None inside there so_far first unlike =
    refused_otherwise lots township items is
    (refused_here lots township items index (number_of_section section) it places is inside there so_far
    first)
    unlike
found_refused lots township items index section it places is (Some r) inside there so_far first found =
    subst (λ i. IsRefusedItem lots township items i (number_of_section r.section)) (sym found.0)
    (subst (λ s. IsRefusedItem lots township items index (number_of_section s)) (sym found.1)
    (refused_item_here lots township items index (number_of_section section) it places is inside there so_far
    first found.2))

-- a section was named before it, unless it needs none
pub found_section : (items : List Item) (index : ℕ) (section : Option ℕ) (is : PlaceFault)
    (found : Option RefusedItem)
    → index < length items → SectionKnown section (drop index items)
    → MatchOption found (¬ IsOverlap is)
    (λ r. (r.index ≡ index) × (r.section ≡ section) × IsOverlap is)
    → IfSome found (λ r. (it : Item) → slice_get items r.index ≡ Some it
    → IsSome r.section ⊎ IsBeforeParts it)
found_section items index section is None inside known found = tt
found_section items index section is (Some r) inside known found = λ it there.
    subst (λ s. IsSome s ⊎ IsBeforeParts it) (sym found.1)
    (may_be_taken section items index it inside
    (get_or_from_slice_get items index it it (ap (λ i. slice_get items i) (sym found.0) ∙ there)) known)
