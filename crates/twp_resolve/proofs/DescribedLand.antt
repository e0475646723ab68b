-- The land of a sentence whose items lie on the plat without overlapping: it is land of the
-- township, and at least one place is named.
use Rattle.std.proofs.Common.{◌≡◌, ◌≢◌, ◌==◌, ℕ, ◌*◌, ◌^◌, ◌≤◌, ◌&&◌, ◌⊎◌, Bool, true, false, List, [], ◌∷◌}
use Rattle.std.proofs.Common.{◌++◌, Option, Some, None, refl, sym, ap, subst, ◌∙◌, inl, inr, arith, nat_le}
use Rattle.std.proofs.Common.{IsSome}
use Rattle.std.specs.List.{flat_map}
use Rattle.std.proofs.lemmas.Nat.{pow_pos}
use Rattle.std.proofs.lemmas.Bool.{and_parts, cases_Bool, eqb-true, false≢true}
use Rattle.std.proofs.lemmas.Bool.Decides.{nat_tests}
use Rattle.twp_grid.specs.Winding.{IsSection}
use Rattle.twp_grid.specs.Places.{PLACE_DIGITS, IsPlace, is_place, places_to_position}
use Rattle.twp_grid.specs.Spans.{Interval, in_span, position_span}
use Rattle.twp_grid.specs.Cuts.{AreWithin, reached}
use Rattle.twp_grid.specs.Townships.{Designation}
use Rattle.twp_grid.specs.declared.township.NorthSouth.{NorthSouth}
use Rattle.twp_grid.specs.declared.township.EastWest.{EastWest}
use Rattle.twp_grid.proofs.CutFacts.{sides_as_asked}
use Rattle.twp_grid.specs.Lands.{no_places}
use Rattle.twp_grid.specs.Lands.{HasLot, HasLand, HasWholeLots, AreLots, Layout, lotting}
use Rattle.twp_grammar.specs.declared.item.Item.{Item}
use Rattle.twp_grammar.specs.declared.item.Item.TheVariants.{Heading, Sections, Lots, Chain, All}
use Rattle.twp_grammar.specs.declared.item.Numeral.{Numeral}
use Rattle.twp_grammar.specs.declared.item.Step.{Step}
use Rattle.twp_grammar.specs.Tokens.{Token}
use Rattle.twp_grammar.specs.Grammar.{part, group, description}
use Rattle.twp_grammar.specs.Items.{Tree, ◌&◌, after, numeral, part_items, group_items, heading_item, items}
use Rattle.twp_grammar.specs.Items.{BeginWithSections}
use Rattle.twp_grammar.specs.Sentences.{HasItems}
use Rattle.twp_grammar.specs.ItemPlaces.{ItemOfSection, cuts_of, in_chain, in_item, is_lot_from, item_places}
use Rattle.twp_grammar.specs.ItemPlaces.{section_after}
use Rattle.twp_grammar.specs.ItemPlaces.{with_sections, parts_of, land_of}
use Rattle.twp_grammar.specs.OnPlat.{LiesOnPlat, AreOnPlat, IsLandOfItems}
use Rattle.twp_grammar.specs.ItemPlaces.{item_of}
use Rattle.twp_resolve.specs.steps.ResolvingSteps.{IsBeforeParts}
use Rattle.twp_grammar.specs.OnPlat.{IsTownshipLand}
use Rattle.twp_grammar.proofs.Membership.{Among, among_contains, among_left}
use Rattle.twp_grammar.proofs.Membership.{some_passes, passed}
use Rattle.twp_grid.proofs.PlaceTests.{place_of_test, test_of_place}
use Rattle.twp_grammar.proofs.ChainFacts.{chain_places}
use Rattle.twp_land.proofs.LotBlocks.{same_section}
use Rattle.twp_resolve.proofs.LandLots.{land_has_whole_lots}
use Rattle.twp_grammar.proofs.TreeFacts.{tree_begins}

-- an item that names places, if it lies on the plat
abbrev NamesPlaces : Item → Type 0
NamesPlaces (Heading number north_south range east_west at) = ⊥
NamesPlaces (Sections first last true) = Unit {0}
NamesPlaces (Sections first last false) = ⊥
NamesPlaces (Lots first last) = Unit {0}
NamesPlaces (Chain steps at) = Unit {0}
NamesPlaces (All at) = Unit {0}

-- one of the items names places
record HasNaming (its : List Item) : Type 0 where
  it : Item
  there : Among it its
  names : NamesPlaces it

first_names : (it : Item) (its : List Item) → NamesPlaces it → HasNaming (it ∷ its)
first_names it its names = record { it = it; there = inl refl; names = names }

later_names : (it : Item) (its : List Item) → HasNaming its → HasNaming (it ∷ its)
later_names it its found = record { it = found.it; there = inr found.there; names = found.names }

left_names : (its more : List Item) → HasNaming its → HasNaming (its ++ more)
left_names its more found =
    record { it = found.it; there = among_left found.it its more found.there; names = found.names }

-- a part of a section names places
part_names : (v : Tree part) → HasNaming (part_items v)
part_names (inl (word & first & more)) = first_names _ _ tt
part_names (inr (inl (step & more))) = first_names _ _ tt
part_names (inr (inr word)) = first_names _ _ tt

-- so do sections: they are whole, or a part follows
group_names : (v : Tree group) → HasNaming (group_items v)
group_names (inl (word & st & only & inl (mark & first & more))) =
    later_names (Sections (numeral only) (numeral only) false) _
    (left_names (part_items first) (flat_map (after part_items) more) (part_names first))
group_names (inl (word & st & only & inr _)) = first_names _ _ tt
group_names (inr (word & st & (first & inl thru & more) & w)) = first_names _ _ tt
group_names (inr (word & st & (first & inr (s & second) & more) & w)) = first_names _ _ tt

sentence_names : (v : Tree description) → HasNaming (items v)
sentence_names (inl h & first & more & end) =
    later_names (heading_item h) _
    (left_names (group_items first) (flat_map (after (after group_items)) more) (group_names first))
sentence_names (inr _ & first & more & end) =
    left_names (group_items first) (flat_map (after (after group_items)) more) (group_names first)

-- each item is among the items with their sections
record HasSection (its : List Item) (section : ℕ) (it : Item) : Type 0 where
  of : ℕ
  there : Among (item_of of it) (with_sections section its)

section_of_item : (its : List Item) (section : ℕ) (it : Item) → Among it its → HasSection its section it
section_of_item [] section it there = absurd there
section_of_item (first ∷ its) section it (inl is) =
    record { of = section; there = inl (ap (λ i. item_of section i) is) }
section_of_item (first ∷ its) section it (inr later) =
    let found = section_of_item its (section_after section first) it later in
    record { of = found.of; there = inr found.there }

abbrev EachLies : (layout : Layout) → Designation → List ItemOfSection → Type 0
EachLies layout township ps =
    (p : ItemOfSection) → Among p ps → LiesOnPlat (lotting layout) township p.section p.item

each_lies : (layout : Layout) (township : Designation) (its : List Item)
    → AreOnPlat (lotting layout) township its
    → EachLies layout township (parts_of its)
each_lies layout township its on p there =
    let at = among_contains p (parts_of its) there in
    subst (λ (q : ItemOfSection). LiesOnPlat (lotting layout) township q.section q.item) at.2
    (on.each at.0 p at.1)

-- a part comes after sections
abbrev FollowsSections : ItemOfSection → Type 0
FollowsSections p = IsSection p.section ⊎ IsBeforeParts p.item

begins_after : (number : ℕ) (north_south : NorthSouth) (range : ℕ) (east_west : EastWest) (at : ℕ)
    (its : List Item)
    → BeginWithSections (Heading number north_south range east_west at ∷ its) → BeginWithSections its
begins_after number north_south range east_west at [] begin = begin
begins_after number north_south range east_west at (Sections first last whole ∷ its) begin = tt
begins_after number north_south range east_west at (Heading n ns r ew a ∷ its) begin = absurd begin
begins_after number north_south range east_west at (Lots first last ∷ its) begin = absurd begin
begins_after number north_south range east_west at (Chain steps a ∷ its) begin = absurd begin
begins_after number north_south range east_west at (All a ∷ its) begin = absurd begin

-- if items lie on the plat, each part comes after sections in the township
after_sections : (layout : Layout) (township : Designation) (its : List Item) (section : ℕ)
    → IsSection section ⊎ BeginWithSections its → EachLies layout township (with_sections section its)
    → (p : ItemOfSection) → Among p (with_sections section its) → FollowsSections p
after_sections layout township [] section known lies p there = absurd there
after_sections layout township (Heading number north_south range east_west at ∷ its) section known lies p
    (inl is) =
    subst FollowsSections (sym is) (inr tt)
after_sections layout township (Heading number north_south range east_west at ∷ its) section (inl known) lies
    p
    (inr later) =
    after_sections layout township its section (inl known) (λ q there. lies q (inr there)) p later
after_sections layout township (Heading number north_south range east_west at ∷ its) section (inr begin) lies
    p
    (inr later) =
    after_sections layout township its section
    (inr (begins_after number north_south range east_west at its begin))
    (λ q there. lies q (inr there)) p later
after_sections layout township (Sections first last whole ∷ its) section known lies p (inl is) =
    subst FollowsSections (sym is) (inr tt)
after_sections layout township (Sections first last whole ∷ its) section known lies p (inr later) =
    let range : IsSection first.value = (lies (item_of section (Sections first last whole)) (inl refl)).0 in
    after_sections layout township its first.value (inl range) (λ q there. lies q (inr there)) p later
after_sections layout township (Lots first last ∷ its) section (inr begin) lies p there = absurd begin
after_sections layout township (Lots first last ∷ its) section (inl known) lies p (inl is) =
    subst FollowsSections (sym is) (inl known)
after_sections layout township (Lots first last ∷ its) section (inl known) lies p (inr later) =
    after_sections layout township its section (inl known) (λ q there. lies q (inr there)) p later
after_sections layout township (Chain steps at ∷ its) section (inr begin) lies p there = absurd begin
after_sections layout township (Chain steps at ∷ its) section (inl known) lies p (inl is) =
    subst FollowsSections (sym is) (inl known)
after_sections layout township (Chain steps at ∷ its) section (inl known) lies p (inr later) =
    after_sections layout township its section (inl known) (λ q there. lies q (inr there)) p later
after_sections layout township (All at ∷ its) section (inr begin) lies p there = absurd begin
after_sections layout township (All at ∷ its) section (inl known) lies p (inl is) =
    subst FollowsSections (sym is) (inl known)
after_sections layout township (All at ∷ its) section (inl known) lies p (inr later) =
    after_sections layout township its section (inl known) (λ q there. lies q (inr there)) p later

-- a place that an item names
record NamesPlace (layout : Layout) (section : ℕ) (it : Item) : Type 0 where
  of : ℕ
  column : ℕ
  row : ℕ
  named : item_places (lotting layout) (item_of section it) of column row ≡ true

-- sections that are whole
first_section : (layout : Layout) (section : ℕ) (first last : Numeral)
    → first.value ≤ last.value → HasLand (lotting layout) first.value
    → NamesPlace layout section (Sections first last true)
first_section layout section first last order land =
    let in_range : (nat_le first.value first.value && nat_le first.value last.value) ≡ true =
    grind (arith, nat_tests) in
    record {
      of = first.value;
      column = land.column;
      row = land.row;
      named = rw (land.place, in_range, land.is_land) refl;
    }

-- the first lot of a range
first_lot : (layout : Layout) (section : ℕ) (first last : Numeral) → AreLots (lotting layout)
    → first.value ≤ last.value → HasLot (lotting layout) section first.value
    → NamesPlace layout section (Lots first last)
first_lot layout section first last fine order (column, row, is) =
    let place = test_of_place PLACE_DIGITS column row (fine.within section first.value column row is).0 in
    let in_range : (nat_le first.value first.value && nat_le first.value last.value) ≡ true =
    grind (arith, nat_tests) in
    record {
      of = section;
      column = column;
      row = row;
      named = rw (place, same_section section, is, in_range) refl;
    }

-- the first place of the block that an aliquot part reaches
chain_place : (layout : Layout) (section : ℕ) (steps : List Step) (at : ℕ)
    → AreWithin PLACE_DIGITS (cuts_of steps)
    → NamesPlace layout section (Chain steps at)
chain_place layout section steps at within =
    let block = reached PLACE_DIGITS (cuts_of steps) in
    let sides = sides_as_asked PLACE_DIGITS (cuts_of steps) within in
    let begins : (s : Interval) (k : ℕ) → s.len ≡ 2 ^ k → in_span s s.start ≡ true =
    λ s k is. let some = pow_pos k in grind (arith, nat_tests) in
    record {
      of = section;
      column = block.columns.start;
      row = block.rows.start;
      named =
          ap (λ ps. ps section block.columns.start block.rows.start)
          (chain_places (lotting layout) section steps at within)
          ∙ rw (same_section section, begins block.columns _ sides.0, begins block.rows _ sides.1) refl;
    }

some_place : (layout : Layout) (township : Designation) (section : ℕ) (it : Item)
    → AreLots (lotting layout) → FollowsSections (item_of section it)
    → LiesOnPlat (lotting layout) township section it → NamesPlaces it → NamesPlace layout section it
some_place layout township section (Heading number north_south range east_west at) fine after lies names =
    absurd names
some_place layout township section (Sections first last true) fine after lies names =
    first_section layout section first last lies.2 (lies.3 refl first.value (omega arith) lies.2)
some_place layout township section (Sections first last false) fine after lies names = absurd names
some_place layout township section (Lots first last) fine (inl range) lies names =
    first_lot layout section first last fine lies.0 (lies.1 first.value (omega arith) lies.0)
some_place layout township section (Lots first last) fine (inr before) lies names = absurd before
some_place layout township section (Chain steps at) fine after lies names =
    chain_place layout section steps at lies.0
some_place layout township section (All at) fine after lies names = record {
  of = section;
  column = lies.column;
  row = lies.row;
  named = rw (lies.place, same_section section, lies.is_land) refl;
}

-- each part of a sentence comes after sections
each_after : (layout : Layout) (township : Designation) (tokens : List Token) (its : List Item)
    → HasItems tokens its
    → AreOnPlat (lotting layout) township its
    → (p : ItemOfSection) → Among p (parts_of its) → FollowsSections p
each_after layout township tokens its sentence on =
    after_sections layout township its 0
    (inr (subst (λ (js : List Item). BeginWithSections js) sentence.read_off (tree_begins sentence.tree)))
    (each_lies layout township its on)

not_empty : (places named : ℕ → ℕ → ℕ → Bool) (s c r : ℕ) → places ≡ named → named s c r ≡ true
    → places ≢ no_places
not_empty places named s c r is held none =
    false≢true (sym (ap (λ ps. ps s c r) none) ∙ ap (λ ps. ps s c r) is ∙ held)

-- a sentence whose items lie on the plat names at least one place
pub names_some_place : (layout : Layout) (township : Designation) (tokens : List Token)
    (its : List Item)
    (places : ℕ → ℕ → ℕ → Bool)
    → HasItems tokens its → AreLots (lotting layout)
    → IsLandOfItems (lotting layout) township its places → places ≢ no_places
names_some_place layout township tokens its places sentence fine land =
    let naming : HasNaming its = subst HasNaming sentence.read_off (sentence_names sentence.tree) in
    let stands = section_of_item its 0 naming.it naming.there in
    let part = item_of stands.of naming.it in
    let place =
    some_place layout township stands.of naming.it fine
    (each_after layout township tokens its sentence land.on_plat part stands.there)
    (each_lies layout township its land.on_plat part stands.there) naming.names in
    not_empty places (land_of (lotting layout) (parts_of its)) place.of place.column place.row land.land_is
    (passed (λ p. item_places (lotting layout) p place.of place.column place.row) (parts_of its) part
    stands.there place.named)

-- the places that a part names are in a section of the township
in_section : (layout : Layout) (township : Designation) (p : ItemOfSection) → FollowsSections p
    → LiesOnPlat (lotting layout) township p.section p.item → (s c r : ℕ)
    → item_places (lotting layout) p s c r ≡ true → IsSection s × IsPlace PLACE_DIGITS c r
in_section layout township p after lies s c r named =
    let parts =
    and_parts (is_place PLACE_DIGITS c r) (in_item (lotting layout) p.section p.item s c r) named in
    (of_item p.item after lies parts.1, place_of_test PLACE_DIGITS c r parts.0)
  where
    same : (rest : Bool) → IsSection p.section → ((p.section == s) && rest) ≡ true → IsSection s
    same rest range is = subst IsSection (eqb-true p.section s (and_parts (p.section == s) rest is).0) range

    of_item : (it : Item) → FollowsSections (item_of p.section it)
        → LiesOnPlat (lotting layout) township p.section it
        → in_item (lotting layout) p.section it s c r ≡ true
        → IsSection s
    of_item (Heading number north_south range east_west at) after lies is = cc is
    of_item (Sections first last false) after lies is = cc is
    of_item (Sections first last true) after lies is =
        let range =
        and_parts (nat_le first.value s && nat_le s last.value) (layout.has_land s c r) is in
        let both = and_parts (nat_le first.value s) (nat_le s last.value) range.0 in
        let least = lies.0.0 in
        let most = lies.1.1 in
        (grind (arith, nat_tests), grind (arith, nat_tests))
    of_item (Lots first last) (inl range) lies is = same _ range is
    of_item (Chain steps at) (inl range) lies is = same _ range is
    of_item (All at) (inl range) lies is = same _ range is
    of_item (Lots first last) (inr before) lies is = absurd before
    of_item (Chain steps at) (inr before) lies is = absurd before
    of_item (All at) (inr before) lies is = absurd before

-- the plat has land at each place that an item names
on_land : (layout : Layout) (township : Designation) (section : ℕ) (it : Item) (s c r : ℕ)
    → AreLots (lotting layout) → LiesOnPlat (lotting layout) township section it
    → item_places (lotting layout) (item_of section it) s c r ≡ true → layout.has_land s c r ≡ true
on_land layout township section it s c r fine lies named =
    let parts = and_parts (is_place PLACE_DIGITS c r) (in_item (lotting layout) section it s c r) named in
    of_item it lies parts.0 parts.1
  where
    of_lot : (first last : ℕ) (lot : Option ℕ) → layout.lot_of section c r ≡ lot
        → is_lot_from first last lot ≡ true → layout.has_land section c r ≡ true
    of_lot first last None at is = cc is
    of_lot first last (Some n) at is = (fine.within section n c r at).1

    of_item : (it : Item) → LiesOnPlat (lotting layout) township section it → is_place PLACE_DIGITS c r ≡ true
        → in_item (lotting layout) section it s c r ≡ true → layout.has_land s c r ≡ true
    of_item (Heading number north_south range east_west at) lies place is = cc is
    of_item (Sections first last false) lies place is = cc is
    of_item (Sections first last true) lies place is =
        (and_parts (nat_le first.value s && nat_le s last.value) (layout.has_land s c r) is).1
    of_item (Lots first last) lies place is =
        let both =
        and_parts (section == s) (is_lot_from first.value last.value (layout.lot_of section c r)) is in
        subst (λ n. layout.has_land n c r ≡ true) (eqb-true section s both.0)
        (of_lot first.value last.value (layout.lot_of section c r) refl both.1)
    of_item (Chain steps at) lies place is = elim (cases_Bool (layout.has_land s c r)) [
      | inl there ↦ there
      | inr none ↦
          let both = and_parts (section == s) (in_chain PLACE_DIGITS steps c r) is in
          let same : s ≡ section = sym (eqb-true section s both.0) in
          absurd (lies.2 (record {
            column = c;
            row = r;
            named = rw (place, same_section section, both.1) refl;
            is = ap (λ n. layout.has_land n c r) (sym same) ∙ none;
          }))
    ]
    of_item (All at) lies place is = (and_parts (section == s) (layout.has_land s c r) is).1

-- the land of a sentence is land of the township
pub is_of_township : (layout : Layout) (township : Designation) (tokens : List Token)
    (its : List Item)
    (places : ℕ → ℕ → ℕ → Bool)
    → HasItems tokens its
    → AreLots (lotting layout) → IsLandOfItems (lotting layout) township its places
    → IsTownshipLand (lotting layout) places
is_of_township layout township tokens its places sentence fine land = record {
  within = λ s c r held.
      let found =
      some_passes (λ p. item_places (lotting layout) p s c r) (parts_of its)
      (sym (ap (λ ps. ps s c r) land.land_is) ∙ held) in
      let lies = each_lies layout township its land.on_plat found.thing found.there in
      let stands =
      in_section layout township found.thing
      (each_after layout township tokens its sentence land.on_plat found.thing found.there) lies s c r
      found.passes in (
        stands.0,
        stands.1,
        on_land layout township found.thing.section found.thing.item s c r fine lies found.passes,
      );
  whole_lots =
      subst (λ ps. HasWholeLots (lotting layout) ps) (sym land.land_is)
      (land_has_whole_lots layout township its fine land.on_plat);
}
