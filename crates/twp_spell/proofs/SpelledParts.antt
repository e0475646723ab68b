-- The items of the canonical text with their sections, and the conditions for them to lie on the
-- plat.
use Rattle.std.proofs.Common.{◌≡◌, ℕ, ◌||◌, Bool, true, false, List, [], ◌∷◌, ◌++◌, map, refl, sym, ap, subst}
use Rattle.std.proofs.Common.{◌∙◌, inl, inr, append_assoc}
use Rattle.std.specs.List.{flat_map, list_any}
use Rattle.std.proofs.Math.Path.{fun_ext}
use Rattle.std.proofs.Math.ListN.{get_or}
use Rattle.twp_grid.specs.Townships.{Designation}
use Rattle.twp_grammar.specs.declared.item.Item.{Item}
use Rattle.twp_grammar.specs.declared.item.Item.TheVariants.{Heading, Sections, Lots, Chain, All}
use Rattle.twp_grammar.specs.ItemPlaces.{ItemOfSection, item_places, section_after, with_sections, parts_of}
use Rattle.twp_grammar.specs.ItemPlaces.{land_of}
use Rattle.twp_grid.specs.Lands.{SharePlace}
use Rattle.twp_grid.specs.Lands.{Lotting}
use Rattle.twp_grammar.specs.OnPlat.{LiesOnPlat, AreOnPlat}
use Rattle.twp_grammar.specs.ItemPlaces.{item_of}
use Rattle.twp_grammar.proofs.Membership.{Among}
use Rattle.twp_spell.proofs.Listings.{InOrder, among_at, order_pairs}
use Rattle.twp_spell.proofs.PartOrder.{among_map}
use Rattle.twp_spell.proofs.SpelledTokens.{ListEntry, all_entry, lot_entry, part_entry, SectionLine}
use Rattle.twp_spell.proofs.SpelledItems.{bare, unplaced, one_lot, entry_items, line_items}

-- the thing in a list that a thing was made from
pub record IsMade {T U : Type 0} (f : T → U) (list : List T) (made : U) : Type 0 where
  pub thing : T
  pub there : Among thing list
  pub is : made ≡ f thing

pub made_of : {T U : Type 0} (f : T → U) (made : U) (list : List T) → Among made (map f list)
    → IsMade f list made
made_of f made [] there = absurd there
made_of f made (first ∷ list) (inl here) = record { thing = first; there = inl refl; is = here }
made_of f made (first ∷ list) (inr later) =
    let found = made_of f made list later in
    record { thing = found.thing; there = inr found.there; is = found.is }

pub order_map : {T U : Type 0} (f : T → U) (before : U → U → Type 0) (list : List T)
    → InOrder (λ x y. before (f x) (f y)) list → InOrder before (map f list)
order_map f before [] order = tt
order_map f before (first ∷ list) order = (
  (λ made there.
      let from = made_of f made list there in
      subst (λ z. before (f first) z) (sym from.is) (order.0 from.thing from.there)),
  order_map f before list order.1,
)

pub order_of_map : {T U : Type 0} (f : T → U) (before : U → U → Type 0) (list : List T)
    → InOrder before (map f list) → InOrder (λ x y. before (f x) (f y)) list
order_of_map f before [] order = tt
order_of_map f before (first ∷ list) order =
    ((λ thing there. order.0 (f thing) (among_map f thing list there)), order_of_map f before list order.1)

pub order_weaker : {T : Type 0} (before other : T → T → Type 0) (list : List T)
    → ((x y : T) → Among x list → Among y list → before x y → other x y) → InOrder before list
    → InOrder other list
order_weaker before other [] to order = tt
order_weaker before other (first ∷ list) to order = (
  (λ thing there. to first thing (inl refl) (inr there) (order.0 thing there)),
  order_weaker before other list (λ x y there there'. to x y (inr there) (inr there')) order.1,
)

-- no place is named by both
abbrev pub AreApart : Lotting → ItemOfSection → ItemOfSection → Type 0
AreApart plan p q = ¬ SharePlace (item_places plan p) (item_places plan q)

-- each lies on the plat, and no place is named by two of them
pub record AreFine (plan : Lotting) (township : Designation) (parts : List ItemOfSection) : Type 0 where
  pub each : (p : ItemOfSection) → Among p parts → LiesOnPlat plan township p.section p.item
  pub apart : InOrder (AreApart plan) parts

-- the same item without its places in the text
abbrev unplaced_part : ItemOfSection → ItemOfSection
unplaced_part p = item_of p.section (unplaced p.item)

same_section : (section : ℕ) (it : Item) → section_after section (unplaced it) ≡ section_after section it
same_section section (Heading n side range way at) = refl
same_section section (Sections first last whole) = refl
same_section section (Lots first last) = refl
same_section section (Chain steps at) = refl
same_section section (All at) = refl

unplaced_parts : (items : List Item) (section : ℕ)
    → with_sections section (map unplaced items) ≡ map unplaced_part (with_sections section items)
unplaced_parts [] section = refl
unplaced_parts (it ∷ items) section =
    ap (λ ps. item_of section (unplaced it) ∷ ps)
    (ap (λ s. with_sections s (map unplaced items)) (same_section section it)
    ∙ unplaced_parts items (section_after section it))

places_at : (plan : Lotting) (section : ℕ) (it : Item) (s c r : ℕ)
    → item_places plan (item_of section (unplaced it)) s c r ≡ item_places plan (item_of section it) s c r
places_at plan section (Heading n side range way at) s c r = refl
places_at plan section (Sections first last true) s c r = refl
places_at plan section (Sections first last false) s c r = refl
places_at plan section (Lots first last) s c r = refl
places_at plan section (Chain steps at) s c r = refl
places_at plan section (All at) s c r = refl

same_places : (plan : Lotting) (p : ItemOfSection) → item_places plan (unplaced_part p) ≡ item_places plan p
same_places plan p = fun_ext (λ s. fun_ext (λ c. fun_ext (λ r. places_at plan p.section p.item s c r)))

lies_also : (plan : Lotting) (township : Designation) (section : ℕ) (it : Item)
    → LiesOnPlat plan township section (unplaced it) → LiesOnPlat plan township section it
lies_also plan township section (Heading n side range way at) lies = lies
lies_also plan township section (Sections first last whole) lies = lies
lies_also plan township section (Lots first last) lies = lies
lies_also plan township section (Chain steps at) lies = (
  lies.0,
  λ of_lot. lies.1 (record {
    column = of_lot.column;
    row = of_lot.row;
    named = of_lot.named;
    is = of_lot.is;
  }),
  λ no_land. lies.2 (record {
    column = no_land.column;
    row = no_land.row;
    named = no_land.named;
    is = no_land.is;
  }),
)
lies_also plan township section (All at) lies = lies

any_mapped : {T : Type 0} (f : T → T) (test : T → Bool) (list : List T) → ((x : T) → test (f x) ≡ test x)
    → list_any test (map f list) ≡ list_any test list
any_mapped f test [] same = refl
any_mapped f test (first ∷ list) same =
    ap (λ b. b || list_any test (map f list)) (same first)
    ∙ ap (λ b. test first || b) (any_mapped f test list same)

-- items that are valid except for their places in the text lie on the plat
pub fine_on_plat : (plan : Lotting) (township : Designation) (items : List Item)
    → AreFine plan township (parts_of (map unplaced items)) → AreOnPlat plan township items
fine_on_plat plan township items fine =
    let same = unplaced_parts items 0 in
    let here : AreFine plan township (map unplaced_part (parts_of items)) =
    subst (λ ps. AreFine plan township ps) same fine in
    record {
      each = λ k d below.
          let p = get_or (parts_of items) k d in
          lies_also plan township p.section p.item
          (here.each (unplaced_part p)
          (among_map unplaced_part p (parts_of items) (among_at (parts_of items) k d below)));
      apart = order_pairs (AreApart plan) (parts_of items)
          (order_weaker (λ x y. AreApart plan (unplaced_part x) (unplaced_part y)) (AreApart plan)
          (parts_of items)
          (λ x y there there' apart.
          subst (λ q. ¬ SharePlace (item_places plan x) q) (same_places plan y)
          (subst (λ q. ¬ SharePlace q (item_places plan (unplaced_part y))) (same_places plan x) apart))
          (order_of_map unplaced_part (AreApart plan) (parts_of items) here.apart));
    }

-- and their land is the same
pub same_land : (plan : Lotting) (items : List Item)
    → land_of plan (parts_of (map unplaced items)) ≡ land_of plan (parts_of items)
same_land plan items = fun_ext (λ s. fun_ext (λ c. fun_ext (λ r.
    ap (λ ps. land_of plan ps s c r) (unplaced_parts items 0)
    ∙ any_mapped unplaced_part (λ p. item_places plan p s c r) (parts_of items)
    (λ p. places_at plan p.section p.item s c r))))

-- the items of a section's list, each with its section
abbrev pub entry_parts : ℕ → ListEntry → List ItemOfSection
entry_parts section e = map (λ it. item_of section it) (entry_items e)

abbrev pub list_parts : SectionLine → List ItemOfSection
list_parts line = flat_map (entry_parts line.section) (line.first ∷ line.more)

-- the items of sections and those of their lists
abbrev pub lines_parts : ℕ → List SectionLine → List ItemOfSection
lines_parts earlier [] = []
lines_parts earlier (line ∷ lines) =
    item_of earlier (Sections (bare line.section) (bare line.section) false)
    ∷ (list_parts line ++ lines_parts line.section lines)

numbers_parts : (section : ℕ) (ns : List ℕ) (more : List Item)
    → with_sections section (map one_lot ns ++ more)
    ≡ map (λ it. item_of section it) (map one_lot ns) ++ with_sections section more
numbers_parts section [] more = refl
numbers_parts section (n ∷ ns) more =
    ap (λ ps. item_of section (one_lot n) ∷ ps) (numbers_parts section ns more)

parts_of_entry : (section : ℕ) (e : ListEntry) (more : List Item)
    → with_sections section (entry_items e ++ more) ≡ entry_parts section e ++ with_sections section more
parts_of_entry section all_entry more = refl
parts_of_entry section (lot_entry n ns) more = numbers_parts section (n ∷ ns) more
parts_of_entry section (part_entry s ss) more = refl

parts_of_entries : (section : ℕ) (es : List ListEntry) (more : List Item)
    → with_sections section (flat_map entry_items es ++ more)
    ≡ flat_map (entry_parts section) es ++ with_sections section more
parts_of_entries section [] more = refl
parts_of_entries section (e ∷ es) more =
    ap (λ its. with_sections section its) (append_assoc (entry_items e) (flat_map entry_items es) more)
    ∙ parts_of_entry section e (flat_map entry_items es ++ more)
    ∙ ap (λ ps. entry_parts section e ++ ps) (parts_of_entries section es more)
    ∙ sym
    (append_assoc (entry_parts section e) (flat_map (entry_parts section) es) (with_sections section more))

-- the parts of the lines
pub parts_of_lines : (lines : List SectionLine) (earlier : ℕ)
    → with_sections earlier (flat_map line_items lines) ≡ lines_parts earlier lines
parts_of_lines [] earlier = refl
parts_of_lines (line ∷ lines) earlier =
    ap (λ ps. item_of earlier (Sections (bare line.section) (bare line.section) false) ∷ ps)
    (parts_of_entries line.section (line.first ∷ line.more) (flat_map line_items lines)
    ∙ ap (λ ps. list_parts line ++ ps) (parts_of_lines lines line.section))
