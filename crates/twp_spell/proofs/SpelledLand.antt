-- The lines of a canonical text name the land: its items lie on the plat without overlapping, and
-- this is their land.
use Rattle.std.proofs.Common.{◌≡◌, ℕ, ◌<◌, ◌&&◌, Bool, true, false, List, [], ◌∷◌, map, refl, sym, ap, subst}
use Rattle.std.proofs.Common.{◌∙◌, inl, inr, arith}
use Rattle.std.specs.List.{AllZip}
use Rattle.std.proofs.Math.Path.{fun_ext}
use Rattle.std.proofs.lemmas.Bool.{and_parts, false≢true}
use Rattle.twp_grid.specs.Winding.{IsSection}
use Rattle.twp_grid.specs.Places.{IsPlace, is_place}
use Rattle.twp_grid.specs.Townships.{Designation}
use Rattle.twp_grammar.specs.OnPlat.{IsTownshipLand}
use Rattle.twp_grid.specs.Lands.{Lotting, AreLots}
use Rattle.twp_grammar.specs.declared.item.Item.TheVariants.{Heading, Sections}
use Rattle.twp_grammar.specs.ItemPlaces.{ItemOfSection, item_places, parts_of, land_of}
use Rattle.twp_grammar.specs.OnPlat.{LiesOnPlat}
use Rattle.twp_grammar.specs.ItemPlaces.{item_of}
use Rattle.twp_spell.specs.CanonicalText.{IsSectionText, IsSectionOfLand}
use Rattle.twp_grammar.proofs.Membership.{Among, among_left, among_right, among_either}
use Rattle.twp_spell.proofs.Listings.{InOrder, order_both}
use Rattle.twp_spell.proofs.SpelledTokens.{SectionLine, line_text}
use Rattle.twp_spell.proofs.SpelledWords.{AreSmallLines}
use Rattle.twp_spell.proofs.SpelledItems.{bare, land_items}
use Rattle.twp_grammar.proofs.Membership.{some_passes, passed}
use Rattle.twp_spell.proofs.SpelledParts.{AreApart, AreFine, list_parts, lines_parts, parts_of_lines}
use Rattle.twp_spell.proofs.SpelledLists.{NameHeld}
use Rattle.twp_spell.proofs.SpelledLines.{line_of_section}

-- sections' texts are those of lines, each of which names the land in its section
pub record AreLinesOf (plan : Lotting) (township : Designation) (places : ℕ → ℕ → ℕ → Bool)
    (sections : List ℕ)
    (texts : List (List ℕ)) : Type 0 where
  pub lines : List SectionLine
  pub sections_are : map (λ (line : SectionLine). line.section) lines ≡ sections
  pub texts_are : map line_text lines ≡ texts
  pub small : AreSmallLines lines
  pub names : (line : SectionLine) → Among line lines
      → NameHeld plan township places line.section (list_parts line)

pub lines_of_sections : (plan : Lotting) (fine : AreLots plan) (township : Designation)
    (places : ℕ → ℕ → ℕ → Bool)
    → IsTownshipLand plan places
    → (sections : List ℕ) (texts : List (List ℕ))
    → ((section : ℕ) → Among section sections → IsSectionOfLand plan.digits places section)
    → AllZip (IsSectionText plan places) sections texts
    → AreLinesOf plan township places sections texts
lines_of_sections plan fine township places whole [] [] each zip =
    record {
      lines = [];
      sections_are = refl;
      texts_are = refl;
      small = tt;
      names = λ line nowhere. absurd nowhere;
    }
lines_of_sections plan fine township places whole [] (text ∷ texts) each zip = absurd zip
lines_of_sections plan fine township places whole (section ∷ sections) [] each zip = absurd zip
lines_of_sections plan fine township places whole (section ∷ sections) (text ∷ texts) each zip =
    let first =
    line_of_section plan fine township places section text whole (each section (inl refl)) zip.0 in
    let others =
    lines_of_sections plan fine township places whole sections texts (λ s there. each s (inr there)) zip.1 in
    record {
      lines = first.line ∷ others.lines;
      sections_are =
          ap (λ s. s ∷ map (λ (line : SectionLine). line.section) others.lines) first.section_is
          ∙ ap (λ ss. section ∷ ss) others.sections_are;
      texts_are =
          ap (λ t. t ∷ map line_text others.lines) first.text_is ∙ ap (λ ts. text ∷ ts) others.texts_are;
      small = (first.small, others.small);
      names = λ line there. elim there [
        | inl is ↦
            subst (λ (l : SectionLine). NameHeld plan township places l.section (list_parts l)) (sym is)
            first.names
        | inr later ↦ others.names line later
      ];
    }

abbrev sections_part : ℕ → SectionLine → ItemOfSection
sections_part earlier line = item_of earlier (Sections (bare line.section) (bare line.section) false)

-- the parts of lines: the item of a line's section, and the parts of its list
data IsOfLines (lines : List SectionLine) (p : ItemOfSection) : Type 0 where
  of_section : (earlier : ℕ) (line : SectionLine) → Among line lines → p ≡ sections_part earlier line
      → IsOfLines lines p
  of_list : (line : SectionLine) → Among line lines → Among p (list_parts line) → IsOfLines lines p

of_more : (first : SectionLine) (lines : List SectionLine) (p : ItemOfSection) → IsOfLines lines p
    → IsOfLines (first ∷ lines) p
of_more first lines p (of_section earlier line there is) = of_section earlier line (inr there) is
of_more first lines p (of_list line there inside) = of_list line (inr there) inside

of_lines : (lines : List SectionLine) (earlier : ℕ) (p : ItemOfSection) → Among p (lines_parts earlier lines)
    → IsOfLines lines p
of_lines [] earlier p there = absurd there
of_lines (line ∷ lines) earlier p (inl is) = of_section earlier line (inl refl) is
of_lines (line ∷ lines) earlier p (inr later) =
    elim (among_either p (list_parts line) (lines_parts line.section lines) later) [
      | inl here ↦ of_list line (inl refl) here
      | inr after ↦ of_more line lines p (of_lines lines line.section p after)
    ]

among_lines : (lines : List SectionLine) (earlier : ℕ) (line : SectionLine) (p : ItemOfSection)
    → Among line lines → Among p (list_parts line) → Among p (lines_parts earlier lines)
among_lines [] earlier line p there inside = absurd there
among_lines (first ∷ lines) earlier line p (inl is) inside =
    inr (among_left p (list_parts first) (lines_parts first.section lines) (subst (λ l.
    Among p (list_parts l)) is inside))
among_lines (first ∷ lines) earlier line p (inr later) inside =
    inr
    (among_right p (list_parts first) (lines_parts first.section lines)
    (among_lines lines first.section line p later inside))

-- sections that are not whole name no place, nor do headings
off : (a : Bool) → (a && false) ≡ true → ⊥
off a is = false≢true ((and_parts a false is).1)

no_place : (plan : Lotting) (earlier : ℕ) (line : SectionLine) (p : ItemOfSection) (s c r : ℕ)
    → p ≡ sections_part earlier line → item_places plan p s c r ≡ true → ⊥
no_place plan earlier line p s c r is inside =
    off (is_place plan.digits c r) (subst (λ (q : ItemOfSection). item_places plan q s c r ≡ true) is inside)

-- a place that a part of lines names is in the land, in the section of a line
record IsHeldIn (places : ℕ → ℕ → ℕ → Bool) (lines : List SectionLine) (s c r : ℕ) : Type 0 where
  line : SectionLine
  there : Among line lines
  same : line.section ≡ s
  held : places s c r ≡ true

abbrev NamesOf : Lotting → Designation → (ℕ → ℕ → ℕ → Bool) → List SectionLine → Type 0
NamesOf plan township places lines =
    (line : SectionLine) → Among line lines → NameHeld plan township places line.section (list_parts line)

held_in : (plan : Lotting) (township : Designation) (places : ℕ → ℕ → ℕ → Bool) (lines : List SectionLine)
    → NamesOf plan township places lines
    → (p : ItemOfSection) → IsOfLines lines p → (s c r : ℕ) → item_places plan p s c r ≡ true
    → IsHeldIn places lines s c r
held_in plan township places lines names p (of_section earlier line there is) s c r inside =
    absurd (no_place plan earlier line p s c r is inside)
held_in plan township places lines names p (of_list line there in_list) s c r inside =
    let held = (names line there).held p in_list s c r inside in
    record {
      line = line;
      there = there;
      same = held.0;
      held = subst (λ n. places n c r ≡ true) held.0 held.1;
    }

abbrev AreRising : List SectionLine → Type 0
AreRising lines = InOrder (λ (line other : SectionLine). line.section < other.section) lines

lines_apart : (plan : Lotting) (township : Designation) (places : ℕ → ℕ → ℕ → Bool) (lines : List SectionLine)
    (earlier : ℕ)
    → NamesOf plan township places lines → AreRising lines
    → InOrder (AreApart plan) (lines_parts earlier lines)
lines_apart plan township places [] earlier names rising = tt
lines_apart plan township places (line ∷ lines) earlier names rising = (
  (λ q there share.
      no_place plan earlier line (sections_part earlier line) share.section share.column share.row refl
      share.in_first),
  order_both (AreApart plan) (list_parts line) (lines_parts line.section lines) (names line (inl refl)).apart
      (lines_apart plan township places lines line.section (λ l there. names l (inr there)) rising.1)
      (λ p q there there' share.
      let first = (names line (inl refl)).held p there share.section share.column share.row share.in_first in
      let same = first.0 in
      let second =
      held_in plan township places lines (λ l there. names l (inr there)) q
      (of_lines lines line.section q there') share.section share.column share.row share.in_second in
      let same' = second.same in
      let less = rising.0 second.line second.there in
      absurd (omega arith)),
)

-- lines of land in a township, by ascending section
pub record NameLand (plan : Lotting) (township : Designation) (places : ℕ → ℕ → ℕ → Bool)
    (lines : List SectionLine)
    : Type 0 where
  pub names : (line : SectionLine) → Among line lines
      → NameHeld plan township places line.section (list_parts line)
  pub rising : InOrder (λ (line other : SectionLine). line.section < other.section) lines
  pub sections : (line : SectionLine) → Among line lines → IsSection line.section
  pub all_named : (s c r : ℕ) → places s c r ≡ true
      → IsPlace plan.digits c r × ((line : SectionLine) × Among line lines × (line.section ≡ s))

abbrev heading_part : Designation → ItemOfSection
heading_part township =
    item_of 0 (Heading township.number township.north_south township.range township.east_west 0)

-- the parts of the items of a text
abbrev text_parts : Designation → List SectionLine → List ItemOfSection
text_parts township lines = heading_part township ∷ lines_parts 0 lines

text_parts_are : (township : Designation) (lines : List SectionLine)
    → parts_of (land_items township lines) ≡ text_parts township lines
text_parts_are township lines = ap (λ ps. heading_part township ∷ ps) (parts_of_lines lines 0)

text_fine : (plan : Lotting) (township : Designation) (places : ℕ → ℕ → ℕ → Bool) (lines : List SectionLine)
    → NameLand plan township places lines → AreFine plan township (text_parts township lines)
text_fine plan township places lines land = record {
  each = λ p there. elim there [
    | inl is ↦ subst (λ (q : ItemOfSection). LiesOnPlat plan township q.section q.item) (sym is) refl
    | inr later ↦ lies p (of_lines lines 0 p later)
  ];
  apart = (
    (λ q there share. off (is_place plan.digits share.column share.row) share.in_first),
    lines_apart plan township places lines 0 land.names land.rising,
  );
}
  where
    lies : (p : ItemOfSection) → IsOfLines lines p → LiesOnPlat plan township p.section p.item
    lies p (of_section earlier line there is) =
        let range = land.sections line there in
        subst (λ (q : ItemOfSection). LiesOnPlat plan township q.section q.item) (sym is)
        (range, range, (omega arith), λ is. cc is)
    lies p (of_list line there inside) = (land.names line there).each p inside

both_ways : (a b : Bool) → (a ≡ true → b ≡ true) → (b ≡ true → a ≡ true) → a ≡ b
both_ways true b to from = sym (to refl)
both_ways false true to from = from refl
both_ways false false to from = refl

text_land : (plan : Lotting) (township : Designation) (places : ℕ → ℕ → ℕ → Bool) (lines : List SectionLine)
    → NameLand plan township places lines → places ≡ land_of plan (text_parts township lines)
text_land plan township places lines land = fun_ext (λ s. fun_ext (λ c. fun_ext (λ r.
    both_ways (places s c r) (land_of plan (text_parts township lines) s c r) (to s c r) (from s c r))))
  where
    to : (s c r : ℕ) → places s c r ≡ true → land_of plan (text_parts township lines) s c r ≡ true
    to s c r held =
        let there = land.all_named s c r held in
        let line = there.1.0 in
        let same : line.section ≡ s = there.1.2 in
        let found =
        (land.names line there.1.1).named c r there.0 (subst (λ n. places n c r ≡ true) (sym same) held) in
        passed (λ p. item_places plan p s c r) (text_parts township lines) found.thing
        (inr (among_lines lines 0 line found.thing there.1.1 found.there))
        (subst (λ n. item_places plan found.thing n c r ≡ true) same found.passes)

    in_lines : (s c r : ℕ) (p : ItemOfSection) → Among p (text_parts township lines)
        → item_places plan p s c r ≡ true → places s c r ≡ true
    in_lines s c r p (inl is) inside =
        absurd (off (is_place plan.digits c r) (subst (λ (q : ItemOfSection). item_places plan q s c r ≡ true)
        is inside))
    in_lines s c r p (inr later) inside =
        (held_in plan township places lines land.names p (of_lines lines 0 p later) s c r inside).held

    from : (s c r : ℕ) → land_of plan (text_parts township lines) s c r ≡ true → places s c r ≡ true
    from s c r named =
        let found = some_passes (λ p. item_places plan p s c r) (text_parts township lines) named in
        in_lines s c r found.thing found.there found.passes

-- the items of the text lie on the plat without overlapping
pub items_fine : (plan : Lotting) (township : Designation) (places : ℕ → ℕ → ℕ → Bool)
    (lines : List SectionLine)
    → NameLand plan township places lines
    → AreFine plan township (parts_of (land_items township lines))
items_fine plan township places lines land =
    subst (λ ps. AreFine plan township ps) (sym (text_parts_are township lines))
    (text_fine plan township places lines land)

-- their land is the land
pub items_land : (plan : Lotting) (township : Designation) (places : ℕ → ℕ → ℕ → Bool)
    (lines : List SectionLine)
    → NameLand plan township places lines
    → places ≡ land_of plan (parts_of (land_items township lines))
items_land plan township places lines land =
    text_land plan township places lines land
    ∙ sym (ap (λ ps. land_of plan ps) (text_parts_are township lines))
