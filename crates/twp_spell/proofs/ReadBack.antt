-- The canonical text of land is read back as that land, and it belongs to only one land.
use Rattle.std.proofs.Common.{◌≡◌, ◌≢◌, ℕ, ◌<◌, ◌≤◌, ◌↔◌, Bool, List, [], ◌∷◌, map, length, refl, sym, ap}
use Rattle.std.proofs.Common.{subst, ◌∙◌, arith}
use Rattle.std.proofs.Math.Path.{fun_ext}
use Rattle.std.proofs.lemmas.Bool.{false_from_ne_true}
use Rattle.twp_grid.specs.Townships.{Designation}
use Rattle.twp_grid.specs.Lands.{no_places}
use Rattle.twp_grid.specs.Lands.{Lotting, AreLots}
use Rattle.twp_grammar.specs.declared.item.Item.{Item}
use Rattle.twp_grammar.specs.Grammar.{description}
use Rattle.twp_grammar.specs.Items.{items}
use Rattle.twp_grammar.specs.Sentences.{HasItems}
use Rattle.twp_grammar.specs.Sentences.{TEXT_LIMIT, IsReadAs}
use Rattle.twp_grammar.specs.ItemPlaces.{parts_of, land_of}
use Rattle.twp_grammar.specs.OnPlat.{IsLandOfItems}
use Rattle.twp_spell.specs.CanonicalText.{line_end, land_lines, IsCanonicalText}
use Rattle.twp_grammar.specs.OnPlat.{IsTownshipLand}
use Rattle.twp_spell.specs.ReadBack.{HasTownshipNumbers, NamesLand}
use Rattle.twp_grammar.proofs.TokenFacts.{one_token_list}
use Rattle.twp_grammar.proofs.OneDerivation.{one_item_list}
use Rattle.twp_grammar.proofs.Membership.{Among, among_contains, contains_among}
use Rattle.twp_spell.proofs.Listings.{InOrder, pairs_order}
use Rattle.twp_spell.proofs.PartOrder.{among_map}
use Rattle.twp_spell.proofs.CanonicalFacts.{one_text}
use Rattle.twp_spell.proofs.Lexemes.{bytes, placed, IsDrafted, drafted}
use Rattle.twp_spell.proofs.SpelledTokens.{SectionLine, line_text, land_draft, bytes_land}
use Rattle.twp_spell.proofs.SpelledWords.{AreSmallLines, fits_land, one_line_end}
use Rattle.twp_spell.proofs.SpelledItems.{items_are}
use Rattle.twp_spell.proofs.SpelledParts.{made_of, order_of_map, AreFine, fine_on_plat, same_land}
use Rattle.twp_spell.proofs.SpelledLand.{AreLinesOf, lines_of_sections, NameLand, items_fine, items_land}

abbrev section_of : SectionLine → ℕ
section_of line = line.section

-- the lines of a canonical text name its land
name_land : (plan : Lotting) (township : Designation) (places : ℕ → ℕ → ℕ → Bool) (text : List ℕ)
    → IsTownshipLand plan places
    → (canonical : IsCanonicalText plan township places text)
    → (found : AreLinesOf plan township places canonical.sections canonical.lines)
    → NameLand plan township places found.lines
name_land plan township places text land canonical found = record {
  names = found.names;
  rising = order_of_map section_of ◌<◌ found.lines
      (subst (λ ss. InOrder ◌<◌ ss) (sym found.sections_are)
      (pairs_order ◌<◌ canonical.sections canonical.sections_are.ordered));
  sections = λ line there.
      let listed =
      subst (λ ss. Among line.section ss) found.sections_are (among_map section_of line found.lines there) in
      ((canonical.sections_are.listed line.section).1
      (among_contains line.section canonical.sections listed)).0;
  all_named = λ s c r held.
      let place = land.within s c r held in
      let listed =
      contains_among s canonical.sections
      ((canonical.sections_are.listed s).0
      (place.0, record { column = c; row = r; place = place.1; is_held = held })) in
      let made =
      made_of section_of s found.lines (subst (λ ss. Among s ss) (sym found.sections_are) listed) in
      (place.1, (made.thing, made.there, sym made.is));
}

-- empty land has the empty text, and the text of other land names it
data Told (plan : Lotting) (township : Designation) (text : List ℕ) (places : ℕ → ℕ → ℕ → Bool) : Type 0 where
  nothing_held : places ≡ no_places → text ≡ [] → Told plan township text places
  names_it : text ≢ [] → NamesLand plan township text places → Told plan township text places

not_empty : (township : Designation) (first : List ℕ) (more : List (List ℕ))
    → land_lines township (first ∷ more) ≢ []
not_empty township first more is = absurd (cc is)

told_of_lines : (plan : Lotting) (township : Designation) (places : ℕ → ℕ → ℕ → Bool)
    → HasTownshipNumbers township
    → (lines : List SectionLine) → NameLand plan township places lines → AreSmallLines lines
    → Told plan township (land_lines township (map line_text lines)) places
told_of_lines plan township places numbers [] land small =
    nothing_held (fun_ext (λ s. fun_ext (λ c. fun_ext (λ r. false_from_ne_true (places s c r) (λ held.
    (land.all_named s c r held).1.1))))) refl
told_of_lines plan township places numbers (first ∷ more) land small =
    let draft = land_draft township first more in
    let its = items (placed description 0 draft) in
    let here : IsDrafted (bytes description draft line_end) draft =
    drafted draft line_end
    (fits_land township first more (omega (arith, numbers.0.1)) (omega (arith, numbers.1.1)) small)
    one_line_end in
    let same = items_are township first more in
    let spelled : NamesLand plan township (bytes description draft line_end) places = record {
      tokens = here.tokens;
      items = its;
      cut = here.cut;
      named = here.named;
      land = record {
        on_plat =
            fine_on_plat plan township its
            (subst (λ l. AreFine plan township (parts_of l)) (sym same)
            (items_fine plan township places (first ∷ more) land));
        land_is =
            items_land plan township places (first ∷ more) land
            ∙ sym (ap (λ l. land_of plan (parts_of l)) same)
            ∙ same_land plan its;
      };
    } in
    names_it (not_empty township (line_text first) (map line_text more))
    (subst (λ t. NamesLand plan township t places) (bytes_land township first more) spelled)

told : (plan : Lotting) (fine : AreLots plan) (township : Designation) (places : ℕ → ℕ → ℕ → Bool)
    (text : List ℕ)
    → HasTownshipNumbers township → IsTownshipLand plan places → IsCanonicalText plan township places text
    → Told plan township text places
told plan fine township places text numbers land canonical =
    let found = lines_of_sections plan fine township places land canonical.sections canonical.lines
    (λ s there. (canonical.sections_are.listed s).1 (among_contains s canonical.sections there))
    canonical.lines_are in
    subst (λ t. Told plan township t places)
    (sym (canonical.text_is ∙ ap (λ ls. land_lines township ls) (sym found.texts_are)))
    (told_of_lines plan township places numbers found.lines
    (name_land plan township places text land canonical found) found.small)

-- the canonical text of land that is not empty names that land
pub names_its_land : (plan : Lotting) (fine : AreLots plan) (township : Designation)
    (places : ℕ → ℕ → ℕ → Bool) (text : List ℕ)
    → HasTownshipNumbers township → IsTownshipLand plan places → places ≢ no_places
    → IsCanonicalText plan township places text → NamesLand plan township text places
names_its_land plan fine township places text numbers land some canonical =
    by (told plan fine township places text numbers land canonical)
  where
    by : Told plan township text places → NamesLand plan township text places
    by (nothing_held none empty) = absurd (some none)
    by (names_it written names) = names

-- within the limit, it is read as items whose land is that land
pub read_back : (plan : Lotting) (fine : AreLots plan) (township : Designation) (places : ℕ → ℕ → ℕ → Bool)
    (text : List ℕ)
    → HasTownshipNumbers township → IsTownshipLand plan places → places ≢ no_places
    → IsCanonicalText plan township places text → length text ≤ TEXT_LIMIT
    → (items : List Item) × IsReadAs text items × IsLandOfItems plan township items places
read_back plan fine township places text numbers land some canonical within =
    let names = names_its_land plan fine township places text numbers land some canonical in (
      names.items,
      record { within = within; tokens = names.tokens; cut = names.cut; named = names.named },
      names.land,
    )

-- a text names only one land
one_land : (plan : Lotting) (township : Designation) (text : List ℕ) (places other : ℕ → ℕ → ℕ → Bool)
    → NamesLand plan township text places → NamesLand plan township text other → places ≡ other
one_land plan township text places other names names' =
    let same_tokens = one_token_list 0 text names'.tokens names.tokens names'.cut names.cut in
    let same_items =
    one_item_list names.tokens names.items names'.items names.named
    (subst (λ ts. HasItems ts names'.items) same_tokens names'.named) in
    names.land.land_is ∙ ap (λ its. land_of plan (parts_of its)) same_items ∙ sym names'.land.land_is

-- land has only one canonical text
same_text : (plan : Lotting) (fine : AreLots plan) (township : Designation) (places : ℕ → ℕ → ℕ → Bool)
    (text other : List ℕ)
    → IsCanonicalText plan township places text → IsCanonicalText plan township places other → text ≡ other
same_text plan fine township places text other canonical canonical' =
    let one = one_text plan fine township places in
    one.2 text canonical ∙ sym (one.2 other canonical')

-- two sets of land have the same text exactly if they are the same set
pub one_text_for_each : (plan : Lotting) (fine : AreLots plan) (township : Designation)
    (places other : ℕ → ℕ → ℕ → Bool)
    (text other_text : List ℕ)
    → HasTownshipNumbers township → IsTownshipLand plan places → IsTownshipLand plan other
    → IsCanonicalText plan township places text → IsCanonicalText plan township other other_text
    → (text ≡ other_text) ↔ (places ≡ other)
one_text_for_each plan fine township places other text other_text numbers land land' canonical canonical' = (
  (λ same. by (told plan fine township places text numbers land canonical)
      (subst (λ t. Told plan township t other) (sym same)
      (told plan fine township other other_text numbers land' canonical'))),
  λ same.
      same_text plan fine township other text other_text
      (subst (λ p. IsCanonicalText plan township p text) same canonical) canonical',
)
  where
    by : Told plan township text places → Told plan township text other → places ≡ other
    by (nothing_held none empty) (nothing_held none' empty') = none ∙ sym none'
    by (nothing_held none empty) (names_it written names) = absurd (written empty)
    by (names_it written names) (nothing_held none empty) = absurd (written empty)
    by (names_it written names) (names_it written' names') =
        one_land plan township text places other names names'

-- a canonical text that is read and written again stays the same
pub stays_the_same : (plan : Lotting) (fine : AreLots plan) (township : Designation)
    (places found : ℕ → ℕ → ℕ → Bool) (text again : List ℕ)
    (items : List Item)
    → HasTownshipNumbers township → IsTownshipLand plan places → places ≢ no_places
    → IsCanonicalText plan township places text → IsReadAs text items
    → IsLandOfItems plan township items found
    → IsCanonicalText plan township found again → again ≡ text
stays_the_same plan fine township places found text again items numbers land some canonical read land_found
    canonical' =
    let names = names_its_land plan fine township places text numbers land some canonical in
    let names' : NamesLand plan township text found =
    record { tokens = read.tokens; items = items; cut = read.cut; named = read.named; land = land_found } in
    let same : found ≡ places = one_land plan township text found places names' names in
    same_text plan fine township places again text
    (subst (λ p. IsCanonicalText plan township p again) same canonical')
    canonical
