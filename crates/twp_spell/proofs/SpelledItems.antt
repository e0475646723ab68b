-- The items of the canonical text: a heading, and for each section lots and aliquot parts, or all.
use Rattle.std.proofs.Common.{◌≡◌, ℕ, List, [], ◌∷◌, ◌++◌, map, codes, false, refl, ap, ◌∙◌}
use Rattle.std.specs.List.{flat_map}
use Rattle.twp_grid.specs.Townships.{Designation}
use Rattle.twp_grid.specs.declared.block.Side.TheVariants.{N, S, E, W}
use Rattle.twp_grid.specs.declared.block.Corner.TheVariants.{NE, NW, SW, SE}
use Rattle.twp_grammar.specs.declared.item.Item.{Item}
use Rattle.twp_grammar.specs.declared.item.Item.TheVariants.{Heading, Sections, Lots, Chain, All}
use Rattle.twp_grammar.specs.declared.item.Numeral.{Numeral}
use Rattle.twp_grammar.specs.declared.item.Step.{Step}
use Rattle.twp_grammar.specs.declared.item.Step.TheVariants.{Half, Quarter}
use Rattle.twp_grammar.specs.Grammar.{◌⨾◌, one, many, semicolon, heading, step, entry, separator, part, group}
use Rattle.twp_grammar.specs.Grammar.{description}
use Rattle.twp_grammar.specs.Items.{after, step_of, range_of, lots_item, part_items, group_items, items}
use Rattle.twp_spell.proofs.Lexemes.{mark, placed, end_at}
use Rattle.twp_spell.proofs.SpelledTokens.{ListEntry, all_entry, lot_entry, part_entry, SectionLine}
use Rattle.twp_spell.proofs.SpelledTokens.{step_draft, further_step_grammar, further_step, further_number}
use Rattle.twp_spell.proofs.SpelledTokens.{entry_draft, further_entry, line_draft, further_line_grammar}
use Rattle.twp_spell.proofs.SpelledTokens.{further_line, heading_draft, land_draft}

-- a number without a place in a text
abbrev pub bare : ℕ → Numeral
bare n = record { value = n; at = 0 }

-- an item without its places in the text
abbrev pub unplaced : Item → Item
unplaced (Heading n side range way at) = Heading n side range way 0
unplaced (Sections first last whole) = Sections (bare first.value) (bare last.value) whole
unplaced (Lots first last) = Lots (bare first.value) (bare last.value)
unplaced (Chain steps at) = Chain steps 0
unplaced (All at) = All 0

-- one lot
abbrev pub one_lot : ℕ → Item
one_lot n = Lots (bare n) (bare n)

abbrev pub entry_items : ListEntry → List Item
entry_items all_entry = All 0 ∷ []
entry_items (lot_entry n ns) = map one_lot (n ∷ ns)
entry_items (part_entry s ss) = Chain (s ∷ ss) 0 ∷ []

abbrev pub line_items : SectionLine → List Item
line_items line =
    Sections (bare line.section) (bare line.section) false ∷ flat_map entry_items (line.first ∷ line.more)

abbrev pub land_items : Designation → List SectionLine → List Item
land_items township lines =
    Heading township.number township.north_south township.range township.east_west 0
    ∷ flat_map line_items lines

cons_both : {A : Type 0} {x y : A} {xs ys : List A} → x ≡ y → xs ≡ ys → (x ∷ xs) ≡ (y ∷ ys)
cons_both {y = y} {xs = xs} a b = ap (λ z. z ∷ xs) a ∙ ap (λ zs. y ∷ zs) b

map_append : {A B : Type 0} (f : A → B) (xs ys : List A) → map f (xs ++ ys) ≡ map f xs ++ map f ys
map_append f [] ys = refl
map_append f (x ∷ xs) ys = ap (λ zs. f x ∷ zs) (map_append f xs ys)

map_both : {A B : Type 0} (f : A → B) (xs ys : List A) {xs' ys' : List B} → map f xs ≡ xs' → map f ys ≡ ys'
    → map f (xs ++ ys) ≡ xs' ++ ys'
map_both f xs ys {xs' = xs'} a b = map_append f xs ys ∙ ap (λ zs. zs ++ map f ys) a ∙ ap (λ zs. xs' ++ zs) b

step_is : (s : Step) (at : ℕ) (front : List ℕ) → step_of (placed step at (step_draft front s)) ≡ s
step_is (Half N) at front = refl
step_is (Half S) at front = refl
step_is (Half E) at front = refl
step_is (Half W) at front = refl
step_is (Quarter NE) at front = refl
step_is (Quarter NW) at front = refl
step_is (Quarter SW) at front = refl
step_is (Quarter SE) at front = refl

steps_are : (ss : List Step) (at : ℕ)
    → map (after step_of) (placed (many further_step_grammar) at (map further_step ss)) ≡ ss
steps_are [] at = refl
steps_are (s ∷ ss) at =
    cons_both (step_is s at []) (steps_are ss (end_at further_step_grammar at (further_step s)))

numbers_are : (ns : List ℕ) (at : ℕ)
    → map unplaced
    (map lots_item (map (after range_of) (placed (many (separator ⨾ entry)) at (map further_number ns))))
    ≡ map one_lot ns
numbers_are [] at = refl
numbers_are (n ∷ ns) at =
    ap (λ its. one_lot n ∷ its) (numbers_are ns (end_at (separator ⨾ entry) at (further_number n)))

entry_is : (e : ListEntry) (at : ℕ)
    → map unplaced (part_items (placed part at (entry_draft e))) ≡ entry_items e
entry_is all_entry at = refl
entry_is (lot_entry n ns) at = ap (λ its. one_lot n ∷ its) (numbers_are ns _)
entry_is (part_entry s ss) at =
    ap (λ steps. Chain steps 0 ∷ [])
    (cons_both (step_is s at (32 ∷ [])) (steps_are ss (end_at step at (step_draft (32 ∷ []) s))))

entries_are : (es : List ListEntry) (at : ℕ)
    → map unplaced (flat_map (after part_items) (placed (many (separator ⨾ part)) at (map further_entry es)))
    ≡ flat_map entry_items es
entries_are [] at = refl
entries_are (e ∷ es) at =
    map_both unplaced _ _ (entry_is e _) (entries_are es (end_at (separator ⨾ part) at (further_entry e)))

line_is : (line : SectionLine) (at : ℕ)
    → map unplaced (group_items (placed group at (line_draft line))) ≡ line_items line
line_is line at =
    ap (λ its. Sections (bare line.section) (bare line.section) false ∷ its)
    (map_both unplaced _ _ (entry_is line.first _) (entries_are line.more _))

lines_are : (lines : List SectionLine) (at : ℕ)
    → map unplaced
    (flat_map (after (after group_items)) (placed (many further_line_grammar) at (map further_line lines)))
    ≡ flat_map line_items lines
lines_are [] at = refl
lines_are (line ∷ lines) at =
    let start = end_at (one semicolon) at (mark semicolon tt [] (codes ";")) in
    let others =
    placed (many further_line_grammar) (end_at further_line_grammar at (further_line line))
    (map further_line lines) in
    map_both unplaced (group_items (placed group start (line_draft line)))
    (flat_map (after (after group_items)) others) (line_is line start)
    (lines_are lines (end_at further_line_grammar at (further_line line)))

-- the items are these, except for their places in the text
pub items_are : (township : Designation) (first : SectionLine) (more : List SectionLine)
    → map unplaced (items (placed description 0 (land_draft township first more)))
    ≡ land_items township (first ∷ more)
items_are township first more =
    let start = end_at heading 0 (heading_draft township) in
    let after_the_first = end_at group start (line_draft first) in
    let others = placed (many further_line_grammar) after_the_first (map further_line more) in
    ap (λ its. Heading township.number township.north_south township.range township.east_west 0 ∷ its)
    (map_both unplaced (group_items (placed group start (line_draft first)))
    (flat_map (after (after group_items)) others) (line_is first start) (lines_are more after_the_first))
