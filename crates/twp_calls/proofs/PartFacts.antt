-- The written parts of land, one more at a time; over plain values.
use Rattle.std.proofs.Common.{◌≡◌, ℕ, ◌+◌, ◌-◌, ◌<◌, ◌≤◌, ◌++◌, Bool, List, [], ◌∷◌, length, get_or, take}
use Rattle.std.proofs.Common.{map, Option, Some, None, Result, Ok, Err, OnOk, refl, sym, subst, ap, ◌∙◌}
use Rattle.std.proofs.Common.{arith, below_more}
use Rattle.std.specs.List.{AllZip, flat_map}
use Rattle.std.proofs.lemmas.Grind.{flat_map-append}
use Rattle.std.proofs.lemmas.List.{append-nil, append_assoc, get_or_append_left, length_push}
use Rattle.std.proofs.lemmas.List.{map-append, take_more}
use Rattle.std.proofs.Math.Seq.{get_or-append_seam}
use Rattle.twp_grid.specs.Lots.{position_of_lot}
use Rattle.twp_grid.specs.Spans.{Rectangle, position_block, whole_block}
use Rattle.twp_land.proofs.LotFacts.{block_of}
use Rattle.twp_grid.specs.Places.{PLACE_DIGITS}
use Rattle.twp_grid.specs.Lands.{off_lots}
use Rattle.twp_grid.specs.Lands.{STANDARD_LOTS}
use Rattle.twp_grid.specs.Lands.{HoldsEach}
use Rattle.twp_spell.specs.CanonicalText.{IsLotHeld}
use Rattle.twp_grid.specs.Listing.{AreListed}
use Rattle.twp_spell.specs.PartBlocks.{AreWrittenBlocks}
use Rattle.twp_calls.specs.LandParts.{AreLandParts, ArePartsPut, AreSectionParts, ArePartsTo, IsLotPart}
use Rattle.twp_calls.specs.LandParts.{IsPartsPut, all, by_parts, part_with}
use Rattle.twp_calls.specs.declared.answer.TownshipAnswer.{TownshipAnswer}
use Rattle.twp_calls.specs.declared.land_parts.TownshipPart.{TownshipPart}
use Rattle.twp_calls.specs.steps.PartSteps.{AddsLots, AddsSection, AddsBlocks}

zip_more : {A B : Type 0} (R : A → B → Type 0) (xs : List A) (ys : List B) (x : A) (y : B) → AllZip R xs ys
    → R x y → AllZip R (xs ++ x ∷ []) (ys ++ y ∷ [])
zip_more R [] [] x y are is = (is, tt)
zip_more R [] (y' ∷ ys) x y are is = absurd are
zip_more R (x' ∷ xs) [] x y are is = absurd are
zip_more R (x' ∷ xs) (y' ∷ ys) x y are is = (are.0, zip_more R xs ys x y are.1 is)

-- ---- one more lot, and one more block

pub no_lots_yet : (section : ℕ) (parts : List TownshipPart) → AddsLots section [] parts parts
no_lots_yet section parts = record { parts = []; are = tt; parts_are = sym (append-nil parts) }

pub lots_next : (section : ℕ) (lots : List ℕ) (index lot : ℕ) (part : TownshipPart)
    (old parts new : List TownshipPart) → index < length lots → lot ≡ get_or lots index 0
    → AddsLots section (take index lots) old parts
    → IsLotPart section lot part → new ≡ parts ++ (part ∷ [])
    → AddsLots section (take (index + 1) lots) old new
lots_next section lots index lot part old parts new within lot_is before is new_is = record {
  parts = before.parts ++ part ∷ [];
  are =
      rw (take_more lots index 0 within)
      (zip_more (IsLotPart section) (take index lots) before.parts (get_or lots index 0) part before.are
      (subst (λ l. IsLotPart section l part) lot_is is));
  parts_are = new_is ∙ ap (λ t. t ++ part ∷ []) before.parts_are ∙ append_assoc old before.parts (part ∷ []);
}

-- the part of a lot's block
pub lot_part : (section lot : ℕ) (place : Option (ℕ × ℕ)) (block : Rectangle) (part : TownshipPart)
    → position_of_lot section lot ≡ place → block_of place ≡ Some block → part ≡ part_with section lot block
    → IsLotPart section lot part
lot_part section lot (Some (column, row)) block part place_is block_is part_is =
    let is : block ≡ position_block PLACE_DIGITS column row = cc (sym block_is) in
    record {
      column = column;
      row = row;
      position_is = place_is;
      part_is = part_is ∙ ap (part_with section lot) is;
    }
lot_part section lot None block part place_is block_is part_is = absurd (cc block_is)

pub blocks_next : (section : ℕ) (blocks : List Rectangle) (index : ℕ) (block : Rectangle)
    (part : TownshipPart) (old parts new : List TownshipPart) → index < length blocks
    → get_or blocks index block ≡ block → AddsBlocks section (take index blocks) old parts
    → part ≡ part_with section 0 block → new ≡ parts ++ (part ∷ [])
    → AddsBlocks section (take (index + 1) blocks) old new
blocks_next section blocks index block part old parts new within block_is before part_is new_is =
    new_is
    ∙ ap (λ p. parts ++ p ∷ []) (part_is ∙ ap (part_with section 0) (sym block_is))
    ∙ ap (λ t. t ++ part_with section 0 (get_or blocks index block) ∷ []) before
    ∙ append_assoc old (map (part_with section 0) (take index blocks))
    (part_with section 0 (get_or blocks index block) ∷ [])
    ∙ ap (λ t. old ++ t)
    (sym (map-append (part_with section 0) (take index blocks) (get_or blocks index block ∷ []))
    ∙ ap (map (part_with section 0)) (sym (take_more blocks index block within)))

-- ---- one more section

pub no_parts_yet : (places : ℕ → ℕ → ℕ → Bool) (parts : List TownshipPart) → parts ≡ []
    → ArePartsTo 0 places parts
no_parts_yet places parts none =
    record { lists = []; count_is = refl; each = λ before below. absurd (omega arith); parts_are = none }

pub parts_next : (count : ℕ) (places : ℕ → ℕ → ℕ → Bool) (old new : List TownshipPart)
    → ArePartsTo count places old → AddsSection (count + 1) (places (count + 1)) old new
    → ArePartsTo (count + 1) places new
parts_next count places old new before adds = record {
  lists = before.lists ++ adds.parts ∷ [];
  count_is = rw (length_push before.lists adds.parts) (omega (arith, before.count_is));
  each = below_more _ _
      (λ i below.
      rw (get_or_append_left before.lists (adds.parts ∷ []) [] i (rw before.count_is below))
      (before.each i below))
      (subst (AreSectionParts (count + 1) (places (count + 1)))
      (sym (ap (λ n. get_or (before.lists ++ adds.parts ∷ []) n []) (sym before.count_is)
      ∙ get_or-append_seam before.lists adds.parts [] []))
      adds.are);
  parts_are =
      adds.parts_are
      ∙ ap (λ t. t ++ adds.parts) before.parts_are
      ∙ ap (λ t. flat_map (λ list. list) before.lists ++ t) (sym (append-nil adds.parts))
      ∙ sym (flat_map-append (λ list. list) before.lists (adds.parts ∷ []));
}

pub parts_after : (number section : ℕ) (places : ℕ → ℕ → ℕ → Bool) (old new : List TownshipPart)
    → 1 ≤ number → section ≡ number → ArePartsTo (number - 1) places old
    → AddsSection section (places section) old new → ArePartsTo (number + 1 - 1) places new
parts_after number section places old new least same before adds =
    let here : section ≡ number - 1 + 1 = omega arith in
    let next : number - 1 + 1 ≡ number + 1 - 1 = omega arith in
    subst (λ n. ArePartsTo n places new) next
    (parts_next (number - 1) places old new before
    (subst (λ n. AddsSection n (places n) old new) here adds))

-- ---- the parts of one section

pub whole_section : (section : ℕ) (held : ℕ → ℕ → Bool) (block : Rectangle) (part : TownshipPart)
    (old new : List TownshipPart) → HoldsEach STANDARD_LOTS section held → block ≡ whole_block PLACE_DIGITS
    → part ≡ part_with section 0 block → new ≡ old ++ (part ∷ []) → AddsSection section held old new
whole_section section held block part old new each block_is part_is new_is = record {
  parts = part ∷ [];
  are = all each (ap (λ p. p ∷ []) (part_is ∙ ap (part_with section 0) block_is));
  parts_are = new_is;
}

pub some_parts : {T E : Type 0} (result : Result T E) (section : ℕ) (held : ℕ → ℕ → Bool)
    (lots found : List ℕ) (blocks gathered : List Rectangle) (old middle new : List TownshipPart)
    → ¬ HoldsEach STANDARD_LOTS section held
    → lots ≡ found → AreListed (IsLotHeld STANDARD_LOTS section held) ◌<◌ found
    → AddsLots section lots old middle
    → blocks ≡ gathered → AreWrittenBlocks PLACE_DIGITS (off_lots STANDARD_LOTS section held) gathered
    → OnOk result (AddsBlocks section blocks middle new) → OnOk result (AddsSection section held old new)
some_parts (Ok value) section held lots found blocks gathered old middle new short same listed of_lots same'
    written adds = record {
      parts = of_lots.parts ++ map (part_with section 0) blocks;
      are =
          by_parts short lots of_lots.parts blocks
          (subst (λ l. AreListed (IsLotHeld STANDARD_LOTS section held) ◌<◌ l) (sym same) listed) of_lots.are
          (subst (λ b. AreWrittenBlocks PLACE_DIGITS (off_lots STANDARD_LOTS section held) b) (sym same')
          written)
          refl;
      parts_are =
          adds
          ∙ ap (λ t. t ++ map (part_with section 0) blocks) of_lots.parts_are
          ∙ append_assoc old of_lots.parts (map (part_with section 0) blocks);
    }
some_parts (Err fault) section held lots found blocks gathered old middle new short same listed of_lots same'
    written adds = adds

-- ---- the room for parts

pub put_there : (places : ℕ → ℕ → ℕ → Bool) (parts made old new : List TownshipPart)
    (answer : TownshipAnswer) → parts ≡ made → AreLandParts places made
    → IsPartsPut parts old new answer → ArePartsPut places old new answer
put_there places parts made old new answer same are put_is =
    record { parts = parts; are = subst (AreLandParts places) (sym same) are; put_is = put_is }
