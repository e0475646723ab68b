-- Which item has a number at a place, and which section it belongs to; over plain values.
use Rattle.std.proofs.Common.{◌≡◌, ◌<◌, ◌+◌, ◌++◌, ℕ, false, List, [], ◌∷◌, Option, Some, None, length, take}
use Rattle.std.proofs.Common.{slice_get, get_or, is_some, MatchOption, refl, sym, ap, ◌∙◌, subst, inl, inr}
use Rattle.std.proofs.Common.{arith}
use Rattle.std.proofs.lemmas.Bool.{cases_lt}
use Rattle.std.proofs.lemmas.List.{take_more}
use Rattle.std.proofs.lemmas.Option.{slice_get_read, slice_get_within}
use Rattle.twp_grammar.specs.ItemPlaces.{section_after}
use Rattle.twp_grammar.specs.declared.item.Item.{Item}
use Rattle.twp_sentences.specs.steps.NamedNumbers.{HasNumberAt, HasNoNumberAt, IsSectionOfNumber}
use Rattle.twp_sentences.specs.steps.NamedNumbers.{NoneHasNumberAt, section_named}

-- the section named last in items and one more
pub named_next : (section : ℕ) (items : List Item) (some : Item)
    → section_named section (items ++ some ∷ []) ≡ section_after (section_named section items) some
named_next section [] some = refl
named_next section (it ∷ items) some = named_next (section_after section it) items some

-- and in one more of the first so many items
pub named_more : (items : List Item) (index : ℕ) (some : Item) → index < length items
    → get_or items index some ≡ some
    → section_named 0 (take (index + 1) items) ≡ section_after (section_named 0 (take index items)) some
named_more items index some within is =
    ap (section_named 0) (take_more items index some within ∙ ap (λ x. take index items ++ x ∷ []) is)
    ∙ named_next 0 (take index items) some

-- an item of which no number was found has none there
pub no_number : (at : ℕ) (some : Item) (found : Option ℕ) → is_some found ≡ false
    → MatchOption found (HasNoNumberAt at some) (HasNumberAt at some) → HasNoNumberAt at some
no_number at some None is none = none
no_number at some (Some value) is has = absurd (cc is)

-- one more item has no number at the place
pub none_more : (at : ℕ) (items : List Item) (index : ℕ) (some : Item) → index < length items
    → get_or items index some ≡ some → NoneHasNumberAt at items index → HasNoNumberAt at some
    → NoneHasNumberAt at items (index + 1)
none_more at items index some within is before none other it below there value has =
    elim (cases_lt other index) [
      | inl earlier ↦ before other it earlier there value has
      | inr over ↦
          let same : other ≡ index = omega (arith, over, below) in
          let here : slice_get items index ≡ Some some =
          slice_get_read items (length items) index some refl within (sym is) in
          let one : some ≡ it = cc (here, subst (λ k. slice_get items k ≡ Some it) same there) in
          none value (subst (λ x. HasNumberAt at x value) (sym one) has)
    ]

-- no item has a number there
pub section_of_none : (at : ℕ) (items : List Item) (section : Option ℕ)
    → NoneHasNumberAt at items (length items) → IsSectionOfNumber at items section
section_of_none at items section none index value found there has first =
    absurd (none index found (slice_get_within items index found there) there value has)
