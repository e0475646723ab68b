-- Phrases between offsets, one by one.
use Rattle.std.proofs.Common.{◌≡◌, ◌+◌, ◌-◌, ◌<◌, ◌≤◌, ◌⊎◌, ℕ, suc, List, [], ◌∷◌, ◌++◌, length, drop}
use Rattle.std.proofs.Common.{arith, map, Bor, MatchOption, None, Option, Some, inl, inr, refl, subst, sym}
use Rattle.std.proofs.Common.{ap, ◌∙◌}
use Rattle.std.proofs.lemmas.Bool.{cases_order}
use Rattle.std.proofs.lemmas.List.{append-nil, drop_more, length-drop}
use Rattle.std.specs.Prelude.{slice_index_or, slice_range}
use Rattle.twp_phrases.specs.SetAside.{AreRemarks, IsFirstOfLand}
use Rattle.twp_calls.specs.ManyAnswers.{IsRange, count_between}
use Rattle.twp_calls.specs.SetAsides.{AreDataOfSetAside, AreRanges, IsSetAsideCall, phrases_between}
use Rattle.twp_calls.specs.SetAsides.{set_aside}
use Rattle.twp_calls.specs.UnreadCalls.{AreStretchesPut}
use Rattle.twp_calls.specs.declared.answer.TownshipAnswer.{TownshipAnswer}
use Rattle.twp_calls.specs.declared.unread.TownshipStretch.{TownshipStretch}

-- one more offset
after_one : (bytes : List ℕ) (start end : ℕ) (rest more : List ℕ) → rest ≡ start ∷ more
    → (tail : List ℕ) → more ≡ end ∷ tail
    → phrases_between bytes rest ≡ slice_range bytes start end ∷ phrases_between bytes more
after_one bytes start end rest more is tail next =
    ap (phrases_between bytes) (is ∙ ap (λ list. start ∷ list) next)
    ∙ ap (λ list. slice_range bytes start end ∷ phrases_between bytes list) (sym next)

-- the phrase at an index, and those after it
pub next_phrase : (bytes offsets : List ℕ) (index : ℕ) → index < count_between offsets
    → phrases_between bytes (drop index offsets)
    ≡ slice_range bytes (slice_index_or offsets index 0) (slice_index_or offsets (index + 1) 0)
    ∷ phrases_between bytes (drop (index + 1) offsets)
next_phrase bytes offsets index within =
    after_one bytes (slice_index_or offsets index 0) (slice_index_or offsets (index + 1) 0)
    (drop index offsets) (drop (index + 1) offsets)
    (drop_more offsets index 0 (omega (arith, within))) (drop (index + 1 + 1) offsets)
    (drop_more offsets (index + 1) 0 (omega (arith, within)))

two_or_more : (n : ℕ) → suc (suc n) ≤ 1 → ⊥
two_or_more n h = omega (arith, h)

-- no phrase is after the last two offsets
none_after : (bytes rest : List ℕ) → length rest ≤ 1 → phrases_between bytes rest ≡ []
none_after bytes [] h = refl
none_after bytes (only ∷ []) h = refl
none_after bytes (start ∷ end ∷ more) h = absurd (two_or_more (length more) h)

no_more : (bytes offsets : List ℕ) (index : ℕ) → count_between offsets ≤ index
    → length (drop index offsets) ≡ length offsets - index
    → phrases_between bytes (drop index offsets) ≡ []
no_more bytes offsets index all size = none_after bytes (drop index offsets) (omega (arith, all, size))

-- past the last one, those so far are all
pub all_given : (bytes offsets : List ℕ) (given : List (List ℕ)) (index : ℕ) → count_between offsets ≤ index
    → given ++ phrases_between bytes (drop index offsets) ≡ phrases_between bytes offsets
    → given ≡ phrases_between bytes offsets
all_given bytes offsets given index all are =
    sym (append-nil given)
    ∙ ap (λ rest. given ++ rest) (sym (no_more bytes offsets index all (length-drop index offsets)))
    ∙ are

-- one more range
pub one_more_range : (bytes offsets : List ℕ) (index : ℕ)
    → IsRange bytes (slice_index_or offsets index 0) (slice_index_or offsets (index + 1) 0)
    → ((other : ℕ) → other < index
    → IsRange bytes (slice_index_or offsets other 0) (slice_index_or offsets (other + 1) 0))
    → (other : ℕ) → other < index + 1
    → IsRange bytes (slice_index_or offsets other 0) (slice_index_or offsets (other + 1) 0)
one_more_range bytes offsets index is before other h = by_order (cases_order other index)
  where
    by_order : (other ≡ index) ⊎ ((other < index) ⊎ (index < other))
        → IsRange bytes (slice_index_or offsets other 0) (slice_index_or offsets (other + 1) 0)
    by_order (inl same) = rw same is
    by_order (inr (inl less)) = before other less
    by_order (inr (inr more)) = absurd (no_order h more)
      where
        no_order : other < index + 1 → index < other → ⊥
        no_order less more = omega (arith, less, more)

one_more : (count more : ℕ) → count ≡ suc more - 1 → suc count ≡ suc (suc more) - 1
one_more count more is = omega (arith, is)

-- there is a phrase between any two offsets
length_between : (bytes offsets : List ℕ) → length (phrases_between bytes offsets) ≡ count_between offsets
length_between bytes [] = refl
length_between bytes (start ∷ []) = refl
length_between bytes (start ∷ end ∷ more) =
    one_more (length (phrases_between bytes (end ∷ more))) (length more) (length_between bytes (end ∷ more))

-- a phrase that was found to be there is given
pub given_of : {A : Type 0} (None_of : Type 0) (Some_of : A → Type 0) (found : Option A) (it : A)
    → found ≡ Some it → MatchOption found None_of Some_of → Some_of it
given_of None_of Some_of None it is h = absurd (cc is)
given_of None_of Some_of (Some other) it is h = subst Some_of (cc is) h

-- the first phrase of land among those given is the first between the offsets, which are few
pub first_between : (bytes offsets : List ℕ) (items slice : List (Bor (List ℕ))) (index : ℕ) → slice ≡ items
    → map (λ phrase. phrase.now) items ≡ phrases_between bytes offsets
    → IsFirstOfLand (map (λ phrase. phrase.now) slice) index
    → IsFirstOfLand (phrases_between bytes offsets) index
first_between bytes offsets items slice index same are first =
    subst (λ phrases. IsFirstOfLand phrases index) (ap (map (λ phrase. phrase.now)) same ∙ are) first

pub few_before : (bytes offsets : List ℕ) (index : ℕ) → IsFirstOfLand (phrases_between bytes offsets) index
    → index < count_between offsets
few_before bytes offsets index first = subst (λ n. index < n) (length_between bytes offsets) first.within

-- phrases that name no land, and the places of them as data, are put
pub are_put : (text bytes offsets : List ℕ) (items slice others : List (Bor (List ℕ)))
    (found list old new : List TownshipStretch) (answer : TownshipAnswer) → slice ≡ items → others ≡ items
    → AreRanges bytes offsets → map (λ phrase. phrase.now) items ≡ phrases_between bytes offsets
    → AreRemarks (map (λ phrase. phrase.now) slice)
    → AreDataOfSetAside (map (λ phrase. phrase.now) others) text found → list ≡ found
    → AreStretchesPut list old new answer → IsSetAsideCall text bytes offsets old new answer
are_put text bytes offsets items slice others found list old new answer same also ranges are remarks data_are
    listed put =
    set_aside found ranges (subst AreRemarks (ap (map (λ phrase. phrase.now)) same ∙ are) remarks)
    (subst (λ phrases. AreDataOfSetAside phrases text found) (ap (map (λ phrase. phrase.now)) also ∙ are)
    data_are)
    (subst (λ it. AreStretchesPut it old new answer) listed put)
