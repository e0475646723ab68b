-- Where phrases are, place by place.
use Rattle.std.proofs.Common.{◌≡◌, ◌+◌, ◌<◌, ◌≤◌, ℕ, true, List, [], ◌∷◌, ◌++◌, ◌⊎◌, length, refl, sym, ap}
use Rattle.std.proofs.Common.{◌∙◌, arith, map, Bor, inl, inr, subst, append_assoc, Option, None, Some}
use Rattle.std.specs.Prelude.{get_or}
use Rattle.std.specs.Option.{option_map}
use Rattle.std.proofs.lemmas.List.{append-nil, get_or-map}
use Rattle.std.proofs.lemmas.Bool.{cases_order}
use Rattle.twp_rules.specs.Sayings.{is_remark}
use Rattle.twp_phrases.specs.SetAside.{AreFrom, AreSetAside, phrase_at}
use Rattle.twp_phrases.specs.declared.stretches.Stretch.{Stretch}

none_of : (found : Option (List ℕ)) → None ≡ option_map length found → found ≡ None
none_of None is = refl
none_of (Some phrase) is = absurd (cc is)

below : (at : ℕ) → at ≤ at
below at = omega arith

no_place : (at place : ℕ) → at ≤ place → place < at → ⊥
no_place at place from before = omega (arith, from, before)

-- no phrase is at a place, nor from the next one on
none_from : (phrases : List (List ℕ)) (text : List ℕ) (at place : ℕ) → phrase_at phrases text at ≡ None
    → (at + 1 ≤ place → phrase_at phrases text place ≡ None) → at ≤ place
    → phrase_at phrases text place ≡ None
none_from phrases text at place none later from = by_order (cases_order at place)
  where
    by_order : (at ≡ place) ⊎ ((at < place) ⊎ (place < at)) → phrase_at phrases text place ≡ None
    by_order (inl same) = subst (λ n. phrase_at phrases text n ≡ None) same none
    by_order (inr (inl less)) = later (omega (arith, less))
    by_order (inr (inr more)) = absurd (no_place at place from more)

-- no phrase is at a place: those from it on are those from the next place on
pub next_none : (phrases : List (List ℕ)) (text : List ℕ) (at : ℕ) (more : List Stretch)
    → None ≡ option_map length (phrase_at phrases text at) → AreFrom phrases text (at + 1) more
    → AreFrom phrases text at more
next_none phrases text at [] none later = λ place from within.
    none_from phrases text at place (none_of (phrase_at phrases text at) none)
    (λ after. later place after within) from
next_none phrases text at (found ∷ more) none later = (
  record {
    after = omega (arith, later.0.after);
    leftmost = λ place from before.
        none_from phrases text at place (none_of (phrase_at phrases text at) none)
        (λ after. later.0.leftmost place after before) from;
    phrase = later.0.phrase;
    first = later.0.first;
    ends = later.0.ends;
  },
  later.1,
)

-- a phrase of this length is at a place: it is the next from there on
pub next_some : (phrases : List (List ℕ)) (text : List ℕ) (at size : ℕ) (more : List Stretch)
    → Some size ≡ option_map length (phrase_at phrases text at) → AreFrom phrases text (at + size) more
    → AreFrom phrases text at (record { start = at; end = at + size } ∷ more)
next_some phrases text at size more is later = found (phrase_at phrases text at) refl is
  where
    found : (it : Option (List ℕ)) → phrase_at phrases text at ≡ it → Some size ≡ option_map length it
        → AreFrom phrases text at (record { start = at; end = at + size } ∷ more)
    found None first is = absurd (cc is)
    found (Some phrase) first is = (
      record {
        after = below at;
        leftmost = λ place from before. absurd (no_place at place from before);
        phrase = phrase;
        first = first;
        ends = ap (λ n. at + n) (cc is);
      },
      later,
    )

-- one more phrase can be set aside
pub one_more : (phrases : List (Bor (List ℕ))) (index : ℕ) (phrase : Bor (List ℕ)) → index < length phrases
    → is_remark (get_or phrases index phrase).now ≡ true
    → ((other : ℕ) → other < index → is_remark (get_or (map (λ phrase. phrase.now) phrases) other []) ≡ true)
    → (other : ℕ) → other < index + 1
    → is_remark (get_or (map (λ phrase. phrase.now) phrases) other []) ≡ true
one_more phrases index phrase within is before other h = by_order (cases_order other index)
  where
    by_order : (other ≡ index) ⊎ ((other < index) ⊎ (index < other))
        → is_remark (get_or (map (λ phrase. phrase.now) phrases) other []) ≡ true
    by_order (inl same) =
        ap (λ n. is_remark (get_or (map (λ (p : Bor (List ℕ)). p.now) phrases) n [])) same
        ∙ ap is_remark (get_or-map (λ (p : Bor (List ℕ)). p.now) phrases index phrase [] within) ∙ is
    by_order (inr (inl less)) = before other less
    by_order (inr (inr more)) = omega arith

-- phrases, as their bytes
abbrev bytes_of : List (Bor (List ℕ)) → List (List ℕ)
bytes_of phrases = map (λ phrase. phrase.now) phrases

-- the phrases so far, and those from a place on, where there is none, or one
pub all_from_next : (phrases : List (Bor (List ℕ))) (text : List ℕ) (at : ℕ) (found : List Stretch)
    → None ≡ option_map length (phrase_at (bytes_of phrases) text at)
    → ((more : List Stretch) → AreFrom (bytes_of phrases) text at more
    → AreFrom (bytes_of phrases) text 0 (found ++ more))
    → (more : List Stretch) → AreFrom (bytes_of phrases) text (at + 1) more
    → AreFrom (bytes_of phrases) text 0 (found ++ more)
all_from_next phrases text at found none are more later =
    are more (next_none (bytes_of phrases) text at more none later)

pub all_with_next : (phrases : List (Bor (List ℕ))) (text : List ℕ) (at size : ℕ) (found : List Stretch)
    → Some size ≡ option_map length (phrase_at (bytes_of phrases) text at)
    → ((more : List Stretch) → AreFrom (bytes_of phrases) text at more
    → AreFrom (bytes_of phrases) text 0 (found ++ more))
    → (more : List Stretch) → AreFrom (bytes_of phrases) text (at + size) more
    → AreFrom (bytes_of phrases) text 0 ((found ++ record { start = at; end = at + size } ∷ []) ++ more)
all_with_next phrases text at size found is are more later =
    subst (AreFrom (bytes_of phrases) text 0)
    (sym (append_assoc found (record { start = at; end = at + size } ∷ []) more))
    (are (record { start = at; end = at + size } ∷ more)
    (next_some (bytes_of phrases) text at size more is later))

-- past the end, those so far are all
pub all_found : (phrases : List (Bor (List ℕ))) (text : List ℕ) (at : ℕ) (found : List Stretch)
    → length text ≤ at
    → ((more : List Stretch) → AreFrom (bytes_of phrases) text at more
    → AreFrom (bytes_of phrases) text 0 (found ++ more))
    → AreSetAside (bytes_of phrases) text found
all_found phrases text at found ended are =
    subst (AreFrom (bytes_of phrases) text 0) (append-nil found)
    (are [] (λ place from within. absurd (no_rest place from within)))
  where
    no_rest : (place : ℕ) → at ≤ place → place < length text → ⊥
    no_rest place from within = omega (arith, ended, from, within)
