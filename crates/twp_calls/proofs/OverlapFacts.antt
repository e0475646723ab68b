-- Overlaps as plain data, one more at a time.
use Rattle.std.proofs.Common.{◌≡◌, ℕ, ◌+◌, ◌<◌, ◌≤◌, List, [], ◌∷◌, ◌++◌, length, map, take, get_or, set}
use Rattle.std.proofs.Common.{sym, ◌∙◌, ap, subst, arith}
use Rattle.std.specs.List.{SameFrom}
use Rattle.std.proofs.lemmas.Grind.{common_steps}
use Rattle.std.proofs.lemmas.List.{get_or-set_other, map-append}
use Rattle.twp_answers.specs.declared.overlaps.TractOverlap.{TractOverlap}
use Rattle.twp_calls.specs.Answers.{ACCEPTED, NO_ROOM, bare, with_text}
use Rattle.twp_calls.specs.OverlapCalls.{AreOverlapsPut, no_room, overlap_of, overlaps_put}
use Rattle.twp_calls.specs.declared.answer.TownshipAnswer.{TownshipAnswer}
use Rattle.twp_calls.specs.declared.overlaps_call.TownshipOverlap.{TownshipOverlap}

-- the first elements, and the one that was set after them
taken_next : (count : ℕ) (overlaps : List TownshipOverlap) (one : TownshipOverlap) → count < length overlaps
    → take (count + 1) (set overlaps count one) ≡ take count overlaps ++ one ∷ []
taken_next count overlaps one within = grind (arith, common_steps)

found_next : (count : ℕ) (found : List (TractOverlap ℕ)) (one : TractOverlap ℕ) → count < length found
    → take (count + 1) found ≡ take count found ++ get_or found count one ∷ []
found_next count found one within = grind (arith, common_steps)

-- one more overlap
pub plain_next : (count : ℕ) (overlaps : List TownshipOverlap) (plain : TownshipOverlap)
    (found : List (TractOverlap ℕ)) (one : TractOverlap ℕ) → count < length overlaps → count < length found
    → overlap_of plain ≡ get_or found count one
    → map overlap_of (take count overlaps) ≡ take count found
    → map overlap_of (take (count + 1) (set overlaps count plain)) ≡ take (count + 1) found
plain_next count overlaps plain found one room within same before =
    ap (map overlap_of) (taken_next count overlaps plain room)
    ∙ map-append overlap_of (take count overlaps) (plain ∷ [])
    ∙ ap (λ l. l ++ overlap_of plain ∷ []) before
    ∙ ap (λ o. take count found ++ o ∷ []) same
    ∙ sym (found_next count found one within)

-- the overlaps after it are kept
pub kept_next : (count : ℕ) (old overlaps : List TownshipOverlap) (one : TownshipOverlap)
    → SameFrom old overlaps count → SameFrom old (set overlaps count one) (count + 1)
kept_next count old overlaps one before k d above =
    rw (get_or-set_other overlaps count k one d (λ same. absurd (omega arith))) (before k d (omega arith))

-- all were put there
pub all_put : (found : List (TractOverlap ℕ)) (old new : List TownshipOverlap) (answer : TownshipAnswer)
    (count : ℕ)
    → count ≡ length found → count ≤ length old → length new ≡ length old
    → map overlap_of (take count new) ≡ take count found → SameFrom old new count
    → answer ≡ with_text (bare ACCEPTED) count → AreOverlapsPut found old new answer
all_put found old new answer count all room long plain kept is =
    let whole : take count found ≡ found = grind (arith, common_steps, all) in
    overlaps_put (subst (λ n. n ≤ length old) all room) long
    (subst (λ n. map overlap_of (take n new) ≡ found) all (plain ∙ whole))
    (subst (SameFrom old new) all kept) (subst (λ n. answer ≡ with_text (bare ACCEPTED) n) all is)

-- there is less room than there are overlaps
pub too_many : (found : List (TractOverlap ℕ)) (old : List TownshipOverlap) (answer : TownshipAnswer)
    (count : ℕ)
    → count ≡ length found → length old < count → answer ≡ with_text (bare NO_ROOM) count
    → AreOverlapsPut found old old answer
too_many found old answer count all short is =
    no_room (subst (λ n. length old < n) all short) (subst (λ n. answer ≡ with_text (bare NO_ROOM) n) all is)
