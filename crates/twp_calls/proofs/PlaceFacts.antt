-- The line and the column of an explained description are those of the place where it is refused.
use Rattle.std.proofs.Common.{◌≡◌, ◌⊎◌, ℕ, suc, ◌+◌, ◌<◌, ◌≤◌, List, Option, Some, None, min, length, take}
use Rattle.std.proofs.Common.{drop}
use Rattle.std.proofs.Common.{sym, subst, ap, inl, inr, arith, length-take-le}
use Rattle.std.specs.Prelude.{MatchOption}
use Rattle.std.specs.List.{AllPass}
use Rattle.std.proofs.Math.Nat.{lt_of_not-le}
use Rattle.std.proofs.lemmas.List.Sums.{count_by-le-length}
use Rattle.twp_excerpt.specs.Spots.{is_feed, is_white, line_of, end_of}
use Rattle.twp_excerpt.specs.declared.spot.Spot.{Spot}
use Rattle.twp_grid.specs.Townships.{Designation}
use Rattle.twp_grid.specs.declared.refusal.Refusal.{Refusal}
use Rattle.twp_read.specs.TextFaults.{TEXT_LIMIT, IsFrom, stage_of, place_of, refusal_of}
use Rattle.twp_read.specs.declared.fault.TextFault.{TextFault}
use Rattle.twp_read.specs.declared.fault.TextFault.TheVariants as fault
use Rattle.twp_answers.specs.Answers.{IsNoDescription}
use Rattle.twp_answers.specs.OnPlats.{StopsOn}
use Rattle.twp_answers.specs.declared.stop.Stop.{Stop}
use Rattle.twp_answers.specs.declared.stop.Stop.TheVariants as stop
use Rattle.twp_answers.proofs.OneAnswer.{one_description_refusal}
use Rattle.twp_sentences.specs.ShownPlaces.{TOO_LARGE}
use Rattle.twp_diagnose.specs.Spots.{MOST_BYTES, IsSpotIn}
use Rattle.twp_diagnose.specs.declared.explanation.Explanation.{Explanation}
use Rattle.twp_diagnose.specs.declared.location.Given.{Given}
use Rattle.twp_explain.specs.ExplainedPlaces.{IsSpotRefused, IsExplainedWhereRefused}
use Rattle.twp_calls.specs.Answers.{refused}
use Rattle.twp_calls.specs.Calls.{put, not_put}
use Rattle.twp_calls.specs.Explanations.{PutsExplanation, IsLineAndColumn, IsWhereRefused}
use Rattle.twp_calls.specs.Explanations.{IsExplainedDescription}
use Rattle.twp_calls.specs.Explanations.{line_at, column_at, too_large, at_its_place, at_the_end}
use Rattle.twp_calls.specs.declared.answer.TownshipAnswer.{TownshipAnswer}
use Rattle.twp_calls.proofs.CallFacts.{refused_on}
use Rattle.twp_grid.specs.Lands.{Lotting}

-- ---- what isn't too large is within the limit

within : (n : ℕ) → ¬ (TEXT_LIMIT < n) → n ≤ TEXT_LIMIT
within n not_above =
    let below : n < suc TEXT_LIMIT = lt_of_not-le not_above in
    omega arith

-- a fault of a later stage is the first only where the text isn't too large
not_first : (n stage place : ℕ) → 0 < stage
    → (TEXT_LIMIT < n → IsFrom stage place fault.TooLarge) → n ≤ TEXT_LIMIT
not_first n stage place later first = within n (λ above. go (first above))
  where
    go : IsFrom stage place fault.TooLarge → ⊥
    go (inl before) = omega arith
    go (inr (same, after)) = omega arith

text_within : (text : List ℕ) (is : TextFault) (r : Refusal) → refusal_of is ≡ Some r
    → (TEXT_LIMIT < length text → IsFrom (stage_of is) (place_of is) fault.TooLarge)
    → (r.number ≡ TOO_LARGE) ⊎ (length text ≤ TEXT_LIMIT)
text_within text fault.TooLarge r same first =
    let is : record { number = 41; at = TEXT_LIMIT } ≡ r = cc same in
    inl (sym (ap (λ (refusal : Refusal). refusal.number) is))
text_within text (fault.BadByte at_) r same first = inr (not_first (length text) 1 _ (omega arith) first)
text_within text (fault.BadNumber at_) r same first = inr (not_first (length text) 1 _ (omega arith) first)
text_within text (fault.Syntax at_ expected) r same first =
    inr (not_first (length text) 2 _ (omega arith) first)
text_within text fault.Memory r same first = cc same

is_within : {lots : Lotting} (township : Designation) (text : List ℕ) (r : Refusal)
    → IsNoDescription lots township text r
    → (r.number ≡ TOO_LARGE) ⊎ (length text ≤ TEXT_LIMIT)
is_within township text r (inl is) =
    text_within text is.fault r is.refusal_is (λ above. is.first.first fault.TooLarge above)
is_within township text r (inr is) = inr is.read.within

-- ---- a place in such a text is on a line whose number is one of a `u32`

few_lines : (text : List ℕ) (place : ℕ) → length text ≤ TEXT_LIMIT → place ≤ length text
    → line_of text place + 1 ≤ 4294967295
few_lines text place few is =
    let feeds = count_by-le-length is_feed (take place text) in
    let taken : length (take place text) ≡ place = length-take-le place text is in
    omega arith

spot_of_text : (file : Given) (text : List ℕ) (at : ℕ) (spot : Spot) → file.bytes.now ≡ text
    → file.first_line ≡ 1 → length text ≤ TEXT_LIMIT → IsSpotIn file at spot
    → IsLineAndColumn text at spot.line spot.column
spot_of_text file text at spot same first few is =
    subst (λ bytes. IsLineAndColumn bytes at spot.line spot.column) same (record {
      line_is =
          numbered spot.line (line_of file.bytes.now place) file.first_line first
          (is.line (rw first (few_lines file.bytes.now place (rw same few) (omega arith))));
      column_is = is.column;
    })
  where
    place : ℕ
    place = min at (length file.bytes.now)

    numbered : (line of_place first : ℕ) → first ≡ 1 → line + 1 ≡ of_place + first → line ≡ of_place
    numbered line of_place first one is = omega arith

-- ---- so the line and the column are those of the place

where_refused : (file : Given) (text : List ℕ) (r : Refusal) (found : Option Spot) → file.bytes.now ≡ text
    → file.first_line ≡ 1 → (r.number ≡ TOO_LARGE) ⊎ (length text ≤ TEXT_LIMIT)
    → MatchOption found ((r.number ≡ TOO_LARGE) ⊎ (MOST_BYTES < length file.bytes.now)) (IsSpotRefused file r)
    → IsWhereRefused text r (line_at found) (column_at found)
where_refused file text r found same first (inl large) explained = too_large large
where_refused file text r None same first (inr few) (inl large) = too_large large
where_refused file text r None same first (inr few) (inr long) =
    absurd (let bytes : length file.bytes.now ≤ TEXT_LIMIT = rw same few in omega arith)
where_refused file text r (Some spot) same first (inr few) (inl there) =
    at_its_place (spot_of_text file text r.at spot same first few there)
where_refused file text r (Some spot) same first (inr few) (inr (white, there)) =
    at_the_end (subst (λ bytes. AllPass is_white (drop r.at bytes)) same white)
    (subst (λ bytes. IsLineAndColumn text (end_of bytes) spot.line spot.column) same
    (spot_of_text file text (end_of file.bytes.now) spot same first few there))

-- the answer has the line and the column of the explanation
of_answer : (r : Refusal) (explanation : Explanation) (text old new : List ℕ) (answer : TownshipAnswer)
    → PutsExplanation (refused r) explanation old new answer
    → IsWhereRefused text r (line_at explanation.spot) (column_at explanation.spot)
    → IsWhereRefused text r answer.line answer.column
of_answer r explanation text old new answer (put room new_is answer_is) is = rw answer_is is
of_answer r explanation text old new answer (not_put room answer_is) is = rw answer_is is

-- a description that is refused, and its explanation
pub refused_where : {lots : Lotting} (township : Designation) (text old new : List ℕ) (file : Given)
    (stopping : Stop)
    (r : Refusal) (explanation : Explanation) (explained answer : TownshipAnswer)
    → stopping ≡ stop.Refused r → StopsOn lots township text stopping
    → file.bytes.now ≡ text → file.first_line ≡ 1
    → IsNoDescription lots township file.bytes.now explanation.refusal
    → IsExplainedWhereRefused file explanation
    → explained ≡ refused r → PutsExplanation explained explanation old new answer
    → IsExplainedDescription lots township text old new answer
refused_where {lots = lots} township text old new file stopping r explanation explained answer stops_is stops
    same first
    such
    place
    explained_is is_told =
    let refused_text = refused_on township text stopping r stops_is stops in
    let such_text : IsNoDescription lots township text explanation.refusal =
    subst (λ bytes. IsNoDescription lots township bytes explanation.refusal) same such in
    let alike : explanation.refusal ≡ r =
    one_description_refusal lots township text explanation.refusal r such_text refused_text in
    let explained_refused : PutsExplanation (refused r) explanation old new answer =
    subst (λ explained. PutsExplanation explained explanation old new answer) explained_is is_told in
    record {
      explained = record {
        refusal = r;
        first = refused_text;
        explained =
            record { explanation = explanation; is_such = such_text; explained_is = explained_refused };
      };
      place =
          of_answer r explanation text old new answer explained_refused
          (where_refused file text r explanation.spot same first (is_within township text r refused_text)
          (subst (λ (refusal : Refusal). MatchOption explanation.spot
          ((refusal.number ≡ TOO_LARGE) ⊎ (MOST_BYTES < length file.bytes.now)) (IsSpotRefused file refusal))
          alike place));
    }
