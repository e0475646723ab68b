-- The figures of an account as plain data, one tract more at a time.
use Rattle.std.proofs.Common.{◌≡◌, ℕ, ◌+◌, ◌<◌, ◌≤◌, List, [], ◌∷◌, ◌++◌, length, take, get_or, set, drop}
use Rattle.std.proofs.Common.{replicate, ◌-◌}
use Rattle.std.proofs.Common.{refl, sym, ap, ◌∙◌, subst, inl, inr, arith}
use Rattle.std.specs.List.{All, SameFrom, flat_map}
use Rattle.std.proofs.lemmas.Grind.{common_steps, flat_map-append}
use Rattle.std.proofs.lemmas.List.{get_or-set_other, length_push, get_or-replicate, get_or_past}
use Rattle.std.proofs.lemmas.List.{get_or-set_same, get_or_read}
use Rattle.std.proofs.lemmas.List.{get_or-append_right, get_or-drop}
use Rattle.std.proofs.lemmas.Bool.{cases_lt}
use Rattle.twp_calls.specs.TractNames.{NAME_ROOM}
use Rattle.std.proofs.Math.ListN.{get_or-append}
use Rattle.std.proofs.Math.Seq.{get_or-append_seam}
use Rattle.twp_plat.specs.Plats.{SurveyPlat}
use Rattle.twp_answers.specs.AccountFigures.{line_of as figure_line}
use Rattle.twp_answers.proofs.TractLands.{earlier_or_last}
use Rattle.twp_answers.specs.ReportAnswers.{IsAccountOf, total_lines}
use Rattle.twp_answers.specs.declared.account_figures.TractFigure.{TractFigure}
use Rattle.twp_calls.specs.Accounts.{AnswersAccount, HasEndedName, account_text, line_of, tract_count}
use Rattle.twp_calls.specs.Answers.{ACCEPTED, NO_ROOM, bare, with_text}
use Rattle.twp_calls.specs.declared.account_call.TownshipTotals.{TownshipTotals}
use Rattle.twp_calls.specs.declared.account_call.TownshipTract.{TownshipTract}
use Rattle.twp_calls.specs.declared.answer.TownshipAnswer.{TownshipAnswer}
use Rattle.twp_calls.specs.steps.Plain.{ArePlainTractsTo, IsPlainTract}

-- only zeros are in zeros, and beyond them
abbrev zeros : ℕ → List ℕ
zeros count = replicate count 0

zero_in : (count place : ℕ) → get_or (zeros count) place 0 ≡ 0
zero_in count place = elim (cases_lt place count) [
  | inl inside ↦ get_or-replicate count place 0 0 inside
  | inr over ↦ get_or_past (zeros count) place 0 (grind (arith, common_steps, over))
]

-- a name at the front of zeros is followed by zeros
pub after_name : (name room : List ℕ) → room ≡ name ++ drop (length name) (zeros NAME_ROOM)
    → (place : ℕ) → length name ≤ place → get_or room place 0 ≡ 0
after_name name room is place after =
    ap (λ r. get_or r place 0) is
    ∙ get_or-append_right name (drop (length name) (zeros NAME_ROOM)) (length name) place 0 refl after
    ∙ get_or-drop (length name) (zeros NAME_ROOM) (place - length name) 0
    ∙ zero_in NAME_ROOM (length name + (place - length name))

-- the first elements, and the one that was set after them
taken_next : (count : ℕ) (tracts : List TownshipTract) (tract : TownshipTract) → count < length tracts
    → take (count + 1) (set tracts count tract) ≡ take count tracts ++ tract ∷ []
taken_next count tracts tract within = grind (arith, common_steps)

figures_next : (count : ℕ) (figures : List TractFigure) (figure : TractFigure) → count < length figures
    → take (count + 1) figures ≡ take count figures ++ get_or figures count figure ∷ []
figures_next count figures figure within = grind (arith, common_steps)

-- one more line
pub lines_next : (count : ℕ) (tracts : List TownshipTract) (tract : TownshipTract)
    (figures : List TractFigure)
    (figure : TractFigure) → count < length tracts → count < length figures
    → figure ≡ get_or figures count figure → line_of tract ≡ figure_line figure
    → flat_map line_of (take count tracts) ≡ flat_map figure_line (take count figures)
    → flat_map line_of (take (count + 1) (set tracts count tract))
    ≡ flat_map figure_line (take (count + 1) figures)
lines_next count tracts tract figures figure room within is same before =
    ap (flat_map line_of) (taken_next count tracts tract room)
    ∙ flat_map-append line_of (take count tracts) (tract ∷ [])
    ∙ ap (λ t. t ++ flat_map line_of (tract ∷ [])) before
    ∙ ap (λ t. flat_map figure_line (take count figures) ++ (t ++ []))
    (same ∙ ap figure_line is)
    ∙ sym (flat_map-append figure_line (take count figures) (get_or figures count figure ∷ []))
    ∙ ap (flat_map figure_line) (sym (figures_next count figures figure within))

-- one more name that is ended
all_push : (tracts : List TownshipTract) (tract : TownshipTract) → All HasEndedName tracts
    → HasEndedName tract
    → All HasEndedName (tracts ++ tract ∷ [])
all_push tracts tract before ended = λ k d below.
    elim (earlier_or_last (length tracts) k (rw (← length_push tracts tract) below)) [
      | inl earlier ↦ rw (get_or-append tracts (tract ∷ []) d k earlier) (before k d earlier)
      | inr last ↦ rw (last, get_or-append_seam tracts tract [] d) ended
    ]

pub ended_next : (count : ℕ) (tracts : List TownshipTract) (tract : TownshipTract) → count < length tracts
    → All HasEndedName (take count tracts) → HasEndedName tract
    → All HasEndedName (take (count + 1) (set tracts count tract))
ended_next count tracts tract room before ended =
    subst (All HasEndedName) (sym (taken_next count tracts tract room))
    (all_push (take count tracts) tract before ended)

-- one more tract as plain data
pub plain_next : (count : ℕ) (figures : List TractFigure) (figure : TractFigure)
    (tracts : List TownshipTract) (tract : TownshipTract) → count < length tracts → count < length figures
    → figure ≡ get_or figures count figure → IsPlainTract figure tract → ArePlainTractsTo count figures tracts
    → ArePlainTractsTo (count + 1) figures (set tracts count tract)
plain_next count figures figure tracts tract room within is here before index default other below =
    elim (earlier_or_last count index below) [
      | inl earlier ↦
          rw (get_or-set_other tracts count index tract other (λ same. absurd (omega arith)))
          (before index default other earlier)
      | inr next ↦
          rw (
            next,
            get_or-set_same tracts count tract other room,
            sym (get_or_read figures count figure within is default),
          ) here
    ]

-- the tracts after it are kept
pub kept_next : (count : ℕ) (old tracts : List TownshipTract) (tract : TownshipTract)
    → SameFrom old tracts count → SameFrom old (set tracts count tract) (count + 1)
kept_next count old tracts tract before k d above =
    rw (get_or-set_other tracts count k tract d (λ same. absurd (omega arith))) (before k d (omega arith))

-- all were put there
pub all_put : (plat : SurveyPlat) (list : List ℕ) (figures : List TractFigure) (made : TownshipTotals)
    (old new : List TownshipTract) (totals : TownshipTotals) (answer : TownshipAnswer) (count : ℕ)
    → count ≡ length figures → count ≤ length old → length new ≡ length old
    → flat_map line_of (take count new) ≡ flat_map figure_line (take count figures)
    → All HasEndedName (take count new) → SameFrom old new count → totals ≡ made
    → answer ≡ with_text (bare ACCEPTED) count
    → IsAccountOf plat list (flat_map figure_line figures ++ total_lines made.total made.remaining)
    → length figures ≡ tract_count list
    → AnswersAccount plat list old new totals answer
all_put plat list figures made old new totals answer count all room long lines ended kept same is account
    counted =
    let number : count ≡ tract_count list = all ∙ counted in
    let whole : take count figures ≡ figures = grind (arith, common_steps, all) in
    let text : flat_map figure_line figures ++ total_lines made.total made.remaining
    ≡ account_text (take count new) totals =
    ap (λ t. t ++ total_lines made.total made.remaining) (sym (lines ∙ ap (flat_map figure_line) whole))
    ∙ ap (account_text (take count new)) (sym same) in
    inl (record {
      room = subst (λ n. n ≤ length old) number room;
      length_is = long;
      account =
          subst (λ n. IsAccountOf plat list (account_text (take n new) totals)) number
          (subst (IsAccountOf plat list) text account);
      ended = subst (λ n. All HasEndedName (take n new)) number ended;
      kept = subst (SameFrom old new) number kept;
      answer_is = subst (λ n. answer ≡ with_text (bare ACCEPTED) n) number is;
    })

-- there is less room than there are tracts
pub too_many : (plat : SurveyPlat) (list : List ℕ) (figures : List TractFigure) (made : TownshipTotals)
    (old : List TownshipTract) (totals : TownshipTotals) (answer : TownshipAnswer) (count : ℕ)
    → count ≡ length figures → length old < count → answer ≡ with_text (bare NO_ROOM) count
    → IsAccountOf plat list (flat_map figure_line figures ++ total_lines made.total made.remaining)
    → length figures ≡ tract_count list
    → AnswersAccount plat list old old totals answer
too_many plat list figures made old totals answer count all short is account counted =
    let number : count ≡ tract_count list = all ∙ counted in
    inr (record {
      list_is = account.list;
      short = subst (λ n. length old < n) number short;
      answer_is = subst (λ n. answer ≡ with_text (bare NO_ROOM) n) number is;
    })
