-- The answers to tracts as plain data, one more at a time.
use Rattle.std.proofs.Common.{◌≡◌, ℕ, ◌+◌, ◌<◌, ◌≤◌, List, [], ◌∷◌, length, get_or, set}
use Rattle.std.proofs.Common.{sym, ◌∙◌, ap, subst, refl, inl, inr, arith}
use Rattle.std.specs.List.{SameFrom}
use Rattle.twp_answers.proofs.TractLands.{earlier_or_last}
use Rattle.std.proofs.lemmas.List.{get_or-set_same, get_or-set_other, get_or_read}
use Rattle.twp_notes.specs.Records.{Fields}
use Rattle.twp_answers.specs.EachTract.{AreAnswersTo, DescriptionAnswers, IsAnswerAt, IsListFault}
use Rattle.twp_answers.specs.EachTract.{IsListOfRecords}
use Rattle.twp_answers.specs.TractFaults.{verdict_of}
use Rattle.twp_answers.specs.Tracts.{TRACTS_LIMIT, TRACTS_MOST, tract_records}
use Rattle.twp_answers.specs.declared.stop.Verdict.TheVariants.{Refused}
use Rattle.twp_grid.specs.declared.refusal.Refusal.{Refusal}
use Rattle.std.specs.Prelude.{Some}
use Rattle.twp_answers.specs.declared.each_tract.TractAnswer.{TractAnswer}
use Rattle.twp_answers.specs.declared.tract_fault.TractFault.{TractFault}
use Rattle.twp_answers.specs.declared.tract_fault.TractFault.TheVariants as fault
use Rattle.twp_calls.specs.Accounts.{tract_count}
use Rattle.twp_calls.specs.Answers.{ACCEPTED, NO_ROOM, answer_of_fault, answer_of_verdict, bare, with_text}
use Rattle.twp_calls.specs.Calls.{Answers, no_memory, refused_for}
use Rattle.twp_calls.specs.EachCalls.{HasAnswers, IsAnsweredAt, IsWholeListRefused}
use Rattle.twp_calls.specs.steps.Plain.{AreAnswersPut, ArePlainTo, IsPlainAnswer, answers_put, no_answer_room}
use Rattle.twp_calls.specs.declared.answer.TownshipAnswer.{TownshipAnswer}
use Rattle.twp_calls.specs.declared.each_call.TownshipTractAnswer.{TownshipTractAnswer}

-- one more value as plain data
pub plain_next : {Value Data : Type 0} (IsPlain : Value → Data → Type 0) (count : ℕ) (values : List Value)
    (one : Value) (all : List Data) (plain : Data) → count < length all → count < length values
    → one ≡ get_or values count one → IsPlain one plain
    → ((index : ℕ) (default : Value) (other : Data) → index < count
    → IsPlain (get_or values index default) (get_or all index other))
    → (index : ℕ) (default : Value) (other : Data) → index < count + 1
    → IsPlain (get_or values index default) (get_or (set all count plain) index other)
plain_next IsPlain count values one all plain room within is here before index default other below =
    elim (earlier_or_last count index below) [
      | inl earlier ↦
          rw (get_or-set_other all count index plain other (λ same. absurd (omega arith)))
          (before index default other earlier)
      | inr next ↦
          rw (
            next,
            get_or-set_same all count plain other room,
            sym (get_or_read values count one within is default),
          ) here
    ]

-- what comes after it is kept
pub kept_next : {Data : Type 0} (count : ℕ) (old all : List Data) (one : Data)
    → SameFrom old all count → SameFrom old (set all count one) (count + 1)
kept_next count old all one before k d above =
    rw (get_or-set_other all count k one d (λ same. absurd (omega arith))) (before k d (omega arith))

-- what is answered to a tract is answered as plain data
answered : (Has : DescriptionAnswers) (rows : List Fields) (index : ℕ) (given : TractAnswer)
    (plain : TownshipTractAnswer) → IsAnswerAt Has rows index given → IsPlainAnswer given plain
    → IsAnsweredAt Has rows index plain
answered Has rows index given plain is same = record {
  own = given.answer;
  own_is = is.answer_is;
  answer_is = same.answer_is;
  name_is = λ tract. same.name_is ∙ is.name_is tract;
  no_name = λ none. same.length_is ∙ ap length (is.no_name none);
  ended = same.ended;
}

each_answered : (Has : DescriptionAnswers) (rows : List Fields) (given : List TractAnswer)
    (answers : List TownshipTractAnswer) (count : ℕ) → AreAnswersTo Has rows count given
    → ArePlainTo count given answers
    → (index : ℕ) (default : TownshipTractAnswer) → index < count
    → IsAnsweredAt Has rows index (get_or answers index default)
each_answered Has rows [] answers count are plain index default below =
    absurd (omega (arith, are.count_is))
each_answered Has rows (one ∷ more) answers count are plain index default below =
    answered Has rows index _ _ (are.each index one below) (plain index one default below)

-- the answers to a list's tracts were put there, or there is less room than it has tracts
pub has_answers : (Has : DescriptionAnswers) (list : List ℕ) (given : List TractAnswer)
    (old new : List TownshipTractAnswer) (answer : TownshipAnswer) → IsListOfRecords list
    → AreAnswersTo Has (tract_records list) (tract_count list) given → AreAnswersPut given old new answer
    → HasAnswers Has list old new answer
has_answers Has list given old new answer list_is are (answers_put room long plain kept is) =
    record {
      list_is = list_is;
      put = inl (record {
        room = subst (λ n. n ≤ length old) are.count_is room;
        length_is = long;
        each =
            each_answered Has (tract_records list) given new (tract_count list) are
            (subst (λ n. ArePlainTo n given new) are.count_is plain);
        kept = subst (SameFrom old new) are.count_is kept;
        answer_is = subst (λ n. answer ≡ with_text (bare ACCEPTED) n) are.count_is is;
      });
    }
has_answers Has list given old new answer list_is are (no_answer_room short is) =
    record {
      list_is = list_is;
      put = inr (record {
        short = subst (λ n. length old < n) are.count_is short;
        answer_is = subst (λ n. answer ≡ with_text (bare NO_ROOM) n) are.count_is is;
      });
    }

-- a list that is refused as a whole
refused_whole : (list : List ℕ) (is : TractFault) (refusal : Refusal) → IsListFault list is
    → verdict_of is ≡ Some (Refused refusal) → IsWholeListRefused list (answer_of_fault is)
refused_whole list is refusal has same = record {
  fault = is;
  is = has;
  verdict = Refused refusal;
  verdict_is = same;
  answer_is = ap answer_of_verdict same;
}

-- a list that is refused as a whole, or for which memory ran out
pub stopped_whole : (Accepted : TownshipAnswer → Type 0) (list : List ℕ) (is : TractFault)
    → IsListFault list is → Answers Accepted (IsWholeListRefused list) (answer_of_fault is)
stopped_whole Accepted list fault.TractsTooLarge has =
    refused_for (refused_whole list fault.TractsTooLarge (record { number = 80; at = TRACTS_LIMIT }) has refl)
stopped_whole Accepted list (fault.TractRow number) has =
    refused_for (refused_whole list (fault.TractRow number) (record { number = 81; at = number }) has refl)
stopped_whole Accepted list (fault.NameRepeated number) has = absurd has
stopped_whole Accepted list (fault.TractRefused number inner) has = absurd has
stopped_whole Accepted list (fault.TractsOverlap number) has = absurd has
stopped_whole Accepted list fault.TooManyTracts has =
    refused_for
    (refused_whole list fault.TooManyTracts (record { number = 85; at = TRACTS_MOST + 2 }) has refl)
stopped_whole Accepted list fault.Memory has = no_memory refl
