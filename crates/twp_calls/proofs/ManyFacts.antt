-- The answers to many descriptions, one more at a time; over plain values.
use Rattle.std.proofs.Common.{◌≡◌, ℕ, ◌+◌, ◌-◌, ◌<◌, ◌≤◌, List, length, get_or, set, Option, Some, None}
use Rattle.std.proofs.Common.{subst}
use Rattle.std.proofs.Common.{arith, below_more}
use Rattle.std.specs.Prelude.{slice_range}
use Rattle.std.specs.List.{PartBy, SameFrom}
use Rattle.std.proofs.lemmas.List.{get_or-set_same, get_or-set_other}
use Rattle.twp_calls.specs.Answers.{ACCEPTED, NO_ROOM, bare, with_text}
use Rattle.twp_calls.specs.ManyAnswers.{AreManyAnswersTo, DescriptionCall, IsAnswerBetween, IsManyAnswer}
use Rattle.twp_calls.specs.ManyAnswers.{IsRange, ReturnedVerdict, answered, inside, no_room}
use Rattle.twp_calls.specs.declared.answer.TownshipAnswer.{TownshipAnswer}

-- one more description is answered
pub answers_next : (Call : DescriptionCall) (bytes offsets : List ℕ) (count : ℕ)
    (answers : List TownshipAnswer)
    (answer : TownshipAnswer) → count < length answers
    → AreManyAnswersTo Call bytes offsets count answers
    → IsAnswerBetween Call bytes (get_or offsets count 0) (get_or offsets (count + 1) 0) answer
    → AreManyAnswersTo Call bytes offsets (count + 1) (set answers count answer)
answers_next Call bytes offsets count answers answer within before here =
    below_more _ _
    (λ i below.
    rw (get_or-set_other answers count i answer (bare ACCEPTED) (λ same. absurd (omega arith)))
    (before i below))
    (rw (get_or-set_same answers count answer (bare ACCEPTED) within) here)

-- the answers after it are kept
pub kept_next : (count : ℕ) (old answers : List TownshipAnswer) (answer : TownshipAnswer)
    → SameFrom old answers count → SameFrom old (set answers count answer) (count + 1)
kept_next count old answers answer before k d above =
    rw (get_or-set_other answers count k answer d (λ same. absurd (omega arith))) (before k d (omega arith))

-- a part that was found is the range
pub range_of : {R : Type 0} (now : R → List ℕ) (bytes : List ℕ) (start end : ℕ) (found : Option R) (part : R)
    → found ≡ Some part → PartBy now bytes start end found
    → IsRange bytes start end × (now part ≡ slice_range bytes start end)
range_of now bytes start end None part is by = absurd (cc is)
range_of now bytes start end (Some other) part is ((first, last, same, long), some) =
    ((first, last), subst (λ p. now p ≡ slice_range bytes start end) (cc is) same)

-- there is less room than there are descriptions
pub too_many : (Call : DescriptionCall) (Returns : ReturnedVerdict) (bytes offsets : List ℕ)
    (old : List TownshipAnswer) (answer : TownshipAnswer) (count : ℕ) → count ≡ length offsets - 1
    → length old < count → answer ≡ with_text (bare NO_ROOM) count
    → IsManyAnswer Call Returns bytes offsets old old answer
too_many Call Returns bytes offsets old answer count same short is =
    no_room (subst (λ n. length old < n) same short)
    (subst (λ n. answer ≡ with_text (bare NO_ROOM) n) same is)

-- each description is answered
pub all_answered : (Call : DescriptionCall) (Returns : ReturnedVerdict) (bytes offsets : List ℕ)
    (old new : List TownshipAnswer) (returned answer : TownshipAnswer) (count : ℕ)
    → count ≡ length offsets - 1 → count ≤ length old → length new ≡ length old
    → AreManyAnswersTo Call bytes offsets count new → SameFrom old new count → Returns returned
    → answer ≡ with_text returned count → IsManyAnswer Call Returns bytes offsets old new answer
all_answered Call Returns bytes offsets old new returned answer count same room long answers kept returns is =
    answered (record {
      room = subst (λ n. n ≤ length old) same room;
      length_is = long;
      answers = subst (λ n. AreManyAnswersTo Call bytes offsets n new) same answers;
      kept = subst (SameFrom old new) same kept;
      returned = returned;
      returned_is = returns;
      answer_is = subst (λ n. answer ≡ with_text returned n) same is;
    })

-- a description in the range is answered by the call
pub in_range : (Call : DescriptionCall) (bytes description : List ℕ) (start end : ℕ)
    (answer : TownshipAnswer) → IsRange bytes start end × (description ≡ slice_range bytes start end)
    → Call description answer → IsAnswerBetween Call bytes start end answer
in_range Call bytes description start end answer (range, same) is =
    inside range (subst (λ d. Call d answer) same is)
