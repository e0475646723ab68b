-- The answers about many descriptions, one more at a time.
use Rattle.std.proofs.Common.{◌≡◌, ℕ, ◌+◌, ◌-◌, ◌<◌, ◌≤◌, List, length, get_or, set, Option, Some, None}
use Rattle.std.proofs.Common.{◌∙◌, subst}
use Rattle.std.proofs.Common.{arith, below_more}
use Rattle.std.specs.Prelude.{slice_range}
use Rattle.std.specs.List.{PartBy, SameFrom}
use Rattle.std.proofs.lemmas.List.{get_or-set_same, get_or-set_other, get_or_default}
use Rattle.twp_calls.specs.Answers.{NO_ROOM, bare, with_text}
use Rattle.twp_calls.specs.ManyAnswers.{IsRange}
use Rattle.twp_calls.specs.declared.answer.TownshipAnswer.{TownshipAnswer}
use Rattle.twp_calls.specs.FullAnswers.{AreBetween, AreFullAnswersTo, AreOfDescription, DescriptionCalls}
use Rattle.twp_calls.specs.FullAnswers.{IsFullAnswer, answered, inside, no_room}
use Rattle.twp_calls.specs.declared.full_answer.TownshipFullAnswer.{TownshipFullAnswer}

-- one more description is answered
pub answers_next : (calls : DescriptionCalls) (bytes offsets : List ℕ) (count : ℕ)
    (old answers : List TownshipFullAnswer)
    (blank after : TownshipFullAnswer) → count < length answers → SameFrom old answers count
    → AreFullAnswersTo calls bytes offsets count old answers
    → AreBetween calls bytes (get_or offsets count 0) (get_or offsets (count + 1) 0)
    (get_or answers count blank) after
    → AreFullAnswersTo calls bytes offsets (count + 1) old (set answers count after)
answers_next calls bytes offsets count old answers blank after within kept done here =
    below_more _ _
    (λ i below default.
    rw (get_or-set_other answers count i after default (λ same. absurd (omega arith)))
    (done i below default))
    (λ default.
    rw (get_or-set_same answers count after default within)
    (subst
    (λ one. AreBetween calls bytes (get_or offsets count 0) (get_or offsets (count + 1) 0) one after)
    (get_or_default answers count blank default within ∙ kept count default (omega arith)) here))

-- the answers after it are kept
pub kept_next : (count : ℕ) (old answers : List TownshipFullAnswer) (answer : TownshipFullAnswer)
    → SameFrom old answers count → SameFrom old (set answers count answer) (count + 1)
kept_next count old answers answer before k d above =
    rw (get_or-set_other answers count k answer d (λ same. absurd (omega arith))) (before k d (omega arith))

-- a part that was found is the range
pub range_of : {R : Type 0} (now : R → List ℕ) (bytes : List ℕ) (start end : ℕ) (found : Option R) (part : R)
    → found ≡ Some part → PartBy now bytes start end found
    → IsRange bytes start end × (now part ≡ slice_range bytes start end)
range_of now bytes start end None part is by = absurd (cc is)
range_of now bytes start end (Some other) part is ((first, last, same, long), some) =
    ((first, last), subst (λ p. now p ≡ slice_range bytes start end) (cc is) same)

-- the answers about the description in the range
pub in_range : (calls : DescriptionCalls) (bytes description : List ℕ) (start end : ℕ)
    (old new : TownshipFullAnswer) → IsRange bytes start end × (description ≡ slice_range bytes start end)
    → AreOfDescription calls description old new → AreBetween calls bytes start end old new
in_range calls bytes description start end old new (range, same) are =
    inside range (subst (λ d. AreOfDescription calls d old new) same are)

-- there is less room than there are descriptions
pub too_many : (calls : DescriptionCalls) (bytes offsets : List ℕ) (old : List TownshipFullAnswer)
    (answer : TownshipAnswer) (count : ℕ) → count ≡ length offsets - 1 → length old < count
    → answer ≡ with_text (bare NO_ROOM) count → IsFullAnswer calls bytes offsets old old answer
too_many calls bytes offsets old answer count same short is =
    no_room (subst (λ n. length old < n) same short)
    (subst (λ n. answer ≡ with_text (bare NO_ROOM) n) same is)

-- each description is answered
pub all_answered : (calls : DescriptionCalls) (bytes offsets : List ℕ) (old new : List TownshipFullAnswer)
    (returned answer : TownshipAnswer) (count : ℕ) → count ≡ length offsets - 1 → count ≤ length old
    → length new ≡ length old → AreFullAnswersTo calls bytes offsets count old new
    → SameFrom old new count → calls.returns returned
    → answer ≡ with_text returned count → IsFullAnswer calls bytes offsets old new answer
all_answered calls bytes offsets old new returned answer count same room long answers kept returns is =
    answered (record {
      room = subst (λ n. n ≤ length old) same room;
      length_is = long;
      answers = subst (λ n. AreFullAnswersTo calls bytes offsets n old new) same answers;
      kept = subst (SameFrom old new) same kept;
      returned = returned;
      returned_is = returns;
      answer_is = subst (λ n. answer ≡ with_text returned n) same is;
    })
