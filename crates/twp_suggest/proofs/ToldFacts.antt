-- What was stated remains stated; over plain values.
use Rattle.std.proofs.Common.{◌<◌, Bool, false, get_or, length, IsTrue, ◌↔◌}
use Rattle.std.proofs.lemmas.Bool.{false≢true}
use Rattle.std.proofs.Common.{◌≡◌, ℕ, ◌++◌, List, [], All, sym, ap, ◌∙◌, append_assoc, append-nil}
use Rattle.twp_rules.specs.declared.change.Change.{Change}
use Rattle.twp_suggest.specs.Assumptions.{words_of}
use Rattle.twp_suggest.specs.declared.assumptions.Assumption.{Assumption}
use Rattle.twp_suggest.specs.declared.assumptions.Assumption.TheVariants.{SameMeridian, SameAcreage, NotLand}
use Rattle.twp_suggest.specs.declared.assumptions.Assumption.TheVariants.{SaidBefore, WrongLetter}
use Rattle.twp_suggest.specs.declared.assumptions.Assumption.TheVariants.{NoMissingComma}
use Rattle.twp_suggest.specs.Told.{AreSaid, Assumes, Grows, Has, IsSaid}

-- nothing was appended
pub same : (text : List ℕ) → Grows text text
same text = record { more = []; new_is = sym (append-nil text) }

-- something was appended
pub grown : (old new more : List ℕ) → new ≡ old ++ more → Grows old new
grown old new more is = record { more = more; new_is = is }

-- and more after it
pub on : (one two three : List ℕ) → Grows one two → Grows two three → Grows one three
on one two three first next = record {
  more = first.more ++ next.more;
  new_is =
      next.new_is ∙ ap (λ l. l ++ next.more) first.new_is ∙ append_assoc one first.more next.more;
}

-- a piece stays in a text to which more is appended
has_later : (old new piece : List ℕ) → Grows old new → Has old piece → Has new piece
has_later old new piece grows has = record {
  before = has.before;
  after = has.after ++ grows.more;
  all_is =
      grows.new_is ∙ ap (λ l. l ++ grows.more) has.all_is
      ∙ append_assoc has.before (piece ++ has.after) grows.more
      ∙ ap (λ l. has.before ++ l) (append_assoc piece has.after grows.more);
}

-- what is appended is in the text
has_appended : (old new piece : List ℕ) → new ≡ old ++ piece → Has new piece
has_appended old new piece is = record {
  before = old;
  after = [];
  all_is = is ∙ ap (λ l. old ++ l) (sym (append-nil piece));
}

all_mapped : {A : Type 0} (P Q : A → Type 0) → ((x : A) → P x → Q x) → (xs : List A) → All P xs → All Q xs
all_mapped P Q follows xs all = λ k d within. follows (get_or xs k d) (all k d within)

-- what is said of changes stays said
pub later : (text old new : List ℕ) (assumption : Assumption) (changes : List Change) → Grows old new
    → All (IsSaid text old assumption) changes → All (IsSaid text new assumption) changes
later text old new made changes grows =
    all_mapped (IsSaid text old made) (IsSaid text new made)
    (λ change said assumes. has_later old new (words_of made) grows (said assumes)) changes

-- no change makes an assumption, so nothing needs to be said
pub none_made : (text said : List ℕ) (assumption : Assumption) (changes : List Change)
    → All (λ change. Assumes text assumption change → ⊥) changes → All (IsSaid text said assumption) changes
none_made text said made changes =
    all_mapped (λ change. Assumes text made change → ⊥) (IsSaid text said made)
    (λ change none assumes. absurd (none assumes)) changes

-- an assumption is said at the end
pub said_at_end : (text old new : List ℕ) (made : Assumption) (changes : List Change)
    → new ≡ old ++ words_of made → All (IsSaid text new made) changes
said_at_end text old new made changes is = λ k d within assumes. has_appended old new (words_of made) is

-- each assumption is one of six
pub all_six : (text said : List ℕ) (changes : List Change) → All (IsSaid text said SameMeridian) changes
    → All (IsSaid text said SameAcreage) changes → All (IsSaid text said NotLand) changes
    → All (IsSaid text said SaidBefore) changes → All (IsSaid text said WrongLetter) changes
    → All (IsSaid text said NoMissingComma) changes → AreSaid text changes said
all_six text said changes a b c d e f = λ k default within. each k default within
  where
    each : (k : ℕ) (default : Change) → k < length changes → (made : Assumption)
        → IsSaid text said made (get_or changes k default)
    each k default within SameMeridian = a k default within
    each k default within SameAcreage = b k default within
    each k default within NotLand = c k default within
    each k default within SaidBefore = d k default within
    each k default within WrongLetter = e k default within
    each k default within NoMissingComma = f k default within

-- each of the six is said in its turn
pub all_told : (text : List ℕ) (changes : List Change) (one two three four five six : List ℕ)
    → All (IsSaid text one SameMeridian) changes
    → All (IsSaid text two SameAcreage) changes → Grows one two
    → All (IsSaid text three NotLand) changes → Grows two three
    → All (IsSaid text four SaidBefore) changes → Grows three four
    → All (IsSaid text five WrongLetter) changes → Grows four five
    → All (IsSaid text six NoMissingComma) changes → Grows five six → AreSaid text changes six
all_told text changes one two three four five six a b to_two c to_three d to_four e to_five f to_six =
    let five_on = to_six in
    let four_on = on four five six to_five five_on in
    let three_on = on three four six to_four four_on in
    let two_on = on two three six to_three three_on in
    let one_on = on one two six to_two two_on in
    all_six text six changes (later text one six SameMeridian changes one_on a)
    (later text two six SameAcreage changes two_on b) (later text three six NotLand changes three_on c)
    (later text four six SaidBefore changes four_on d) (later text five six WrongLetter changes five_on e) f

-- a test that fails says that something isn't so
pub not_so : (answer : Bool) (P : Type 0) → (IsTrue answer ↔ P) → answer ≡ false → P → ⊥
not_so answer P tells untrue so = false≢true (sym untrue ∙ tells.1 so)
