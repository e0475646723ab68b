-- The mark that the sentence of a note begins with.
use Rattle.std.specs.Prelude.{◌≡◌, ℕ, ◌+◌, List, length, take, drop, codes}
use Rattle.twp_excerpt.specs.declared.spot.Span.{Span}

-- what the sentence of a note begins with
abbrev pub MARK : List ℕ
MARK = codes "note: "

-- the mark is at a place of a text
abbrev pub HasMarkAt : List ℕ → ℕ → Type 0
HasMarkAt text at = take (length MARK) (drop at text) ≡ MARK

-- the sentence of a note, without the mark if it begins with one
pub record IsSentenceOf (text : List ℕ) (whole sentence : Span) : Type 0 where
  pub ends : sentence.end ≡ whole.end
  pub unmarked : ¬ HasMarkAt text whole.start → sentence.start ≡ whole.start
  pub marked : HasMarkAt text whole.start → sentence.start ≡ whole.start + length MARK
