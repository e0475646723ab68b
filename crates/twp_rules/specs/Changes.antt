-- Changes of a text, each by a rule, and the text that they make.
use Rattle.std.specs.Prelude.{◌≡◌, ◌≤◌, ℕ, true, List, [], ◌∷◌, ◌++◌, length, drop, slice_range}
use Rattle.twp_rules.specs.declared.rule.Rule.{Rule}
use Rattle.twp_rules.specs.declared.change.Change.{Change as Piece}
use Rattle.twp_rules.specs.Rules.{allows}

-- a change of a text: by a rule, this is written instead of the bytes from one place up to another
pub record Change : Type 0 where
  pub start : ℕ
  pub end : ℕ
  pub written : List ℕ
  pub rule : Rule

-- a change as a contract sees it
abbrev pub seen : Piece → Change
seen change =
    record { start = change.start; end = change.end; written = change.written.now; rule = change.rule }

-- its rule allows it
abbrev pub IsAllowed : List ℕ → Change → Type 0
IsAllowed text change =
    allows change.rule text change.start change.end (slice_range text change.start change.end) change.written
    ≡ true

-- CHANGES of a text from a place on: each is allowed by its rule, and they go from left to right and don't
-- overlap
abbrev pub AreChangesFrom : ℕ → List ℕ → List Change → Type 0
AreChangesFrom from text [] = from ≤ length text
AreChangesFrom from text (change ∷ changes) =
    (from ≤ change.start) × (change.start ≤ change.end) × IsAllowed text change
    × AreChangesFrom change.end text changes

-- the text from a place on, with exactly these changes
abbrev pub changed_from : ℕ → List ℕ → List Change → List ℕ
changed_from from text [] = drop from text
changed_from from text (change ∷ changes) =
    slice_range text from change.start ++ change.written ++ changed_from change.end text changes
