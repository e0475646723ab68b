-- What is repeated, change by change; over plain values.
use Rattle.std.proofs.Common.{◌≡◌, ◌++◌, ◌||◌, ◌+◌, ◌<◌, ◌≤◌, ℕ, zero, suc, Bool, true, false, List, [], ◌∷◌}
use Rattle.std.proofs.Common.{add-one, arith, drop, length, map, refl, slice_index_or, slice_range}
use Rattle.std.proofs.Common.{sym, ◌∙◌}
use Rattle.std.proofs.Math.Seq.{drop-cons}
use Rattle.std.proofs.lemmas.Bool.{false≢true}
use Rattle.twp_grid.specs.Lands.{Lotting}
use Rattle.twp_rules.specs.declared.change.Change.{Change as Piece}
use Rattle.twp_rules.specs.Changes.{AreChangesFrom, Change, seen}
use Rattle.twp_rules.proofs.ChangeFacts.{begin_within}
use Rattle.twp_suggest.specs.Repeats.{AreRepeated, SaysAgainBy, has_repeated, is_for_repeated}

neither : (x y : Bool) → (x || y) ≡ false → (x ≡ false) × (y ≡ false)
neither true y h = cc h
neither false y h = (refl, h)

-- no change is by the rule for what is repeated
pub none_repeated : (lots : Lotting) (text made : List ℕ) (at : ℕ) (changes : List Change)
    → has_repeated changes ≡ false
    → AreRepeated lots text made at changes
none_repeated lots text made at [] none = tt
none_repeated lots text made at (change ∷ changes) none =
    let both = neither (is_for_repeated change.rule) (has_repeated changes) none in (
      λ by. absurd (false≢true (sym both.0 ∙ by)),
      none_repeated lots text ((made ++ slice_range text at change.start) ++ change.written) change.end
          changes
          both.1,
    )

-- a change says again what it repeats, and so do those after it
pub next_repeated : (lots : Lotting) (text made : List ℕ) (at : ℕ) (changes : List Piece) (index : ℕ)
    (default : Piece)
    → index < length changes
    → SaysAgainBy lots (slice_index_or changes index default).rule
    (made ++ slice_range text at (slice_index_or changes index default).start)
    (slice_range text (slice_index_or changes index default).start
    (slice_index_or changes index default).end)
    → AreRepeated lots text
    ((made ++ slice_range text at (slice_index_or changes index default).start)
    ++ (slice_index_or changes index default).written.now)
    (slice_index_or changes index default).end (map seen (drop (index + 1) changes))
    → AreRepeated lots text made at (map seen (drop index changes))
next_repeated lots text made at changes index default within says rest =
    let e = drop-cons changes index default within in
    let f = add-one index in
    rw e (says, rw f at rest)

-- the changes after one
pub next_changes : (text : List ℕ) (at : ℕ) (changes : List Piece) (index : ℕ) (default : Piece)
    → index < length changes
    → AreChangesFrom at text (map seen (drop index changes))
    → AreChangesFrom (slice_index_or changes index default).end text (map seen (drop (index + 1) changes))
next_changes text at changes index default within all =
    let e = drop-cons changes index default within in
    let f = add-one index in
    rw f (rw e at all).3

-- a change ends within the text
pub end_within : (text : List ℕ) (at : ℕ) (pieces : List Piece) (i : ℕ) (default : Piece)
    → i < length pieces
    → AreChangesFrom at text (map seen (drop i pieces))
    → (slice_index_or pieces i default).end ≤ length text
end_within text at [] i default h all = absurd (omega arith)
end_within text at (piece ∷ pieces) zero default h (first, order, allowed, rest) =
    begin_within piece.end text (map seen pieces) rest
end_within text at (piece ∷ pieces) (suc i) default h all =
    end_within text at pieces i default (omega arith) all
