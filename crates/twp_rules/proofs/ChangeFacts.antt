-- Changes one after another, over plain values.
use Rattle.std.proofs.Common.{◌≡◌, ◌&&◌, ◌+◌, ◌≤◌, ◌<◌, ℕ, zero, suc, true, false, List, [], ◌∷◌, length}
use Rattle.std.proofs.Common.{drop, map}
use Rattle.std.proofs.Common.{add-one, arith, not, refl, slice_index_or, slice_range}
use Rattle.std.proofs.Math.Seq.{drop-cons}
use Rattle.twp_rules.proofs.SameTexts.{both}
use Rattle.twp_rules.specs.declared.role.NumberRole.{NumberRole}
use Rattle.twp_rules.specs.declared.seam.Seam.{Seam}
use Rattle.twp_rules.specs.declared.named.Named.{Named}
use Rattle.twp_rules.specs.Moves.{is_written_by, keep_moved, named_after}
use Rattle.twp_rules.specs.Apart.{is_apart_at, keep_apart, parts_run}
use Rattle.twp_rules.specs.Keeping.{copied_by, fits_by, keep_numbers, role_after}
use Rattle.twp_rules.specs.Apart.{seam_after, seam_with}
use Rattle.twp_rules.specs.declared.change.Change.{Change as Piece}
use Rattle.twp_rules.specs.Changes.{Change, seen, AreChangesFrom}

-- changes are in the text from a place on
pub begin_within : (from : ℕ) (text : List ℕ) (changes : List Change)
    → AreChangesFrom from text changes → from ≤ length text
begin_within from text [] within = within
begin_within from text (change ∷ changes) (first, order, allowed, rest) =
    let after : change.end ≤ length text = begin_within change.end text changes rest in
    omega arith

-- each begins in the text
pub start_within : (text : List ℕ) (at : ℕ) (pieces : List Piece) (i : ℕ) (default : Piece)
    → i < length pieces
    → AreChangesFrom at text (map seen (drop i pieces))
    → (slice_index_or pieces i default).start ≤ length text
start_within text at [] i default h all = absurd (omega arith)
start_within text at (piece ∷ pieces) zero default h (first, order, allowed, rest) =
    let after : piece.end ≤ length text = begin_within piece.end text (map seen pieces) rest in
    omega arith
start_within text at (piece ∷ pieces) (suc i) default h all =
    start_within text at pieces i default (omega arith) all

-- and ends in it
pub end_within : (text : List ℕ) (at : ℕ) (pieces : List Piece) (i : ℕ) (default : Piece)
    → i < length pieces
    → AreChangesFrom at text (map seen (drop i pieces))
    → (slice_index_or pieces i default).end ≤ length text
end_within text at [] i default h all = absurd (omega arith)
end_within text at (piece ∷ pieces) zero default h (first, order, allowed, rest) =
    begin_within piece.end text (map seen pieces) rest
end_within text at (piece ∷ pieces) (suc i) default h all =
    end_within text at pieces i default (omega arith) all

-- the end of each is not before its beginning
pub order_of : (text : List ℕ) (at : ℕ) (pieces : List Piece) (i : ℕ) (default : Piece)
    → i < length pieces
    → AreChangesFrom at text (map seen pieces)
    → (slice_index_or pieces i default).start ≤ (slice_index_or pieces i default).end
order_of text at [] i default h all = absurd (omega arith)
order_of text at (piece ∷ pieces) zero default h (first, order, allowed, rest) = order
order_of text at (piece ∷ pieces) (suc i) default h (first, order, allowed, rest) =
    order_of text piece.end pieces i default (omega arith) rest

-- and is in the text
pub end_of : (text : List ℕ) (at : ℕ) (pieces : List Piece) (i : ℕ) (default : Piece)
    → i < length pieces
    → AreChangesFrom at text (map seen pieces)
    → (slice_index_or pieces i default).end ≤ length text
end_of text at [] i default h all = absurd (omega arith)
end_of text at (piece ∷ pieces) zero default h (first, order, allowed, rest) =
    begin_within piece.end text (map seen pieces) rest
end_of text at (piece ∷ pieces) (suc i) default h (first, order, allowed, rest) =
    end_of text piece.end pieces i default (omega arith) rest

-- a change fits, and the rest decides of numbers
pub next_numbers : (text : List ℕ) (role : NumberRole) (place copied : ℕ) (changes : List Piece) (index : ℕ)
    (default : Piece)
    → index < length changes
    → fits_by text role place copied (seen (slice_index_or changes index default))
    (map seen (drop (index + 1) changes)) (slice_index_or changes index default).rule ≡ true
    → keep_numbers text role place copied (map seen (drop index changes))
    ≡ keep_numbers text (role_after role (seen (slice_index_or changes index default)))
    (slice_index_or changes index default).end
    (copied_by copied (slice_index_or changes index default).rule) (map seen (drop (index + 1) changes))
next_numbers text role place copied changes index default within fits =
    let e = drop-cons changes index default within in
    let f = add-one index in
    rw (f, e, rw f at fits) refl

-- parts are apart, and the rest decides of them
pub next_apart : (text : List ℕ) (at : ℕ) (seam : Seam) (changes : List Piece) (index : ℕ) (default : Piece)
    → index < length changes
    → (is_apart_at seam (slice_range text at (slice_index_or changes index default).start)
    && is_apart_at (seam_after seam (slice_range text at (slice_index_or changes index default).start))
    (slice_index_or changes index default).written.now
    && not
    (parts_run text (seam_after seam (slice_range text at (slice_index_or changes index default).start))
    (seen (slice_index_or changes index default)))) ≡ true
    → keep_apart text at seam (map seen (drop index changes))
    ≡ keep_apart text (slice_index_or changes index default).end
    (seam_with text (seam_after seam (slice_range text at (slice_index_or changes index default).start))
    (seen (slice_index_or changes index default))) (map seen (drop (index + 1) changes))
next_apart text at seam changes index default within apart =
    let e = drop-cons changes index default within in
    let f = add-one index in
    let of_run = both (is_apart_at seam (slice_range text at (slice_index_or changes index default).start)
    && is_apart_at (seam_after seam (slice_range text at (slice_index_or changes index default).start))
    (slice_index_or changes index default).written.now)
    (not (parts_run text (seam_after seam (slice_range text at (slice_index_or changes index default).start))
    (seen (slice_index_or changes index default)))) apart in
    let both_of = both (is_apart_at seam (slice_range text at (slice_index_or changes index default).start))
    (is_apart_at (seam_after seam (slice_range text at (slice_index_or changes index default).start))
    (slice_index_or changes index default).written.now) of_run.0 in
    rw (f, e, both_of.0, both_of.1, of_run.1) refl

-- what is moved is written, and the rest decides of it
pub next_moved : (text : List ℕ) (all : List Change) (at : ℕ) (it : Named) (changes : List Piece) (index : ℕ)
    (default : Piece)
    → index < length changes
    → is_written_by text all
    (named_after it (slice_range text at (slice_index_or changes index default).start))
    (slice_index_or changes index default).start
    (slice_range text (slice_index_or changes index default).start (slice_index_or changes index default).end)
    (slice_index_or changes index default).rule ≡ true
    → keep_moved text all at it (map seen (drop index changes))
    ≡ keep_moved text all (slice_index_or changes index default).end
    (named_after (named_after it (slice_range text at (slice_index_or changes index default).start))
    (slice_index_or changes index default).written.now) (map seen (drop (index + 1) changes))
next_moved text all at it changes index default within written =
    let e = drop-cons changes index default within in
    let f = add-one index in
    rw (f, e, written) refl

-- or it isn't
pub not_written : (text : List ℕ) (all : List Change) (at : ℕ) (it : Named) (changes : List Piece) (index : ℕ)
    (default : Piece)
    → index < length changes
    → is_written_by text all
    (named_after it (slice_range text at (slice_index_or changes index default).start))
    (slice_index_or changes index default).start
    (slice_range text (slice_index_or changes index default).start (slice_index_or changes index default).end)
    (slice_index_or changes index default).rule ≡ false
    → keep_moved text all at it (map seen (drop index changes)) ≡ false
not_written text all at it changes index default within other =
    let e = drop-cons changes index default within in
    rw (e, other) refl
