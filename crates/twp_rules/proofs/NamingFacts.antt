-- What is at a place, and the rest after it, decide over a text; over plain values.
use Rattle.std.proofs.Common.{◌≡◌, ◌<◌, ◌+◌, ◌-◌, ◌&&◌, Bool, true, false, List, ℕ, suc, refl, arith, drop}
use Rattle.std.proofs.Common.{length, not}
use Rattle.std.proofs.Common.{add-one, slice_index}
use Rattle.std.proofs.Math.Seq.{drop-cons}
use Rattle.twp_grammar.specs.Tokens.{is_white}
use Rattle.twp_rules.specs.Moving.{is_moved_at, is_only_of_from}
use Rattle.twp_rules.specs.Naming.{has_no_bare_number_from, has_no_land_from, is_explained_at, name_after}
use Rattle.twp_rules.specs.Naming.{begins_number, begins_word, names_land_at}
use Rattle.twp_rules.specs.Rules.{solid_before}
use Rattle.twp_rules.specs.declared.moved.Moved.{Moved}
use Rattle.twp_rules.proofs.SameTexts.{both}

-- no land is named at a place
pub next_names_none : (seen : List ℕ) (at : ℕ) → at < length seen
    → names_land_at seen at (drop at seen) ≡ false
    → has_no_land_from seen at (drop at seen) ≡ has_no_land_from seen (at + 1) (drop (at + 1) seen)
next_names_none seen at within none =
    let e = drop-cons seen at 0 within in
    rw (add-one at, e, rw e at none) refl

-- a number at a place is explained
pub next_is_explained : (seen : List ℕ) (at : ℕ) (name : List ℕ) → at < length seen
    → is_explained_at seen at name (drop at seen) ≡ true
    → has_no_bare_number_from seen at name (drop at seen)
    ≡ has_no_bare_number_from seen (at + 1) (name_after seen at name (drop at seen)) (drop (at + 1) seen)
next_is_explained seen at name within is =
    let e = drop-cons seen at 0 within in
    rw (add-one at, e, rw e at is) refl

-- neither land nor a bare number is in a text from a place on
abbrev pub none_from : List ℕ → ℕ → List ℕ → Bool
none_from seen at name =
    has_no_land_from seen at (drop at seen) && has_no_bare_number_from seen at name (drop at seen)

pub not_true : (x : Bool) → not x ≡ true → x ≡ false
not_true true h = cc h
not_true false h = refl

and_false : (x : Bool) → (x && false) ≡ false
and_false true = refl
and_false false = refl

-- where nothing begins, the rest decides
pub nothing_here : (seen : List ℕ) (at : ℕ) (name : List ℕ) → at < length seen
    → (not (begins_word seen at) && not (begins_number seen at)) ≡ true
    → none_from seen at name ≡ none_from seen (at + 1) name
nothing_here seen at name within none =
    let parts = both (not (begins_word seen at)) (not (begins_number seen at)) none in
    let word : begins_word seen at ≡ false = not_true (begins_word seen at) parts.0 in
    let number : begins_number seen at ≡ false = not_true (begins_number seen at) parts.1 in
    let e = drop-cons seen at 0 within in
    rw (add-one at, e, word, number) refl

-- so it does where a word or a number begins that is neither
pub none_here : (seen : List ℕ) (at : ℕ) (name : List ℕ) → at < length seen
    → names_land_at seen at (drop at seen) ≡ false → is_explained_at seen at name (drop at seen) ≡ true
    → none_from seen at name ≡ none_from seen (at + 1) (name_after seen at name (drop at seen))
none_here seen at name within land number =
    let e = next_names_none seen at within land in
    let f = next_is_explained seen at name within number in
    rw (e, f) refl

-- land decides
pub land_here : (seen : List ℕ) (at : ℕ) (name : List ℕ) → at < length seen
    → names_land_at seen at (drop at seen) ≡ true → none_from seen at name ≡ false
land_here seen at name within land =
    let e = drop-cons seen at 0 within in
    rw (e, rw e at land) refl

-- and so does a bare number
pub bare_here : (seen : List ℕ) (at : ℕ) (name : List ℕ) → at < length seen
    → is_explained_at seen at name (drop at seen) ≡ false → none_from seen at name ≡ false
bare_here seen at name within bare =
    let e = drop-cons seen at 0 within in
    rw (e, rw e at bare) (and_false _)

-- a word at a place may be moved
pub next_is_moved : (kind : Moved) (seen : List ℕ) (at : ℕ) → at < length seen
    → is_moved_at kind seen at (drop at seen) ≡ true
    → is_only_of_from kind seen at (drop at seen) ≡ is_only_of_from kind seen (at + 1) (drop (at + 1) seen)
next_is_moved kind seen at within is =
    let e = drop-cons seen at 0 within in
    rw (add-one at, e, rw e at is) refl

-- white space is passed over, from a place backward
pub white_before : (text : List ℕ) (at count : ℕ) → count < at
    → is_white (slice_index text (at - 1 - count)) ≡ true
    → solid_before text (at - count) ≡ solid_before text (at - (count + 1))
white_before text at count within white =
    let e : at - count ≡ suc (at - 1 - count) = omega arith in
    let f : at - (count + 1) ≡ at - 1 - count = omega arith in
    rw (e, f, white) refl

-- and other bytes are not
pub solid_is : (text : List ℕ) (at count : ℕ) → count < at
    → is_white (slice_index text (at - 1 - count)) ≡ false
    → solid_before text (at - count) ≡ slice_index text (at - 1 - count)
solid_is text at count within solid =
    let e : at - count ≡ suc (at - 1 - count) = omega arith in
    rw (e, solid) refl
