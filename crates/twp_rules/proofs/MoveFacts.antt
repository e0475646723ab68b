-- Numbers of what is moved, from a place on; over plain values.
use Rattle.std.proofs.Common.{◌≡◌, ◌<◌, ◌+◌, ◌||◌, Bool, List, [], ◌∷◌, ℕ, true, false, add-one, arith, drop}
use Rattle.std.proofs.Common.{◌&&◌, length, not, refl, slice_index, slice_range, suc}
use Rattle.std.specs.Char.{is_ascii_digit}
use Rattle.std.proofs.Math.Seq.{drop-cons}
use Rattle.twp_rules.specs.declared.named.Named.{Named}
use Rattle.twp_rules.specs.declared.role.NumberRole.{NumberRole}
use Rattle.twp_rules.specs.declared.rule.Rule.{Rule}
use Rattle.twp_rules.specs.declared.rule.Rule.TheVariants.{Half, Quarter, Direction, Numeral, Copied}
use Rattle.twp_rules.specs.declared.rule.Rule.TheVariants.{CopiedStep, Damage, Exception, Zeros}
use Rattle.twp_rules.specs.declared.rule.Rule.TheVariants.{FractionDigit}
use Rattle.twp_rules.specs.declared.rule.Rule.TheVariants.{Heading, SectionWord, LotWord, Through, And, Comma}
use Rattle.twp_rules.specs.declared.rule.Rule.TheVariants.{Semicolon, OnePart, Mark, Word, Repeated}
use Rattle.twp_rules.specs.declared.rule.Rule.TheVariants.{MovedSection, MovedHeading, Meridian, Acreage}
use Rattle.twp_rules.specs.declared.rule.Rule.TheVariants.{Label}
use Rattle.twp_rules.specs.Changes.{Change}
use Rattle.twp_rules.specs.Moves.{are_written_from, is_written_at, is_written_by, keep_moved, named_after}
use Rattle.twp_rules.specs.Moves.{first_place, is_copied_by, is_named_last, is_number_at}
use Rattle.twp_rules.specs.declared.role.NumberRole.TheVariants.{Section, Tier}
use Rattle.twp_rules.specs.steps.Moved.{are_copied_from, are_moved_copied, is_copied_at, is_copied_if_moved}
use Rattle.twp_rules.specs.steps.Moved.{moves}
use Rattle.twp_rules.proofs.SameTexts.{both}

-- the number at a place is written
pub next_is_written : (text : List ℕ) (changes : List Change) (role : NumberRole) (it : Named) (start : ℕ)
    (bytes : List ℕ) (index : ℕ)
    → index < length bytes
    → is_written_at text changes role it start (start + index) ≡ true
    → are_written_from text changes role it start (start + index) (drop index bytes)
    ≡ are_written_from text changes role it start (start + (index + 1)) (drop (index + 1) bytes)
next_is_written text changes role it start bytes index within is =
    let e = drop-cons bytes index 0 within in
    let f : start + (index + 1) ≡ (start + index) + 1 = omega arith in
    rw (f, add-one index, add-one (start + index), e, is) refl

-- or it isn't
pub is_not_written : (text : List ℕ) (changes : List Change) (role : NumberRole) (it : Named) (start : ℕ)
    (bytes : List ℕ) (index : ℕ)
    → index < length bytes
    → is_written_at text changes role it start (start + index) ≡ false
    → are_written_from text changes role it start (start + index) (drop index bytes) ≡ false
is_not_written text changes role it start bytes index within other =
    let e = drop-cons bytes index 0 within in
    rw (e, other) refl

-- the number at a place is copied, or it isn't
pub next_is_copied : (text : List ℕ) (changes : List Change) (start : ℕ) (bytes : List ℕ) (index : ℕ)
    → index < length bytes
    → is_copied_at text changes start (start + index) ≡ true
    → are_copied_from text changes start (start + index) (drop index bytes)
    ≡ are_copied_from text changes start (start + (index + 1)) (drop (index + 1) bytes)
next_is_copied text changes start bytes index within is =
    let e = drop-cons bytes index 0 within in
    let f : start + (index + 1) ≡ (start + index) + 1 = omega arith in
    rw (f, add-one index, add-one (start + index), e, is) refl

pub is_not_copied : (text : List ℕ) (changes : List Change) (start : ℕ) (bytes : List ℕ) (index : ℕ)
    → index < length bytes
    → is_copied_at text changes start (start + index) ≡ false
    → are_copied_from text changes start (start + index) (drop index bytes) ≡ false
is_not_copied text changes start bytes index within other =
    let e = drop-cons bytes index 0 within in
    rw (e, other) refl

-- either of two, or a third as well
either : (x y z : Bool) → (x || z) ≡ true → (x || y || z) ≡ true
either true y z h = refl
either false true z h = refl
either false false z h = h

-- what is copied is written
copied_is_written : (text : List ℕ) (all : List Change) (role : NumberRole) (it : Named) (start at : ℕ)
    (bytes : List ℕ)
    → are_copied_from text all start at bytes ≡ true
    → are_written_from text all role it start at bytes ≡ true
copied_is_written text all role it start at [] copied = refl
copied_is_written text all role it start at (byte ∷ bytes) copied =
    let parts =
    both (is_copied_at text all start at) (are_copied_from text all start (suc at) bytes) copied in
    rw (either (not (is_number_at text start at))
    (is_ascii_digit (slice_index text at) && is_named_last text role it at)
    (is_copied_by all (first_place text at)) parts.0)
    (copied_is_written text all role it start (suc at) bytes parts.1)

-- what a rule leaves out is written, if it moves nothing, or if that is copied
stays : (text : List ℕ) (all : List Change) (it : Named) (start : ℕ) (left_out : List ℕ) (rule : Rule)
    → (not (moves rule) || are_copied_from text all start start left_out) ≡ true
    → is_written_by text all it start left_out rule ≡ true
stays text all it start left_out MovedSection copied =
    copied_is_written text all Section it start start left_out copied
stays text all it start left_out MovedHeading copied =
    copied_is_written text all Tier it start start left_out copied
stays text all it start left_out Half copied = refl
stays text all it start left_out Quarter copied = refl
stays text all it start left_out Direction copied = refl
stays text all it start left_out Numeral copied = refl
stays text all it start left_out (Copied from to) copied = refl
stays text all it start left_out (CopiedStep from to) copied = refl
stays text all it start left_out Damage copied = refl
stays text all it start left_out Exception copied = refl
stays text all it start left_out Zeros copied = refl
stays text all it start left_out FractionDigit copied = refl
stays text all it start left_out Heading copied = refl
stays text all it start left_out SectionWord copied = refl
stays text all it start left_out LotWord copied = refl
stays text all it start left_out Through copied = refl
stays text all it start left_out And copied = refl
stays text all it start left_out Comma copied = refl
stays text all it start left_out Semicolon copied = refl
stays text all it start left_out OnePart copied = refl
stays text all it start left_out Mark copied = refl
stays text all it start left_out Word copied = refl
stays text all it start left_out Repeated copied = refl
stays text all it start left_out Meridian copied = refl
stays text all it start left_out Acreage copied = refl
stays text all it start left_out Label copied = refl

-- if all that is moved is copied, it is written
pub all_are_copied : (text : List ℕ) (all : List Change) (at : ℕ) (it : Named) (changes : List Change)
    → are_moved_copied text all changes ≡ true → keep_moved text all at it changes ≡ true
all_are_copied text all at it [] copied = refl
all_are_copied text all at it (change ∷ changes) copied =
    let parts = both (is_copied_if_moved text all change) (are_moved_copied text all changes) copied in
    rw (stays text all (named_after it (slice_range text at change.start)) change.start
    (slice_range text change.start change.end) change.rule parts.0)
    (all_are_copied text all change.end
    (named_after (named_after it (slice_range text at change.start)) change.written) changes parts.1)
