-- What is at a place decides over what is before it; over plain values.
use Rattle.std.proofs.Common.{◌≡◌, ◌==◌, ◌||◌, ◌<◌, ◌+◌, ◌-◌, true, false, List, ℕ, suc, refl}
use Rattle.std.proofs.Common.{arith, slice_index}
use Rattle.twp_grammar.specs.Tokens.{is_white}
use Rattle.twp_suggest.specs.Assumptions.{is_between_words, last_before, white_start, word_start}

-- white space and periods are passed over, from a place backward
pub passed_before : (text : List ℕ) (at count : ℕ) → count < at
    → (is_white (slice_index text (at - 1 - count)) || (slice_index text (at - 1 - count) == 46)) ≡ true
    → last_before text (at - count) ≡ last_before text (at - (count + 1))
passed_before text at count within passed =
    let e : at - count ≡ suc (at - 1 - count) = omega arith in
    let f : at - (count + 1) ≡ at - 1 - count = omega arith in
    rw (e, f, passed) refl

-- and other bytes are not
pub last_is : (text : List ℕ) (at count : ℕ) → count < at
    → (is_white (slice_index text (at - 1 - count)) || (slice_index text (at - 1 - count) == 46)) ≡ false
    → last_before text (at - count) ≡ slice_index text (at - 1 - count)
last_is text at count within solid =
    let e : at - count ≡ suc (at - 1 - count) = omega arith in
    rw (e, solid) refl

-- a word goes on, from a place backward
pub word_goes_on : (text : List ℕ) (at count : ℕ) → count < at
    → is_between_words (slice_index text (at - 1 - count)) ≡ false
    → word_start text (at - count) ≡ word_start text (at - (count + 1))
word_goes_on text at count within goes =
    let e : at - count ≡ suc (at - 1 - count) = omega arith in
    let f : at - (count + 1) ≡ at - 1 - count = omega arith in
    rw (e, f, goes) refl

-- or begins
pub word_begins : (text : List ℕ) (at count : ℕ) → count < at
    → is_between_words (slice_index text (at - 1 - count)) ≡ true
    → word_start text (at - count) ≡ at - count
word_begins text at count within ends =
    let e : at - count ≡ suc (at - 1 - count) = omega arith in
    rw (e, ends) refl

-- white space goes on, from a place backward
pub white_goes_on : (text : List ℕ) (at count : ℕ) → count < at
    → is_white (slice_index text (at - 1 - count)) ≡ true
    → white_start text (at - count) ≡ white_start text (at - (count + 1))
white_goes_on text at count within goes =
    let e : at - count ≡ suc (at - 1 - count) = omega arith in
    let f : at - (count + 1) ≡ at - 1 - count = omega arith in
    rw (e, f, goes) refl

-- or begins
pub white_begins : (text : List ℕ) (at count : ℕ) → count < at
    → is_white (slice_index text (at - 1 - count)) ≡ false
    → white_start text (at - count) ≡ at - count
white_begins text at count within ends =
    let e : at - count ≡ suc (at - 1 - count) = omega arith in
    rw (e, ends) refl
