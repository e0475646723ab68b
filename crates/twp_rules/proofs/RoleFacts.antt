-- What the bytes and words before a place say, from the place backward.
use Rattle.std.proofs.Common.{◌≡◌, ◌==◌, ◌||◌, ◌&&◌, ◌<◌, ◌+◌, ◌-◌, Bool, true, false, List, ℕ, suc, refl}
use Rattle.std.proofs.Common.{arith, drop, length}
use Rattle.std.proofs.Common.{slice_index}
use Rattle.twp_rules.specs.Edges.{byte_before}
use Rattle.twp_rules.specs.Naming.{begins_word, word_of}
use Rattle.twp_rules.specs.Roles.{begins_list, byte_before_spaces, goes_on_with_list, is_in_list}
use Rattle.twp_rules.specs.Roles.{is_section_sign_at}

-- a space is passed over
pub space_before : (text : List ℕ) (at count : ℕ) → count < at
    → (slice_index text (at - 1 - count) == 32) ≡ true
    → byte_before_spaces text (at - count) ≡ byte_before_spaces text (at - (count + 1))
space_before text at count within space =
    let e : at - count ≡ suc (at - 1 - count) = omega arith in
    let f : at - (count + 1) ≡ at - 1 - count = omega arith in
    rw (e, f, space) refl

-- and other bytes are not
pub other_before : (text : List ℕ) (at count : ℕ) → count < at
    → (slice_index text (at - 1 - count) == 32) ≡ false
    → byte_before_spaces text (at - count) ≡ slice_index text (at - 1 - count)
other_before text at count within other =
    let e : at - count ≡ suc (at - 1 - count) = omega arith in
    rw (e, other) refl

-- a list is open after a word that begins one,
begun : (begins goes before : Bool) → begins ≡ true → (begins || goes && before) ≡ true
begun true goes before begin = refl
begun false goes before begin = cc begin

-- and isn't after a word that isn't of one
ended : (begins goes before : Bool) → begins ≡ false → goes ≡ false → (begins || goes && before) ≡ false
ended true goes before other ends = cc other
ended false true before other ends = cc ends
ended false false before other ends = refl

-- after one that goes on with it, it is if it was before
gone_on : (begins goes before : Bool) → begins ≡ false → goes ≡ true → (begins || goes && before) ≡ before
gone_on true goes before other go = cc other
gone_on false false before other go = cc go
gone_on false true before other go = refl

-- a word that begins a list is before the place
pub word_begins : (text : List ℕ) (at count : ℕ) → count < at
    → begins_word text (at - 1 - count) ≡ true
    → begins_list (byte_before text (at - 1 - count)) (word_of (drop (at - 1 - count) text))
    (drop (length (word_of (drop (at - 1 - count) text))) (drop (at - 1 - count) text)) ≡ true
    → is_in_list text (at - count) ≡ true
word_begins text at count within is list =
    let e : at - count ≡ suc (at - 1 - count) = omega arith in
    rw (e, is) (begun (begins_list (byte_before text (at - 1 - count)) (word_of (drop (at - 1 - count) text))
    (drop (length (word_of (drop (at - 1 - count) text))) (drop (at - 1 - count) text)))
    (goes_on_with_list (word_of (drop (at - 1 - count) text))) (is_in_list text (at - 1 - count)) list)

-- a word that isn't of a list is
pub word_ends : (text : List ℕ) (at count : ℕ) → count < at
    → begins_word text (at - 1 - count) ≡ true
    → begins_list (byte_before text (at - 1 - count)) (word_of (drop (at - 1 - count) text))
    (drop (length (word_of (drop (at - 1 - count) text))) (drop (at - 1 - count) text)) ≡ false
    → goes_on_with_list (word_of (drop (at - 1 - count) text)) ≡ false
    → is_in_list text (at - count) ≡ false
word_ends text at count within is other ends =
    let e : at - count ≡ suc (at - 1 - count) = omega arith in
    rw (e, is) (ended (begins_list (byte_before text (at - 1 - count)) (word_of (drop (at - 1 - count) text))
    (drop (length (word_of (drop (at - 1 - count) text))) (drop (at - 1 - count) text)))
    (goes_on_with_list (word_of (drop (at - 1 - count) text))) (is_in_list text (at - 1 - count)) other ends)

-- a word that goes on with a list is passed over
pub word_goes_on : (text : List ℕ) (at count : ℕ) → count < at
    → begins_word text (at - 1 - count) ≡ true
    → begins_list (byte_before text (at - 1 - count)) (word_of (drop (at - 1 - count) text))
    (drop (length (word_of (drop (at - 1 - count) text))) (drop (at - 1 - count) text)) ≡ false
    → goes_on_with_list (word_of (drop (at - 1 - count) text)) ≡ true
    → is_in_list text (at - count) ≡ is_in_list text (at - (count + 1))
word_goes_on text at count within is other goes =
    let e : at - count ≡ suc (at - 1 - count) = omega arith in
    let f : at - (count + 1) ≡ at - 1 - count = omega arith in
    rw (e, f, is)
    (gone_on (begins_list (byte_before text (at - 1 - count)) (word_of (drop (at - 1 - count) text))
    (drop (length (word_of (drop (at - 1 - count) text))) (drop (at - 1 - count) text)))
    (goes_on_with_list (word_of (drop (at - 1 - count) text))) (is_in_list text (at - 1 - count)) other goes)

-- a section sign is before the place
pub sign_begins : (text : List ℕ) (at count : ℕ) → count < at
    → begins_word text (at - 1 - count) ≡ false
    → is_section_sign_at text (at - 1 - count) ≡ true
    → is_in_list text (at - count) ≡ true
sign_begins text at count within none sign =
    let e : at - count ≡ suc (at - 1 - count) = omega arith in
    rw (e, none, sign) refl

-- anything else is passed over
pub mark_is_passed : (text : List ℕ) (at count : ℕ) → count < at
    → begins_word text (at - 1 - count) ≡ false
    → is_section_sign_at text (at - 1 - count) ≡ false
    → is_in_list text (at - count) ≡ is_in_list text (at - (count + 1))
mark_is_passed text at count within none other =
    let e : at - count ≡ suc (at - 1 - count) = omega arith in
    let f : at - (count + 1) ≡ at - 1 - count = omega arith in
    rw (e, f, none, other) refl
