-- What is at a place of a remark, and the rest after it, decide; over plain values.
use Rattle.std.proofs.Common.{◌≡◌, ◌<◌, ◌+◌, ◌&&◌, ◌||◌, Bool, true, false, List, ℕ, suc, refl, drop}
use Rattle.std.proofs.Common.{add-one, length, not, slice_index, slice_index_or, subst, sym}
use Rattle.std.proofs.Math.Seq.{drop-cons}
use Rattle.std.specs.Prelude.{◌∷◌}
use Rattle.std.specs.Char.{is_ascii_alphabetic}
use Rattle.std.specs.Int.{is_in_range}
use Rattle.twp_rules.specs.Edges.{byte_before}
use Rattle.twp_rules.specs.Naming.{begins_number, begins_word, is_explained_at, name_after, names_land_at}
use Rattle.twp_rules.specs.Naming.{has_no_bare_number, has_no_land, word_of}
use Rattle.twp_rules.specs.Sayings.{begins_whole_word, has_no_limit, has_no_limit_from, is_of_title}
use Rattle.twp_rules.specs.Sayings.{is_possessive}
use Rattle.twp_rules.specs.Sayings.{is_remark, limits_land, may_contain}
use Rattle.twp_rules.specs.declared.saying.Saying.{Saying}
use Rattle.twp_rules.specs.declared.saying.Saying.TheVariants.{Remark}
use Rattle.twp_rules.proofs.NamingFacts.{bare_here, land_here, none_from, none_here, not_true}
use Rattle.twp_rules.proofs.NamingFacts.{nothing_here}
use Rattle.twp_rules.proofs.SameTexts.{both}

-- a text is a remark from a place on
abbrev pub remark_from : List ℕ → ℕ → List ℕ → Bool
remark_from seen at name = none_from seen at name && has_no_limit_from Remark seen at (drop at seen)

both_same : (a b c d : Bool) → a ≡ b → c ≡ d → (a && c) ≡ (b && d)
both_same a b c d e f = rw (e, f) refl

first_fails : (a b : Bool) → a ≡ false → (a && b) ≡ false
first_fails a b e = rw e refl

pub second_fails : (a b : Bool) → b ≡ false → (a && b) ≡ false
second_fails true b e = e
second_fails false b e = refl

pub second_holds : (a b : Bool) → b ≡ true → (a && b) ≡ a
second_holds true b e = e
second_holds false b e = refl

-- no letter is before a word that begins after neither a letter nor a digit
whole_is_word : (letter digit upper lower possessive : Bool) → (letter && not (upper || lower)) ≡ false
    → (letter && not ((digit || upper) || lower) && not possessive) ≡ false
whole_is_word false digit upper lower possessive h = refl
whole_is_word true true upper lower possessive h = refl
whole_is_word true false upper lower possessive h = rw h refl

no_whole_word : (seen : List ℕ) (at : ℕ) → begins_word seen at ≡ false → begins_whole_word seen at ≡ false
no_whole_word seen at h =
    whole_is_word (is_ascii_alphabetic (slice_index seen at)) (is_in_range 48 57 (byte_before seen at))
    (is_in_range 65 90 (byte_before seen at)) (is_in_range 97 122 (byte_before seen at))
    (is_possessive seen at || is_of_title seen at) h

is_passed : (whole limits contained rest : Bool) → contained ≡ false → (whole && limits) ≡ false
    → ((not whole || not limits || contained) && rest) ≡ rest
is_passed false limits contained rest e h = refl
is_passed true false contained rest e h = refl
is_passed true true contained rest e h = cc h

is_found : (whole limits contained rest : Bool) → contained ≡ false → (whole && limits) ≡ true
    → ((not whole || not limits || contained) && rest) ≡ false
is_found false limits contained rest e h = cc h
is_found true false contained rest e h = cc h
is_found true true contained rest e h = rw e refl

-- no limit begins with a byte
limit_passed : (seen : List ℕ) (at byte : ℕ) (bytes : List ℕ)
    → (begins_whole_word seen at && limits_land (word_of (byte ∷ bytes))) ≡ false
    → has_no_limit_from Remark seen at (byte ∷ bytes) ≡ has_no_limit_from Remark seen (suc at) bytes
limit_passed seen at byte bytes none =
    is_passed (begins_whole_word seen at) (limits_land (word_of (byte ∷ bytes)))
    (may_contain Remark (word_of (byte ∷ bytes))) (has_no_limit_from Remark seen (suc at) bytes) refl none

-- or one does
limit_found : (seen : List ℕ) (at byte : ℕ) (bytes : List ℕ)
    → (begins_whole_word seen at && limits_land (word_of (byte ∷ bytes))) ≡ true
    → has_no_limit_from Remark seen at (byte ∷ bytes) ≡ false
limit_found seen at byte bytes limit =
    is_found (begins_whole_word seen at) (limits_land (word_of (byte ∷ bytes)))
    (may_contain Remark (word_of (byte ∷ bytes))) (has_no_limit_from Remark seen (suc at) bytes) refl limit

-- what is at a place of a phrase of a kind decides, and the rest after it
limit_step_of : (kind : Saying) (seen : List ℕ) (at byte : ℕ) (bytes : List ℕ)
    → (not (begins_whole_word seen at) || not (limits_land (word_of (byte ∷ bytes)))
    || may_contain kind (word_of (byte ∷ bytes))) ≡ true
    → has_no_limit_from kind seen at (byte ∷ bytes) ≡ has_no_limit_from kind seen (suc at) bytes
limit_step_of kind seen at byte bytes passes = rw passes refl

limit_step : (kind : Saying) (seen : List ℕ) (at : ℕ) → at < length seen
    → (not (begins_whole_word seen at) || not (limits_land (word_of (drop at seen)))
    || may_contain kind (word_of (drop at seen))) ≡ true
    → has_no_limit_from kind seen at (drop at seen)
    ≡ has_no_limit_from kind seen (at + 1) (drop (at + 1) seen)
limit_step kind seen at within passes =
    rw (add-one at)
    (subst (λ rest. (not (begins_whole_word seen at) || not (limits_land (word_of rest))
    || may_contain kind (word_of rest)) ≡ true
    → has_no_limit_from kind seen at rest ≡ has_no_limit_from kind seen (suc at) (drop (suc at) seen))
    (sym (drop-cons seen at 0 within))
    (limit_step_of kind seen at (slice_index_or seen at 0) (drop (suc at) seen)) passes)

is_passed_without : (begins limits contained : Bool) → begins ≡ false
    → (not begins || not limits || contained) ≡ true
is_passed_without begins limits contained e = rw e refl

is_passed_with : (begins limits contained : Bool) → (limits && not contained) ≡ false
    → (not begins || not limits || contained) ≡ true
is_passed_with false limits contained e = refl
is_passed_with true false contained e = refl
is_passed_with true true true e = refl
is_passed_with true true false e = cc e

-- no word begins at a place
pub no_word_at : (kind : Saying) (seen : List ℕ) (at : ℕ) → at < length seen
    → begins_whole_word seen at ≡ false
    → has_no_limit_from kind seen at (drop at seen)
    ≡ has_no_limit_from kind seen (at + 1) (drop (at + 1) seen)
no_word_at kind seen at within none =
    limit_step kind seen at within
    (is_passed_without (begins_whole_word seen at) (limits_land (word_of (drop at seen)))
    (may_contain kind (word_of (drop at seen))) none)

-- the word that begins at a place limits no land, or may be contained
pub no_limit_at : (kind : Saying) (seen : List ℕ) (at : ℕ) → at < length seen
    → (limits_land (word_of (drop at seen)) && not (may_contain kind (word_of (drop at seen)))) ≡ false
    → has_no_limit_from kind seen at (drop at seen)
    ≡ has_no_limit_from kind seen (at + 1) (drop (at + 1) seen)
no_limit_at kind seen at within none =
    limit_step kind seen at within
    (is_passed_with (begins_whole_word seen at) (limits_land (word_of (drop at seen)))
    (may_contain kind (word_of (drop at seen))) none)

-- no limit is at a place
no_limit_here : (seen : List ℕ) (at : ℕ) → at < length seen
    → (begins_whole_word seen at && limits_land (word_of (drop at seen))) ≡ false
    → has_no_limit_from Remark seen at (drop at seen)
    ≡ has_no_limit_from Remark seen (at + 1) (drop (at + 1) seen)
no_limit_here seen at within none =
    rw (add-one at)
    (subst (λ rest. (begins_whole_word seen at && limits_land (word_of rest)) ≡ false
    → has_no_limit_from Remark seen at rest ≡ has_no_limit_from Remark seen (suc at) (drop (suc at) seen))
    (sym (drop-cons seen at 0 within))
    (limit_passed seen at (slice_index_or seen at 0) (drop (suc at) seen)) none)

-- or one is
limit_here : (seen : List ℕ) (at : ℕ) → at < length seen
    → (begins_whole_word seen at && limits_land (word_of (drop at seen))) ≡ true
    → has_no_limit_from Remark seen at (drop at seen) ≡ false
limit_here seen at within limit =
    subst (λ rest. (begins_whole_word seen at && limits_land (word_of rest)) ≡ true
    → has_no_limit_from Remark seen at rest ≡ false)
    (sym (drop-cons seen at 0 within))
    (limit_found seen at (slice_index_or seen at 0) (drop (suc at) seen)) limit

-- where nothing begins, the rest decides
pub nothing_begins : (seen : List ℕ) (at : ℕ) (name : List ℕ) → at < length seen
    → (not (begins_word seen at) && not (begins_number seen at)) ≡ true
    → remark_from seen at name ≡ remark_from seen (at + 1) name
nothing_begins seen at name within none =
    let parts = both (not (begins_word seen at)) (not (begins_number seen at)) none in
    let word : begins_word seen at ≡ false = not_true (begins_word seen at) parts.0 in
    both_same (none_from seen at name) (none_from seen (at + 1) name)
    (has_no_limit_from Remark seen at (drop at seen))
    (has_no_limit_from Remark seen (at + 1) (drop (at + 1) seen))
    (nothing_here seen at name within none)
    (no_limit_here seen at within
    (first_fails (begins_whole_word seen at) (limits_land (word_of (drop at seen)))
    (no_whole_word seen at word)))

-- so it does where a word or a number begins that is none of these
pub goes_on_here : (seen : List ℕ) (at : ℕ) (name : List ℕ) → at < length seen
    → names_land_at seen at (drop at seen) ≡ false → is_explained_at seen at name (drop at seen) ≡ true
    → (begins_whole_word seen at && limits_land (word_of (drop at seen))) ≡ false
    → remark_from seen at name ≡ remark_from seen (at + 1) (name_after seen at name (drop at seen))
goes_on_here seen at name within land number limit =
    both_same (none_from seen at name) (none_from seen (at + 1) (name_after seen at name (drop at seen)))
    (has_no_limit_from Remark seen at (drop at seen))
    (has_no_limit_from Remark seen (at + 1) (drop (at + 1) seen))
    (none_here seen at name within land number) (no_limit_here seen at within limit)

-- land decides
pub land_begins : (seen : List ℕ) (at : ℕ) (name : List ℕ) → at < length seen
    → names_land_at seen at (drop at seen) ≡ true → remark_from seen at name ≡ false
land_begins seen at name within land =
    first_fails (none_from seen at name) (has_no_limit_from Remark seen at (drop at seen))
    (land_here seen at name within land)

-- so does a bare number
pub bare_begins : (seen : List ℕ) (at : ℕ) (name : List ℕ) → at < length seen
    → is_explained_at seen at name (drop at seen) ≡ false → remark_from seen at name ≡ false
bare_begins seen at name within bare =
    first_fails (none_from seen at name) (has_no_limit_from Remark seen at (drop at seen))
    (bare_here seen at name within bare)

-- and a limit
pub limit_begins : (seen : List ℕ) (at : ℕ) (name : List ℕ) → at < length seen
    → (begins_whole_word seen at && limits_land (word_of (drop at seen))) ≡ true
    → remark_from seen at name ≡ false
limit_begins seen at name within limit =
    second_fails (none_from seen at name) (has_no_limit_from Remark seen at (drop at seen))
    (limit_here seen at within limit)

-- what is a remark names no more than a place
remark_is_place : (land limit letters number code : Bool) → ((land && number) && limit) ≡ true
    → true ≡ (land && (limit || letters) && (number || code))
remark_is_place true true letters true code h = refl
remark_is_place true true letters false code h = cc h
remark_is_place true false letters true code h = cc h
remark_is_place true false letters false code h = cc h
remark_is_place false limit letters number code h = cc h

pub remark_names_place : (seen : List ℕ) (letters code : Bool) → is_remark seen ≡ true
    → true ≡ (has_no_land seen && (has_no_limit Remark seen || letters) && (has_no_bare_number seen || code))
remark_names_place seen letters code h =
    remark_is_place (has_no_land seen) (has_no_limit Remark seen) letters (has_no_bare_number seen) code h
