-- A text whose first byte is that of no row is in no row of a table.
use Rattle.std.proofs.Common.{◌≡◌, ◌==◌, ◌&&◌, ◌∙◌, ◌-◌, ap, refl, Bool, sym, true, false, List, [], ◌∷◌, ℕ}
use Rattle.std.proofs.Common.{◌/◌, ◌%◌, ◌^◌, bit_and, length, nat_lt, not, slice_index_or}
use Rattle.std.proofs.Math.Nat.{add-mod_right}
use Rattle.std.proofs.lemmas.Bool.{eq-eqb, false≢true}
use Rattle.std.specs.Char.{to_ascii_lowercase}
use Rattle.std.specs.List.{list_any}
use Rattle.std.specs.Str.{str_to_ascii_lowercase}
use Rattle.twp_grammar.specs.Tokens.{same_bytes}
use Rattle.twp_rules.specs.Edges.{begins_with, ends_with}
use Rattle.twp_rules.specs.Lists.{before}
use Rattle.twp_rules.specs.Rules.{is_entry}
use Rattle.twp_rules.specs.steps.Rows.{end_of, entry_of, front_of, have_at, have_ends, have_fronts}
use Rattle.twp_rules.specs.steps.Rows.{have_heads}
use Rattle.twp_rules.specs.steps.Rows.{is_head}
use Rattle.twp_rules.proofs.EdgeFacts.{other_first, other_last}
use Rattle.twp_rules.proofs.RowFacts.{other_at, other_head}
use Rattle.twp_rules.proofs.SameTexts.{both}

-- a word is in no row
no_word_from : (heads : ℕ) (word : List ℕ) (rows : List (List ℕ)) → have_heads 95 heads rows ≡ true
    → is_head heads (to_ascii_lowercase (slice_index_or word 0 95)) ≡ false
    → list_any (λ row. same_bytes (str_to_ascii_lowercase word) (front_of row)) rows ≡ false
no_word_from heads word [] have other = refl
no_word_from heads word (row ∷ rows) have other =
    let parts = both (is_head heads (slice_index_or row 0 95)) (have_heads 95 heads rows) have in
    rw (other_head 95 word row refl (λ (e : slice_index_or row 0 95
    ≡ to_ascii_lowercase (slice_index_or word 0 95)). false≢true (sym other ∙ ap (is_head heads) (sym e)
    ∙ parts.0)))
    (no_word_from heads word rows parts.1 other)

-- nothing is written for a text
no_entry_from : (heads : ℕ) (seen written : List ℕ) (rows : List (List ℕ)) → have_heads 61 heads rows ≡ true
    → is_head heads (to_ascii_lowercase (slice_index_or seen 0 61)) ≡ false
    → list_any (λ row. is_entry seen written (entry_of row)) rows ≡ false
no_entry_from heads seen written [] have other = refl
no_entry_from heads seen written (row ∷ rows) have other =
    let parts = both (is_head heads (slice_index_or row 0 61)) (have_heads 61 heads rows) have in
    rw (other_head 61 seen row refl (λ (e : slice_index_or row 0 61
    ≡ to_ascii_lowercase (slice_index_or seen 0 61)). false≢true (sym other ∙ ap (is_head heads) (sym e)
    ∙ parts.0)))
    (no_entry_from heads seen written rows parts.1 other)

-- a letter has the same low bits in either case
low_bits : (byte : ℕ) → to_ascii_lowercase byte % 32 ≡ byte % 32
low_bits byte = by_first (nat_lt byte 65) refl
  where
    by_second : nat_lt byte 65 ≡ false → (t : Bool) → nat_lt byte 91 ≡ t
        → to_ascii_lowercase byte % 32 ≡ byte % 32
    by_second e true f = rw (e, f) (add-mod_right byte 32)
    by_second e false f = rw (e, f) refl

    by_first : (t : Bool) → nat_lt byte 65 ≡ t → to_ascii_lowercase byte % 32 ≡ byte % 32
    by_first true e = rw e refl
    by_first false e = by_second e (nat_lt byte 91) refl

-- so a number has its bit in either case
low_head : (heads byte : ℕ) → is_head heads (to_ascii_lowercase byte) ≡ is_head heads byte
low_head heads byte = ap (λ (n : ℕ). bit_and (heads / 2 ^ n) 1 == 1) (low_bits byte)

-- the same, by the steps in which the code tests it
is_no_head : (heads byte at : ℕ) (answer : Bool) → byte ≡ at → answer ≡ is_head heads byte → answer ≡ false
    → is_head heads (to_ascii_lowercase at) ≡ false
is_no_head heads byte at answer byte_is answer_is other =
    low_head heads at ∙ ap (is_head heads) (sym byte_is) ∙ sym answer_is ∙ other

pub no_word : (heads byte : ℕ) (answer : Bool) (word : List ℕ) (rows : List (List ℕ))
    → have_heads 95 heads rows ≡ true → byte ≡ slice_index_or word 0 95
    → answer ≡ is_head heads byte → answer ≡ false
    → false ≡ list_any (λ row. same_bytes (str_to_ascii_lowercase word) (front_of row)) rows
no_word heads byte answer word rows have byte_is answer_is other =
    sym (no_word_from heads word rows have
    (is_no_head heads byte (slice_index_or word 0 95) answer byte_is answer_is other))

pub no_entry : (heads byte : ℕ) (answer : Bool) (seen written : List ℕ) (rows : List (List ℕ))
    → have_heads 61 heads rows ≡ true → byte ≡ slice_index_or seen 0 61
    → answer ≡ is_head heads byte → answer ≡ false
    → false ≡ list_any (λ row. is_entry seen written (entry_of row)) rows
no_entry heads byte answer seen written rows have byte_is answer_is other =
    sym (no_entry_from heads seen written rows have
    (is_no_head heads byte (slice_index_or seen 0 61) answer byte_is answer_is other))

-- a word whose byte at an index is that of no row is in no row
no_word_at_from : (index bits : ℕ) (word : List ℕ) (rows : List (List ℕ)) → have_at index 95 bits rows ≡ true
    → is_head bits (to_ascii_lowercase (slice_index_or word index 95)) ≡ false
    → list_any (λ row. same_bytes (str_to_ascii_lowercase word) (front_of row)) rows ≡ false
no_word_at_from index bits word [] have other = refl
no_word_at_from index bits word (row ∷ rows) have other =
    let parts =
    both (is_head bits (slice_index_or (before 95 row) index 95)) (have_at index 95 bits rows) have in
    rw (other_at index 95 word row refl (λ (e : slice_index_or (before 95 row) index 95
    ≡ to_ascii_lowercase (slice_index_or word index 95)). false≢true (sym other ∙ ap (is_head bits) (sym e)
    ∙ parts.0)))
    (no_word_at_from index bits word rows parts.1 other)

pub no_word_at : (index bits byte : ℕ) (answer : Bool) (word : List ℕ) (rows : List (List ℕ))
    → have_at index 95 bits rows ≡ true → byte ≡ slice_index_or word index 95
    → answer ≡ is_head bits byte → answer ≡ false
    → false ≡ list_any (λ row. same_bytes (str_to_ascii_lowercase word) (front_of row)) rows
no_word_at index bits byte answer word rows have byte_is answer_is other =
    sym (no_word_at_from index bits word rows have
    (is_no_head bits byte (slice_index_or word index 95) answer byte_is answer_is other))

-- and nothing is written for such a text
no_entry_at_from : (index bits : ℕ) (seen written : List ℕ) (rows : List (List ℕ))
    → have_at index 61 bits rows ≡ true
    → is_head bits (to_ascii_lowercase (slice_index_or seen index 61)) ≡ false
    → list_any (λ row. is_entry seen written (entry_of row)) rows ≡ false
no_entry_at_from index bits seen written [] have other = refl
no_entry_at_from index bits seen written (row ∷ rows) have other =
    let parts =
    both (is_head bits (slice_index_or (before 61 row) index 61)) (have_at index 61 bits rows) have in
    rw (other_at index 61 seen row refl (λ (e : slice_index_or (before 61 row) index 61
    ≡ to_ascii_lowercase (slice_index_or seen index 61)). false≢true (sym other ∙ ap (is_head bits) (sym e)
    ∙ parts.0)))
    (no_entry_at_from index bits seen written rows parts.1 other)

pub no_entry_at : (index bits byte : ℕ) (answer : Bool) (seen written : List ℕ) (rows : List (List ℕ))
    → have_at index 61 bits rows ≡ true → byte ≡ slice_index_or seen index 61
    → answer ≡ is_head bits byte → answer ≡ false
    → false ≡ list_any (λ row. is_entry seen written (entry_of row)) rows
no_entry_at index bits byte answer seen written rows have byte_is answer_is other =
    sym (no_entry_at_from index bits seen written rows have
    (is_no_head bits byte (slice_index_or seen index 61) answer byte_is answer_is other))

-- no text is the mark, if it isn't
not_mark : (n : ℕ) → not (n == 95) ≡ true → n ≡ 95 → ⊥
not_mark n other is = false≢true (sym (ap not (eq-eqb n 95 is)) ∙ other)

-- a text begins with no row
no_front_from : (heads : ℕ) (seen : List ℕ) (rows : List (List ℕ)) → have_fronts heads rows ≡ true
    → is_head heads (to_ascii_lowercase (slice_index_or seen 0 95)) ≡ false
    → list_any (λ row. begins_with seen (front_of row)) rows ≡ false
no_front_from heads seen [] have other = refl
no_front_from heads seen (row ∷ rows) have other =
    let more = both (is_head heads (slice_index_or row 0 95) && not (slice_index_or row 0 95 == 95))
    (have_fronts heads rows) have in
    let parts = both (is_head heads (slice_index_or row 0 95)) (not (slice_index_or row 0 95 == 95)) more.0 in
    rw (other_first seen row (not_mark (slice_index_or row 0 95) parts.1) (λ (e : slice_index_or row 0 95
    ≡ to_ascii_lowercase (slice_index_or seen 0 95)). false≢true (sym other ∙ ap (is_head heads) (sym e)
    ∙ parts.0)))
    (no_front_from heads seen rows more.1 other)

pub no_front : (heads first byte : ℕ) (answer : Bool) (seen : List ℕ) (rows : List (List ℕ))
    → have_fronts heads rows ≡ true → byte ≡ slice_index_or seen 0 95 → first ≡ to_ascii_lowercase byte
    → answer ≡ is_head heads first → answer ≡ false
    → false ≡ list_any (λ row. begins_with seen (front_of row)) rows
no_front heads first byte answer seen rows have byte_is first_is answer_is other =
    sym (no_front_from heads seen rows have
    (ap (λ (n : ℕ). is_head heads (to_ascii_lowercase n)) (sym byte_is) ∙ ap (is_head heads) (sym first_is)
    ∙ sym answer_is ∙ other))

-- a text ends with no row
no_end_from : (ends : ℕ) (seen : List ℕ) (rows : List (List ℕ)) → have_ends ends rows ≡ true
    → is_head ends (to_ascii_lowercase (slice_index_or seen (length seen - 1) 95)) ≡ false
    → list_any (λ row. ends_with seen (end_of row)) rows ≡ false
no_end_from ends seen [] have other = refl
no_end_from ends seen (row ∷ rows) have other =
    let more = both (is_head ends (slice_index_or row (length row - 1) 95)
    && not (slice_index_or row (length row - 1) 95 == 95)) (have_ends ends rows) have in
    let parts = both (is_head ends (slice_index_or row (length row - 1) 95))
    (not (slice_index_or row (length row - 1) 95 == 95)) more.0 in
    rw (other_last seen row (not_mark (slice_index_or row (length row - 1) 95) parts.1)
    (λ (e : slice_index_or row (length row - 1) 95
    ≡ to_ascii_lowercase (slice_index_or seen (length seen - 1) 95)). false≢true (sym other
    ∙ ap (is_head ends) (sym e) ∙ parts.0)))
    (no_end_from ends seen rows more.1 other)

pub no_end : (ends last byte : ℕ) (answer : Bool) (seen : List ℕ) (rows : List (List ℕ))
    → have_ends ends rows ≡ true → byte ≡ slice_index_or seen (length seen - 1) 95
    → last ≡ to_ascii_lowercase byte → answer ≡ is_head ends last → answer ≡ false
    → false ≡ list_any (λ row. ends_with seen (end_of row)) rows
no_end ends last byte answer seen rows have byte_is last_is answer_is other =
    sym (no_end_from ends seen rows have
    (ap (λ (n : ℕ). is_head ends (to_ascii_lowercase n)) (sym byte_is) ∙ ap (is_head ends) (sym last_is)
    ∙ sym answer_is ∙ other))
