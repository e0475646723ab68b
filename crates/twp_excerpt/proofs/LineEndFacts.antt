-- Where a line ends.
use Rattle.std.proofs.Common.{◌≡◌, ℕ, ◌+◌, ◌-◌, ◌≤◌, Bool, true, false, cond, ◌&&◌, ◌==◌, List, Option}
use Rattle.std.proofs.Common.{Some, None, length, take, drop, sym, ap, ap₂, ◌∙◌, arith, inl, inr}
use Rattle.std.proofs.Common.{length-drop, nat_lt, lt-ltb, le-ltb, slice_index}
use Rattle.std.specs.Prelude.{unwrap_or}
use Rattle.std.specs.List.{position_or_len}
use Rattle.std.proofs.lemmas.Bool.{cases_Bool}
use Rattle.std.proofs.lemmas.List.{take_rest}
use Rattle.std.proofs.lemmas.List.Sums.{position_or_len_is}
use Rattle.memchr.specs.Find.{IsFirstByte, is_byte}
use Rattle.twp_excerpt.specs.Excerpts.{feed_after, line_end}
use Rattle.twp_excerpt.specs.Spots.{is_feed, line_start}

first_feed : (bytes : List ℕ) (found : Option ℕ) → IsFirstByte (is_byte 10) bytes found
    → unwrap_or found (length bytes) ≡ position_or_len is_feed bytes
first_feed bytes None none =
    sym
    (position_or_len_is is_feed bytes (length bytes) 0 (omega arith)
    (λ k below. elim (cases_Bool _) [
      | inl is ↦ absurd (none k (omega arith) below is)
      | inr not ↦ not
    ]) (λ below. absurd (omega arith)))
first_feed bytes (Some at_) is =
    sym
    (position_or_len_is is_feed bytes at_ 0 (omega (arith, is.0.high))
    (λ k below. elim (cases_Bool _) [
      | inl passes ↦ absurd (is.0.before k (omega arith) below passes)
      | inr not ↦ not
    ]) (λ _. is.1))

-- the bytes from a place on
abbrev rest_at : List ℕ → ℕ → List ℕ
rest_at text at = take (length text - at) (drop at text)

feed_is : (text : List ℕ) (at : ℕ) (found : Option ℕ) → IsFirstByte (is_byte 10) (rest_at text at) found
    → at + unwrap_or found (length (drop at text)) ≡ feed_after text at
feed_is text at found is =
    ap (λ n. at + n)
    (ap (λ l. unwrap_or found (length l)) (sym (take_rest text at)) ∙ first_feed (rest_at text at) found is
    ∙ ap (position_or_len is_feed) (take_rest text at))

-- whether a line ends with a carriage return before its line feed, by the place of the line feed
abbrev return_before : List ℕ → ℕ → ℕ → Bool
return_before text start feed =
    nat_lt feed (length text) && nat_lt start feed && (slice_index text (feed - 1) == 13)

by_feed : (text : List ℕ) (at feed start : ℕ) → feed ≡ feed_after text at → start ≡ line_start text at
    → cond (return_before text start feed) (feed - 1) feed ≡ line_end text at
by_feed text at feed start feed_same start_same =
    ap₂ (λ f s. cond (return_before text s f) (f - 1) f) feed_same start_same

pub end_missing : (text : List ℕ) (at start : ℕ) → at ≤ length text → start ≡ line_start text at
    → IsFirstByte (is_byte 10) (rest_at text at) None → length text ≡ line_end text at
end_missing text at start within start_is none =
    let long = length-drop at text in
    let feed : length text ≡ feed_after text at = omega (arith, feed_is text at None none, long) in
    let stops : nat_lt (length text) (length text) ≡ false =
    le-ltb (length text) (length text) (omega arith) in
    ap
    (λ b.
    cond (b && nat_lt start (length text) && (slice_index text (length text - 1) == 13)) (length text - 1)
    (length text))
    (sym stops)
    ∙ by_feed text at (length text) start feed start_is

pub end_found : (text : List ℕ) (at found start : ℕ) (returns : Bool) → at ≤ length text
    → start ≡ line_start text at → IsFirstByte (is_byte 10) (rest_at text at) (Some found)
    → (nat_lt start (at + found) && (slice_index text (at + found - 1) == 13)) ≡ returns
    → cond returns (at + found - 1) (at + found) ≡ line_end text at
end_found text at found start returns within start_is is by =
    let feed = at + found in
    let feed_same : feed ≡ feed_after text at = feed_is text at (Some found) is in
    let long = ap length (take_rest text at) ∙ length-drop at text in
    let goes : nat_lt feed (length text) ≡ true =
    lt-ltb feed (length text) (omega (arith, is.0.high, long, within)) in
    ap (λ b. cond b (feed - 1) feed) (sym by)
    ∙ ap (λ b. cond (b && nat_lt start feed && (slice_index text (feed - 1) == 13)) (feed - 1) feed)
    (sym goes)
    ∙ by_feed text at feed start feed_same start_is

pub both_tests : (a b : Bool) → a ≡ true → b ≡ true → (a && b) ≡ true
both_tests a b h k = ap₂ (λ x y. x && y) h k

pub second_fails : (a b : Bool) → a ≡ true → b ≡ false → (a && b) ≡ false
second_fails a b h k = ap₂ (λ x y. x && y) h k

pub first_fails : (a b : Bool) → a ≡ false → (a && b) ≡ false
first_fails a b h = ap (λ x. x && b) h
