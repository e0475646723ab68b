-- Steps of the loops that go back from a place and that count columns.
use Rattle.std.proofs.Common.{◌≡◌, ℕ, zero, suc, ◌+◌, ◌-◌, ◌<◌, ◌≤◌, Bool, true, false, cond, not, List, []}
use Rattle.std.proofs.Common.{◌∷◌}
use Rattle.std.proofs.Common.{Option, Some, None, length, take, drop, reverse, get_or, refl, sym, ap}
use Rattle.std.proofs.Common.{◌∙◌}
use Rattle.std.proofs.Common.{subst, arith, length-drop, length-take, get_or-drop, get_or-take, inl, inr}
use Rattle.std.proofs.Common.{◌==◌, ◌⊎◌}
use Rattle.std.proofs.lemmas.List.{take_more, reverse-append, drop-drop}
use Rattle.std.specs.List.{prefix_len}
use Rattle.std.specs.Prelude.{slice_index}
use Rattle.std.specs.Str.{IsAscii}
use Rattle.std.proofs.lemmas.Bool.{cases_Bool, cases_lt}
use Rattle.bstr.specs.Utf8.{decoded}
use Rattle.bstr.proofs.lemmas.PieceLemmas.{piece-bounds, value-1}
use Rattle.memchr.specs.Find.{IsLastByte, is_byte}
use Rattle.twp_excerpt.specs.Spots.{size_in, first_size, columns_within, columns, is_feed, line_start}

-- how many bytes pass a test, going back from a place
abbrev pub passed_before : (ℕ → Bool) → List ℕ → ℕ → ℕ
passed_before test text at = prefix_len test (reverse (take at text))

one_back : (test : ℕ → Bool) (text : List ℕ) (at : ℕ) → at < length text
    → passed_before test text (at + 1)
    ≡ cond (test (get_or text at 0)) (1 + passed_before test text at) 0
one_back test text at h =
    ap (λ l. prefix_len test (reverse l)) (take_more text at 0 h)
    ∙ ap (prefix_len test) (reverse-append (take at text) (get_or text at 0 ∷ []))

pub none_at_start : (test : ℕ → Bool) (text : List ℕ) → passed_before test text 0 ≡ 0
none_at_start test text = refl

pub passes_back : (test : ℕ → Bool) (text : List ℕ) (at : ℕ) → 0 < at → at ≤ length text
    → test (get_or text (at - 1) 0) ≡ true
    → passed_before test text at ≡ 1 + passed_before test text (at - 1)
passes_back test text at some within passes =
    let same : at ≡ (at - 1) + 1 = omega arith in
    ap (passed_before test text) same ∙ one_back test text (at - 1) (omega arith)
    ∙ ap (λ b. cond b (1 + passed_before test text (at - 1)) 0) passes

pub stops_back : (test : ℕ → Bool) (text : List ℕ) (at : ℕ) → 0 < at → at ≤ length text
    → test (get_or text (at - 1) 0) ≡ false
    → passed_before test text at ≡ 0
stops_back test text at some within fails =
    let same : at ≡ (at - 1) + 1 = omega arith in
    ap (passed_before test text) same ∙ one_back test text (at - 1) (omega arith)
    ∙ ap (λ b. cond b (1 + passed_before test text (at - 1)) 0) fails

-- bytes that all pass the test are passed
all_pass : (test : ℕ → Bool) (text : List ℕ) (from at : ℕ) → from ≤ at → at ≤ length text
    → ((place : ℕ) → from ≤ place → place < at → test (get_or text place 0) ≡ true)
    → passed_before test text at ≡ (at - from) + passed_before test text from
all_pass test text from zero forward within pass =
    let none : from ≡ zero = omega arith in
    rw none refl
all_pass test text from (suc at) forward within pass = elim (cases_lt at from) [
  | inl last ↦ let same : from ≡ suc at = omega arith in rw same (omega arith)
  | inr more ↦
      let before =
      all_pass test text from at more (omega arith) (λ place low high. pass place low (omega arith)) in
      let one_less : suc at - 1 ≡ at = omega arith in
      let last =
      passes_back test text (suc at) (omega arith) within
      (subst (λ n. test (get_or text n 0) ≡ true) (sym one_less) (pass at more (omega arith))) in
      let same = ap (passed_before test text) one_less in
      omega (arith, before, last, same)
]

not_feed : (text : List ℕ) (at place : ℕ) → place < at → ¬ ((slice_index (take at text) place == 10) ≡ true)
    → not (is_feed (get_or text place 0)) ≡ true
not_feed text at place before other = by_byte (cases_Bool (get_or text place 0 == 10))
  where
    by_byte : ((get_or text place 0 == 10) ≡ true) ⊎ ((get_or text place 0 == 10) ≡ false)
        → not (is_feed (get_or text place 0)) ≡ true
    by_byte (inl is) =
        absurd (other (subst (λ b. (b == 10) ≡ true) (sym (get_or-take at text place 0 before)) is))
    by_byte (inr is_no) = ap not is_no

-- the index after the last line feed before a place
pub start_found : (text : List ℕ) (at : ℕ) (feed : ℕ) → at ≤ length text
    → IsLastByte (is_byte 10) (take at text) (Some feed) → feed + 1 ≡ line_start text at
start_found text at feed within (last, is) =
    let long = length-take at text in
    let before : feed < at = omega (arith, long, last.high) in
    let after =
    all_pass (λ byte. not (is_feed byte)) text (feed + 1) at (omega arith) within
    (λ place low high. not_feed text at place high (last.after place low (omega (arith, long)))) in
    let stop =
    stops_back (λ byte. not (is_feed byte)) text (feed + 1) (omega arith) (omega arith)
    (ap not (subst (λ b. (b == 10) ≡ true)
    (get_or-take at text feed 0 before ∙ ap (λ n. get_or text n 0) (omega arith)) is)) in
    omega (arith, after, stop)

pub start_missing : (text : List ℕ) (at : ℕ) → at ≤ length text
    → IsLastByte (is_byte 10) (take at text) None → 0 ≡ line_start text at
start_missing text at within nowhere =
    let long = length-take at text in
    let after =
    all_pass (λ byte. not (is_feed byte)) text 0 at (omega arith) within
    (λ place low high. not_feed text at place high (nowhere place low (omega (arith, long)))) in
    omega (arith, after, none_at_start (λ byte. not (is_feed byte)) text)

-- the first character, or byte, takes at least one byte, and no more than there are
size_in_bounds : (char : Option ℕ) (size n : ℕ) → 1 ≤ size → size ≤ n
    → (0 < size_in char size) × (size_in char size ≤ n)
size_in_bounds None size n some fits = (omega arith, omega arith)
size_in_bounds (Some code) size n some fits = (omega arith, omega arith)

pub first_size_bounds : (bytes : List ℕ) → 0 < length bytes
    → (0 < first_size bytes) × (first_size bytes ≤ length bytes)
first_size_bounds bytes some =
    let bounds = piece-bounds bytes some in
    size_in_bounds (decoded bytes).char (decoded bytes).size (length bytes) bounds.0 bounds.2

-- an ASCII byte is a character
pub ascii_takes_one : (bytes : List ℕ) (at : ℕ) → at < length bytes → slice_index bytes at < 128
    → 1 ≡ first_size (drop at bytes)
ascii_takes_one bytes at within low =
    let rest = drop at bytes in
    let same : at + 0 ≡ at = omega arith in
    let first : get_or rest 0 0 ≡ get_or bytes at 0 =
    get_or-drop at bytes 0 0 ∙ ap (λ n. get_or bytes n 0) same in
    let read =
    value-1 (length rest) (slice_index rest 0) (slice_index rest 1) (slice_index rest 2) (slice_index rest 3)
    (omega (arith, length-drop at bytes), omega (arith, first, low)) in
    sym (ap (λ piece. size_in piece.char piece.size) read)

-- more fuel than enough makes no difference
same_columns : (n m : ℕ) (bytes : List ℕ) → length bytes ≤ n → length bytes ≤ m
    → columns_within n bytes ≡ columns_within m bytes
unfolding columns_within
same_columns zero zero [] a b = refl
same_columns zero (suc m) [] a b = refl
same_columns (suc n) zero [] a b = refl
same_columns (suc n) (suc m) [] a b = refl
same_columns zero m (byte ∷ rest) a b = let no : ⊥ = omega arith in absurd no
same_columns (suc n) zero (byte ∷ rest) a b = let no : ⊥ = omega arith in absurd no
same_columns (suc n) (suc m) (byte ∷ rest) a b =
    let size = first_size (byte ∷ rest) in
    let some = (first_size_bounds (byte ∷ rest) (omega arith)).0 in
    let left = length-drop size (byte ∷ rest) in
    ap (λ k. 1 + k) (same_columns n m (drop size (byte ∷ rest)) (omega arith) (omega arith))

pub columns_step : (bytes : List ℕ) → 0 < length bytes
    → columns bytes ≡ 1 + columns (drop (first_size bytes) bytes)
unfolding columns_within
columns_step [] some = let no : ⊥ = omega arith in absurd no
columns_step (byte ∷ rest) some =
    let size = first_size (byte ∷ rest) in
    let past = (first_size_bounds (byte ∷ rest) some).0 in
    let left = length-drop size (byte ∷ rest) in
    ap (λ k. 1 + k) (same_columns (length rest) (length (drop size (byte ∷ rest))) (drop size (byte ∷ rest))
    (omega arith) (omega arith))

pub columns_on : (bytes : List ℕ) (at : ℕ) → at < length bytes
    → columns (drop at bytes) ≡ 1 + columns (drop (at + first_size (drop at bytes)) bytes)
columns_on bytes at more =
    columns_step (drop at bytes) (omega (arith, length-drop at bytes))
    ∙ ap (λ l. 1 + columns l) (drop-drop (first_size (drop at bytes)) at bytes)

pub no_columns : (bytes : List ℕ) → length bytes ≡ 0 → columns bytes ≡ 0
unfolding columns_within
no_columns [] none = refl
no_columns (byte ∷ rest) none = let no : ⊥ = omega arith in absurd no

-- ASCII bytes take one column each
ascii_columns_from : (bytes : List ℕ) → IsAscii bytes → (left at : ℕ) → at + left ≡ length bytes
    → columns (drop at bytes) ≡ left
ascii_columns_from bytes low zero at all =
    no_columns (drop at bytes) (omega (arith, length-drop at bytes, all))
ascii_columns_from bytes low (suc left) at all =
    let one = ascii_takes_one bytes at (omega (arith, all)) (low at) in
    let next = ascii_columns_from bytes low left (at + 1) (omega (arith, all)) in
    let same = ap (λ size. columns (drop (at + size) bytes)) one in
    omega (arith, columns_on bytes at (omega (arith, all)), same, next)

pub ascii_columns : (bytes : List ℕ) → IsAscii bytes → length bytes ≡ columns bytes
ascii_columns bytes low = sym (ascii_columns_from bytes low (length bytes) 0 (omega arith))

-- the loop that counts: one more character, and the end
pub columns_next : (bytes : List ℕ) (at count size : ℕ) → at < length bytes
    → size ≡ first_size (drop at bytes) → count + columns (drop at bytes) ≡ columns bytes
    → (count + 1) + columns (drop (at + size) bytes) ≡ columns bytes
columns_next bytes at count size more is counted =
    let same = ap (λ n. columns (drop (at + n) bytes)) is in
    omega (arith, columns_on bytes at more, same, counted)

pub columns_end : (bytes : List ℕ) (at count : ℕ) → length bytes ≤ at
    → count + columns (drop at bytes) ≡ columns bytes → count ≡ columns bytes
columns_end bytes at count over counted =
    omega (arith, counted, no_columns (drop at bytes) (omega (arith, length-drop at bytes)))
