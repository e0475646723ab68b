-- White space that is looked at byte by byte, or sixteen bytes together.
use Rattle.std.proofs.Common.{◌≡◌, ℕ, ◌+◌, ◌*◌, ◌%◌, ◌^◌, ◌<◌, ◌≤◌, Bool, true, false, not, ◌||◌, ◌==◌, cond}
use Rattle.std.proofs.Common.{eqb, List, [], ◌∷◌, map, length, drop, refl, sym, ap, ap₂, ◌∙◌, arith}
use Rattle.std.proofs.Common.{length-drop, zero, suc, slice_index, get_or-drop, true≢false, pow-suc}
use Rattle.std.proofs.lemmas.Simd.{chunk-drop, length-chunk, leading_from_mask_l, trailing_mask_l, mask_l-mod}
use Rattle.std.proofs.lemmas.Simd.{none_from_empty_mask, run_in_chunk_le, run_in_chunk_fails}
use Rattle.std.proofs.lemmas.List.{length-map, drop-drop}
use Rattle.std.proofs.lemmas.List.Folds.{prefix_len-append}
use Rattle.std.proofs.lemmas.List.Sums.{prefix_len-le-length}
use Rattle.std.proofs.lemmas.Bool.{eq-eqb, ne_eqb}
use Rattle.std.specs.List.{prefix_len}
use lib.Bits.{bit_and}
use lib.Lanes.{chunk, mask_l, top}
use lib.Count.{count_trailing_zeros}
use Rattle.twp_grammar.specs.Tokens.{is_white, begins_with}
use Rattle.twp_grammar.specs.Cutting.{is_dark}

-- white space from a place on lies within the text
pub white_within : (text : List ℕ) (at : ℕ) → at ≤ length text
    → at + prefix_len is_white (drop at text) ≤ length text
white_within text at h = omega (arith, prefix_len-le-length is_white (drop at text), length-drop at text)

-- of bytes that begin with white space, and of those that don't
one_more : (bytes : List ℕ) → begins_with is_white bytes ≡ true
    → prefix_len is_white bytes ≡ 1 + prefix_len is_white (drop 1 bytes)
one_more [] h = cc h
one_more (x ∷ xs) h = rw h refl

pub none_white : (bytes : List ℕ) → begins_with is_white bytes ≡ false → prefix_len is_white bytes ≡ 0
none_white [] h = refl
none_white (x ∷ xs) h = rw h refl

pub one_more_white : (text : List ℕ) (at : ℕ) → begins_with is_white (drop at text) ≡ true
    → prefix_len is_white (drop at text) ≡ 1 + prefix_len is_white (drop (at + 1) text)
one_more_white text at h =
    one_more (drop at text) h ∙ ap (λ b. 1 + prefix_len is_white b) (drop-drop 1 at text)

-- from one place to another, where all that stands between them is white space
pub white_between : (text : List ℕ) (at n : ℕ)
    → ((k : ℕ) → at ≤ k → k < at + n → begins_with is_white (drop k text) ≡ true)
    → at + n + prefix_len is_white (drop (at + n) text) ≡ at + prefix_len is_white (drop at text)
white_between text at zero white =
    let place : at + 0 ≡ at = omega arith in
    ap (λ m. m + prefix_len is_white (drop m text)) place
white_between text at (suc n) white =
    let one = one_more_white text at (white at (omega arith) (omega arith)) in
    let more = white_between text (at + 1) n (λ k low high. white k (omega arith) (omega arith)) in
    let place : at + 1 + n ≡ at + suc n = omega arith in
    ap (λ m. m + prefix_len is_white (drop m text)) (sym place) ∙ more ∙ omega (arith, one)

-- a lane that is unlike two bytes, and unlike two more
abbrev apart : ℕ → ℕ → ℕ
apart a b = cond (not (eqb a b)) 255 0

is_top : (a b c d : Bool)
    → top 7
    (bit_and (bit_and (cond (not a) 255 0) (cond (not b) 255 0))
    (bit_and (cond (not c) 255 0) (cond (not d) 255 0)))
    ≡ not (a || b || c || d)
is_top true true true true = refl
is_top true true true false = refl
is_top true true false true = refl
is_top true true false false = refl
is_top true false true true = refl
is_top true false true false = refl
is_top true false false true = refl
is_top true false false false = refl
is_top false true true true = refl
is_top false true true false = refl
is_top false true false true = refl
is_top false true false false = refl
is_top false false true true = refl
is_top false false true false = refl
is_top false false false true = refl
is_top false false false false = refl

tops : (bytes : List ℕ)
    → map (top 7)
    (map (λ x. bit_and (bit_and (apart x 32) (apart x 9)) (bit_and (apart x 10) (apart x 13))) bytes)
    ≡ map is_dark bytes
tops [] = refl
tops (x ∷ xs) = ap₂ (λ a b. a ∷ b) (is_top (x == 32) (x == 9) (x == 10) (x == 13)) (tops xs)

-- the mask of lanes that are unlike each kind of white space
pub dark_mask : (bytes lanes : List ℕ) → length bytes ≤ 64
    → lanes ≡ map (λ x. bit_and (bit_and (apart x 32) (apart x 9)) (bit_and (apart x 10) (apart x 13))) bytes
    → mask_l (map (top 7) lanes) % 2 ^ 64 ≡ mask_l (map is_dark bytes)
dark_mask bytes lanes short e =
    ap (λ l. mask_l l % 2 ^ 64) (ap (map (top 7)) e ∙ tops bytes)
    ∙ mask_l-mod (map is_dark bytes) 64 (omega (arith, length-map bytes is_dark))

-- bytes are white as far as they aren't dark
not_dark : (b : Bool) → b ≡ not (not b)
not_dark true = refl
not_dark false = refl

same_run : (bytes : List ℕ) → prefix_len is_white bytes ≡ prefix_len (λ x. not (is_dark x)) bytes
same_run [] = refl
same_run (x ∷ xs) = ap₂ (λ b n. cond b (1 + n) 0) (not_dark (is_white x)) (same_run xs)

split : (text : List ℕ) (at n : ℕ)
    → prefix_len is_white (drop at text)
    ≡ cond (eqb (prefix_len is_white (chunk at n text)) (length (chunk at n text)))
    (length (chunk at n text) + prefix_len is_white (drop (at + n) text))
    (prefix_len is_white (chunk at n text))
split text at n =
    ap (prefix_len is_white) (chunk-drop at n text)
    ∙ prefix_len-append is_white (chunk at n text) (drop (at + n) text)

pub all_white_lanes : (text : List ℕ) (at n : ℕ) → at + n ≤ length text
    → mask_l (map is_dark (chunk at n text)) ≡ 0
    → prefix_len is_white (drop at text) ≡ n + prefix_len is_white (drop (at + n) text)
all_white_lanes text at n room none =
    let c = chunk at n text in
    split text at n
    ∙ ap (λ b. cond b (length c + prefix_len is_white (drop (at + n) text)) (prefix_len is_white c))
    (eq-eqb _ _ (same_run c ∙ leading_from_mask_l is_dark c none))
    ∙ ap (λ k. k + prefix_len is_white (drop (at + n) text)) (length-chunk at n text room)

-- a mask of the lanes that pass a test, and one of those that don't
other_lane : (b : Bool) (these others all : ℕ) → others + these + 1 ≡ all
    → cond (not b) 1 0 + 2 * others + (cond b 1 0 + 2 * these) + 1 ≡ all * 2
other_lane true these others all e = omega arith
other_lane false these others all e = omega arith

pub other_lanes : (test : ℕ → Bool) (bytes : List ℕ)
    → mask_l (map (λ x. not (test x)) bytes) + mask_l (map test bytes) + 1 ≡ 2 ^ length bytes
other_lanes test [] = refl
other_lanes test (x ∷ xs) =
    other_lane (test x) (mask_l (map test xs)) (mask_l (map (λ y. not (test y)) xs)) (2 ^ length xs)
    (other_lanes test xs)
    ∙ sym (pow-suc 2 (length xs))

-- what is at a place is a space, where it isn't unlike one
is_space : (bytes : List ℕ) → 0 < length bytes → not (slice_index bytes 0 == 32) ≡ false
    → begins_with is_white bytes ≡ true
is_space [] some same = absurd (omega arith)
is_space (x ∷ xs) some same = by_test (x == 32) same
  where
    by_test : (b : Bool) → not b ≡ false → (b || (x == 9) || (x == 10) || (x == 13)) ≡ true
    by_test true same = refl
    by_test false same = absurd (true≢false same)

space_at : (text : List ℕ) (k : ℕ) → k < length text → not (slice_index text k == 32) ≡ false
    → begins_with is_white (drop k text) ≡ true
space_at text k within same =
    let place : k + 0 ≡ k = omega arith in
    is_space (drop k text) (omega (arith, length-drop k text))
    (ap (λ b. not (b == 32)) (get_or-drop k text 0 0 ∙ ap (slice_index text) place) ∙ same)

-- where no lane is unlike a space, and up to the first that is
pub all_spaces : (text : List ℕ) (at n others : ℕ) → at + n ≤ length text
    → others ≡ mask_l (map (λ byte. not (byte == 32)) (chunk at n text)) → others ≡ 0
    → at + n + prefix_len is_white (drop (at + n) text) ≡ at + prefix_len is_white (drop at text)
all_spaces text at n others room marked none =
    white_between text at n (λ k low high. space_at text k (omega arith)
    (none_from_empty_mask (λ byte. not (byte == 32)) text at n 0 room (sym marked ∙ none) k low high))

pub spaces_ahead : (text : List ℕ) (at n others : ℕ) → at + n ≤ length text → n ≤ 64
    → others ≡ mask_l (map (λ byte. not (byte == 32)) (chunk at n text)) → 0 < others
    → at + count_trailing_zeros 64 others
    + prefix_len is_white (drop (at + count_trailing_zeros 64 others) text)
    ≡ at + prefix_len is_white (drop at text)
spaces_ahead text at n others room few marked some =
    let other = λ (byte : ℕ). not (byte == 32) in
    let long = length-chunk at n text room in
    let counted : count_trailing_zeros 64 others ≡ prefix_len (λ x. not (other x)) (chunk at n text) =
    ap (count_trailing_zeros 64) marked
    ∙ trailing_mask_l other 64 (chunk at n text) (omega arith) (omega (arith, marked)) in
    let within = run_in_chunk_le other text at n (count_trailing_zeros 64 others) 0 room counted in
    white_between text at (count_trailing_zeros 64 others) (λ k low high. space_at text k (omega arith)
    (run_in_chunk_fails other text at n (count_trailing_zeros 64 others) 0 room counted k low high))

-- where no lane is dark, the mask is empty
none_fails : (b : Bool) (n l m : ℕ) → n ≤ l → cond (not b) (1 + n) 0 ≡ 1 + l → (n ≡ l → m ≡ 0)
    → cond b 1 0 + 2 * m ≡ 0
none_fails true n l m le e more = let no : ⊥ = omega arith in absurd no
none_fails false n l m le e more = let z = more (omega arith) in omega arith

all_pass : (bytes : List ℕ) → prefix_len (λ x. not (is_dark x)) bytes ≡ length bytes
    → mask_l (map is_dark bytes) ≡ 0
all_pass [] e = refl
all_pass (x ∷ xs) e =
    none_fails (is_dark x) _ (length xs) _ (prefix_len-le-length (λ y. not (is_dark y)) xs) (omega arith)
    (all_pass xs)

pub some_dark_lane : (text : List ℕ) (at n : ℕ) → at + n ≤ length text → n ≤ 64
    → 0 < mask_l (map is_dark (chunk at n text))
    → prefix_len is_white (drop at text) ≡ count_trailing_zeros 64 (mask_l (map is_dark (chunk at n text)))
some_dark_lane text at n room short some =
    let c = chunk at n text in
    split text at n
    ∙ ap (λ b. cond b (length c + prefix_len is_white (drop (at + n) text)) (prefix_len is_white c))
    (ne_eqb _ _ (λ (e : prefix_len is_white c ≡ length c). omega (arith, all_pass c (sym (same_run c) ∙ e))))
    ∙ same_run c ∙ sym (trailing_mask_l is_dark 64 c (omega (arith, length-chunk at n text room)) some)
