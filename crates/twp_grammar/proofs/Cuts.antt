-- The token that is split off bytes is the only token that they begin with.
use Rattle.std.proofs.Common.{◌≡◌, ◌==◌, ℕ, zero, suc, ◌<◌, ◌≤◌, ◌⊎◌, Bool, true, false, cond, ◌&&◌, List, []}
use Rattle.std.proofs.Common.{◌∷◌, ◌++◌, length, take, drop, slice_index, refl, sym, ap, subst, ◌∙◌, inl, inr}
use Rattle.std.proofs.Common.{arith, le-leb, not}
use Rattle.std.specs.Char.{is_ascii_alphabetic, is_ascii_digit}
use Rattle.std.specs.List.{prefix_len, list_all}
use Rattle.std.specs.Str.Parse.{digits_value}
use Rattle.std.proofs.lemmas.Bool.{eqb-true, eq-eqb, false≢true}
use Rattle.std.proofs.Math.Dec.{leb}
use Rattle.std.proofs.lemmas.Bool.Decides.{leb_tells}
use Rattle.std.proofs.lemmas.List.{take-append-drop}
use Rattle.std.proofs.lemmas.List.Sums.{list_all-from_AllPass, prefix_len-le-length}
use Rattle.std.proofs.lemmas.List.Folds.{length-prefix_len}
use Rattle.std.proofs.Math.Seq.{take-append_seam}
use Rattle.twp_grammar.specs.declared.tokens.Kind.{Kind}
use Rattle.twp_grammar.specs.declared.tokens.Kind.TheVariants.{Half, Quarter, Number, Comma, Semicolon, Colon}
use Rattle.twp_grammar.specs.declared.tokens.Kind.TheVariants.{Stop, BadNumber, BadByte}
use Rattle.twp_grammar.specs.declared.tokens.Lexeme.{Lexeme}
use Rattle.twp_grammar.specs.Cutting.{lexeme, cut_word, numeral_of, cut_number, cut_digits, cut_mark}
use Rattle.twp_grammar.specs.Cutting.{cut}
use Rattle.std.specs.Str.{str_to_ascii_lowercase}
use Rattle.twp_grammar.specs.Tokens.{is_white, Word, same_bytes, words, kind_among, kind_of_word, begins_with}
use Rattle.twp_grammar.specs.Tokens.{IsWholeRun, Begins, IsNumber, IsGoodToken, a_word, a_number}
use Rattle.twp_grammar.specs.Tokens.{a_bad_number, a_half, a_half_sign, a_quarter, a_quarter_sign, a_comma}
use Rattle.twp_grammar.specs.Tokens.{a_semicolon, a_colon, a_stop, NoGoodToken, IsToken, good, bad}
use Rattle.twp_grammar.proofs.ByteRuns.{letter_no_digit, letter_no_space, digit_no_space, both, run_of}
use Rattle.twp_grammar.proofs.ByteRuns.{front_run, starts_run}

-- a half or a quarter in digits is present exactly if its three bytes are
abbrev three : List ℕ → ℕ → Bool
three bytes last = (slice_index bytes 0 == 49) && (slice_index bytes 1 == 47) && (slice_index bytes 2 == last)

three_tells : (bytes : List ℕ) (last : ℕ) → 0 < last → three bytes last ≡ true
    → bytes ≡ 49 ∷ 47 ∷ last ∷ drop 3 bytes
three_tells [] last some h = cc h
three_tells (a ∷ []) last some h =
    absurd (false≢true (sym (never (a == 49)) ∙ (both ((a == 49) && (0 == 47)) (0 == last) h).0))
  where
    never : (x : Bool) → (x && false) ≡ false
    never true = refl
    never false = refl
three_tells (a ∷ b ∷ []) last some h =
    let here : 0 ≡ last = eqb-true 0 last (both ((a == 49) && (b == 47)) (0 == last) h).1 in
    absurd (omega arith)
three_tells (a ∷ b ∷ c ∷ rest) last some h =
    let outer = both ((a == 49) && (b == 47)) (c == last) h in
    let inner = both (a == 49) (b == 47) outer.0 in
    let first : a ≡ 49 = eqb-true a 49 inner.0 in
    let second : b ≡ 47 = eqb-true b 47 inner.1 in
    let third : c ≡ last = eqb-true c last outer.1 in
    rw (first, second, third) refl

not_three : (bytes : List ℕ) (last : ℕ) → 0 < last → ¬ Begins (49 ∷ 47 ∷ last ∷ []) bytes
    → three bytes last ≡ false
not_three bytes last some apart = by_test (three bytes last) refl
  where
    by_test : (x : Bool) → three bytes last ≡ x → three bytes last ≡ false
    by_test true e = absurd (apart (drop 3 bytes, three_tells bytes last some e))
    by_test false e = e

no_begin : (bytes : List ℕ) (last : ℕ) → three bytes last ≡ false → ¬ Begins (49 ∷ 47 ∷ last ∷ []) bytes
no_begin bytes last h (more, e) =
    let there : three bytes last ≡ true = rw e (eq-eqb last last refl) in
    false≢true (sym h ∙ there)

-- a good token is the one that is split off
pub record IsTheCut (text rest : List ℕ) (kind : Kind) : Type 0 where
  pub is : cut (text ++ rest) ≡ lexeme kind (length text)
  pub some : 0 < length text
  pub no_space : begins_with is_white (text ++ rest) ≡ false

cut_letters : (byte : ℕ) (bytes : List ℕ) → is_ascii_alphabetic byte ≡ true
    → cut (byte ∷ bytes) ≡ cut_word (byte ∷ bytes)
unfolding cut
cut_letters byte bytes h = rw h refl

cut_a_digit : (byte : ℕ) (bytes : List ℕ) → is_ascii_digit byte ≡ true
    → cut (byte ∷ bytes) ≡ cut_digits (byte ∷ bytes)
unfolding cut
cut_a_digit byte bytes h = rw (letter_no_digit byte h, h) refl

pub cut_of_digit : (bytes : List ℕ) → is_ascii_digit (slice_index bytes 0) ≡ true
    → cut bytes ≡ cut_digits bytes
cut_of_digit [] h = cc h
cut_of_digit (byte ∷ bytes) h = cut_a_digit byte bytes h

word_at : (text rest : List ℕ) (size : ℕ) → prefix_len is_ascii_alphabetic (text ++ rest) ≡ size
    → take size (text ++ rest) ≡ text → cut_word (text ++ rest) ≡ lexeme (kind_of_word text) size
unfolding cut_word
word_at text rest size e f =
    ap (λ n. lexeme (kind_of_word (take n (text ++ rest))) n) e ∙ ap (λ t. lexeme (kind_of_word t) size) f

number_at : (text rest : List ℕ) (size : ℕ) → prefix_len is_ascii_digit (text ++ rest) ≡ size
    → cut_number (text ++ rest) ≡ numeral_of size (text ++ rest)
unfolding cut_number
number_at text rest size e = ap (λ n. numeral_of n (text ++ rest)) e

no_fraction : (bytes : List ℕ) → three bytes 50 ≡ false → three bytes 52 ≡ false
    → cut_digits bytes ≡ cut_number bytes
unfolding cut_digits
no_fraction bytes h h' = rw (h, h') refl

the_word : (text rest : List ℕ) → IsWholeRun is_ascii_alphabetic text rest
    → IsTheCut text rest (kind_of_word text)
the_word [] rest run = absurd (let some : 0 < 0 = run.some in omega arith)
the_word (byte ∷ text) rest run =
    let parts =
    both (is_ascii_alphabetic byte) (list_all is_ascii_alphabetic text)
    (list_all-from_AllPass is_ascii_alphabetic (byte ∷ text) run.all) in
    record {
      is =
          cut_letters byte (text ++ rest) parts.0
          ∙ word_at (byte ∷ text) rest (length (byte ∷ text))
          (run_of is_ascii_alphabetic (byte ∷ text) rest run) (take-append_seam (byte ∷ text) rest);
      some = run.some;
      no_space = letter_no_space byte parts.0;
    }

few_digits : (size : ℕ) (bytes : List ℕ) → size ≤ 4
    → numeral_of size bytes ≡ lexeme (Number (digits_value 10 (take size bytes))) size
few_digits size bytes few =
    ap (λ x. cond x (lexeme (Number (digits_value 10 (take size bytes))) size) (lexeme BadNumber size))
    (le-leb size 4 few)

not_le : (n : ℕ) → 4 < n → leb n 4 ≡ false
not_le n many = elim (leb_tells n 4) [ inl (e, few) ↦ absurd (omega arith) | inr (e, more) ↦ e ]

many_digits : (size : ℕ) (bytes : List ℕ) → 4 < size → numeral_of size bytes ≡ lexeme BadNumber size
many_digits size bytes many =
    ap (λ x. cond x (lexeme (Number (digits_value 10 (take size bytes))) size) (lexeme BadNumber size))
    (not_le size many)

the_number : (text rest : List ℕ) (kind : Kind) → IsNumber text rest
    → ((size : ℕ) → size ≡ length text → numeral_of size (text ++ rest) ≡ lexeme kind size)
    → IsTheCut text rest kind
the_number [] rest kind number which = absurd (let some : 0 < 0 = number.run.some in omega arith)
the_number (byte ∷ text) rest kind number which =
    let parts =
    both (is_ascii_digit byte) (list_all is_ascii_digit text)
    (list_all-from_AllPass is_ascii_digit (byte ∷ text) number.run.all) in
    record {
      is = cut_a_digit byte (text ++ rest) parts.0
          ∙ no_fraction (byte ∷ text ++ rest)
          (not_three (byte ∷ (text ++ rest)) 50 (omega arith) number.no_half)
          (not_three (byte ∷ (text ++ rest)) 52 (omega arith) number.no_quarter)
          ∙ number_at (byte ∷ text) rest (length (byte ∷ text))
          (run_of is_ascii_digit (byte ∷ text) rest number.run)
          ∙ which (length (byte ∷ text)) refl;
      some = number.run.some;
      no_space = digit_no_space byte parts.0;
    }

the_good : (text rest : List ℕ) (kind : Kind) → IsGoodToken text rest kind → IsTheCut text rest kind
unfolding cut cut_digits cut_mark
the_good text rest kind (a_word run e) = rw e (the_word text rest run)
the_good text rest kind (a_number number few e) =
    rw e (the_number text rest (Number (digits_value 10 text)) number
    (λ size same.
    few_digits size (text ++ rest) (omega arith)
    ∙ ap (λ t. lexeme (Number (digits_value 10 t)) size)
    (ap (λ n. take n (text ++ rest)) same ∙ take-append_seam text rest)))
the_good text rest kind (a_bad_number number many e) =
    rw e (the_number text rest BadNumber number (λ size same. many_digits size (text ++ rest) (omega arith)))
the_good text rest kind (a_half t e) = rw (t, e) (record { is = refl; some = omega arith; no_space = refl })
the_good text rest kind (a_half_sign t e) =
    rw (t, e) (record { is = refl; some = omega arith; no_space = refl })
the_good text rest kind (a_quarter t e) =
    rw (t, e) (record { is = refl; some = omega arith; no_space = refl })
the_good text rest kind (a_quarter_sign t e) =
    rw (t, e) (record { is = refl; some = omega arith; no_space = refl })
the_good text rest kind (a_comma t e) = rw (t, e) (record { is = refl; some = omega arith; no_space = refl })
the_good text rest kind (a_semicolon t e) =
    rw (t, e) (record { is = refl; some = omega arith; no_space = refl })
the_good text rest kind (a_colon t e) = rw (t, e) (record { is = refl; some = omega arith; no_space = refl })
the_good text rest kind (a_stop t e) = rw (t, e) (record { is = refl; some = omega arith; no_space = refl })

-- the token that is split off is good, or is one bad byte
abbrev Cuts : List ℕ → Lexeme → Type 0
Cuts bytes l =
    ((l.size ≤ length bytes) × IsGoodToken (take l.size bytes) (drop l.size bytes) l.kind)
    ⊎ (l ≡ lexeme BadByte 1)

choose : (bytes : List ℕ) (test : Bool) (a b : Lexeme) → (test ≡ true → Cuts bytes a)
    → (test ≡ false → Cuts bytes b) → Cuts bytes (cond test a b)
choose bytes true a b chosen other = chosen refl
choose bytes false a b chosen other = other refl

one_byte : (byte : ℕ) (bytes : List ℕ) (value : ℕ) (kind : Kind)
    → ((text rest : List ℕ) → text ≡ value ∷ [] → IsGoodToken text rest kind) → (byte == value) ≡ true
    → Cuts (byte ∷ bytes) (lexeme kind 1)
one_byte byte bytes value kind made h = inl (
  omega arith,
  made (take 1 (byte ∷ bytes)) (drop 1 (byte ∷ bytes)) (ap (λ b. b ∷ []) (eqb-true byte value h)),
)

two_bytes : (byte : ℕ) (bytes : List ℕ) (value : ℕ) (kind : Kind) → 0 < value
    → ((text rest : List ℕ) → text ≡ 194 ∷ value ∷ [] → IsGoodToken text rest kind)
    → ((byte == 194) && (slice_index bytes 0 == value)) ≡ true → Cuts (byte ∷ bytes) (lexeme kind 2)
two_bytes byte [] value kind some made h =
    let none : 0 ≡ value = eqb-true 0 value (both (byte == 194) (0 == value) h).1 in
    absurd (omega arith)
two_bytes byte (second ∷ bytes) value kind some made h =
    let parts = both (byte == 194) (second == value) h in
    let e : byte ≡ 194 = eqb-true byte 194 parts.0 in
    let f : second ≡ value = eqb-true second value parts.1 in
    inl (omega arith, made (take 2 (byte ∷ second ∷ bytes)) (drop 2 (byte ∷ second ∷ bytes)) (rw (e, f) refl))

mark_cuts : (byte : ℕ) (bytes : List ℕ) → Cuts (byte ∷ bytes) (cut_mark byte (slice_index bytes 0))
unfolding cut_mark
mark_cuts byte bytes =
    choose _ (byte == 44) _ _ (one_byte byte bytes 44 Comma (λ text rest t. a_comma t refl)) (λ _.
    choose _ (byte == 46) _ _ (one_byte byte bytes 46 Stop (λ text rest t. a_stop t refl)) (λ _.
    choose _ (byte == 59) _ _ (one_byte byte bytes 59 Semicolon (λ text rest t. a_semicolon t refl)) (λ _.
    choose _ (byte == 58) _ _ (one_byte byte bytes 58 Colon (λ text rest t. a_colon t refl)) (λ _.
    choose _ ((byte == 194) && (slice_index bytes 0 == 189)) _ _
    (two_bytes byte bytes 189 Half (omega arith) (λ text rest t. a_half_sign t refl)) (λ _.
    choose _ ((byte == 194) && (slice_index bytes 0 == 188)) _ _
    (two_bytes byte bytes 188 Quarter (omega arith) (λ text rest t. a_quarter_sign t refl)) (λ _.
    inr refl))))))

word_cuts : (byte : ℕ) (bytes : List ℕ) → is_ascii_alphabetic byte ≡ true
    → Cuts (byte ∷ bytes) (cut_word (byte ∷ bytes))
unfolding cut_word
word_cuts byte bytes h = inl (
  prefix_len-le-length is_ascii_alphabetic (byte ∷ bytes),
  a_word (front_run is_ascii_alphabetic (byte ∷ bytes) (starts_run is_ascii_alphabetic byte bytes h)) refl,
)

fraction_cuts : (bytes : List ℕ) (last : ℕ) (kind : Kind) → 0 < last
    → ((text rest : List ℕ) → text ≡ 49 ∷ 47 ∷ last ∷ [] → IsGoodToken text rest kind)
    → three bytes last ≡ true → Cuts bytes (lexeme kind 3)
fraction_cuts bytes last kind some made h =
    let e : bytes ≡ 49 ∷ 47 ∷ last ∷ drop 3 bytes = three_tells bytes last some h in
    let front : take 3 bytes ≡ 49 ∷ 47 ∷ last ∷ [] = ap (λ b. take 3 b) e in
    let long : length bytes ≡ length (49 ∷ 47 ∷ last ∷ drop 3 bytes) = ap length e in
    inl (omega arith, made (take 3 bytes) (drop 3 bytes) front)

number_cuts : (byte : ℕ) (bytes : List ℕ) → is_ascii_digit byte ≡ true → three (byte ∷ bytes) 50 ≡ false
    → three (byte ∷ bytes) 52 ≡ false → Cuts (byte ∷ bytes) (cut_number (byte ∷ bytes))
unfolding cut_number
number_cuts byte bytes h no_half no_quarter =
    let all_bytes = byte ∷ bytes in
    let size = prefix_len is_ascii_digit all_bytes in
    let whole : take size all_bytes ++ drop size all_bytes ≡ all_bytes = take-append-drop size all_bytes in
    let number : IsNumber (take size all_bytes) (drop size all_bytes) = record {
      run = front_run is_ascii_digit all_bytes (starts_run is_ascii_digit byte bytes h);
      no_half = rw whole (no_begin all_bytes 50 no_half);
      no_quarter = rw whole (no_begin all_bytes 52 no_quarter);
    } in
    elim (leb_tells size 4) [
      | inl (e, few) ↦ rw few_digits (inl (
        prefix_len-le-length is_ascii_digit all_bytes,
        a_number number (rw length-prefix_len few) refl,
      ))
      | inr (e, many) ↦ rw many_digits (inl (
        prefix_len-le-length is_ascii_digit all_bytes,
        a_bad_number number (rw length-prefix_len many) refl,
      ))
    ]

digit_cuts : (byte : ℕ) (bytes : List ℕ) → is_ascii_digit byte ≡ true
    → Cuts (byte ∷ bytes) (cut_digits (byte ∷ bytes))
unfolding cut_digits
digit_cuts byte bytes h =
    choose _ (three (byte ∷ bytes) 50) _ _
    (fraction_cuts (byte ∷ bytes) 50 Half (omega arith) (λ text rest t. a_half t refl)) (λ no_half.
    choose _ (three (byte ∷ bytes) 52) _ _
    (fraction_cuts (byte ∷ bytes) 52 Quarter (omega arith) (λ text rest t. a_quarter t refl)) (λ no_quarter.
    number_cuts byte bytes h no_half no_quarter))

cuts : (byte : ℕ) (bytes : List ℕ) → Cuts (byte ∷ bytes) (cut (byte ∷ bytes))
unfolding cut
cuts byte bytes =
    choose _ (is_ascii_alphabetic byte) _ _ (word_cuts byte bytes) (λ _.
    choose _ (is_ascii_digit byte) _ _ (digit_cuts byte bytes) (λ _. mark_cuts byte bytes))

-- a good token is not a bad byte
abbrev is_bad_byte : Kind → Bool
is_bad_byte BadByte = true
is_bad_byte _ = false

none_among : (letters : List ℕ) (ws : List Word) → list_all (λ (w : Word). not (is_bad_byte w.kind)) ws ≡ true
    → is_bad_byte (kind_among letters ws) ≡ false
none_among letters [] all = refl
none_among letters (w ∷ ws) all =
    let parts = both (not (is_bad_byte w.kind)) (list_all (λ (v : Word). not (is_bad_byte v.kind)) ws) all in
    by_test (same_bytes letters w.letters) (is_bad_byte w.kind) refl parts.0 (none_among letters ws parts.1)
  where
    by_test : (x y : Bool) → is_bad_byte w.kind ≡ y → not y ≡ true
        → is_bad_byte (kind_among letters ws) ≡ false
        → is_bad_byte (cond x w.kind (kind_among letters ws)) ≡ false
    by_test true true e h more = cc h
    by_test true false e h more = e
    by_test false y e h more = more

good_kind : (text rest : List ℕ) (kind : Kind) → IsGoodToken text rest kind → is_bad_byte kind ≡ false
good_kind text rest kind (a_word run e) = rw e (none_among (str_to_ascii_lowercase text) words refl)
good_kind text rest kind (a_number number few e) = rw e refl
good_kind text rest kind (a_bad_number number many e) = rw e refl
good_kind text rest kind (a_half t e) = rw e refl
good_kind text rest kind (a_half_sign t e) = rw e refl
good_kind text rest kind (a_quarter t e) = rw e refl
good_kind text rest kind (a_quarter_sign t e) = rw e refl
good_kind text rest kind (a_comma t e) = rw e refl
good_kind text rest kind (a_semicolon t e) = rw e refl
good_kind text rest kind (a_colon t e) = rw e refl
good_kind text rest kind (a_stop t e) = rw e refl

pub kind_of_cut : (l : Lexeme) (kind : Kind) (size : ℕ) → l ≡ lexeme kind size → l.kind ≡ kind
kind_of_cut l kind size e = ap (λ (m : Lexeme). m.kind) e

pub size_of_cut : (l : Lexeme) (kind : Kind) (size : ℕ) → l ≡ lexeme kind size → l.size ≡ size
size_of_cut l kind size e = ap (λ (m : Lexeme). m.size) e

nothing_good : (bytes : List ℕ) → cut bytes ≡ lexeme BadByte 1 → NoGoodToken bytes
nothing_good bytes e text rest kind spelled is_good =
    let found : cut (text ++ rest) ≡ lexeme kind (length text) = (the_good text rest kind is_good).is in
    let same : kind ≡ BadByte =
    sym (kind_of_cut (cut (text ++ rest)) kind (length text) found)
    ∙ ap (λ b. (cut b).kind) (sym spelled)
    ∙ kind_of_cut (cut bytes) BadByte 1 e in
    false≢true (sym (good_kind text rest kind is_good) ∙ ap is_bad_byte same)

pub the_cut : (text rest : List ℕ) (kind : Kind) → IsToken text rest kind → IsTheCut text rest kind
the_cut text rest kind (good is_good) = the_good text rest kind is_good
the_cut text rest kind (bad is_bad e) = rw (e, is_bad.is) (elim (cuts is_bad.byte rest) [
  | inl (fits, is_good) ↦
      let l = cut (is_bad.byte ∷ rest) in
      let apart : NoGoodToken (is_bad.byte ∷ rest) =
      subst (λ t. NoGoodToken (t ++ rest)) is_bad.is is_bad.no_token in
      absurd
      (apart (take l.size (is_bad.byte ∷ rest)) (drop l.size (is_bad.byte ∷ rest)) l.kind
      (sym (take-append-drop l.size (is_bad.byte ∷ rest))) is_good)
  | inr e' ↦ record { is = e'; some = omega arith; no_space = is_bad.no_space }
])

-- the token that is split off
pub record IsFirstToken (bytes : List ℕ) (l : Lexeme) : Type 0 where
  pub some : 0 < l.size
  pub fits : l.size ≤ length bytes
  pub is : IsToken (take l.size bytes) (drop l.size bytes) l.kind

size_of_take : (n : ℕ) (bytes : List ℕ) → 0 < length (take n bytes) → 0 < n
size_of_take zero bytes h = h
size_of_take (suc n) bytes h = omega arith

pub cut_is_token : (byte : ℕ) (bytes : List ℕ) → is_white byte ≡ false
    → IsFirstToken (byte ∷ bytes) (cut (byte ∷ bytes))
cut_is_token byte bytes space = elim (cuts byte bytes) [
  | inl (fits, is_good) ↦
      let l = cut (byte ∷ bytes) in
      record {
        some =
            size_of_take l.size (byte ∷ bytes)
            (the_good (take l.size (byte ∷ bytes)) (drop l.size (byte ∷ bytes)) l.kind is_good).some;
        fits = fits;
        is = good is_good;
      }
  | inr e ↦
      let apart : NoGoodToken (byte ∷ bytes) = nothing_good (byte ∷ bytes) e in
      let first : IsFirstToken (byte ∷ bytes) (lexeme BadByte 1) = record {
        some = omega arith;
        fits = omega arith;
        is = bad (record { byte = byte; is = refl; no_space = space; no_token = apart }) refl;
      } in
      subst (λ (l : Lexeme). IsFirstToken (byte ∷ bytes) l) (sym e) first
]
