-- The word that bytes begin with, found by its first letters.
use Rattle.std.proofs.Common.{zero, suc, drop, ◌-◌, length-drop, ◌≡◌, ◌==◌, ℕ, ◌+◌, ◌<◌, Bool, true, false}
use Rattle.std.proofs.Common.{cond, List, [], ◌∷◌, length, take, Option, Some, None, slice_index, refl, sym}
use Rattle.std.proofs.Common.{ap, subst, ◌∙◌, arith, ◌≤◌, ◌↔◌, IsTrue, ◌++◌, ◌&&◌, nat_le}
use Rattle.std.specs.Char.{is_ascii_alphabetic, to_ascii_lowercase}
use Rattle.std.specs.List.{prefix_len}
use Rattle.std.specs.Str.{str_to_ascii_lowercase}
use Rattle.twp_grammar.specs.declared.tokens.Lexeme.{Lexeme}
use Rattle.twp_grammar.specs.Cutting.{small_letter, lexeme, cut_word}
use Rattle.twp_grammar.specs.declared.tokens.Kind.{Kind}
use Rattle.twp_grammar.specs.declared.tokens.Kind.TheVariants.{Other}
use Rattle.twp_grammar.specs.Tokens.{Word, kind_of_word, kind_among, words, long_words, short_words}
use Rattle.twp_grammar.specs.Tokens.{same_bytes}
use Rattle.std.specs.List.{list_all}
use Rattle.std.proofs.lemmas.Bool.{eqb-true, eq-eqb, leb-true, false≢true}
use Rattle.std.proofs.lemmas.List.{length-map, drop-drop}
use Rattle.std.proofs.lemmas.List.Sums.{prefix_len-le-length}
use Rattle.std.proofs.lemmas.List.Folds.{length-prefix_len}

letters : List ℕ → ℕ
letters bytes = prefix_len is_ascii_alphabetic bytes

-- the letter and what it says of the byte
pub record IsLetter (byte small : ℕ) : Type 0 where
  pub letter : is_ascii_alphabetic byte ≡ true
  pub value : to_ascii_lowercase byte ≡ small

pub is_letter : (byte small : ℕ) → small_letter byte ≡ Some small → IsLetter byte small
is_letter byte small h = by_test (is_ascii_alphabetic byte) refl h
  where
    by_test : (x : Bool) → is_ascii_alphabetic byte ≡ x
        → cond x (Some (to_ascii_lowercase byte)) None ≡ Some small → IsLetter byte small
    by_test true e h = record { letter = e; value = cc h }
    by_test false e h = cc h

no_letter : (byte : ℕ) → small_letter byte ≡ None → is_ascii_alphabetic byte ≡ false
no_letter byte h = by_test (is_ascii_alphabetic byte) refl h
  where
    by_test : (x : Bool) → is_ascii_alphabetic byte ≡ x
        → (let o : Option ℕ = cond x (Some (to_ascii_lowercase byte)) None in o ≡ None)
        → is_ascii_alphabetic byte ≡ false
    by_test true e h = cc h
    by_test false e h = e

-- no letter at the start, no word
none_left : (bytes : List ℕ) → small_letter (slice_index bytes 0) ≡ None
    → prefix_len is_ascii_alphabetic bytes ≡ 0
none_left [] h = refl
none_left (byte ∷ bytes) h = rw (no_letter byte h) refl

-- a letter, and this many after it
one_more : (byte : ℕ) (bytes : List ℕ) (n : ℕ) → is_ascii_alphabetic byte ≡ true
    → prefix_len is_ascii_alphabetic bytes ≡ n → prefix_len is_ascii_alphabetic (byte ∷ bytes) ≡ 1 + n
one_more byte bytes n letter more =
    ap (λ x. cond x (1 + prefix_len is_ascii_alphabetic bytes) 0) letter ∙ ap (λ m. 1 + m) more

abbrev cut_to : ℕ → List ℕ → Lexeme
cut_to size bytes = lexeme (kind_of_word (take size bytes)) size

word_to : (bytes : List ℕ) (size : ℕ) → prefix_len is_ascii_alphabetic bytes ≡ size
    → cut_word bytes ≡ cut_to size bytes
unfolding cut_word
word_to bytes size e = ap (λ n. cut_to n bytes) e

pub one_letter : (bytes : List ℕ) (a : ℕ) → small_letter (slice_index bytes 0) ≡ Some a
    → small_letter (slice_index bytes 1) ≡ None → cut_word bytes ≡ lexeme (kind_among (a ∷ []) words) 1
one_letter [] a h0 end = cc h0
one_letter (x ∷ bytes) a h0 end =
    let first : IsLetter x a = is_letter x a h0 in
    word_to (x ∷ bytes) 1 (one_more x bytes 0 first.letter (none_left bytes end))
    ∙ ap (λ u. lexeme (kind_among (u ∷ []) words) 1) first.value

pub two_letters : (bytes : List ℕ) (a b : ℕ) → small_letter (slice_index bytes 0) ≡ Some a
    → small_letter (slice_index bytes 1) ≡ Some b → small_letter (slice_index bytes 2) ≡ None
    → cut_word bytes ≡ lexeme (kind_among (a ∷ b ∷ []) words) 2
two_letters [] a b h0 h1 end = cc h0
two_letters (x ∷ []) a b h0 h1 end = cc h1
two_letters (x ∷ y ∷ bytes) a b h0 h1 end =
    let first : IsLetter x a = is_letter x a h0 in
    let second : IsLetter y b = is_letter y b h1 in
    word_to (x ∷ y ∷ bytes) 2
    (one_more x (y ∷ bytes) 1 first.letter (one_more y bytes 0 second.letter (none_left bytes end)))
    ∙ ap (λ u. lexeme (kind_among (u ∷ to_ascii_lowercase y ∷ []) words) 2) first.value
    ∙ ap (λ u. lexeme (kind_among (a ∷ u ∷ []) words) 2) second.value

pub three_letters : (bytes : List ℕ) (a b c : ℕ) → small_letter (slice_index bytes 0) ≡ Some a
    → small_letter (slice_index bytes 1) ≡ Some b → small_letter (slice_index bytes 2) ≡ Some c
    → small_letter (slice_index bytes 3) ≡ None
    → cut_word bytes ≡ lexeme (kind_among (a ∷ b ∷ c ∷ []) words) 3
three_letters [] a b c h0 h1 h2 end = cc h0
three_letters (x ∷ []) a b c h0 h1 h2 end = cc h1
three_letters (x ∷ y ∷ []) a b c h0 h1 h2 end = cc h2
three_letters (x ∷ y ∷ z ∷ bytes) a b c h0 h1 h2 end =
    let first : IsLetter x a = is_letter x a h0 in
    let second : IsLetter y b = is_letter y b h1 in
    let third : IsLetter z c = is_letter z c h2 in
    word_to (x ∷ y ∷ z ∷ bytes) 3
    (one_more x (y ∷ z ∷ bytes) 2 first.letter
    (one_more y (z ∷ bytes) 1 second.letter (one_more z bytes 0 third.letter (none_left bytes end))))
    ∙ ap (λ u. lexeme (kind_among (u ∷ to_ascii_lowercase y ∷ to_ascii_lowercase z ∷ []) words) 3) first.value
    ∙ ap (λ u. lexeme (kind_among (a ∷ u ∷ to_ascii_lowercase z ∷ []) words) 3) second.value
    ∙ ap (λ u. lexeme (kind_among (a ∷ b ∷ u ∷ []) words) 3) third.value

-- four letters and more
pub long : (bytes : List ℕ) (a b c d : ℕ) → small_letter (slice_index bytes 0) ≡ Some a
    → small_letter (slice_index bytes 1) ≡ Some b → small_letter (slice_index bytes 2) ≡ Some c
    → small_letter (slice_index bytes 3) ≡ Some d → 3 < prefix_len is_ascii_alphabetic bytes
long [] a b c d h0 h1 h2 h3 = cc h0
long (x ∷ []) a b c d h0 h1 h2 h3 = cc h1
long (x ∷ y ∷ []) a b c d h0 h1 h2 h3 = cc h2
long (x ∷ y ∷ z ∷ []) a b c d h0 h1 h2 h3 = cc h3
long (x ∷ y ∷ z ∷ w ∷ bytes) a b c d h0 h1 h2 h3 =
    let more : ℕ = prefix_len is_ascii_alphabetic bytes in
    let size : prefix_len is_ascii_alphabetic (x ∷ y ∷ z ∷ w ∷ bytes) ≡ 1 + (1 + (1 + (1 + more))) =
    one_more x (y ∷ z ∷ w ∷ bytes) (1 + (1 + (1 + more))) (is_letter x a h0).letter
    (one_more y (z ∷ w ∷ bytes) (1 + (1 + more)) (is_letter y b h1).letter
    (one_more z (w ∷ bytes) (1 + more) (is_letter z c h2).letter
    (one_more w bytes more (is_letter w d h3).letter refl))) in
    rw size (omega arith)

pub both : (x y : Bool) → (x && y) ≡ true → (x ≡ true) × (y ≡ true)
both true y h = (refl, h)
both false y h = cc h

-- the same bytes are the same list
same_tells : (xs ys : List ℕ) → same_bytes xs ys ≡ true → xs ≡ ys
same_tells [] [] h = refl
same_tells [] (y ∷ ys) h = cc h
same_tells (x ∷ xs) [] h = cc h
same_tells (x ∷ xs) (y ∷ ys) h =
    let parts = both (x == y) (same_bytes xs ys) h in
    let head : x ≡ y = eqb-true x y parts.0 in
    let tail : xs ≡ ys = same_tells xs ys parts.1 in
    rw (head, tail) refl

same_self : (xs : List ℕ) → same_bytes xs xs ≡ true
same_self [] = refl
same_self (x ∷ xs) = ap (λ e. e && same_bytes xs xs) (eq-eqb x x refl) ∙ same_self xs

pub is_same : (answer : Bool) (xs ys : List ℕ) → (IsTrue answer ↔ (xs ≡ ys)) → answer ≡ same_bytes xs ys
is_same true xs ys h = subst (λ (zs : List ℕ). true ≡ same_bytes xs zs) (h.0 refl) (sym (same_self xs))
is_same false xs ys h = by_test (same_bytes xs ys) refl
  where
    by_test : (x : Bool) → same_bytes xs ys ≡ x → false ≡ same_bytes xs ys
    by_test true e = absurd (false≢true (h.1 (same_tells xs ys e)))
    by_test false e = sym e

-- words of different lengths are different
never : (e : Bool) → (e && false) ≡ false
never true = refl
never false = refl

other_length : (xs ys : List ℕ) → length ys < length xs → same_bytes xs ys ≡ false
other_length [] ys h = absurd (omega arith)
other_length (x ∷ xs) [] h = refl
other_length (x ∷ xs) (y ∷ ys) h = ap (λ e. (x == y) && e) (other_length xs ys (omega arith)) ∙ never (x == y)

-- a word that is longer than these is none of them
none_of : (letters : List ℕ) (ws : List Word) (n : ℕ) → n < length letters
    → list_all (λ (w : Word). nat_le (length w.letters) n) ws ≡ true → kind_among letters ws ≡ Other
none_of letters [] n long short = refl
none_of letters (w ∷ ws) n long short =
    let parts =
    both (nat_le (length w.letters) n) (list_all (λ (v : Word). nat_le (length v.letters) n) ws) short in
    let few : length w.letters ≤ n = leb-true (length w.letters) n parts.0 in
    ap (λ x. cond x w.kind (kind_among letters ws)) (other_length letters w.letters (omega arith))
    ∙ none_of letters ws n long parts.1

among-append : (letters : List ℕ) (ws vs : List Word) → kind_among letters vs ≡ Other
    → kind_among letters (ws ++ vs) ≡ kind_among letters ws
among-append letters [] vs h = h
among-append letters (w ∷ ws) vs h =
    ap (λ k. cond (same_bytes letters w.letters) w.kind k) (among-append letters ws vs h)

pub long_is_among : (text : List ℕ) → 3 < length text
    → kind_among (str_to_ascii_lowercase text) long_words ≡ kind_of_word text
long_is_among text long =
    let small : List ℕ = str_to_ascii_lowercase text in
    let size : 3 < length small = rw length-map long in
    sym (among-append small long_words short_words (none_of small short_words 3 size refl))

pub long_word_is : (bytes : List ℕ) (kind : Kind) (size : ℕ) → size ≡ prefix_len is_ascii_alphabetic bytes
    → 3 < size → kind ≡ kind_among (str_to_ascii_lowercase (take size bytes)) long_words
    → lexeme kind size ≡ cut_word bytes
long_word_is bytes kind size is long e =
    let text : List ℕ = take size bytes in
    let fits : length text ≡ size = rw is (length-prefix_len is_ascii_alphabetic bytes) in
    let kind_is : kind ≡ kind_of_word text = e ∙ long_is_among text (rw fits long) in
    ap (λ k. lexeme k size) kind_is ∙ sym (word_to bytes size (sym is))

-- where some letters are known, the others are counted
after_letters : (bytes : List ℕ) (known : ℕ) → known ≤ prefix_len is_ascii_alphabetic bytes
    → prefix_len is_ascii_alphabetic bytes ≡ known + prefix_len is_ascii_alphabetic (drop known bytes)
after_letters [] zero h = refl
after_letters (x ∷ xs) zero h = omega arith
after_letters [] (suc known) h = absurd (omega arith)
after_letters (x ∷ xs) (suc known) h =
    by_test (is_ascii_alphabetic x) refl h (λ some. after_letters xs known some)
  where
    by_test : (is : Bool) → is_ascii_alphabetic x ≡ is
        → suc known ≤ cond is (1 + prefix_len is_ascii_alphabetic xs) 0
        → (known ≤ prefix_len is_ascii_alphabetic xs
        → prefix_len is_ascii_alphabetic xs ≡ known + prefix_len is_ascii_alphabetic (drop known xs))
        → cond is (1 + prefix_len is_ascii_alphabetic xs) 0
        ≡ suc known + prefix_len is_ascii_alphabetic (drop known xs)
    by_test true e h more =
        let others : prefix_len is_ascii_alphabetic xs
        ≡ known + prefix_len is_ascii_alphabetic (drop known xs) = more (omega arith) in
        omega arith
    by_test false e h more = absurd (omega arith)

-- of a long word, after its first four
pub letters_in_text : (text : List ℕ) (at : ℕ) → 3 < prefix_len is_ascii_alphabetic (drop at text)
    → prefix_len is_ascii_alphabetic (drop at text) ≡ 4 + prefix_len is_ascii_alphabetic (drop (at + 4) text)
letters_in_text text at h =
    after_letters (drop at text) 4 (omega arith)
    ∙ ap (λ b. 4 + prefix_len is_ascii_alphabetic b) (drop-drop 4 at text)

pub letters_within : (text : List ℕ) (at : ℕ) → at < length text
    → 3 < prefix_len is_ascii_alphabetic (drop at text) → at + 4 ≤ length text
letters_within text at below h =
    let fits : prefix_len is_ascii_alphabetic (drop at text) ≤ length (drop at text) =
    prefix_len-le-length is_ascii_alphabetic (drop at text) in
    let left : length (drop at text) ≡ length text - at = length-drop at text in
    omega arith

pub long_size : (text : List ℕ) (at more : ℕ) → 3 < prefix_len is_ascii_alphabetic (drop at text)
    → more ≡ prefix_len is_ascii_alphabetic (drop (at + 4) text)
    → 4 + more ≡ prefix_len is_ascii_alphabetic (drop at text)
long_size text at more h is = ap (λ n. 4 + n) is ∙ sym (letters_in_text text at h)

-- what a word is, by its letters
pub ruleset word_facts = (one_letter, two_letters, three_letters, long)
