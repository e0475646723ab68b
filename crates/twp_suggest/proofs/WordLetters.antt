-- The letters of the words of descriptions that are `of`, `and`, or a step; over plain values.
use Rattle.std.proofs.Common.{◌≡◌, ◌==◌, ◌||◌, ◌⊎◌, inl, inr, Bool, true, false, List, [], ◌∷◌, ◌++◌, ℕ, ◌+◌}
use Rattle.std.proofs.Common.{ap, arith, cond, nat_lt, not, refl, slice_index, subst, sym, ◌∙◌}
use Rattle.std.proofs.lemmas.Bool.{eqb-true, false≢true}
use Rattle.std.specs.Char.{to_ascii_lowercase}
use Rattle.std.specs.List.{list_all, list_any}
use Rattle.std.specs.Str.{str_to_ascii_lowercase}
use Rattle.std.specs.Str.Parse.{digits_value}
use Rattle.twp_grammar.specs.declared.tokens.Kind.{Kind}
use Rattle.twp_grammar.specs.declared.tokens.Kind.TheVariants.{BadByte, BadNumber, Colon, Comma, Half, Number}
use Rattle.twp_grammar.specs.declared.tokens.Kind.TheVariants.{Other, Quarter, Semicolon, Stop}
use Rattle.twp_grammar.specs.Tokens.{IsGoodToken, IsToken, Word, kind_among, kind_of_word, same_bytes, words}
use Rattle.twp_grammar.specs.Tokens.IsGoodToken.{a_bad_number, a_colon, a_comma, a_half, a_half_sign}
use Rattle.twp_grammar.specs.Tokens.IsGoodToken.{a_number}
use Rattle.twp_grammar.specs.Tokens.IsGoodToken.{a_quarter, a_quarter_sign, a_semicolon, a_stop, a_word}
use Rattle.twp_grammar.specs.Tokens.IsToken.{bad, good}
use Rattle.twp_read.specs.Doubts.{begins_step, is_and, is_of}
use Rattle.twp_rules.specs.Naming.{is_side}
use Rattle.twp_rules.proofs.SameTexts.{both}
use Rattle.twp_suggest.specs.Sharing.{is_f}
use Rattle.twp_suggest.specs.steps.Plain.{is_d}

same_tells : (xs ys : List ℕ) → same_bytes xs ys ≡ true → xs ≡ ys
same_tells [] [] h = refl
same_tells [] (y ∷ ys) h = cc h
same_tells (x ∷ xs) [] h = cc h
same_tells (x ∷ xs) (y ∷ ys) h =
    let parts = both (x == y) (same_bytes xs ys) h in
    let head : x ≡ y = eqb-true x y parts.0 in
    let tail : xs ≡ ys = same_tells xs ys parts.1 in
    rw (head, tail) refl

pub or_true : (x : Bool) → (x || true) ≡ true
or_true true = refl
or_true false = refl

implied : (x y : Bool) → x ≡ true → (not x || y) ≡ true → y ≡ true
implied true y is h = h
implied false y is h = cc is

-- if each word of such a kind has letters that fit, so has what is of such a kind
pub among_such : (such : Kind → Bool) (fits : List ℕ → Bool) (letters : List ℕ) (ws : List Word)
    → list_all (λ (w : Word). not (such w.kind) || fits w.letters) ws ≡ true → such Other ≡ false
    → such (kind_among letters ws) ≡ true → fits letters ≡ true
among_such such fits letters [] all others is = absurd (false≢true (sym others ∙ is))
among_such such fits letters (w ∷ ws) all others is =
    let parts =
    both (not (such w.kind) || fits w.letters)
    (list_all (λ (v : Word). not (such v.kind) || fits v.letters) ws) all in
    by_test (same_bytes letters w.letters) refl is parts.0 (among_such such fits letters ws parts.1 others)
  where
    by_test : (x : Bool) → same_bytes letters w.letters ≡ x
        → such (cond x w.kind (kind_among letters ws)) ≡ true → (not (such w.kind) || fits w.letters) ≡ true
        → (such (kind_among letters ws) ≡ true → fits letters ≡ true) → fits letters ≡ true
    by_test true e is here more =
        subst (λ (ls : List ℕ). fits ls ≡ true) (sym (same_tells letters w.letters e))
        (implied (such w.kind) (fits w.letters) is here)
    by_test false e is here more = more is

-- such kinds are of words alone
record AreOfWords (such : Kind → Bool) : Type 0 where
  number : (value : ℕ) → such (Number value) ≡ false
  bad_number : such BadNumber ≡ false
  half : such Half ≡ false
  quarter : such Quarter ≡ false
  comma : such Comma ≡ false
  semicolon : such Semicolon ≡ false
  colon : such Colon ≡ false
  stop : such Stop ≡ false
  bad_byte : such BadByte ≡ false

pub never : (such : Kind → Bool) (kind other : Kind) → kind ≡ other → such other ≡ false → such kind ≡ true
    → ⊥
never such kind unlike e others is = false≢true (sym others ∙ ap such (sym e) ∙ is)

good_word : (such : Kind → Bool) (text rest : List ℕ) (kind : Kind) → AreOfWords such
    → IsGoodToken text rest kind → such kind ≡ true → such (kind_of_word text) ≡ true
good_word such text rest kind others (a_word run e) is = ap such (sym e) ∙ is
good_word such text rest kind others (a_number number few e) is =
    absurd (never such kind (Number (digits_value 10 text)) e (others.number (digits_value 10 text)) is)
good_word such text rest kind others (a_bad_number number many e) is =
    absurd (never such kind BadNumber e others.bad_number is)
good_word such text rest kind others (a_half t e) is = absurd (never such kind Half e others.half is)
good_word such text rest kind others (a_half_sign t e) is = absurd (never such kind Half e others.half is)
good_word such text rest kind others (a_quarter t e) is = absurd (never such kind Quarter e others.quarter is)
good_word such text rest kind others (a_quarter_sign t e) is =
    absurd (never such kind Quarter e others.quarter is)
good_word such text rest kind others (a_comma t e) is = absurd (never such kind Comma e others.comma is)
good_word such text rest kind others (a_semicolon t e) is =
    absurd (never such kind Semicolon e others.semicolon is)
good_word such text rest kind others (a_colon t e) is = absurd (never such kind Colon e others.colon is)
good_word such text rest kind others (a_stop t e) is = absurd (never such kind Stop e others.stop is)

word_kind : (such : Kind → Bool) (text rest : List ℕ) (kind : Kind) → AreOfWords such
    → IsToken text rest kind → such kind ≡ true → such (kind_of_word text) ≡ true
word_kind such text rest kind others (good is_good) is = good_word such text rest kind others is_good is
word_kind such text rest kind others (bad is_bad e) is = absurd (never such kind BadByte e others.bad_byte is)

of_words : AreOfWords is_of
of_words = record {
  number = λ value. refl;
  bad_number = refl;
  half = refl;
  quarter = refl;
  comma = refl;
  semicolon = refl;
  colon = refl;
  stop = refl;
  bad_byte = refl;
}

and_words : AreOfWords is_and
and_words = record {
  number = λ value. refl;
  bad_number = refl;
  half = refl;
  quarter = refl;
  comma = refl;
  semicolon = refl;
  colon = refl;
  stop = refl;
  bad_byte = refl;
}

step_words : AreOfWords begins_step
step_words = record {
  number = λ value. refl;
  bad_number = refl;
  half = refl;
  quarter = refl;
  comma = refl;
  semicolon = refl;
  colon = refl;
  stop = refl;
  bad_byte = refl;
}

-- a letter is the small one, or the capital
lower_cases : (byte small : ℕ) → to_ascii_lowercase byte ≡ small → (byte ≡ small) ⊎ (byte + 32 ≡ small)
lower_cases byte small h = by_test (nat_lt byte 65) (nat_lt byte 91) h
  where
    by_test : (x y : Bool) → cond x byte (cond y (byte + 32) byte) ≡ small
        → (byte ≡ small) ⊎ (byte + 32 ≡ small)
    by_test true y h = inl h
    by_test false true h = inr h
    by_test false false h = inl h

small_f : (byte : ℕ) → (to_ascii_lowercase byte == 102) ≡ true → is_f byte ≡ true
small_f byte h = elim (lower_cases byte 102 (eqb-true (to_ascii_lowercase byte) 102 h)) [
  | inl e ↦ rw e refl
  | inr e ↦ let capital : byte ≡ 70 = omega arith in rw capital refl
]

small_d : (byte : ℕ) → (to_ascii_lowercase byte == 100) ≡ true → is_d byte ≡ true
small_d byte h = elim (lower_cases byte 100 (eqb-true (to_ascii_lowercase byte) 100 h)) [
  | inl e ↦ rw e refl
  | inr e ↦ let capital : byte ≡ 68 = omega arith in rw capital refl
]

-- a letter is in a text, in either case
abbrev has_small : ℕ → List ℕ → Bool
has_small small letters = list_any (λ (letter : ℕ). letter == small) letters

has_either : (small : ℕ) (is : ℕ → Bool) (text : List ℕ)
    → ((byte : ℕ) → (to_ascii_lowercase byte == small) ≡ true → is byte ≡ true)
    → has_small small (str_to_ascii_lowercase text) ≡ true → list_any is text ≡ true
has_either small is [] one h = cc h
has_either small is (byte ∷ bytes) one h =
    by_test (to_ascii_lowercase byte == small) refl h (has_either small is bytes one)
  where
    by_test : (x : Bool) → (to_ascii_lowercase byte == small) ≡ x
        → (x || has_small small (str_to_ascii_lowercase bytes)) ≡ true
        → (has_small small (str_to_ascii_lowercase bytes) ≡ true → list_any is bytes ≡ true)
        → (is byte || list_any is bytes) ≡ true
    by_test true e h more = rw (one byte e) refl
    by_test false e h more = rw (more h) (or_true (is byte))

pub of_text : (text rest : List ℕ) (kind : Kind) → IsToken text rest kind → is_of kind ≡ true
    → list_any is_f text ≡ true
of_text text rest kind token is =
    has_either 102 is_f text small_f
    (among_such is_of (has_small 102) (str_to_ascii_lowercase text) words refl refl
    (word_kind is_of text rest kind of_words token is))

pub and_text : (text rest : List ℕ) (kind : Kind) → IsToken text rest kind → is_and kind ≡ true
    → list_any is_d text ≡ true
and_text text rest kind token is =
    has_either 100 is_d text small_d
    (among_such is_and (has_small 100) (str_to_ascii_lowercase text) words refl refl
    (word_kind is_and text rest kind and_words token is))

-- the letters of a step begin with a side
abbrev is_small_side : ℕ → Bool
is_small_side letter = (letter == 110) || (letter == 115) || (letter == 101) || (letter == 119)

abbrev begins_with_side : List ℕ → Bool
begins_with_side letters = is_small_side (slice_index letters 0)

side_by : (byte small : ℕ) → to_ascii_lowercase byte ≡ small → is_side small ≡ true
    → ((capital : ℕ) → capital + 32 ≡ small → is_side capital ≡ true) → is_side byte ≡ true
side_by byte small h is either = elim (lower_cases byte small h) [
  | inl e ↦ rw e is
  | inr e ↦ either byte e
]

small_side : (byte : ℕ) → is_small_side (to_ascii_lowercase byte) ≡ true → is_side byte ≡ true
small_side byte h =
    by_test (to_ascii_lowercase byte == 110) (to_ascii_lowercase byte == 115)
    (to_ascii_lowercase byte == 101) (to_ascii_lowercase byte == 119) refl refl refl refl h
  where
    by_test : (n s e w : Bool) → (to_ascii_lowercase byte == 110) ≡ n → (to_ascii_lowercase byte == 115) ≡ s
        → (to_ascii_lowercase byte == 101) ≡ e → (to_ascii_lowercase byte == 119) ≡ w
        → (n || s || e || w) ≡ true → is_side byte ≡ true
    by_test true s e w a b c d h =
        side_by byte 110 (eqb-true (to_ascii_lowercase byte) 110 a) refl (λ capital f.
        let it : capital ≡ 78 = omega arith in rw it refl)
    by_test false true e w a b c d h =
        side_by byte 115 (eqb-true (to_ascii_lowercase byte) 115 b) refl (λ capital f.
        let it : capital ≡ 83 = omega arith in rw it refl)
    by_test false false true w a b c d h =
        side_by byte 101 (eqb-true (to_ascii_lowercase byte) 101 c) refl (λ capital f.
        let it : capital ≡ 69 = omega arith in rw it refl)
    by_test false false false true a b c d h =
        side_by byte 119 (eqb-true (to_ascii_lowercase byte) 119 d) refl (λ capital f.
        let it : capital ≡ 87 = omega arith in rw it refl)
    by_test false false false false a b c d h = cc h

side_first : (text rest : List ℕ) → begins_with_side (str_to_ascii_lowercase text) ≡ true
    → is_side (slice_index (text ++ rest) 0) ≡ true
side_first [] rest h = cc h
side_first (byte ∷ bytes) rest h = small_side byte h

pub step_text : (text rest : List ℕ) (kind : Kind) → IsToken text rest kind → begins_step kind ≡ true
    → is_side (slice_index (text ++ rest) 0) ≡ true
step_text text rest kind token is =
    side_first text rest
    (among_such begins_step begins_with_side (str_to_ascii_lowercase text) words refl refl
    (word_kind begins_step text rest kind step_words token is))
