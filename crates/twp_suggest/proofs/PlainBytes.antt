-- The tokens of plain bytes are plain; over plain values.
use Rattle.std.proofs.Common.{◌≡◌, ◌||◌, ◌&&◌, Bool, true, false, List, [], ◌∷◌, ◌++◌, ℕ, ◌+◌, ap, arith}
use Rattle.std.proofs.Common.{length, nat_lt, not, refl, slice_index, subst, suc, sym, ◌∙◌}
use Rattle.std.proofs.lemmas.Bool.{false≢true, le-ltb}
use Rattle.std.specs.List.{AllPass, list_any}
use Rattle.std.specs.Str.{str_to_ascii_lowercase}
use Rattle.std.specs.Str.Parse.{digits_value}
use Rattle.twp_grammar.specs.declared.tokens.Kind.{Kind}
use Rattle.twp_grammar.specs.declared.tokens.Kind.TheVariants.{BadByte, BadNumber, Colon, Comma, Number}
use Rattle.twp_grammar.specs.declared.tokens.Kind.TheVariants.{Semicolon, Stop}
use Rattle.twp_grammar.specs.Tokens.{HasTokens, IsGoodToken, IsToken, StartsWith, Token, is_white, words}
use Rattle.twp_grammar.specs.Tokens.IsGoodToken.{a_bad_number, a_colon, a_comma, a_half, a_half_sign}
use Rattle.twp_grammar.specs.Tokens.IsGoodToken.{a_number}
use Rattle.twp_grammar.specs.Tokens.IsGoodToken.{a_quarter, a_quarter_sign, a_semicolon, a_stop, a_word}
use Rattle.twp_grammar.specs.Tokens.IsToken.{bad, good}
use Rattle.twp_grammar.proofs.TokenFacts.{has_token_list}
use Rattle.twp_read.specs.Doubts.{begins_step, is_and, is_of}
use Rattle.twp_rules.specs.Naming.{is_side}
use Rattle.twp_rules.proofs.SameTexts.{both}
use Rattle.twp_suggest.specs.Sharing.{is_f, is_fraction}
use Rattle.twp_suggest.specs.Ways.{ends_fraction}
use Rattle.twp_suggest.specs.declared.plain.Passed.{Passed}
use Rattle.twp_suggest.specs.steps.Plain.{IsPlain, are_plain, are_plain_bytes, is_d, is_gap, nothing_passed}
use Rattle.twp_suggest.specs.steps.Plain.{parts_steps, passed_with}
use Rattle.twp_suggest.proofs.WordLetters.{among_such, and_text, never, of_text, or_true, step_text}

or_false : (x : Bool) → (x || false) ≡ x
or_false true = refl
or_false false = refl

or_assoc : (x y z : Bool) → ((x || y) || z) ≡ (x || (y || z))
or_assoc true y z = refl
or_assoc false y z = refl

-- the two bytes before what follows some bytes
abbrev before_of : ℕ → ℕ → List ℕ → ℕ
before_of before last [] = before
before_of before last (byte ∷ bytes) = before_of last byte bytes

abbrev last_of : ℕ → List ℕ → ℕ
last_of last [] = last
last_of last (byte ∷ bytes) = last_of byte bytes

-- what follows some bytes is plain
plain_after : (has_and has_of : Bool) (before last : ℕ) (bytes more : List ℕ)
    → are_plain_bytes has_and has_of before last (bytes ++ more) ≡ true
    → are_plain_bytes (has_and || list_any is_d bytes) (has_of || list_any is_f bytes)
    (before_of before last bytes) (last_of last bytes) more ≡ true
plain_after has_and has_of before last [] more plain = rw (or_false has_and, or_false has_of) plain
plain_after has_and has_of before last (byte ∷ bytes) more plain =
    let parts =
    both (not (is_white byte && parts_steps before last (bytes ++ more)))
    (are_plain_bytes (has_and || is_d byte) (has_of || is_f byte) last byte (bytes ++ more)) plain in
    rw (
      ← or_assoc has_and (is_d byte) (list_any is_d bytes),
      ← or_assoc has_of (is_f byte) (list_any is_f bytes),
    ) (plain_after (has_and || is_d byte) (has_of || is_f byte) last byte bytes more parts.1)

-- plain bytes don't follow both D and F
weaker : (d f x y : Bool) → ((d || x) && (f || y)) ≡ false → (d && f) ≡ false
weaker true true x y h = cc h
weaker true false x y h = refl
weaker false f x y h = refl

not_true : (x : Bool) → not x ≡ true → x ≡ false
not_true true h = cc h
not_true false h = refl

not_both : (has_and has_of : Bool) (before last : ℕ) (bytes : List ℕ)
    → are_plain_bytes has_and has_of before last bytes ≡ true → (has_and && has_of) ≡ false
not_both has_and has_of before last [] plain = not_true (has_and && has_of) plain
not_both has_and has_of before last (byte ∷ bytes) plain =
    let parts =
    both (not (is_white byte && parts_steps before last bytes))
    (are_plain_bytes (has_and || is_d byte) (has_of || is_f byte) last byte bytes) plain in
    weaker has_and has_of (is_d byte) (is_f byte)
    (not_both (has_and || is_d byte) (has_of || is_f byte) last byte bytes parts.1)

-- nor are both `and` and `of` before them
none_both : (a o d f : Bool) → (a ≡ true → d ≡ true) → (o ≡ true → f ≡ true) → (d && f) ≡ false
    → not (a && o) ≡ true
none_both true true d f p q h = cc (p refl, q refl, h)
none_both true false d f p q h = refl
none_both false o d f p q h = refl

-- what is known of the bytes before some tokens
record IsKnown (it : Passed) (has_and has_of : Bool) (before last at : ℕ) : Type 0 where
  and : it.has_and ≡ true → has_and ≡ true
  of : it.has_of ≡ true → has_of ≡ true
  ends : it.is_fraction ≡ true → ends_fraction before last ≡ true
  end : it.is_fraction ≡ true → it.end ≡ at

-- white space is next, or the side with which a step begins
white_or_side : (space text rest : List ℕ) → AllPass is_white space
    → is_side (slice_index (text ++ rest) 0) ≡ true
    → (is_side (slice_index (space ++ (text ++ rest)) 0)
    || is_white (slice_index (space ++ (text ++ rest)) 0))
    ≡ true
white_or_side [] text rest white side = rw side refl
white_or_side (byte ∷ bytes) text rest white side = rw (white 0 0 (omega arith)) (or_true (is_side byte))

more_white : (byte : ℕ) (bytes : List ℕ) → AllPass is_white (byte ∷ bytes) → AllPass is_white bytes
more_white byte bytes white k d within = white (suc k) d (omega arith)

-- no white space is between the fraction of a step and the letters of another
no_space : (has_and has_of : Bool) (before last : ℕ) (space text rest : List ℕ) → AllPass is_white space
    → are_plain_bytes has_and has_of before last (space ++ (text ++ rest)) ≡ true
    → ends_fraction before last ≡ true → is_side (slice_index (text ++ rest) 0) ≡ true → length space ≡ 0
no_space has_and has_of before last [] text rest white plain ends side = refl
no_space has_and has_of before last (byte ∷ bytes) text rest white plain ends side =
    let left = bytes ++ (text ++ rest) in
    let parts =
    both (not (is_white byte && parts_steps before last left))
    (are_plain_bytes (has_and || is_d byte) (has_of || is_f byte) last byte left) plain in
    let here : is_white byte ≡ true = white 0 0 (omega arith) in
    let next = white_or_side bytes text rest (more_white byte bytes white) side in
    cc (rw (here, ends, next) at parts.0)

at_once : (it : Passed) (token : Token) (space : ℕ) → it.end + space ≡ token.at → space ≡ 0
    → nat_lt it.end token.at ≡ false
at_once it token space place none = le-ltb it.end token.at (omega arith)

not_gap : (fraction step below : Bool) → (fraction ≡ true → step ≡ true → below ≡ false)
    → (fraction && step && below) ≡ false
not_gap true true below h = h refl refl
not_gap true false below h = refl
not_gap false step below h = refl

no_gap : (it : Passed) (has_and has_of : Bool) (before last at : ℕ) (bytes : List ℕ) (token : Token)
    (rest : List ℕ) → IsKnown it has_and has_of before last at → StartsWith at bytes token rest
    → are_plain_bytes has_and has_of before last bytes ≡ true → is_gap it token ≡ false
no_gap it has_and has_of before last at bytes token rest known starts plain =
    not_gap it.is_fraction (begins_step token.kind) (nat_lt it.end token.at) (λ fraction step.
    let side = step_text token.text rest token.kind starts.is step in
    let none =
    no_space has_and has_of before last starts.space token.text rest starts.white
    (subst (λ (bs : List ℕ). are_plain_bytes has_and has_of before last bs ≡ true) starts.spelled plain)
    (known.ends fraction) side in
    let end = known.end fraction in
    let place = starts.place in
    at_once it token (length starts.space) (omega arith) none)

-- no word is the fraction of a step
abbrev none_fits : List ℕ → Bool
none_fits letters = false

-- two bytes end the fraction of a step
ends_with_fraction : (before last : ℕ) (text rest : List ℕ) (kind : Kind) → IsToken text rest kind
    → is_fraction kind ≡ true → ends_fraction (before_of before last text) (last_of last text) ≡ true
ends_with_fraction before last text rest kind (bad is_bad e) is =
    absurd (never is_fraction kind BadByte e refl is)
ends_with_fraction before last text rest kind (good is_good) is = by_form is_good
  where
    by_form : IsGoodToken text rest kind
        → ends_fraction (before_of before last text) (last_of last text) ≡ true
    by_form (a_word run e) =
        absurd
        (false≢true
        (among_such is_fraction none_fits (str_to_ascii_lowercase text) words refl refl
        (ap is_fraction (sym e) ∙ is)))
    by_form (a_number number few e) =
        absurd (never is_fraction kind (Number (digits_value 10 text)) e refl is)
    by_form (a_bad_number number many e) = absurd (never is_fraction kind BadNumber e refl is)
    by_form (a_half t e) = rw t refl
    by_form (a_half_sign t e) = rw t refl
    by_form (a_quarter t e) = rw t refl
    by_form (a_quarter_sign t e) = rw t refl
    by_form (a_comma t e) = absurd (never is_fraction kind Comma e refl is)
    by_form (a_semicolon t e) = absurd (never is_fraction kind Semicolon e refl is)
    by_form (a_colon t e) = absurd (never is_fraction kind Colon e refl is)
    by_form (a_stop t e) = absurd (never is_fraction kind Stop e refl is)

known_or : (a k d s t : Bool) → (a ≡ true → d ≡ true) → (k ≡ true → t ≡ true) → (a || k) ≡ true
    → ((d || s) || t) ≡ true
known_or true k d s t p q h = rw (p refl) refl
known_or false k d s t p q h = rw (q h) (or_true (d || s))

plain_tokens : (it : Passed) (has_and has_of : Bool) (before last at : ℕ) (bytes : List ℕ)
    (tokens : List Token) → HasTokens at bytes tokens
    → are_plain_bytes has_and has_of before last bytes ≡ true → IsKnown it has_and has_of before last at
    → are_plain it tokens ≡ true
plain_tokens it has_and has_of before last at bytes [] has plain known =
    none_both it.has_and it.has_of has_and has_of known.and known.of
    (not_both has_and has_of before last bytes plain)
plain_tokens it has_and has_of before last at bytes (token ∷ tokens) (rest, starts, more) plain known =
    let d = has_and || list_any is_d starts.space in
    let f = has_of || list_any is_f starts.space in
    let b = before_of before last starts.space in
    let l = last_of last starts.space in
    let spaced : are_plain_bytes d f b l (token.text ++ rest) ≡ true =
    plain_after has_and has_of before last starts.space (token.text ++ rest)
    (subst (λ (bs : List ℕ). are_plain_bytes has_and has_of before last bs ≡ true) starts.spelled plain) in
    let after = plain_after d f b l token.text rest spaced in
    let next : IsKnown (passed_with it token) (d || list_any is_d token.text) (f || list_any is_f token.text)
    (before_of b l token.text) (last_of l token.text) (token.at + length token.text) = record {
      and =
          known_or it.has_and (is_and token.kind) has_and (list_any is_d starts.space)
          (list_any is_d token.text) known.and (and_text token.text rest token.kind starts.is);
      of =
          known_or it.has_of (is_of token.kind) has_of (list_any is_f starts.space)
          (list_any is_f token.text) known.of (of_text token.text rest token.kind starts.is);
      ends = ends_with_fraction b l token.text rest token.kind starts.is;
      end = λ fraction. refl;
    } in
    rw (no_gap it has_and has_of before last at bytes token rest known starts plain)
    (plain_tokens (passed_with it token) (d || list_any is_d token.text) (f || list_any is_f token.text)
    (before_of b l token.text) (last_of l token.text) (token.at + length token.text) rest tokens more after
    next)

-- PLAIN BYTES have plain tokens
pub is_plain : (made : List ℕ) → are_plain_bytes false false 0 0 made ≡ true → IsPlain nothing_passed 0 made
is_plain made plain =
    let found = has_token_list 0 made in
    let known : IsKnown nothing_passed false false 0 0 0 =
    record { and = λ h. h; of = λ h. h; ends = λ h. cc h; end = λ h. cc h } in
    record {
      tokens = found.0;
      cut = found.1;
      plain = plain_tokens nothing_passed false false 0 0 0 made found.0 found.1 plain known;
    }
