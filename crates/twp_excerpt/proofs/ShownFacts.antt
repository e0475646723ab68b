-- Text that is shown: text that is added in steps, and printable ASCII.
use Rattle.std.proofs.Common.{◌≡◌, ℕ, ◌<◌, ◌≤◌, Bool, true, false, cond, not, ◌&&◌, ◌||◌, ◌==◌}
use Rattle.std.proofs.Common.{List, []}
use Rattle.std.proofs.Common.{◌∷◌, ◌++◌, length, drop, refl, sym, ap, ap₂, ◌∙◌}
use Rattle.std.proofs.Common.{nat_le}
use Rattle.std.proofs.Common.{arith, append_assoc, subst, encode_utf8}
use Rattle.std.specs.Prelude.{encode_utf8_all}
use Rattle.std.proofs.lemmas.List.{append-nil}
use Rattle.std.proofs.Math.Utf8.{scalar}
use Rattle.std.proofs.lemmas.List.Folds.{list_all-append}
use Rattle.std.proofs.lemmas.Bool.{and_parts, leb-true, le-leb}
use Rattle.std.proofs.lemmas.Bool.Decides.{nat_tests}
use Rattle.std.proofs.lemmas.Str.{encode_ascii}
use Rattle.std.specs.List.{list_all}
use Rattle.std.specs.Char.{is_ascii_digit}
use Rattle.std.specs.Str.{all_ascii_digits}
use Rattle.std.specs.Str.Parse.{digits_value}
use Rattle.std.proofs.lemmas.Str.Parse.{IsNumeralModel, numerals_by_value, tells_all_ascii_digits}
use Rattle.std.proofs.lemmas.Fmt.{decimal_is_IsNumeral}
use Rattle.std.specs.Prelude.{decimal, ◌^◌}
use Rattle.std.specs.Int.{is_in_range}
use Rattle.twp_excerpt.specs.Shown.{is_shown, IsTextOf, IsShownText, Adds, AddsShown, AddsLines, AddsTwoLines}
use Rattle.twp_excerpt.specs.Shown.{AddsEnded}
use Rattle.twp_excerpt.specs.Shown.{is_control, is_odd_mark, is_blank_letter, is_beyond_text}
use Rattle.twp_excerpt.specs.Shown.{is_shown_or_feed, takes_columns}
use Rattle.unicode_width.specs.Width.{char_width}
use Rattle.twp_excerpt.specs.steps.Looks.{is_printable}

-- the UTF-8 encodings of characters, one after another
pub encode_all_append : (xs ys : List ℕ)
    → encode_utf8_all (xs ++ ys) ≡ encode_utf8_all xs ++ encode_utf8_all ys
encode_all_append [] ys = refl
encode_all_append (x ∷ xs) ys =
    ap (λ t. encode_utf8 x ++ t) (encode_all_append xs ys)
    ∙ sym (append_assoc (encode_utf8 x) (encode_utf8_all xs) (encode_utf8_all ys))

pub both_true : (a b : Bool) → a ≡ true → b ≡ true → (a && b) ≡ true
both_true true b h k = k
both_true false b h k = h

text_append : (test : ℕ → Bool) (xs ys : List ℕ) → IsTextOf test xs → IsTextOf test ys
    → IsTextOf test (xs ++ ys)
text_append test xs ys x y = record {
  codes = x.codes ++ y.codes;
  text_is = ap₂ (λ a b. a ++ b) x.text_is y.text_is ∙ sym (encode_all_append x.codes y.codes);
  all_pass = list_all-append test x.codes y.codes ∙ both_true _ _ x.all_pass y.all_pass;
}

pub adds_none : (test : ℕ → Bool) (old : List ℕ) → Adds test old old
adds_none test old = record {
  added = [];
  is_text = record { codes = []; text_is = refl; all_pass = refl };
  new_is = sym (append-nil old);
}

pub adds_trans : (test : ℕ → Bool) (old middle new : List ℕ) → Adds test old middle → Adds test middle new
    → Adds test old new
adds_trans test old middle new a b = record {
  added = a.added ++ b.added;
  is_text = text_append test a.added b.added a.is_text b.is_text;
  new_is =
      b.new_is ∙ ap (λ t. t ++ b.added) a.new_is ∙ append_assoc old a.added b.added;
}

-- a call appends this text, or fails
pub adds_tried : (test : ℕ → Bool) (old new text : List ℕ) (ok : Bool) → IsTextOf test text
    → new ≡ cond ok (old ++ text) old → Adds test old new
adds_tried test old new text true is e = record { added = text; is_text = is; new_is = e }
adds_tried test old new text false is e = subst (Adds test old) (sym e) (adds_none test old)

pub text_of_one : (test : ℕ → Bool) (code : ℕ) → test code ≡ true → IsTextOf test (encode_utf8 code)
text_of_one test code h = record {
  codes = code ∷ [];
  text_is = sym (append-nil (encode_utf8 code));
  all_pass = both_true _ _ h refl;
}

-- printable ASCII characters are shown
pub shown_low : (code : ℕ) → 0x20 ≤ code → code ≤ 0x7E → is_shown code ≡ true
unfolding is_shown char_width
shown_low code a b = grind (arith, nat_tests)

pub shown_printable : (code : ℕ) → is_printable code ≡ true → is_shown code ≡ true
shown_printable code h =
    let parts = and_parts (nat_le 0x20 code) (nat_le code 0x7E) h in
    shown_low code (leb-true 0x20 code parts.0) (leb-true code 0x7E parts.1)

pub all_shown : (codes : List ℕ) → list_all is_printable codes ≡ true → list_all is_shown codes ≡ true
all_shown [] h = refl
all_shown (code ∷ codes) h =
    let parts = and_parts (is_printable code) (list_all is_printable codes) h in
    both_true _ _ (shown_printable code parts.0) (all_shown codes parts.1)

-- the UTF-8 encoding of an ASCII text is the text itself
pub own_text : (codes : List ℕ) → list_all is_printable codes ≡ true → codes ≡ encode_utf8_all codes
own_text [] h = refl
own_text (code ∷ codes) h =
    let parts = and_parts (is_printable code) (list_all is_printable codes) h in
    let above = and_parts (nat_le 0x20 code) (nat_le code 0x7E) parts.0 in
    let below : code ≤ 0x7E = leb-true code 0x7E above.1 in
    ap (λ t. code ∷ t) (own_text codes parts.1)
    ∙ ap (λ t. t ++ encode_utf8_all codes) (sym (encode_ascii code (omega arith)))

pub printable_text : (codes : List ℕ) → list_all is_printable codes ≡ true → IsShownText codes
printable_text codes h = record { codes = codes; text_is = own_text codes h; all_pass = all_shown codes h }

-- the digits of a number are printable ASCII
digits_printable : (text : List ℕ) → list_all is_ascii_digit text ≡ true → list_all is_printable text ≡ true
digits_printable [] h = refl
digits_printable (code ∷ codes) h =
    let parts = and_parts (is_ascii_digit code) (list_all is_ascii_digit codes) h in
    let range = and_parts (nat_le 48 code) (nat_le code 57) parts.0 in
    let low : 48 ≤ code = leb-true 48 code range.0 in
    let high : code ≤ 57 = leb-true code 57 range.1 in
    both_true _ _
    (both_true _ _ (le-leb 0x20 code (omega arith)) (le-leb code 0x7E (omega arith)))
    (digits_printable codes parts.1)

list_all_digits : (text : List ℕ) → list_all is_ascii_digit text ≡ all_ascii_digits text
list_all_digits [] = refl
list_all_digits (c ∷ cs) = rw (list_all_digits cs) refl

own_digits : IsNumeralModel (λ text. all_ascii_digits text ≡ true) (digits_value 10)
own_digits = numerals_by_value _ tells_all_ascii_digits

pub number_printable : (n : ℕ) → n < 2 ^ 64 → list_all is_printable (decimal n) ≡ true
number_printable n h =
    digits_printable (decimal n)
    (list_all_digits (decimal n) ∙ own_digits.from (decimal n) (decimal_is_IsNumeral n h).0.1)

-- a character that is shown is shown or a line feed
shown_or_feed : (codes : List ℕ) → list_all is_shown codes ≡ true → list_all is_shown_or_feed codes ≡ true
shown_or_feed [] h = refl
shown_or_feed (code ∷ codes) h =
    let parts = and_parts (is_shown code) (list_all is_shown codes) h in
    both_true _ _ (ap (λ b. b || (code == 10)) parts.0) (shown_or_feed codes parts.1)

pub lines_of_shown : (old new : List ℕ) → AddsShown old new → AddsLines old new
lines_of_shown old new a = record {
  added = a.added;
  is_text = record {
    codes = a.is_text.codes;
    text_is = a.is_text.text_is;
    all_pass = shown_or_feed a.is_text.codes a.is_text.all_pass;
  };
  new_is = a.new_is;
}

either_true : (a b : Bool) → b ≡ true → (a || b) ≡ true
either_true true b h = refl
either_true false b h = h

pub feed_passes : is_shown_or_feed 10 ≡ true
feed_passes = either_true (is_shown 10) (10 == 10) refl

pub two_lines : (old one two three new : List ℕ) → AddsShown old one → two ≡ one ++ 10 ∷ []
    → AddsShown two three → new ≡ three ++ 10 ∷ [] → AddsTwoLines old new
two_lines old one two three new a e b f = record {
  first = a.added;
  second = b.added;
  first_shown = a.is_text;
  second_shown = b.is_text;
  new_is =
      f ∙ ap (λ t. t ++ 10 ∷ []) b.new_is
      ∙ ap (λ t. (t ++ b.added) ++ 10 ∷ []) (e ∙ ap (λ t. t ++ 10 ∷ []) a.new_is)
      ∙ simp append_assoc;
}

-- a text that is shown does not begin with a continuation byte
not_first : (a b : Bool) → not (a || b) ≡ true → not a ≡ true
not_first true b h = h
not_first false b h = refl

not_second : (a b : Bool) → not (a || b) ≡ true → not b ≡ true
not_second true b h = cc
not_second false b h = h

below_or_between : (code : ℕ) → not (is_in_range 0xD800 0xF8FF code || nat_le 0xE0000 code) ≡ true
    → scalar code ≡ true
below_or_between code h = grind (arith, nat_tests)

pub shown_scalar : (code : ℕ) → is_shown code ≡ true → scalar code ≡ true
unfolding is_shown
shown_scalar code h =
    let parts =
    and_parts (not (is_control code || is_odd_mark code || is_blank_letter code || is_beyond_text code))
    (takes_columns (char_width false code)) h in
    let text =
    not_second (is_control code || is_odd_mark code || is_blank_letter code) (is_beyond_text code) parts.0 in
    below_or_between code (not_first _ _ (not_first _ _ (not_first _ _ (not_first _ _ (not_first _ _ text)))))

pub drop_front : (xs ys : List ℕ) → drop (length xs) (xs ++ ys) ≡ ys
drop_front [] ys = refl
drop_front (x ∷ xs) ys = drop_front xs ys

-- lines, and the line feed that ends the last one
pub ended : (old out new : List ℕ) → AddsLines old out → new ≡ out ++ 10 ∷ [] → AddsEnded old new
ended old out new a e = record {
  lines = a.added;
  is_text = a.is_text;
  new_is = e ∙ ap (λ t. t ++ 10 ∷ []) a.new_is ∙ append_assoc old a.added (10 ∷ []);
}

-- a text that was written from an empty one
pub all_lines : (text : List ℕ) → AddsLines [] text → IsTextOf is_shown_or_feed text
all_lines text a = subst (IsTextOf is_shown_or_feed) (sym a.new_is) a.is_text
