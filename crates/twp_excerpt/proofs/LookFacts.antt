-- How signs are written: with which characters, and in how many columns.
use Rattle.std.proofs.Common.{◌≡◌, ℕ, ◌+◌, ◌/◌, ◌%◌, ◌^◌, ◌<◌, ◌≤◌, Bool, true, false, ◌==◌, List, []}
use Rattle.std.proofs.Common.{◌∷◌, ◌++◌, ◌-◌, Some, None, length, take, drop, refl, sym, ap, ◌∙◌, arith}
use Rattle.std.proofs.Common.{length-append, eqb-true, nat_lt}
use Rattle.std.proofs.Common.{⊎_elim, true≢false}
use Rattle.std.specs.Prelude.{if◌then◌else◌, Result, nat_le, slice_index}
use Rattle.std.specs.Fmt.{digits}
use Rattle.std.specs.List.{list_all}
use Rattle.std.proofs.lemmas.Bool.{and_parts, cases_Bool, leb-true}
use Rattle.std.proofs.lemmas.Bool.Decides.{nat_tests}
use Rattle.std.proofs.lemmas.List.Folds.{list_all-append}
use Rattle.bstr.specs.Utf8.{Decoded, decoded, IsLastPiece}
use Rattle.bstr.proofs.lemmas.SoundLemmas.{SpellsChar-decoded, IsLastPiece-decoded}
use Rattle.unicode_width.specs.Width.{char_width}
use Rattle.twp_excerpt.specs.declared.escaped.Look.{Look}
use Rattle.twp_excerpt.specs.declared.escaped.Look.TheVariants.{Plain, Letter, Byte, Code}
use Rattle.twp_excerpt.specs.Shown.{is_shown, AddsShown}
use Rattle.twp_excerpt.specs.Signs.{Sign, character, stray, Adding, written, in_line, width, or_zero}
use Rattle.twp_excerpt.specs.Signs.{sign_of, first_sign, sign_size, signs}
use Rattle.twp_excerpt.specs.Signs.{letter_escape, byte_escape, code_escape}
use Rattle.twp_excerpt.specs.declared.escaped.Sign.{Sign as Drawn}
use Rattle.twp_excerpt.specs.steps.Looks.{IsSafe, IsDrawn, IsDrawnLast, IsDrawnInLine, look_of}
use Rattle.twp_excerpt.specs.steps.Looks.{is_printable, look_of_sign, look_text}
use Rattle.twp_excerpt.proofs.AddingFacts.{front_passes}
use Rattle.twp_excerpt.proofs.HexFacts.{hex_digit_prints, hex_prints}
use Rattle.twp_excerpt.proofs.LastSign.{last_char, last_stray}
use Rattle.twp_excerpt.proofs.ShownFacts.{all_shown, both_true}

-- a sign's look represents the characters that are written for it
by_tests : (a b c d e : Bool) (code : ℕ)
    → look_text (if a then Plain code else if b then Letter 110 else if c then Letter 114
    else if d then Letter 116 else if e then Byte code else Code code)
    ≡ (if a then code ∷ [] else if b then letter_escape 110 else if c then letter_escape 114
    else if d then letter_escape 116 else if e then byte_escape code else code_escape code)
by_tests true b c d e code = refl
by_tests false true c d e code = refl
by_tests false false true d e code = refl
by_tests false false false true e code = refl
by_tests false false false false true code = refl
by_tests false false false false false code = refl

pub look_is_written : (sign : Sign) → look_text (look_of_sign sign) ≡ written sign
look_is_written (stray byte) = refl
look_is_written (character code) =
    by_tests (is_shown code) (code == 10) (code == 13) (code == 9) (nat_lt code 128) code

-- only the escape of a tab is a backslash and `t`
abbrev letter_in : Look → ℕ
letter_in (Letter letter) = letter
letter_in (Plain code) = 0
letter_in (Byte byte) = 0
letter_in (Code code) = 0

letter_t_by : (a b c d e : Bool) (code : ℕ)
    → Letter 116 ≡ (if a then Plain code else if b then Letter 110 else if c then Letter 114
    else if d then Letter 116 else if e then Byte code else Code code)
    → d ≡ true
letter_t_by true b c d e code is = let no : 116 ≡ 0 = ap letter_in is in absurd (omega (arith, no))
letter_t_by false true c d e code is = let no : 116 ≡ 110 = ap letter_in is in absurd (omega (arith, no))
letter_t_by false false true d e code is = let no : 116 ≡ 114 = ap letter_in is in absurd (omega (arith, no))
letter_t_by false false false true e code is = refl
letter_t_by false false false false true code is =
    let no : 116 ≡ 0 = ap letter_in is in absurd (omega (arith, no))
letter_t_by false false false false false code is =
    let no : 116 ≡ 0 = ap letter_in is in absurd (omega (arith, no))

pub tab_in_line : (sign : Sign) → Letter 116 ≡ look_of_sign sign → in_line sign ≡ 32 ∷ []
tab_in_line (stray byte) is = let no : 116 ≡ 0 = ap letter_in is in absurd (omega (arith, no))
tab_in_line (character code) is =
    let tab =
    letter_t_by (is_shown code) (code == 10) (code == 13) (code == 9) (nat_lt code 128) code is in
    ap (λ b. if b then 32 ∷ [] else written (character code)) tab

by_number : (letter : ℕ) → (letter == 116) ≡ false → 116 ≡ letter_in (Letter letter) → ⊥
by_number letter other is =
    true≢false (ap (λ n. n == 116) is ∙ other)

tab_look : look_of 9 ≡ Letter 116
unfolding is_shown
tab_look = refl

pub other_in_line : (sign : Sign) → (Letter 116 ≡ look_of_sign sign → ⊥)
    → look_text (look_of_sign sign) ≡ in_line sign
other_in_line (stray byte) other = refl
other_in_line (character code) other = ⊎_elim
    (λ tab. absurd (other (sym (ap look_of (eqb-true code 9 tab) ∙ tab_look))))
    (λ no_tab.
    look_is_written (character code)
    ∙ sym (ap (λ b. if b then 32 ∷ [] else written (character code)) no_tab))
    (cases_Bool (code == 9))

-- the letter of an escape in a line, and other escapes
pub letter_drawn : (sign : Sign) (letter size : ℕ) (look : Look)
    → look ≡ (if letter == 116 then Plain 32 else Letter letter)
    → IsDrawn sign (record { look = Letter letter; size = size })
    → IsDrawnInLine sign (record { look = look; size = size })
letter_drawn sign letter size look is drawn = ⊎_elim
    (λ tab.
    let same : Letter 116 ≡ look_of_sign sign = ap Letter (sym (eqb-true letter 116 tab)) ∙ drawn.look_is in
    record {
      text_is =
          ap look_text (is ∙ ap (λ b. if b then Plain 32 else Letter letter) tab)
          ∙ sym (tab_in_line sign same);
      size_is = drawn.size_is;
    })
    (λ no_tab.
    let other : Letter 116 ≡ look_of_sign sign → ⊥ =
    λ same. by_number letter no_tab (ap letter_in (same ∙ sym drawn.look_is)) in record {
      text_is =
          ap look_text (is ∙ ap (λ b. if b then Plain 32 else Letter letter) no_tab ∙ drawn.look_is)
          ∙ other_in_line sign other;
      size_is = drawn.size_is;
    })
    (cases_Bool (letter == 116))

pub other_drawn : (sign : Sign) (drawn : Drawn) → ((letter : ℕ) → drawn.look ≡ Letter letter → ⊥)
    → IsDrawn sign drawn → IsDrawnInLine sign drawn
other_drawn sign drawn other is = record {
  text_is =
      ap look_text is.look_is ∙ other_in_line sign (λ same. other 116 (is.look_is ∙ sym same));
  size_is = is.size_is;
}

-- escapes are printable
letter_prints : (letter : ℕ) → is_printable letter ≡ true
    → list_all is_printable (letter_escape letter) ≡ true
letter_prints letter is = both_true _ _ is refl

byte_prints : (byte : ℕ) → byte < 256 → list_all is_printable (byte_escape byte) ≡ true
byte_prints byte low =
    both_true _ _ (hex_digit_prints (byte / 16) (omega arith))
    (both_true _ _ (hex_digit_prints (byte % 16) (omega arith)) refl)

code_prints : (code : ℕ) → code < 2 ^ 32 → list_all is_printable (code_escape code) ≡ true
code_prints code low =
    list_all-append is_printable (digits 16 true code) (125 ∷ []) ∙ both_true _ _ (hex_prints code low) refl

-- the characters of a safe look are shown
pub look_shown : (look : Look) → IsSafe look → list_all is_shown (look_text look) ≡ true
look_shown (Plain code) safe = both_true _ _ safe refl
look_shown (Letter letter) safe = all_shown (letter_escape letter) (letter_prints letter safe)
look_shown (Byte byte) safe = all_shown (byte_escape byte) (byte_prints byte safe)
look_shown (Code code) safe = all_shown (code_escape code) (code_prints code safe)

pub adding_shown : {Value Error : Type 0} (look : Look) (old new : List ℕ) (r : Result Value Error)
    → IsSafe look → Adding (look_text look) r old new → AddsShown old new
adding_shown look old new r safe h = front_passes is_shown _ old new (look_shown look safe) h.front

-- printable characters take one column each
one_column : (code : ℕ) → is_printable code ≡ true → or_zero (char_width false code) ≡ 1
unfolding char_width
one_column code h =
    let parts = and_parts (nat_le 0x20 code) (nat_le code 0x7E) h in
    let low : 0x20 ≤ code = leb-true 0x20 code parts.0 in
    let high : code ≤ 0x7E = leb-true code 0x7E parts.1 in
    grind (arith, nat_tests)

pub width_prints : (codes : List ℕ) → list_all is_printable codes ≡ true → width codes ≡ length codes
width_prints [] h = refl
width_prints (code ∷ codes) h =
    let parts = and_parts (is_printable code) (list_all is_printable codes) h in
    omega (arith, one_column code parts.0, width_prints codes parts.1)

pub letter_width : (letter : ℕ) → is_printable letter ≡ true → 2 ≡ width (letter_escape letter)
letter_width letter is = sym (width_prints (letter_escape letter) (letter_prints letter is))

pub byte_width : (byte : ℕ) → byte < 256 → 4 ≡ width (byte_escape byte)
byte_width byte low = sym (width_prints (byte_escape byte) (byte_prints byte low))

pub code_width : (code : ℕ) → code < 2 ^ 32
    → 4 + length (digits 16 true code) ≡ width (code_escape code)
code_width code low =
    omega (
      arith,
      width_prints (code_escape code) (code_prints code low),
      length-append (digits 16 true code) (125 ∷ []),
    )

-- the stored form of a sign has the sign's text
pub drawn_written : (sign : Sign) (drawn : Drawn) → IsDrawn sign drawn → look_text drawn.look ≡ written sign
drawn_written sign drawn is = ap look_text is.look_is ∙ look_is_written sign

-- the stored form of the first sign, and of the last
pub drawn_char : (bytes : List ℕ) (code size : ℕ) (look : Look) → (decoded bytes).char ≡ Some code
    → look ≡ look_of code → size ≡ (decoded bytes).size
    → IsDrawn (first_sign bytes) (record { look = look; size = size })
drawn_char bytes code size look char is size_is =
    let first : first_sign bytes ≡ character code = ap (λ c. sign_of c (slice_index bytes 0)) char in record {
      look_is = is ∙ ap look_of_sign (sym first);
      size_is = size_is ∙ sym (SpellsChar-decoded bytes code char).width ∙ ap sign_size (sym first);
    }

pub drawn_last_char : (bytes : List ℕ) (p : Decoded) (code : ℕ) (look : Look) → IsLastPiece bytes p
    → p.char ≡ Some code → look ≡ look_of code
    → IsDrawnLast bytes (record { look = look; size = p.size })
drawn_last_char bytes p code look last char is =
    let tail = drop (length bytes - p.size) bytes in
    let read : p ≡ decoded tail = IsLastPiece-decoded bytes p last in
    let tail_char : (decoded tail).char ≡ Some code = ap (λ (q : Decoded). q.char) (sym read) ∙ char in
    let size : (decoded tail).size ≡ p.size = ap (λ (q : Decoded). q.size) (sym read) in
    record {
      sign = character code;
      is = record {
        look_is = is;
        size_is = sym size ∙ sym (SpellsChar-decoded tail code tail_char).width;
      };
      last = last_char bytes p code last char;
    }

pub drawn_last_stray : (bytes : List ℕ) (p : Decoded) (byte : ℕ) → 0 < length bytes → IsLastPiece bytes p
    → p.char ≡ None → byte ≡ slice_index bytes (length bytes - 1)
    → IsDrawnLast bytes (record { look = Byte byte; size = 1 })
drawn_last_stray bytes p byte some last none is = record {
  sign = stray byte;
  is = record { look_is = refl; size_is = refl };
  last =
      last_stray bytes p some last none
      ∙ ap (λ b. signs (take (length bytes - 1) bytes) ++ stray b ∷ []) (sym is);
}
