-- The laws of plain tables.
use Rattle.std.proofs.Common.{◌≡◌, ◌==◌, ◌||◌, ℕ, suc, ◌+◌, Bool, true, false, not, List, [], ◌∷◌, ◌++◌}
use Rattle.std.proofs.Common.{take, drop, refl, ap, sym, ◌∙◌, arith, if◌then◌else◌}
use Rattle.std.specs.List.{position_or_len}
use Rattle.std.proofs.lemmas.Bool.{false≢true}
use Rattle.std.proofs.lemmas.List.{take-append-drop}
use Rattle.std.proofs.lemmas.List.Elements.{filter-append}
use Rattle.twp_plat.specs.PlainTables.{comma, is_line, is_line_end, IsSeparatorOf, ArePlainLines, last_line}
use Rattle.twp_plat.specs.PlainTables.{next_line, first_line, unclosed_after, IsPlainTable}
use Rattle.twp_plat.specs.PlainTables.{has_byte_order_mark, byte_order_mark_of, after_byte_order_mark}
use Rattle.twp_plat.specs.PlainTableLaws.{line_ends}
use Rattle.twp_plat.proofs.lots.sheet.PlainFacts.{CanSeparate, can_separate}
use Rattle.twp_plat.proofs.lots.sheet.PlainAgain.{line_again, separator_again}

-- the first line of a text
first_byte : (end more : Bool) → not (end || more) ≡ true → (end ≡ false) × (not more ≡ true)
first_byte true more is = absurd (false≢true is)
first_byte false more is = (refl, is)

first_more : (byte : ℕ) (line : List ℕ) → is_line_end byte ≡ false
    → first_line (byte ∷ line) ≡ byte ∷ first_line line
first_more byte line is =
    let e : 1 + position_or_len is_line_end line ≡ suc (position_or_len is_line_end line) = omega arith in
    rw (is, e) refl

pub only_first : (line : List ℕ) → is_line line ≡ true → first_line line ≡ line
only_first [] is = refl
only_first (byte ∷ line) is =
    let facts = first_byte (is_line_end byte) _ is in
    first_more byte line facts.0 ∙ ap (λ (line : List ℕ). byte ∷ line) (only_first line facts.1)

pub first_before : (line : List ℕ) (end : ℕ) (rest : List ℕ) → is_line line ≡ true
    → is_line_end end ≡ true → first_line (line ++ end ∷ rest) ≡ line
first_before [] end rest is ends = rw ends refl
first_before (byte ∷ line) end rest is ends =
    let facts = first_byte (is_line_end byte) _ is in
    first_more byte (line ++ end ∷ rest) facts.0
    ∙ ap (λ (line : List ℕ). byte ∷ line) (first_before line end rest facts.1 ends)

-- plain lines are their own plain lines
pub lines_again : (separator : ℕ) (unclosed : Bool) (text made : List ℕ) → CanSeparate separator
    → ArePlainLines separator unclosed text made → ArePlainLines comma unclosed made made
lines_again separator _ _ _ can (last_line unclosed line plain is is_plain) =
    let again = line_again separator unclosed line plain can is is_plain in
    last_line unclosed plain plain again.is again.stays
lines_again separator _ _ _ can
    (next_line unclosed text made line plain end rest rest_made is ends is_plain others text_is made_is) =
    let again = line_again separator unclosed line plain can is is_plain in
    let after = lines_again separator (unclosed_after unclosed line) rest rest_made can others in
    next_line unclosed made made plain plain end rest_made rest_made again.is ends again.stays
    (rw again.pairs after) made_is made_is

pub separator_of_made : (separator : ℕ) (unclosed : Bool) (text made : List ℕ) → unclosed ≡ false
    → ArePlainLines separator unclosed text made → IsSeparatorOf (first_line text) separator
    → CanSeparate separator → IsSeparatorOf (first_line made) comma
separator_of_made separator _ _ _ closed (last_line unclosed line plain is is_plain) separates can =
    let again = line_again separator unclosed line plain can is is_plain in
    rw (only_first plain again.is)
    (separator_again separator line plain (rw (only_first line is) at separates) (rw closed at is_plain))
separator_of_made separator _ _ _ closed
    (next_line unclosed text made line plain end rest rest_made is ends is_plain others text_is made_is)
    separates can =
    let again = line_again separator unclosed line plain can is is_plain in
    rw (made_is, first_before plain end rest_made again.is ends)
    (separator_again separator line plain
    (rw (text_is, first_before line end rest is ends) at separates) (rw closed at is_plain))

-- a line has no line ends, and a plain one has none either
negated : (b : Bool) → not b ≡ true → b ≡ false
negated true is = absurd (false≢true is)
negated false is = refl

none_of_line : (line : List ℕ) → is_line line ≡ true → line_ends line ≡ []
none_of_line [] is = refl
none_of_line (byte ∷ line) is =
    let facts = first_byte (is_line_end byte) _ is in rw facts.0 (none_of_line line facts.1)

ends_of : (line : List ℕ) (end : ℕ) (rest : List ℕ) → is_line line ≡ true → is_line_end end ≡ true
    → line_ends (line ++ end ∷ rest) ≡ end ∷ line_ends rest
ends_of line end rest is ends =
    filter-append is_line_end line (end ∷ rest)
    ∙ ap (λ (found : List ℕ). found ++ line_ends (end ∷ rest)) (none_of_line line is)
    ∙ rw ends refl

ends_of_lines : (separator : ℕ) (unclosed : Bool) (text made : List ℕ) → CanSeparate separator
    → ArePlainLines separator unclosed text made → line_ends made ≡ line_ends text
ends_of_lines separator _ _ _ can (last_line unclosed line plain is is_plain) =
    let again = line_again separator unclosed line plain can is is_plain in
    none_of_line plain again.is ∙ sym (none_of_line line is)
ends_of_lines separator _ _ _ can
    (next_line unclosed text made line plain end rest rest_made is ends is_plain others text_is made_is) =
    let again = line_again separator unclosed line plain can is is_plain in
    ap line_ends made_is
    ∙ ends_of plain end rest_made again.is ends
    ∙ ap (λ (found : List ℕ). end ∷ found)
    (ends_of_lines separator (unclosed_after unclosed line) rest rest_made can others)
    ∙ sym (ends_of line end rest is ends)
    ∙ ap line_ends (sym text_is)

pub mark_by : (text : List ℕ) (marked : Bool)
    → (if marked then take 3 text else []) ++ (if marked then drop 3 text else text) ≡ text
mark_by text true = take-append-drop 3 text
mark_by text false = refl

pub line_ends_stay : (text plain : List ℕ) → IsPlainTable text plain → line_ends plain ≡ line_ends text
line_ends_stay text plain is =
    let mark : List ℕ = byte_order_mark_of text in
    let rest : List ℕ = after_byte_order_mark text in
    ap line_ends is.plain_is
    ∙ filter-append is_line_end mark is.made
    ∙ ap (λ (found : List ℕ). line_ends mark ++ found)
    (ends_of_lines is.separator false rest is.made (can_separate _ is.separator is.separates) is.lines)
    ∙ sym (filter-append is_line_end mark rest)
    ∙ ap line_ends (mark_by text (has_byte_order_mark text))

-- a byte that no byte order mark has
pub record IsNoMarkByte (byte : ℕ) : Type 0 where
  pub no_first : (byte == 239) ≡ false
  pub no_second : (byte == 187) ≡ false
  pub no_third : (byte == 191) ≡ false

-- such a byte at a text's end or after it makes no byte order mark
pub mark_before : (front : List ℕ) (byte : ℕ) (rest : List ℕ) → IsNoMarkByte byte
    → has_byte_order_mark (front ++ byte ∷ rest) ≡ has_byte_order_mark front
mark_before [] byte rest is = rw is.no_first refl
mark_before (a ∷ []) byte rest is = rw is.no_second (grind arith)
mark_before (a ∷ b ∷ []) byte rest is = rw is.no_third (grind arith)
mark_before (a ∷ b ∷ c ∷ front) byte rest is = refl
