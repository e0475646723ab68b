-- The plain lines of a text, and its plain table, as functions and as the relations that define them.
use Rattle.std.proofs.Common.{◌≡◌, ◌||◌, ℕ, Bool, true, false, not, List, [], ◌∷◌, ◌++◌}
use Rattle.std.proofs.Common.{refl, ap, sym, ◌∙◌, append_assoc}
use Rattle.std.specs.List.{list_any}
use Rattle.std.proofs.lemmas.Bool.{false≢true}
use Rattle.std.proofs.lemmas.List.{append-nil}
use Rattle.std.proofs.lemmas.List.Folds.{list_any-append}
use Rattle.twp_plat.specs.PlainTables.{is_line_end, is_line, ArePlainLines, last_line, next_line}
use Rattle.twp_plat.specs.PlainTables.{unclosed_after, first_line, IsPlainTable, IsSeparatorOf}
use Rattle.twp_plat.specs.PlainTables.{byte_order_mark_of, after_byte_order_mark}
use Rattle.twp_plat.specs.steps.CellCuts.{separator_of, plain_line, plain_from, plain_lines, plain_table}
use Rattle.twp_plat.proofs.lots.sheet.PlainFacts.{CanSeparate, separator_is, one_separator, can_separate}
use Rattle.twp_plat.proofs.lots.sheet.PlainFacts.{line_is, one_line}

-- a byte at the end of a line, and at its start
not_more : (found : Bool) → not found ≡ true → not (found || (false || false)) ≡ true
not_more true is = is
not_more false is = refl

line_more : (line : List ℕ) (byte : ℕ) → is_line line ≡ true → is_line_end byte ≡ false
    → is_line (line ++ byte ∷ []) ≡ true
line_more line byte is other =
    rw (list_any-append is_line_end line (byte ∷ []), other) (not_more (list_any is_line_end line) is)

first_is : (end more : Bool) → not (end || more) ≡ true → (end ≡ false) × (not more ≡ true)
first_is true more is = absurd (false≢true is)
first_is false more is = (refl, is)

-- the function's lines are the lines of the relation
lines_by : (separator byte : ℕ) (unclosed : Bool) (line rest : List ℕ) → CanSeparate separator
    → is_line line ≡ true → (ends : Bool) → is_line_end byte ≡ ends
    → ((unclosed : Bool) (line : List ℕ) → is_line line ≡ true
    → ArePlainLines separator unclosed (line ++ rest) (plain_from separator unclosed line rest))
    → ArePlainLines separator unclosed (line ++ byte ∷ rest)
    (plain_from separator unclosed line (byte ∷ rest))
unfolding plain_from
lines_by separator byte unclosed line rest can is true end later =
    next_line unclosed _ _ line (plain_line separator unclosed line) byte rest _ is end
    (line_is separator unclosed line can) (later (unclosed_after unclosed line) [] refl)
    refl (rw (plain_from, end) refl)
lines_by separator byte unclosed line rest can is false end later =
    rw (← append_assoc line (byte ∷ []) rest)
    (rw (plain_from, end) (later unclosed (line ++ byte ∷ []) (line_more line byte is end)))

pub lines_are : (separator : ℕ) (text : List ℕ) → CanSeparate separator
    → (unclosed : Bool) (line : List ℕ) → is_line line ≡ true
    → ArePlainLines separator unclosed (line ++ text) (plain_from separator unclosed line text)
unfolding plain_from
lines_are separator [] can unclosed line is =
    rw (append-nil line) (last_line unclosed line _ is (line_is separator unclosed line can))
lines_are separator (byte ∷ text) can unclosed line is =
    lines_by separator byte unclosed line text can is _ refl (lines_are separator text can)

-- a line, and a line before others
only_line : (separator : ℕ) (unclosed : Bool) (line front : List ℕ) → is_line line ≡ true
    → plain_from separator unclosed front line ≡ plain_line separator unclosed (front ++ line)
unfolding plain_from
only_line separator unclosed [] front is = rw (append-nil front) refl
only_line separator unclosed (byte ∷ line) front is =
    let first = first_is (is_line_end byte) (list_any is_line_end line) is in
    rw (plain_from, first.0)
    (only_line separator unclosed line (front ++ byte ∷ []) first.1
    ∙ ap (plain_line separator unclosed) (append_assoc front (byte ∷ []) line))

line_before : (separator : ℕ) (unclosed : Bool) (line front : List ℕ) (end : ℕ) (rest : List ℕ)
    → is_line line ≡ true → is_line_end end ≡ true
    → plain_from separator unclosed front (line ++ end ∷ rest)
    ≡ plain_line separator unclosed (front ++ line)
    ++ end ∷ plain_from separator (unclosed_after unclosed (front ++ line)) [] rest
unfolding plain_from
line_before separator unclosed [] front end rest is ends = rw (plain_from, ends, append-nil front) refl
line_before separator unclosed (byte ∷ line) front end rest is ends =
    let first = first_is (is_line_end byte) (list_any is_line_end line) is in
    rw (plain_from, first.0)
    (line_before separator unclosed line (front ++ byte ∷ []) end rest first.1 ends
    ∙ ap
    (λ (whole : List ℕ). plain_line separator unclosed whole
    ++ end ∷ plain_from separator (unclosed_after unclosed whole) [] rest)
    (append_assoc front (byte ∷ []) line))

pub one_lines : (separator : ℕ) (unclosed : Bool) (text made : List ℕ) → CanSeparate separator
    → ArePlainLines separator unclosed text made → made ≡ plain_from separator unclosed [] text
one_lines separator _ _ _ can (last_line unclosed line plain is is_plain) =
    one_line separator unclosed line plain can is_plain ∙ sym (only_line separator unclosed line [] is)
one_lines separator _ _ _ can
    (next_line unclosed text made line plain end rest rest_made is ends is_plain others text_is made_is) =
    made_is
    ∙ ap (λ (plain : List ℕ). plain ++ end ∷ rest_made) (one_line separator unclosed line plain can is_plain)
    ∙ ap (λ (rest_made : List ℕ). plain_line separator unclosed line ++ end ∷ rest_made)
    (one_lines separator (unclosed_after unclosed line) rest rest_made can others)
    ∙ sym (line_before separator unclosed line [] end rest is ends)
    ∙ ap (plain_from separator unclosed []) (sym text_is)

-- the plain table of a text
pub table_is : (text : List ℕ) → IsPlainTable text (plain_table text)
table_is text =
    let rest : List ℕ = after_byte_order_mark text in
    let line : List ℕ = first_line rest in
    let is : IsSeparatorOf line (separator_of line) = separator_is line in
    record {
      separator = separator_of line;
      separates = is;
      made = plain_lines rest;
      lines = lines_are (separator_of line) rest (can_separate line (separator_of line) is) false [] refl;
      plain_is = refl;
    }

pub one_table : (text plain : List ℕ) → IsPlainTable text plain → plain ≡ plain_table text
one_table text plain is =
    let line : List ℕ = first_line (after_byte_order_mark text) in
    let can : CanSeparate is.separator = can_separate line is.separator is.separates in
    is.plain_is
    ∙ ap (λ (made : List ℕ). byte_order_mark_of text ++ made)
    (one_lines is.separator false (after_byte_order_mark text) is.made can is.lines
    ∙ ap (λ (separator : ℕ). plain_from separator false [] (after_byte_order_mark text))
    (one_separator line is.separator is.separates))
