-- The plain table of a plain table, and a text whose lines are all plain.
use Rattle.std.proofs.Common.{◌≡◌, ◌==◌, ◌&&◌, ◌||◌, ℕ, Bool, true, false, List, [], ◌∷◌, ◌++◌}
use Rattle.std.proofs.Common.{take, drop, refl, ap, sym, ◌∙◌, append_assoc, if◌then◌else◌}
use Rattle.std.proofs.lemmas.Bool.{eqb-true, false≢true}
use Rattle.std.proofs.lemmas.List.{append-nil}
use Rattle.twp_plat.specs.PlainTables.{comma, is_line_end, ArePlainLines, last_line}
use Rattle.twp_plat.specs.PlainTables.{next_line, first_line, unclosed_after, IsPlainLine, IsPlainTable}
use Rattle.twp_plat.specs.PlainTables.{has_byte_order_mark, byte_order_mark_of, after_byte_order_mark}
use Rattle.twp_plat.specs.PlainTables.{row, row_by_commas, no_row, within_a_cell, cell_text, row_text, quoted}
use Rattle.twp_plat.specs.PlainTables.{needs_quotes, trimmed, with_acres}
use Rattle.twp_plat.specs.PlainTableLaws.{IsPlainRow, IsLineOfText, IsBeforeLine, none, lines}
use Rattle.twp_plat.specs.PlainTableLaws.{none_more, more_lines}
use Rattle.twp_plat.specs.steps.CellCuts.{plain_from}
use Rattle.twp_plat.proofs.lots.sheet.PlainFacts.{CanSeparate, can_separate, one_line}
use Rattle.twp_plat.proofs.lots.sheet.PlainTexts.{lines_are}
use Rattle.twp_plat.proofs.lots.sheet.PlainAgain.{row_stays, comma_separates}
use Rattle.twp_plat.proofs.lots.sheet.PlainLaws.{only_first, first_before, lines_again, separator_of_made}
use Rattle.twp_plat.proofs.lots.sheet.PlainLaws.{IsNoMarkByte, mark_before, mark_by}

-- a plain line has no byte order mark if its line has none
or_false : (a b : Bool) → (a || b) ≡ false → (a ≡ false) × (b ≡ false)
or_false true b is = absurd (false≢true (sym is))
or_false false b is = (refl, is)

text_by : (cell : List ℕ) (needs : Bool) → needs_quotes cell ≡ needs
    → has_byte_order_mark (if needs then quoted cell else cell) ≡ false
text_by cell true is = refl
text_by cell false is = (or_false _ _ is).0

cell_unmarked : (cell : List ℕ) → has_byte_order_mark (cell_text cell) ≡ false
cell_unmarked cell = text_by cell _ refl

comma_is : IsNoMarkByte comma
comma_is = record { no_first = refl; no_second = refl; no_third = refl }

row_unmarked : (cells : List (List ℕ)) → has_byte_order_mark (row_text cells) ≡ false
row_unmarked [] = refl
row_unmarked (cell ∷ []) = ap has_byte_order_mark (append-nil (cell_text cell)) ∙ cell_unmarked cell
row_unmarked (cell ∷ next ∷ more) =
    mark_before (cell_text cell) comma (row_text (next ∷ more)) comma_is ∙ cell_unmarked cell

line_unmarked : (separator : ℕ) (unclosed : Bool) (line plain : List ℕ)
    → IsPlainLine separator unclosed line plain → has_byte_order_mark line ≡ false
    → has_byte_order_mark plain ≡ false
line_unmarked separator unclosed line plain (row closed cells is_row plain_is) unmarked =
    ap has_byte_order_mark plain_is ∙ row_unmarked (with_acres (trimmed cells))
line_unmarked separator unclosed line plain (row_by_commas closed no_cells cells is_row plain_is) unmarked =
    ap has_byte_order_mark plain_is ∙ row_unmarked (with_acres (trimmed cells))
line_unmarked separator unclosed line plain (no_row closed no_cells none_by_commas plain_is) unmarked =
    ap has_byte_order_mark plain_is ∙ unmarked
line_unmarked separator unclosed line plain (within_a_cell inside plain_is) unmarked =
    ap has_byte_order_mark plain_is ∙ unmarked

end_by : (byte : ℕ) (feed return : Bool) → (byte == 10) ≡ feed → (byte == 13) ≡ return
    → (feed || return) ≡ true → IsNoMarkByte byte
end_by byte true return feed_is return_is ends =
    rw (eqb-true byte 10 feed_is) (record { no_first = refl; no_second = refl; no_third = refl })
end_by byte false true feed_is return_is ends =
    rw (eqb-true byte 13 return_is) (record { no_first = refl; no_second = refl; no_third = refl })
end_by byte false false feed_is return_is ends = absurd (false≢true ends)

end_is : (byte : ℕ) → is_line_end byte ≡ true → IsNoMarkByte byte
end_is byte ends = end_by byte _ _ refl refl ends

lines_unmarked : (separator : ℕ) (unclosed : Bool) (text made : List ℕ)
    → ArePlainLines separator unclosed text made → has_byte_order_mark text ≡ false
    → has_byte_order_mark made ≡ false
lines_unmarked separator _ _ _ (last_line unclosed line plain is is_plain) unmarked =
    line_unmarked separator unclosed line plain is_plain unmarked
lines_unmarked separator _ _ _
    (next_line unclosed text made line plain end rest rest_made is ends is_plain others text_is made_is)
    unmarked =
    ap has_byte_order_mark made_is
    ∙ mark_before plain end rest_made (end_is end ends)
    ∙ line_unmarked separator unclosed line plain is_plain
    (sym (mark_before line end rest (end_is end ends)) ∙ ap has_byte_order_mark (sym text_is) ∙ unmarked)

-- the byte order mark of a plain table is that of its text
record IsMarkKept (mark made : List ℕ) : Type 0 where
  mark_is : byte_order_mark_of (mark ++ made) ≡ mark
  rest_is : after_byte_order_mark (mark ++ made) ≡ made

no_two : (first : Bool) → (first && false && false) ≡ false
no_two true = refl
no_two false = refl

no_third : (first second : Bool) → (first && second && false) ≡ false
no_third true true = refl
no_third true false = refl
no_third false second = refl

kept_by : (text made : List ℕ) (marked : Bool) → has_byte_order_mark text ≡ marked
    → (marked ≡ false → has_byte_order_mark made ≡ false)
    → IsMarkKept (if marked then take 3 text else []) made
kept_by [] made true is unmarked = absurd (false≢true is)
kept_by (a ∷ []) made true is unmarked = absurd (false≢true (sym (no_two (a == 239)) ∙ is))
kept_by (a ∷ b ∷ []) made true is unmarked =
    absurd (false≢true (sym (no_third (a == 239) (b == 187)) ∙ is))
kept_by (a ∷ b ∷ c ∷ text) made true is unmarked =
    record { mark_is = rw is refl; rest_is = rw is refl }
kept_by text made false is unmarked =
    record { mark_is = rw (unmarked refl) refl; rest_is = rw (unmarked refl) refl }

-- a text without a byte order mark is the rest after it
rest_unmarked : (text : List ℕ) (marked : Bool) → has_byte_order_mark text ≡ marked → marked ≡ false
    → has_byte_order_mark (if marked then drop 3 text else text) ≡ false
rest_unmarked text true is unmarked = absurd (false≢true (sym unmarked))
rest_unmarked text false is unmarked = is

pub plain_of_plain : (text plain : List ℕ) → IsPlainTable text plain → IsPlainTable plain plain
plain_of_plain text plain is =
    let rest : List ℕ = after_byte_order_mark text in
    let can : CanSeparate is.separator = can_separate (first_line rest) is.separator is.separates in
    let kept : IsMarkKept (byte_order_mark_of text) is.made =
    kept_by text is.made (has_byte_order_mark text) refl
    (λ unmarked. lines_unmarked is.separator false rest is.made is.lines
    (rest_unmarked text _ refl unmarked)) in
    rw is.plain_is (record {
      separator = comma;
      separates = rw kept.rest_is
          (separator_of_made is.separator false rest is.made refl is.lines is.separates can);
      made = is.made;
      lines = rw kept.rest_is (lines_again is.separator false rest is.made can is.lines);
      plain_is = ap (λ (mark : List ℕ). mark ++ is.made) (sym kept.mark_is);
    })

-- the first line is one of the lines, and so are those of the text after a line end
first_is : (separator : ℕ) (unclosed : Bool) (text made : List ℕ)
    → ArePlainLines separator unclosed text made → IsLineOfText text (first_line text)
first_is separator _ _ _ (last_line unclosed line plain is is_plain) =
    rw (only_first line is) (record {
      before = [];
      after = [];
      text_is = sym (append-nil line);
      is = is;
      starts = none refl;
      stops = none_more refl;
    })
first_is separator _ _ _
    (next_line unclosed text made line plain end rest rest_made is ends is_plain others text_is made_is) =
    rw (text_is, first_before line end rest is ends) (record {
      before = [];
      after = end ∷ rest;
      text_is = refl;
      is = is;
      starts = none refl;
      stops = more_lines end rest ends refl;
    })

starts_by : (line : List ℕ) (end : ℕ) (before : List ℕ) → is_line_end end ≡ true → IsBeforeLine before
    → IsBeforeLine (line ++ end ∷ before)
starts_by line end before ends (none is) = lines line end ends (rw is refl)
starts_by line end before ends (lines front byte is_end is) =
    lines (line ++ end ∷ front) byte is_end
    (rw is (sym (append_assoc line (end ∷ front) (byte ∷ []))))

later_is : (line : List ℕ) (end : ℕ) (rest found : List ℕ) → is_line_end end ≡ true
    → IsLineOfText rest found → IsLineOfText (line ++ end ∷ rest) found
later_is line end rest found ends is = record {
  before = line ++ end ∷ is.before;
  after = is.after;
  text_is = rw is.text_is (simp append_assoc);
  is = is.is;
  starts = starts_by line end is.before ends is.starts;
  stops = is.stops;
}

line_stays : (unclosed : Bool) (line plain : List ℕ) → IsPlainRow line
    → IsPlainLine comma unclosed line plain → plain ≡ line
line_stays unclosed line plain is is_plain =
    one_line comma unclosed line plain refl is_plain
    ∙ sym (one_line comma unclosed line line refl (row_stays unclosed line is))

lines_stay : (unclosed : Bool) (text made : List ℕ) → ArePlainLines comma unclosed text made
    → ((line : List ℕ) → IsLineOfText text line → IsPlainRow line) → made ≡ text
lines_stay _ _ _ (last_line unclosed line plain is is_plain) all =
    let first : IsPlainRow (first_line line) =
    all (first_line line) (first_is comma unclosed line plain (last_line unclosed line plain is is_plain)) in
    line_stays unclosed line plain (rw (only_first line is) at first) is_plain
lines_stay _ _ _
    (next_line unclosed text made line plain end rest rest_made is ends is_plain others text_is made_is) all =
    let first : IsPlainRow (first_line text) =
    all (first_line text)
    (first_is comma unclosed text made
    (next_line unclosed text made line plain end rest rest_made is ends is_plain others text_is made_is)) in
    made_is
    ∙ ap (λ (plain : List ℕ). plain ++ end ∷ rest_made)
    (line_stays unclosed line plain (rw (text_is, first_before line end rest is ends) at first) is_plain)
    ∙ ap (λ (rest : List ℕ). line ++ end ∷ rest)
    (lines_stay (unclosed_after unclosed line) rest rest_made others
    (λ found found_is. all found (rw text_is (later_is line end rest found ends found_is))))
    ∙ sym text_is

pub plain_tables_stay : (text : List ℕ)
    → ((line : List ℕ) → IsLineOfText (after_byte_order_mark text) line → IsPlainRow line)
    → IsPlainTable text text
plain_tables_stay text all =
    let rest : List ℕ = after_byte_order_mark text in
    let made : List ℕ = plain_from comma false [] rest in
    let are : ArePlainLines comma false rest made = lines_are comma rest refl false [] refl in
    let same : made ≡ rest = lines_stay false rest made are all in
    record {
      separator = comma;
      separates = comma_separates (first_line rest)
          (all (first_line rest) (first_is comma false rest made are));
      made = rest;
      lines = rw same at are;
      plain_is = sym (mark_by text (has_byte_order_mark text));
    }
