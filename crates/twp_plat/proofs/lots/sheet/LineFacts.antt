-- The loop that writes the plain lines of a text.
use Rattle.std.proofs.Common.{◌≡◌, ℕ, ◌+◌, ◌-◌, ◌<◌, ◌≤◌, Bool, true, false, List, [], ◌∷◌, ◌++◌, length}
use Rattle.std.proofs.Common.{drop, get_or, refl, ap, sym, ◌∙◌, arith, append_assoc, length-drop}
use Rattle.std.specs.Prelude.{slice_range}
use Rattle.std.proofs.lemmas.List.{at_drop_more, at_drop_all, take_all}
use Rattle.std.proofs.lemmas.List.Edits.{between_more}
use Rattle.twp_plat.specs.PlainTables.{is_line_end, unclosed_after}
use Rattle.twp_plat.specs.steps.CellCuts.{plain_line, plain_from}

at_byte : (separator : ℕ) (unclosed : Bool) (line text : List ℕ) (i : ℕ) → i < length text
    → plain_from separator unclosed line (drop i text)
    ≡ plain_from separator unclosed line (get_or text i 0 ∷ drop (i + 1) text)
at_byte separator unclosed line text i within =
    at_drop_more (plain_from separator unclosed line) text i 0 within

line_ends : (separator : ℕ) (unclosed : Bool) (line text : List ℕ) (i : ℕ) → i < length text
    → is_line_end (get_or text i 0) ≡ true
    → plain_from separator unclosed line (drop i text)
    ≡ plain_line separator unclosed line
    ++ get_or text i 0 ∷ plain_from separator (unclosed_after unclosed line) [] (drop (i + 1) text)
unfolding plain_from
line_ends separator unclosed line text i within is =
    at_byte separator unclosed line text i within ∙ rw (plain_from, is) refl

line_goes_on : (separator : ℕ) (unclosed : Bool) (line text : List ℕ) (i : ℕ) → i < length text
    → is_line_end (get_or text i 0) ≡ false
    → plain_from separator unclosed line (drop i text)
    ≡ plain_from separator unclosed (line ++ get_or text i 0 ∷ []) (drop (i + 1) text)
unfolding plain_from
line_goes_on separator unclosed line text i within is =
    at_byte separator unclosed line text i within ∙ rw (plain_from, is) refl

none_yet : (text : List ℕ) (i : ℕ) → slice_range text i i ≡ []
none_yet text i = let e : i - i ≡ 0 = omega arith in rw e refl

-- the invariant of the loop, after a line end and after another byte
pub kept_at_line_end : (separator : ℕ) (unclosed : Bool) (text : List ℕ) (start i : ℕ)
    (old made new whole : List ℕ) → i < length text → is_line_end (get_or text i 0) ≡ true
    → made ≡ old ++ plain_line separator unclosed (slice_range text start i)
    → new ≡ made ++ get_or text i 0 ∷ []
    → old ++ plain_from separator unclosed (slice_range text start i) (drop i text) ≡ whole
    → new
    ++ plain_from separator (unclosed_after unclosed (slice_range text start i))
    (slice_range text (i + 1) (i + 1)) (drop (i + 1) text)
    ≡ whole
kept_at_line_end separator unclosed text start i old made new whole within is made_is new_is kept =
    let line : List ℕ = slice_range text start i in
    let next : Bool = unclosed_after unclosed line in
    let rest : List ℕ = plain_from separator next [] (drop (i + 1) text) in
    rw (none_yet text (i + 1), new_is, made_is)
    (append_assoc (old ++ plain_line separator unclosed line) (get_or text i 0 ∷ []) rest
    ∙ append_assoc old (plain_line separator unclosed line) (get_or text i 0 ∷ rest)
    ∙ ap (λ (made : List ℕ). old ++ made)
    (sym (line_ends separator unclosed line text i within is))
    ∙ kept)

pub kept_within_line : (separator : ℕ) (unclosed : Bool) (text : List ℕ) (start i : ℕ)
    (old whole : List ℕ) → start ≤ i → i < length text → is_line_end (get_or text i 0) ≡ false
    → old ++ plain_from separator unclosed (slice_range text start i) (drop i text) ≡ whole
    → old ++ plain_from separator unclosed (slice_range text start (i + 1)) (drop (i + 1) text) ≡ whole
kept_within_line separator unclosed text start i old whole order within is kept =
    ap (λ (line : List ℕ). old ++ plain_from separator unclosed line (drop (i + 1) text))
    (between_more text start i 0 order within)
    ∙ ap (λ (made : List ℕ). old ++ made)
    (sym (line_goes_on separator unclosed (slice_range text start i) text i within is))
    ∙ kept

-- the end of the loop: the rest of the text is the last line
rest_is : (text : List ℕ) (start i : ℕ) → length text ≤ i → slice_range text start i ≡ drop start text
rest_is text start i past = take_all (i - start) (drop start text) (simp length-drop (omega arith))

pub last_line_is : (separator : ℕ) (unclosed : Bool) (text : List ℕ) (start i : ℕ)
    (old whole : List ℕ) → length text ≤ i
    → old ++ plain_from separator unclosed (slice_range text start i) (drop i text) ≡ whole
    → (new : List ℕ)
    → new ≡ old ++ plain_line separator unclosed (slice_range text start (length text))
    → new ≡ whole
unfolding plain_from
last_line_is separator unclosed text start i old whole past kept new is =
    is
    ∙ ap (λ (line : List ℕ). old ++ plain_line separator unclosed line)
    (rest_is text start (length text) (omega arith) ∙ sym (rest_is text start i past))
    ∙ ap (λ (made : List ℕ). old ++ made)
    (sym (at_drop_all (plain_from separator unclosed (slice_range text start i)) text i past))
    ∙ kept
