-- Each word, number, and mark of the canonical text is a token before what follows it.
use Rattle.std.proofs.Common.{◌≡◌, ◌==◌, ℕ, ◌<◌, true, false, List, [], ◌∷◌, ◌++◌, map, decimal, length, refl}
use Rattle.std.proofs.Common.{sym, ap, subst, arith}
use Rattle.std.specs.Char.{is_ascii_alphabetic, is_ascii_digit}
use Rattle.std.specs.List.{list_all, AllPass}
use Rattle.std.proofs.lemmas.Bool.{and_parts, false≢true}
use Rattle.std.proofs.lemmas.List.Sums.{AllPass-from_list_all}
use Rattle.std.proofs.lemmas.Fmt.{decimal_is_IsNumeral, length-decimal-le}
use Rattle.twp_grid.specs.Townships.{Designation}
use Rattle.twp_grid.specs.declared.township.NorthSouth.{NorthSouth}
use Rattle.twp_grid.specs.declared.township.NorthSouth.TheVariants as ns
use Rattle.twp_grid.specs.declared.township.EastWest.{EastWest}
use Rattle.twp_grid.specs.declared.township.EastWest.TheVariants as ew
use Rattle.twp_grid.specs.declared.block.Side.TheVariants.{N, S, E, W}
use Rattle.twp_grid.specs.declared.block.Corner.TheVariants.{NE, NW, SW, SE}
use Rattle.twp_grammar.specs.declared.tokens.Kind.{Kind}
use Rattle.twp_grammar.specs.declared.tokens.Kind.TheVariants.{Number}
use Rattle.twp_grammar.specs.declared.tokens.Kind.TheVariants as kind
use Rattle.twp_grammar.specs.declared.item.Step.{Step}
use Rattle.twp_grammar.specs.declared.item.Step.TheVariants.{Half, Quarter}
use Rattle.twp_grammar.specs.Tokens.{is_white, kind_of_word, begins_with, Begins, IsGoodToken, a_word}
use Rattle.twp_grammar.specs.Tokens.{a_number, a_half, a_quarter, a_comma, a_semicolon, a_stop}
use Rattle.twp_grammar.specs.Grammar.{◌⨾◌, one, many, step, number, entry, separator, part, group, heading}
use Rattle.twp_grammar.specs.Grammar.{description}
use Rattle.twp_spell.specs.CanonicalText.{north_south_letter, east_west_letter, line_end}
use Rattle.twp_grammar.proofs.Numerals.{digits_test}
use Rattle.twp_spell.proofs.Lexemes.{bytes, Fits}
use Rattle.twp_spell.proofs.SpelledTokens.{ListEntry, all_entry, lot_entry, part_entry, SectionLine, space}
use Rattle.twp_spell.proofs.SpelledTokens.{number_mark, step_draft, further_step_grammar, further_step}
use Rattle.twp_spell.proofs.SpelledTokens.{further_number, entry_draft, further_entry, line_draft}
use Rattle.twp_spell.proofs.SpelledTokens.{further_line_grammar, further_line, heading_draft, land_draft}

-- a comma, a semicolon, or a period comes next
pub data Stopped (rest : List ℕ) : Type 0 where
  at_comma : (more : List ℕ) → rest ≡ 44 ∷ more → Stopped rest
  at_semicolon : (more : List ℕ) → rest ≡ 59 ∷ more → Stopped rest
  at_stop : (more : List ℕ) → rest ≡ 46 ∷ more → Stopped rest

-- a word
word : (c : ℕ) (cs rest : List ℕ) (kind : Kind) → list_all is_ascii_alphabetic (c ∷ cs) ≡ true
    → begins_with is_ascii_alphabetic rest ≡ false → kind ≡ kind_of_word (c ∷ cs)
    → IsGoodToken (c ∷ cs) rest kind
word c cs rest kind all ends is =
    a_word
    (record { some = omega arith; all = AllPass-from_list_all is_ascii_alphabetic (c ∷ cs) all; ends = ends })
    is

-- digits begin neither a half nor a quarter if no slash follows them
no_part : (d : ℕ) (text : List ℕ) (byte : ℕ) (rest : List ℕ) → 0 < length text
    → list_all is_ascii_digit text ≡ true → (byte == 47) ≡ false
    → ¬ Begins (49 ∷ 47 ∷ d ∷ []) (text ++ (byte ∷ rest))
no_part d [] byte rest some all clear begins = absurd (omega arith)
no_part d (c ∷ []) byte rest some all clear (more, e) =
    let same : byte ≡ 47 = cc e in
    false≢true (sym (subst (λ b. (b == 47) ≡ false) same clear))
no_part d (c ∷ c' ∷ cs) byte rest some all clear (more, e) =
    let same : c' ≡ 47 = cc e in
    let digits = and_parts (is_ascii_digit c) (list_all is_ascii_digit (c' ∷ cs)) all in
    let digit = and_parts (is_ascii_digit c') (list_all is_ascii_digit cs) digits.1 in
    false≢true (subst (λ b. is_ascii_digit b ≡ true) same digit.0)

-- a number
pub number_token : (n byte : ℕ) (rest : List ℕ) → n < 10000 → is_ascii_digit byte ≡ false
    → (byte == 47) ≡ false → IsGoodToken (decimal n) (byte ∷ rest) (Number n)
number_token n byte rest small ends clear =
    let numeral = decimal_is_IsNumeral n (omega arith) in
    let digits : list_all is_ascii_digit (decimal n) ≡ true = digits_test (decimal n) numeral.0.1 in
    a_number (record {
      run = record {
        some = numeral.0.0;
        all = AllPass-from_list_all is_ascii_digit (decimal n) digits;
        ends = ends;
      };
      no_half = no_part 50 (decimal n) byte rest numeral.0.0 digits clear;
      no_quarter = no_part 52 (decimal n) byte rest numeral.0.0 digits clear;
    }) (length-decimal-le 4 n (omega arith) (omega arith) (omega arith)) (ap (λ v. Number v) (sym numeral.1))

stopped_number : (n : ℕ) (rest : List ℕ) → n < 10000 → Stopped rest → IsGoodToken (decimal n) rest (Number n)
stopped_number n rest small (at_comma more e) = rw e (number_token n 44 more small refl refl)
stopped_number n rest small (at_semicolon more e) = rw e (number_token n 59 more small refl refl)
stopped_number n rest small (at_stop more e) = rw e (number_token n 46 more small refl refl)

stopped_word : (rest : List ℕ) → Stopped rest → begins_with is_ascii_alphabetic rest ≡ false
stopped_word rest (at_comma more e) = rw e refl
stopped_word rest (at_semicolon more e) = rw e refl
stopped_word rest (at_stop more e) = rw e refl

no_white : AllPass is_white []
no_white = AllPass-from_list_all is_white [] refl

one_space : AllPass is_white space
one_space = AllPass-from_list_all is_white space refl

pub one_line_end : AllPass is_white line_end
one_line_end = AllPass-from_list_all is_white line_end refl

-- the steps of an aliquot part
fits_step : (front : List ℕ) (s : Step) (rest : List ℕ) → AllPass is_white front
    → Fits step (step_draft front s) rest
fits_step front (Half N) rest white = ((white, word 78 [] _ _ refl refl refl), (no_white, a_half refl refl))
fits_step front (Half S) rest white = ((white, word 83 [] _ _ refl refl refl), (no_white, a_half refl refl))
fits_step front (Half E) rest white = ((white, word 69 [] _ _ refl refl refl), (no_white, a_half refl refl))
fits_step front (Half W) rest white = ((white, word 87 [] _ _ refl refl refl), (no_white, a_half refl refl))
fits_step front (Quarter NE) rest white =
    ((white, word 78 (69 ∷ []) _ _ refl refl refl), (no_white, a_quarter refl refl))
fits_step front (Quarter NW) rest white =
    ((white, word 78 (87 ∷ []) _ _ refl refl refl), (no_white, a_quarter refl refl))
fits_step front (Quarter SW) rest white =
    ((white, word 83 (87 ∷ []) _ _ refl refl refl), (no_white, a_quarter refl refl))
fits_step front (Quarter SE) rest white =
    ((white, word 83 (69 ∷ []) _ _ refl refl refl), (no_white, a_quarter refl refl))

fits_steps : (ss : List Step) (rest : List ℕ) → Fits (many further_step_grammar) (map further_step ss) rest
fits_steps [] rest = tt
fits_steps (s ∷ ss) rest = (
  (tt, fits_step [] s (bytes (many further_step_grammar) (map further_step ss) rest) no_white),
  fits_steps ss rest,
)

-- a number after a space
fits_number : (n byte : ℕ) (rest : List ℕ) → n < 10000 → is_ascii_digit byte ≡ false → (byte == 47) ≡ false
    → Fits (one number) (number_mark n) (byte ∷ rest)
fits_number n byte rest small ends clear = (one_space, number_token n byte rest small ends clear)

-- all numbers are small enough for tokens
abbrev pub AreSmall : List ℕ → Type 0
AreSmall [] = Unit {0}
AreSmall (n ∷ ns) = (n < 10000) × AreSmall ns

abbrev pub IsSmallEntry : ListEntry → Type 0
IsSmallEntry all_entry = Unit {0}
IsSmallEntry (lot_entry n ns) = AreSmall (n ∷ ns)
IsSmallEntry (part_entry s ss) = Unit {0}

abbrev pub AreSmallEntries : List ListEntry → Type 0
AreSmallEntries [] = Unit {0}
AreSmallEntries (e ∷ es) = IsSmallEntry e × AreSmallEntries es

abbrev pub IsSmallLine : SectionLine → Type 0
IsSmallLine line = (line.section < 10000) × AreSmallEntries (line.first ∷ line.more)

abbrev pub AreSmallLines : List SectionLine → Type 0
AreSmallLines [] = Unit {0}
AreSmallLines (line ∷ lines) = IsSmallLine line × AreSmallLines lines

-- any number of further entries begins with a comma, or with what comes after them all
stopped_numbers : (ns : List ℕ) (rest : List ℕ) → Stopped rest
    → Stopped (bytes (many (separator ⨾ entry)) (map further_number ns) rest)
stopped_numbers [] rest stopped = stopped
stopped_numbers (n ∷ ns) rest stopped = at_comma _ refl

stopped_entries : (es : List ListEntry) (rest : List ℕ) → Stopped rest
    → Stopped (bytes (many (separator ⨾ part)) (map further_entry es) rest)
stopped_entries [] rest stopped = stopped
stopped_entries (e ∷ es) rest stopped = at_comma _ refl

stopped_lines : (lines : List SectionLine) (rest : List ℕ) → Stopped rest
    → Stopped (bytes (many further_line_grammar) (map further_line lines) rest)
stopped_lines [] rest stopped = stopped
stopped_lines (line ∷ lines) rest stopped = at_semicolon _ refl

fits_numbers : (ns : List ℕ) (rest : List ℕ) → AreSmall ns → Stopped rest
    → Fits (many (separator ⨾ entry)) (map further_number ns) rest
fits_numbers [] rest small stopped = tt
fits_numbers (n ∷ ns) rest small stopped = (
  (
    ((no_white, a_comma refl refl), tt),
    ((one_space, stopped_number n _ small.0 (stopped_numbers ns rest stopped)), tt),
  ),
  fits_numbers ns rest small.1 stopped,
)

fits_entry : (e : ListEntry) (rest : List ℕ) → IsSmallEntry e → Stopped rest → Fits part (entry_draft e) rest
fits_entry all_entry rest small stopped =
    (one_space, word 97 (108 ∷ 108 ∷ []) rest _ refl (stopped_word rest stopped) refl)
fits_entry (lot_entry n []) rest small stopped = (
  (one_space, word 108 (111 ∷ 116 ∷ []) _ _ refl refl refl),
  (((one_space, stopped_number n rest small.0 stopped), tt), tt),
)
fits_entry (lot_entry n (m ∷ ns)) rest small stopped = (
  (one_space, word 108 (111 ∷ 116 ∷ 115 ∷ []) _ _ refl refl refl),
  (
    ((one_space, stopped_number n _ small.0 (stopped_numbers (m ∷ ns) rest stopped)), tt),
    fits_numbers (m ∷ ns) rest small.1 stopped,
  ),
)
fits_entry (part_entry s ss) rest small stopped = (
  fits_step space s (bytes (many further_step_grammar) (map further_step ss) rest) one_space,
  fits_steps ss rest,
)

fits_entries : (es : List ListEntry) (rest : List ℕ) → AreSmallEntries es → Stopped rest
    → Fits (many (separator ⨾ part)) (map further_entry es) rest
fits_entries [] rest small stopped = tt
fits_entries (e ∷ es) rest small stopped = (
  (((no_white, a_comma refl refl), tt), fits_entry e _ small.0 (stopped_entries es rest stopped)),
  fits_entries es rest small.1 stopped,
)

fits_line : (line : SectionLine) (rest : List ℕ) → IsSmallLine line → Stopped rest
    → Fits group (line_draft line) rest
fits_line line rest small stopped = (
  (one_line_end, word 115 (101 ∷ 99 ∷ []) _ _ refl refl refl),
  (
    (no_white, a_stop refl refl),
    (
      fits_number line.section 44 _ small.0 refl refl,
      (
        (no_white, a_comma refl refl),
        (
          fits_entry line.first _ small.1.0 (stopped_entries line.more rest stopped),
          fits_entries line.more rest small.1.1 stopped,
        ),
      ),
    ),
  ),
)

fits_lines : (lines : List SectionLine) (rest : List ℕ) → AreSmallLines lines → Stopped rest
    → Fits (many further_line_grammar) (map further_line lines) rest
fits_lines [] rest small stopped = tt
fits_lines (line ∷ lines) rest small stopped = (
  ((no_white, a_semicolon refl refl), (tt, fits_line line _ small.0 (stopped_lines lines rest stopped))),
  fits_lines lines rest small.1 stopped,
)

north_or_south : (side : NorthSouth) (rest : List ℕ)
    → IsGoodToken (north_south_letter side) (46 ∷ rest) (kind.NorthSouth side)
north_or_south ns.N rest = word 78 [] _ _ refl refl refl
north_or_south ns.S rest = word 83 [] _ _ refl refl refl

east_or_west : (way : EastWest) (rest : List ℕ)
    → IsGoodToken (east_west_letter way) (46 ∷ rest) (kind.EastWest way)
east_or_west ew.E rest = word 69 [] _ _ refl refl refl
east_or_west ew.W rest = word 87 [] _ _ refl refl refl

fits_heading : (township : Designation) (rest : List ℕ) → township.number < 10000 → township.range < 10000
    → Fits heading (heading_draft township) rest
fits_heading township rest small small' = (
  (no_white, word 84 [] _ _ refl refl refl),
  (
    (no_white, a_stop refl refl),
    (
      fits_number township.number 32 _ small refl refl,
      (
        (one_space, north_or_south township.north_south _),
        (
          (no_white, a_stop refl refl),
          (
            (no_white, a_comma refl refl),
            (
              (one_space, word 82 [] _ _ refl refl refl),
              (
                (no_white, a_stop refl refl),
                (
                  fits_number township.range 32 _ small' refl refl,
                  (
                    (one_space, east_or_west township.east_west _),
                    ((no_white, a_stop refl refl), (no_white, a_comma refl refl)),
                  ),
                ),
              ),
            ),
          ),
        ),
      ),
    ),
  ),
)

-- each token of the text is one
pub fits_land : (township : Designation) (first : SectionLine) (more : List SectionLine)
    → township.number < 10000 → township.range < 10000
    → AreSmallLines (first ∷ more) → Fits description (land_draft township first more) line_end
fits_land township first more few few' small = (
  fits_heading township _ few few',
  (
    fits_line first _ small.0 (stopped_lines more _ (at_stop _ refl)),
    (fits_lines more _ small.1 (at_stop _ refl), (no_white, a_stop refl refl)),
  ),
)
