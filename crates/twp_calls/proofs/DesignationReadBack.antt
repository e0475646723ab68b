-- The spelling that is written is read back as the same township.
use Rattle.std.proofs.Common.{◌≡◌, ◌==◌, ℕ, ◌+◌, ◌<◌, ◌≤◌, true, false, nat_le, List, [], ◌∷◌}
use Rattle.std.proofs.Common.{◌++◌}
use Rattle.std.proofs.Common.{length, decimal, codes, refl, sym, ap, subst, ◌∙◌, arith, append_assoc}
use Rattle.std.proofs.Common.{length-append}
use Rattle.std.specs.Char.{is_ascii_alphabetic, is_ascii_digit}
use Rattle.std.specs.List.{list_all, AllPass}
use Rattle.std.proofs.lemmas.Bool.{and_parts, false≢true}
use Rattle.std.proofs.lemmas.Bool.Decides.{nat_tests}
use Rattle.std.proofs.lemmas.List.Sums.{AllPass-from_list_all}
use Rattle.std.proofs.lemmas.Fmt.{decimal_is_IsNumeral, length-decimal-le}
use Rattle.twp_grid.specs.Townships.{Designation, IsTownshipNumber, north_south_letter, east_west_letter}
use Rattle.twp_grid.specs.declared.township.NorthSouth.{NorthSouth}
use Rattle.twp_grid.specs.declared.township.NorthSouth.TheVariants as ns
use Rattle.twp_grid.specs.declared.township.EastWest.{EastWest}
use Rattle.twp_grid.specs.declared.township.EastWest.TheVariants as ew
use Rattle.twp_grammar.specs.declared.tokens.Kind.{Kind}
use Rattle.twp_grammar.specs.declared.tokens.Kind.TheVariants as kind
use Rattle.twp_grammar.specs.Tokens.{Token, HasTokens, is_white, kind_of_word, begins_with, Begins}
use Rattle.twp_grammar.specs.Tokens.{IsGoodToken}
use Rattle.twp_grammar.specs.Tokens.{a_word, a_number, a_comma, a_stop, good}
use Rattle.twp_grammar.proofs.Numerals.{digits_test}
use Rattle.twp_read.specs.TextFaults.{TEXT_LIMIT}
use Rattle.twp_calls.specs.declared.designation_mark.DesignationMark.{DesignationMark}
use Rattle.twp_calls.specs.declared.designation_mark.DesignationMark.TheVariants as mark
use Rattle.twp_calls.specs.declared.designation_parts.DesignationParts.{DesignationParts}
use Rattle.twp_calls.specs.DesignationTexts.{MarkSort, tier_word, range_word, north_south}
use Rattle.twp_calls.specs.DesignationTexts.{east_west}
use Rattle.twp_calls.specs.DesignationTexts.{stop, comma, sort_of, spelling_forms, AreFormed}
use Rattle.twp_calls.specs.DesignationTexts.{mark_of_digits, with_mark, no_parts, AreOf, Spell}
use Rattle.twp_calls.specs.DesignationTexts.{IsSpelling, after_tier, after_range, designation_text}
use Rattle.twp_calls.proofs.DesignationForms.{way_leads}

-- a token that is to be written: white space, and then its bytes
record Piece : Type 0 where
  pub space : List ℕ
  pub kind : Kind
  pub text : List ℕ

abbrev piece : List ℕ → Kind → List ℕ → Piece
piece space kind text = record { space = space; kind = kind; text = text }

abbrev bytes_of : List Piece → List ℕ
bytes_of [] = []
bytes_of (p ∷ ps) = p.space ++ (p.text ++ bytes_of ps)

abbrev Fit : List Piece → Type 0
Fit [] = Unit {0}
Fit (p ∷ ps) = AllPass is_white p.space × IsGoodToken p.text (bytes_of ps) p.kind × Fit ps

abbrev tokens_of : ℕ → List Piece → List Token
tokens_of at [] = []
tokens_of at (p ∷ ps) =
    record { kind = p.kind; text = p.text; at = at + length p.space }
    ∷ tokens_of (at + length p.space + length p.text) ps

no_white : AllPass is_white []
no_white = AllPass-from_list_all is_white [] refl

one_space : AllPass is_white (codes " ")
one_space = AllPass-from_list_all is_white (codes " ") refl

has_pieces : (at : ℕ) (ps : List Piece) → Fit ps → HasTokens at (bytes_of ps) (tokens_of at ps)
has_pieces at [] fit = no_white
has_pieces at (p ∷ ps) (white, is, fit) = (
  bytes_of ps,
  record { space = p.space; white = white; spelled = refl; place = refl; is = good is },
  has_pieces (at + length p.space + length p.text) ps fit,
)

-- a word
word : (c : ℕ) (cs rest : List ℕ) (kind : Kind) → list_all is_ascii_alphabetic (c ∷ cs) ≡ true
    → begins_with is_ascii_alphabetic rest ≡ false → kind ≡ kind_of_word (c ∷ cs)
    → IsGoodToken (c ∷ cs) rest kind
word c cs rest kind all ends is =
    a_word
    (record { some = omega arith; all = AllPass-from_list_all is_ascii_alphabetic (c ∷ cs) all; ends = ends })
    is

-- digits begin neither a half nor a quarter if no slash follows them
no_fraction : (d : ℕ) (text : List ℕ) (byte : ℕ) (rest : List ℕ) → 0 < length text
    → list_all is_ascii_digit text ≡ true → (byte == 47) ≡ false
    → ¬ Begins (49 ∷ 47 ∷ d ∷ []) (text ++ (byte ∷ rest))
no_fraction d [] byte rest some all clear begins = absurd (omega arith)
no_fraction d (c ∷ []) byte rest some all clear (more, e) =
    let same : byte ≡ 47 = cc e in
    false≢true (sym (subst (λ b. (b == 47) ≡ false) same clear))
no_fraction d (c ∷ c' ∷ cs) byte rest some all clear (more, e) =
    let same : c' ≡ 47 = cc e in
    let digits = and_parts (is_ascii_digit c) (list_all is_ascii_digit (c' ∷ cs)) all in
    let digit = and_parts (is_ascii_digit c') (list_all is_ascii_digit cs) digits.1 in
    false≢true (subst (λ b. is_ascii_digit b ≡ true) same digit.0)

-- a number before a space
number_there : (n : ℕ) (rest : List ℕ) → n < 10000 → IsGoodToken (decimal n) (32 ∷ rest) (kind.Number n)
number_there n rest small =
    let numeral = decimal_is_IsNumeral n (omega arith) in
    let digits : list_all is_ascii_digit (decimal n) ≡ true = digits_test (decimal n) numeral.0.1 in
    a_number (record {
      run = record {
        some = numeral.0.0;
        all = AllPass-from_list_all is_ascii_digit (decimal n) digits;
        ends = refl;
      };
      no_half = no_fraction 50 (decimal n) 32 rest numeral.0.0 digits refl;
      no_quarter = no_fraction 52 (decimal n) 32 rest numeral.0.0 digits refl;
    }) (length-decimal-le 4 n (omega arith) (omega arith) (omega arith))
    (ap (λ v. kind.Number v) (sym numeral.1))

side_there : (side : NorthSouth) (rest : List ℕ)
    → IsGoodToken (north_south_letter side) (46 ∷ rest) (kind.NorthSouth side)
side_there ns.N rest = word 78 [] _ _ refl refl refl
side_there ns.S rest = word 83 [] _ _ refl refl refl

way_there : (side : EastWest) (rest : List ℕ)
    → IsGoodToken (east_west_letter side) (46 ∷ rest) (kind.EastWest side)
way_there ew.E rest = word 69 [] _ _ refl refl refl
way_there ew.W rest = word 87 [] _ _ refl refl refl

abbrev pieces : Designation → List Piece
pieces d =
    piece [] kind.T (codes "T") ∷ piece [] kind.Stop (codes ".")
    ∷ piece (codes " ") (kind.Number d.number) (decimal d.number)
    ∷ piece (codes " ") (kind.NorthSouth d.north_south) (north_south_letter d.north_south)
    ∷ piece [] kind.Stop (codes ".") ∷ piece [] kind.Comma (codes ",")
    ∷ piece (codes " ") kind.R (codes "R") ∷ piece [] kind.Stop (codes ".")
    ∷ piece (codes " ") (kind.Number d.range) (decimal d.range)
    ∷ piece (codes " ") (kind.EastWest d.east_west) (east_west_letter d.east_west)
    ∷ piece [] kind.Stop (codes ".") ∷ []

fit : (d : Designation) → d.number < 10000 → d.range < 10000 → Fit (pieces d)
fit d few few' = (
  no_white,
  word 84 [] _ _ refl refl refl,
  (
    no_white,
    a_stop refl refl,
    (
      one_space,
      number_there d.number _ few,
      (
        one_space,
        side_there d.north_south _,
        (
          no_white,
          a_stop refl refl,
          (
            no_white,
            a_comma refl refl,
            (
              one_space,
              word 82 [] _ _ refl refl refl,
              (
                no_white,
                a_stop refl refl,
                (
                  one_space,
                  number_there d.range _ few',
                  (
                    one_space,
                    way_there d.east_west _,
                    (no_white, a_stop refl refl, tt),
                  ),
                ),
              ),
            ),
          ),
        ),
      ),
    ),
  ),
)

-- the bytes of the pieces are those of the text
joined : (x n a m b : List ℕ) → x ++ n ++ a ++ m ++ b ≡ x ++ (n ++ (a ++ (m ++ b)))
joined x n a m b =
    append_assoc (x ++ n ++ a) m b ∙ append_assoc (x ++ n) a (m ++ b) ∙ append_assoc x n (a ++ (m ++ b))

sides_there : (north : NorthSouth) (east : EastWest) (n m : List ℕ)
    → codes "T. " ++ (n ++ (after_tier north ++ (m ++ after_range east)))
    ≡ codes "T. " ++ (n ++ (32 ∷ (north_south_letter north ++ (46 ∷ 44 ∷ 32 ∷ 82 ∷ 46 ∷ 32 ∷
    (m ++ (32 ∷ (east_west_letter east ++ (46 ∷ []))))))))
sides_there ns.N ew.E n m = refl
sides_there ns.N ew.W n m = refl
sides_there ns.S ew.E n m = refl
sides_there ns.S ew.W n m = refl

text_is : (d : Designation) → bytes_of (pieces d) ≡ designation_text d
text_is d =
    sym (joined (codes "T. ") (decimal d.number) (after_tier d.north_south) (decimal d.range)
    (after_range d.east_west)
    ∙ sides_there d.north_south d.east_west (decimal d.number) (decimal d.range))

-- a number of a township is one
small_number : (digits n : ℕ) → digits ≤ 3 → 1 ≤ n → n ≤ 99 → mark_of_digits digits n ≡ mark.Number n
small_number digits n few least most =
    let a : nat_le digits 3 ≡ true = grind (arith, nat_tests, few) in
    let b : nat_le 1 n ≡ true = grind (arith, nat_tests, least) in
    let c : nat_le n 99 ≡ true = grind (arith, nat_tests, most) in
    rw (a, b, c) refl

mark_there : (n : ℕ) → IsTownshipNumber n → mark_of_digits (length (decimal n)) n ≡ mark.Number n
mark_there n (least, most) =
    let few : length (decimal n) ≤ 2 = length-decimal-le 2 n (omega arith) (omega arith) (omega arith) in
    small_number (length (decimal n)) n (omega (arith, few)) least most

abbrev sorts_with : DesignationMark → DesignationMark → List MarkSort
sorts_with a b =
    tier_word ∷ stop ∷ sort_of a ∷ north_south ∷ stop ∷ comma ∷ range_word ∷ stop ∷ sort_of b ∷ east_west
    ∷ stop ∷ []

abbrev parts_with : Designation → DesignationMark → DesignationMark → DesignationParts
parts_with d a b =
    with_mark (with_mark (with_mark (with_mark (with_mark (with_mark (with_mark (with_mark (with_mark
    (with_mark (with_mark no_parts mark.Township) mark.Stop) a) (mark.NorthSouth d.north_south)) mark.Stop)
    mark.Comma) mark.Range) mark.Stop) b) (mark.EastWest d.east_west)) mark.Stop

formed_there : AreFormed spelling_forms (sorts_with (mark.Number 1) (mark.Number 1))
formed_there = way_leads spelling_forms (sorts_with (mark.Number 1) (mark.Number 1)) refl

parts_there : (d : Designation) → IsTownshipNumber d.number → IsTownshipNumber d.range
    → AreOf (parts_with d (mark.Number d.number) (mark.Number d.range)) d
parts_there d number range = record {
  number_is = omega arith;
  north_south_is = refl;
  range_is = omega arith;
  east_west_is = refl;
  numbers = (number, range);
}

spelled_so : (d : Designation) → IsTownshipNumber d.number → IsTownshipNumber d.range
    → Spell (tokens_of 0 (pieces d)) d
spelled_so d number range =
    let first : mark_of_digits (length (decimal d.number)) d.number ≡ mark.Number d.number =
    mark_there d.number number in
    let second : mark_of_digits (length (decimal d.range)) d.range ≡ mark.Number d.range =
    mark_there d.range range in
    record {
      formed =
          subst (λ (cs : List MarkSort). AreFormed spelling_forms cs)
          (sym (ap (λ a. sorts_with a (mark_of_digits (length (decimal d.range)) d.range)) first
          ∙ ap (λ b. sorts_with (mark.Number d.number) b) second))
          formed_there;
      parts =
          subst (λ (parts : DesignationParts). AreOf parts d)
          (sym (ap (λ a. parts_with d a (mark_of_digits (length (decimal d.range)) d.range)) first
          ∙ ap (λ b. parts_with d (mark.Number d.number) b) second))
          (parts_there d number range);
    }

length_after_tier : (side : NorthSouth) → length (after_tier side) ≡ 8
length_after_tier ns.N = refl
length_after_tier ns.S = refl

length_after_range : (side : EastWest) → length (after_range side) ≡ 3
length_after_range ew.E = refl
length_after_range ew.W = refl

short_text : (d : Designation) → IsTownshipNumber d.number → IsTownshipNumber d.range
    → length (designation_text d) ≤ TEXT_LIMIT
short_text d (least, most) (least', most') =
    let few : length (decimal d.number) ≤ 2 =
    length-decimal-le 2 d.number (omega arith) (omega arith) (omega arith) in
    let few' : length (decimal d.range) ≤ 2 =
    length-decimal-le 2 d.range (omega arith) (omega arith) (omega arith) in
    let a : length (codes "T. " ++ decimal d.number) ≡ 3 + length (decimal d.number) =
    length-append (codes "T. ") (decimal d.number) in
    let b : length (codes "T. " ++ decimal d.number ++ after_tier d.north_south)
    ≡ length (codes "T. " ++ decimal d.number) + length (after_tier d.north_south) =
    length-append (codes "T. " ++ decimal d.number) (after_tier d.north_south) in
    let c : length (codes "T. " ++ decimal d.number ++ after_tier d.north_south ++ decimal d.range)
    ≡ length (codes "T. " ++ decimal d.number ++ after_tier d.north_south) + length (decimal d.range) =
    length-append (codes "T. " ++ decimal d.number ++ after_tier d.north_south) (decimal d.range) in
    let e : length (designation_text d)
    ≡ length (codes "T. " ++ decimal d.number ++ after_tier d.north_south ++ decimal d.range)
    + length (after_range d.east_west) =
    length-append (codes "T. " ++ decimal d.number ++ after_tier d.north_south ++ decimal d.range)
    (after_range d.east_west) in
    let x : length (after_tier d.north_south) ≡ 8 = length_after_tier d.north_south in
    let y : length (after_range d.east_west) ≡ 3 = length_after_range d.east_west in
    omega (arith, few, few', a, b, c, e, x, y)

pub read_back : (d : Designation) → IsTownshipNumber d.number → IsTownshipNumber d.range
    → IsSpelling (designation_text d) d
read_back d number range =
    let least : 1 ≤ d.number = number.0 in
    let most : d.number ≤ 99 = number.1 in
    let most' : d.range ≤ 99 = range.1 in
    record {
      within = short_text d number range;
      tokens = tokens_of 0 (pieces d);
      cut =
          subst (λ (bytes : List ℕ). HasTokens 0 bytes (tokens_of 0 (pieces d))) (text_is d)
          (has_pieces 0 (pieces d) (fit d (omega (arith, most)) (omega (arith, most'))));
      spelled = spelled_so d number range;
    }
