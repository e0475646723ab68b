-- Steps as they stand in a text: their letters and their fraction.
use Rattle.std.proofs.Common.{◌≡◌, ℕ, ◌+◌, ◌≤◌, true, false, List, [], ◌∷◌, ◌++◌, Option, Some, None, IfSome}
use Rattle.std.proofs.Common.{length, take, drop, slice_index, refl, sym, ap, subst, ◌∙◌, arith, codes}
use Rattle.std.proofs.Common.{length-drop, ◌-◌, bit_or, slice_index_or, inl, inr, ◌<◌}
use Rattle.std.specs.Char.{is_ascii_lowercase, is_ascii_alphabetic, to_ascii_lowercase}
use Rattle.std.proofs.lemmas.List.{get_or-drop, drop-drop}
use Rattle.std.proofs.lemmas.List.Sums.{AllPass-from_list_all}
use Rattle.twp_grammar.specs.declared.item.Step.{Step}
use Rattle.twp_grammar.specs.declared.tokens.Kind.{Kind}
use Rattle.twp_grammar.specs.declared.tokens.Kind.TheVariants.{Half, Quarter}
use Rattle.twp_read.specs.declared.usual.chain.UsualStep.{UsualStep}
use Rattle.twp_grammar.specs.Cutting.{small_letter}
use Rattle.twp_grammar.specs.Tokens.{IsToken, IsGoodToken, begins_with, is_white, kind_among, words}
use Rattle.twp_grammar.specs.Tokens.IsToken.{good}
use Rattle.twp_grammar.specs.Tokens.IsGoodToken.{a_word, a_half, a_half_sign, a_quarter, a_quarter_sign}
use Rattle.twp_read.specs.steps.Usual.{IsKindAt, IsStepAt, letters_of, fraction_of, BeginWithStep}
use Rattle.twp_grammar.proofs.LetterFacts.{by_bit, by_its_bit}
use Rattle.twp_grammar.proofs.WordFacts.{IsLetter, is_letter}
use Rattle.twp_read.proofs.Leading.{made}

-- the letters that bytes begin with are those of a step, where its fraction follows
record AreLetters (bytes : List ℕ) (size : ℕ) (kind : Kind) : Type 0 where
  fits : length (take size bytes) ≡ size
  spelled : bytes ≡ take size bytes ++ drop size bytes
  is : IsToken (take size bytes) (drop size bytes) kind

-- how a half or a quarter is written, which no word continues with
record IsFraction (bytes : List ℕ) (kind : Kind) : Type 0 where
  is : (rest : List ℕ) → IsGoodToken bytes rest kind
  ends : (rest : List ℕ) → begins_with is_ascii_alphabetic (bytes ++ rest) ≡ false

half_bytes : IsFraction (codes "1/2") Half
half_bytes = record { is = λ rest. a_half refl refl; ends = λ rest. refl }

half_sign : IsFraction (0xC2 ∷ 0xBD ∷ []) Half
half_sign = record { is = λ rest. a_half_sign refl refl; ends = λ rest. refl }

quarter_bytes : IsFraction (codes "1/4") Quarter
quarter_bytes = record { is = λ rest. a_quarter refl refl; ends = λ rest. refl }

quarter_sign : IsFraction (0xC2 ∷ 0xBC ∷ []) Quarter
quarter_sign = record { is = λ rest. a_quarter_sign refl refl; ends = λ rest. refl }

one_letter : (bytes fraction rest : List ℕ) (first : ℕ) (kind : Kind)
    → Some first ≡ small_letter (slice_index bytes 0) → drop 1 bytes ≡ fraction ++ rest
    → begins_with is_ascii_alphabetic (fraction ++ rest) ≡ false → kind_among (first ∷ []) words ≡ kind
    → AreLetters bytes 1 kind
one_letter [] fraction rest first kind h0 after ends is = cc h0
one_letter (x ∷ bytes) fraction rest first kind h0 after ends is =
    let letter : IsLetter x first = is_letter x first (sym h0) in
    record {
      fits = refl;
      spelled = refl;
      is = good (a_word (record {
        some = omega arith;
        all = AllPass-from_list_all is_ascii_alphabetic (x ∷ []) (rw letter.letter refl);
        ends = ap (λ b. begins_with is_ascii_alphabetic b) after ∙ ends;
      }) (sym is ∙ ap (λ u. kind_among (u ∷ []) words) (sym letter.value)));
    }

two_letters : (bytes fraction rest : List ℕ) (first second : ℕ) (kind : Kind)
    → Some first ≡ small_letter (slice_index bytes 0) → Some second ≡ small_letter (slice_index bytes 1)
    → drop 2 bytes ≡ fraction ++ rest → begins_with is_ascii_alphabetic (fraction ++ rest) ≡ false
    → kind_among (first ∷ second ∷ []) words ≡ kind → AreLetters bytes 2 kind
two_letters [] fraction rest first second kind h0 h1 after ends is = cc h0
two_letters (x ∷ []) fraction rest first second kind h0 h1 after ends is = cc h1
two_letters (x ∷ y ∷ bytes) fraction rest first second kind h0 h1 after ends is =
    let letter : IsLetter x first = is_letter x first (sym h0) in
    let more : IsLetter y second = is_letter y second (sym h1) in
    record {
      fits = refl;
      spelled = refl;
      is = good (a_word (record {
        some = omega arith;
        all = AllPass-from_list_all is_ascii_alphabetic (x ∷ y ∷ []) (rw (letter.letter, more.letter) refl);
        ends = ap (λ b. begins_with is_ascii_alphabetic b) after ∙ ends;
      })
          (sym is
          ∙ ap (λ u. kind_among (u ∷ second ∷ []) words) (sym letter.value)
          ∙ ap (λ u. kind_among (to_ascii_lowercase x ∷ u ∷ []) words) (sym more.value)));
    }

letters_stand : (text : List ℕ) (at size : ℕ) (kind : Kind) → AreLetters (drop at text) size kind
    → at + size ≤ length text → IsKindAt text at kind size
letters_stand text at size kind are within =
    let left : drop size (drop at text) ≡ drop (at + size) text = drop-drop size at text in
    record {
      token = made kind (take size (drop at text)) at;
      starts = record {
        space = [];
        white = AllPass-from_list_all is_white [] refl;
        spelled = are.spelled ∙ ap (λ b. take size (drop at text) ++ b) left;
        place = omega arith;
        is = subst (λ (b : List ℕ). IsToken (take size (drop at text)) b kind) left are.is;
      };
      kind_is = refl;
      here = refl;
      ends = ap (λ n. at + n) are.fits;
      within = within;
    }

-- a fraction right at a place
fraction_stands : (text : List ℕ) (at : ℕ) (bytes : List ℕ) (kind : Kind) → IsFraction bytes kind
    → drop at text ≡ bytes ++ drop (at + length bytes) text → at + length bytes ≤ length text
    → IsKindAt text at kind (length bytes)
fraction_stands text at bytes kind fraction spelled within = record {
  token = made kind bytes at;
  starts = record {
    space = [];
    white = AllPass-from_list_all is_white [] refl;
    spelled = spelled;
    place = omega arith;
    is = good (fraction.is (drop (at + length bytes) text));
  };
  kind_is = refl;
  here = refl;
  ends = refl;
  within = within;
}

-- a half and a quarter that come after their letters are steps
half_stands : (text : List ℕ) (at first : ℕ) (it : Step) (bytes : List ℕ) (size : ℕ) → IsFraction bytes Half
    → Some first ≡ small_letter (slice_index (drop at text) 0)
    → drop (at + 1) text ≡ bytes ++ drop ((at + 1) + length bytes) text
    → (at + 1) + length bytes ≤ length text → kind_among (first ∷ []) words ≡ letters_of it
    → fraction_of it ≡ Half → size ≡ 1 + length bytes → IsStepAt text at it size
half_stands text at first it bytes size written letter spelled within is fraction size_is = record {
  letters_size = 1;
  letters =
      letters_stand text at 1 (letters_of it)
      (one_letter (drop at text) bytes (drop ((at + 1) + length bytes) text) first (letters_of it) letter
      (drop-drop 1 at text ∙ spelled) (written.ends _) is)
      (omega arith);
  fraction_size = length bytes;
  fraction =
      subst (λ (kind : Kind). IsKindAt text (at + 1) kind (length bytes)) (sym fraction)
      (fraction_stands text (at + 1) bytes Half written spelled within);
  size_is = size_is;
  some = omega arith;
}

quarter_stands : (text : List ℕ) (at first second : ℕ) (it : Step) (bytes : List ℕ) (size : ℕ)
    → IsFraction bytes Quarter → Some first ≡ small_letter (slice_index (drop at text) 0)
    → Some second ≡ small_letter (slice_index (drop at text) 1)
    → drop (at + 2) text ≡ bytes ++ drop ((at + 2) + length bytes) text
    → (at + 2) + length bytes ≤ length text → kind_among (first ∷ second ∷ []) words ≡ letters_of it
    → fraction_of it ≡ Quarter → size ≡ 2 + length bytes → IsStepAt text at it size
quarter_stands text at first second it bytes size written letter more spelled within is fraction size_is =
    record {
      letters_size = 2;
      letters =
          letters_stand text at 2 (letters_of it)
          (two_letters (drop at text) bytes (drop ((at + 2) + length bytes) text) first second
          (letters_of it) letter more (drop-drop 2 at text ∙ spelled) (written.ends _) is)
          (omega arith);
      fraction_size = length bytes;
      fraction =
          subst (λ (kind : Kind). IsKindAt text (at + 2) kind (length bytes)) (sym fraction)
          (fraction_stands text (at + 2) bytes Quarter written spelled within);
      size_is = size_is;
      some = omega arith;
    }

-- a letter by the bit in which a small one differs
pub small_by_bit : (byte small : ℕ) → byte < 256 → bit_or byte 32 ≡ small → is_ascii_lowercase small ≡ true
    → Some small ≡ small_letter byte
small_by_bit byte small fits is lower =
    let same : by_bit byte ≡ small_letter byte = by_its_bit byte fits in
    let here : by_bit byte ≡ Some small = rw (is, lower) refl in
    sym here ∙ same

-- the bytes of a text further on
ahead : (text : List ℕ) (at k i : ℕ) → slice_index (drop (at + k) text) i ≡ slice_index (drop at text) (k + i)
ahead text at k i =
    let further : (at + k) + i ≡ at + (k + i) = omega arith in
    get_or-drop (at + k) text i 0
    ∙ ap (λ n. slice_index_or text n 0) further
    ∙ sym (get_or-drop at text (k + i) 0)

three_in_front : (bytes : List ℕ) (a b c : ℕ) → 3 ≤ length bytes → slice_index bytes 0 ≡ a
    → slice_index bytes 1 ≡ b → slice_index bytes 2 ≡ c → bytes ≡ a ∷ b ∷ c ∷ drop 3 bytes
three_in_front [] a b c fits ha hb hc = absurd (omega arith)
three_in_front (x ∷ []) a b c fits ha hb hc = absurd (omega arith)
three_in_front (x ∷ y ∷ []) a b c fits ha hb hc = absurd (omega arith)
three_in_front (x ∷ y ∷ z ∷ bytes) a b c fits ha hb hc = rw (sym ha, sym hb, sym hc) refl

three_at : (text : List ℕ) (at k a b c : ℕ) → (at + k) + 3 ≤ length text
    → slice_index (drop at text) (k + 0) ≡ a → slice_index (drop at text) (k + 1) ≡ b
    → slice_index (drop at text) (k + 2) ≡ c
    → drop (at + k) text ≡ (a ∷ b ∷ c ∷ []) ++ drop ((at + k) + 3) text
three_at text at k a b c fits ha hb hc =
    three_in_front (drop (at + k) text) a b c (rw (length-drop (at + k) text) (omega arith))
    (ahead text at k 0 ∙ ha) (ahead text at k 1 ∙ hb) (ahead text at k 2 ∙ hc)
    ∙ ap (λ r. a ∷ b ∷ c ∷ r) (drop-drop 3 (at + k) text)

two_in_front : (bytes : List ℕ) (a b : ℕ) → 2 ≤ length bytes → slice_index bytes 0 ≡ a
    → slice_index bytes 1 ≡ b → bytes ≡ a ∷ b ∷ drop 2 bytes
two_in_front [] a b fits ha hb = absurd (omega arith)
two_in_front (x ∷ []) a b fits ha hb = absurd (omega arith)
two_in_front (x ∷ y ∷ bytes) a b fits ha hb = rw (sym ha, sym hb) refl

two_at : (text : List ℕ) (at k a b : ℕ) → (at + k) + 2 ≤ length text → slice_index (drop at text) (k + 0) ≡ a
    → slice_index (drop at text) (k + 1) ≡ b → drop (at + k) text ≡ (a ∷ b ∷ []) ++ drop ((at + k) + 2) text
two_at text at k a b fits ha hb =
    two_in_front (drop (at + k) text) a b (rw (length-drop (at + k) text) (omega arith))
    (ahead text at k 0 ∙ ha) (ahead text at k 1 ∙ hb)
    ∙ ap (λ r. a ∷ b ∷ r) (drop-drop 2 (at + k) text)

-- five bytes that begin with a step
begin_stands : (text : List ℕ) (at : ℕ) (it : Step) (size : ℕ) → 5 ≤ length (drop at text)
    → BeginWithStep (slice_index (drop at text) 0) (slice_index (drop at text) 1)
    (slice_index (drop at text) 2) (slice_index (drop at text) 3) (slice_index (drop at text) 4) it size
    → IsStepAt text at it size
begin_stands text at it size fits (inl (half, size_is, a, b, c)) =
    let within : 5 ≤ length text - at = rw (sym (length-drop at text)) fits in
    half_stands text at half.small it (codes "1/2") size half_bytes half.letter
    (three_at text at 1 49 47 50 (omega arith) a b c) (omega arith) half.letters half.fraction size_is
begin_stands text at it size fits (inr (inl (quarter, size_is, a, b, c))) =
    let within : 5 ≤ length text - at = rw (sym (length-drop at text)) fits in
    quarter_stands text at quarter.small quarter.after it (codes "1/4") size quarter_bytes quarter.letter
    quarter.letter_after (three_at text at 2 49 47 52 (omega arith) a b c) (omega arith) quarter.letters
    quarter.fraction size_is
begin_stands text at it size fits (inr (inr (inl (half, size_is, a, b)))) =
    let within : 5 ≤ length text - at = rw (sym (length-drop at text)) fits in
    half_stands text at half.small it (0xC2 ∷ 0xBD ∷ []) size half_sign half.letter
    (two_at text at 1 0xC2 0xBD (omega arith) a b) (omega arith) half.letters half.fraction size_is
begin_stands text at it size fits (inr (inr (inr (quarter, size_is, a, b)))) =
    let within : 5 ≤ length text - at = rw (sym (length-drop at text)) fits in
    quarter_stands text at quarter.small quarter.after it (0xC2 ∷ 0xBC ∷ []) size quarter_sign quarter.letter
    quarter.letter_after (two_at text at 2 0xC2 0xBC (omega arith) a b) (omega arith) quarter.letters
    quarter.fraction size_is

pub step_stands : (text bytes : List ℕ) (at : ℕ) (found : Option UsualStep) → bytes ≡ drop at text
    → 5 ≤ length bytes
    → IfSome found (λ usual.
    BeginWithStep (slice_index bytes 0) (slice_index bytes 1) (slice_index bytes 2) (slice_index bytes 3)
    (slice_index bytes 4) usual.step usual.size)
    → IfSome found (λ usual. IsStepAt text at usual.step usual.size)
step_stands text bytes at None here fits h = tt
step_stands text bytes at (Some usual) here fits h =
    let P : List ℕ → Type 0 = λ b.
    5 ≤ length b
    → BeginWithStep (slice_index b 0) (slice_index b 1) (slice_index b 2) (slice_index b 3) (slice_index b 4)
    usual.step usual.size
    → IsStepAt text at usual.step usual.size in
    subst P (sym here) (λ fits h. begin_stands text at usual.step usual.size fits h) fits h

-- where a step that is at a place ends
pub step_within : (text : List ℕ) (at : ℕ) (it : Step) (size : ℕ) → IsStepAt text at it size
    → at + size ≤ length text
step_within text at it size s =
    let fits : (at + s.letters_size) + s.fraction_size ≤ length text = s.fraction.within in
    rw s.size_is (omega arith)
