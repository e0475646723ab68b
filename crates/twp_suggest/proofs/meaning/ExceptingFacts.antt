-- The divisions of a text, one after another.
use Rattle.std.proofs.Common.{◌≡◌, ◌<◌, ◌+◌, ℕ, suc, List, [], ◌∷◌, ◌++◌, arith, length, refl, sym, ap}
use Rattle.std.proofs.Common.{subst, ◌∙◌, ◌≢◌, min, take}
use Rattle.std.specs.List.{All}
use Rattle.std.proofs.lemmas.List.{append-nil, append_assoc, flat_map_more, length-append}
use Rattle.std.proofs.lemmas.List.{length-take}
use Rattle.std.proofs.lemmas.List.Elements.{All-append, All-cons, All-nil}
use Rattle.twp_suggest.specs.Excepting.{Division, HasNoExceptBefore, HasNoSemicolon, IsDivided, IsDivision}
use Rattle.twp_suggest.specs.Excepting.{AreAroundExcept, all_of, all_taken, alone, blank, except, kept}
use Rattle.twp_suggest.specs.Excepting.{mark_after}
use Rattle.twp_suggest.specs.Excepting.{semicolon, taken, without, written}
use Rattle.twp_suggest.specs.steps.ExceptingSteps.{IsDivisionAdded}

-- the mark before the next exception, after some divisions
abbrev pub mark_of : ℕ → List Division → ℕ
mark_of mark [] = mark
mark_of mark (division ∷ more) = mark_of (mark_after mark division) more

-- the divisions so far: what they keep and take, and the rest of the text
pub record AreSoFar (made rest whole excepted : List ℕ) (mark : ℕ) : Type 0 where
  pub divisions : List Division
  pub each : All IsDivision divisions
  pub made_is : all_of written divisions ++ rest ≡ made
  pub whole_is : whole ≡ all_of kept divisions
  pub excepted_is : excepted ≡ all_taken blank divisions
  pub mark_is : mark ≡ mark_of blank divisions

pub none_so_far : (made : List ℕ) → AreSoFar made made [] [] blank
none_so_far made = record {
  divisions = [];
  each = All-nil IsDivision;
  made_is = refl;
  whole_is = refl;
  excepted_is = refl;
  mark_is = refl;
}

-- what one division more takes
taken_more : (mark : ℕ) (divisions : List Division) (division : Division)
    → all_taken mark (divisions ++ division ∷ [])
    ≡ all_taken mark divisions ++ (taken (mark_of mark divisions) division ++ blank ∷ [])
taken_more mark [] division = refl
taken_more mark (first ∷ more) division =
    ap (λ rest. taken mark first ++ blank ∷ rest) (taken_more (mark_after mark first) more division)
    ∙ sym (append_assoc (taken mark first) (blank ∷ all_taken (mark_after mark first) more)
    (taken (mark_of (mark_after mark first) more) division ++ blank ∷ []))

mark_more : (mark : ℕ) (divisions : List Division) (division : Division)
    → mark_of mark (divisions ++ division ∷ []) ≡ mark_after (mark_of mark divisions) division
mark_more mark [] division = refl
mark_more mark (first ∷ more) division = mark_more (mark_after mark first) more division

-- one division more, which ends with a semicolon
pub next_division : (made rest more whole further excepted others text : List ℕ) (mark after : ℕ)
    → AreSoFar made rest whole excepted mark → IsDivisionAdded text mark after whole further excepted others
    → rest ≡ text ++ semicolon ∷ more
    → AreSoFar made more (further ++ semicolon ∷ []) (others ++ blank ∷ []) after
next_division made rest more whole further excepted others text mark after so is here = record {
  divisions = so.divisions ++ is.division ∷ [];
  each = All-append IsDivision so.divisions (is.division ∷ []) so.each
      (All-cons IsDivision is.division [] is.is (All-nil IsDivision));
  made_is = ap (λ front. front ++ more)
      (sym (flat_map_more (λ division. written division ++ semicolon ∷ []) [] so.divisions is.division))
      ∙ append_assoc (all_of written so.divisions) (written is.division ++ semicolon ∷ []) more
      ∙ ap (λ tail. all_of written so.divisions ++ tail)
      (append_assoc (written is.division) (semicolon ∷ []) more
      ∙ ap (λ front. front ++ semicolon ∷ more) (sym is.text_is) ∙ sym here)
      ∙ so.made_is;
  whole_is = ap (λ front. front ++ semicolon ∷ []) is.kept_is
      ∙ append_assoc whole (kept is.division) (semicolon ∷ [])
      ∙ ap (λ front. front ++ (kept is.division ++ semicolon ∷ [])) so.whole_is
      ∙ flat_map_more (λ division. kept division ++ semicolon ∷ []) [] so.divisions is.division;
  excepted_is = ap (λ front. front ++ blank ∷ []) is.taken_is
      ∙ append_assoc excepted (taken mark is.division) (blank ∷ [])
      ∙ ap (λ front. front ++ (taken mark is.division ++ blank ∷ [])) so.excepted_is
      ∙ ap (λ it. all_taken blank so.divisions ++ (taken it is.division ++ blank ∷ [])) so.mark_is
      ∙ sym (taken_more blank so.divisions is.division);
  mark_is = is.after_is ∙ ap (λ it. mark_after it is.division) so.mark_is
      ∙ sym (mark_more blank so.divisions is.division);
}

-- a text with a semicolon at its end
with_end : (made rest whole excepted : List ℕ) (mark : ℕ) → AreSoFar made rest whole excepted mark
    → AreSoFar (made ++ semicolon ∷ []) (rest ++ semicolon ∷ []) whole excepted mark
with_end made rest whole excepted mark so = record {
  divisions = so.divisions;
  each = so.each;
  made_is = sym (append_assoc (all_of written so.divisions) rest (semicolon ∷ []))
      ∙ ap (λ front. front ++ semicolon ∷ []) so.made_is;
  whole_is = so.whole_is;
  excepted_is = so.excepted_is;
  mark_is = so.mark_is;
}

all_divided : (made whole excepted : List ℕ) (mark : ℕ)
    → AreSoFar (made ++ semicolon ∷ []) [] (whole ++ semicolon ∷ []) (excepted ++ blank ∷ []) mark
    → IsDivided made whole excepted
all_divided made whole excepted mark so = record {
  divisions = so.divisions;
  each = so.each;
  made_is = sym so.made_is ∙ append-nil (all_of written so.divisions);
  whole_is = so.whole_is;
  excepted_is = so.excepted_is;
}

-- the last division
pub last_division : (made rest whole further excepted others text : List ℕ) (mark after : ℕ)
    → AreSoFar made rest whole excepted mark → IsDivisionAdded text mark after whole further excepted others
    → rest ≡ text → IsDivided made further others
last_division made rest whole further excepted others text mark after so is here =
    all_divided made further others after
    (next_division (made ++ semicolon ∷ []) (rest ++ semicolon ∷ []) [] whole further excepted others text
    mark after (with_end made rest whole excepted mark so) is (ap (λ front. front ++ semicolon ∷ []) here))

-- the rest gets shorter
shorter_by : (front rest more : ℕ) → rest ≡ front + suc more → more < rest
shorter_by front rest more is = omega (arith, is)

pub shorter : (rest text more : List ℕ) → rest ≡ text ++ semicolon ∷ more → length more < length rest
shorter rest text more is =
    shorter_by (length text) (length rest) (length more)
    (ap length is ∙ length-append text (semicolon ∷ more))

-- fewer bytes than ` except ` has are not it
pub too_short : (rest : List ℕ) → length rest < 8 → take 8 rest ≢ except
too_short rest short same =
    let size : length (take 8 rest) ≡ 8 = ap length same in
    absurd (none (length rest) (sym (length-take 8 rest) ∙ size) short)
  where
    none : (n : ℕ) → min 8 n ≡ 8 → n < 8 → ⊥
    none n is less = omega (arith, is, less)

-- a division without an exception, or with one, is added
pub land_added : (text : List ℕ) (mark : ℕ) (whole further excepted others : List ℕ) → HasNoSemicolon text
    → HasNoExceptBefore text (length text) → further ≡ whole ++ kept (alone text)
    → others ≡ excepted ++ taken mark (alone text)
    → IsDivisionAdded text mark mark whole further excepted others
land_added text mark whole further excepted others none first kept_is taken_is = record {
  division = alone text;
  is = (none, first);
  text_is = refl;
  after_is = refl;
  kept_is = kept_is;
  taken_is = taken_is;
}

pub exception_added : (text : List ℕ) (mark : ℕ) (whole further excepted others land less : List ℕ)
    → HasNoSemicolon text → AreAroundExcept text land less → further ≡ whole ++ kept (without land less)
    → others ≡ excepted ++ taken mark (without land less)
    → IsDivisionAdded text mark semicolon whole further excepted others
exception_added text mark whole further excepted others land less none split kept_is taken_is = record {
  division = without land less;
  is = (
    subst HasNoSemicolon split.is none,
    subst (λ it. HasNoExceptBefore it (length land)) split.is split.first,
  );
  text_is = split.is;
  after_is = refl;
  kept_is = kept_is;
  taken_is = taken_is;
}
