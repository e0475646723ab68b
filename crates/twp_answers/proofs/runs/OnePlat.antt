-- Notes have only one printed plat: its figures are unique, and so is its text.
use Rattle.std.proofs.Common.{◌≡◌, ◌==◌, ◌&&◌, ℕ, zero, suc, ◌-◌, ◌≤◌, List, ◌++◌, Bool, true}
use Rattle.std.proofs.Common.{false, Some, ap, refl, subst, sym, ◌∙◌, arith, nat_le, nat_lt}
use Rattle.std.proofs.lemmas.Bool.{ne_eqb}
use Rattle.std.proofs.lemmas.Bool.Decides.{nat_tests}
use Rattle.twp_grid.specs.Winding.{IsSection}
use Rattle.twp_grid.specs.Lots.{number_of_lots, position_of_lot}
use Rattle.twp_grid.proofs.LotFacts.{position_of_lot_is, lot_count_is, count_by_code}
use Rattle.twp_grid.specs.declared.refusal.Refusal.{Refusal}
use Rattle.twp_plat.specs.Plats.{SurveyPlat}
use Rattle.twp_answers.specs.Answers.{IsNoPlat}
use Rattle.twp_plat.specs.PlatFigures.{PlatFigures, AreFigures}
use Rattle.twp_answers.specs.PlatAnswers.{texts_to, lot_text, lots_text}
use Rattle.twp_answers.specs.PlatAnswers.{section_line, section_name, total_text, plat_text}
use Rattle.twp_answers.specs.PlatAnswers.{IsPrintedPlat, IsPlatAnswer}
use Rattle.twp_answers.specs.declared.stop.Verdict.{Verdict}
use Rattle.twp_answers.specs.declared.stop.Verdict.TheVariants.{Accepted, Refused, TractRefused}
use Rattle.twp_plat.proofs.PlatFigureFacts.{same_lot, same_section, same_township}
use Rattle.twp_answers.proofs.OneAnswer.{one_plat, not_platted, one_plat_refusal}

-- texts are the same if they agree on the numbers from 1 on
texts_agree : (n : ℕ) (text text' : ℕ → List ℕ) → ((k : ℕ) → 1 ≤ k → k ≤ n → text k ≡ text' k)
    → texts_to n text ≡ texts_to n text'
unfolding texts_to
texts_agree zero text text' same = refl
texts_agree (suc n) text text' same =
    ap (λ t. t ++ text (suc n)) (texts_agree n text text' (λ k least most. same k least (omega arith)))
    ∙ ap (λ t. texts_to n text' ++ t) (same (suc n) (omega arith) (omega arith))

-- the place of a lot
record Stands (section lot : ℕ) : Type 0 where
  place : ℕ × ℕ
  there : position_of_lot section lot ≡ Some place

-- each of a section's lots has a place
stands : (section lot : ℕ) → IsSection section → 1 ≤ lot → lot ≤ number_of_lots section → Stands section lot
stands section lot range least most =
    let count : lot ≤ count_by_code section = rw (lot_count_is section range) at most in
    let some : (lot == 0) ≡ false = ne_eqb lot 0 (λ none. absurd (omega arith)) in
    let within : nat_lt (count_by_code section) lot ≡ false = grind (arith, nat_tests) in
    by_code (nat_le section 6 && nat_le lot 4) refl some within
  where
    by_code : (north : Bool) → (nat_le section 6 && nat_le lot 4) ≡ north → (lot == 0) ≡ false
        → nat_lt (count_by_code section) lot ≡ false → Stands section lot
    by_code true is some within = record {
      place = (lot - 1, 3);
      there = position_of_lot_is section lot range ∙ rw (some, within, is) refl;
    }
    by_code false is some within = record {
      place = (3, count_by_code section - lot);
      there = position_of_lot_is section lot range ∙ rw (some, within, is) refl;
    }

-- a lot has only one figure
one_lot : (plat : SurveyPlat) (figures figures' : PlatFigures) (section lot : ℕ) → AreFigures plat figures
    → AreFigures plat figures' → IsSection section
    → 1 ≤ lot → lot ≤ number_of_lots section → figures.lots section lot ≡ figures'.lots section lot
one_lot plat figures figures' section lot are are' range least most =
    let at = stands section lot range least most in
    same_lot plat figures' section lot (figures.lots section lot) range are'
    (record {
      column = at.place.0;
      row = at.place.1;
      position_is = at.there;
      figure_is = are.lots section lot at.place.0 at.place.1 range at.there;
    })

one_section : (plat : SurveyPlat) (figures figures' : PlatFigures) (section : ℕ) → AreFigures plat figures
    → AreFigures plat figures' → IsSection section
    → figures.sections section ≡ figures'.sections section
one_section plat figures figures' section are are' range =
    let figure = are.sections section range in
    same_section plat section _ _ figure.area range figure.area_is figure.rounded
    (are'.sections section range)

one_line : (plat : SurveyPlat) (figures figures' : PlatFigures) (section : ℕ) → AreFigures plat figures
    → AreFigures plat figures' → IsSection section
    → section_line figures section ≡ section_line figures' section
one_line plat figures figures' section are are' range =
    let lots : lots_text figures section ≡ lots_text figures' section =
    texts_agree (number_of_lots section) (λ lot. lot_text lot (figures.lots section lot))
    (λ lot. lot_text lot (figures'.lots section lot)) (λ lot least most.
    ap (lot_text lot) (one_lot plat figures figures' section lot are are' range least most)) in
    ap (λ t. section_name section ++ t ++ total_text (figures.sections section)) lots
    ∙ ap (λ h. section_name section ++ lots_text figures' section ++ total_text h)
    (one_section plat figures figures' section are are' range)

one_text : (plat : SurveyPlat) (figures figures' : PlatFigures) → AreFigures plat figures
    → AreFigures plat figures' → plat_text figures ≡ plat_text figures'
one_text plat figures figures' are are' =
    let figure = are.township in
    let township : figures.township ≡ figures'.township =
    same_township plat _ _ figure.area figure.area_is figure.rounded are'.township in
    let lines : texts_to 36 (section_line figures) ≡ texts_to 36 (section_line figures') =
    texts_agree 36 (section_line figures) (section_line figures')
    (λ section least most. one_line plat figures figures' section are are' (least, most)) in
    rw (lines, township) refl

-- the notes of a printed plat make a plat
made : (notes text : List ℕ) (r : Refusal) → IsPrintedPlat notes text → IsNoPlat notes r → ⊥
made notes text r is none = not_platted notes r is.plat none is.platted

pub one_plat_answer : (notes answer answer' : List ℕ) (verdict verdict' : Verdict)
    → IsPlatAnswer notes answer verdict → IsPlatAnswer notes answer' verdict'
    → (answer ≡ answer') × (verdict ≡ verdict')
one_plat_answer notes answer answer' Accepted Accepted is is' =
    let same : is.plat ≡ is'.plat = one_plat notes is.plat is'.plat is.platted is'.platted in (
      is.text_is
          ∙ one_text is'.plat is.figures is'.figures (subst (λ p. AreFigures p is.figures) same is.are)
          is'.are
          ∙ sym is'.text_is,
      refl,
    )
one_plat_answer notes answer answer' (Refused r) (Refused r') (none, is) (none', is') =
    let same : r ≡ r' = one_plat_refusal notes r r' none none' in
    (is ∙ rw same (sym is'), ap (λ x. Refused x) same)
one_plat_answer notes answer answer' Accepted (Refused r) is (none, is') =
    absurd (made notes answer r is none)
one_plat_answer notes answer answer' (Refused r) Accepted (none, is) is' =
    absurd (made notes answer' r is' none)
one_plat_answer notes answer answer' (TractRefused at_ inner) verdict' is is' = absurd is
one_plat_answer notes answer answer' Accepted (TractRefused at_ inner) is is' = absurd is'
one_plat_answer notes answer answer' (Refused r) (TractRefused at_ inner) is is' = absurd is'
