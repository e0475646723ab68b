-- The same two texts have only one canonical text: they describe one land on one plat, and it has
-- only one text.
use Rattle.std.proofs.Common.{◌≡◌, ℕ, List, ap, refl, subst, sym, ◌∙◌}
use Rattle.twp_grid.specs.declared.refusal.Refusal.{Refusal}
use Rattle.twp_plat.specs.Plats.{SurveyPlat}
use Rattle.twp_spell.specs.CanonicalText.{IsCanonicalText}
use Rattle.twp_spell.proofs.CanonicalFacts.{one_text}
use Rattle.twp_answers.specs.Answers.{Describe, IsRefusal}
use Rattle.twp_answers.specs.NormalAnswers.{IsNormalForm, IsNormalAnswer}
use Rattle.twp_answers.specs.declared.stop.Verdict.{Verdict}
use Rattle.twp_answers.specs.declared.stop.Verdict.TheVariants.{Accepted, Refused, TractRefused}
use Rattle.twp_answers.proofs.OneAnswer.{one_plat, one_land, one_refusal}
use Rattle.twp_answers.proofs.runs.OneAnswer.{not_land}
use Rattle.twp_grid.specs.Lands.{STANDARD_LOTS}
use Rattle.twp_land.specs.steps.StandardLots.{standard_are_lots}

one_form : (notes d text text' : List ℕ) → IsNormalForm notes d text → IsNormalForm notes d text'
    → text ≡ text'
one_form notes d text text' is is' =
    let p : is.plat ≡ is'.plat = one_plat notes is.plat is'.plat is.land.platted is'.land.platted in
    let described : Describe STANDARD_LOTS is'.plat.township d is.places =
    subst (λ (q : SurveyPlat). Describe STANDARD_LOTS q.township d is.places) p is.land.described in
    let l : is.places ≡ is'.places =
    one_land STANDARD_LOTS is'.plat.township d is.places is'.places described is'.land.described in
    let spelled : IsCanonicalText STANDARD_LOTS is'.plat.township is.places text =
    subst (λ (q : SurveyPlat). IsCanonicalText STANDARD_LOTS q.township is.places text) p is.text_is in
    let spelled' : IsCanonicalText STANDARD_LOTS is'.plat.township is'.places text =
    subst (λ q. IsCanonicalText STANDARD_LOTS is'.plat.township q text) l spelled in
    let one = one_text STANDARD_LOTS standard_are_lots is'.plat.township is'.places in
    one.2 text spelled' ∙ sym (one.2 text' is'.text_is)

-- texts with a canonical text are not refused
not_refused : (notes d text : List ℕ) (r : Refusal) → IsRefusal notes d r → IsNormalForm notes d text → ⊥
not_refused notes d text r is form = not_land notes d r form.plat form.places is form.land

pub one_normal_answer : (notes d answer answer' : List ℕ) (verdict verdict' : Verdict)
    → IsNormalAnswer notes d answer verdict → IsNormalAnswer notes d answer' verdict'
    → (answer ≡ answer') × (verdict ≡ verdict')
one_normal_answer notes d answer answer' Accepted Accepted is is' =
    (one_form notes d answer answer' is is', refl)
one_normal_answer notes d answer answer' (Refused r) (Refused r') (refused, is) (refused', is') =
    let same : r ≡ r' = one_refusal notes d r r' refused refused' in
    (is ∙ rw same (sym is'), ap (λ x. Refused x) same)
one_normal_answer notes d answer answer' Accepted (Refused r) is (refused, is') =
    absurd (not_refused notes d answer r refused is)
one_normal_answer notes d answer answer' (Refused r) Accepted (refused, is) is' =
    absurd (not_refused notes d answer' r refused is')
one_normal_answer notes d answer answer' (TractRefused at_ inner) verdict' is is' = absurd is
one_normal_answer notes d answer answer' Accepted (TractRefused at_ inner) is is' = absurd is'
one_normal_answer notes d answer answer' (Refused r) (TractRefused at_ inner) is is' = absurd is'
