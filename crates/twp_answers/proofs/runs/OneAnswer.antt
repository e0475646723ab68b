-- The same two texts have only one answer: each part of it is determined.
use Rattle.std.proofs.Common.{◌≡◌, ℕ, Bool, List, refl, ap, subst, sym, ◌∙◌, inl, inr, arith}
use Rattle.twp_measure.proofs.RoundingFacts.{one_rounding}
use Rattle.twp_grid.specs.Places.{PLACE_DIGITS}
use Rattle.twp_grid.specs.declared.refusal.Refusal.{Refusal}
use Rattle.twp_plat.specs.Plats.{SurveyPlat}
use Rattle.twp_plat.proofs.AreaLaws.{one_land_area}
use Rattle.twp_answers.specs.Answers.{Describe, IsLandOnPlat, IsNoDescription, IsRefusal}
use Rattle.twp_answers.specs.Answers.{AreHundredthsOf, HasAcres, IsAcresAnswer}
use Rattle.twp_answers.specs.declared.stop.Verdict.{Verdict}
use Rattle.twp_answers.specs.declared.stop.Verdict.TheVariants.{Accepted, Refused, TractRefused}
use Rattle.twp_answers.proofs.OneAnswer.{one_plat, one_land, not_platted, not_described, one_refusal}
use Rattle.twp_answers.specs.Laws.{OneAnswerOfLand}
use Rattle.twp_grid.specs.Lands.{STANDARD_LOTS}

-- the exact area of land rounds to only one number of hundredths
pub one_hundredths : (plat : SurveyPlat) (places : ℕ → ℕ → ℕ → Bool) (h h' : ℕ)
    → AreHundredthsOf plat places h → AreHundredthsOf plat places h' → h ≡ h'
one_hundredths plat places h h' is is' =
    let area : is.area ≡ is'.area =
    one_land_area PLACE_DIGITS (omega arith) plat places is.area is'.area is.area_is is'.area_is in
    one_rounding is'.area h h' (rw area at is.rounded) is'.rounded

-- two descriptions of the same land have the same acres
acres_of_land : (notes d : List ℕ) (h : ℕ) (plat : SurveyPlat) (places : ℕ → ℕ → ℕ → Bool)
    → IsLandOnPlat notes d plat places → HasAcres notes d h → AreHundredthsOf plat places h
acres_of_land notes d h plat places land is =
    let p : is.plat ≡ plat = one_plat notes is.plat plat is.land.platted land.platted in
    let described : Describe STANDARD_LOTS plat.township d is.places =
    subst (λ (q : SurveyPlat). Describe STANDARD_LOTS q.township d is.places) p is.land.described in
    let l : is.places ≡ places =
    one_land STANDARD_LOTS plat.township d is.places places described land.described in
    subst (λ q. AreHundredthsOf plat q h) l (subst (λ q. AreHundredthsOf q is.places h) p is.acres)

pub one_acres : (notes d : List ℕ) (h h' : ℕ) → HasAcres notes d h → HasAcres notes d h' → h ≡ h'
one_acres notes d h h' is is' =
    one_hundredths is'.plat is'.places h h' (acres_of_land notes d h is'.plat is'.places is'.land is)
    is'.acres

-- a refused description names no land
pub not_land : (notes d : List ℕ) (refusal : Refusal) (plat : SurveyPlat) (places : ℕ → ℕ → ℕ → Bool)
    → IsRefusal notes d refusal → IsLandOnPlat notes d plat places → ⊥
not_land notes d refusal plat places (inl none) land = not_platted notes refusal plat none land.platted
not_land notes d refusal plat places (inr is) land =
    let same : is.plat ≡ plat = one_plat notes is.plat plat is.platted land.platted in
    not_described STANDARD_LOTS plat.township d refusal places
    (subst (λ (p : SurveyPlat). IsNoDescription STANDARD_LOTS p.township d refusal) same is.refused)
    land.described

-- an answer with acres is for land, so nothing in it is refused
not_refused : (notes d : List ℕ) (r : Refusal) (h : ℕ) → IsRefusal notes d r → HasAcres notes d h → ⊥
not_refused notes d r h is land = not_land notes d r land.plat land.places is land.land

pub one_answer : (notes description answer answer' : List ℕ) (verdict verdict' : Verdict)
    → IsAcresAnswer notes description answer verdict
    → IsAcresAnswer notes description answer' verdict' → (answer ≡ answer') × (verdict ≡ verdict')
one_answer notes description answer answer' Accepted Accepted (h, land, is) (h', land', is') =
    let same : h ≡ h' = one_acres notes description h h' land land' in
    (is ∙ rw same (sym is'), refl)
one_answer notes description answer answer' (Refused r) (Refused r') (refused, is) (refused', is') =
    let same : r ≡ r' = one_refusal notes description r r' refused refused' in
    (is ∙ rw same (sym is'), ap (λ x. Refused x) same)
one_answer notes description answer answer' Accepted (Refused r) (h, land, is) (refused, is') =
    absurd (not_refused notes description r h refused land)
one_answer notes description answer answer' (Refused r) Accepted (refused, is) (h, land, is') =
    absurd (not_refused notes description r h refused land)
one_answer notes description answer answer' (TractRefused at_ inner) verdict' is is' = absurd is
one_answer notes description answer answer' Accepted (TractRefused at_ inner) is is' = absurd is'
one_answer notes description answer answer' (Refused r) (TractRefused at_ inner) is is' = absurd is'

-- the answer for land, by its hundredths
of_land : (notes d d' a a' : List ℕ) (v v' : Verdict) (plat : SurveyPlat) (places : ℕ → ℕ → ℕ → Bool)
    → IsLandOnPlat notes d plat places → IsLandOnPlat notes d' plat places
    → IsAcresAnswer notes d a v → IsAcresAnswer notes d' a' v' → (a ≡ a') × (v ≡ v')
of_land notes d d' a a' Accepted Accepted plat places land land' (h, acres, is) (h', acres', is') =
    let same : h ≡ h' =
    one_hundredths plat places h h' (acres_of_land notes d h plat places land acres)
    (acres_of_land notes d' h' plat places land' acres') in
    (is ∙ rw same (sym is'), refl)
of_land notes d d' a a' (Refused r) v' plat places land land' (refused, is) is' =
    absurd (not_land notes d r plat places refused land)
of_land notes d d' a a' Accepted (Refused r) plat places land land' is (refused, is') =
    absurd (not_land notes d' r plat places refused land')
of_land notes d d' a a' (TractRefused at_ inner) v' plat places land land' is is' = absurd is
of_land notes d d' a a' Accepted (TractRefused at_ inner) plat places land land' is is' = absurd is'

pub one_answer_of_land : OneAnswerOfLand
one_answer_of_land = of_land
