-- The same two texts have only one answer by each account.
use Rattle.std.proofs.Common.{◌≡◌, ℕ, Bool, List, ap, refl, subst, sym, ◌∙◌}
use Rattle.twp_measure.proofs.RoundingFacts.{one_rounding}
use Rattle.twp_grid.specs.Places.{PLACE_DIGITS}
use Rattle.twp_grid.specs.declared.refusal.Refusal.{Refusal}
use Rattle.twp_plat.specs.Plats.{SurveyPlat}
use Rattle.twp_answers.specs.AccountAnswers.{ArePlatHundredthsOf, HasAcresBy, HasPlatAcres}
use Rattle.twp_answers.specs.AccountAnswers.{IsAcresAnswerBy}
use Rattle.twp_answers.specs.Answers.{Describe, IsRefusal}
use Rattle.twp_answers.specs.Laws.{OneAnswerBy}
use Rattle.twp_plat.specs.declared.land_area.Account.{Account}
use Rattle.twp_plat.specs.declared.land_area.Account.TheVariants.{Exact, Plat}
use Rattle.twp_answers.specs.declared.stop.Verdict.{Verdict}
use Rattle.twp_answers.specs.declared.stop.Verdict.TheVariants.{Accepted, Refused, TractRefused}
use Rattle.twp_answers.proofs.OneAnswer.{one_land, one_plat, one_refusal}
use Rattle.twp_answers.proofs.runs.OneAnswer.{not_land, one_acres}
use Rattle.twp_plat.proofs.PlatLaws.{one_plat_area}
use Rattle.twp_grid.specs.Lands.{STANDARD_LOTS}

-- the plat area of land rounds to only one number of hundredths
one_plat_hundredths : (plat : SurveyPlat) (places : ℕ → ℕ → ℕ → Bool) (h h' : ℕ)
    → ArePlatHundredthsOf plat places h → ArePlatHundredthsOf plat places h' → h ≡ h'
one_plat_hundredths plat places h h' is is' =
    let area : is.area ≡ is'.area =
    one_plat_area PLACE_DIGITS plat places is.area is'.area is.area_is is'.area_is in
    one_rounding is'.area h h' (rw area at is.rounded) is'.rounded

-- so the acres of two texts are unique
one_plat_acres : (notes d : List ℕ) (h h' : ℕ) → HasPlatAcres notes d h → HasPlatAcres notes d h'
    → h ≡ h'
one_plat_acres notes d h h' is is' =
    let p : is.plat ≡ is'.plat =
    one_plat notes is.plat is'.plat is.land.platted is'.land.platted in
    let described : Describe STANDARD_LOTS is'.plat.township d is.places =
    subst (λ (q : SurveyPlat). Describe STANDARD_LOTS q.township d is.places) p is.land.described in
    let l : is.places ≡ is'.places =
    one_land STANDARD_LOTS is'.plat.township d is.places is'.places described is'.land.described in
    let on_plat : ArePlatHundredthsOf is'.plat is.places h =
    subst (λ q. ArePlatHundredthsOf q is.places h) p is.acres in
    one_plat_hundredths is'.plat is'.places h h'
    (subst (λ q. ArePlatHundredthsOf is'.plat q h) l on_plat) is'.acres

one_acres_by : (account : Account) (notes d : List ℕ) (h h' : ℕ) → HasAcresBy account notes d h
    → HasAcresBy account notes d h' → h ≡ h'
one_acres_by Exact notes d h h' is is' = one_acres notes d h h' is is'
one_acres_by Plat notes d h h' is is' = one_plat_acres notes d h h' is is'

-- an answer with acres is for land, so nothing in it is refused
not_refused : (account : Account) (notes d : List ℕ) (r : Refusal) (h : ℕ)
    → IsRefusal notes d r → HasAcresBy account notes d h → ⊥
not_refused Exact notes d r h is has = not_land notes d r has.plat has.places is has.land
not_refused Plat notes d r h is has = not_land notes d r has.plat has.places is has.land

pub one_answer_by : OneAnswerBy
one_answer_by account notes d answer answer' verdict verdict' is is' =
    of account notes d answer answer' verdict verdict' is is'
  where
    of : (account : Account) (notes d answer answer' : List ℕ) (verdict verdict' : Verdict)
        → IsAcresAnswerBy account notes d answer verdict
        → IsAcresAnswerBy account notes d answer' verdict'
        → (answer ≡ answer') × (verdict ≡ verdict')
    of account notes d answer answer' Accepted Accepted (h, land, is) (h', land', is') =
        let same : h ≡ h' = one_acres_by account notes d h h' land land' in
        (is ∙ rw same (sym is'), refl)
    of account notes d answer answer' (Refused r) (Refused r') (refused, is) (refused', is') =
        let same : r ≡ r' = one_refusal notes d r r' refused refused' in
        (is ∙ rw same (sym is'), ap (λ x. Refused x) same)
    of account notes d answer answer' Accepted (Refused r) (h, land, is) (refused, is') =
        absurd (not_refused account notes d r h refused land)
    of account notes d answer answer' (Refused r) Accepted (refused, is) (h, land, is') =
        absurd (not_refused account notes d r h refused land)
    of account notes d answer answer' (TractRefused at_ inner) verdict' is is' = absurd is
    of account notes d answer answer' Accepted (TractRefused at_ inner) is is' = absurd is'
    of account notes d answer answer' (Refused r) (TractRefused at_ inner) is is' = absurd is'
