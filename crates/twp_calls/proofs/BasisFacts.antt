-- The basis of the answers to many descriptions; over plain values.
use Rattle.std.proofs.Common.{◌≡◌, ◌≢◌, ℕ, List, Some, refl, sym, ap, subst, arith}
use Rattle.twp_grid.specs.Lands.{STANDARD_LOTS}
use Rattle.twp_plat.specs.Plats.{SurveyPlat}
use Rattle.twp_plat.specs.declared.land_area.Account.{Account}
use Rattle.twp_answers.specs.OnPlats.{HasAcresOn, StopsOn}
use Rattle.twp_answers.specs.declared.stop.Stop.{Stop}
use Rattle.twp_calls.specs.Answers.{ACCEPTED, NO_ACCOUNT, NO_LOTS, NO_PLAT, NO_ROOM, accepted_acres, bare}
use Rattle.twp_calls.specs.Answers.{stopped, with_text}
use Rattle.twp_calls.specs.Calls.{AnswersAcres, ByAccount, IsAcresCall, OnPlat, accepted, account_of}
use Rattle.twp_calls.specs.Calls.{by_account, by_none, on_none, on_plat}
use Rattle.twp_calls.specs.GivenPlats.{IsGivenPlat}
use Rattle.twp_calls.specs.LotCalls.{by_lots, by_no_lots}
use Rattle.twp_calls.specs.LotManyAnswers.{IsTableVerdict}
use Rattle.twp_calls.specs.ManyAnswers.{IsBasisVerdict}
use Rattle.twp_calls.specs.declared.answer.TownshipAnswer.{TownshipAnswer}
use Rattle.twp_calls.specs.declared.lots.TownshipLots.{TownshipLots as GivenLots}
use Rattle.twp_calls.specs.declared.plat.TownshipPlat.{TownshipPlat}
use Rattle.twp_calls.proofs.CallFacts.{stops_by}

-- without a valid plat and account, any call answers which of them is not valid
pub answers_none : (Accepted : SurveyPlat → Account → TownshipAnswer → Type 0) (given : TownshipPlat)
    (code : ℕ) (answer : TownshipAnswer) → OnPlat given (λ plat. ByAccount code (λ account answer. ⊥)) answer
    → OnPlat given (λ plat. ByAccount code (Accepted plat)) answer
answers_none Accepted given code answer (on_none none answer_is) = on_none none answer_is
answers_none Accepted given code answer (on_plat plat is (by_none none answer_is)) =
    on_plat plat is (by_none none answer_is)
answers_none Accepted given code answer (on_plat plat is (by_account account same never)) = absurd never

-- a description that is accepted
pub accepted_by : (given : TownshipPlat) (plat : SurveyPlat) (description : List ℕ) (code : ℕ)
    (account : Account) (hundredths : ℕ) (answer : TownshipAnswer) → IsGivenPlat given plat
    → account_of code ≡ Some account → HasAcresOn plat description account hundredths
    → answer ≡ accepted_acres hundredths → IsAcresCall given description code answer
accepted_by given plat description code account hundredths answer is account_is has answer_is =
    on_plat plat is (by_account account account_is (accepted (record {
      hundredths = hundredths;
      has = has;
      answer_is = answer_is;
    })))

-- one that is refused, or for which memory ran out
pub stopped_by : (given : TownshipPlat) (plat : SurveyPlat) (description : List ℕ) (code : ℕ)
    (account : Account) (stopping : Stop) (answer : TownshipAnswer) → IsGivenPlat given plat
    → account_of code ≡ Some account → StopsOn STANDARD_LOTS plat.township description stopping
    → answer ≡ stopped stopping → IsAcresCall given description code answer
stopped_by given plat description code account stopping answer is account_is stops answer_is =
    stops_by given plat is code account account_is (λ plat account. AnswersAcres plat description account)
    description stopping answer answer_is stops

-- the verdict on a valid plat and account
pub valid_verdict : (given : TownshipPlat) (code : ℕ) (plat : SurveyPlat) (account : Account)
    → IsGivenPlat given plat → account_of code ≡ Some account → IsBasisVerdict given code (bare ACCEPTED)
valid_verdict given code plat account is account_is = on_plat plat is (by_account account account_is refl)

-- the verdict in an answer that nothing goes with
verdict_in : (verdict other : ℕ) → bare verdict ≡ bare other → verdict ≡ other
verdict_in verdict other same = ap (λ (answer : TownshipAnswer). answer.verdict) same

-- the verdict on a plat and an account is not that there is too little room
pub is_no_short_basis : (given : TownshipPlat) (code verdict : ℕ) → IsBasisVerdict given code (bare verdict)
    → verdict ≢ NO_ROOM
is_no_short_basis given code verdict (on_none none is) short =
    let found = verdict_in verdict NO_PLAT is in omega arith
is_no_short_basis given code verdict (on_plat plat given_is (by_none none is)) short =
    let found = verdict_in verdict NO_ACCOUNT is in omega arith
is_no_short_basis given code verdict (on_plat plat given_is (by_account account same is)) short =
    let found = verdict_in verdict ACCEPTED is in omega arith

-- neither is the verdict on a lot table
pub is_no_short_table : (given : GivenLots) (verdict : ℕ) → IsTableVerdict given (bare verdict)
    → verdict ≢ NO_ROOM
is_no_short_table given verdict (by_no_lots none is) short =
    let found = verdict_in verdict NO_LOTS is in omega arith
is_no_short_table given verdict (by_lots township given_is is) short =
    let found = verdict_in verdict ACCEPTED is in omega arith

-- so an answer with such a verdict does not say so
pub is_no_short : (verdict count : ℕ) (answer : TownshipAnswer) → verdict ≢ NO_ROOM
    → answer ≡ with_text (bare verdict) count → answer.verdict ≢ NO_ROOM
is_no_short verdict count answer other answer_is =
    subst (λ (one : TownshipAnswer). one.verdict ≢ NO_ROOM) (sym answer_is) other
