-- What an acreage run writes for known bytes: there is only one answer.
use Rattle.std.proofs.Common.{◌≡◌, ℕ, List, Some, Result, refl}
use Rattle.twp_grid.specs.declared.refusal.Refusal.{Refusal}
use Rattle.twp_plat.specs.declared.land_area.Account.{Account}
use Rattle.twp_answers.specs.Answers.{IsRefusal, acres_line, refusal_line}
use Rattle.twp_answers.specs.Uses.{Use}
use Rattle.twp_answers.specs.declared.stop.RunFault.{RunFault}
use Rattle.twp_answers.specs.declared.stop.Verdict.{Verdict}
use Rattle.twp_answers.specs.declared.stop.Verdict.TheVariants.{Accepted, Refused}
use Rattle.twp_answers.specs.AccountAnswers.{HasAcresBy, IsAcresAnswerBy}
use Rattle.twp_answers.specs.Runs.{IsAnswered, RunsOnPlat}
use Rattle.twp_answers.proofs.runs.OneAccountAnswer.{one_answer_by}
use Rattle.twp_answers.proofs.RunFacts.{answered}

-- the acres of the land described
pub acres_written : (account : Account) (most : ℕ) (notes second out : Use) (unread : Type 0)
    (r : Result Verdict RunFault) → RunsOnPlat (IsAcresAnswerBy account) most notes second out unread r
    → (n d : List ℕ) → notes.old ≡ Some n → second.old ≡ Some d
    → (hundredths : ℕ) → HasAcresBy account n d hundredths
    → IsAnswered out.old out.new (acres_line hundredths) Accepted r
acres_written account most notes second out unread r run n d told-n told-d hundredths has =
    answered (IsAcresAnswerBy account n d) out.old out.new (acres_line hundredths) Accepted r
    (run.told n d told-n told-d)
    (λ a v is. one_answer_by account n d a (acres_line hundredths) v Accepted is (hundredths, has, refl))

-- or the refusal of the first fault
pub refusal_written : (account : Account) (most : ℕ) (notes second out : Use) (unread : Type 0)
    (r : Result Verdict RunFault) → RunsOnPlat (IsAcresAnswerBy account) most notes second out unread r
    → (n d : List ℕ) → notes.old ≡ Some n → second.old ≡ Some d
    → (refusal : Refusal) → IsRefusal n d refusal
    → IsAnswered out.old out.new (refusal_line refusal) (Refused refusal) r
refusal_written account most notes second out unread r run n d told-n told-d refusal refused =
    answered (IsAcresAnswerBy account n d) out.old out.new (refusal_line refusal) (Refused refusal) r
    (run.told n d told-n told-d)
    (λ a v is. one_answer_by account n d a (refusal_line refusal) v (Refused refusal) is (refused, refl))
