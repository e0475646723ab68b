-- What `township_split` answers where there are no parts.
use Rattle.std.proofs.Common.{◌≡◌, ℕ, List}
use Rattle.twp_answers.specs.declared.stop.Stop.{Stop}
use Rattle.twp_answers.specs.declared.stop.Stop.TheVariants.{Refused, Failed}
use Rattle.twp_calls.specs.Answers.{stopped}
use Rattle.twp_calls.specs.Splits.{IsSplitCall, not_split, no_memory}
use Rattle.twp_calls.specs.steps.SplitSteps.{IsSplitStop}
use Rattle.twp_calls.specs.declared.answer.TownshipAnswer.{TownshipAnswer}
use Rattle.twp_calls.specs.declared.unread.TownshipStretch.{TownshipStretch}
use Rattle.twp_calls.proofs.SplitParts.{no_split}

pub stop_answered : (text : List ℕ) (old new : List TownshipStretch) (stop : Stop) (answer : TownshipAnswer)
    → IsSplitStop text stop → answer ≡ stopped stop → IsSplitCall text old new answer
stop_answered text old new (Refused refusal) answer is e =
    not_split (no_split text refusal is) (record { refusal = refusal; first = is; answer_is = e })
stop_answered text old new (Failed fault) answer is e = no_memory e
