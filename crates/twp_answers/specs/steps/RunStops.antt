-- How a stop is answered. No public contract cites this module.
use Rattle.std.specs.Prelude.{◌≡◌, Result, Ok, Err}
use Rattle.twp_answers.specs.Answers.{refusal_line}
use Rattle.twp_answers.specs.declared.stop.Stop.{Stop}
use Rattle.twp_answers.specs.declared.stop.Stop.TheVariants as stop
use Rattle.twp_answers.specs.declared.stop.RunFault.{RunFault}
use Rattle.twp_answers.specs.declared.stop.RunFault.TheVariants as run
use Rattle.twp_answers.specs.declared.stop.Verdict.TheVariants as verdict
use Rattle.twp_answers.specs.declared.runs.answer.Answer.{Answer}

-- the answer for a stop is its refusal, unless memory runs out, or its fault
abbrev pub AnswersStop : Stop → Result Answer RunFault → Type 0
AnswersStop (stop.Refused refusal) (Ok answer) =
    (answer.text.items ≡ refusal_line refusal) × (answer.verdict ≡ verdict.Refused refusal)
AnswersStop (stop.Refused refusal) (Err fault) = fault ≡ run.Memory
AnswersStop (stop.Failed fault) (Ok answer) = ⊥
AnswersStop (stop.Failed fault) (Err answered) = answered ≡ fault
