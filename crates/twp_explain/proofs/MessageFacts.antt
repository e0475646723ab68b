-- In which file what is explained is shown, over plain values.
use Rattle.std.proofs.Common.{Option, Some, None, Result, Ok, Err}
use Rattle.std.specs.Prelude.{IfOk, IfSome}
use Rattle.twp_answers.specs.Answers.{MakePlat, IsNoPlat}
use Rattle.twp_diagnose.specs.declared.location.Given.{Given}
use Rattle.twp_diagnose.specs.Findings.{IfFound, IsOf}
use Rattle.twp_diagnose.specs.ShownMessages.{ShowsIn}
use Rattle.twp_explain.specs.ShownFaults.{ShowsFault, in_the_notes, in_the_text}
use Rattle.twp_diagnose.specs.declared.explanation.Explanation.{Explanation}
use Rattle.twp_diagnose.specs.declared.finding.SearchStop.{SearchStop}
use Rattle.twp_explain.proofs.ShownFacts.{found_is}

-- a fault of the notes is shown there
pub shows_notes : {Error : Type 0} (result : Result (Option Explanation) Error) (notes text : Given)
    (stop : SearchStop) → IfFound stop (IsNoPlat notes.bytes.now)
    → IfOk result (λ explained. IfSome explained (λ explanation. IsOf stop explanation.refusal))
    → IfOk result (λ explained. IfSome explained (ShowsIn notes))
    → IfOk result (λ explained. IfSome explained (ShowsFault notes text))
shows_notes (Ok (Some explanation)) notes text stop found of shows =
    in_the_notes (found_is (IsNoPlat notes.bytes.now) stop explanation.refusal found of) shows
shows_notes (Ok None) notes text stop found of shows = tt
shows_notes (Err error) notes text stop found of shows = tt

-- where they make a plat, a fault of the text is shown in the text
pub shows_text : {Error : Type 0} (result : Result (Option Explanation) Error) (notes text : Given)
    → MakePlat notes.bytes.now → IfOk result (λ explained. IfSome explained (ShowsIn text))
    → IfOk result (λ explained. IfSome explained (ShowsFault notes text))
shows_text (Ok (Some explanation)) notes text makes shows = in_the_text makes shows
shows_text (Ok None) notes text makes shows = tt
shows_text (Err error) notes text makes shows = tt
