-- What an answer says of the descriptions that it is for, over plain values.
use Rattle.std.proofs.Common.{◌≡◌, ℕ, List, Option, Some, Result, Ok, Err, subst, ◌∙◌}
use Rattle.std.specs.Prelude.{IfOk}
use Rattle.twp_plat.specs.Plats.{SurveyPlat}
use Rattle.twp_read.specs.Doubts.{HasNoDoubtfulPlace}
use Rattle.twp_read.specs.declared.doubt.Clarity.{Clarity}
use Rattle.twp_read.specs.declared.doubt.Clarity.TheVariants.{Clear, Unclear}
use Rattle.twp_answers.specs.Answers.{ArePlatted}
use Rattle.twp_answers.specs.declared.stop.RunFault.{RunFault}
use Rattle.twp_answers.specs.Runs.{ReadsTwo}
use Rattle.twp_answers.specs.declared.runs.answer.Answer.{Answer}
use Rattle.twp_answers.proofs.RunFacts.{told_are}

-- an answer that is unclear says nothing
pub says_nothing : (r : Result Answer RunFault) (Holds : Type 0)
    → IfOk r (λ answer. answer.clarity ≡ Unclear) → IfOk r (λ answer. answer.clarity ≡ Clear → Holds)
says_nothing (Ok answer) Holds is = λ clear. absurd (cc (is, clear))
says_nothing (Err fault) Holds is = tt

-- also of known bytes
pub says_nothing_of : (r : Result Answer RunFault) (told : Option (List ℕ)) (Holds : List ℕ → Type 0)
    → IfOk r (λ answer. answer.clarity ≡ Unclear)
    → IfOk r (λ answer. (bytes : List ℕ) → told ≡ Some bytes → answer.clarity ≡ Clear → Holds bytes)
says_nothing_of (Ok answer) told Holds is = λ bytes known clear. absurd (cc (is, clear))
says_nothing_of (Err fault) told Holds is = tt

-- an answer says what was said when its description was read
pub says_the_same : (r : Result Answer RunFault) (clarity : Clarity) (Holds : Type 0)
    → IfOk r (λ answer. answer.clarity ≡ clarity) → (clarity ≡ Clear → Holds)
    → IfOk r (λ answer. answer.clarity ≡ Clear → Holds)
says_the_same (Ok answer) clarity Holds is holds = λ clear. holds (cc (is, clear))
says_the_same (Err fault) clarity Holds is holds = tt

-- what it says of the bytes that were read, it says of the known ones
pub says_of_two : (first second : Option (List ℕ)) (GoesOn : List ℕ → Type 0) (unread : Type 0)
    (plat : SurveyPlat) (description : List ℕ) (r : Result Answer RunFault)
    → ReadsTwo first second GoesOn unread (λ n d. ArePlatted n plat × (description ≡ d))
    → IfOk r (λ answer. answer.clarity ≡ Clear → HasNoDoubtfulPlace description)
    → IfOk r (λ answer. (d : List ℕ) → second ≡ Some d → answer.clarity ≡ Clear → HasNoDoubtfulPlace d)
says_of_two first second GoesOn unread plat description (Ok answer) read says = λ d told clear.
    let same : description ≡ d = read.holds.1 ∙ told_are second d read.second_bytes told read.second_tells in
    subst (λ (text : List ℕ). HasNoDoubtfulPlace text) same (says clear)
says_of_two first second GoesOn unread plat description (Err fault) read says = tt
