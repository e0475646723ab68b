-- Laws of the spelling run's answers.
use Rattle.std.specs.Prelude.{ℕ, ◌≤◌, ◌<◌, List, length}
use Rattle.twp_grid.specs.declared.refusal.Refusal.{Refusal}
use Rattle.twp_read.specs.TextFaults.{TEXT_LIMIT, refusal}
use Rattle.twp_answers.specs.Answers.{refusal_line}
use Rattle.twp_answers.specs.NormalAnswers.{IsNormalAnswer}
use Rattle.twp_answers.specs.declared.stop.Verdict.TheVariants.{Accepted, Refused}

-- the canonical text of a description, if it is no longer than descriptions can be, is its own
-- canonical text
abbrev pub NormalTextIsItsOwn : Type 0
NormalTextIsItsOwn = (notes description text : List ℕ)
    → IsNormalAnswer notes description text Accepted → length text ≤ TEXT_LIMIT
    → IsNormalAnswer notes text text Accepted

-- the refusal of a description that is too long
abbrev pub too_large : Refusal
too_large = refusal 41 TEXT_LIMIT

-- a canonical text that is longer than descriptions can be is refused for that
abbrev pub LongNormalTextIsRefused : Type 0
LongNormalTextIsRefused = (notes description text : List ℕ)
    → IsNormalAnswer notes description text Accepted → TEXT_LIMIT < length text
    → IsNormalAnswer notes text (refusal_line too_large) (Refused too_large)
