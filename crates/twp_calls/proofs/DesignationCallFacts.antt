-- A text that is read spells one township, and a text that is refused spells none.
use Rattle.std.proofs.Common.{◌≡◌, ℕ, List, Result, Ok, Err}
use Rattle.twp_grid.specs.Townships.{Designation}
use Rattle.twp_grid.specs.declared.refusal.Refusal.{Refusal}
use Rattle.twp_calls.specs.DesignationTexts.{IsSpelling}

-- what a contract says of a township that is spelled
abbrev IsTaken : List ℕ → Result Designation Refusal → Type 0
IsTaken text result = (township : Designation) → IsSpelling text township → result ≡ Ok township

pub the_only : (text : List ℕ) (township : Designation) → IsTaken text (Ok township)
    → (other : Designation) → IsSpelling text other → other ≡ township
the_only text township taken other spelling = cc (taken other spelling)

pub no_other : (text : List ℕ) (refusal : Refusal) → IsTaken text (Err refusal)
    → (township : Designation) → ¬ IsSpelling text township
no_other text refusal taken township spelling = cc (taken township spelling)
