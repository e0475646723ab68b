-- Texts before a mark and after it.
use Rattle.std.proofs.Common.{◌≡◌, ◌++◌, ℕ, List, take, drop, sym, ap, ◌∙◌}
use Rattle.std.proofs.lemmas.List.{append_assoc}
use Rattle.std.proofs.lemmas.List.{take-append-drop}

-- a text in three pieces
pub in_three : (text whole rest mark excepted : List ℕ) (n m : ℕ) → whole ≡ take n text
    → rest ≡ drop n text → mark ≡ take m rest → excepted ≡ drop m rest → text ≡ whole ++ mark ++ excepted
in_three text whole rest mark excepted n m first second third fourth =
    let joined : rest ≡ mark ++ excepted =
    sym (take-append-drop m rest) ∙ ap (λ (xs : List ℕ). xs ++ drop m rest) (sym third)
    ∙ ap (λ (xs : List ℕ). mark ++ xs) (sym fourth) in
    let split : text ≡ whole ++ rest =
    sym (take-append-drop n text) ∙ ap (λ (xs : List ℕ). xs ++ drop n text) (sym first)
    ∙ ap (λ (xs : List ℕ). whole ++ xs) (sym second) in
    split ∙ ap (λ (xs : List ℕ). whole ++ xs) joined ∙ sym (append_assoc whole mark excepted)
