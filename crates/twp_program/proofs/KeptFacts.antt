-- A copy that grows piece by piece.
use Rattle.std.proofs.Common.{◌≡◌, ℕ, ◌+◌, ◌-◌, ◌≤◌, List, ◌++◌, take, drop, take-add, sym, ap, ◌∙◌, arith}
use Rattle.std.proofs.Common.{append_assoc}

pub piece_added : (bytes old copy : List ℕ) (at end : ℕ) → at ≤ end → copy ≡ old ++ take at bytes
    → copy ++ take (end - at) (drop at bytes) ≡ old ++ take end bytes
piece_added bytes old copy at end forward copied =
    let whole : at + (end - at) ≡ end = omega arith in
    ap (λ c. c ++ take (end - at) (drop at bytes)) copied
    ∙ append_assoc old (take at bytes) (take (end - at) (drop at bytes))
    ∙ ap (λ t. old ++ t) (sym (take-add at (end - at) bytes) ∙ ap (λ n. take n bytes) whole)
