-- Bytes that are written in pieces.
use Rattle.std.proofs.Common.{◌≡◌, ℕ, ◌+◌, ◌-◌, List, ◌++◌, length, take, drop, Option, Some, None}
use Rattle.std.proofs.Common.{ap, sym, ◌∙◌, arith, append_assoc}
use Rattle.std.specs.Io.KnownBytes.{Appends}
use Rattle.std.proofs.lemmas.List.{length-drop, take_all}
use Rattle.std.proofs.Math.Seq.{take-add}

take_piece : (bytes : List ℕ) (at n : ℕ)
    → take (at + n) bytes ≡ take at bytes ++ take n (take (length bytes - at) (drop at bytes))
take_piece bytes at n =
    rw (take_all (length bytes - at) (drop at bytes) (simp length-drop (omega arith))) (take-add at n bytes)

-- one more piece was taken
pub appends_piece : (old mid new : Option (List ℕ)) (bytes : List ℕ) (at n : ℕ)
    → Appends old mid (take at bytes)
    → Appends mid new (take n (take (length bytes - at) (drop at bytes)))
    → Appends old new (take (at + n) bytes)
appends_piece None mid new bytes at n before more = tt
appends_piece (Some xs) None new bytes at n before more = absurd before
appends_piece (Some xs) (Some ys) None bytes at n before more = absurd more
appends_piece (Some xs) (Some ys) (Some zs) bytes at n before more =
    more
    ∙ ap (λ t. t ++ take n (take (length bytes - at) (drop at bytes))) before
    ∙ append_assoc xs (take at bytes) (take n (take (length bytes - at) (drop at bytes)))
    ∙ ap (λ t. xs ++ t) (sym (take_piece bytes at n))
