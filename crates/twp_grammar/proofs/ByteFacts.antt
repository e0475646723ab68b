-- The bytes of a text from a place on, one by one.
use Rattle.std.proofs.Common.{◌≡◌, ℕ, ◌+◌, ◌≤◌, List, length, drop, slice_index}
use Rattle.std.proofs.Common.{slice_index_or, sym, arith, length-drop}
use Rattle.std.proofs.Math.ListN.{get_or-eq_default}
use Rattle.std.proofs.lemmas.List.{get_or-drop}

pub byte_ahead : (text : List ℕ) (at ahead : ℕ)
    → slice_index_or text (at + ahead) 0 ≡ slice_index (drop at text) ahead
byte_ahead text at ahead = sym (get_or-drop at text ahead 0)

pub past_end : (text : List ℕ) (at ahead : ℕ) → length text ≤ at + ahead
    → 0 ≡ slice_index (drop at text) ahead
past_end text at ahead past =
    sym (get_or-eq_default (drop at text) 0 (rw (length-drop at text) (omega arith)))
