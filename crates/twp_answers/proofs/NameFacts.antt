-- Names in a set, by their bytes.
use Rattle.std.proofs.Common.{◌≡◌, ℕ, Bool, true, false, List, sym, subst, ◌∙◌, if◌then◌else◌, inl, inr}
use Rattle.std.specs.List.{list_any}
use Rattle.std.specs.Str.{bytes_eq}
use Rattle.std.specs.HashSet.{HashSet, UpdatesBy, contains_by}
use Rattle.std.specs.Set.{KeepsOthers}
use Rattle.std.specs.Map.{IsKeyTest, AreApart}
use Rattle.std.proofs.lemmas.Bool.{cases_Bool}
use Rattle.std.proofs.lemmas.Cmp.{nat_list_eq_equiv}
use Rattle.std.proofs.lemmas.Slice.Eq.{bytes_eq-Decides}
use Rattle.arrayvec.specs.ArrayString.{ArrayString}

-- a name that some bytes do not spell differs from one that they do
apart : (bytes other key : List ℕ) → bytes_eq bytes other ≡ false → bytes_eq bytes key ≡ true
    → bytes_eq other key ≡ false
apart bytes other key differ same =
    nat_list_eq_equiv.symm other key ∙ sym (nat_list_eq_equiv.congr bytes key other same) ∙ differ

other_keys : (eq : ArrayString → ArrayString → Bool) (test : ArrayString → Bool) (old new : List ArrayString)
    → KeepsOthers eq test old new → (other : ArrayString → Bool) → IsKeyTest eq other → AreApart test other
    → list_any other new ≡ list_any other old
unfolding KeepsOthers
other_keys eq test old new keeps = keeps

-- a set with one more name contains it, and otherwise the same names as before
pub one_name_more : {S : Type 0} (name : ArrayString) (old new : HashSet ArrayString S)
    → UpdatesBy (λ x y. bytes_eq x.bytes y.bytes) (λ key. bytes_eq name.bytes key.bytes) old new true
    → (other : List ℕ)
    → contains_by (λ key. bytes_eq other key.bytes) new
    ≡ (if bytes_eq name.bytes other then true else contains_by (λ key. bytes_eq other key.bytes) old)
one_name_more name old new updates other =
    elim (cases_Bool (bytes_eq name.bytes other)) [
      | inl same ↦
          let is : name.bytes ≡ other = (bytes_eq-Decides name.bytes other).0 same in
          rw same
          (subst (λ (bytes : List ℕ). contains_by (λ key. bytes_eq bytes key.bytes) new ≡ true) is updates.1)
      | inr differ ↦
          rw differ
          (other_keys _ _ _ _ updates.3 (λ key. bytes_eq other key.bytes)
          (λ x y. nat_list_eq_equiv.congr other x.bytes y.bytes)
          (λ key. apart name.bytes other key.bytes differ))
    ]
