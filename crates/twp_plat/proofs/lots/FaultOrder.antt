-- The order of the faults that a lot table's records have after the township's.
use Rattle.std.proofs.Common.{◌≡◌, ◌⊎◌, ℕ, ◌+◌, ◌-◌, ◌≤◌, ◌<◌, List, inl, inr, refl, subst, sym}
use Rattle.std.proofs.Common.{arith}
use Rattle.std.proofs.lemmas.Bool.{cases_lt, cases_eq}
use Rattle.twp_notes.specs.Records.{Fields, record_at, record_numbered}
use Rattle.twp_plat.specs.LotRecords.{IsRowNumber}
use Rattle.twp_plat.specs.LandFaults.{HasLandFault}
use Rattle.twp_plat.specs.LotsFaults.{HasLotFault, HasRowFault, IsFrom}
use Rattle.twp_plat.specs.declared.lots.fault.LotsFault.{LotsFault}
use Rattle.twp_plat.specs.declared.lots.fault.LotsFault.TheVariants as fault
use Rattle.twp_plat.proofs.lots.RowPlaces.{AreRows, IsPlaced, placed}

-- a later place than this one, or this place with at least this number
abbrev pub IsAfter : ℕ → ℕ → ℕ → ℕ → Type 0
IsAfter place number at own =
    let once : ℕ = 1 in
    (once < once) ⊎ ((once ≡ once) × (place < at)) ⊎ ((once ≡ once) × (place ≡ at) × (number ≤ own))

pub from_here : (count number own at : ℕ) → (at < count + 3 → ⊥) → (own < number → at ≡ count + 3 → ⊥)
    → IsAfter (count + 3) number at own
from_here count number own at before here = elim (cases_lt at (count + 3)) [
  | inl below ↦ absurd (before below)
  | inr over ↦ elim (cases_eq at (count + 3)) [
    | inl same ↦ elim (cases_lt own number) [
      | inl less ↦ absurd (here less same)
      | inr most ↦ inr (inr (refl, sym same, most))
    ]
    | inr other ↦ inr (inl (refl, omega arith))
  ]
]

-- a fault that none of the records so far has, and that the next one does not have either if its number is
-- less than `number`
pub on_record : (Bad : Fields → Type 0) (records rows : List Fields) (count number own at : ℕ)
    → AreRows records rows
    → ((place : ℕ) → place < count → Bad (record_at rows place) → ⊥)
    → (own < number → Bad (record_at rows count) → ⊥)
    → IsRowNumber records at → Bad (record_numbered records at) → IsAfter (count + 3) number at own
on_record Bad records rows count number own at are before here is bad =
    let by : IsPlaced records rows at = placed records rows at are is in
    let there : Bad (record_at rows by.place) = subst Bad by.is bad in
    from_here count number own at (λ below. before by.place (omega (arith, by.number_is, below)) there)
    (λ less same.
    let last : by.place ≡ count = omega (arith, by.number_is, same) in
    here less (subst (λ place. Bad (record_at rows place)) last there))

-- the records after the township's are numbered from 3
after_two : (number own : ℕ) → 3 ≤ number → IsAfter 3 0 number own
after_two number own from = elim (cases_eq 3 number) [
  | inl same ↦ inr (inr (refl, same, omega arith))
  | inr other ↦ inr (inl (refl, omega arith))
]

lot_fault_after : (records : List Fields) (other : LotsFault) → HasLotFault records other → IsFrom 1 3 0 other
lot_fault_after records (fault.Columns number) has = after_two number 89 has.0.0
lot_fault_after records (fault.NoLot number) has = after_two number 91 has.0.0
lot_fault_after records (fault.Acres number) has = after_two number 92 has.0.0
lot_fault_after records (fault.Repeated number) has = after_two number 93 has.0.0
lot_fault_after records _ has = absurd has

land_fault_after : (records : List Fields) (other : LotsFault) → HasLandFault records other
    → IsFrom 1 3 0 other
land_fault_after records (fault.Columns number) has = after_two number 89 has.0.0
land_fault_after records (fault.NoLot number) has = after_two number 91 has.0.0
land_fault_after records (fault.Acres number) has = after_two number 92 has.0.0
land_fault_after records (fault.Repeated number) has = after_two number 93 has.0.0
land_fault_after records (fault.Land number) has = after_two number 96 has.0.0
land_fault_after records (fault.TooFine number) has = after_two number 97 has.0.0
land_fault_after records (fault.Shared number) has = after_two number 98 has.0.0
land_fault_after records (fault.TooMany number) has = after_two number 99 has.0.0
land_fault_after records (fault.Unfilled number) has = inl (omega arith)
land_fault_after records (fault.Divided number) has = inl (omega arith)
land_fault_after records _ has = absurd has

-- a fault after the township's record comes after those of the first two records
pub row_fault_after : (records : List Fields) (place number : ℕ) (other : LotsFault) → place < 3
    → HasRowFault records other → IsFrom 1 place number other
row_fault_after records place number other early has = elim (after has) [
  | inl later ↦ inl later
  | inr same ↦ elim same [
    | inl (is, below) ↦ inr (inl (is, omega (arith, below, early)))
    | inr (is, here, _) ↦ inr (inl (is, omega (arith, here, early)))
  ]
]
  where
    after : HasRowFault records other → IsFrom 1 3 0 other
    after (inl (is, lot)) = lot_fault_after records other lot
    after (inr (is, land)) = land_fault_after records other land
