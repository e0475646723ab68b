-- The first tract that shares land with another.
use Rattle.std.proofs.Common.{◌≡◌, ℕ, ◌+◌, ◌-◌, ◌≤◌, ◌<◌, Bool, List, length, ap, sym, ◌∙◌, inl, inr, subst}
use Rattle.std.proofs.Common.{Option, Some, None, Result, Ok, Err, IfOk, MatchOption, arith}
use Rattle.std.specs.Prelude.{IfSome}
use Rattle.twp_grid.specs.Townships.{Designation}
use Rattle.twp_grid.specs.Lands.{SharePlace}
use Rattle.twp_notes.specs.Records.{Fields, record_at, records_of}
use Rattle.twp_answers.specs.Answers.{Describe}
use Rattle.twp_answers.specs.Tracts.{description_in, tract_records, Overlap}
use Rattle.twp_answers.proofs.OneAnswer.{one_land}
use Rattle.twp_answers.proofs.TractLands.{earlier_or_last}
use Rattle.twp_diagnose.specs.RecordFields.{number_listed, IsListedAt}
use Rattle.twp_diagnose.specs.declared.listed.Listed.{Listed}
use Rattle.twp_explain.specs.steps.Sharing.{IsFirstOverlapping, IsFirstSharingRecord}
use Rattle.twp_grid.specs.Lands.{Lotting}

-- two tracts whose lands have no place in common don't overlap
pub no_overlap : (lots : Lotting) (township : Designation) (fields next : Fields)
    (places more : ℕ → ℕ → ℕ → Bool)
    → Describe lots township (description_in fields) places
    → Describe lots township (description_in next) more
    → (SharePlace places more → ⊥) → Overlap lots township fields next → ⊥
no_overlap lots township fields next places more is is' apart overlap =
    let same : overlap.places ≡ places =
    one_land lots township (description_in fields) overlap.places places overlap.land is in
    let same' : overlap.more ≡ more =
    one_land lots township (description_in next) overlap.more more overlap.other_land is' in
    apart (record {
      section = overlap.shared.section;
      column = overlap.shared.column;
      row = overlap.shared.row;
      in_first =
          ap (λ p. p overlap.shared.section overlap.shared.column overlap.shared.row) (sym same)
          ∙ overlap.shared.in_first;
      in_second =
          ap (λ p. p overlap.shared.section overlap.shared.column overlap.shared.row) (sym same')
          ∙ overlap.shared.in_second;
    })

-- one more tract that doesn't overlap the one at the index
pub none_more : (lots : Lotting) (township : Designation) (rows : List Fields) (index count : ℕ)
    → ((tract : ℕ) → tract < count
    → Overlap lots township (record_at rows tract) (record_at rows index) → ⊥)
    → (Overlap lots township (record_at rows count) (record_at rows index) → ⊥)
    → (tract : ℕ) → tract < count + 1
    → Overlap lots township (record_at rows tract) (record_at rows index) → ⊥
none_more lots township rows index count before next tract below overlap =
    elim (earlier_or_last count tract below) [
      | inl earlier ↦ before tract earlier overlap
      | inr last ↦
          next
          (subst (λ t. Overlap lots township (record_at rows t) (record_at rows index)) last overlap)
    ]

-- the record of the first tract that shares land
pub sharing_record : {E : Type 0} (lots : Lotting) (township : Designation) (listed : Listed)
    (index earlier number : ℕ)
    (common : ℕ → ℕ → ℕ → Bool) (r : Result (Option Listed) E)
    → IsFirstOverlapping lots township (tract_records listed.file.bytes.now) index earlier common
    → index ≡ number_listed listed - 2 → number ≡ earlier + 2
    → (1 ≤ number → IfOk r (λ found. MatchOption found (length (records_of listed.file.bytes.now) < number)
    (IsListedAt listed.file number)))
    → IfOk r (λ found. IfSome found (λ other. IsFirstSharingRecord lots township listed other common))
sharing_record lots township listed index earlier number common (Err fault) first index_is number_is is = tt
sharing_record lots township listed index earlier number common (Ok None) first index_is number_is is = tt
sharing_record lots township listed index earlier number common (Ok (Some other)) first index_is number_is
    is =
    let at : IsListedAt listed.file number other = is (omega (arith, number_is)) in
    let numbered : number_listed other ≡ number = at.record_is.number_is in
    let earlier_is : earlier ≡ number_listed other - 2 = omega (arith, number_is, numbered) in
    record {
      listed_is = subst (λ n. IsListedAt listed.file n other) (sym numbered) at;
      after_heading = omega (arith, number_is, numbered);
      first =
          subst (λ n. IsFirstOverlapping lots township (tract_records listed.file.bytes.now)
          (number_listed listed - 2) n common) earlier_is
          (subst
          (λ n. IsFirstOverlapping lots township (tract_records listed.file.bytes.now) n earlier common)
          index_is first);
    }
