-- The records of a lot table that name a lot, one after another; over plain values.
use Rattle.std.proofs.Common.{◌≡◌, ◌≤◌, ◌+◌, ℕ, List, inl, inr, ap, ◌∙◌, subst, arith}
use Rattle.std.proofs.lemmas.Bool.{cases_lt}
use Rattle.twp_notes.specs.Records.{Fields, record_at, record_numbered}
use Rattle.twp_sentences.specs.OtherTableRecords.{NamesNumbers}

-- the record after the first so many
pub numbered_next : (rows : List Fields) (passed : ℕ) (fields : Fields) → record_at rows passed ≡ fields
    → record_numbered rows (passed + 1) ≡ fields
numbered_next rows passed fields is = ap (record_at rows) (omega arith) ∙ is

-- one more record does not name the lot
pub none_more : (rows : List Fields) (passed : ℕ) (fields : Fields) (section lot : ℕ)
    → record_at rows passed ≡ fields
    → ((other : ℕ) → 1 ≤ other → other ≤ passed → NamesNumbers (record_numbered rows other) section lot → ⊥)
    → (NamesNumbers fields section lot → ⊥)
    → (other : ℕ) → 1 ≤ other → other ≤ passed + 1
    → NamesNumbers (record_numbered rows other) section lot → ⊥
none_more rows passed fields section lot is before none other one most names =
    elim (cases_lt other (passed + 1)) [
      | inl earlier ↦ before other one (omega (arith, earlier)) names
      | inr over ↦
          let last : other ≡ passed + 1 = omega (arith, over, most) in
          none (subst (λ row. NamesNumbers row section lot)
          (ap (record_numbered rows) last ∙ numbered_next rows passed fields is) names)
    ]
