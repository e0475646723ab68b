-- Reading one record leaves the reader between records, before the records that follow.
use Rattle.std.proofs.Common.{◌≡◌, ℕ, zero, suc, ◌+◌, ◌≤◌, ◌<◌, ◌⊎◌, Bool, true, false, List, []}
use Rattle.std.proofs.Common.{◌∷◌, ◌++◌, length, get_or, Option, Some, None, refl, ap, sym, ◌∙◌}
use Rattle.std.proofs.Common.{inl, inr, arith, if◌then◌else◌, add-one, Bor}
use Rattle.std.specs.Bool.{MatchBool}
use Rattle.std.specs.Prelude.{unwrap_or}
use Rattle.std.proofs.lemmas.Bool.{false≢true}
use Rattle.csv.specs.Machine.{Read, next_record, step, is_end, ends_at_end, fields_after}
use Rattle.csv.specs.Machine.{field_after}
use Rattle.csv.specs.Reading.{records_from, strip_bom, is_bom, default_config, source_of, ReadsNext}
use Rattle.csv.specs.Reading.{ReadRecord, reader_state, is_flexible, took_first}
use Rattle.csv.specs.Records.{field_at}
use Rattle.csv.specs.declared.parser.State.{State}
use Rattle.csv.specs.declared.parser.State.TheVariants as st
use Rattle.twp_notes.specs.Records.{Fields, records_of, records_left, bytes_ahead, IsBetweenRecords}
use Rattle.twp_notes.specs.declared.reading.Records.{Records}

either_way : {A : Type 0} (b : Bool) (x y z : A) → (if b then x else y) ≡ z
    → ((b ≡ true) × (x ≡ z)) ⊎ ((b ≡ false) × (y ≡ z))
either_way true x y z h = inl (refl, h)
either_way false x y z h = inr (refl, h)

either_is : (b : Bool) → (b ≡ true) ⊎ (b ≡ false)
either_is true = inl refl
either_is false = inr refl

option_cases : {A : Type 0} (o : Option A) → (o ≡ None) ⊎ ((x : A) × (o ≡ Some x))
option_cases None = inl refl
option_cases (Some x) = inr (x, refl)

-- the byte that ends a record leaves the reader between records
step_ends : (s : State) (c : ℕ) → is_end (step default_config s c).1 ≡ true
    → ends_at_end (step default_config s c).0 ≡ false
step_ends st.StartRecord c h = grind arith
step_ends st.StartField c h = grind arith
step_ends st.InField c h = grind arith
step_ends st.InQuoted c h = grind arith
step_ends st.InEscape c h = grind arith
step_ends st.AfterQuote c h = grind arith
step_ends st.InComment c h = grind arith
step_ends st.AfterCr c h = grind arith

-- after a record is read, no more bytes are left than before, and the reader is between records
read_on : (s : State) (fields : Fields) (partial : List ℕ) (bytes : List ℕ) (q : Read)
    → next_record default_config s fields partial bytes ≡ Some q
    → (length q.2 ≤ length bytes) × (ends_at_end q.1 ≡ false)
unfolding next_record
read_on s fields partial [] q h =
    elim (either_way (ends_at_end s) (Some (fields ++ (partial ∷ []), st.StartRecord, [])) None (Some q) h) [
      | inl (at_end, is) ↦
          let rest : [] ≡ q.2 = cc is in
          let state : st.StartRecord ≡ q.1 = cc is in
          (rw (← rest) (omega arith), rw (← state) refl)
      | inr (between, is) ↦ cc is
    ]
read_on s fields partial (c ∷ rest) q h =
    elim (either_way (is_end (step default_config s c).1) _ _ (Some q) h) [
      | inl (ended, is) ↦
          let left : rest ≡ q.2 = cc is in
          let state : (step default_config s c).0 ≡ q.1 = cc is in
          (rw (← left) (omega arith), rw (← state) (step_ends s c ended))
      | inr (goes_on, is) ↦
          let more =
          read_on (step default_config s c).0 (fields_after (step default_config s c).1 fields partial)
          (field_after (step default_config s c).1 c partial) rest q is in
          (omega arith, more.1)
    ]

-- a record that is read from between two records takes at least one byte
read_one : (s : State) (bytes : List ℕ) (q : Read) → ends_at_end s ≡ false
    → next_record default_config s [] [] bytes ≡ Some q
    → (length q.2 < length bytes) × (ends_at_end q.1 ≡ false)
unfolding next_record
read_one s [] q between h =
    elim (either_way (ends_at_end s) (Some ([] ++ ([] ∷ []), st.StartRecord, [])) None (Some q) h) [
      | inl (at_end, is) ↦ absurd (false≢true (sym between ∙ at_end))
      | inr (_, is) ↦ cc is
    ]
read_one s (c ∷ rest) q between h = elim (either_way (is_end (step default_config s c).1) _ _ (Some q) h) [
  | inl (ended, is) ↦
      let left : rest ≡ q.2 = cc is in
      let state : (step default_config s c).0 ≡ q.1 = cc is in
      (rw (← left) (omega arith), rw (← state) (step_ends s c ended))
  | inr (goes_on, is) ↦
      let more =
      read_on (step default_config s c).0 (fields_after (step default_config s c).1 [] [])
      (field_after (step default_config s c).1 c []) rest q is in
      (omega arith, more.1)
]

-- a count greater than the number of remaining bytes is enough for all the records
same_records : (n m : ℕ) (s : State) (bytes : List ℕ) → ends_at_end s ≡ false → length bytes < n
    → length bytes < m
    → records_from default_config n s bytes ≡ records_from default_config m s bytes
unfolding records_from
same_records zero m s bytes between over-n over-m = absurd (omega arith)
same_records (suc n) zero s bytes between over-n over-m = absurd (omega arith)
same_records (suc n) (suc m) s bytes between over-n over-m =
    elim (option_cases (next_record default_config s [] [] bytes)) [
      | inl none ↦ rw none refl
      | inr (q, e) ↦
          let less = read_one s bytes q between e in
          rw e (ap (λ more. q.0 ∷ more) (same_records n m q.1 q.2 less.1 (omega arith) (omega arith)))
    ]

pub records_after : (s : State) (bytes : List ℕ) (q : Read) → ends_at_end s ≡ false
    → next_record default_config s [] [] bytes ≡ Some q
    → (records_from default_config (length bytes + 1) s bytes
    ≡ q.0 ∷ records_from default_config (length q.2 + 1) q.1 q.2)
    × (ends_at_end q.1 ≡ false)
unfolding records_from
records_after s bytes q between e =
    let less = read_one s bytes q between e in
    let same : records_from default_config (length bytes) q.1 q.2
    ≡ records_from default_config (length q.2 + 1) q.1 q.2 =
    same_records (length bytes) (length q.2 + 1) q.1 q.2 less.1 less.0 (omega arith) in
    (rw (add-one, e) (ap (λ more. q.0 ∷ more) same), less.1)

pub no_records : (s : State) (bytes : List ℕ) → next_record default_config s [] [] bytes ≡ None
    → records_from default_config (length bytes + 1) s bytes ≡ []
unfolding records_from
no_records s bytes e = rw (add-one, e) refl

-- what a read says about the next record, if the bytes are known
next_given : (s s2 : State) (bytes : List ℕ) (after : Option (List ℕ)) (found : Bool) (row : Fields)
    → ReadsNext default_config s (Some bytes) after found row s2
    → (rest : List ℕ) × (after ≡ Some rest)
    × MatchBool found (next_record default_config s [] [] bytes ≡ Some (row, s2, rest))
    (next_record default_config s [] [] bytes ≡ None)
next_given s s2 bytes None found row h = absurd h
next_given s s2 bytes (Some rest) found row h =
    elim (option_cases (next_record default_config s [] [] bytes)) [
      | inl none ↦
          let absent : found ≡ false = rw none at h in
          (rest, refl, rw absent none)
      | inr (q, e) ↦
          let given = rw e at h in
          let (there, fields, state, left) = given in
          (rest, refl, rw (there, fields, state, left) e)
    ]

-- the bytes of a slice are known
abbrev known : Bor (List ℕ) → Option (List ℕ)
known s = Some s.now

-- a read takes the first of the remaining records, or finds none
pub reads_first : (a b : Records) (found : Bool) (row : Fields) → IsBetweenRecords a
    → ReadRecord known a.reader b.reader found row
    → took_first b.reader ≡ true → is_flexible b.reader ≡ is_flexible a.reader
    → MatchBool found ((records_left a ≡ row ∷ records_left b) × IsBetweenRecords b) (records_left a ≡ [])
reads_first a b true row reading reads first flexible =
    let next =
    next_given (reader_state a.reader) (reader_state b.reader) (bytes_ahead a) _ true row
    (rw (reading.config, reading.known) at reads.0) in
    let after =
    records_after (reader_state a.reader) (bytes_ahead a) (row, reader_state b.reader, next.0)
    reading.between next.2 in
    let source : source_of known b.reader ≡ Some next.0 = rw reads.1 next.1 in
    let left : bytes_ahead b ≡ next.0 = ap (λ o. unwrap_or o []) source in (
      rw left after.0,
      record {
        plain = reads.3 ∙ reading.plain;
        ready = inl first;
        config = reads.2 ∙ reading.config;
        flexible = flexible ∙ reading.flexible;
        known = source ∙ ap (λ bytes. Some bytes) (sym left);
        between = after.1;
      },
    )
reads_first a b false row reading reads first flexible =
    let next =
    next_given (reader_state a.reader) (reader_state b.reader) (bytes_ahead a) _ false row
    (rw (reading.config, reading.known) at reads.0) in
    no_records (reader_state a.reader) (bytes_ahead a) next.2

-- the field at an index
pub field_at_is : (fields : Fields) (i : ℕ) → i < length fields
    → field_at fields i ≡ Some (get_or fields i [])
unfolding field_at
field_at_is [] i below = absurd (omega arith)
field_at_is (f ∷ fs) zero below = refl
field_at_is (f ∷ fs) (suc i) below = field_at_is fs i (omega arith)

-- each record except one has a byte of its own
few_from : (n : ℕ) (s : State) (bytes : List ℕ) → length (records_from default_config n s bytes) ≤ n
unfolding records_from
few_from zero s bytes = omega arith
few_from (suc n) s bytes = elim (option_cases (next_record default_config s [] [] bytes)) [
  | inl none ↦ rw none (omega arith)
  | inr (q, e) ↦ rw e (omega (arith, few_from n q.1 q.2))
]

short_bytes : (bytes : List ℕ) → length (strip_bom bytes) ≤ length bytes
unfolding strip_bom
short_bytes [] = omega arith
short_bytes (a ∷ []) = omega arith
short_bytes (a ∷ b ∷ []) = omega arith
short_bytes (a ∷ b ∷ c ∷ rest) = elim (either_is (is_bom a b c)) [
  | inl mark ↦ rw mark (omega arith)
  | inr none ↦ rw none (omega arith)
]

pub few_records : (bytes : List ℕ) → length (records_of bytes) ≤ length bytes + 1
few_records bytes =
    let few = few_from (length (strip_bom bytes) + 1) st.StartRecord (strip_bom bytes) in
    let short = short_bytes bytes in
    omega arith
