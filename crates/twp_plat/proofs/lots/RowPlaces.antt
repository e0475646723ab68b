-- The records of lots, by their places after the heading and the township's record.
use Rattle.std.proofs.Common.{◌≡◌, ℕ, ◌+◌, ◌-◌, ◌≤◌, ◌<◌, List, ◌∷◌, length, suc, refl, ap, subst, sym, ◌∙◌}
use Rattle.std.proofs.Common.{arith}
use Rattle.twp_grid.specs.Townships.{Designation}
use Rattle.twp_notes.specs.Records.{Fields, records_of, record_at, record_numbered}
use Rattle.twp_notes.proofs.RecordFacts.{few_records}
use Rattle.twp_plat.specs.LotRecords.{LOTS_TEXT_MOST, IsPlatRecord, IsRowNumber}
use Rattle.twp_plat.specs.LotsFaults.{HasOnRow}

-- the rows are the records after the first two
pub record AreRows (records rows : List Fields) : Type 0 where
  pub long : length records ≡ length rows + 2
  pub each : (place : ℕ) → record_numbered records (place + 3) ≡ record_at rows place

-- the bytes are not too many, and these rows come after this heading and the township's record
pub record AreAfter (bytes : List ℕ) (heading : Fields) (rows : List Fields) : Type 0 where
  pub size : length bytes ≤ LOTS_TEXT_MOST
  pub first : Fields
  pub second : Fields
  pub township : Designation
  pub split : records_of bytes ≡ first ∷ second ∷ rows
  pub heading_is : first ≡ heading
  pub date : ℕ
  pub plat_is : IsPlatRecord second township date

-- the first two records were read, and are valid
abbrev pub after_of_word : (bytes : List ℕ) (heading first second : Fields) (start after rest : List Fields)
    (township : Designation) (date : ℕ)
    → length bytes ≤ LOTS_TEXT_MOST → start ≡ records_of bytes
    → start ≡ first ∷ after → after ≡ second ∷ rest → first ≡ heading
    → IsPlatRecord second township date → AreAfter bytes heading rest
after_of_word bytes heading first second start after rest township date size all one two heading_is plat_is =
    record {
      size = size;
      first = first;
      second = second;
      township = township;
      split = sym all ∙ one ∙ ap (λ (more : List Fields). first ∷ more) two;
      heading_is = heading_is;
      date = date;
      plat_is = plat_is;
    }

numbered : (first second : Fields) (rows : List Fields) (place : ℕ)
    → record_numbered (first ∷ second ∷ rows) (place + 3) ≡ record_at rows place
numbered first second rows place =
    let e : place + 3 - 1 ≡ suc (suc place) = omega arith in
    rw e refl

pub rows_after : (bytes : List ℕ) (heading : Fields) (rows : List Fields) → AreAfter bytes heading rows
    → AreRows (records_of bytes) rows
rows_after bytes heading rows after = record {
  long =
      let all : length (records_of bytes) ≡ suc (suc (length rows)) = ap length after.split in
      omega (arith, all);
  each = λ place. rw after.split (numbered after.first after.second rows place);
}

-- a row by its number among the records
pub record IsPlaced (records rows : List Fields) (number : ℕ) : Type 0 where
  pub place : ℕ
  pub number_is : number ≡ place + 3
  pub within : place < length rows
  pub is : record_numbered records number ≡ record_at rows place

pub placed : (records rows : List Fields) (number : ℕ) → AreRows records rows → IsRowNumber records number
    → IsPlaced records rows number
placed records rows number are is =
    let long = are.long in
    let from : 3 ≤ number = is.0 in
    let to : number ≤ length records = is.1 in
    let e : number ≡ number - 3 + 3 = omega arith in
    record {
      place = number - 3;
      number_is = e;
      within = omega arith;
      is =
          subst (λ n. record_numbered records n ≡ record_at rows (number - 3)) (sym e)
          (are.each (number - 3));
    }

-- the number of a row
pub is_row : (records rows : List Fields) (place : ℕ) → AreRows records rows → place < length rows
    → IsRowNumber records (place + 3)
is_row records rows place are within =
    let long = are.long in
    (omega arith, omega (arith, within, long))

pub on_row : (Bad : Fields → Type 0) (records rows : List Fields) (place : ℕ) → AreRows records rows
    → place < length rows → Bad (record_at rows place) → HasOnRow records (place + 3) Bad
on_row Bad records rows place are within bad =
    (is_row records rows place are within, subst Bad (sym (are.each place)) bad)

-- there are fewer rows than bytes
pub few_rows : (bytes : List ℕ) (heading : Fields) (rows : List Fields) → AreAfter bytes heading rows
    → length rows < 131072
few_rows bytes heading rows after =
    let long = (rows_after bytes heading rows after).long in
    let few : length (records_of bytes) ≤ length bytes + 1 = few_records bytes in
    let size : length bytes ≤ 65536 = after.size in
    omega (arith, long, few, size)
