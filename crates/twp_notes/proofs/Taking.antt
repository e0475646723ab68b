-- Records that are entered one after another.
use Rattle.std.proofs.Common.{◌≡◌, ◌≢◌, ℕ, suc, ◌+◌, ◌-◌, ◌≤◌, ◌<◌, List, [], ◌∷◌, length, drop}
use Rattle.std.proofs.Common.{inl, inr, get_or, Option, Some, None, ap, sym, ◌∙◌, arith, add-one}
use Rattle.std.proofs.Common.{drop-cons, length-drop}
use Rattle.std.proofs.lemmas.Bool.{cases_lt, cases_eq}
use Rattle.std.proofs.lemmas.List.{get_or-set_same, get_or-set_other, length-set}
use Rattle.twp_notes.specs.Records.{Fields, record_at}
use Rattle.twp_notes.specs.FieldNotes.{NamesLine}
use Rattle.twp_notes.specs.steps.Tables.{entry_of, TakesDown, IsLineTaken, IsLineNamedBy, AreTaken}
use Rattle.twp_notes.specs.declared.parsing.Returned.{Returned}
use Rattle.twp_notes.specs.steps.LineFaults.{IsNotTaken, IsLineRefusedAfter}
use Rattle.twp_notes.specs.declared.fault.NotesFault.{NotesFault}
use Rattle.twp_notes.specs.declared.fault.NotesFault.TheVariants as fault
use Rattle.twp_notes.proofs.NameFacts.{names_one}

-- the next of the remaining records
pub record IsNextRecord (rows : List Fields) (k : ℕ) (fields : Fields) (rest : List Fields) : Type 0 where
  pub within : k < length rows
  pub is : record_at rows k ≡ fields
  pub after : rest ≡ drop (k + 1) rows

pub next_record_is : (rows : List Fields) (k : ℕ) (fields : Fields) (rest : List Fields)
    → drop k rows ≡ fields ∷ rest → IsNextRecord rows k fields rest
next_record_is rows k fields rest e =
    let long : length rows - k ≡ suc (length rest) = sym (length-drop k rows) ∙ ap length e in
    let within : k < length rows = omega arith in
    let split : get_or rows k [] ∷ drop (suc k) rows ≡ fields ∷ rest = sym (drop-cons rows k [] within) ∙ e in
    record { within = within; is = cc split; after = rw add-one (cc split) }

pub no_record_left : (rows : List Fields) (k : ℕ) → drop k rows ≡ [] → length rows ≤ k
no_record_left rows k e =
    let none : length rows - k ≡ 0 = sym (length-drop k rows) ∙ ap length e in
    omega arith

-- an entry stays when another line is entered
still_taken : (fields next : Fields) (old new : List (Option Returned)) → IsLineTaken fields old
    → TakesDown next old new → IsLineTaken fields new
still_taken fields next old new is takes =
    let other : is.line ≢ takes.line =
    λ same. absurd (cc (sym is.taken ∙ ap (λ line. entry_of old line) same ∙ takes.first)) in
    record {
      line = is.line;
      returned = is.returned;
      is = is.is;
      taken =
          rw takes.new_is
          (get_or-set_other old takes.line is.line (Some takes.returned) None other ∙ is.taken);
    }

-- the next record's line has no entry yet
not_before : (rows : List Fields) (count : ℕ) (old new : List (Option Returned)) → AreTaken rows count old
    → TakesDown (record_at rows count) old new
    → (place line : ℕ) → place < count → NamesLine (record_at rows place) line
    → NamesLine (record_at rows count) line → ⊥
not_before rows count old new taken takes place line below names names' =
    let is : IsLineTaken (record_at rows place) old = taken.each place below in
    let here : is.line ≡ takes.line =
    names_one _ _ _ is.is.names names ∙ names_one _ _ _ names' takes.is.names in
    absurd (cc (sym is.taken ∙ ap (λ line. entry_of old line) here ∙ takes.first))

-- one more record was entered
pub taken_more : (rows : List Fields) (count : ℕ) (old new : List (Option Returned)) → AreTaken rows count old
    → TakesDown (record_at rows count) old new
    → AreTaken rows (count + 1) new
taken_more rows count old new taken takes = record {
  each = λ place below. elim (cases_lt place count) [
    | inl before ↦ still_taken _ _ old new (taken.each place before) takes
    | inr over ↦
        let last : place ≡ count = omega arith in
        rw last (record {
          line = takes.line;
          returned = takes.returned;
          is = takes.is;
          taken =
              rw takes.new_is
              (get_or-set_same old takes.line (Some takes.returned) None
              (omega (arith, taken.size, takes.is_line)));
        })
  ];
  once = λ place other line below below' names names'. elim (cases_lt place count) [
    | inl before ↦ elim (cases_lt other count) [
      | inl before' ↦ taken.once place other line before before' names names'
      | inr over ↦
          let last : other ≡ count = omega arith in
          absurd (not_before rows count old new taken takes place line before names (rw last at names'))
    ]
    | inr over ↦
        let last : place ≡ count = omega arith in
        elim (cases_lt other count) [
          | inl before' ↦
              absurd (not_before rows count old new taken takes other line before' names' (rw last at names))
          | inr over' ↦ omega arith
        ]
  ];
  named = λ line some. elim (cases_eq line takes.line) [
    | inl same ↦ record { place = count; within = omega arith; names = rw same takes.is.names }
    | inr other ↦
        let before : IsLineNamedBy rows count line = taken.named line (rw (
          takes.new_is,
          get_or-set_other old takes.line line (Some takes.returned) None other,
        ) at some) in
        record { place = before.place; within = omega (arith, before.within); names = before.names }
  ];
  size = rw takes.new_is (length-set old takes.line (Some takes.returned) ∙ taken.size);
}

-- the next record is refused
pub refused_next : (rows : List Fields) (count : ℕ) (table : List (Option Returned)) (is : NotesFault)
    → count < length rows → AreTaken rows count table
    → IsNotTaken (record_at rows count) table (count + 3) is → IsLineRefusedAfter rows is
refused_next rows count table fault.Memory within taken not = tt
refused_next rows count table _ within taken not =
    record { count = count; table = table; within = within; taken = taken; not_taken = not }
