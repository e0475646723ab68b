-- The first fault of notes whose records are checked one after another.
use Rattle.std.proofs.Common.{◌≡◌, ◌≢◌, ◌⊎◌, ℕ, ◌+◌, ◌≤◌, ◌<◌, List, length, inl, inr, suc, Option, Some}
use Rattle.std.proofs.Common.{None, IsSome, IfSome, Err, refl, ap, subst, sym, ◌∙◌, arith}
use Rattle.std.proofs.lemmas.Bool.{cases_lt, cases_eq}
use Rattle.std.specs.Prelude.{slice_index_or}
use Rattle.std.proofs.lemmas.List.{get_or_past}
use Rattle.twp_grid.specs.Lines.{LINE_COUNT, IsLine}
use Rattle.twp_notes.specs.Records.{Fields, records_of, record_at, record_numbered}
use Rattle.twp_notes.specs.FieldNotes.{FIELDS, IsLineNumber, IsLineNamed, NamesLine, AreNotes}
use Rattle.twp_notes.specs.FieldNotes.{nothing_returned}
use Rattle.twp_notes.specs.NotesFaults.{HasNoRun, HasNoSection, NamesNoLine, HasNoLength, HasOnLine}
use Rattle.twp_notes.specs.NotesFaults.{IsLineRepeated, HasFault, IsFrom, IsFirstNotesFault, AnswersNotes}
use Rattle.twp_notes.specs.NotesFaults.{refusal_of}
use Rattle.twp_notes.specs.steps.Tables.{entry_of, AreEntries, IsLineTaken, IsLineNamedBy, AreTaken}
use Rattle.twp_notes.specs.steps.Tables.{IsLeastMissing}
use Rattle.twp_notes.specs.steps.LineFaults.{IsLineRefusedNext, IsLineRefusedAfter}
use Rattle.twp_notes.specs.declared.fault.NotesFault.{NotesFault}
use Rattle.twp_notes.specs.declared.fault.NotesFault.TheVariants as fault
use Rattle.twp_notes.specs.steps.PassedFaults.{notes_fault_of}
use Rattle.twp_notes.specs.declared.reading.ReadFault.{ReadFault}
use Rattle.twp_notes.specs.declared.reading.ReadFault.TheVariants as reading
use Rattle.twp_notes.specs.declared.parsing.Returned.{Returned}
use Rattle.twp_notes.proofs.NameFacts.{names_one, has_run, has_section}
use Rattle.twp_notes.proofs.FieldFacts.{has_lengths}
use Rattle.twp_notes.proofs.RecordPlaces.{AreAfter, IsPlaced, placed, on_line}

-- a later place than this one, or this place with at least this number
abbrev IsAfter : ℕ → ℕ → ℕ → ℕ → Type 0
IsAfter place number at own =
    let once : ℕ = 1 in
    (once < once) ⊎ ((once ≡ once) × (place < at)) ⊎ ((once ≡ once) × (place ≡ at) × (number ≤ own))

-- a fault that none of the records so far has, and that the next one does not have either if its
-- number is less than `number`
from_here : (Bad : Fields → Type 0) (bytes : List ℕ) (rows : List Fields) (count number own at : ℕ)
    → AreAfter bytes rows
    → ((place : ℕ) → place < count → Bad (record_at rows place) → ⊥)
    → (own < number → Bad (record_at rows count) → ⊥)
    → HasOnLine bytes at Bad → IsAfter (count + 3) number at own
from_here Bad bytes rows count number own at after before here (is, bad) =
    let at_is : IsPlaced bytes rows at = placed bytes rows at after is in
    let there : Bad (record_at rows at_is.place) = subst Bad at_is.is bad in
    elim (cases_lt at_is.place count) [
      | inl below ↦ absurd (before at_is.place below there)
      | inr over ↦ elim (cases_eq at_is.place count) [
        | inl same ↦ elim (cases_lt own number) [
          | inl less ↦ absurd (here less (subst (λ place. Bad (record_at rows place)) same there))
          | inr most ↦ inr (inr (refl, omega (arith, at_is.number_is), most))
        ]
        | inr other ↦ inr (inl (refl, omega (arith, at_is.number_is)))
      ]
    ]

-- the next record has no fault with a smaller number than this
pub record IsGoodBefore (fields : Fields) (number : ℕ) : Type 0 where
  pub columns : 4 < number → length fields ≢ FIELDS → ⊥
  pub run : 6 < number → HasNoRun fields → ⊥
  pub section : 7 < number → HasNoSection fields → ⊥
  pub names : 8 < number → NamesNoLine fields → ⊥
  pub lengths : 9 < number → HasNoLength fields → ⊥

-- of the records that were entered, none is for the line of an earlier one
not_repeated : (bytes : List ℕ) (rows : List Fields) (count number at : ℕ) (table : List (Option Returned))
    → AreAfter bytes rows → AreTaken rows count table → number ≤ 10
    → IsLineNumber (records_of bytes) at → IsLineRepeated (records_of bytes) at
    → IsAfter (count + 3) number at 10
not_repeated bytes rows count number at table after taken most is again =
    let at_is : IsPlaced bytes rows at = placed bytes rows at after is in
    let earlier : IsPlaced bytes rows again.earlier =
    placed bytes rows again.earlier after again.earlier_is_of_a_line in
    let order : earlier.place < at_is.place =
    omega (arith, at_is.number_is, earlier.number_is, again.is_earlier) in
    elim (cases_lt at_is.place count) [
      | inl below ↦
          let same : earlier.place ≡ at_is.place =
          taken.once earlier.place at_is.place again.line (omega arith) below
          (subst (λ (f : Fields). NamesLine f again.line) earlier.is again.earlier_names)
          (subst (λ (f : Fields). NamesLine f again.line) at_is.is again.names) in
          absurd (omega arith)
      | inr over ↦ elim (cases_eq at_is.place count) [
        | inl same ↦ inr (inr (refl, omega (arith, at_is.number_is), most))
        | inr other ↦ inr (inl (refl, omega (arith, at_is.number_is)))
      ]
    ]

-- no fault comes before those of the next record, and that record has none with a number less than
-- `number`
none_before : (bytes : List ℕ) (rows : List Fields) (count number : ℕ) (table : List (Option Returned))
    → AreAfter bytes rows → AreTaken rows count table
    → IsGoodBefore (record_at rows count) number → number ≤ 10 → (other : NotesFault) → HasFault bytes other
    → IsFrom 1 (count + 3) number other
none_before bytes rows count number table after taken good most fault.TooLarge has =
    absurd (omega (arith, after.size))
none_before bytes rows count number table after taken good most fault.Empty has =
    absurd (cc (sym after.split ∙ has))
none_before bytes rows count number table after taken good most fault.Heading has =
    absurd (has (rw after.split after.heading_is))
none_before bytes rows count number table after taken good most (fault.Columns at) (from, to, wrong) =
    elim (cases_lt at 3) [
      | inl second ↦
          let e : at ≡ 2 = omega arith in
          absurd
          (subst (λ n. length (record_numbered (records_of bytes) n) ≢ FIELDS) e wrong
          (rw after.split after.township_is.columns))
      | inr line ↦
          from_here (λ (f : Fields). length f ≢ FIELDS) bytes rows count number 4 at after
          (λ place below wrong'. wrong' (taken.each place below).is.names.columns) good.columns
          ((line, to), wrong)
    ]
none_before bytes rows count number table after taken good most fault.Township has =
    absurd (has after.township (rw after.split after.township_is))
none_before bytes rows count number table after taken good most (fault.Run at) has =
    from_here HasNoRun bytes rows count number 6 at after
    (λ place below. has_run _ _ (taken.each place below).is.names) good.run has
none_before bytes rows count number table after taken good most (fault.Section at) has =
    from_here HasNoSection bytes rows count number 7 at after
    (λ place below. has_section _ _ (taken.each place below).is.names) good.section has
none_before bytes rows count number table after taken good most (fault.NoLine at) has =
    from_here NamesNoLine bytes rows count number 8 at after
    (λ place below none. none _ (taken.each place below).is.names) good.names has
none_before bytes rows count number table after taken good most (fault.Length at) has =
    from_here HasNoLength bytes rows count number 9 at after
    (λ place below. has_lengths _ _ (taken.each place below).is.returns) good.lengths has
none_before bytes rows count number table after taken good most (fault.Repeated at) (is, again) =
    not_repeated bytes rows count number at table after taken most is again
none_before bytes rows count number table after taken good most (fault.Missing line) has = inl (omega arith)
none_before bytes rows count number table after taken good most fault.Read has = absurd has
none_before bytes rows count number table after taken good most fault.Memory has = absurd has

-- the record that names the line of an entry is before the next one
repeated_is : (bytes : List ℕ) (rows : List Fields) (count line : ℕ) → AreAfter bytes rows
    → count < length rows → IsLineNamedBy rows count line
    → NamesLine (record_at rows count) line → IsLineRepeated (records_of bytes) (count + 3)
repeated_is bytes rows count line after within earlier names =
    let before =
    on_line (λ (f : Fields). NamesLine f line) bytes rows earlier.place after
    (omega (arith, earlier.within)) earlier.names in
    let here = on_line (λ (f : Fields). NamesLine f line) bytes rows count after within names in
    record {
      earlier = earlier.place + 3;
      line = line;
      is_earlier = omega (arith, earlier.within);
      earlier_is_of_a_line = before.0;
      earlier_names = before.1;
      names = here.1;
    }

-- the record that is not entered has the first fault
pub first_of_next : (bytes : List ℕ) (rows : List Fields) (is : NotesFault) → AreAfter bytes rows
    → IsLineRefusedNext rows is → IsFirstNotesFault bytes is
first_of_next bytes rows (fault.Columns at) after next =
    let (at_is, wrong) = next.not_taken in
    let good : IsGoodBefore (record_at rows next.count) 4 = record {
      columns = λ h. absurd (omega arith);
      run = λ h. absurd (omega arith);
      section = λ h. absurd (omega arith);
      names = λ h. absurd (omega arith);
      lengths = λ h. absurd (omega arith);
    } in
    let has = on_line (λ (f : Fields). length f ≢ FIELDS) bytes rows next.count after next.within wrong in
    subst (λ n. IsFirstNotesFault bytes (fault.Columns n)) (sym at_is) (record {
      is = (omega arith, has.0.1, has.1);
      first = none_before bytes rows next.count 4 next.table after next.taken good (omega arith);
    })
first_of_next bytes rows (fault.Run at) after next =
    let (five, (at_is, wrong)) = next.not_taken in
    let good : IsGoodBefore (record_at rows next.count) 6 = record {
      columns = λ h not. not five;
      run = λ h. absurd (omega arith);
      section = λ h. absurd (omega arith);
      names = λ h. absurd (omega arith);
      lengths = λ h. absurd (omega arith);
    } in
    subst (λ n. IsFirstNotesFault bytes (fault.Run n)) (sym at_is) (record {
      is = on_line HasNoRun bytes rows next.count after next.within wrong;
      first = none_before bytes rows next.count 6 next.table after next.taken good (omega arith);
    })
first_of_next bytes rows (fault.Section at) after next =
    let (five, (at_is, wrong, run)) = next.not_taken in
    let good : IsGoodBefore (record_at rows next.count) 7 = record {
      columns = λ h not. not five;
      run = λ h. run;
      section = λ h. absurd (omega arith);
      names = λ h. absurd (omega arith);
      lengths = λ h. absurd (omega arith);
    } in
    subst (λ n. IsFirstNotesFault bytes (fault.Section n)) (sym at_is) (record {
      is = on_line HasNoSection bytes rows next.count after next.within wrong;
      first = none_before bytes rows next.count 7 next.table after next.taken good (omega arith);
    })
first_of_next bytes rows (fault.NoLine at) after next =
    let (five, (at_is, wrong, run, section)) = next.not_taken in
    let good : IsGoodBefore (record_at rows next.count) 8 = record {
      columns = λ h not. not five;
      run = λ h. run;
      section = λ h. section;
      names = λ h. absurd (omega arith);
      lengths = λ h. absurd (omega arith);
    } in
    subst (λ n. IsFirstNotesFault bytes (fault.NoLine n)) (sym at_is) (record {
      is = on_line NamesNoLine bytes rows next.count after next.within wrong;
      first = none_before bytes rows next.count 8 next.table after next.taken good (omega arith);
    })
first_of_next bytes rows (fault.Length at) after next =
    let (at_is, wrong, named) = next.not_taken in
    let good : IsGoodBefore (record_at rows next.count) 9 = record {
      columns = λ h not. named (λ line names. not names.columns);
      run = λ h none. named (λ line names. has_run _ _ names none);
      section = λ h none. named (λ line names. has_section _ _ names none);
      names = λ h. named;
      lengths = λ h. absurd (omega arith);
    } in
    subst (λ n. IsFirstNotesFault bytes (fault.Length n)) (sym at_is) (record {
      is = on_line HasNoLength bytes rows next.count after next.within wrong;
      first = none_before bytes rows next.count 9 next.table after next.taken good (omega arith);
    })
first_of_next bytes rows (fault.Repeated at) after next =
    let (at_is, again, lengths) = next.not_taken in
    let good : IsGoodBefore (record_at rows next.count) 10 = record {
      columns = λ h not. not again.names.columns;
      run = λ h. has_run _ _ again.names;
      section = λ h. has_section _ _ again.names;
      names = λ h none. none _ again.names;
      lengths = λ h. lengths;
    } in
    let has =
    on_line (λ (f : Fields). NamesLine f again.line) bytes rows next.count after next.within again.names in
    subst (λ n. IsFirstNotesFault bytes (fault.Repeated n)) (sym at_is) (record {
      is = (
        has.0,
        repeated_is bytes rows next.count again.line after next.within
            (next.taken.named again.line again.before) again.names,
      );
      first = none_before bytes rows next.count 10 next.table after next.taken good (omega arith);
    })
first_of_next bytes rows _ after next = absurd next.not_taken

-- the result if the records of lines were refused
pub answer_refused : (bytes : List ℕ) (rows : List Fields) (is : NotesFault) → AreAfter bytes rows
    → IsLineRefusedAfter rows is → IfSome (refusal_of is) (λ _. IsFirstNotesFault bytes is)
answer_refused bytes rows fault.Memory after refused = tt
answer_refused bytes rows fault.Read after refused = tt
answer_refused bytes rows (fault.Columns at) after refused =
    first_of_next bytes rows (fault.Columns at) after refused
answer_refused bytes rows (fault.Run at) after refused =
    first_of_next bytes rows (fault.Run at) after refused
answer_refused bytes rows (fault.Section at) after refused =
    first_of_next bytes rows (fault.Section at) after refused
answer_refused bytes rows (fault.NoLine at) after refused =
    first_of_next bytes rows (fault.NoLine at) after refused
answer_refused bytes rows (fault.Length at) after refused =
    first_of_next bytes rows (fault.Length at) after refused
answer_refused bytes rows (fault.Repeated at) after refused =
    first_of_next bytes rows (fault.Repeated at) after refused
answer_refused bytes rows _ after refused = absurd refused.not_taken

-- if all records were entered, no record has a fault
not_further : (bytes : List ℕ) (rows : List Fields) (number at own : ℕ) → AreAfter bytes rows
    → at ≤ length (records_of bytes) → IsAfter (length rows + 3) number at own → ⊥
not_further bytes rows number at own after within (inl never) = absurd (omega arith)
not_further bytes rows number at own after within (inr (inl further)) =
    let long : length (records_of bytes) ≡ suc (suc (length rows)) = ap length after.split in
    absurd (omega arith)
not_further bytes rows number at own after within (inr (inr here)) =
    let long : length (records_of bytes) ≡ suc (suc (length rows)) = ap length after.split in
    absurd (omega arith)

-- a line with an entry is named
named_of : (bytes : List ℕ) (rows : List Fields) (table : List (Option Returned)) (line : ℕ)
    → AreAfter bytes rows → AreTaken rows (length rows) table
    → IsSome (entry_of table line) → IsLineNamed (records_of bytes) line
named_of bytes rows table line after taken some =
    let by : IsLineNamedBy rows (length rows) line = taken.named line some in
    let is = on_line (λ (f : Fields). NamesLine f line) bytes rows by.place after by.within by.names in
    (by.place + 3, is.0, is.1)

-- a line without an entry is not named
unnamed_of : (bytes : List ℕ) (rows : List Fields) (table : List (Option Returned)) (line : ℕ)
    → AreAfter bytes rows → AreTaken rows (length rows) table
    → entry_of table line ≡ None → IsLineNamed (records_of bytes) line → ⊥
unnamed_of bytes rows table line after taken none (number, is, names) =
    let at : IsPlaced bytes rows number = placed bytes rows number after is in
    let entry : IsLineTaken (record_at rows at.place) table = taken.each at.place at.within in
    let same : entry.line ≡ line =
    names_one _ _ _ entry.is.names (subst (λ (f : Fields). NamesLine f line) at.is names) in
    absurd (cc (sym entry.taken ∙ ap (λ l. entry_of table l) same ∙ none))

-- of the missing lines, the one with the smallest index is reported
missing_first : (bytes : List ℕ) (rows : List Fields) (table : List (Option Returned)) (line : ℕ)
    → AreAfter bytes rows → AreTaken rows (length rows) table
    → IsLeastMissing table line → (other : NotesFault) → HasFault bytes other
    → IsFrom 1 (length rows + 3) 4 other → IsFrom 2 line 11 other
missing_first bytes rows table line after taken least (fault.Columns at) (_, to, _) from =
    absurd (not_further bytes rows 4 at 4 after to from)
missing_first bytes rows table line after taken least (fault.Run at) ((_, to), _) from =
    absurd (not_further bytes rows 4 at 6 after to from)
missing_first bytes rows table line after taken least (fault.Section at) ((_, to), _) from =
    absurd (not_further bytes rows 4 at 7 after to from)
missing_first bytes rows table line after taken least (fault.NoLine at) ((_, to), _) from =
    absurd (not_further bytes rows 4 at 8 after to from)
missing_first bytes rows table line after taken least (fault.Length at) ((_, to), _) from =
    absurd (not_further bytes rows 4 at 9 after to from)
missing_first bytes rows table line after taken least (fault.Repeated at) ((_, to), _) from =
    absurd (not_further bytes rows 4 at 10 after to from)
missing_first bytes rows table line after taken least (fault.Missing other) (is, not) from =
    elim (cases_lt other line) [
      | inl before ↦ absurd (not (named_of bytes rows table other after taken (least.before other before)))
      | inr over ↦ elim (cases_eq other line) [
        | inl same ↦ inr (inr (refl, sym same, omega arith))
        | inr more ↦ inr (inl (refl, omega arith))
      ]
    ]
missing_first bytes rows table line after taken least fault.TooLarge has from =
    absurd (omega (arith, after.size))
missing_first bytes rows table line after taken least fault.Empty has from =
    absurd (cc (sym after.split ∙ has))
missing_first bytes rows table line after taken least fault.Heading has from =
    absurd (has (rw after.split after.heading_is))
missing_first bytes rows table line after taken least fault.Township has from =
    absurd (has after.township (rw after.split after.township_is))
missing_first bytes rows table line after taken least fault.Read has from = absurd has
missing_first bytes rows table line after taken least fault.Memory has from = absurd has

pub missing_is_first : (bytes : List ℕ) (rows : List Fields) (table : List (Option Returned)) (line : ℕ)
    → AreAfter bytes rows → AreTaken rows (length rows) table
    → IsLeastMissing table line → IsFirstNotesFault bytes (fault.Missing line)
missing_is_first bytes rows table line after taken least =
    let good : IsGoodBefore (record_at rows (length rows)) 4 = record {
      columns = λ h. absurd (omega arith);
      run = λ h. absurd (omega arith);
      section = λ h. absurd (omega arith);
      names = λ h. absurd (omega arith);
      lengths = λ h. absurd (omega arith);
    } in
    record {
      is = (least.is_line, unnamed_of bytes rows table line after taken least.missing);
      first = λ other has. missing_first bytes rows table line after taken least other has
          (none_before bytes rows (length rows) 4 table after taken good (omega arith) other has);
    }

-- only lines have entries
entry_is_line : (table : List (Option Returned)) (line : ℕ) (returned : Returned) → length table ≡ LINE_COUNT
    → entry_of table line ≡ Some returned → IsLine line
entry_is_line table line returned size some = elim (cases_lt line 84) [
  | inl below ↦ below
  | inr over ↦ absurd (cc (sym some ∙ get_or_past table line None (omega arith)))
]

-- if all lines have entries, the records are notes
pub notes_of_table : (bytes : List ℕ) (rows : List Fields) (table : List (Option Returned))
    (lines : List Returned) (after : AreAfter bytes rows)
    → AreTaken rows (length rows) table
    → AreEntries table lines → AreNotes bytes (record { township = after.township; lines = lines })
notes_of_table bytes rows table lines after taken entries = record {
  size = after.size;
  records_are = record {
    heading_is = rw after.split after.heading_is;
    township_is = rw after.split after.township_is;
    each = λ number is.
        let at : IsPlaced bytes rows number = placed bytes rows number after is in
        let entry : IsLineTaken (record_at rows at.place) table = taken.each at.place at.within in
        let line : IsLine entry.line = entry_is_line table entry.line entry.returned taken.size entry.taken in
        let same : entry.returned ≡ slice_index_or lines entry.line nothing_returned =
        cc (sym entry.taken ∙ entries.each entry.line line) in
        (entry.line, rw at.is (rw same at entry.is));
    once = λ number other line is is' names names'.
        let at : IsPlaced bytes rows number = placed bytes rows number after is in
        let at' : IsPlaced bytes rows other = placed bytes rows other after is' in
        let same : at.place ≡ at'.place = taken.once at.place at'.place line at.within at'.within
        (subst (λ (f : Fields). NamesLine f line) at.is names)
        (subst (λ (f : Fields). NamesLine f line) at'.is names') in
        omega (arith, at.number_is, at'.number_is);
    all = λ line is. named_of bytes rows table line after taken (rw (entries.each line is) refl);
    lines = entries.count;
  };
}

-- a failure to read is not a refusal
pub answers_reading : (bytes : List ℕ) (fault : ReadFault) → AnswersNotes bytes (Err (notes_fault_of fault))
answers_reading bytes reading.Read = tt
answers_reading bytes reading.Memory = tt
