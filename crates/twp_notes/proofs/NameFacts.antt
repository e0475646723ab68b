-- A record names at most one line, and a record that names a line has none of the faults of a name.
use Rattle.std.proofs.Common.{◌≡◌, ℕ, List, [], get_or, Option, Some, None, inl, inr, refl, ap, sym}
use Rattle.std.proofs.Common.{◌∙◌, arith}
use Rattle.twp_grid.specs.declared.line.Run.{Run}
use Rattle.twp_grid.specs.declared.line.Run.TheVariants as run
use Rattle.twp_grid.proofs.LineFacts.{one_line}
use Rattle.twp_notes.specs.Records.{Fields, field}
use Rattle.twp_notes.specs.FieldNotes.{run_text, IsSectionNumber, IsNeighborText, NamesLine}
use Rattle.twp_notes.specs.NotesFaults.{HasNoRun, HasNoSection}
use Rattle.twp_notes.specs.declared.fault.NotesFault.{NotesFault}
use Rattle.twp_notes.specs.declared.fault.NotesFault.TheVariants as fault
use Rattle.twp_notes.specs.steps.LineFaults.{IsUnnamed}

-- N is not W
other_letter : (n w : ℕ) → n ≡ 78 → w ≡ 87 → n ≡ w → ⊥
other_letter n w is-n is-w e = omega arith

one_run : (a b : Run) → run_text a ≡ run_text b → a ≡ b
one_run run.North run.North e = refl
one_run run.North run.West e = absurd (other_letter _ _ refl refl (ap (λ text. get_or text 0 0) e))
one_run run.West run.North e = absurd (other_letter _ _ refl refl (sym (ap (λ text. get_or text 0 0) e)))
one_run run.West run.West e = refl

one_section : (text : List ℕ) (a b : ℕ) → IsSectionNumber text a → IsSectionNumber text b → a ≡ b
one_section text a b is is' = is.0.value ∙ sym is'.0.value

-- an empty field is not a section's number
not_section : (section : ℕ) → IsSectionNumber [] section → ⊥
not_section section is = omega (arith, is.0.numeral.0)

one_neighbor : (text : List ℕ) (a b : Option ℕ) → IsNeighborText text a → IsNeighborText text b → a ≡ b
one_neighbor text None None is is' = refl
one_neighbor text (Some a) (Some b) is is' = ap (λ n. Some n) (one_section text a b is is')
one_neighbor text None (Some b) is is' = absurd (not_section b (rw is at is'))
one_neighbor text (Some a) None is is' = absurd (not_section a (rw is' at is))

-- a record names at most one line
pub names_one : (fields : Fields) (line line' : ℕ) → NamesLine fields line → NamesLine fields line'
    → line ≡ line'
names_one fields line line' is is' =
    let same_run : is'.run ≡ is.run = one_run is'.run is.run (sym is'.run_is ∙ is.run_is) in
    let same_section : is'.section ≡ is.section =
    one_section (field fields 1) is'.section is.section is'.section_is is.section_is in
    let same_other : is'.other ≡ is.other =
    one_neighbor (field fields 2) is'.other is.other is'.other_is is.other_is in
    one_line is.run is.section is.other line line' is.line_is
    (rw (same_run, same_section, same_other) at is'.line_is)

-- a record that names a line has a run and sections
pub has_run : (fields : Fields) (line : ℕ) → NamesLine fields line → HasNoRun fields → ⊥
has_run fields line names none = none names.run names.run_is

pub has_section : (fields : Fields) (line : ℕ) → NamesLine fields line → HasNoSection fields → ⊥
has_section fields line names (inl none) = none names.section names.section_is
has_section fields line names (inr none) = none names.other names.other_is

-- a record with a fault in its name names no line
pub names_none : (fields : Fields) (number : ℕ) (why : NotesFault) → IsUnnamed fields number why
    → (line : ℕ) → NamesLine fields line → ⊥
names_none fields number (fault.Run at) is line names = has_run fields line names is.1
names_none fields number (fault.Section at) is line names = has_section fields line names is.1
names_none fields number (fault.NoLine at) is line names = is.1 line names
names_none fields number fault.TooLarge is line names = is
names_none fields number fault.Empty is line names = is
names_none fields number fault.Heading is line names = is
names_none fields number (fault.Columns at) is line names = is
names_none fields number fault.Township is line names = is
names_none fields number (fault.Length at) is line names = is
names_none fields number (fault.Repeated at) is line names = is
names_none fields number (fault.Missing at) is line names = is
names_none fields number fault.Read is line names = is
names_none fields number fault.Memory is line names = is
