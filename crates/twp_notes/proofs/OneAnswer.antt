-- The same bytes always give one answer: notes are for one township and return one pair of
-- distances for each line, notes have no fault, and only one fault is the first.
use Rattle.std.proofs.Common.{◌≡◌, ◌≢◌, ◌==◌, ◌⊎◌, ℕ, ◌<◌, ◌≤◌, List, length, get_or, Option, Some}
use Rattle.std.proofs.Common.{None, IsSome, IfSome, Ok, Err, inl, inr, refl, ap, subst, sym, ◌∙◌}
use Rattle.std.proofs.Common.{arith, if◌then◌else◌}
use Rattle.std.proofs.lemmas.Bool.{cases_eq}
use Rattle.std.proofs.lemmas.List.{ext_get_or}
use Rattle.twp_measure.proofs.LengthFacts.{one_length}
use Rattle.twp_grid.specs.Townships.{Designation}
use Rattle.twp_grid.specs.declared.township.NorthSouth.{NorthSouth}
use Rattle.twp_grid.specs.declared.township.NorthSouth.TheVariants as ns
use Rattle.twp_grid.specs.declared.township.EastWest.{EastWest}
use Rattle.twp_grid.specs.declared.township.EastWest.TheVariants as ew
use Rattle.twp_notes.specs.Records.{Fields, record_numbered, records_of}
use Rattle.twp_notes.specs.FieldNotes.{FieldNotes, FIELDS, nothing_returned, returned_of}
use Rattle.twp_grid.specs.Townships.{north_south_letter, east_west_letter}
use Rattle.twp_notes.specs.FieldNotes.{IsTownshipRecord}
use Rattle.twp_notes.specs.FieldNotes.{IsLineNumber, IsLineRecord, AreNotes}
use Rattle.twp_notes.specs.NotesFaults.{HasFault, IsFirstNotesFault, AnswersNotes, number_of, place_of}
use Rattle.twp_notes.specs.NotesFaults.{refusal_of}
use Rattle.twp_notes.specs.Laws.{IsNotesAnswer, OneAnswer}
use Rattle.twp_notes.specs.declared.fault.NotesFault.{NotesFault}
use Rattle.twp_notes.specs.declared.fault.NotesFault.TheVariants as fault
use Rattle.twp_notes.specs.declared.parsing.Returned.{Returned}
use Rattle.twp_notes.proofs.FieldFacts.{same_returned, has_lengths}
use Rattle.twp_notes.proofs.NameFacts.{names_one, has_run, has_section}

-- a letter differs from the others
other_letter : (a b x y : ℕ) → a ≡ x → b ≡ y → x < y → a ≡ b → ⊥
other_letter a b x y is-a is-b below e = omega arith

one_side : (a b : NorthSouth) → north_south_letter a ≡ north_south_letter b → a ≡ b
one_side ns.N ns.N e = refl
one_side ns.S ns.S e = refl
one_side ns.N ns.S e =
    absurd (other_letter _ _ 78 83 refl refl (omega arith) (ap (λ text. get_or text 0 0) e))
one_side ns.S ns.N e =
    absurd (other_letter _ _ 78 83 refl refl (omega arith) (sym (ap (λ text. get_or text 0 0) e)))

one_hand : (a b : EastWest) → east_west_letter a ≡ east_west_letter b → a ≡ b
one_hand ew.E ew.E e = refl
one_hand ew.W ew.W e = refl
one_hand ew.E ew.W e =
    absurd (other_letter _ _ 69 87 refl refl (omega arith) (ap (λ text. get_or text 0 0) e))
one_hand ew.W ew.E e =
    absurd (other_letter _ _ 69 87 refl refl (omega arith) (sym (ap (λ text. get_or text 0 0) e)))

one_township : (fields : Fields) (a b : Designation) → IsTownshipRecord fields a → IsTownshipRecord fields b
    → a ≡ b
one_township fields a b is-a is-b =
    let number : a.number ≡ b.number = is-a.number.0.value ∙ sym is-b.number.0.value in
    let side : a.north_south ≡ b.north_south = one_side _ _ (sym is-a.north_south ∙ is-b.north_south) in
    let range : a.range ≡ b.range = is-a.range.0.value ∙ sym is-b.range.0.value in
    let hand : a.east_west ≡ b.east_west = one_hand _ _ (sym is-a.east_west ∙ is-b.east_west) in
    rw (number, side, range, hand) refl

-- a record returns only one pair of lengths
one_return : (fields : Fields) (line : ℕ) (a b : Returned) → IsLineRecord fields line a
    → IsLineRecord fields line b → a ≡ b
one_return fields line a b is-a is-b =
    same_returned a b (one_length _ _ _ is-a.returns.quarter is-b.returns.quarter)
    (one_length _ _ _ is-a.returns.corner is-b.returns.corner)

-- the entry for a line in notes of these bytes is what its record returns
has_of : (bytes : List ℕ) (notes : FieldNotes) (line number : ℕ) → AreNotes bytes notes
    → IsLineNumber (records_of bytes) number
    → (line' : ℕ) → IsLineRecord (record_numbered (records_of bytes) number) line' (returned_of notes line')
    → line' ≡ line → IsLineRecord (record_numbered (records_of bytes) number) line (returned_of notes line)
has_of bytes notes line number are is line' record_is same =
    subst (λ l. IsLineRecord (record_numbered (records_of bytes) number) l (returned_of notes l)) same
    record_is

-- the same bytes are always the same notes
pub one_notes : (bytes : List ℕ) (a b : FieldNotes) → AreNotes bytes a → AreNotes bytes b → a ≡ b
one_notes bytes a b are-a are-b =
    let township : a.township ≡ b.township =
    one_township _ _ _ are-a.records_are.township_is are-b.records_are.township_is in
    let lines : a.lines ≡ b.lines =
    ext_get_or nothing_returned a.lines b.lines (are-a.records_are.lines ∙ sym are-b.records_are.lines)
    (λ line below.
    let long : length a.lines ≡ 84 = are-a.records_are.lines in
    let (number, is, names) = are-a.records_are.all line (omega arith) in
    let (line-a, is-a) = are-a.records_are.each number is in
    let (line-b, is-b) = are-b.records_are.each number is in
    one_return (record_numbered (records_of bytes) number) line (returned_of a line) (returned_of b line)
    (has_of bytes a line number are-a is line-a is-a (names_one _ _ _ is-a.names names))
    (has_of bytes b line number are-b is line-b is-b (names_one _ _ _ is-b.names names))) in
    rw (township, lines) refl

-- notes have no fault
pub no_fault : (bytes : List ℕ) (notes : FieldNotes) (other : NotesFault) → AreNotes bytes notes
    → HasFault bytes other → ⊥
no_fault bytes notes fault.TooLarge are has = omega (arith, are.size)
no_fault bytes notes fault.Empty are has =
    let (number, is, names) = are.records_are.all 0 (omega arith) in
    let none : length (records_of bytes) ≡ 0 = ap length has in
    omega (arith, is.0, is.1)
no_fault bytes notes fault.Heading are has = has are.records_are.heading_is
no_fault bytes notes (fault.Columns number) are (from, to, wrong) = elim (cases_eq number 2) [
  | inl second ↦
      subst (λ n. length (record_numbered (records_of bytes) n) ≢ FIELDS) second wrong
      are.records_are.township_is.columns
  | inr line ↦ wrong (are.records_are.each number (omega arith, to)).1.names.columns
]
no_fault bytes notes fault.Township are has = has notes.township are.records_are.township_is
no_fault bytes notes (fault.Run number) are (is, bad) =
    has_run _ _ (are.records_are.each number is).1.names bad
no_fault bytes notes (fault.Section number) are (is, bad) =
    has_section _ _ (are.records_are.each number is).1.names bad
no_fault bytes notes (fault.NoLine number) are (is, bad) = bad _ (are.records_are.each number is).1.names
no_fault bytes notes (fault.Length number) are (is, bad) =
    has_lengths _ _ (are.records_are.each number is).1.returns bad
no_fault bytes notes (fault.Repeated number) are (is, again) =
    let same : again.earlier ≡ number =
    are.records_are.once again.earlier number again.line again.earlier_is_of_a_line is again.earlier_names
    again.names in
    omega (arith, again.is_earlier)
no_fault bytes notes (fault.Missing line) are (is, none) = none (are.records_are.all line is)
no_fault bytes notes fault.Read are has = has
no_fault bytes notes fault.Memory are has = has

-- the fault with a number and a place
fault_at : ℕ → ℕ → NotesFault
fault_at number place =
    if number == 1 then fault.TooLarge else if number == 2 then fault.Empty else if number
    == 3 then fault.Heading
    else if number == 4 then fault.Columns place else if number == 5 then fault.Township else if number
    == 6 then fault.Run place
    else if number == 7 then fault.Section place else if number == 8 then fault.NoLine place
    else if number == 9 then fault.Length place else if number
    == 10 then fault.Repeated place else fault.Missing place

fault_back : (bytes : List ℕ) (is : NotesFault) → HasFault bytes is
    → fault_at (number_of is) (place_of is) ≡ is
unfolding fault_at
fault_back bytes fault.TooLarge has = refl
fault_back bytes fault.Empty has = refl
fault_back bytes fault.Heading has = refl
fault_back bytes (fault.Columns number) has = refl
fault_back bytes fault.Township has = refl
fault_back bytes (fault.Run number) has = refl
fault_back bytes (fault.Section number) has = refl
fault_back bytes (fault.NoLine number) has = refl
fault_back bytes (fault.Length number) has = refl
fault_back bytes (fault.Repeated number) has = refl
fault_back bytes (fault.Missing line) has = refl
fault_back bytes fault.Read has = absurd has
fault_back bytes fault.Memory has = absurd has

-- faults that precede each other have the same number and place
same_rank : (s p n s' p' n' : ℕ) → (s < s') ⊎ ((s ≡ s') × (p < p')) ⊎ ((s ≡ s') × (p ≡ p') × (n ≤ n'))
    → (s' < s) ⊎ ((s' ≡ s) × (p' < p)) ⊎ ((s' ≡ s) × (p' ≡ p) × (n' ≤ n)) → (n ≡ n') × (p ≡ p')
same_rank s p n s' p' n' (inl a) (inl b) = absurd (omega arith)
same_rank s p n s' p' n' (inl a) (inr (inl b)) = absurd (omega arith)
same_rank s p n s' p' n' (inl a) (inr (inr b)) = absurd (omega arith)
same_rank s p n s' p' n' (inr (inl a)) (inl b) = absurd (omega arith)
same_rank s p n s' p' n' (inr (inl a)) (inr (inl b)) = absurd (omega arith)
same_rank s p n s' p' n' (inr (inl a)) (inr (inr b)) = absurd (omega arith)
same_rank s p n s' p' n' (inr (inr a)) (inl b) = absurd (omega arith)
same_rank s p n s' p' n' (inr (inr a)) (inr (inl b)) = absurd (omega arith)
same_rank s p n s' p' n' (inr (inr a)) (inr (inr b)) = (omega arith, omega arith)

-- only one fault is the first
pub one_first : (bytes : List ℕ) (a b : NotesFault) → IsFirstNotesFault bytes a → IsFirstNotesFault bytes b
    → a ≡ b
one_first bytes a b is-a is-b =
    let same = same_rank _ _ _ _ _ _ (is-a.first b is-b.is) (is-b.first a is-a.is) in
    sym (fault_back bytes a is-a.is) ∙ rw (same.0, same.1) refl ∙ fault_back bytes b is-b.is

if_some : {A : Type 0} (o : Option A) (P : Type 0) → IfSome o (λ _. P) → IsSome o → P
if_some (Some x) P h some = h
if_some None P h some = cc some

-- a numbered fault is the first
is_first : (bytes : List ℕ) (is : NotesFault) → AnswersNotes bytes (Err is) → IsNotesAnswer (Err is)
    → IsFirstNotesFault bytes is
is_first bytes is answers numbered = if_some (refusal_of is) _ answers numbered

pub one_answer : OneAnswer
one_answer bytes (Ok a) (Ok b) are-a are-b _ _ = ap (λ notes. Ok notes) (one_notes bytes a b are-a are-b)
one_answer bytes (Err a) (Err b) is-a is-b numbered-a numbered-b =
    ap (λ fault. Err fault)
    (one_first bytes a b (is_first bytes a is-a numbered-a) (is_first bytes b is-b numbered-b))
one_answer bytes (Ok a) (Err b) are-a is-b _ numbered-b =
    absurd (no_fault bytes a b are-a (is_first bytes b is-b numbered-b).is)
one_answer bytes (Err a) (Ok b) is-a are-b numbered-a _ =
    absurd (no_fault bytes b a are-b (is_first bytes a is-a numbered-a).is)
