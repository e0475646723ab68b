-- What the stages of a run promise about their reading, from stage to stage, and how a stop is
-- answered; over plain values.
use Rattle.std.proofs.Common.{◌≡◌, ◌≢◌, ℕ, ◌+◌, ◌≤◌, List, [], Option, Some, None, Result, Ok, Err}
use Rattle.std.proofs.Common.{refl, ap, Bool, true, false, ◌↔◌, inl, inr, arith}
use Rattle.std.specs.Prelude.{IfOk, IfErr, IsErrOf, unwrap_or}
use Rattle.twp_grid.specs.Devices.{TakesAtMost}
use Rattle.twp_grid.specs.declared.refusal.Refusal.{Refusal}
use Rattle.twp_notes.specs.FieldNotes.{NOTES_MOST}
use Rattle.twp_answers.specs.Answers.{IsNoPlat, refusal_line}
use Rattle.twp_answers.specs.Uses.{Reads, Use, used}
use Rattle.twp_answers.specs.Runs.{AnswerRelation, AnyFailed, ReadsTwo}
use Rattle.twp_answers.specs.PlatReading.{IfRefused, ReadsUpTo}
use Rattle.twp_answers.specs.steps.Stages.{ReadsOnPlat, same_fault}
use Rattle.twp_answers.specs.steps.RunStops.{AnswersStop}
use Rattle.twp_answers.specs.declared.runs.answer.Answer.{Answer}
use Rattle.twp_answers.specs.declared.stop.Stop.{Stop}
use Rattle.twp_answers.specs.declared.stop.Stop.TheVariants as stop
use Rattle.twp_answers.specs.declared.stop.RunFault.{RunFault}
use Rattle.twp_answers.specs.declared.stop.RunFault.TheVariants.{Memory, Read, Write}
use Rattle.twp_answers.specs.declared.stop.Verdict.TheVariants as verdict
use Rattle.twp_answers.proofs.RunFacts.{plat_stops_by_fault, some_bytes}

-- a stage that has a value, and a stage that stopped
abbrev pub had : {T E : Type 0} → T → Result T E
had value = Ok value

abbrev pub stopped : {T E : Type 0} → E → Result T E
stopped by = Err by

-- an answer fails to read exactly if the stage before it did
read_of_stop : {T : Type 0} (by : Stop) (r : Result Answer RunFault) (HasFailed : Type 0)
    → AnswersStop by r
    → IsErrOf (stopped {T = T} by) (stop.Failed Read) ↔ HasFailed → IsErrOf r Read ↔ HasFailed
read_of_stop (stop.Refused refusal) (Ok answer) HasFailed is read =
    ((λ wrong. cc wrong), (λ failed. cc (read.1 failed)))
read_of_stop (stop.Refused refusal) (Err fault) HasFailed is read =
    ((λ wrong. cc (is, wrong)), (λ failed. cc (read.1 failed)))
read_of_stop (stop.Failed fault) (Ok answer) HasFailed is read = absurd is
read_of_stop (stop.Failed fault) (Err answered) HasFailed is read =
    ((λ wrong. read.0 (cc (is, wrong))), (λ failed. cc (is, read.1 failed)))

-- the answer does not fail to write if the stage did not
write_of_stop : (by : Stop) (r : Result Answer RunFault) → AnswersStop by r → by ≢ stop.Failed Write
    → IfErr r (λ fault. fault ≢ Write)
write_of_stop (stop.Refused refusal) (Ok answer) is no_write = tt
write_of_stop (stop.Refused refusal) (Err fault) is no_write = λ wrong. cc (is, wrong)
write_of_stop (stop.Failed fault) (Ok answer) is no_write = absurd is
write_of_stop (stop.Failed fault) (Err answered) is no_write = λ wrong. no_write (cc (is, wrong))

-- if memory did not run out, the stage did not stop because of memory
memory_of_stop : {T : Type 0} (by : Stop) (r : Result Answer RunFault) → AnswersStop by r → r ≢ Err Memory
    → stopped {T = T} by ≢ Err (stop.Failed Memory)
memory_of_stop (stop.Refused refusal) r is not_memory wrong = cc wrong
memory_of_stop (stop.Failed fault) (Ok answer) is not_memory wrong = absurd is
memory_of_stop (stop.Failed fault) (Err answered) is not_memory wrong = not_memory (cc (is, wrong))

-- the answer for a stop promises what the stage that stopped did, for one source
pub stopped_up_to : {T : Type 0} (most : ℕ) (source : Use) (by : Stop) (r : Result Answer RunFault)
    → ReadsUpTo stop.Failed most source (stopped {T = T} by) → AnswersStop by r
    → ReadsUpTo same_fault most source r
stopped_up_to {T = T} most source by r reads is = record {
  read = read_of_stop {T = T} by r (source.has_failed ≡ true) is reads.read;
  no_write = write_of_stop by r is reads.no_write;
  most_is = reads.most_is;
  exact = λ open_ not_memory. reads.exact open_ (memory_of_stop {T = T} by r is not_memory);
}

-- and for the notes and a second text
pub stopped_on_plat : {T : Type 0} (most : ℕ) (notes second : Use) (unread : Type 0) (by : Stop)
    (r : Result Answer RunFault)
    → ReadsOnPlat stop.Failed most notes second unread (stopped {T = T} by) → AnswersStop by r
    → ReadsOnPlat same_fault most notes second unread r
stopped_on_plat {T = T} most notes second unread by r reads is = record {
  read = read_of_stop {T = T} by r (AnyFailed notes.has_failed second.has_failed) is reads.read;
  unread_after_fault = reads.unread_after_fault;
  no_write = write_of_stop by r is reads.no_write;
  notes_most = reads.notes_most;
  second_most = reads.second_most;
  notes_exact =
      λ notes_open not_memory. reads.notes_exact notes_open (memory_of_stop {T = T} by r is not_memory);
  second_exact = λ n told makes notes_open second_open not_memory.
      reads.second_exact n told makes notes_open second_open (memory_of_stop {T = T} by r is not_memory);
}

-- an answer that can fail only because memory runs out
memory_reads : (r : Result Answer RunFault) → IfErr r (λ fault. fault ≡ Memory) → IsErrOf r Read → ⊥
memory_reads (Ok answer) memory wrong = cc wrong
memory_reads (Err fault) memory wrong = cc (memory, wrong)

memory_writes : (r : Result Answer RunFault) → IfErr r (λ fault. fault ≡ Memory)
    → IfErr r (λ fault. fault ≢ Write)
memory_writes (Ok answer) memory = tt
memory_writes (Err fault) memory = λ wrong. cc (memory, wrong)

-- it promises what the stage did that had the value it is made from
pub accepted_up_to : {T : Type 0} (most : ℕ) (source : Use) (value : T) (r : Result Answer RunFault)
    → ReadsUpTo stop.Failed most source (had value) → IfErr r (λ fault. fault ≡ Memory)
    → ReadsUpTo same_fault most source r
accepted_up_to most source value r reads memory = record {
  read = ((λ is. absurd (memory_reads r memory is)), (λ failed. cc (reads.read.1 failed)));
  no_write = memory_writes r memory;
  most_is = reads.most_is;
  exact = λ open_ _. reads.exact open_ (λ wrong. cc wrong);
}

pub accepted_on_plat : {T : Type 0} (most : ℕ) (notes second : Use) (unread : Type 0) (value : T)
    (r : Result Answer RunFault)
    → ReadsOnPlat stop.Failed most notes second unread (had value) → IfErr r (λ fault. fault ≡ Memory)
    → ReadsOnPlat same_fault most notes second unread r
accepted_on_plat most notes second unread value r reads memory = record {
  read = ((λ is. absurd (memory_reads r memory is)), (λ failed. cc (reads.read.1 failed)));
  unread_after_fault = reads.unread_after_fault;
  no_write = memory_writes r memory;
  notes_most = reads.notes_most;
  second_most = reads.second_most;
  notes_exact = λ notes_open _. reads.notes_exact notes_open (λ wrong. cc wrong);
  second_exact =
      λ n told makes notes_open second_open _.
      reads.second_exact n told makes notes_open second_open (λ wrong. cc wrong);
}

-- the same for any value and for any stop
pub other_value : {T U : Type 0} (most : ℕ) (notes second : Use) (unread : Type 0) (value : T) (other : U)
    → ReadsOnPlat stop.Failed most notes second unread (had value)
    → ReadsOnPlat stop.Failed most notes second unread (had other)
other_value most notes second unread value other reads = record {
  read = ((λ wrong. cc wrong), (λ failed. cc (reads.read.1 failed)));
  unread_after_fault = reads.unread_after_fault;
  no_write = tt;
  notes_most = reads.notes_most;
  second_most = reads.second_most;
  notes_exact = λ notes_open _. reads.notes_exact notes_open (λ wrong. cc wrong);
  second_exact =
      λ n told makes notes_open second_open _.
      reads.second_exact n told makes notes_open second_open (λ wrong. cc wrong);
}

pub other_stop : {T U : Type 0} (most : ℕ) (notes second : Use) (unread : Type 0) (by : Stop)
    → ReadsOnPlat stop.Failed most notes second unread (stopped {T = T} by)
    → ReadsOnPlat stop.Failed most notes second unread (stopped {T = U} by)
other_stop most notes second unread by reads = record {
  read = ((λ is. reads.read.0 (ap Err (cc is))), (λ failed. ap Err (cc (reads.read.1 failed))));
  unread_after_fault = reads.unread_after_fault;
  no_write = reads.no_write;
  notes_most = reads.notes_most;
  second_most = reads.second_most;
  notes_exact = λ notes_open not_memory. reads.notes_exact notes_open (λ is. not_memory (ap Err (cc is)));
  second_exact = λ n told makes notes_open second_open not_memory.
      reads.second_exact n told makes notes_open second_open (λ is. not_memory (ap Err (cc is)));
}

-- no bytes are taken from a source that is not read
takes_nothing : (told : Option (List ℕ)) (most : ℕ) → TakesAtMost told told most
takes_nothing None most = let least : 0 ≤ most = omega arith in ([], tt, least)
takes_nothing (Some bytes) most = let least : 0 ≤ most = omega arith in ([], refl, least)

-- if the notes stop a run, the second text is not read
pub first_stopped : {T U : Type 0} (most : ℕ) (notes : Use) (second : Option (List ℕ)) (second_failed : Bool)
    (unread : Type 0) (by : Stop)
    → ReadsUpTo stop.Failed NOTES_MOST notes (stopped {T = T} by)
    → Reads notes.old (λ n. IfRefused by (IsNoPlat n)) → second_failed ≡ false → unread
    → ReadsOnPlat stop.Failed most notes (used second second second_failed) unread (stopped {T = U} by)
first_stopped {T = T} {U = U} most notes second second_failed unread by reads plat second_open left =
    let fails : AnyFailed notes.has_failed second_failed → stopped {T = U} by ≡ Err (stop.Failed Read) =
    of_any in
    record {
      read = ((λ is. inl (reads.read.0 (ap Err (cc is)))), fails);
      unread_after_fault = λ _. left;
      no_write = reads.no_write;
      notes_most = reads.most_is;
      second_most = takes_nothing second (most + 1);
      notes_exact = λ notes_open not_memory. reads.exact notes_open (λ is. not_memory (ap Err (cc is)));
      second_exact = λ n told makes notes_open _ not_memory.
          absurd (plat_stops_by_fault notes.old n by plat told makes (λ is.
          cc (reads.read.0 (ap Err is), notes_open)) reads.no_write
          (λ is. not_memory (ap Err is)));
    }
  where
    of_any : AnyFailed notes.has_failed second_failed → stopped {T = U} by ≡ Err (stop.Failed Read)
    of_any (inl failed) = ap Err (cc (reads.read.1 failed))
    of_any (inr failed) = cc (second_open, failed)

-- if they make a plat, it is read
pub second_read : {P T E : Type 0} (passed_on : RunFault → E) (most : ℕ) (notes second : Use)
    (unread : Type 0) (plat : P) (r : Result T E)
    → ReadsUpTo stop.Failed NOTES_MOST notes (had {E = Stop} plat) → ReadsUpTo passed_on most second r
    → ReadsOnPlat passed_on most notes second unread r
second_read passed_on most notes second unread plat r first then =
    record {
      read = ((λ is. inr (then.read.0 is)), of_any);
      unread_after_fault = λ failed. cc (first.read.1 failed);
      no_write = then.no_write;
      notes_most = first.most_is;
      second_most = then.most_is;
      notes_exact = λ notes_open _. first.exact notes_open (λ wrong. cc wrong);
      second_exact = λ n told makes notes_open second_open not_memory. then.exact second_open not_memory;
    }
  where
    of_any : AnyFailed notes.has_failed second.has_failed → IsErrOf r (passed_on Read)
    of_any (inl failed) = cc (first.read.1 failed)
    of_any (inr failed) = then.read.1 failed

-- if a run stops with a refusal, the answer gives it
pub refused_answer : (Is : Refusal → Type 0) (Answers : AnswerRelation) (by : Stop)
    (r : Result Answer RunFault)
    → IfRefused by Is → AnswersStop by r
    → ((refusal : Refusal) → Is refusal → Answers (refusal_line refusal) (verdict.Refused refusal))
    → IfOk r (λ answer. Answers answer.text.items answer.verdict)
refused_answer Is Answers (stop.Refused refusal) (Ok answer) holds is answers =
    rw (is.0, is.1) (answers refusal holds)
refused_answer Is Answers (stop.Refused refusal) (Err fault) holds is answers = tt
refused_answer Is Answers (stop.Failed fault) (Ok answer) holds is answers = absurd is
refused_answer Is Answers (stop.Failed fault) (Err answered) holds is answers = tt

-- so for two texts, the second of which may not be read
pub refused_of_two : (first second : Option (List ℕ)) (GoesOn : List ℕ → Type 0) (unread : Type 0)
    (Is : List ℕ → List ℕ → Refusal → Type 0)
    (Answers : List ℕ → List ℕ → AnswerRelation) (by : Stop) (r : Result Answer RunFault)
    → ReadsTwo first second GoesOn unread (λ n s. IfRefused by (Is n s)) → AnswersStop by r
    → ((n s : List ℕ) (refusal : Refusal) → Is n s refusal
    → Answers n s (refusal_line refusal) (verdict.Refused refusal))
    → ReadsTwo first second GoesOn unread
    (λ n s. IfOk r (λ answer. Answers n s answer.text.items answer.verdict))
refused_of_two first second GoesOn unread Is Answers by r read is answers = record {
  first_bytes = read.first_bytes;
  second_bytes = read.second_bytes;
  first_tells = read.first_tells;
  second_tells = read.second_tells;
  holds =
      refused_answer (Is read.first_bytes read.second_bytes) (Answers read.first_bytes read.second_bytes) by r
      read.holds is
      (answers read.first_bytes read.second_bytes);
  order = read.order;
}

pub refused_of_first : (first second : Option (List ℕ)) (GoesOn : List ℕ → Type 0) (unread : Type 0)
    (Is : List ℕ → Refusal → Type 0)
    (Answers : List ℕ → List ℕ → AnswerRelation) (by : Stop) (r : Result Answer RunFault)
    → Reads first (λ n. IfRefused by (Is n)) → AnswersStop by r
    → ((n s : List ℕ) (refusal : Refusal) → Is n refusal
    → Answers n s (refusal_line refusal) (verdict.Refused refusal))
    → unread
    → ReadsTwo first second GoesOn unread
    (λ n s. IfOk r (λ answer. Answers n s answer.text.items answer.verdict))
refused_of_first first second GoesOn unread Is Answers by r read is answers left = record {
  first_bytes = read.bytes;
  second_bytes = unwrap_or second [];
  first_tells = read.tells;
  second_tells = some_bytes second;
  holds = refused_answer (Is read.bytes) (Answers read.bytes (unwrap_or second [])) by r read.holds is
      (answers read.bytes (unwrap_or second []));
  order = inr left;
}

-- and so for one text
pub refused_of_one : (first : Option (List ℕ)) (Is : List ℕ → Refusal → Type 0)
    (Answers : List ℕ → AnswerRelation) (by : Stop)
    (r : Result Answer RunFault) → Reads first (λ n. IfRefused by (Is n)) → AnswersStop by r
    → ((n : List ℕ) (refusal : Refusal) → Is n refusal
    → Answers n (refusal_line refusal) (verdict.Refused refusal))
    → Reads first (λ n. IfOk r (λ answer. Answers n answer.text.items answer.verdict))
refused_of_one first Is Answers by r read is answers = record {
  bytes = read.bytes;
  tells = read.tells;
  holds = refused_answer (Is read.bytes) (Answers read.bytes) by r read.holds is (answers read.bytes);
}

-- the answer for a refusal is its line, unless memory runs out
pub answers_refusal : (refusal : Refusal) (r : Result Answer RunFault)
    → IfOk r
    (λ answer. (answer.text.items ≡ refusal_line refusal) × (answer.verdict ≡ verdict.Refused refusal))
    → IfErr r (λ fault. fault ≡ Memory) → AnswersStop (stop.Refused refusal) r
answers_refusal refusal (Ok answer) is memory = is
answers_refusal refusal (Err fault) is memory = memory
