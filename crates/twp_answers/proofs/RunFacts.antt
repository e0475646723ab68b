-- What runs read and write, over plain values.
use Rattle.std.proofs.Common.{◌≡◌, ◌≢◌, ℕ, List, [], Option, Some, None, Result, Ok, Err, inl, inr}
use Rattle.std.proofs.Common.{refl, ap, subst, sym, ◌∙◌, Bool, true, false, ◌⊎◌, ◌↔◌}
use Rattle.std.specs.Prelude.{IfOk, IfErr, OnOk, OnErr, IsErrOf, IsOkUnless, is_err, unwrap_or}
use Rattle.std.specs.Io.KnownBytes.{Appends}
use Rattle.twp_grid.specs.Devices.{Tells}
use Rattle.twp_notes.specs.declared.reading.ReadFault.{ReadFault}
use Rattle.twp_notes.specs.declared.reading.ReadFault.TheVariants as reading
use Rattle.twp_answers.specs.steps.PassedFaults.{run_fault_of}
use Rattle.twp_answers.specs.Runs.{AnswerRelation, AnyFailed, AppendsFront, IsAnswered, IsRun}
use Rattle.twp_answers.specs.Uses.{Reads, Use, used}
use Rattle.twp_answers.specs.Runs.{ReadsTwo, RunsOnPlat}
use Rattle.twp_grid.specs.declared.refusal.Refusal.{Refusal}
use Rattle.twp_answers.specs.Answers.{IsNoPlat, IsRefusal, MakePlat}
use Rattle.twp_answers.specs.steps.Stages.{ReadsOnPlat, same_fault}
use Rattle.twp_answers.specs.PlatReading.{IfRefused}
use Rattle.twp_answers.specs.declared.stop.Stop.{Stop}
use Rattle.twp_answers.specs.declared.stop.Stop.TheVariants as stop
use Rattle.twp_answers.specs.declared.stop.RunFault.{RunFault}
use Rattle.twp_answers.specs.declared.stop.RunFault.TheVariants.{Memory, Read, Write}
use Rattle.twp_answers.specs.declared.stop.Verdict.{Verdict}
use Rattle.twp_answers.proofs.OneAnswer.{not_platted}

-- the known bytes of a device, or some bytes if they are not known
pub some_bytes : (told : Option (List ℕ)) → Tells told (unwrap_or told [])
some_bytes None = tt
some_bytes (Some bytes) = refl

-- the known bytes are the only ones
pub told_are : (told : Option (List ℕ)) (bytes other : List ℕ) → told ≡ Some bytes → Tells told other
    → other ≡ bytes
told_are told bytes other is tells = sym (rw is at tells)

-- a fact about the bytes that were read is one about the known bytes
pub told_one : (told : Option (List ℕ)) (bytes : List ℕ) (Holds : List ℕ → Type 0) → Reads told Holds
    → told ≡ Some bytes → Holds bytes
told_one told bytes Holds read is = subst Holds (told_are told bytes read.bytes is read.tells) read.holds

pub told_two : (first second : Option (List ℕ)) (a b : List ℕ) (GoesOn : List ℕ → Type 0) (unread : Type 0)
    (Holds : List ℕ → List ℕ → Type 0)
    → ReadsTwo first second GoesOn unread Holds → first ≡ Some a → second ≡ Some b → Holds a b
told_two first second a b GoesOn unread Holds read is-a is-b =
    let same-a : read.first_bytes ≡ a = told_are first a read.first_bytes is-a read.first_tells in
    let same-b : read.second_bytes ≡ b = told_are second b read.second_bytes is-b read.second_tells in
    subst (λ x. Holds x b) same-a (subst (λ y. Holds read.first_bytes y) same-b read.holds)

pub if_ok : {T E : Type 0} (r : Result T E) (P Q : T → Type 0) → IfOk r P → ((x : T) → P x → Q x) → IfOk r Q
if_ok (Ok x) P Q h f = f x h
if_ok (Err e) P Q h f = tt

-- if the notes stop a run, their refusal is that of both texts
pub refused_of_notes : (n d : List ℕ) (is : Stop) → IfRefused is (IsNoPlat n) → IfRefused is (IsRefusal n d)
refused_of_notes n d (stop.Refused refusal) none = inl none
refused_of_notes n d (stop.Failed fault) none = tt

-- notes that are refused make no plat
pub none_platted : (told : Option (List ℕ)) (n : List ℕ) (refusal : Refusal)
    → Reads told (λ bytes. IsNoPlat bytes refusal)
    → told ≡ Some n → MakePlat n → ⊥
none_platted told n refusal read is makes =
    not_platted n refusal makes.0 (told_one told n (λ bytes. IsNoPlat bytes refusal) read is) makes.1

-- so if the notes make a plat, a run stops only for a fault
pub plat_stops_by_fault : (told : Option (List ℕ)) (n : List ℕ) (by : Stop)
    → Reads told (λ bytes. IfRefused by (IsNoPlat bytes))
    → told ≡ Some n → MakePlat n → by ≢ stop.Failed Read → by ≢ stop.Failed Write → by ≢ stop.Failed Memory
    → ⊥
plat_stops_by_fault told n (stop.Refused refusal) read is makes not_read not_write not_memory =
    none_platted told n refusal read is makes
plat_stops_by_fault told n (stop.Failed Read) read is makes not_read not_write not_memory = not_read refl
plat_stops_by_fault told n (stop.Failed Write) read is makes not_read not_write not_memory = not_write refl
plat_stops_by_fault told n (stop.Failed Memory) read is makes not_read not_write not_memory = not_memory refl

-- an answer was written, or a prefix of it
pub written : (Answers : AnswerRelation) (old new : Option (List ℕ)) (text : List ℕ) (verdict : Verdict)
    (r : Result Verdict RunFault)
    → Answers text verdict
    → IfOk r (λ v. v ≡ verdict) → OnOk r (Appends old new text) → OnErr r (AppendsFront old new text)
    → IfErr r (λ fault. fault ≡ Write) → IsRun Answers old new r
written Answers old new text verdict (Ok v) answer is whole front fault =
    record { answer = text; answers = rw is answer; appended = whole }
written Answers old new text verdict (Err e) answer is whole front fault =
    rw fault (record { answer = text; verdict = verdict; answers = answer; front = front })

-- if the known notes do not lead to the second text, it is not read
pub unread_of : (first second : Option (List ℕ)) (bytes : List ℕ) (GoesOn : List ℕ → Type 0) (unread : Type 0)
    (Holds : List ℕ → List ℕ → Type 0)
    → ReadsTwo first second GoesOn unread Holds → first ≡ Some bytes → (GoesOn bytes → ⊥) → unread
unread_of first second bytes GoesOn unread Holds read is stops =
    unread_or (read.order) where
      unread_or : (GoesOn read.first_bytes ⊎ unread) → unread
      unread_or (inl goes) =
          absurd (stops (subst GoesOn (told_are first bytes read.first_bytes is read.first_tells) goes))
      unread_or (inr left) = left

-- the writer failed, or a verdict was given
pub write_answered : (r : Result Verdict RunFault) (failed : Bool) → IfErr r (λ fault. fault ≡ Write)
    → failed ≡ is_err r → IsErrOf r Write ↔ (failed ≡ true)
write_answered (Ok v) failed by is = ((λ wrong. cc wrong), (λ fails. cc (sym is ∙ fails)))
write_answered (Err e) failed by is = ((λ _. is), (λ _. ap Err by))

-- if the writer did not fail, there is a verdict
pub verdict_given : (r : Result Verdict RunFault) (failed : Bool) → failed ≡ is_err r → failed ≡ false
    → IsOkUnless r Memory
verdict_given (Ok v) failed is holds = tt
verdict_given (Err e) failed is holds = cc (sym is ∙ holds)

-- after an answer was made, no fault is that of a reader
pub read_answered : (r : Result Verdict RunFault) → IfErr r (λ fault. fault ≡ Write) → IsErrOf r Read → ⊥
read_answered (Ok v) by wrong = cc wrong
read_answered (Err e) by wrong = cc (sym (ap Err by) ∙ wrong)

-- an answer that was made, and the fault of one that was not
abbrev pub made : {T : Type 0} → T → Result T RunFault
made answer = Ok answer

abbrev pub unmade : {T : Type 0} → RunFault → Result T RunFault
unmade fault = Err fault

-- a run that had an answer for two texts, and wrote it
pub run_on_plat : {T : Type 0} (answer : T) (Answers : List ℕ → List ℕ → AnswerRelation) (most : ℕ)
    (notes second out : Use) (unread : Type 0)
    (text : List ℕ) (verdict : Verdict) (r : Result Verdict RunFault)
    → ReadsTwo notes.old second.old MakePlat unread (λ n s. Answers n s text verdict)
    → ReadsOnPlat same_fault most notes second unread (made answer)
    → IfOk r (λ v. v ≡ verdict) → OnOk r (Appends out.old out.new text)
    → OnErr r (AppendsFront out.old out.new text)
    → IfErr r (λ fault. fault ≡ Write) → out.has_failed ≡ is_err r
    → RunsOnPlat Answers most notes second out unread r
run_on_plat answer Answers most notes second out unread text verdict r read reads is whole front by failed =
    let none_failed : AnyFailed notes.has_failed second.has_failed → ⊥ = λ any. cc (reads.read.1 any) in
    let wrote : (n s : List ℕ) → Answers n s text verdict → IsRun (Answers n s) out.old out.new r
    = λ n s answers. written (Answers n s) out.old out.new text verdict r answers is whole front by in
    let ran : ReadsTwo notes.old second.old MakePlat unread (λ n s. IsRun (Answers n s) out.old out.new r)
    = record {
      first_bytes = read.first_bytes;
      second_bytes = read.second_bytes;
      first_tells = read.first_tells;
      second_tells = read.second_tells;
      holds = wrote read.first_bytes read.second_bytes read.holds;
      order = read.order;
    } in
    record {
      told = λ n s is-n is-s. told_two notes.old second.old n s MakePlat unread _ ran is-n is-s;
      answers = λ _ _ out_open. verdict_given r out.has_failed failed out_open;
      ran = ran;
      unread = λ n is-n stops. unread_of notes.old second.old n MakePlat unread _ ran is-n stops;
      unread_after_fault = reads.unread_after_fault;
      read = ((λ is. absurd (read_answered r by is)), (λ any. absurd (none_failed any)));
      write = write_answered r out.has_failed by failed;
      notes_most = reads.notes_most;
      second_most = reads.second_most;
      notes_exact = λ notes_open _. reads.notes_exact notes_open (λ wrong. cc wrong);
      second_exact = λ n is-n makes notes_open second_open _.
          reads.second_exact n is-n makes notes_open second_open (λ wrong. cc wrong);
    }

-- a run that stops without an answer, but not because of its writer, has written nothing
nothing_written : (Answers : AnswerRelation) (old : Option (List ℕ)) (fault : RunFault) → fault ≢ Write
    → IsRun Answers old old (Err fault)
nothing_written Answers None Read not_write = tt
nothing_written Answers (Some bytes) Read not_write = refl
nothing_written Answers None Memory not_write = tt
nothing_written Answers (Some bytes) Memory not_write = refl
nothing_written Answers old Write not_write = absurd (not_write refl)

-- if no device failed, it stops because memory ran out
wants_memory : (fault : RunFault) → fault ≢ Read → fault ≢ Write → fault ≡ Memory
wants_memory Read not_read not_write = absurd (not_read refl)
wants_memory Write not_read not_write = absurd (not_write refl)
wants_memory Memory not_read not_write = refl

-- neither device failed
pub none_failed_of : (first second : Bool) → first ≡ false → second ≡ false → AnyFailed first second → ⊥
none_failed_of first second first_open second_open (inl failed) = cc (first_open, failed)
none_failed_of first second first_open second_open (inr failed) = cc (second_open, failed)

-- a run on two texts that stopped before it had an answer
pub run_stopped : {T : Type 0} (Answers : List ℕ → List ℕ → AnswerRelation) (most : ℕ) (notes second : Use)
    (out : Option (List ℕ))
    (out_failed : Bool) (unread : Type 0) (fault : RunFault) (Holds : List ℕ → List ℕ → Type 0)
    → ReadsTwo notes.old second.old MakePlat unread Holds
    → ReadsOnPlat same_fault most notes second unread (unmade {T = T} fault) → out_failed ≡ false
    → RunsOnPlat Answers most notes second (used out out out_failed) unread (Err fault)
run_stopped Answers most notes second out out_failed unread fault Holds read reads out_open =
    let not_write : fault ≢ Write = reads.no_write in
    let ran : ReadsTwo notes.old second.old MakePlat unread (λ n s. IsRun (Answers n s) out out (Err fault))
    = record {
      first_bytes = read.first_bytes;
      second_bytes = read.second_bytes;
      first_tells = read.first_tells;
      second_tells = read.second_tells;
      holds = nothing_written (Answers read.first_bytes read.second_bytes) out fault not_write;
      order = read.order;
    } in
    record {
      told = λ n s is-n is-s. nothing_written (Answers n s) out fault not_write;
      answers = λ notes_open second_open _.
          wants_memory fault (λ is. none_failed_of _ _ notes_open second_open (reads.read.0 (ap Err is)))
          not_write;
      ran = ran;
      unread = λ n is-n stops. unread_of notes.old second.old n MakePlat unread _ ran is-n stops;
      unread_after_fault = reads.unread_after_fault;
      read = ((λ is. reads.read.0 (ap Err (cc is))), (λ any. ap Err (cc (reads.read.1 any))));
      write = ((λ is. absurd (not_write (cc is))), (λ failed. cc (out_open, failed)));
      notes_most = reads.notes_most;
      second_most = reads.second_most;
      notes_exact = λ notes_open not_memory. reads.notes_exact notes_open (λ is. not_memory (ap Err (cc is)));
      second_exact = λ n is-n makes notes_open second_open not_memory.
          reads.second_exact n is-n makes notes_open second_open (λ is. not_memory (ap Err (cc is)));
    }

-- the answer that was given is the only one
pub answered : (Answers : AnswerRelation) (old new : Option (List ℕ)) (answer : List ℕ) (verdict : Verdict)
    (r : Result Verdict RunFault)
    → IsRun Answers old new r
    → ((a : List ℕ) (v : Verdict) → Answers a v → (a ≡ answer) × (v ≡ verdict))
    → IsAnswered old new answer verdict r
answered Answers old new answer verdict (Ok v) is one =
    let same = one is.answer v is.answers in (same.1, subst (λ a. Appends old new a) same.0 is.appended)
answered Answers old new answer verdict (Err e) is one = tt

-- if reading failed, nothing was written
pub keeps_nothing : (Answers : AnswerRelation) (old : Option (List ℕ)) (fault : ReadFault)
    → IsRun Answers old old (Err (run_fault_of fault))
keeps_nothing Answers None reading.Read = tt
keeps_nothing Answers (Some bytes) reading.Read = refl
keeps_nothing Answers None reading.Memory = tt
keeps_nothing Answers (Some bytes) reading.Memory = refl
