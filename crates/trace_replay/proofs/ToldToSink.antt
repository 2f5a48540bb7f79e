-- What is said and written of an outcome once it was told to a sink.
use Rattle.std.proofs.Common.{◌≡◌, ◌≢◌, ◌≤◌, ◌<◌, ◌⊎◌, inl, inr, ℕ, List, ◌++◌, length, Option, Some, None, refl, sym, ◌∙◌, subst, arith}
use Rattle.report_text.specs.declared.faults.Fault.TheVariants as fault
use Rattle.trace_text.specs.Reading.{Reading}
use Rattle.trace_text.specs.Grammar.{IsTraceOf}
use Rattle.report_text.specs.Report.{fault_line}
use Rattle.trace_text.proofs.Exclusive.{one_trace, trace_or_bad}
use Rattle.trace_text.proofs.ReadLayouts.{stands_or_refused}
use Rattle.trace_replay.specs.Streams.{RoseByOne}
use Rattle.trace_replay.specs.declared.answer.Outcome.{Outcome}
use Rattle.trace_replay.specs.declared.status.Status.{Status}
use Rattle.trace_replay.specs.declared.status.Status.TheVariants.{Done, BadTrace, BadLayout, Usage, OutOfMemory, ReadFault, WriteFault, TooLong}
use Rattle.trace_replay.specs.Headline.{HasLayout, Shows, Writes, IsWritten, IsRead, Answers, HasRoomFor, IsTold, EndsAs, IsSilent, most_bytes}
use Rattle.trace_replay.specs.Commands.{IsSaid, IsMadeOf, Replays, TellsFaults}

-- a source that gave too many bytes

pub too_long_writes : (shows : Shows) (bytes : List ℕ) (o : Outcome) → o.status ≡ TooLong → o.text ≡ fault_line fault.Length → most_bytes < length bytes → Writes shows bytes o.status o.text
too_long_writes shows bytes o e text long = subst (λ s. Writes shows bytes s o.text) (sym e) (long, text)

pub too_long_reads : (bytes : List ℕ) (o : Outcome) (left : Option (List ℕ)) → o.status ≡ TooLong → IsRead bytes o.status left
too_long_reads bytes o left e = subst (λ s. IsRead bytes s left) (sym e) tt

pub room_for : (shows : Shows) (left : Option (List ℕ)) (room : Option ℕ) (status : Status) (text : List ℕ) → HasRoomFor shows left room → ((bytes : List ℕ) → left ≡ Some bytes → Writes shows bytes status text) → (x : ℕ) → room ≡ Some x → length text ≤ x
room_for shows left None status text h w x e = cc
room_for shows None (Some room) status text h w x e = absurd h
room_for shows (Some bytes) (Some room) status text h w x e =
    let same : room ≡ x = cc in
    let low = h status text (w bytes refl) in
    omega arith

written_whole : (shows : Shows) (bytes before : List ℕ) (status : Status) (text : List ℕ) (after : Option (List ℕ)) → Writes shows bytes status text → after ≡ Some (before ++ text) → IsWritten shows bytes status before after
written_whole shows bytes before Done text after w is = (text, w, is)
written_whole shows bytes before (BadTrace line) text after w is = (text, w, is)
written_whole shows bytes before (BadLayout error) text after w is = (text, w, is)
written_whole shows bytes before TooLong text after w is = (text, w, is)
written_whole shows bytes before Usage text after w is = absurd w
written_whole shows bytes before OutOfMemory text after w is = absurd w
written_whole shows bytes before ReadFault text after w is = absurd w
written_whole shows bytes before WriteFault text after w is = absurd w

pub written : (shows : Shows) (bytes before : List ℕ) (status : Status) (text : List ℕ) (answer : Status) (first after : Option (List ℕ)) (b n : ℕ) → Writes shows bytes status text → IsTold status text answer first after b n → first ≡ Some before
    → IsWritten shows bytes answer before after
written shows bytes before status text answer first after b n w (inl told) is = subst (λ s. IsWritten shows bytes s before after) (sym told.0) (written_whole shows bytes before status text after w (told.1 before is))
written shows bytes before status text answer first after b n w (inr failed) is =
    let (k, prefix) = failed.2 before is in
    subst (λ s. IsWritten shows bytes s before after) (sym failed.0) (status, text, k, w, prefix)

answers_whole : (shows : Shows) (bytes : List ℕ) (status : Status) (text : List ℕ) → Writes shows bytes status text → Answers shows bytes status
answers_whole shows bytes Done text w = (text, w)
answers_whole shows bytes (BadTrace line) text w = (text, w)
answers_whole shows bytes (BadLayout error) text w = (text, w)
answers_whole shows bytes TooLong text w = (text, w)
answers_whole shows bytes Usage text w = absurd w
answers_whole shows bytes OutOfMemory text w = absurd w
answers_whole shows bytes ReadFault text w = absurd w
answers_whole shows bytes WriteFault text w = absurd w

pub answers : (shows : Shows) (bytes : List ℕ) (status : Status) (text : List ℕ) (answer : Status) (first after : Option (List ℕ)) (b n : ℕ) → Writes shows bytes status text → IsTold status text answer first after b n → Answers shows bytes answer
answers shows bytes status text answer first after b n w (inl told) = subst (Answers shows bytes) (sym told.0) (answers_whole shows bytes status text w)
answers shows bytes status text answer first after b n w (inr failed) = subst (Answers shows bytes) (sym failed.0) tt

pub reads : (bytes : List ℕ) (left : Option (List ℕ)) (status : Status) (text : List ℕ) (answer : Status) (first after : Option (List ℕ)) (b n : ℕ) → IsRead bytes status left → IsTold status text answer first after b n → IsRead bytes answer left
reads bytes left status text answer first after b n r (inl told) = subst (λ s. IsRead bytes s left) (sym told.0) r
reads bytes left status text answer first after b n r (inr failed) = subst (λ s. IsRead bytes s left) (sym failed.0) tt

pub no_read_fault : (status : Status) (text : List ℕ) (answer : Status) (first after : Option (List ℕ)) (b n : ℕ) → status ≢ ReadFault → IsTold status text answer first after b n → answer ≢ ReadFault
no_read_fault status text answer first after b n s (inl told) = λ e. s (sym told.0 ∙ e)
no_read_fault status text answer first after b n s (inr failed) = λ e. let no = failed.0 in cc

pub write_fault : (status : Status) (text : List ℕ) (answer : Status) (first after : Option (List ℕ)) (b n : ℕ) → status ≢ WriteFault → IsTold status text answer first after b n → answer ≡ WriteFault → RoseByOne b n
write_fault status text answer first after b n s (inl told) = λ e. absurd (s (sym told.0 ∙ e))
write_fault status text answer first after b n s (inr failed) = λ e. failed.1

pub no_usage : (status : Status) (text : List ℕ) (answer : Status) (first after : Option (List ℕ)) (b n : ℕ) → status ≢ Usage → IsTold status text answer first after b n → answer ≢ Usage
no_usage status text answer first after b n s (inl told) = λ e. s (sym told.0 ∙ e)
no_usage status text answer first after b n s (inr failed) = λ e. let no = failed.0 in cc

-- what was told is not silent
pub not_silent : (status : Status) (text : List ℕ) (answer : Status) (first after : Option (List ℕ)) (b n : ℕ) → status ≢ ReadFault → status ≢ OutOfMemory → IsTold status text answer first after b n → IsSilent answer → ⊥
not_silent status text answer first after b n read memory told silent = loud answer silent (no_read_fault status text answer first after b n read told) (no_memory status text answer first after b n memory told)
  where
    loud : (answer : Status) → IsSilent answer → answer ≢ ReadFault → answer ≢ OutOfMemory → ⊥
    loud ReadFault silent read memory = read refl
    loud OutOfMemory silent read memory = memory refl
    loud Done silent read memory = silent
    loud (BadTrace line) silent read memory = silent
    loud (BadLayout error) silent read memory = silent
    loud TooLong silent read memory = silent
    loud Usage silent read memory = silent
    loud WriteFault silent read memory = silent

    no_memory : (status : Status) (text : List ℕ) (answer : Status) (first after : Option (List ℕ)) (b n : ℕ) → status ≢ OutOfMemory → IsTold status text answer first after b n → answer ≢ OutOfMemory
    no_memory status text answer first after b n s (inl told) = λ e. s (sym told.0 ∙ e)
    no_memory status text answer first after b n s (inr failed) = λ e. let no = failed.0 in cc

-- a short trace and no fault leave two statuses
pub complete : (shows : Shows) (bytes : List ℕ) (r : Reading) (status : Status) → Answers shows bytes status → length bytes ≤ most_bytes → IsTraceOf bytes r → HasLayout r → status ≢ ReadFault → status ≢ WriteFault
    → (status ≡ Done) ⊎ (status ≡ OutOfMemory)
complete shows bytes r Done says short trace stands read write = inl refl
complete shows bytes r OutOfMemory says short trace stands read write = inr refl
complete shows bytes r (BadTrace line) says short trace stands read write = let (text, writes) = says in absurd (trace_or_bad bytes r line trace writes.1)
complete shows bytes r (BadLayout error) says short trace stands read write = let (text, writes) = says in absurd (stands_or_refused bytes error (λ other is. subst HasLayout (one_trace bytes r other trace is) stands) writes.1)
complete shows bytes r TooLong says short trace stands read write = let (text, writes) = says in let long = writes.0 in absurd (omega arith)
complete shows bytes r Usage says short trace stands read write = absurd says
complete shows bytes r ReadFault says short trace stands read write = absurd (read refl)
complete shows bytes r WriteFault says short trace stands read write = absurd (write refl)

-- once what was made of a source was told to a sink, the command has done what it promises
pub commanded : (shows : Shows) (source left : Option (List ℕ)) (status : Status) (text : List ℕ) (answer : Status) (first after : Option (List ℕ)) (b n : ℕ) → IsMadeOf shows source left status text → IsTold status text answer first after b n
    → Replays shows source left first after answer
commanded shows source left status text answer first after b n made told = record {
  written = λ bytes before is taken. written shows bytes before status text answer first after b n (made.writes bytes is) told taken;
  answers = λ bytes is. answers shows bytes status text answer first after b n (made.writes bytes is) told;
  read = λ bytes is. reads bytes left status text answer first after b n (made.read bytes is) told;
  complete = λ bytes r is short trace stands. complete shows bytes r answer (answers shows bytes status text answer first after b n (made.writes bytes is) told) short trace stands;
}

-- its faults are those of the sink, since no read failed
pub faults_told : (status : Status) (text : List ℕ) (answer : Status) (first after : Option (List ℕ)) (b n reads reads_after : ℕ) → IsSaid status → IsTold status text answer first after b n → reads_after ≡ reads → (answer ≢ WriteFault → n ≡ b)
    → TellsFaults answer reads reads_after b n
faults_told status text answer first after b n reads reads_after said told same unwritten = record {
  read_fault = λ e. absurd (no_read_fault status text answer first after b n said.read told e);
  write_fault = write_fault status text answer first after b n said.write told;
  failed_read = λ _. same;
  failed_write = unwritten;
}

-- those of a command that reads nothing
pub faults_sent : (own status : Status) (reads b n : ℕ) → own ≢ ReadFault → EndsAs own status → (status ≡ WriteFault → RoseByOne b n) → (status ≢ WriteFault → n ≡ b) → TellsFaults status reads reads b n
faults_sent own status reads b n no_read ends failed unwritten = record {
  read_fault = λ e. absurd (never ends e);
  write_fault = failed;
  failed_read = λ _. refl;
  failed_write = unwritten;
}
  where
    never : EndsAs own status → status ≡ ReadFault → ⊥
    never (inl done) e = no_read (sym done ∙ e)
    never (inr (inl memory)) e = cc
    never (inr (inr write)) e = cc
