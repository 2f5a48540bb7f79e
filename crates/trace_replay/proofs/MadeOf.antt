-- What is made of all that a source gave: the answer to its bytes, or to too many of them.
use Rattle.std.proofs.Common.{◌≡◌, ◌≢◌, ◌<◌, ℕ, List, [], length, Option, Some, refl, sym, subst}
use Rattle.report_text.specs.declared.faults.Fault.TheVariants as fault
use Rattle.report_text.specs.Report.{fault_line}
use Rattle.trace_replay.specs.declared.answer.Outcome.{Outcome}
use Rattle.trace_replay.specs.declared.status.Status.{Status}
use Rattle.trace_replay.specs.declared.status.Status.TheVariants.{Done, BadTrace, BadLayout, Usage, OutOfMemory, ReadFault, WriteFault, TooLong}
use Rattle.trace_replay.specs.Headline.{Shows, Writes, IsRead, most_bytes}
use Rattle.trace_replay.specs.Commands.{IsSaid, IsMadeOf}
use Rattle.trace_replay.proofs.ToldToSink.{too_long_writes, too_long_reads}

is_said : (shows : Shows) (bytes : List ℕ) (status : Status) (text : List ℕ) → Writes shows bytes status text → IsSaid status
is_said shows bytes Done text w = record { read = λ e. cc; write = λ e. cc; memory = λ e. cc; usage = λ e. cc }
is_said shows bytes (BadTrace line) text w = record { read = λ e. cc; write = λ e. cc; memory = λ e. cc; usage = λ e. cc }
is_said shows bytes (BadLayout error) text w = record { read = λ e. cc; write = λ e. cc; memory = λ e. cc; usage = λ e. cc }
is_said shows bytes TooLong text w = record { read = λ e. cc; write = λ e. cc; memory = λ e. cc; usage = λ e. cc }
is_said shows bytes Usage text w = absurd w
is_said shows bytes OutOfMemory text w = absurd w
is_said shows bytes ReadFault text w = absurd w
is_said shows bytes WriteFault text w = absurd w

is_read : (shows : Shows) (bytes : List ℕ) (status : Status) (text : List ℕ) (left : Option (List ℕ)) → Writes shows bytes status text → left ≡ Some [] → IsRead bytes status left
is_read shows bytes Done text left w end = end
is_read shows bytes (BadTrace line) text left w end = end
is_read shows bytes (BadLayout error) text left w end = end
is_read shows bytes TooLong text left w end = tt
is_read shows bytes Usage text left w end = absurd w
is_read shows bytes OutOfMemory text left w end = absurd w
is_read shows bytes ReadFault text left w end = absurd w
is_read shows bytes WriteFault text left w end = absurd w

-- the answer to all bytes
pub made_of_all : (shows : Shows) (source left : Option (List ℕ)) (all : List ℕ) (status : Status) (text : List ℕ) → Writes shows all status text → ((bytes : List ℕ) → source ≡ Some bytes → all ≡ bytes) → ((bytes : List ℕ) → source ≡ Some bytes → left ≡ Some [])
    → IsMadeOf shows source left status text
made_of_all shows source left all status text w same end = record {
  writes = λ bytes is. subst (λ b. Writes shows b status text) (same bytes is) w;
  read = λ bytes is. subst (λ b. IsRead b status left) (same bytes is) (is_read shows all status text left w (end bytes is));
  said = is_said shows all status text w;
}

-- the answer to too many bytes
pub made_of_too_many : (shows : Shows) (source left : Option (List ℕ)) (o : Outcome) → o.status ≡ TooLong → o.text ≡ fault_line fault.Length → ((bytes : List ℕ) → source ≡ Some bytes → most_bytes < length bytes) → IsMadeOf shows source left o.status o.text
made_of_too_many shows source left o e text long = record {
  writes = λ bytes is. too_long_writes shows bytes o e text (long bytes is);
  read = λ bytes is. too_long_reads bytes o left e;
  said = subst IsSaid (sym e) (record { read = λ e. cc; write = λ e. cc; memory = λ e. cc; usage = λ e. cc });
}
