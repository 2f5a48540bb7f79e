-- What is written for the bytes of a trace: the report of its one history, or the line that tells what is wrong; and what the other commands write.
use Rattle.std.specs.Prelude.{◌≡◌, slice_get, ◌⊎◌, ◌<◌, ◌≤◌, ◌++◌, ℕ, List, [], map, take, length, Option, Some, None}
use Rattle.std.specs.List.{range_with_len}
use Rattle.std.specs.Option.{ForSome}
use Rattle.vm_model.specs.declared.calls.Call.{Call}
use Rattle.vm_model.specs.Setup.{Setup}
use Rattle.unit_layout.specs.Config.{setup_of}
use Rattle.unit_layout.specs.Refusals.{refusal}
use Rattle.vm_model.specs.History.{World, Local, history_of}
use Rattle.vm_model.specs.LegalHistory.{IsReached}
use Rattle.vm_model.specs.Tables.{tables_of}
use Rattle.vm_model.specs.Laws.{IsOneLegalHistory}
use Rattle.call_laws.specs.WorldLaws.{KeepsTheLaws}
use Rattle.report_text.specs.declared.faults.Fault.TheVariants as fault
use Rattle.trace_text.specs.Reading.{Reading, calls_of, cpus_of}
use Rattle.trace_text.specs.ToldTraces.{config_of, layout_spec, IsRefusedLayout}
use Rattle.report_text.specs.CounterTotals.{counter_rows}
use Rattle.trace_text.specs.Grammar.{IsTraceOf, IsFirstBadLine}
use Rattle.report_text.specs.Report.{report, fault_line}
use Rattle.trace_replay.specs.Streams.{RoseByOne, IsReadInPart}
use Rattle.trace_replay.specs.CommandWords.{audits}
use Rattle.trace_replay.specs.declared.words.Mode.{Mode}
use Rattle.trace_replay.specs.declared.status.Status.{Status}
use Rattle.trace_replay.specs.declared.status.Status.TheVariants.{Done, BadTrace, BadLayout, Usage, OutOfMemory, ReadFault, WriteFault, TooLong}

-- the machine of a trace, its opening's calls and its callers' calls
abbrev pub setup : Reading → Setup
setup r = setup_of (config_of r.header)

abbrev pub opening_calls : Reading → List Call
opening_calls r = calls_of 0 r.calls

abbrev pub own_calls : Reading → List (List Call)
own_calls r = map (λ k. calls_of k r.calls) (range_with_len 1 r.header.callers)

-- the layout that the header asks for is not refused
abbrev pub HasLayout : Reading → Type 0
HasLayout r = refusal (layout_spec r.header) ≡ None

-- the history of a trace, and its report: with `audit`, the audit lines stand in it
abbrev pub history_of_trace : Reading → World
history_of_trace r = history_of (setup r) (opening_calls r) (own_calls r) r.picks

abbrev pub report_of : Mode → Reading → List ℕ
report_of mode r = report (tables_of (setup r) (history_of_trace r)) (counter_rows r.header.counters (cpus_of r.header) r.header.batch r.counts) (audits mode)

-- the history of a trace is one legal history of the plain map, in which every caller ends, so each of its calls is answered; and it keeps the laws of every history, those of its calls and those of its map
pub record HasLegalHistory (r : Reading) : Type 0 where
  pub one : IsOneLegalHistory (setup r) (opening_calls r) (own_calls r) r.picks
  pub answered : (k : ℕ) (l : Local) → slice_get (history_of_trace r).locals k ≡ Some l → length l.answers ≡ length l.calls
  pub laws : KeepsTheLaws (setup r) (opening_calls r) (own_calls r) (history_of_trace r)
  -- so do the worlds on the way, and all that other orders of the same calls lead to
  pub always : (w : World) → IsReached (setup r) (opening_calls r) (own_calls r) w → KeepsTheLaws (setup r) (opening_calls r) (own_calls r) w

-- which texts show a trace
abbrev pub Shows : Type 1
Shows = Reading → List ℕ → Type 0

-- a replay's report of this trace
abbrev pub IsReport : Mode → Reading → List ℕ → Type 0
IsReport mode r text = HasLegalHistory r × (text ≡ report_of mode r)

-- a run that has ended well wrote what shows this trace
abbrev pub Reports : Shows → Reading → Status → List ℕ → Type 0
Reports shows r status text = (status ≡ Done) × shows r text

-- the most bytes of a trace
abbrev pub most_bytes : ℕ
most_bytes = 16777216

-- what a status says of the bytes, and the text that is written with it
abbrev pub Writes : Shows → List ℕ → Status → List ℕ → Type 0
Writes shows bytes Done text = (length bytes ≤ most_bytes) × ((r : Reading) × IsTraceOf bytes r × HasLayout r × shows r text)
Writes shows bytes (BadTrace line) text = (length bytes ≤ most_bytes) × IsFirstBadLine bytes line × (text ≡ fault_line (fault.Line line))
Writes shows bytes (BadLayout error) text = (length bytes ≤ most_bytes) × IsRefusedLayout bytes error × (text ≡ fault_line (fault.Layout error))
Writes shows bytes TooLong text = (most_bytes < length bytes) × (text ≡ fault_line fault.Length)
Writes shows bytes _ text = ⊥

-- what is written: the text whole, a prefix of it where a write failed, or nothing
abbrev pub IsWritten : Shows → List ℕ → Status → (before : List ℕ) (after : Option (List ℕ)) → Type 0
IsWritten shows bytes ReadFault before after = after ≡ Some before
IsWritten shows bytes OutOfMemory before after = after ≡ Some before
IsWritten shows bytes WriteFault before after = (status : Status) × (text : List ℕ) × (n : ℕ) × Writes shows bytes status text × (after ≡ Some (before ++ take n text))
IsWritten shows bytes status before after = (text : List ℕ) × Writes shows bytes status text × (after ≡ Some (before ++ text))

-- how far the source was read: to its end, or up to the read that failed, which came before too many bytes
abbrev pub IsRead : List ℕ → Status → Option (List ℕ) → Type 0
IsRead bytes Done left = left ≡ Some []
IsRead bytes (BadTrace line) left = left ≡ Some []
IsRead bytes (BadLayout error) left = left ≡ Some []
IsRead bytes ReadFault left = IsReadInPart most_bytes bytes left
IsRead bytes _ left = Unit {0}

-- a sink that tells its room has enough for each text that may be written
abbrev pub HasRoomFor : Shows → (left : Option (List ℕ)) (room : Option ℕ) → Type 0
HasRoomFor shows left None = Unit {0}
HasRoomFor shows None (Some room) = ⊥
HasRoomFor shows (Some bytes) (Some room) = (status : Status) (text : List ℕ) → Writes shows bytes status text → length text ≤ room

-- a status that says something of the bytes says what holds
abbrev pub Answers : Shows → List ℕ → Status → Type 0
Answers shows bytes Usage = ⊥
Answers shows bytes OutOfMemory = Unit {0}
Answers shows bytes ReadFault = Unit {0}
Answers shows bytes WriteFault = Unit {0}
Answers shows bytes status = (text : List ℕ) × Writes shows bytes status text

-- a status under which nothing is written
abbrev pub IsSilent : Status → Type 0
IsSilent ReadFault = Unit {0}
IsSilent OutOfMemory = Unit {0}
IsSilent _ = ⊥

-- the outcome's text was taken whole; or a write failed, and a prefix of it was taken
abbrev pub IsTold : (status : Status) (text : List ℕ) (answer : Status) (first after : Option (List ℕ)) (before now : ℕ) → Type 0
IsTold status text answer first after before now =
    ((answer ≡ status) × ((bytes : List ℕ) → first ≡ Some bytes → after ≡ Some (bytes ++ text)))
    ⊎ ((answer ≡ WriteFault) × RoseByOne before now × ((bytes : List ℕ) → first ≡ Some bytes → (n : ℕ) × (after ≡ Some (bytes ++ take n text))))

-- what a command that reads nothing leaves, whose whole text comes with a status of its own: the text, a prefix of it where a write failed, or nothing
abbrev pub IsSent : (own : Status) (text : List ℕ) → Status → (before : List ℕ) (after : Option (List ℕ)) → Type 0
IsSent own text OutOfMemory before after = after ≡ Some before
IsSent own text WriteFault before after = (n : ℕ) × (after ≡ Some (before ++ take n text))
IsSent own text status before after = (status ≡ own) × (after ≡ Some (before ++ text))

-- how such a command ends
abbrev pub EndsAs : (own : Status) → Status → Type 0
EndsAs own status = (status ≡ own) ⊎ ((status ≡ OutOfMemory) ⊎ (status ≡ WriteFault))

-- a sink that tells its room has enough for this text
abbrev pub HasRoomOf : (text : List ℕ) → Option ℕ → Type 0
HasRoomOf text room = ForSome room (λ most. length text ≤ most)
