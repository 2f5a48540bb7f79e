-- What each command promises: of the source that it read, of the sink that it wrote to, and of the status with which it ended.
use Rattle.std.specs.Prelude.{◌≡◌, ◌≢◌, ◌≤◌, ◌⊎◌, ℕ, List, map, length, Option, Some, string_bytes}
use Rattle.trace_text.specs.Reading.{Reading}
use Rattle.trace_text.specs.Grammar.{IsTraceOf}
use Rattle.trace_replay.specs.Streams.{RoseByOne, IsReadInPart}
use Rattle.trace_replay.specs.Headline.{HasLayout, Shows, Writes, IsWritten, IsRead, Answers, IsSent, EndsAs, HasRoomFor, HasRoomOf, most_bytes}
use Rattle.trace_replay.specs.declared.status.Status.{Status}
use Rattle.trace_replay.specs.declared.status.Status.TheVariants.{Done, Usage, OutOfMemory, ReadFault, WriteFault}

-- a status that goes with a text
pub record IsSaid (status : Status) : Type 0 where
  pub read : status ≢ ReadFault
  pub write : status ≢ WriteFault
  pub memory : status ≢ OutOfMemory
  pub usage : status ≢ Usage

-- a status and a text made of all bytes of a source, of which these are left
pub record IsMadeOf (shows : Shows) (source left : Option (List ℕ)) (status : Status) (text : List ℕ) : Type 0 where
  pub writes : (bytes : List ℕ) → source ≡ Some bytes → Writes shows bytes status text
  pub read : (bytes : List ℕ) → source ≡ Some bytes → IsRead bytes status left
  pub said : IsSaid status

-- a read of this source failed, before too many bytes were taken
abbrev pub IsCutShort : (source left : Option (List ℕ)) → Type 0
IsCutShort source left = (bytes : List ℕ) → source ≡ Some bytes → IsReadInPart most_bytes bytes left

-- a command read a trace from a source, and wrote what shows this trace, or the line that tells what is wrong with it
pub record Replays (shows : Shows) (source left taken after : Option (List ℕ)) (status : Status) : Type 0 where
  -- what was written belongs to the bytes of the source
  pub written : (bytes before : List ℕ) → source ≡ Some bytes → taken ≡ Some before → IsWritten shows bytes status before after
  -- what the status says of these bytes holds
  pub answers : (bytes : List ℕ) → source ≡ Some bytes → Answers shows bytes status
  -- how far they were read
  pub read : (bytes : List ℕ) → source ≡ Some bytes → IsRead bytes status left
  -- a trace that is short enough, whose layout stands, ends well but for want of memory and for failed reads and writes
  pub complete : (bytes : List ℕ) (r : Reading) → source ≡ Some bytes → length bytes ≤ most_bytes → IsTraceOf bytes r → HasLayout r → status ≢ ReadFault → status ≢ WriteFault → (status ≡ Done) ⊎ (status ≡ OutOfMemory)

-- a command that reads nothing wrote a text that comes with a status of its own
pub record Sends (own : Status) (text : List ℕ) (taken after : Option (List ℕ)) (status : Status) : Type 0 where
  pub sent : (before : List ℕ) → taken ≡ Some before → IsSent own text status before after
  pub ends : EndsAs own status
  pub complete : status ≢ WriteFault → (status ≡ own) ⊎ (status ≡ OutOfMemory)

-- the status tells whether a read or a write failed, by how many did before and after; and one that failed was the last
pub record TellsFaults (status : Status) (reads reads_after writes writes_after : ℕ) : Type 0 where
  pub read_fault : status ≡ ReadFault → RoseByOne reads reads_after
  pub write_fault : status ≡ WriteFault → RoseByOne writes writes_after
  pub failed_read : status ≢ ReadFault → reads_after ≡ reads
  pub failed_write : status ≢ WriteFault → writes_after ≡ writes
