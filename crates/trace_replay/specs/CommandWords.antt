-- The words of the commands, and which command they name.
use Rattle.std.specs.Prelude.{◌≡◌, ◌<◌, ◌≤◌, ◌^◌, ℕ, List, [], ◌∷◌, Bool, true, false, codes, decimal, map, String, string_bytes}
use Rattle.trace_replay.specs.declared.words.Mode.{Mode}
use Rattle.trace_replay.specs.declared.words.Mode.TheVariants.{Replay, Audit}
use Rattle.trace_replay.specs.declared.words.Command.{Command}
use Rattle.trace_replay.specs.declared.words.Command.TheVariants as command

-- the word that names a mode
abbrev pub word_of : Mode → List ℕ
word_of Replay = codes "replay"
word_of Audit = codes "audit"

-- whether the report of a mode has its audit lines
abbrev pub audits : Mode → Bool
audits Replay = false
audits Audit = true

-- the words name this command; its numbers are in range, and spelled as they are printed
abbrev pub Name : Command → List (List ℕ) → Type 0
Name (command.Replay mode) words = words ≡ word_of mode ∷ []
Name command.Live words = words ≡ codes "live" ∷ []
Name (command.Make start calls) words = (words ≡ codes "make" ∷ decimal start ∷ decimal calls ∷ []) × (start < 2 ^ 31) × (calls ≤ 100000)

abbrev pub NameNone : List (List ℕ) → Type 0
NameNone words = (c : Command) → ¬ Name c words

-- the words of a command line name this command, or none
abbrev pub Names : {Z : Type 0} → List (String Z) → Command → Type 0
Names words c = Name c (map string_bytes words)

abbrev pub NamesNone : {Z : Type 0} → List (String Z) → Type 0
NamesNone words = NameNone (map string_bytes words)

-- they name no command that reads a trace
abbrev pub ReadsNothing : {Z : Type 0} → List (String Z) → Type 0
ReadsNothing words = ((mode : Mode) → ¬ Names words (command.Replay mode)) × (¬ Names words command.Live)
