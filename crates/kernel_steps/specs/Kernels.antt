-- Where a kernel stands: its regions and callers are the parts of a world, after the world's own events.
use Rattle.std.specs.Prelude.{length, ◌≤◌, ◌<◌, [], ◌∷◌, ◌≡◌, ◌≢◌, ℕ, Bool, true, false, if◌then◌else◌, List, map, slice_get, Some, None}
use Rattle.vm_model.specs.declared.calls.Call.{Call}
use Rattle.vm_model.specs.Setup.{Setup}
use Rattle.vm_model.specs.Events.{Event}
use Rattle.vm_model.specs.Places.{ask, AskNothing}
use Rattle.vm_model.specs.Given.{can_move}
use Rattle.vm_model.specs.History.{World, Local, opening_world, with_callers, finish, most_events, callers_from, opening_answers, placing_calls}
use Rattle.vm_model.specs.Parts.{Region, CpuBlocks, regions_of, wants, moves}
use Rattle.vm_model.specs.PlainMap.{Block}
use Rattle.vm_model.specs.declared.tables.Tables.{Tables}
use Rattle.vm_model.specs.Tables.{tables_of}
use Rattle.vm_model.specs.declared.rows.BlockRow.{BlockRow}
use Rattle.vm_model.specs.declared.rows.PartRow.{PartRow}
use Rattle.map_blocks.specs.BlockRows.{block_table, part_table}
use Rattle.section_core.specs.declared.region.Stepped.{Stepped}
use Rattle.section_core.specs.declared.region.Stepped.TheVariants.{Moved, Stays, Ended}
use Rattle.vm_model.specs.Rules.{IsTrace}
use Rattle.section_laws.specs.Lawful.{AreSmall, IsRunning}

-- the regions and the callers by their numbers, and the caller of each event
pub record KernelState : Type 0 where
  pub regions : List Region
  pub locals : List Local
  pub moved : List ℕ

abbrev pub movers : List Event → List ℕ
movers events = map (λ (e : Event). e.caller) events

pub record IsStanding (c : Setup) (opening : List Call) (calls : List (List Call)) (w : World) (k : KernelState) : Type 0 where
  pub running : IsRunning c opening calls w
  pub regions : k.regions ≡ regions_of c w.map
  pub locals : k.locals ≡ w.locals
  pub moved : k.moved ≡ movers w.events

-- it stands in some world of some trace
abbrev pub IsSomewhere : KernelState → Type 0
IsSomewhere k = (c : Setup) × (opening : List Call) × (calls : List (List Call)) × (w : World) × IsStanding c opening calls w k

-- how a caller's step ends: it stays exactly where it has not ended and can't move, which is where another has the turn that it takes
abbrev pub StepsAs : World → Local → Stepped → Type 0
StepsAs w l Moved = can_move w.map (ask l.setup l.place) ≡ true
StepsAs w l Stays = (can_move w.map (ask l.setup l.place) ≡ false) × (ask l.setup l.place ≢ AskNothing)
StepsAs w l Ended = ask l.setup l.place ≡ AskNothing

abbrev pub IsSteppedAs : World → (caller : ℕ) → Stepped → Type 0
IsSteppedAs w caller stepped = (l : Local) × (slice_get w.locals caller ≡ Some l) × StepsAs w l stepped

-- the calls of the first so many callers are all answered
abbrev pub HaveEnded : ℕ → List Local → Type 0
HaveEnded callers locals = (k : ℕ) → k < callers → (l : Local) × (slice_get locals k ≡ Some l) × (wants l ≡ None)

-- the same over regions and locals alone
abbrev pub SectionAs : List Region × List Local → (caller : ℕ) → Stepped → Type 0
SectionAs s caller Moved = (l : Local) × (number : ℕ) × (r : Region) × (slice_get s.1 caller ≡ Some l) × (wants l ≡ Some number) × (slice_get s.0 number ≡ Some r) × (moves l r ≡ true)
SectionAs s caller Stays = (l : Local) × (number : ℕ) × (r : Region) × (slice_get s.1 caller ≡ Some l) × (wants l ≡ Some number) × (slice_get s.0 number ≡ Some r) × (moves l r ≡ false)
SectionAs s caller Ended = (l : Local) × (slice_get s.1 caller ≡ Some l) × (wants l ≡ None)

-- the opening's calls, and those of each caller from 1 on
abbrev pub opening_of : List (List Call) → List Call
opening_of [] = []
opening_of (opening ∷ calls) = opening

abbrev pub callers_of : List (List Call) → List (List Call)
callers_of [] = []
callers_of (opening ∷ calls) = calls

-- what a kernel is started on: the numbers and calls of a trace, whose amounts have 32 bits
pub record CanStart (c : Setup) (sections : List (List Call)) : Type 0 where
  pub some : 1 ≤ length sections
  pub trace : IsTrace c (opening_of sections) (callers_of sections)
  pub small : (k : ℕ) (own : List Call) → slice_get sections k ≡ Some own → AreSmall own

-- the same, and how many objects their calls can place
pub record IsBefore (c : Setup) (sections : List (List Call)) (room : ℕ) : Type 0 where
  pub can : CanStart c sections
  pub counted : room ≡ placing_calls sections

-- where the opening has ended, and the callers stand before their first calls
abbrev pub start_of : Setup → List (List Call) → World
start_of c sections = with_callers c (callers_of sections) (finish most_events (opening_world c (opening_of sections) (callers_of sections)))

-- the opening has ended there, and these are the callers before their first calls
pub record CanJoin (c : Setup) (sections : List (List Call)) (k : KernelState) (callers : List Local) : Type 0 where
  pub can : CanStart c sections
  pub ended : IsStanding c (opening_of sections) (callers_of sections) (finish most_events (opening_world c (opening_of sections) (callers_of sections))) k
  pub before : callers ≡ callers_from c (opening_answers k.locals) 1 (callers_of sections)

-- a region of a processor's blocks, and its rows of blocks and of live parts
abbrev pub IsOfBlocks : Region → Type 0
IsOfBlocks r = (cpu : ℕ) × (pages : ℕ) × (blocks : List Block) × (next : ℕ) × (r ≡ CpuBlocks cpu pages blocks next)

abbrev pub block_table_of : Region → List BlockRow
block_table_of (CpuBlocks cpu pages blocks next) = block_table (record { cpu = cpu; pages = pages; blocks = blocks; next = next })
block_table_of _ = []

abbrev pub part_table_of : Region → List PartRow
part_table_of (CpuBlocks cpu pages blocks next) = part_table (record { cpu = cpu; pages = pages; blocks = blocks; next = next })
part_table_of _ = []

-- the tables of a world, in which the rows that an audit alone reads stand with one only
abbrev pub tables_for : (audit : Bool) → Setup → World → Tables
tables_for audit c w = record (tables_of c w) {
  chunk_audit = if audit then (tables_of c w).chunk_audit else [];
  hints = if audit then (tables_of c w).hints else [];
}
