-- The lines of the tables.
use Rattle.std.specs.Prelude.{ℕ, ◌+◌, ◌==◌, if◌then◌else◌, List, [], ◌∷◌, ◌++◌, codes, decimal}
use Rattle.std.specs.Fmt.{signed_decimal}
use Rattle.vm_model.specs.declared.areas.Span.{Span}
use Rattle.vm_model.specs.declared.areas.Area.{Area}
use Rattle.vm_model.specs.declared.areas.AreaKind.{AreaKind}
use Rattle.vm_model.specs.declared.areas.AreaKind.TheVariants.{Vmalloc, MapRam, Block, Chunk}
use Rattle.vm_model.specs.declared.rows.BlockRow.{BlockRow}
use Rattle.vm_model.specs.declared.rows.PartRow.{PartRow}
use Rattle.vm_model.specs.declared.rows.ChunkRow.{ChunkRow}
use Rattle.vm_model.specs.declared.rows.ObjectRow.{ObjectRow}
use Rattle.vm_model.specs.declared.rows.CounterRow.{CounterRow}
use Rattle.vm_model.specs.Words.{line, numbered}
use Rattle.report_text.specs.Numerals.{range, bounds}

abbrev pub events_line : ℕ → List ℕ
events_line events = line (codes "events" ∷ decimal events ∷ [])

abbrev pub frames_line : ℕ → ℕ → ℕ → List ℕ
frames_line frames mapped stale = line (codes "frames" ∷ decimal frames ∷ codes "mapped" ∷ decimal mapped ∷ codes "stale" ∷ decimal stale ∷ [])

abbrev pub free_line : Span → List ℕ
free_line s = line (codes "free" ∷ range s ∷ [])

abbrev pub area_kind : AreaKind → List (List ℕ)
area_kind Vmalloc = codes "vmalloc" ∷ []
area_kind MapRam = codes "ram" ∷ []
area_kind (Block cpu) = codes "block" ∷ codes "cpu" ∷ decimal cpu ∷ []
area_kind (Chunk chunk group) = codes "chunk" ∷ decimal chunk ∷ codes "group" ∷ decimal group ∷ []

-- whose a thing is
abbrev pub owner : ℕ → ℕ → List (List ℕ)
owner caller serial = codes "caller" ∷ decimal caller ∷ codes "serial" ∷ decimal serial ∷ []

abbrev pub area_line : Area → List ℕ
area_line a = line ((codes "area" ∷ range a.span ∷ area_kind a.kind) ++ owner a.caller a.serial)

abbrev pub wait_line : Span → List ℕ
wait_line s = line (codes "wait" ∷ range s ∷ [])

abbrev pub dirty_range : BlockRow → List ℕ
dirty_range b = if b.dirty == 0 then codes "-" else bounds b.low b.high

abbrev pub block_line : BlockRow → List ℕ
block_line b = line (codes "block" ∷ bounds b.start (b.start + b.pages) ∷ codes "cpu" ∷ decimal b.cpu ∷ codes "free" ∷ decimal b.free ∷ codes "dirty" ∷ decimal b.dirty ∷ codes "range" ∷ dirty_range b ∷ [])

abbrev pub part_line : PartRow → List ℕ
part_line p = line ((codes "part" ∷ range p.span ∷ codes "cpu" ∷ decimal p.cpu ∷ []) ++ owner p.caller p.serial)

abbrev pub chunk_line : ChunkRow → List ℕ
chunk_line c = line (codes "chunk" ∷ decimal c.chunk ∷ codes "base" ∷ decimal c.base ∷ codes "slot" ∷ decimal c.slot ∷ codes "free" ∷ decimal c.free ∷ codes "populated" ∷ decimal c.populated ∷ codes "empty" ∷ decimal c.empty ∷ [])

abbrev pub object_line : ObjectRow → List ℕ
object_line o = line ((codes "object" ∷ decimal o.chunk ∷ codes "off" ∷ decimal o.off ∷ codes "size" ∷ decimal o.bytes ∷ []) ++ owner o.caller o.serial)

abbrev pub counter_line : ℕ → CounterRow → List ℕ
counter_line k c = line (codes "counter" ∷ decimal k ∷ codes "total" ∷ signed_decimal c.total ∷ [])

-- counters go by their places
abbrev pub counter_lines : List CounterRow → List ℕ
counter_lines counters = numbered counter_line 0 counters
