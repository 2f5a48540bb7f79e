-- The bytes of the report, of the schedule and of a fault.
use Rattle.std.specs.Prelude.{ℕ, Bool, if◌then◌else◌, List, [], ◌∷◌, ◌++◌, map, codes, decimal}
use Rattle.std.specs.List.{flat_map}
use Rattle.vm_model.specs.declared.rows.CounterRow.{CounterRow}
use Rattle.vm_model.specs.declared.tables.Tables.{Tables}
use Rattle.report_text.specs.declared.faults.Fault.{Fault}
use Rattle.report_text.specs.declared.faults.Fault.TheVariants as fault
use Rattle.unit_layout.specs.declared.errors.LayoutError.{LayoutError}
use Rattle.unit_layout.specs.declared.errors.LayoutError.TheVariants as error
use Rattle.vm_model.specs.Words.{line}
use Rattle.report_text.specs.Tally.{entry_line, tally_line}
use Rattle.report_text.specs.TableLines.{events_line, frames_line, free_line, area_line, wait_line, block_line, part_line, chunk_line, object_line, counter_lines}
use Rattle.report_text.specs.AuditLines.{audit_lines}

-- the replies, and how many events there were
abbrev pub call_lines : Tables → List ℕ
call_lines t = flat_map entry_line t.entries ++ tally_line t.entries ++ events_line t.events

-- the frames, and what is free, in use and waiting
abbrev pub space_lines : Tables → List ℕ
space_lines t = frames_line t.frames t.mapped t.stale ++ flat_map free_line t.free ++ flat_map area_line t.areas ++ flat_map wait_line t.waiting

-- the blocks and the chunks, with what lives in them
abbrev pub row_lines : Tables → List ℕ
row_lines t = flat_map block_line t.blocks ++ flat_map part_line t.parts ++ flat_map chunk_line t.chunks ++ flat_map object_line t.objects

-- the counters, and the audit lines where they are asked for
abbrev pub number_lines : Tables → List CounterRow → Bool → List ℕ
number_lines t counters audit = counter_lines counters ++ (if audit then audit_lines t counters else [])

-- the whole report
abbrev pub report : Tables → List CounterRow → Bool → List ℕ
report t counters audit = line (codes "vmreport" ∷ codes "1" ∷ [])
    ++ call_lines t
    ++ space_lines t
    ++ row_lines t
    ++ number_lines t counters audit
    ++ line (codes "end" ∷ [])

-- the callers of the events, in order
abbrev pub schedule : List ℕ → List ℕ
schedule picks = line (codes "schedule" ∷ map decimal picks)

-- what is wrong with a layout, in words
abbrev pub layout_words : LayoutError → List (List ℕ)
layout_words (error.NoCpu group) = codes "no-cpu" ∷ decimal group ∷ []
layout_words (error.TooManyGroups groups) = codes "groups" ∷ decimal groups ∷ []
layout_words (error.Overlap first second) = codes "overlap" ∷ decimal first ∷ decimal second ∷ []
layout_words (error.TooWide pages) = codes "wide" ∷ decimal pages ∷ []

-- what is wrong, in words
abbrev pub fault_words : Fault → List (List ℕ)
fault_words fault.Usage = codes "usage" ∷ []
fault_words (fault.Line number) = codes "line" ∷ decimal number ∷ []
fault_words (fault.Layout error) = codes "layout" ∷ layout_words error
fault_words fault.Length = codes "length" ∷ []

abbrev pub fault_line : Fault → List ℕ
fault_line f = line (codes "fault" ∷ fault_words f)
