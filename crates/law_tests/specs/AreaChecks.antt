-- Areas are disjoint and aligned, guards are never mapped, free pages are clean, parts are disjoint, and no page is lost: as tests on one world.
use Rattle.std.specs.Prelude.{ℕ, ◌-◌, ◌%◌, Bool, true, false, not, ◌&&◌, ◌||◌, nat_le, ◌==◌, map, slice_get, count_by, Option, Some, None}
use Rattle.std.specs.List.{list_all, list_any}
use Rattle.vm_model.specs.declared.areas.Span.{Span}
use Rattle.vm_model.specs.declared.areas.Area.{Area}
use Rattle.vm_model.specs.declared.areas.AreaKind.{AreaKind}
use Rattle.vm_model.specs.declared.areas.AreaKind.TheVariants as kind
use Rattle.vm_model.specs.declared.calls.Call.{Call}
use Rattle.vm_model.specs.declared.calls.Call.TheVariants.{Vmalloc}
use Rattle.vm_model.specs.Space.{span, end_of, holds, covers, times, count_from}
use Rattle.vm_model.specs.Setup.{Setup}
use Rattle.vm_model.specs.PlainMap.{PlainMap, Mark, Free, Held, Live, Waits, Flushing, Block, Part}
use Rattle.vm_model.specs.Blocks.{size_of, parts_size}
use Rattle.vm_model.specs.Places.{Made, MadeArea}
use Rattle.vm_model.specs.Calls.{Answered, align_pages}
use Rattle.vm_model.specs.History.{World, Local}
use Rattle.vm_model.specs.Carried.{held, flushed}
use Rattle.vm_model.specs.Laws.{uses}
use Rattle.law_tests.specs.PageChecks.{on_pages, unmapped, stale, bare, marked}

-- no page is used twice
abbrev pub areas_apart : Setup → World → Bool
areas_apart c w = on_pages c (λ page. nat_le (uses w page) 1)

-- each area and each answered vmalloc is aligned
abbrev pub is_at_group : Setup → Span → Option Span → Bool
is_at_group c s None = false
is_at_group c s (Some g) = nat_le g.start s.start && ((s.start - g.start) % c.atom == 0)

abbrev pub is_aligned : Setup → Span → AreaKind → Bool
is_aligned c s kind.Vmalloc = true
is_aligned c s kind.MapRam = true
is_aligned c s (kind.Block cpu) = s.start % c.block_pages == 0
is_aligned c s (kind.Chunk chunk group) = is_at_group c s (slice_get c.groups group)

abbrev pub is_made_aligned : Call → Made → Bool
is_made_aligned (Vmalloc bytes align) (MadeArea start serial) = start % align_pages align == 0
is_made_aligned _ _ = true

abbrev pub areas_aligned : Setup → World → Bool
areas_aligned c w = list_all (λ (a : Area). is_aligned c a.span a.kind) w.map.areas && list_all (λ (l : Local). list_all (λ (answer : Answered). is_made_aligned answer.call answer.made) l.answers) w.locals

-- the last page of a vmalloc area has no frame
abbrev pub is_guarded : PlainMap → Span → AreaKind → Bool
is_guarded m s kind.Vmalloc = unmapped m (end_of s - 1)
is_guarded m s _ = true

abbrev pub guards_unmapped : Setup → World → Bool
guards_unmapped c w = list_all (λ (a : Area). is_guarded w.map a.span a.kind) w.map.areas

-- free pages are bare, stale ones unmapped, and no two have one frame
abbrev pub is_frame : ℕ → Option ℕ → Bool
is_frame frame None = false
is_frame frame (Some own) = own == frame

abbrev pub free_clean : Setup → World → Bool
free_clean c w = on_pages c (λ page. not (marked w.map Free page) || bare w.map page) && on_pages c (λ page. not (stale w.map page) || unmapped w.map page)
    && list_all (λ frame. nat_le (count_by (is_frame frame) w.map.frames) 1) (count_from c.frames 0)

-- no page of a block is in two parts
abbrev pub are_parts_apart : Setup → Block → Bool
are_parts_apart c b = list_all (λ page. nat_le (times page (map (λ (p : Part). span p.offset (size_of p)) b.parts)) 1) (count_from c.block_pages 0) && nat_le (parts_size b.parts) c.block_pages

abbrev pub parts_apart : Setup → World → Bool
parts_apart c w = list_all (are_parts_apart c) w.map.blocks

-- each page that isn't free is with the one whose it is marked to be
abbrev pub has_owner : World → ℕ → Option Mark → Bool
has_owner w page None = true
has_owner w page (Some Free) = true
has_owner w page (Some (Held caller)) = list_any (λ (l : Local). (l.caller == caller) && covers (held l.setup l.place) page) w.locals
has_owner w page (Some (Live serial)) = list_any (λ (a : Area). (a.serial == serial) && holds a.span page) w.map.areas
has_owner w page (Some Waits) = covers w.map.waiting page
has_owner w page (Some (Flushing caller)) = list_any (λ (l : Local). (l.caller == caller) && covers (flushed l.place) page) w.locals

abbrev pub none_lost : Setup → World → Bool
none_lost c w = on_pages c (λ page. has_owner w page (slice_get w.map.marks page))
