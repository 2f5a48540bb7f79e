-- Where each section is legal: as a test, in the words of the definition of legality.
use Rattle.std.specs.Prelude.{ℕ, ◌+◌, Bool, true, false, not, ◌&&◌, nat_lt, nat_le, ◌==◌, List, [], ◌∷◌, ◌++◌, length, map, slice_get, slice_index, count_by, Option, Some, None, is_none}
use Rattle.std.specs.List.{list_all, list_any}
use Rattle.vm_model.specs.declared.areas.Area.{Area}
use Rattle.vm_model.specs.declared.areas.AreaKind.TheVariants as kind
use Rattle.vm_model.specs.declared.areas.Span.{Span}
use Rattle.vm_model.specs.Space.{sum_of_pages, lowest}
use Rattle.vm_model.specs.Setup.{Setup, pages_in_units, highest}
use Rattle.vm_model.specs.PlainMap.{PlainMap, Held, Flushing, InHand, Lives, Ended, Chunk, taken}
use Rattle.vm_model.specs.Areas.{areas_at, named_areas}
use Rattle.vm_model.specs.Frames.{free_frames}
use Rattle.vm_model.specs.Blocks.{PartAt, life_of_part, part_to_cut, named_parts, fragmented, dirty_hull, spends, set_life, first_page}
use Rattle.vm_model.specs.Chunks.{object_pages, plain_fit, atomic_fit, placement, new_chunk, populated_pages, spare_chunk, page_to_fill, touches, life_of_object, is_live_object, chunks_numbered}
use Rattle.vm_model.specs.Events.{Section, Event, Search, ForPages, ForGroups, Refuse, TakePurge, GivePurge, TakeAlloc, GiveAlloc, Carve, CarveGroups, NoHole, Drop, Return, Settle, Remove, AreaNotLive, Unlink, Wait, TakeWaiting, MapPages, Populate, Fill, NoFrames, Unmap, Depopulate, Flush, Zero, AddWord, SumWords, PlaceObject, NoPlace, AddChunk, PlaceAtomic, NoAtomic, SettleObject, Unplace, FreeObject, ObjectNotLive, Spare, NoSpare, NextPage, Enough, Filled, CutPart, NoPart, AddBlock, SettlePart, BeginUnmap, PartNotLive, Retire, Fragment, Dirty}
use Rattle.vm_model.specs.Legal.{sum_of}
use Rattle.law_tests.specs.Machines.{Machine}
use Rattle.law_tests.specs.Same.{same_list, same_option, same_number, same_bool, same_integer, same_span, same_area, same_kind, same_life, same_part_at, same_placed}
use Rattle.law_tests.specs.PageChecks.{on_spans, mapped, bare, marked}

abbrev pub has_no_hole : Setup → PlainMap → Search → Bool
has_no_hole c m (ForPages pages align) = is_none (lowest (taken m) pages align)
has_no_hole c m ForGroups = is_none (highest c (taken m))

-- each start stands once, and is that of one live area
abbrev pub are_starts : PlainMap → List ℕ → Bool
are_starts m starts = list_all (λ start. (count_by (λ other. other == start) starts == 1) && (length (areas_at start m.areas) == 1)) starts

-- the one live area with a start passes a test
abbrev pub area_passes : (Area → Bool) → List Area → Bool
area_passes test [] = false
area_passes test (a ∷ []) = test a
area_passes test (a ∷ b ∷ areas) = false

abbrev pub has_groups_from : PlainMap → (chunk base group : ℕ) → List Span → Bool
has_groups_from m chunk base group [] = true
has_groups_from m chunk base group (s ∷ spans) =
    area_passes (λ (a : Area). (a.span.pages == s.pages) && same_kind a.kind (kind.Chunk chunk group)) (areas_at (base + s.start) m.areas) && has_groups_from m chunk base (group + 1) spans

abbrev pub has_block_area : Setup → PlainMap → PartAt → Bool
has_block_area c m at = area_passes (λ (a : Area). (a.span.pages == c.block_pages) && same_kind a.kind (kind.Block at.cpu)) (areas_at at.block m.areas)

-- so many frames are free, for pages that are bare
abbrev pub can_map : Setup → PlainMap → List ℕ → Bool
can_map c m pages = list_all (bare m) pages && nat_le (length pages) (length (free_frames c m.frames))

-- a page of the chunk that isn't populated and has no object
abbrev pub can_fill : Option Chunk → (page : ℕ) → Bool
can_fill None page = false
can_fill (Some h) page = same_option same_bool (slice_get h.populated page) (Some false) && not (list_any (touches page) h.objects)

abbrev pub is_spare : Setup → Option Chunk → (chunk base : ℕ) → List ℕ → Bool
is_spare c None chunk base populated = false
is_spare c (Some h) chunk base populated = (chunk == h.number) && (base == h.base) && same_list same_number populated (populated_pages c h)

abbrev pub is_page_next : Option (Chunk × ℕ) → (chunk base page : ℕ) → Bool
is_page_next None chunk base page = false
is_page_next (Some p) chunk base page = (chunk == p.0.number) && (base == p.0.base) && (page == p.1)

abbrev pub is_legal : Setup → PlainMap → (caller : ℕ) → Section → Bool
is_legal c m k Refuse = true
is_legal c m k TakePurge = is_none m.purge_turn
is_legal c m k GivePurge = same_option same_number m.purge_turn (Some k)
is_legal c m k TakeAlloc = is_none m.alloc_turn
is_legal c m k GiveAlloc = same_option same_number m.alloc_turn (Some k)
is_legal c m k (Carve place align) = same_option same_number (lowest (taken m) place.pages align) (Some place.start)
is_legal c m k (CarveGroups base) = same_option same_number (highest c (taken m)) (Some base)
is_legal c m k (NoHole search) = has_no_hole c m search
is_legal c m k (Drop s) = on_spans c (s ∷ []) (marked m (Held k)) && on_spans c (s ∷ []) (bare m)
is_legal c m k (Return spans) = on_spans c spans (marked m (Flushing k)) && on_spans c spans (bare m)
is_legal c m k (Settle areas first) = on_spans c (map (λ a. a.0) areas) (marked m (Held k)) && (first == m.next_area)
is_legal c m k (Remove start serial area) = same_list same_area (named_areas start serial m.areas) (area ∷ [])
is_legal c m k (AreaNotLive start serial) = length (named_areas start serial m.areas) == 0
is_legal c m k (Unlink starts) = are_starts m starts
is_legal c m k (Wait spans waiting) = on_spans c spans (marked m (Held k)) && (waiting == sum_of_pages (m.waiting ++ spans))
is_legal c m k (TakeWaiting all) = same_list same_span all m.waiting
is_legal c m k (MapPages s) = on_spans c (s ∷ []) (bare m) && nat_le s.pages (length (free_frames c m.frames))
is_legal c m k (Populate at missing) = can_map c m (pages_in_units c at.base missing)
is_legal c m k (Fill base page) = can_map c m (pages_in_units c base (page ∷ []))
is_legal c m k (NoFrames asked) = nat_lt (length (free_frames c m.frames)) asked
is_legal c m k (Unmap s) = on_spans c (s ∷ []) (mapped m)
is_legal c m k (Depopulate base pages) = list_all (mapped m) (pages_in_units c base pages)
is_legal c m k (Flush s) = true
is_legal c m k (Zero at) = same_option same_life (life_of_object at m.chunks) (Some (InHand k)) && list_all (mapped m) (object_pages c at)
is_legal c m k (AddWord at serial cpu index amount) = same_option same_life (life_of_object at m.chunks) (Some (Lives serial)) && list_all (mapped m) (object_pages c at)
is_legal c m k (SumWords at serial index total) = same_option same_life (life_of_object at m.chunks) (Some (Lives serial)) && list_all (mapped m) (object_pages c at) && same_integer total (sum_of c m at index)
is_legal c m k (PlaceObject at align missing) = same_option same_placed (placement c (plain_fit c at.bytes align) at.bytes m.chunks) (Some (at, missing))
is_legal c m k (NoPlace bytes align next) = is_none (placement c (plain_fit c bytes align) bytes m.chunks) && (next == m.next_chunk)
is_legal c m k (AddChunk chunk base at align missing) =
    has_groups_from m chunk base 0 c.groups && (chunk == m.next_chunk) && same_option same_placed (placement c (plain_fit c at.bytes align) at.bytes (m.chunks ++ new_chunk c chunk base ∷ [])) (Some (at, missing))
is_legal c m k (PlaceAtomic at align) = same_option same_placed (placement c (atomic_fit c at.bytes align) at.bytes m.chunks) (Some (at, []))
is_legal c m k (NoAtomic bytes align) = is_none (placement c (atomic_fit c bytes align) bytes m.chunks)
is_legal c m k (SettleObject at serial) = same_option same_life (life_of_object at m.chunks) (Some (InHand k)) && (serial == m.next_object)
is_legal c m k (Unplace at) = same_option same_life (life_of_object at m.chunks) (Some (InHand k))
is_legal c m k (FreeObject at serial) = is_live_object at serial m.chunks
is_legal c m k (ObjectNotLive at serial) = not (is_live_object at serial m.chunks)
is_legal c m k (Spare chunk base populated) = is_spare c (spare_chunk m.chunks) chunk base populated
is_legal c m k NoSpare = is_none (spare_chunk m.chunks)
is_legal c m k (NextPage chunk base page) = is_page_next (page_to_fill c m.chunks) chunk base page
is_legal c m k Enough = is_none (page_to_fill c m.chunks)
is_legal c m k (Filled chunk page) = can_fill (slice_get (chunks_numbered chunk m.chunks) 0) page
is_legal c m k (CutPart at) = same_option same_part_at (part_to_cut c at.cpu at.pages m.blocks) (Some at)
is_legal c m k (NoPart cpu pages) = is_none (part_to_cut c cpu pages m.blocks)
is_legal c m k (AddBlock at) = has_block_area c m at && (at.offset == 0)
is_legal c m k (SettlePart at serial) = same_option same_life (life_of_part at m.blocks) (Some (InHand k)) && (serial == slice_index m.next_part at.cpu)
is_legal c m k (BeginUnmap at serial) = same_list same_part_at (named_parts at.cpu (first_page at) serial m.blocks) (at ∷ [])
is_legal c m k (PartNotLive cpu page serial) = length (named_parts cpu page serial m.blocks) == 0
is_legal c m k (Retire at spent) = same_option same_life (life_of_part at m.blocks) (Some (InHand k)) && same_bool spent (spends c at (set_life at Ended m.blocks))
is_legal c m k (Fragment cpu gone) = same_list same_number gone (fragmented c cpu m.blocks)
is_legal c m k (Dirty cpu hull) = same_option same_span hull (dirty_hull cpu m.blocks)

-- each of the events is legal where it happens
abbrev pub are_legal : Machine → Setup → PlainMap → List Event → Bool
are_legal d c m [] = true
are_legal d c m (e ∷ events) = is_legal c m e.caller e.section && are_legal d c (d.does c m e.caller e.section) events
