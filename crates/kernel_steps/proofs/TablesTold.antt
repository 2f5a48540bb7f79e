-- The tables of a kernel that stands in a world.
use Rattle.std.proofs.Common.{◌-◌, drop, slice_index, lit<, slice_index_or, append-nil, add-one, ◌≡◌, ℕ, suc, ◌+◌, ◌/◌, ◌<◌, ◌≤◌, All, List, [], ◌∷◌, ◌++◌, length, map, take, slice_get, filter, not, Some, refl, ap, sym, ◌∙◌, subst, arith}
use Rattle.std.proofs.lemmas.Grind.{flat_map-append}
use Rattle.vm_model.specs.declared.calls.Call.{Call}
use Rattle.vm_model.specs.declared.calls.Entry.{Entry}
use Rattle.vm_model.specs.Setup.{Setup, cpus}
use Rattle.vm_model.specs.Blocks.{blocks_of}
use Rattle.vm_model.specs.Events.{Event}
use Rattle.vm_model.specs.Calls.{Answered}
use Rattle.vm_model.specs.History.{World, Local}
use Rattle.vm_model.specs.Tables.{numbers_of, entries_from, entries_of}
use Rattle.history_book.specs.declared.noted.Noted.{Noted}
use Rattle.history_book.specs.BookRows.{BookRows}
use Rattle.history_book.specs.BookEntries.{places_of, note_of, AreNotedOf}
use Rattle.history_book.proofs.PlacesSoFar.{places_of-callers}
use Rattle.section_laws.specs.Lawful.{IsRunning}
use Rattle.std.proofs.lemmas.List.{take_all, length-drop}
use Rattle.std.proofs.lemmas.List.Elements.{All-nil, All-cons}
use Rattle.kernel_steps.specs.Kernels.{KernelState, IsStanding, IsSomewhere, IsOfBlocks, movers}
use Rattle.section_core.proofs.LawfulCallers.{sound}
use Rattle.section_core.proofs.CountedEvents.{reached_counted, events_of, length-numbers_of}
use Rattle.callers.proofs.AnswersGiven.{take_one}
use Rattle.section_core.proofs.LawfulRegions.{free_there, pages_there}
use Rattle.section_laws.proofs.Memory.{memory_reached}
use Rattle.page_pool.specs.PageMap as pool
use Rattle.std.proofs.lemmas.List.{length-map}
use Rattle.std.proofs.Math.Nat.{mul-div_cancel_left}
use Rattle.std.proofs.lemmas.Option.{slice_get_read}
use Rattle.vm_model.specs.declared.areas.Span.{Span}
use Rattle.vm_model.specs.declared.areas.Area.{Area}
use Rattle.vm_model.specs.declared.tables.Tables.{Tables}
use Rattle.vm_model.specs.Space.{count_from}
use Rattle.vm_model.specs.PlainMap.{PlainMap, Chunk, free_runs}
use Rattle.vm_model.specs.Frames.{free_frames, is_used}
use Rattle.vm_model.specs.Parts.{FreeRuns, LiveAreas, Pages, Percpu, Region, WaitingSpans, cpu_blocks, regions_of}
use Rattle.map_laws.proofs.TraceWorlds.{trace_reached}
use Rattle.chunk_slots.specs.ChunkRegion.{AreOfUnits}
use Rattle.chunk_slots.proofs.ChunkPages.{of_units}

-- a caller's events are its places among the movers
own_places : (c : Setup) (opening : List Call) (calls : List (List Call)) (w : World) (k : ℕ) (l : Local) → IsRunning c opening calls w → slice_get w.locals k ≡ Some l → length (places_of l.caller 1 (movers w.events)) ≡ l.events
own_places c opening calls w k l is here =
    let caller = (sound c opening calls w is k l here).caller in
    ap length (places_of-callers l.caller 1 w.events) ∙ length-numbers_of l.caller 1 w.events ∙ ap (λ j. events_of j w.events) caller ∙ sym ((reached_counted c opening calls w is.reached).own k l here)

-- what a book noted happened
pub book_fits : (k : KernelState) (held : List ℕ) (i : ℕ) (l : Local) (book : BookRows) → IsSomewhere k → held ≡ k.moved → slice_get k.locals i ≡ Some l → book.caller ≡ l.caller → All (λ (n : Noted). n.own_event ≤ l.events) book.rows
    → All (λ (n : Noted). n.own_event ≤ length (places_of book.caller 1 held)) book.rows
book_fits k held i l book is same here caller noted =
    let st = is.4 in
    let at : slice_get is.3.locals i ≡ Some l = ap (λ ls. slice_get ls i) (sym st.locals) ∙ here in
    let places : length (places_of book.caller 1 held) ≡ l.events =
    ap (λ j. length (places_of j 1 held)) caller ∙ ap (λ xs. length (places_of l.caller 1 xs)) (same ∙ st.moved) ∙ own_places is.0 is.1 is.2 is.3 i l st.running at in
    subst (λ n. All (λ (row : Noted). row.own_event ≤ n) book.rows) (sym places) noted

entries_more : (events : List Event) (locals : List Local) (i : ℕ) (l : Local) → slice_get locals i ≡ Some l
    → entries_of events (take i locals) ++ entries_from (numbers_of l.caller 1 events) l.caller 1 l.answers ≡ entries_of events (take (suc i) locals)
entries_more events locals i l here =
    ap (λ xs. entries_of events (take i locals) ++ xs) (sym (append-nil (entries_from (numbers_of l.caller 1 events) l.caller 1 l.answers)))
    ∙ sym (flat_map-append (λ (x : Local). entries_from (numbers_of x.caller 1 events) x.caller 1 x.answers) (take i locals) (l ∷ []))
    ∙ ap (entries_of events) (sym (take_one locals i l here))

-- one caller's entries more
pub entries_next : (c : Setup) (opening : List Call) (calls : List (List Call)) (w : World) (k : KernelState) (i : ℕ) (l : Local) (caller : ℕ) (rows : List Noted) (held : List ℕ) (entries entries' : List Entry) → IsStanding c opening calls w k
    → slice_get k.locals i ≡ Some l → caller ≡ l.caller → rows ≡ map note_of l.answers → held ≡ k.moved → entries ≡ entries_of w.events (take i w.locals)
    → ((answers : List Answered) (events : List Event) → AreNotedOf rows held answers events → entries' ≡ entries ++ entries_from (numbers_of caller 1 events) caller 1 answers)
    → entries' ≡ entries_of w.events (take (i + 1) w.locals)
entries_next c opening calls w k i l caller rows held entries entries' st here mine noted same told more =
    let at : slice_get w.locals i ≡ Some l = ap (λ ls. slice_get ls i) (sym st.locals) ∙ here in
    more l.answers w.events (record { answered = sym noted; moved = sym (same ∙ st.moved) })
    ∙ ap (λ xs. xs ++ entries_from (numbers_of caller 1 w.events) caller 1 l.answers) told
    ∙ ap (λ j. entries_of w.events (take i w.locals) ++ entries_from (numbers_of j 1 w.events) j 1 l.answers) mine
    ∙ entries_more w.events w.locals i l at ∙ ap (λ n. entries_of w.events (take n w.locals)) (sym (add-one i))

-- tables that agree in each part
pub same_tables : (t u : Tables) → t.entries ≡ u.entries → t.events ≡ u.events → t.frames ≡ u.frames → t.mapped ≡ u.mapped → t.stale ≡ u.stale → t.free ≡ u.free → t.areas ≡ u.areas → t.waiting ≡ u.waiting → t.blocks ≡ u.blocks → t.parts ≡ u.parts → t.chunks ≡ u.chunks → t.objects ≡ u.objects → t.tree_blocks ≡ u.tree_blocks → t.tree_largest ≡ u.tree_largest → t.plain_largest ≡ u.plain_largest → t.chunk_audit ≡ u.chunk_audit → t.hints ≡ u.hints → t ≡ u
same_tables t u e0 e1 e2 e3 e4 e5 e6 e7 e8 e9 e10 e11 e12 e13 e14 e15 e16 =
    ap (λ x. record { entries = x; events = t.events; frames = t.frames; mapped = t.mapped; stale = t.stale; free = t.free; areas = t.areas; waiting = t.waiting; blocks = t.blocks; parts = t.parts; chunks = t.chunks; objects = t.objects; tree_blocks = t.tree_blocks; tree_largest = t.tree_largest; plain_largest = t.plain_largest; chunk_audit = t.chunk_audit; hints = t.hints }) e0
    ∙ ap (λ x. record { entries = u.entries; events = x; frames = t.frames; mapped = t.mapped; stale = t.stale; free = t.free; areas = t.areas; waiting = t.waiting; blocks = t.blocks; parts = t.parts; chunks = t.chunks; objects = t.objects; tree_blocks = t.tree_blocks; tree_largest = t.tree_largest; plain_largest = t.plain_largest; chunk_audit = t.chunk_audit; hints = t.hints }) e1
    ∙ ap (λ x. record { entries = u.entries; events = u.events; frames = x; mapped = t.mapped; stale = t.stale; free = t.free; areas = t.areas; waiting = t.waiting; blocks = t.blocks; parts = t.parts; chunks = t.chunks; objects = t.objects; tree_blocks = t.tree_blocks; tree_largest = t.tree_largest; plain_largest = t.plain_largest; chunk_audit = t.chunk_audit; hints = t.hints }) e2
    ∙ ap (λ x. record { entries = u.entries; events = u.events; frames = u.frames; mapped = x; stale = t.stale; free = t.free; areas = t.areas; waiting = t.waiting; blocks = t.blocks; parts = t.parts; chunks = t.chunks; objects = t.objects; tree_blocks = t.tree_blocks; tree_largest = t.tree_largest; plain_largest = t.plain_largest; chunk_audit = t.chunk_audit; hints = t.hints }) e3
    ∙ ap (λ x. record { entries = u.entries; events = u.events; frames = u.frames; mapped = u.mapped; stale = x; free = t.free; areas = t.areas; waiting = t.waiting; blocks = t.blocks; parts = t.parts; chunks = t.chunks; objects = t.objects; tree_blocks = t.tree_blocks; tree_largest = t.tree_largest; plain_largest = t.plain_largest; chunk_audit = t.chunk_audit; hints = t.hints }) e4
    ∙ ap (λ x. record { entries = u.entries; events = u.events; frames = u.frames; mapped = u.mapped; stale = u.stale; free = x; areas = t.areas; waiting = t.waiting; blocks = t.blocks; parts = t.parts; chunks = t.chunks; objects = t.objects; tree_blocks = t.tree_blocks; tree_largest = t.tree_largest; plain_largest = t.plain_largest; chunk_audit = t.chunk_audit; hints = t.hints }) e5
    ∙ ap (λ x. record { entries = u.entries; events = u.events; frames = u.frames; mapped = u.mapped; stale = u.stale; free = u.free; areas = x; waiting = t.waiting; blocks = t.blocks; parts = t.parts; chunks = t.chunks; objects = t.objects; tree_blocks = t.tree_blocks; tree_largest = t.tree_largest; plain_largest = t.plain_largest; chunk_audit = t.chunk_audit; hints = t.hints }) e6
    ∙ ap (λ x. record { entries = u.entries; events = u.events; frames = u.frames; mapped = u.mapped; stale = u.stale; free = u.free; areas = u.areas; waiting = x; blocks = t.blocks; parts = t.parts; chunks = t.chunks; objects = t.objects; tree_blocks = t.tree_blocks; tree_largest = t.tree_largest; plain_largest = t.plain_largest; chunk_audit = t.chunk_audit; hints = t.hints }) e7
    ∙ ap (λ x. record { entries = u.entries; events = u.events; frames = u.frames; mapped = u.mapped; stale = u.stale; free = u.free; areas = u.areas; waiting = u.waiting; blocks = x; parts = t.parts; chunks = t.chunks; objects = t.objects; tree_blocks = t.tree_blocks; tree_largest = t.tree_largest; plain_largest = t.plain_largest; chunk_audit = t.chunk_audit; hints = t.hints }) e8
    ∙ ap (λ x. record { entries = u.entries; events = u.events; frames = u.frames; mapped = u.mapped; stale = u.stale; free = u.free; areas = u.areas; waiting = u.waiting; blocks = u.blocks; parts = x; chunks = t.chunks; objects = t.objects; tree_blocks = t.tree_blocks; tree_largest = t.tree_largest; plain_largest = t.plain_largest; chunk_audit = t.chunk_audit; hints = t.hints }) e9
    ∙ ap (λ x. record { entries = u.entries; events = u.events; frames = u.frames; mapped = u.mapped; stale = u.stale; free = u.free; areas = u.areas; waiting = u.waiting; blocks = u.blocks; parts = u.parts; chunks = x; objects = t.objects; tree_blocks = t.tree_blocks; tree_largest = t.tree_largest; plain_largest = t.plain_largest; chunk_audit = t.chunk_audit; hints = t.hints }) e10
    ∙ ap (λ x. record { entries = u.entries; events = u.events; frames = u.frames; mapped = u.mapped; stale = u.stale; free = u.free; areas = u.areas; waiting = u.waiting; blocks = u.blocks; parts = u.parts; chunks = u.chunks; objects = x; tree_blocks = t.tree_blocks; tree_largest = t.tree_largest; plain_largest = t.plain_largest; chunk_audit = t.chunk_audit; hints = t.hints }) e11
    ∙ ap (λ x. record { entries = u.entries; events = u.events; frames = u.frames; mapped = u.mapped; stale = u.stale; free = u.free; areas = u.areas; waiting = u.waiting; blocks = u.blocks; parts = u.parts; chunks = u.chunks; objects = u.objects; tree_blocks = x; tree_largest = t.tree_largest; plain_largest = t.plain_largest; chunk_audit = t.chunk_audit; hints = t.hints }) e12
    ∙ ap (λ x. record { entries = u.entries; events = u.events; frames = u.frames; mapped = u.mapped; stale = u.stale; free = u.free; areas = u.areas; waiting = u.waiting; blocks = u.blocks; parts = u.parts; chunks = u.chunks; objects = u.objects; tree_blocks = u.tree_blocks; tree_largest = x; plain_largest = t.plain_largest; chunk_audit = t.chunk_audit; hints = t.hints }) e13
    ∙ ap (λ x. record { entries = u.entries; events = u.events; frames = u.frames; mapped = u.mapped; stale = u.stale; free = u.free; areas = u.areas; waiting = u.waiting; blocks = u.blocks; parts = u.parts; chunks = u.chunks; objects = u.objects; tree_blocks = u.tree_blocks; tree_largest = u.tree_largest; plain_largest = x; chunk_audit = t.chunk_audit; hints = t.hints }) e14
    ∙ ap (λ x. record { entries = u.entries; events = u.events; frames = u.frames; mapped = u.mapped; stale = u.stale; free = u.free; areas = u.areas; waiting = u.waiting; blocks = u.blocks; parts = u.parts; chunks = u.chunks; objects = u.objects; tree_blocks = u.tree_blocks; tree_largest = u.tree_largest; plain_largest = u.plain_largest; chunk_audit = x; hints = t.hints }) e15
    ∙ ap (λ x. record { entries = u.entries; events = u.events; frames = u.frames; mapped = u.mapped; stale = u.stale; free = u.free; areas = u.areas; waiting = u.waiting; blocks = u.blocks; parts = u.parts; chunks = u.chunks; objects = u.objects; tree_blocks = u.tree_blocks; tree_largest = u.tree_largest; plain_largest = u.plain_largest; chunk_audit = u.chunk_audit; hints = x }) e16

-- the regions of a kernel by their numbers
pub region_at : (c : Setup) (opening : List Call) (calls : List (List Call)) (w : World) (k : KernelState) (held : List Region) (n : ℕ) (r : Region) → IsStanding c opening calls w k → held ≡ k.regions → r ≡ slice_index_or held n r → n < length held
    → slice_get (regions_of c w.map) n ≡ Some r
region_at c opening calls w k held n r st same at low =
    ap (λ rs. slice_get rs n) (sym (same ∙ st.regions)) ∙ slice_get_read held (length held) n r refl low at

pub all_regions : (c : Setup) (opening : List Call) (calls : List (List Call)) (w : World) (k : KernelState) (held : List Region) → IsStanding c opening calls w k → held ≡ k.regions → 8 ≤ length held
all_regions c opening calls w k held st same = let n = ap length (same ∙ st.regions) in omega arith

pub free_is : (c : Setup) (m : PlainMap) (r : Region) (blocks : List Span) → slice_get (regions_of c m) 3 ≡ Some r → r ≡ FreeRuns blocks → blocks ≡ free_runs m
free_is c m r blocks at is = sym (free_there c m 3 blocks (at ∙ ap (λ r. Some r) is))

pub pages_are : (c : Setup) (m : PlainMap) (r : Region) (p : pool.Pages) → slice_get (regions_of c m) 6 ≡ Some r → r ≡ Pages p.frames p.stale p.cells → p ≡ record { frames = m.frames; stale = m.stale; cells = m.cells }
pages_are c m r p at is = sym (pages_there c m 6 p (at ∙ ap (λ r. Some r) is))

abbrev areas_held : Region → List Area
areas_held (LiveAreas areas next) = areas
areas_held _ = []

pub areas_are : (c : Setup) (m : PlainMap) (r : Region) (areas : List Area) (next : ℕ) → slice_get (regions_of c m) 4 ≡ Some r → r ≡ LiveAreas areas next → areas ≡ m.areas
areas_are c m r areas next at is = let same : LiveAreas areas next ≡ LiveAreas m.areas m.next_area = (let both : Some (LiveAreas m.areas m.next_area) ≡ Some (LiveAreas areas next) = at ∙ ap (λ r. Some r) is in cc) in ap areas_held same

abbrev waiting_held : Region → List Span
waiting_held (WaitingSpans spans) = spans
waiting_held _ = []

pub waiting_is : (c : Setup) (m : PlainMap) (r : Region) (spans : List Span) → slice_get (regions_of c m) 5 ≡ Some r → r ≡ WaitingSpans spans → spans ≡ m.waiting
waiting_is c m r spans at is = let same : WaitingSpans spans ≡ WaitingSpans m.waiting = (let both : Some (WaitingSpans m.waiting) ≡ Some (WaitingSpans spans) = at ∙ ap (λ r. Some r) is in cc) in ap waiting_held same

abbrev chunks_held : Region → List Chunk
chunks_held (Percpu chunks object chunk room) = chunks
chunks_held _ = []

pub chunks_are : (c : Setup) (m : PlainMap) (r : Region) (chunks : List Chunk) (object chunk room : ℕ) → slice_get (regions_of c m) 7 ≡ Some r → r ≡ Percpu chunks object chunk room → chunks ≡ m.chunks
chunks_are c m r chunks object chunk room at is =
    let same : Percpu chunks object chunk room ≡ Percpu m.chunks m.next_object m.next_chunk m.room = (let both : Some (Percpu m.chunks m.next_object m.next_chunk m.room) ≡ Some (Percpu chunks object chunk room) = at ∙ ap (λ r. Some r) is in cc) in
    ap chunks_held same

-- the chunks of a world have the pages of its machine's units
pub world_units : (c : Setup) (opening : List Call) (calls : List (List Call)) (w : World) → IsRunning c opening calls w → AreOfUnits c.unit_pages w.map.chunks
world_units c opening calls w is = of_units c.unit_pages w.map.chunks (λ i h at. ((trace_reached c opening calls is.trace w is.reached).1.chunks.chunks h (record { place = i; at = at })).long)

-- the free frames of the page map are those of the world
pub free_count : (c : Setup) (opening : List Call) (calls : List (List Call)) (w : World) → IsRunning c opening calls w → length (pool.free_of (record { frames = w.map.frames; stale = w.map.stale; cells = w.map.cells })) ≡ length (free_frames c w.map.frames)
free_count c opening calls w is =
    let same : length w.map.cells / 1024 ≡ c.frames = ap (λ n. n / 1024) (memory_reached c opening calls w is.reached) ∙ mul-div_cancel_left c.frames (lit< tt) in
    ap (λ n. length (filter (λ frame. not (is_used frame w.map.frames)) (count_from n 0))) same

pub length-movers : (events : List Event) → length (movers events) ≡ length events
length-movers events = length-map events (λ (e : Event). e.caller)

-- the regions behind the first eight are those of the processors' blocks
all_of_blocks : (m : PlainMap) (pages : ℕ) (cpus_here : List ℕ) → All IsOfBlocks (map (cpu_blocks m pages) cpus_here)
all_of_blocks m pages [] = All-nil IsOfBlocks
all_of_blocks m pages (cpu ∷ rest) = All-cons IsOfBlocks (cpu_blocks m pages cpu) (map (cpu_blocks m pages) rest) (cpu, pages, blocks_of cpu m.blocks, slice_index m.next_part cpu, refl) (all_of_blocks m pages rest)

pub behind : (items regions part : List Region) → items ≡ regions → part ≡ take (length items - 8) (drop 8 items) → part ≡ drop 8 regions
behind items regions part same is = is ∙ take_all (length items - 8) (drop 8 items) (let wide = length-drop 8 items in omega arith) ∙ ap (drop 8) same

pub blocks_behind : (k : KernelState) (part : List Region) → IsSomewhere k → part ≡ take (length k.regions - 8) (drop 8 k.regions) → All IsOfBlocks part
blocks_behind k part is e =
    let st = is.4 in
    subst (All IsOfBlocks) (sym (behind k.regions (regions_of is.0 is.3.map) part st.regions e)) (all_of_blocks is.3.map is.0.block_pages (count_from (cpus is.0) 0))
