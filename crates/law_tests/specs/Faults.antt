-- Machines with one fault each: in what the map gives, in what a section does, or in where a caller goes.
use Rattle.std.specs.Prelude.{ℕ, suc, ◌+◌, ◌-◌, ◌*◌, ◌++◌, take, slice_index, Option, None, option_map, option_to_list}
use Rattle.vm_model.specs.Space.{span, holds, covers, pages_of, paint, hull}
use Rattle.vm_model.specs.Setup.{Setup, pages_in_units}
use Rattle.vm_model.specs.PlainMap.{PlainMap, Free, Held}
use Rattle.vm_model.specs.Frames.{add_word}
use Rattle.vm_model.specs.Chunks.{copy_at}
use Rattle.vm_model.specs.Events.{Section, ForPages, Carve, Drop, Wait, Remove, GivePurge, MapPages, Populate, Unmap, AddWord, CutPart, Filled}
use Rattle.vm_model.specs.Effects.{effect_as, with_mapped, with_unmapped, with_zeroed}
use Rattle.vm_model.specs.Told.{spans_taken}
use Rattle.vm_model.specs.Places.{Place, Ask, AskSearch, PurgeCollecting, PurgeReturning, PurgeTaking}
use Rattle.vm_model.specs.Next.{Next, Go, next, after_collecting}
use Rattle.vm_model.specs.Given.{given}
use Rattle.law_tests.specs.Machines.{Machine, model}

-- In what a section does.

-- the last page of what a search found stays free
abbrev pub carve_less : Setup → PlainMap → (caller : ℕ) → Section → PlainMap
carve_less c m k (Carve place align) = record m { marks = paint (holds (span place.start (place.pages - 1))) (Held k) m.marks }
carve_less c m k s = effect_as c m k s

-- all that a search found stays free
abbrev pub carve_nothing : Setup → PlainMap → (caller : ℕ) → Section → PlainMap
carve_nothing c m k (Carve place align) = m
carve_nothing c m k s = effect_as c m k s

-- one page more gets a frame
abbrev pub map_more : Setup → PlainMap → (caller : ℕ) → Section → PlainMap
map_more c m k (MapPages s) = with_mapped c (pages_of (span s.start (suc s.pages))) m
map_more c m k s = effect_as c m k s

-- the first page keeps its frame
abbrev pub unmap_less : Setup → PlainMap → (caller : ℕ) → Section → PlainMap
unmap_less c m k (Unmap s) = with_unmapped (holds (span (suc s.start) (s.pages - 1))) m
unmap_less c m k s = effect_as c m k s

-- pages that are freed don't wait
abbrev pub free_at_once : Setup → PlainMap → (caller : ℕ) → Section → PlainMap
free_at_once c m k (Wait spans waiting) = record m { marks = paint (covers spans) Free m.marks }
free_at_once c m k s = effect_as c m k s

-- a span that gets no frames isn't given back
abbrev pub drop_nothing : Setup → PlainMap → (caller : ℕ) → Section → PlainMap
drop_nothing c m k (Drop s) = m
drop_nothing c m k s = effect_as c m k s

-- an object's pages get frames in the first unit only
abbrev pub populate_first : Setup → PlainMap → (caller : ℕ) → Section → PlainMap
populate_first c m k (Populate at missing) = with_zeroed c at (with_mapped c (pages_in_units (record c { units = take 1 c.units }) at.base missing) m)
populate_first c m k s = effect_as c m k s

-- an add goes to the next word, too, or is made twice
abbrev pub add_to_next : Setup → PlainMap → (caller : ℕ) → Section → PlainMap
add_to_next c m k (AddWord at serial cpu index amount) =
    let own : ℕ = copy_at at (slice_index c.units cpu) + 4 * index in
    record m { cells = add_word m.frames (own + 4) amount (add_word m.frames own amount m.cells) }
add_to_next c m k s = effect_as c m k s

abbrev pub add_twice : Setup → PlainMap → (caller : ℕ) → Section → PlainMap
add_twice c m k (AddWord at serial cpu index amount) =
    let own : ℕ = copy_at at (slice_index c.units cpu) + 4 * index in
    record m { cells = add_word m.frames own amount (add_word m.frames own amount m.cells) }
add_twice c m k s = effect_as c m k s

-- each part begins where its block does
abbrev pub cut_first : Setup → PlainMap → (caller : ℕ) → Section → PlainMap
cut_first c m k (CutPart at) = effect_as c m k (CutPart (record at { offset = 0 }))
cut_first c m k s = effect_as c m k s

-- the purge turn isn't given back
abbrev pub keep_purge : Setup → PlainMap → (caller : ℕ) → Section → PlainMap
keep_purge c m k GivePurge = m
keep_purge c m k s = effect_as c m k s

-- a removed area stays among the live ones
abbrev pub remove_nothing : Setup → PlainMap → (caller : ℕ) → Section → PlainMap
remove_nothing c m k (Remove start serial area) = record m { marks = paint (holds area.span) (Held k) m.marks }
remove_nothing c m k s = effect_as c m k s

-- a drop counts as an area
abbrev pub drop_with_serial : Setup → PlainMap → (caller : ℕ) → Section → PlainMap
drop_with_serial c m k (Drop s) = record m { marks = paint (holds s) Free m.marks; next_area = suc m.next_area }
drop_with_serial c m k s = effect_as c m k s

-- a filled page isn't noted
abbrev pub note_nothing : Setup → PlainMap → (caller : ℕ) → Section → PlainMap
note_nothing c m k (Filled chunk page) = m
note_nothing c m k s = effect_as c m k s

-- In what the map gives.

-- a search looks at no alignment, or takes the place behind the lowest
abbrev pub align_nothing : Setup → PlainMap → Ask → Option Section
align_nothing c m (AskSearch (ForPages pages align)) = given c m (AskSearch (ForPages pages 1))
align_nothing c m a = given c m a

abbrev pub one_higher : Section → Section
one_higher (Carve place align) = Carve (span (suc place.start) place.pages) align
one_higher s = s

abbrev pub search_higher : Setup → PlainMap → Ask → Option Section
search_higher c m (AskSearch (ForPages pages align)) = option_map one_higher (given c m (AskSearch (ForPages pages align)))
search_higher c m a = given c m a

-- In where a caller goes.

-- a purge flushes the first of the spans only
abbrev pub flush_first : Setup → Place → Section → Next
flush_first c (PurgeCollecting extra after) told = after_collecting (spans_taken told) (hull (take 1 (spans_taken told) ++ option_to_list extra)) after
flush_first c p told = next c p told

-- a purge begins again before it gives its turn back
abbrev pub purge_again : Setup → Place → Section → Next
purge_again c (PurgeReturning waited after) told = Go (PurgeTaking None after)
purge_again c p told = next c p told

-- The machines.

abbrev pub with_effect : (Setup → PlainMap → (caller : ℕ) → Section → PlainMap) → Machine
with_effect does = record model { does = does }

abbrev pub with_gift : (Setup → PlainMap → Ask → Option Section) → Machine
with_gift gives = record model { gives = gives }

abbrev pub with_way : (Setup → Place → Section → Next) → Machine
with_way leads = record model { leads = leads }
