-- What callers carry is kept: as tests on one world.
use Rattle.std.specs.Prelude.{ℕ, ◌+◌, ◌-◌, Bool, true, false, not, ◌&&◌, ◌||◌, nat_le, ◌==◌, [], ◌∷◌, length, slice_get, Option, Some, None}
use Rattle.std.specs.List.{list_all, list_any}
use Rattle.vm_model.specs.declared.areas.Area.{Area}
use Rattle.vm_model.specs.declared.areas.AreaKind.{AreaKind}
use Rattle.vm_model.specs.declared.areas.AreaKind.TheVariants as kind
use Rattle.vm_model.specs.Space.{span, covers, is_among, count_from}
use Rattle.vm_model.specs.Setup.{Setup, groups_at, pages_in_units}
use Rattle.vm_model.specs.PlainMap.{PlainMap, Mark, Held, Waits, Flushing, Block, Part, Chunk, Life, InHand, Lives, Ended}
use Rattle.vm_model.specs.Areas.{areas_at, mapped_part}
use Rattle.vm_model.specs.Blocks.{PartAt, size_of, life_of_part}
use Rattle.vm_model.specs.Chunks.{ObjectAt, pages_of_object, is_populated, life_of_object}
use Rattle.vm_model.specs.Places.{Place, Depopulating, SettlingObject, NotingFilled}
use Rattle.vm_model.specs.History.{World, Local}
use Rattle.vm_model.specs.Carried.{held, flushed, fresh, leaving, emptied, part_in_hand, object_in_hand, starts_out, part_spans, namings}
use Rattle.law_tests.specs.Same.{same_life, same_option}
use Rattle.law_tests.specs.PageChecks.{on_pages, on_spans, unmapped, mapped, stale, bare, marked}
use Rattle.law_tests.specs.TurnChecks.{turns_kept}

abbrev pub is_part_held : PlainMap → ℕ → Option PartAt → Bool
is_part_held m k None = true
is_part_held m k (Some at) = same_option same_life (life_of_part at m.blocks) (Some (InHand k))

abbrev pub is_object_held : PlainMap → ℕ → Option ObjectAt → Bool
is_object_held m k None = true
is_object_held m k (Some at) = same_option same_life (life_of_object at m.chunks) (Some (InHand k))

-- of a chunk that was taken out, just the populated pages are mapped
abbrev pub is_chunk_out : Setup → PlainMap → Place → Bool
is_chunk_out c m (Depopulating base populated) =
    on_spans c (groups_at c base) (λ page. (is_among (pages_in_units c base populated) page && mapped m page) || (not (is_among (pages_in_units c base populated) page) && unmapped m page))
is_chunk_out c m _ = true

abbrev pub is_carried : PlainMap → Local → Bool
is_carried m l =
    on_spans l.setup (held l.setup l.place) (marked m (Held l.caller)) && on_spans l.setup (flushed l.place) (marked m (Flushing l.caller)) && on_spans l.setup (fresh l.setup l.place) (bare m)
    && on_spans l.setup (leaving l.place) (mapped m) && on_spans l.setup (emptied l.setup l.place) (unmapped m) && is_chunk_out l.setup m l.place && is_part_held m l.caller (part_in_hand l.place)
    && is_object_held m l.caller (object_in_hand l.place) && list_all (λ start. length (areas_at start m.areas) == 1) (starts_out l.setup l.place)

-- blocks: the pages of their parts, those beyond the asked ones, and those that no part has
abbrev pub is_part_kept : Setup → PlainMap → Block → Part → Life → Bool
is_part_kept c m b p (Lives serial) = on_spans c (span (b.start + p.offset) p.pages ∷ []) (mapped m)
is_part_kept c m b p Ended = on_spans c (span (b.start + p.offset) (size_of p) ∷ []) (unmapped m)
is_part_kept c m b p (InHand caller) = true

abbrev pub is_block_kept : Setup → PlainMap → Block → Bool
is_block_kept c m b = list_all (λ (p : Part). is_part_kept c m b p p.life && on_spans c (span (b.start + p.offset + p.pages) (size_of p - p.pages) ∷ []) (bare m)) b.parts
    && on_spans c (span b.start c.block_pages ∷ []) (λ page. covers (part_spans b) page || bare m page)

-- areas that are no block's and no chunk's
abbrev pub is_area_kept : Setup → PlainMap → Area → AreaKind → Bool
is_area_kept c m a kind.Vmalloc = on_spans c (mapped_part kind.Vmalloc a.span ∷ []) (mapped m)
is_area_kept c m a kind.MapRam = on_spans c (a.span ∷ []) (mapped m)
is_area_kept c m a _ = true

-- chunks: none of their pages is stale, and each is unpopulated exactly where it is unmapped, or someone is populating it
abbrev pub is_being_populated : (chunk page : ℕ) → Place → Bool
is_being_populated chunk page (SettlingObject at) = (at.chunk == chunk) && is_among (pages_of_object at) page
is_being_populated chunk page (NotingFilled number own filled) = (number == chunk) && (own == page)
is_being_populated chunk page _ = false

abbrev pub is_page_populated : Setup → World → Chunk → ℕ → Bool
is_page_populated c w h page = (is_populated h page && list_all (mapped w.map) (pages_in_units c h.base (page ∷ [])))
    || (not (is_populated h page) && (list_all (unmapped w.map) (pages_in_units c h.base (page ∷ [])) || list_any (λ (l : Local). is_being_populated h.number page l.place) w.locals))

abbrev pub is_chunk_kept : Setup → World → Chunk → Bool
is_chunk_kept c w h = on_spans c (groups_at c h.base) (λ page. not (stale w.map page)) && list_all (is_page_populated c w h) (count_from c.unit_pages 0)

-- pages that wait or are flushed
abbrev pub is_passing : Option Mark → Bool
is_passing (Some Waits) = true
is_passing (Some (Flushing caller)) = true
is_passing _ = false

abbrev pub carried_kept : Setup → World → Bool
carried_kept c w = turns_kept w && list_all (is_carried w.map) w.locals && on_pages c (λ start. nat_le (namings c w start) 1) && on_pages c (λ page. not (is_passing (slice_get w.map.marks page)) || unmapped w.map page)
    && list_all (λ (a : Area). is_area_kept c w.map a a.kind) w.map.areas && list_all (is_block_kept c w.map) w.map.blocks && list_all (is_chunk_kept c w) w.map.chunks
