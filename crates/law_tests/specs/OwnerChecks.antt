-- Who has each page, and that the map falls apart into its regions: as tests on one world.
use Rattle.std.specs.Prelude.{ℕ, ◌+◌, Bool, true, not, ◌&&◌, ◌||◌, nat_lt, nat_le, ◌==◌, List, [], ◌∷◌, length, map}
use Rattle.std.specs.List.{list_all, list_any}
use Rattle.vm_model.specs.declared.areas.Area.{Area}
use Rattle.vm_model.specs.Space.{holds, is_free_at}
use Rattle.vm_model.specs.Setup.{Setup, cpus}
use Rattle.vm_model.specs.PlainMap.{PlainMap, Block, Part, Life, InHand, taken}
use Rattle.vm_model.specs.Areas.{named_areas, areas_starting, spans_of}
use Rattle.vm_model.specs.Blocks.{PartAt, size_of, parts_size, is_spent}
use Rattle.vm_model.specs.Places.{Place, MappingPart, SettlingPart, UnmappingPart, Retiring, Ask, AskSettle, AskRemove, AskUnlink, AskWait, AskTakeWaiting, AskPart, AskAddBlock, AskSettlePart, AskBegin, AskRetire, AskFragment, AskDirty, ask}
use Rattle.vm_model.specs.History.{World, Local}
use Rattle.map_parts.specs.Owners.{is_plain, pool_of, every, other_than, of_pool, of_locals}
use Rattle.law_tests.specs.Same.{same_life}
use Rattle.law_tests.specs.PageChecks.{on_pages, on_spans}

-- each page has one owner at most, and where an area of a block or a chunk has it, nobody that starts elsewhere has
abbrev pub is_area_owned : Setup → World → Area → Bool
is_area_owned c w a = is_plain a.kind || on_pages c (λ page. not (holds a.span page) || (of_pool c (pool_of w.map) (other_than a.span.start) page + of_locals c w.locals (other_than a.span.start) page == 0))

abbrev pub have_one_owner : Setup → World → Bool
have_one_owner c w = on_pages c (λ page. nat_le (of_pool c (pool_of w.map) every page + of_locals c w.locals every page) 1) && list_all (is_area_owned c w) w.map.areas

-- the parts of a block follow each other, fit into it, and don't spend it
abbrev pub are_in_row : ℕ → List Part → Bool
are_in_row from [] = true
are_in_row from (p ∷ parts) = (p.offset == from) && are_in_row (from + size_of p) parts

abbrev pub is_block_whole : Setup → Block → Bool
is_block_whole c b = are_in_row 0 b.parts && nat_le (parts_size b.parts) c.block_pages && not (is_spent c b)

abbrev pub is_whole : Setup → PlainMap → Bool
is_whole c m = (length m.marks == c.space) && (length m.next_part == cpus c) && list_all (λ (a : Area). nat_lt a.serial m.next_area) m.areas && list_all (is_block_whole c) m.blocks

-- a part that a caller has at its place is in its hand, with the pages that it names
abbrev pub has_part : PlainMap → PartAt → Life → Bool
has_part m at life = list_any (λ (b : Block). (b.start == at.block) && (b.cpu == at.cpu) && list_any (λ (p : Part). (p.offset == at.offset) && (p.pages == at.pages) && same_life p.life life) b.parts) m.blocks

abbrev pub is_sound_place : PlainMap → (caller : ℕ) → Place → Bool
is_sound_place m k (MappingPart at) = has_part m at (InHand k)
is_sound_place m k (SettlingPart at) = has_part m at (InHand k)
is_sound_place m k (UnmappingPart at) = has_part m at (InHand k)
is_sound_place m k (Retiring at reply) = has_part m at (InHand k)
is_sound_place m k _ = true

abbrev pub keeps_apart : Setup → World → Bool
keeps_apart c w = is_whole c w.map && have_one_owner c w && list_all (λ (l : Local). is_sound_place w.map l.caller l.place) w.locals

-- blocks that begin at one page are of one processor, and what an ask names outside of the free pages is taken
abbrev pub own_starts : List Block → Bool
own_starts blocks = list_all (λ (b : Block). list_all (λ (d : Block). not (d.start == b.start) || (d.cpu == b.cpu)) blocks) blocks

abbrev pub is_of_cpu : PartAt → List Block → Bool
is_of_cpu at blocks = list_all (λ (b : Block). not (b.start == at.block) || (b.cpu == at.cpu)) blocks

abbrev pub stays_within : Setup → PlainMap → Ask → Bool
stays_within c m (AskSettle areas) = on_spans c (map (λ a. a.0) areas) (λ page. not (is_free_at (taken m) page))
stays_within c m (AskRemove start serial) = on_spans c (spans_of (named_areas start serial m.areas)) (λ page. not (is_free_at (taken m) page))
stays_within c m (AskUnlink starts) = on_spans c (spans_of (areas_starting starts m.areas)) (λ page. not (is_free_at (taken m) page))
stays_within c m (AskWait spans) = on_spans c spans (λ page. not (is_free_at (taken m) page))
stays_within c m AskTakeWaiting = on_spans c m.waiting (λ page. not (is_free_at (taken m) page))
stays_within c m (AskPart cpu pages) = nat_lt cpu (cpus c)
stays_within c m (AskAddBlock at) = nat_lt at.cpu (cpus c)
stays_within c m (AskSettlePart at) = nat_lt at.cpu (cpus c) && is_of_cpu at m.blocks
stays_within c m (AskBegin cpu page serial) = nat_lt cpu (cpus c)
stays_within c m (AskRetire at) = nat_lt at.cpu (cpus c) && is_of_cpu at m.blocks
stays_within c m (AskFragment cpu) = nat_lt cpu (cpus c)
stays_within c m (AskDirty cpu) = nat_lt cpu (cpus c)
stays_within c m _ = true

abbrev pub falls_apart : Setup → World → Bool
falls_apart c w = own_starts w.map.blocks && list_all (λ (l : Local). stays_within c w.map (ask l.setup l.place)) w.locals
