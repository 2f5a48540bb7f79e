-- Who has each page: a plain area, a block, a chunk, the waiting spans, a caller, or nobody where it is free.
use Rattle.std.specs.Prelude.{◌≡◌, ℕ, ◌+◌, ◌≤◌, Bool, true, false, not, ◌&&◌, ◌==◌, List, [], ◌∷◌, slice_get, sum_by, Some}
use Rattle.vm_model.specs.declared.areas.Span.{Span}
use Rattle.vm_model.specs.declared.areas.Area.{Area}
use Rattle.vm_model.specs.declared.areas.AreaKind.{AreaKind}
use Rattle.vm_model.specs.declared.areas.AreaKind.TheVariants as kind
use Rattle.vm_model.specs.Space.{span, holds, times, one_if}
use Rattle.vm_model.specs.Setup.{Setup, groups_at}
use Rattle.vm_model.specs.PlainMap.{PlainMap, Mark, Block, Chunk}
use Rattle.vm_model.specs.Places.{Place, PurgeFragmenting, PurgeUnlinking, AddingBlock, UnlinkingBlock, AddingChunk, Depopulating, UnlinkingGroups, block_spans}
use Rattle.vm_model.specs.History.{Local}
use Rattle.vm_model.specs.Carried.{held, flushed}
use Rattle.vm_model.specs.Laws.{as_free}

-- an area that is no block's and no chunk's
abbrev pub is_plain : AreaKind → Bool
is_plain kind.Vmalloc = true
is_plain kind.MapRam = true
is_plain (kind.Block cpu) = false
is_plain (kind.Chunk chunk group) = false

-- the block or chunk that a caller took out and whose areas it has yet to unlink, or that it has settled and has yet to add
abbrev pub out : Setup → Place → List Span
out c (PurgeFragmenting cpu gone extra after) = block_spans c gone
out c (PurgeUnlinking gone extra after) = block_spans c gone
out c (AddingBlock at) = block_spans c (at.block ∷ [])
out c (UnlinkingBlock start reply) = block_spans c (start ∷ [])
out c (AddingChunk base chunk bytes align) = groups_at c base
out c (Depopulating base populated) = groups_at c base
out c (UnlinkingGroups base) = groups_at c base
out c _ = []

-- what of the map has pages
pub record Pool : Type 0 where
  pub areas : List Area
  pub blocks : List Block
  pub chunks : List Chunk
  pub waiting : List Span
  pub marks : List Mark

abbrev pub pool_of : PlainMap → Pool
pool_of m = record { areas = m.areas; blocks = m.blocks; chunks = m.chunks; waiting = m.waiting; marks = m.marks }

-- in how many of the spans whose starts count the page is
abbrev pub times_from : (ℕ → Bool) → ℕ → List Span → ℕ
times_from counts page spans = sum_by (λ (s : Span). one_if (counts s.start && holds s page)) spans

-- all starts, and all but one
abbrev pub every : ℕ → Bool
every start = true

abbrev pub other_than : ℕ → ℕ → Bool
other_than own start = not (start == own)

-- how often a plain area, a block and a chunk has the page, blocks and chunks by the starts that count
abbrev pub of_area : ℕ → Area → ℕ
of_area page a = one_if (is_plain a.kind && holds a.span page)

abbrev pub of_block : Setup → (ℕ → Bool) → ℕ → Block → ℕ
of_block c counts page b = one_if (counts b.start && holds (span b.start c.block_pages) page)

abbrev pub of_chunk : Setup → (ℕ → Bool) → ℕ → Chunk → ℕ
of_chunk c counts page h = times_from counts page (groups_at c h.base)

abbrev pub of_pool : Setup → Pool → (ℕ → Bool) → ℕ → ℕ
of_pool c p counts page =
    sum_by (of_area page) p.areas + sum_by (of_block c counts page) p.blocks + sum_by (of_chunk c counts page) p.chunks + times page p.waiting + as_free (slice_get p.marks page)

-- and a caller at its place
abbrev pub of_place : Setup → Place → (ℕ → Bool) → ℕ → ℕ
of_place c place counts page = times page (held c place) + times page (flushed place) + times_from counts page (out c place)

abbrev pub of_locals : Setup → List Local → (ℕ → Bool) → ℕ → ℕ
of_locals c locals counts page = sum_by (λ (l : Local). of_place c l.place counts page) locals

-- each page has at most one owner; where an area of a block or a chunk has it, that block or chunk begins where the area does, and nobody else has it
pub record HaveOneOwner (c : Setup) (p : Pool) (own : (ℕ → Bool) → ℕ → ℕ) : Type 0 where
  pub once : (page : ℕ) → of_pool c p every page + own every page ≤ 1
  pub areas : (i : ℕ) (a : Area) → slice_get p.areas i ≡ Some a → is_plain a.kind ≡ false → (page : ℕ) → holds a.span page ≡ true
      → of_pool c p (other_than a.span.start) page + own (other_than a.span.start) page ≡ 0
