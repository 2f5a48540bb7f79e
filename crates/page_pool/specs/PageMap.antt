-- The page map, as a list of pages, and the cells of its frames.
use Rattle.std.specs.Prelude.{◌≡◌, ℕ, ◌*◌, ◌^◌, ◌/◌, ◌<◌, Bool, true, false, not, List, length, filter, replicate, count_by, slice_get, Option, Some, None, is_some, ℤ, pos}
use Rattle.vm_model.specs.declared.areas.Span.{Span}
use Rattle.vm_model.specs.Space.{holds, count_from, pages_of, paint}
use Rattle.vm_model.specs.Frames.{is_used, give_frames}
use Rattle.page_pool.specs.FrameList.{FrameList, AreShared}

-- of each page its frame and whether it is stale, and of each frame in turn 1,024 cells
pub record Pages : Type 0 where
  pub frames : List (Option ℕ)
  pub stale : List Bool
  pub cells : List ℤ

-- how many frames of memory there are
abbrev pub memory : Pages → ℕ
memory p = length p.cells / 1024

-- the frames that no page has, lowest first
abbrev pub free_of : Pages → List ℕ
free_of p = filter (λ frame. not (is_used frame p.frames)) (count_from (memory p) 0)

-- nothing is mapped, nothing is stale, and each cell is 0
abbrev pub first_pages : (space frames : ℕ) → Pages
first_pages space frames = record { frames = replicate space None; stale = replicate space false; cells = replicate (1024 * frames) (pos 0) }

-- the pages of a span get the lowest free frames, by rising page
abbrev pub with_mapped : Span → Pages → Pages
with_mapped s p = record p { frames = give_frames (pages_of s) (free_of p) p.frames }

-- they lose their frames and become stale
abbrev pub with_unmapped : Span → Pages → Pages
with_unmapped s p = record p { frames = paint (holds s) None p.frames; stale = paint (holds s) true p.stale }

-- no page of the span is stale
abbrev pub with_flushed : Span → Pages → Pages
with_flushed s p = record p { stale = paint (holds s) false p.stale }

-- how many pages are mapped, and how many are stale
abbrev pub mapped_count : Pages → ℕ
mapped_count p = count_by is_some p.frames

abbrev pub stale_count : Pages → ℕ
stale_count p = count_by (λ b. b) p.stale

-- the page is unmapped, and not stale
pub record IsBare (p : Pages) (page : ℕ) : Type 0 where
  pub unmapped : slice_get p.frames page ≡ Some None
  pub not_stale : slice_get p.stale page ≡ Some false

-- the page is mapped
abbrev pub IsMapped : Pages → ℕ → Type 0
IsMapped p page = (frame : ℕ) × (slice_get p.frames page ≡ Some (Some frame))

-- what is kept beside the pages: their free frames, and how many are mapped
pub record IsKept (p : Pages) (free : FrameList) (mapped : ℕ) : Type 0 where
  pub shared : AreShared p.frames free
  pub all : free.memory ≡ memory p
  pub count : mapped ≡ mapped_count p
  pub space : length p.frames < 2 ^ 32
  pub alike : length p.stale ≡ length p.frames
