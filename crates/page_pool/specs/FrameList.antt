-- The free frames of memory, as bits keep them.
use Rattle.std.specs.Prelude.{◌≡◌, ℕ, ◌^◌, ◌<◌, ◌≤◌, ◌==◌, nat_lt, Bool, false, not, List, length, Option, Some, None, filter, count_by}
use Rattle.vm_model.specs.Space.{count_from, one_if}
use Rattle.vm_model.specs.Frames.{is_used}
use Rattle.vm_model.specs.Bits.{value_at}

-- the free frames of memory, lowest first
pub record FrameList : Type 0 where
  pub numbers : List ℕ
  pub memory : ℕ

-- whether a frame is free, by bits that are set for those that are taken
abbrev pub is_free : List Bool → ℕ → Bool
is_free taken frame = not (value_at taken frame)

-- what is free, lowest first
abbrev pub lowest_first : List Bool → FrameList
lowest_first taken = record { numbers = filter (is_free taken) (count_from (length taken) 0); memory = length taken }

-- so many frames are free, and none of those below the given one
pub record AreCounted (taken : List Bool) (free lowest : ℕ) : Type 0 where
  pub count : free ≡ length (lowest_first taken).numbers
  pub within : lowest ≤ length taken
  pub fits : length taken < 2 ^ 32
  pub below : (frame : ℕ) → frame < lowest → is_free taken frame ≡ false

-- whether a page has this frame
abbrev pub has_frame : ℕ → Option ℕ → Bool
has_frame frame None = false
has_frame frame (Some own) = own == frame

-- how many pages have it
abbrev pub times_used : ℕ → List (Option ℕ) → ℕ
times_used frame frames = count_by (has_frame frame) frames

-- each frame of memory is one page's, or it is free
pub record AreShared (frames : List (Option ℕ)) (free : FrameList) : Type 0 where
  pub numbers : free.numbers ≡ filter (λ frame. not (is_used frame frames)) (count_from free.memory 0)
  pub own : (frame : ℕ) → times_used frame frames ≤ one_if (nat_lt frame free.memory)
