use Rattle.std.proofs.Common.{◌≡◌, ℕ, ◌-◌, ◌<◌, ◌≤◌, Some, None, drop, slice_get}
use Rattle.vm_model.specs.Space.{count_from, pages_of}
use Rattle.vm_model.specs.Frames.{give_frames}
use Rattle.page_pool.specs.FrameList.{AreShared}
use Rattle.page_pool.proofs.page_side.give_lowest.Given as goal

-- what is left decides, and the pages ahead have no frames yet
abbrev pub invariant-loop-page : goal.invariant-loop-page
invariant-loop-page l = record {
  frames : give_frames (count_from (l.page-end - l.page) l.page) l.free.numbers l.frames ≡ give_frames (pages_of l.fn.span) l.initial.free.numbers l.initial.frames;
  free : l.free ≡ record l.initial.free { numbers = drop (l.page - l.fn.span.start) l.initial.free.numbers };
  shared : AreShared l.frames l.free;
  ahead : (page : ℕ) → l.page ≤ page → page < l.page-end → slice_get l.frames page ≡ Some None;
}
