use Rattle.std.proofs.Common.{◌≡◌, ◌+◌, ◌-◌, None, is_some, count_by}
use Rattle.vm_model.specs.Space.{span, holds, paint}
use Rattle.page_pool.specs.FrameList.{AreShared}
use Rattle.page_pool.proofs.page_side.take_back.Given as goal

abbrev pub invariant-loop-page : goal.invariant-loop-page
invariant-loop-page l = record {
  frames : l.frames ≡ paint (holds (span l.fn.span.start (l.page - l.fn.span.start))) None l.initial.frames;
  shared : AreShared l.frames l.free;
  memory : l.free.memory ≡ l.initial.free.memory;
  count : count_by is_some l.frames + (l.page - l.fn.span.start) ≡ count_by is_some l.initial.frames;
}
