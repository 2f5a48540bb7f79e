use Rattle.std.proofs.Common.{◌≡◌, ◌+◌, ◌-◌}
use Rattle.vm_model.specs.Space.{count_from}
use Rattle.vm_model.specs.Frames.{zero_pages, pages_of_bytes}
use Rattle.page_pool.proofs.page_side.PageSide.zero_unit.Given as goal

-- the pages that are left make the words 0 that all make
abbrev pub invariant-loop-page : goal.invariant-loop-page
invariant-loop-page l = record {
  same : record l.self { cells = zero_pages l.self.frames (l.base + l.unit) l.off l.bytes (count_from (l.page-end - l.page) l.page) l.self.cells }
      ≡ record l.initial.self { cells = zero_pages l.initial.self.frames (l.base + l.unit) l.off l.bytes (pages_of_bytes l.off l.bytes) l.initial.self.cells };
  frames : l.self.frames ≡ l.initial.self.frames;
}
