use Rattle.std.proofs.Common.{◌≡◌, drop}
use Rattle.page_pool.specs.Units.{with_zeroed}
use Rattle.page_pool.proofs.page_side.PageSide.zero_words.Given as goal

abbrev pub invariant-loop-unit : goal.invariant-loop-unit
invariant-loop-unit l = record {
  same : with_zeroed l.base (drop l.unit-index l.units) l.off l.bytes l.self ≡ with_zeroed l.base l.units l.off l.bytes l.initial.self;
  frames : l.self.frames ≡ l.initial.self.frames;
}
