use Rattle.std.proofs.Common.{◌≢◌, ◌+◌, ◌-◌, List, Option, ℕ, Some, None, slice_get, ap, sym, subst, ◌∙◌, arith}
use Rattle.std.proofs.lemmas.Bool.Decides.{nat_tests}
use Rattle.std.proofs.lemmas.Option.{slice_get_within}
use Rattle.vm_model.proofs.Elements.{slice_get-set_other}
use Rattle.vm_model.specs.Space.{count_from}
use Rattle.vm_model.specs.Frames.{give_frames}
use Rattle.page_pool.specs.FrameList.{FrameList, AreShared}
use Rattle.page_pool.proofs.SharedFrames.{shared_taken}
use Rattle.page_pool.proofs.KeptBesidePages.{give_frames-next, frames_left, none_left, all_left}
use Rattle.page_pool.proofs.page_side.give_lowest.Goals as goal

pub loop-page-init : goal.loop-page-init
loop-page-init c = record {
  frames = all_left c.args.span c.args.free.now.numbers c.args.frames.now;
  free = none_left c.args.span.start c.args.free.now;
  shared = c.requires.shared;
  ahead = λ page low high. c.requires.unmapped page (grind (arith, nat_tests));
}

pub set-requires : goal.set-requires
set-requires c = slice_get_within c.loop-page.frames c.loop-page.page None (c.loop-page.invariant.ahead c.loop-page.page (omega arith) c.loop-page-test.true)

pub loop-page-preserved : goal.loop-page-preserved
loop-page-preserved c = record {
  frames = ap (λ fs. give_frames (count_from (c.args.span.start + c.args.span.pages - (c.loop-page.page + 1)) (c.loop-page.page + 1)) c.take_lowest.new.self.numbers fs) c.set.ensures ∙ give_frames-next _ c.loop-page.page c.take_lowest.result _ c.take_lowest.new.self.numbers c.loop-page.frames c.loop-page-test.true (ap (λ (f : FrameList). f.numbers) c.take_lowest.ensures) ∙ c.loop-page.invariant.frames;
  free = frames_left c.args.span.start c.loop-page.page c.take_lowest.result c.args.free.now c.loop-page.free c.take_lowest.new.self (omega arith) c.loop-page.invariant.free c.take_lowest.ensures;
  shared = subst (λ (fs : List (Option ℕ)). AreShared fs c.take_lowest.new.self) (sym c.set.ensures) (shared_taken c.loop-page.frames c.loop-page.free c.take_lowest.new.self c.loop-page.page c.take_lowest.result c.loop-page.invariant.shared (c.loop-page.invariant.ahead c.loop-page.page (omega arith) c.loop-page-test.true) c.take_lowest.ensures);
  ahead = λ page low high. let apart : c.loop-page.page ≢ page = omega arith in ap (λ fs. slice_get fs page) c.set.ensures ∙ slice_get-set_other c.loop-page.frames c.loop-page.page page (Some c.take_lowest.result) apart ∙ c.loop-page.invariant.ahead page (omega arith) high;
}
