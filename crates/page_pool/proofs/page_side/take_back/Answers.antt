use Rattle.std.proofs.Common.{◌≡◌, ◌-◌, ◌<◌, ℕ, List, Option, None, Some, IsSome, is_some, count_by, length, slice_get, slice_set, refl, ap, sym, ◌∙◌, subst, arith}
use Rattle.std.proofs.lemmas.Bool.{false≢true}
use Rattle.std.proofs.lemmas.Bool.Decides.{nat_tests}
use Rattle.vm_model.proofs.Paint.{length-paint_from}
use Rattle.page_pool.proofs.KeptBesidePages.{read_at}
use Rattle.vm_model.specs.Space.{span, holds, paint, end_of}
use Rattle.vm_model.specs.Frames.{joined_option}
use Rattle.page_pool.specs.FrameList.{FrameList, AreShared}
use Rattle.page_pool.proofs.SharedFrames.{frame_of_page, shared_back, count-unmapped}
use Rattle.page_pool.proofs.Painting.{paint-first, paint-next, paint-last, paint-ahead}
use Rattle.page_pool.proofs.page_side.take_back.Goals as goal

-- a page that is still to be unmapped lies in the map
within : (start page : ℕ) (frames now : List (Option ℕ)) → now ≡ paint (holds (span start (page - start))) None frames → page < length frames → page < length now
within start page frames now e h = let same = ap length e ∙ length-paint_from (holds (span start (page - start))) None frames 0 in omega arith

pub loop-page-init : goal.loop-page-init
loop-page-init c = record {
  frames = paint-first c.args.span.start None c.args.frames.now;
  shared = c.requires.shared;
  memory = refl;
  count = omega arith;
}

pub at-requires : goal.at-requires
at-requires c = within c.args.span.start c.loop-page.page c.args.frames.now c.loop-page.frames c.loop-page.invariant.frames (omega arith)

pub set-requires : goal.set-requires
set-requires c = within c.args.span.start c.loop-page.page c.args.frames.now c.loop-page.frames c.loop-page.invariant.frames (omega arith)

pub unreachable-requires : goal.unreachable-requires
unreachable-requires c =
    let page = c.loop-page.page in
    let same = paint-ahead c.args.span.start page None c.args.frames.now c.loop-page.frames (omega arith) c.loop-page.invariant.frames in
    let none : slice_get c.loop-page.frames page ≡ Some None = read_at c.loop-page.frames page c.at.result None (within c.args.span.start page c.args.frames.now c.loop-page.frames c.loop-page.invariant.frames (omega arith)) c.at.ensures c.in_default.is in
    let some = subst (λ o. IsSome (joined_option o)) (sym same ∙ none) (c.requires.mapped page (grind (arith, nat_tests))) in
    absurd (false≢true some)

pub put_back-requires : goal.put_back-requires
put_back-requires c =
    let mapped : slice_get c.loop-page.frames c.loop-page.page ≡ Some (Some c.in-Some.frame) = read_at c.loop-page.frames c.loop-page.page c.at.result (Some c.in-Some.frame) (within c.args.span.start c.loop-page.page c.args.frames.now c.loop-page.frames c.loop-page.invariant.frames (omega arith)) c.at.ensures c.in-Some.is in
    let here = frame_of_page c.loop-page.frames c.loop-page.free c.loop-page.page c.in-Some.frame c.loop-page.invariant.shared mapped in
    record { memory = here.0; taken = here.1 }

pub loop-page-preserved : goal.loop-page-preserved
loop-page-preserved c =
    let page = c.loop-page.page in
    let frames = c.loop-page.frames in
    let mapped : slice_get frames page ≡ Some (Some c.in-Some.frame) = read_at frames page c.at.result (Some c.in-Some.frame) (within c.args.span.start page c.args.frames.now frames c.loop-page.invariant.frames (omega arith)) c.at.ensures c.in-Some.is in
    record {
      frames = c.set.ensures ∙ paint-next c.args.span.start page None c.args.frames.now frames (omega arith) c.loop-page.invariant.frames;
      shared = subst (λ (fs : List (Option ℕ)). AreShared fs c.put_back.new.self) (sym c.set.ensures) (subst (AreShared (slice_set frames page None)) (sym c.put_back.ensures) (shared_back frames c.loop-page.free page c.in-Some.frame c.loop-page.invariant.shared mapped));
      memory = ap (λ (f : FrameList). f.memory) c.put_back.ensures ∙ c.loop-page.invariant.memory;
      count = omega (arith, ap (count_by is_some) c.set.ensures, count-unmapped frames page c.in-Some.frame mapped);
    }

pub returns-clause-frames : goal.returns-clause-frames
returns-clause-frames c = paint-last c.args.span c.loop-page.page None c.args.frames.now c.loop-page.frames (let e : c.loop-page.page ≡ end_of c.args.span = omega arith in e) c.loop-page.invariant.frames

pub returns-clause-count : goal.returns-clause-count
returns-clause-count c = omega arith
