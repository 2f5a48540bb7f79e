use Rattle.std.proofs.Common.{◌≡◌, ◌+◌, ◌-◌, ◌/◌, ℕ, suc, slice_get, refl, ap, sym, ◌∙◌, arith}
use Rattle.vm_model.specs.declared.areas.Span.{Span}
use Rattle.vm_model.specs.Space.{count_from}
use Rattle.vm_model.specs.Frames.{frame_of, zero_frame, zero_pages}
use Rattle.page_pool.specs.PageMap.{Pages}
use Rattle.page_pool.proofs.UnitPageLists.{among_unit, row_from}
use Rattle.page_pool.proofs.page_side.PageSide.zero_unit.Goals as goal

abbrev zeroed : (n page base unit off bytes : ℕ) → Pages → Pages
zeroed n page base unit off bytes p = record p { cells = zero_pages p.frames (base + unit) off bytes (count_from n page) p.cells }

pub loop-page-init : goal.loop-page-init
loop-page-init c =
    let first = c.args.off / 4096 in
    let whole : c.saturating_sub.result ≡ c.args.off + c.args.bytes - 1 = omega arith in
    record {
      same = ap (λ n. zeroed n first c.args.base c.args.unit c.args.off c.args.bytes c.args.self.now)
          (ap (λ n. n / 4096 + 1 - first) whole ∙ (let e : (c.args.off + c.args.bytes - 1) / 4096 + 1 - first ≡ suc ((c.args.off + c.args.bytes - 1) / 4096) - first = omega arith in e));
      frames = refl;
    }

pub zero_page-requires : goal.zero_page-requires
zero_page-requires c =
    let page = c.args.base + c.args.unit + c.loop-page.page in
    let first = c.args.off / 4096 in
    let whole : c.saturating_sub.result ≡ c.args.off + c.args.bytes - 1 = omega arith in
    let below = ap (λ n. n / 4096 + 1) whole in
    let among = among_unit c.args.base c.args.unit (suc ((c.args.off + c.args.bytes - 1) / 4096) - first) first c.loop-page.page c.loop-page.auto.page (omega arith) in
    let mapped = c.requires page among in
    (mapped.0, ap (λ frames. slice_get frames page) c.loop-page.invariant.frames ∙ mapped.1)

pub loop-page-preserved : goal.loop-page-preserved
loop-page-preserved c = let page = c.loop-page.page in let end = c.saturating_sub.result / 4096 + 1 in record {
  same = ap (zeroed (end - (page + 1)) (page + 1) c.args.base c.args.unit c.args.off c.args.bytes) (c.zero_page.ensures ∙ ap (λ words. once words) c.words_in_page.ensures)
      ∙ sym (ap (λ row. record c.loop-page.self { cells = zero_pages c.loop-page.self.frames (c.args.base + c.args.unit) c.args.off c.args.bytes row c.loop-page.self.cells }) (row_from end page c.loop-page-test.true))
      ∙ c.loop-page.invariant.same;
  frames = ap (λ (p : Pages). p.frames) c.zero_page.ensures ∙ c.loop-page.invariant.frames;
}
  where
    once : Span → Pages
    once words = record c.loop-page.self { cells = zero_frame (frame_of c.loop-page.self.frames (c.args.base + c.args.unit + c.loop-page.page)) words c.loop-page.self.cells }

pub returns : goal.returns
returns c =
    let rest : c.saturating_sub.result / 4096 + 1 - c.loop-page.page ≡ 0 = omega arith in
    sym (ap (λ n. zeroed n c.loop-page.page c.args.base c.args.unit c.args.off c.args.bytes c.loop-page.self) rest) ∙ c.loop-page.invariant.same
