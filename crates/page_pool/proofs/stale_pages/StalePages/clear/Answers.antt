use Rattle.std.proofs.Common.{◌≡◌, ◌+◌, ◌-◌, ◌<◌, ℕ, List, Bool, true, false, Some, slice_get, length, inl, inr, ap, sym, subst, ◌∙◌, arith}
use Rattle.std.proofs.lemmas.Bool.{cases_lt}
use Rattle.chunk_bitmaps.specs.Bitmap.{IsNextBit}
use Rattle.vm_model.specs.Space.{span, holds, paint}
use Rattle.vm_model.proofs.Paint.{length-paint_from}
use Rattle.page_pool.proofs.Flags.{skipped}
use Rattle.page_pool.proofs.Painting.{paint-on, paint-last}
use Rattle.page_pool.proofs.stale_pages.StalePages.clear.Goals as goal

-- the first page that is not stale lies behind one that is
further : (flags : List Bool) (page end behind : ℕ) → slice_get flags page ≡ Some true → page < end → IsNextBit flags false page end behind → page < behind
further flags page end behind stale before next = elim (cases_lt page behind) [
  | inl past ↦ past
  | inr not_past ↦ let same : behind ≡ page = omega (arith, next.after) in absurd (let e : Some true ≡ Some false = sym stale ∙ subst (λ p. p < end → slice_get flags p ≡ Some false) same next.here before in cc)
]

pub loop-page-init : goal.loop-page-init
loop-page-init c = record {
  from = c.next_stale-page.ensures.after;
  to = c.next_stale-page.ensures.within;
  stale = c.next_stale-page.ensures.here;
  pages = skipped c.args.self.now c.args.span.start (c.args.span.start + c.args.span.pages) c.next_stale-page.result c.next_stale-page.ensures;
}

pub find_next-behind-requires-clause-within : goal.find_next-behind-requires-clause-within
find_next-behind-requires-clause-within c = let long = ap length (c.self.view_is ∙ c.loop-page.invariant.pages) ∙ length-paint_from _ false c.args.self.now 0 in omega arith

pub clear_run-requires-clause-inside : goal.clear_run-requires-clause-inside
clear_run-requires-clause-inside c =
    let long = ap length c.loop-page.invariant.pages ∙ length-paint_from _ false c.args.self.now 0 in
    omega (arith, c.find_next-behind.ensures.within, c.find_next-behind.ensures.after)

pub clear_run-requires-clause-pages : goal.clear_run-requires-clause-pages
clear_run-requires-clause-pages c = omega (arith, further c.self.inside.flags c.loop-page.page (c.args.span.start + c.args.span.pages) c.find_next-behind.result (ap (λ fs. slice_get fs c.loop-page.page) c.self.view_is ∙ c.loop-page.invariant.stale c.loop-page-test.true) c.loop-page-test.true c.find_next-behind.ensures)

pub next_stale-page-requires-in-loop-page-clause-within : goal.next_stale-page-requires-in-loop-page-clause-within
next_stale-page-requires-in-loop-page-clause-within c =
    let long = ap length c.loop-page.invariant.pages ∙ length-paint_from _ false c.args.self.now 0 in
    let cleared = ap length c.clear_run.ensures ∙ length-paint_from _ false c.loop-page.self 0 in
    omega (arith, c.find_next-behind.ensures.within)

pub loop-page-smaller : goal.loop-page-smaller
loop-page-smaller c =
    let past = further c.self.inside.flags c.loop-page.page (c.args.span.start + c.args.span.pages) c.find_next-behind.result (ap (λ fs. slice_get fs c.loop-page.page) c.self.view_is ∙ c.loop-page.invariant.stale c.loop-page-test.true) c.loop-page-test.true c.find_next-behind.ensures in
    omega (arith, past, c.find_next-behind.ensures.within, c.next_stale-page-in-loop-page.ensures.after)

pub loop-page-preserved : goal.loop-page-preserved
loop-page-preserved c =
    let next = c.next_stale-page-in-loop-page.ensures in
    let start = c.args.span.start in
    let page = c.loop-page.page in
    let behind = c.find_next-behind.result in
    let cleared = paint-on start page (behind - page) false c.args.self.now c.loop-page.self c.clear_run.new.self c.loop-page.invariant.from c.loop-page.invariant.pages c.clear_run.ensures
    ∙ ap (λ n. paint (holds (span start n)) false c.args.self.now) (let e : page + (behind - page) - start ≡ behind - start = omega (arith, c.find_next-behind.ensures.after, c.loop-page.invariant.from) in e) in
    record {
      from = omega (arith, next.after, c.find_next-behind.ensures.after, c.loop-page.invariant.from);
      to = next.within;
      stale = next.here;
      pages = paint-on start behind (c.next_stale-page-in-loop-page.result - behind) false c.args.self.now c.clear_run.new.self c.clear_run.new.self (omega (arith, c.find_next-behind.ensures.after, c.loop-page.invariant.from)) cleared
          (skipped c.clear_run.new.self behind (c.args.span.start + c.args.span.pages) c.next_stale-page-in-loop-page.result next)
          ∙ ap (λ n. paint (holds (span start n)) false c.args.self.now) (let e : behind + (c.next_stale-page-in-loop-page.result - behind) - start ≡ c.next_stale-page-in-loop-page.result - start = omega (arith, next.after) in e);
    }

pub returns : goal.returns
returns c = paint-last c.args.span c.loop-page.page false c.args.self.now c.loop-page.self (omega (arith, c.loop-page.invariant.to)) c.loop-page.invariant.pages
