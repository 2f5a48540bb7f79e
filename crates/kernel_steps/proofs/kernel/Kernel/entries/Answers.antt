use Rattle.std.proofs.Common.{length, slice_get, sym, ◌∙◌, ap, refl, arith}
use Rattle.std.proofs.lemmas.List.{take_all}
use Rattle.std.proofs.lemmas.Option.{slice_get_read}
use Rattle.vm_model.specs.Tables.{entries_of}
use Rattle.kernel_steps.specs.Kernels.{KernelState}
use Rattle.kernel_steps.proofs.TablesTold.{book_fits, entries_next}
use Rattle.kernel_steps.proofs.kernel.Kernel.entries.Goals as goal

pub number-requires : goal.number-requires
number-requires c =
    let here = slice_get_read c.deref-local-items.result.now (length c.deref-local-items.result.now) c.loop-local.local-index c.local-item.result refl c.loop-local-test.true c.local-item.is in
    book_fits (record { regions = c.self.inside.regions.items; locals = c.self.inside.locals.items; moved = c.self.inside.moved.items }) c.deref.result.now c.loop-local.local-index c.local-item.result c.book.result.now c.self.invariant c.deref.ensures.value
    (ap (λ ls. slice_get ls c.loop-local.local-index) (sym c.deref-local-items.ensures.value) ∙ here) c.book.ensures.caller c.book.ensures.noted

pub loop-local-preserved : goal.loop-local-preserved
loop-local-preserved c = λ setup opening calls w st.
    let here = slice_get_read c.deref-local-items.result.now (length c.deref-local-items.result.now) c.loop-local.local-index c.local-item.result refl c.loop-local-test.true c.local-item.is in
    entries_next setup opening calls w c.args.self.now c.loop-local.local-index c.local-item.result c.book.result.now.caller c.book.result.now.rows c.deref.result.now c.loop-local.entries.items c.number.new.into.items st
    (ap (λ ls. slice_get ls c.loop-local.local-index) (sym (c.deref-local-items.ensures.value ∙ ap (λ (k : KernelState). k.locals) c.self.view_is)) ∙ here) c.book.ensures.caller c.book.ensures.rows
    (c.deref.ensures.value ∙ ap (λ (k : KernelState). k.moved) c.self.view_is) (c.loop-local.invariant setup opening calls w st) c.in_ok-number.ensures.history

pub returns : goal.returns
returns c = λ setup opening calls w st.
    let low = c.loop-local-test.false in
    let many = ap length (c.deref-local-items.ensures.value ∙ ap (λ (k : KernelState). k.locals) c.self.view_is ∙ st.locals) in
    c.loop-local.invariant setup opening calls w st ∙ ap (entries_of w.events) (take_all c.loop-local.local-index w.locals (omega arith))
