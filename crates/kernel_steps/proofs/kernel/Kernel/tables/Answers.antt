use Rattle.std.proofs.Common.{◌∙◌, ◌-◌, Bool, if◌then◌else◌, [], List, length, map, flat_map, take, drop, ap, sym, subst, arith, count_by, is_some}
use Rattle.vm_model.specs.declared.areas.Span.{Span}
use Rattle.vm_model.specs.Space.{longest_of, sort_by}
use Rattle.vm_model.specs.Setup.{Setup}
use Rattle.unit_layout.specs.Config.{setup_of}
use Rattle.page_pool.specs.PageMap as pool
use Rattle.vm_model.specs.Parts.{Region, regions_of}
use Rattle.vm_model.specs.Tables.{chunk_row, object_rows, chunk_audit, hint_rows}
use Rattle.chunk_slots.specs.ChunkRegion.{AreOfUnits}
use Rattle.chunk_slots.proofs.ChunkPages.{rows_of_machine, audits_of_machine, hints_of_machine}
use Rattle.kernel_steps.specs.Kernels.{KernelState, tables_for}
use Rattle.kernel_steps.proofs.TablesTold.{same_tables, chunks_are, world_units, region_at, all_regions, free_is, pages_are, areas_are, waiting_is, free_count, length-movers, behind, blocks_behind}
use Rattle.kernel_steps.proofs.kernel.Kernel.tables.Goals as goal

abbrev told : {A : Type 0} → Bool → List A → List A
told audit rows = if audit then rows else []

pub returns : goal.returns
returns c = λ config opening calls w st.
    let machine : Setup = setup_of config in
    let held = ap (λ (k : KernelState). k.regions) c.self.view_is in
    let many = all_regions machine opening calls w c.args.self.now c.self.inside.regions.items st held in
    let third = region_at machine opening calls w c.args.self.now c.self.inside.regions.items 3 c.index.result.now st held c.index.ensures (omega arith) in
    let sixth = region_at machine opening calls w c.args.self.now c.self.inside.regions.items 6 c.index-2.result.now st held c.index-2.ensures (omega arith) in
    let seventh = region_at machine opening calls w c.args.self.now c.self.inside.regions.items 7 c.index-3.result.now st held c.index-3.ensures (omega arith) in
    let fourth = region_at machine opening calls w c.args.self.now c.self.inside.regions.items 4 c.index-4.result.now st held c.index-4.ensures (omega arith) in
    let fifth = region_at machine opening calls w c.args.self.now c.self.inside.regions.items 5 c.index-5.result.now st held c.index-5.ensures (omega arith) in
    let free = free_is machine w.map c.index.result.now c.free-free.result.now.blocks third c.free-free.ensures in
    let pages = pages_are machine w.map c.index-2.result.now c.pages-pages.result.now sixth c.pages-pages.ensures in
    let side = c.percpu-percpu.result.now in
    let chunks = chunks_are machine w.map c.index-3.result.now side.chunks side.next_object side.next_chunk side.room seventh c.percpu-percpu.ensures in
    let areas = areas_are machine w.map c.index-4.result.now c.busy.result.now.areas c.busy.result.now.next fourth c.busy.ensures in
    let waiting = waiting_is machine w.map c.index-5.result.now c.lazy.result.now fifth c.lazy.ensures in
    let own = c.unit_pages-units.ensures.chunks in
    let units = subst (AreOfUnits machine.unit_pages) (sym chunks) (world_units machine opening calls w st.running) in
    same_tables _ (tables_for c.args.audit machine w)
    (c.of.ensures ∙ c.in_ok-entries.ensures machine opening calls w st)
    (c.len.ensures ∙ c.self.inside.moved.ok.0 ∙ ap length (ap (λ (k : KernelState). k.moved) c.self.view_is ∙ st.moved) ∙ length-movers w.events)
    (c.free_frames.ensures.count ∙ ap (λ (p : pool.Pages). length (pool.free_of p)) pages ∙ free_count machine opening calls w st.running)
    (c.mapped.ensures.count ∙ ap (λ (p : pool.Pages). count_by is_some p.frames) pages)
    (c.stale.ensures.count ∙ ap (λ (p : pool.Pages). count_by (λ b. b) p.stale) pages)
    (c.of-2.ensures ∙ c.in_ok-blocks.ensures ∙ free)
    (c.in_ok-areas.ensures.all ∙ areas)
    (c.of-3.ensures ∙ c.in_ok-waiting_spans.ensures ∙ ap (sort_by (λ (s : Span). s.start)) waiting)
    (c.of-4.ensures ∙ c.in_ok-block_rows.ensures machine opening calls w st.running (behind c.self.inside.regions.items (regions_of machine w.map) _ (held ∙ st.regions) (ap (λ (rs : List Region). take (length rs - 8) (drop 8 rs)) c.deref-2.ensures.value)))
    (c.of-5.ensures ∙ c.in_ok-part_rows.ensures machine opening calls w st.running (behind c.self.inside.regions.items (regions_of machine w.map) _ (held ∙ st.regions) (ap (λ (rs : List Region). take (length rs - 8) (drop 8 rs)) c.deref-3.ensures.value)))
    (c.of-6.ensures ∙ c.in_ok-chunk_rows.ensures ∙ rows_of_machine machine side own units ∙ ap (map (chunk_row machine)) chunks)
    (c.of-7.ensures ∙ c.in_ok-object_rows.ensures ∙ ap (flat_map object_rows) chunks)
    (c.len-2.ensures.count ∙ ap length free)
    (c.largest.ensures ∙ ap (λ runs. (longest_of runs).pages) free)
    (c.plain_largest-largest.ensures ∙ ap (λ blocks. (longest_of blocks).pages) (c.deref.ensures.value ∙ c.in_ok-blocks.ensures ∙ free))
    (c.of-8.ensures ∙ c.in_ok-chunk_audits.ensures ∙ ap (told c.args.audit) (audits_of_machine machine side own units ∙ ap (map (chunk_audit machine)) chunks))
    (c.of-9.ensures ∙ c.in_ok-hint_rows.ensures ∙ ap (told c.args.audit) (hints_of_machine machine side own units ∙ ap (flat_map (hint_rows machine)) chunks))

pub block_rows-requires : goal.block_rows-requires
block_rows-requires c =
    blocks_behind (record { regions = c.self.inside.regions.items; locals = c.self.inside.locals.items; moved = c.self.inside.moved.items }) (take (length c.deref-2.result.now - 8) (drop 8 c.deref-2.result.now)) c.self.invariant
    (ap (λ (rs : List Region). take (length rs - 8) (drop 8 rs)) c.deref-2.ensures.value)

pub part_rows-requires : goal.part_rows-requires
part_rows-requires c =
    blocks_behind (record { regions = c.self.inside.regions.items; locals = c.self.inside.locals.items; moved = c.self.inside.moved.items }) (take (length c.deref-3.result.now - 8) (drop 8 c.deref-3.result.now)) c.self.invariant
    (ap (λ (rs : List Region). take (length rs - 8) (drop 8 rs)) c.deref-3.ensures.value)
