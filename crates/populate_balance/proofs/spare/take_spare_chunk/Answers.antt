use Rattle.std.proofs.Common.{◌≡◌, ◌==◌, ℕ, List, map, slice_get, Option, Some, None, option_map, ap, sym, ◌∙◌, subst}
use Rattle.std.specs.Prelude.{IfSome}
use Rattle.vm_model.specs.PlainMap.{Chunk}
use Rattle.vm_model.specs.PageSets.{pages_in}
use Rattle.vm_model.specs.Chunks.{populated_pages}
use Rattle.vm_model.proofs.Finds.{first_kept}
use Rattle.chunk_slots.specs.ChunkRegion.{setup_of}
use Rattle.chunk_slots.proofs.InOrder.{same_some}
use Rattle.populate_balance.specs.Balance.{spare_in}
use Rattle.populate_balance.proofs.NumberedChunks.{number_of, chunk_by, no_chunk_by, spare_by}
use Rattle.populate_balance.proofs.spare.take_spare_chunk.Goals as goal

abbrev told : ℕ → ℕ → List ℕ → Option (ℕ × ℕ × List ℕ)
told n base pages = Some (n, base, pages)

pub returns-in_err-index-clause-spare : goal.returns-in_err-index-clause-spare
returns-in_err-index-clause-spare c =
    let chunks : List Chunk = c.args.side.now.chunks in
    let it = spare_by c.in_ok-chunk.chunk chunks c.find.ensures.rising (sym c.in_ok-chunk.was ∙ c.in_slot.ensures ∙ ap (λ (cs : List Chunk). slice_get (map number_of cs) 1) c.free_slot.ensures.free) in
    absurd (let clash : None ≡ Some it.chunk = sym (no_chunk_by c.in_ok-chunk.chunk c.find.result chunks c.find.ensures.index c.in_err-index.was) ∙ it.found in cc)

pub base_at-requires : goal.base_at-requires
base_at-requires c = (chunk_by c.in_ok-chunk.chunk c.in_ok-index.index c.find.result c.args.side.now.chunks c.find.ensures.rising c.find.ensures.index c.in_ok-index.was).within

pub populated_at-requires : goal.populated_at-requires
populated_at-requires c = (chunk_by c.in_ok-chunk.chunk c.in_ok-index.index c.find.result c.args.side.now.chunks c.find.ensures.rising c.find.ensures.index c.in_ok-index.was).within

pub remove_chunk-requires : goal.remove_chunk-requires
remove_chunk-requires c =
    let chunks : List Chunk = c.args.side.now.chunks in
    let it = spare_by c.in_ok-chunk.chunk chunks c.find.ensures.rising (sym c.in_ok-chunk.was ∙ c.in_slot.ensures ∙ ap (λ (cs : List Chunk). slice_get (map number_of cs) 1) c.free_slot.ensures.free) in
    record {
      row = it.chunk;
      found = first_kept (λ (h : Chunk). h.number == c.in_ok-chunk.chunk) chunks ∙ it.found;
      free = it.free;
    }

pub returns-clause-spare : goal.returns-clause-spare
returns-clause-spare c =
    let r = c.args.side.now in
    let it = spare_by c.in_ok-chunk.chunk r.chunks c.find.ensures.rising (sym c.in_ok-chunk.was ∙ c.in_slot.ensures ∙ ap (λ (cs : List Chunk). slice_get (map number_of cs) 1) c.free_slot.ensures.free) in
    let at = chunk_by c.in_ok-chunk.chunk c.in_ok-index.index c.find.result r.chunks c.find.ensures.rising c.find.ensures.index c.in_ok-index.was in
    let there : slice_get r.chunks c.in_ok-index.index ≡ Some it.chunk = at.there ∙ ap Some (same_some at.chunk it.chunk (sym at.found ∙ it.found)) in
    let base : c.base_at.result ≡ it.chunk.base = subst (λ (o : Option Chunk). IfSome o (λ h. c.base_at.result ≡ h.base)) there c.base_at.ensures in
    let pages : pages_in c.populated_at.result ≡ populated_pages (setup_of r) it.chunk =
    subst (λ (o : Option Chunk). IfSome o (λ h. pages_in c.populated_at.result ≡ populated_pages (setup_of r) h)) there c.populated_at.ensures.pages in
    let all : told c.in_ok-chunk.chunk c.base_at.result (pages_in c.populated_at.result) ≡ told it.chunk.number it.chunk.base (populated_pages (setup_of r) it.chunk) =
    ap (λ n. told n c.base_at.result (pages_in c.populated_at.result)) (sym it.number)
    ∙ ap (λ n. told it.chunk.number n (pages_in c.populated_at.result)) base
    ∙ ap (told it.chunk.number it.chunk.base) pages in
    all
    ∙ sym (ap (option_map (spare_in (setup_of r))) it.spare)
