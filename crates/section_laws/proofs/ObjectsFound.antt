-- An object of the chunks is the one that is found at its place.
use Rattle.std.proofs.Common.{◌≡◌, ℕ, ◌==◌, List, Some, flat_map, ap, ◌∙◌}
use Rattle.vm_model.specs.Setup.{Setup}
use Rattle.vm_model.specs.PlainMap.{Chunk, Object, Life}
use Rattle.vm_model.specs.Chunks.{ObjectAt, chunks_numbered, find_object}
use Rattle.map_laws.proofs.blocks.BlockFacts.{same_test, to_same}
use Rattle.map_laws.proofs.TestsAndFilters.{filter_has, filter_in, find_has}
use Rattle.map_laws.proofs.GivenMeets.{flat_in}
use Rattle.map_laws.proofs.objects.ObjectFacts.{AreChunksFine, IsObject, object_only}
use Rattle.map_laws.proofs.SearchEnds.{find_some, flat_has}

module _ (c : Setup) (placing : ℕ → ℕ → Type 0) (chunks : List Chunk) (fine : AreChunksFine c placing chunks) (at : ObjectAt) (life : Life) (is : IsObject chunks at life) where
  pub object_found : find_object at chunks ≡ Some is.object
  object_found =
      let own = filter_in (λ (h : Chunk). h.number == at.chunk) chunks is.chunk is.there.place is.there.at (ap (λ n. n == at.chunk) is.numbered ∙ same_test at.chunk) in
      let flat = flat_has (λ (h : Chunk). h.objects) (chunks_numbered at.chunk chunks) own.place is.chunk is.object own.at is.object_there in
      let found = find_some (λ (o : Object). o.off == at.off) (flat_map (λ (h : Chunk). h.objects) (chunks_numbered at.chunk chunks)) is.object flat.place flat.at (ap (λ n. n == at.off) is.off ∙ same_test at.off) in
      let passes = find_has (λ (o : Object). o.off == at.off) (flat_map (λ (h : Chunk). h.objects) (chunks_numbered at.chunk chunks)) found.0 found.1 in
      let from = flat_in (λ (h : Chunk). h.objects) (chunks_numbered at.chunk chunks) found.0 passes.0 in
      let kept = filter_has (λ (h : Chunk). h.number == at.chunk) chunks from.1.place from.0 from.1.at in
      found.1 ∙ ap (λ o. Some o) (object_only c placing chunks fine at life is from.0 found.0 kept.there (to_same from.0.number at.chunk kept.passes) from.2 (to_same found.0.off at.off passes.1))
