-- Where it is kept who has each page, the map falls apart into its regions and each caller stays within one.
use Rattle.std.proofs.Common.{◌≡◌, ℕ, suc, ◌≤◌, Bool, true, false, List, [], ◌∷◌, map, slice_get, Some, refl, ap, sym, ◌∙◌, subst, arith}
use Rattle.std.proofs.lemmas.Option.{slice_get-map}
use Rattle.vm_model.specs.declared.areas.Span.{Span}
use Rattle.vm_model.specs.declared.areas.Area.{Area}
use Rattle.vm_model.specs.declared.areas.AreaKind.{AreaKind}
use Rattle.vm_model.specs.Space.{holds, times, one_if, is_free_at, is_among}
use Rattle.vm_model.specs.Setup.{Setup, groups_at}
use Rattle.vm_model.specs.PlainMap.{PlainMap, Block, Life, InHand, taken}
use Rattle.vm_model.specs.Areas.{is_area, named_areas, areas_starting, spans_of, group_kinds}
use Rattle.vm_model.specs.Blocks.{PartAt}
use Rattle.vm_model.specs.Laws.{as_free}
use Rattle.vm_model.specs.Places.{Place, SettlingArea, SettlingBlock, SettlingGroups, Removing, PurgeUnlinking, UnlinkingBlock, UnlinkingGroups, Waiting, PurgeWaiting, PurgeCollecting, CuttingPart, AddingBlock, SettlingPart, BeginningUnmap, Retiring, PurgeFragmenting, LookingAtDirty, ask, block_spans, group_starts}
use Rattle.vm_model.specs.History.{World, Local}
use Rattle.vm_model.specs.Rules.{IsSetup}
use Rattle.map_parts.specs.Locality.{AreTaken, IsOfCpu, FallsApart, StaysWithin}
use Rattle.map_parts.specs.Owners.{is_plain, every, of_place}
use Rattle.map_parts.specs.KeptByEvents.{HasPart, IsSoundPlace, IsSoundLocal, KeepsApart, KeptWorldsFallApart, KeptCallersStayWithin}
use Rattle.map_parts.proofs.Filters.{filter_within, map_was}
use Rattle.map_parts.proofs.Sums.{member-le}
use Rattle.map_parts.proofs.PoolMoves.{covers-le-times}
use Rattle.map_parts.proofs.SearchedPages.{covered_by}
use Rattle.map_parts.proofs.WholeBlocks.{AreOnce, same_block}

taken_page : (m : PlainMap) (page : ℕ) → as_free (slice_get m.marks page) ≡ 0 → is_free_at (taken m) page ≡ false
taken_page m page h = grind (arith, slice_get-map)

one_of : (b : Bool) → b ≡ true → one_if b ≡ 1
one_of b h = ap one_if h

module _ (c : Setup) (w : World) (is : IsSetup c) (kept : KeepsApart c w) where
  -- pages of spans that a caller, an area or the waiting spans have
  held_taken : (k : ℕ) (l : Local) (spans : List Span) → slice_get w.locals k ≡ Some l → ((page : ℕ) → times page spans ≤ of_place c l.place every page) → AreTaken w.map spans
  held_taken k l spans here has page on = grind (arith, covers-le-times, member-le, taken_page, one_of)

  area_by : (i : ℕ) (a : Area) (page : ℕ) (b : Bool) → is_plain a.kind ≡ b → slice_get w.map.areas i ≡ Some a → holds a.span page ≡ true → as_free (slice_get w.map.marks page) ≡ 0
  area_by i a page true plain at on = grind (arith, one_of, member-le)
  area_by i a page false plain at on = let none = kept.owners.areas i a at plain page on in omega arith

  areas_taken : (areas : List Area) → ((i : ℕ) (a : Area) → slice_get areas i ≡ Some a → (j : ℕ) × (slice_get w.map.areas j ≡ Some a)) → AreTaken w.map (spans_of areas)
  areas_taken areas were page on =
      taken_page w.map page (covered_by (spans_of areas) page on (λ i s at inside.
      let a = map_was (λ (a : Area). a.span) areas i s at in
      let v = were i a.0 a.1 in
      area_by v.0 a.0 page (is_plain a.0.kind) refl v.1 (ap (λ s. holds s page) a.2 ∙ inside)))

  starting_taken : (starts : List ℕ) → AreTaken w.map (spans_of (areas_starting starts w.map.areas))
  starting_taken starts = areas_taken (areas_starting starts w.map.areas) (λ i a at. filter_within (λ (a : Area). is_among starts a.span.start) w.map.areas i a at)

  -- blocks
  once : AreOnce c w.map.blocks
  once page = let one = kept.owners.once page in omega arith

  some : 1 ≤ c.block_pages
  some = let low = is.block_low in omega arith

  of_cpu : (at : PartAt) (life : Life) → HasPart w.map.blocks at life → IsOfCpu at.block at.cpu w.map.blocks
  of_cpu at life has i b there start =
      ap (λ (b : Block). b.cpu) (same_block c w.map.blocks some once i has.number b has.block there has.there (start ∙ sym has.start)) ∙ has.cpu

  falls_apart : FallsApart c w.map
  falls_apart = record {
    marks = kept.whole.marks;
    next_parts = kept.whole.next_parts;
    unspent = λ i b at. (kept.whole.blocks i b at).unspent;
    own_starts = λ i b at j b' at' start. ap (λ (b : Block). b.cpu) (same_block c w.map.blocks some once j i b' b at' at start);
  }

  -- the spans of a chunk's areas
  group_spans : (chunk group : ℕ) (spans : List Span) → map (λ (a : Span × AreaKind). a.0) (group_kinds chunk group spans) ≡ spans
  group_spans chunk group [] = refl
  group_spans chunk group (s ∷ spans) = ap (λ rest. s ∷ rest) (group_spans chunk (suc group) spans)

  at_place : (k : ℕ) (l : Local) → slice_get w.locals k ≡ Some l → (place : Place) → l.place ≡ place → IsSoundPlace c w.map k place → StaysWithin c w.map (ask c place)
  at_place k l here (SettlingArea s kd) e sound = held_taken k l (s ∷ []) here (λ page. omega (arith, ap (λ place. of_place c place every page) e))
  at_place k l here (SettlingBlock s cpu pages) e sound = held_taken k l (s ∷ []) here (λ page. omega (arith, ap (λ place. of_place c place every page) e))
  at_place k l here (SettlingGroups base chunk bytes align) e sound =
      subst (AreTaken w.map) (sym (group_spans chunk 0 (groups_at c base))) (held_taken k l (groups_at c base) here (λ page. omega (arith, ap (λ place. of_place c place every page) e)))
  at_place k l here (Removing start serial) e sound = areas_taken (named_areas start serial w.map.areas) (λ i a at. filter_within (is_area start serial) w.map.areas i a at)
  at_place k l here (PurgeUnlinking gone extra after) e sound = starting_taken gone
  at_place k l here (UnlinkingBlock start reply) e sound = starting_taken (start ∷ [])
  at_place k l here (UnlinkingGroups base) e sound = starting_taken (group_starts c base)
  at_place k l here (Waiting spans after) e sound = held_taken k l spans here (λ page. omega (arith, ap (λ place. of_place c place every page) e))
  at_place k l here (PurgeWaiting gone extra after) e sound = held_taken k l (block_spans c gone) here (λ page. omega (arith, ap (λ place. of_place c place every page) e))
  at_place k l here (PurgeCollecting extra after) e sound = grind (arith, some, covers-le-times, once, taken_page, one_of)
  at_place k l here (CuttingPart cpu pages) e sound = sound.0
  at_place k l here (AddingBlock at) e sound = sound.1.0
  at_place k l here (SettlingPart at) e sound = (sound.0, of_cpu at (InHand k) sound.1)
  at_place k l here (BeginningUnmap cpu page serial) e sound = sound
  at_place k l here (Retiring at reply) e sound = (sound.0, of_cpu at (InHand k) sound.1)
  at_place k l here (PurgeFragmenting cpu gone extra after) e sound = sound.0
  at_place k l here (LookingAtDirty cpu ranges) e sound = sound
  at_place k l here _ e sound = tt

  stays_within : (k : ℕ) (l : Local) → slice_get w.locals k ≡ Some l → IsSoundLocal c w.map k l → StaysWithin c w.map (ask l.setup l.place)
  stays_within k l here sound = subst (λ c'. StaysWithin c w.map (ask c' l.place)) (sym sound.setup) (at_place k l here l.place refl sound.place)

pub kept_worlds_fall_apart : KeptWorldsFallApart
kept_worlds_fall_apart c w is kept = falls_apart c w is kept

pub kept_callers_stay_within : KeptCallersStayWithin
kept_callers_stay_within c w k l is kept here = stays_within c w is kept k l here (kept.locals k l here)
