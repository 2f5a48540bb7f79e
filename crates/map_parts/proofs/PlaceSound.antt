-- At each place, the section that the map gives leaves the map whole and its caller at a sound place.
use Rattle.std.proofs.Common.{◌≡◌, ℕ, suc, ◌<◌, ◌≤◌, Bool, true, false, nat_lt, if◌then◌else◌, List, [], ◌∷◌, ◌++◌, length, slice_index, Option, Some, None, IfSome, refl, sym, subst, arith}
use Rattle.vm_model.specs.declared.areas.Span.{Span}
use Rattle.vm_model.specs.declared.areas.Area.{Area}
use Rattle.vm_model.specs.declared.areas.AreaKind.TheVariants as kind
use Rattle.vm_model.specs.Space.{holds, covers, lowest}
use Rattle.vm_model.specs.Setup.{Setup, cpus, highest, pages_in_units}
use Rattle.vm_model.specs.PlainMap.{PlainMap, Chunk, Free, InHand, Lives, Ended, taken}
use Rattle.vm_model.specs.Areas.{named_areas, group_areas, mapped_part}
use Rattle.vm_model.specs.Blocks.{PartAt, mapped_pages, part_to_cut, named_parts, fragmented, set_life, spends}
use Rattle.vm_model.specs.Chunks.{ObjectAt, plain_fit, atomic_fit, placement, new_chunk, is_live_object, spare_chunk}
use Rattle.vm_model.specs.Events.{Section, Search, ForPages, ForGroups, NoFrames, MapPages, Populate, Fill}
use Rattle.vm_model.specs.Effects.{effect_as}
use Rattle.vm_model.specs.Told.{carved, carved_base}
use Rattle.vm_model.specs.Places.{Aim, Then, SearchAgain, Place, Over, Refusing, Finding, FindingAgain, MappingArea, Dropping, SettlingArea, Removing, UnmappingArea, Waiting, PurgeTaking, PurgeFragmenting, PurgeUnlinking, PurgeWaiting, PurgeCollecting, PurgeFlushing, PurgeReturning, PurgeGiving, CuttingPart, SettlingBlock, AddingBlock, MappingPart, SettlingPart, BeginningUnmap, UnmappingPart, Retiring, UnlinkingBlock, LookingAtDirty, TakingAlloc, Choosing, SettlingGroups, AddingChunk, Populating, SettlingObject, Unplacing, GivingAlloc, ChoosingAtomic, Zeroing, SettlingAtomic, FreeingObject, Adding, Summing, TakingToBalance, Sparing, Depopulating, UnlinkingGroups, NextFill, Filling, NotingFilled, ask}
use Rattle.vm_model.specs.Next.{Next, Go, Answer, next, found, without_space, after_fragments}
use Rattle.vm_model.specs.Given.{given, carving, carving_groups, searching, removal, placing, placing_new, placing_atomic, freeing, sparing, cutting, beginning}
use Rattle.vm_model.specs.Rules.{IsSetup}
use Rattle.vm_model.proofs.PaintRuns.{length-paint}
use Rattle.map_parts.specs.KeptByEvents.{CanBePart, IsSoundAim, IsSoundThen, IsSoundPlace, IsSoundMade, IsWhole}
use Rattle.map_parts.proofs.Filters.{filter_within}
use Rattle.map_parts.proofs.WholeBlocks.{AreOnce, cut_own, is_named_part, life_own}
use Rattle.map_parts.proofs.MapKept.{KeepsMap, keeps_lists, keeps_fewer, keeps_settled, settled_plain, keeps_cut, keeps_added, added_own, keeps_settled_part, keeps_begun, keeps_retired, keeps_fragmented}
use Rattle.map_parts.proofs.Tests.{lt_test, of_two}

abbrev pub IsSoundNext : Setup → PlainMap → (caller : ℕ) → Next → Type 0
IsSoundNext c m k (Go place) = IsSoundPlace c m k place
IsSoundNext c m k (Answer reply made) = IsSoundMade c m made

module _ (c : Setup) (m : PlainMap) (k : ℕ) where
  pub record GoesOn (place : Place) (s : Section) : Type 0 where
    pub map : KeepsMap c m k (effect_as c m k s)
    pub onward : IsSoundNext c (effect_as c m k s) k (next c place s)

  sound_if : (m' : PlainMap) (b : Bool) (n n' : Next) → (b ≡ true → IsSoundNext c m' k n) → (b ≡ false → IsSoundNext c m' k n') → IsSoundNext c m' k (if b then n else n')
  sound_if m' true n n' p q = p refl
  sound_if m' false n n' p q = q refl

  fragments_sound : (m' : PlainMap) (gone : List ℕ) (extra : Option Span) (after : Then) → IsSoundThen c after → IsSoundPlace c m' k (after_fragments gone extra after)
  fragments_sound m' gone extra after sound = grind arith

  without_sound : (m' : PlainMap) (aim : Aim) → IsSoundNext c m' k (without_space aim)
  without_sound m' aim = grind arith

  module _ (whole : IsWhole c m) where
    -- sections that change none of areas, blocks and next serials
    stays : (m' : PlainMap) → length m'.marks ≡ length m.marks → m'.next_part ≡ m.next_part → m'.areas ≡ m.areas → m'.next_area ≡ m.next_area → m'.blocks ≡ m.blocks → KeepsMap c m k m'
    stays = keeps_lists c m k whole

    module _ (aim : Aim) (otherwise : Next) (other : (m' : PlainMap) → IsSoundNext c m' k otherwise) where
      record Finds (s : Section) : Type 0 where
        map : KeepsMap c m k (effect_as c m k s)
        onward : IsSoundNext c (effect_as c m k s) k (found aim (carved s) (carved_base s) otherwise)

      finds_pages : (pages align : ℕ) (o : Option ℕ) → IsSoundAim c (ForPages pages align) aim → Finds (carving pages align o)
      finds_pages pages align None sound = record { map = stays m refl refl refl refl refl; onward = other m }
      finds_pages pages align (Some start) sound = grind (arith, stays, length-paint)

      finds_groups : (o : Option ℕ) → Finds (carving_groups o)
      finds_groups None = record { map = stays m refl refl refl refl refl; onward = other m }
      finds_groups (Some base) = grind (arith, stays, length-paint)

      finds : (search : Search) → IsSoundAim c search aim → Finds (searching c m search)
      finds (ForPages pages align) sound = finds_pages pages align (lowest (taken m) pages align) sound
      finds ForGroups sound = finds_groups (highest c (taken m))

    removes : (start serial : ℕ) (l : List Area) → GoesOn (Removing start serial) (removal start serial l)
    removes start serial [] = record { map = stays m refl refl refl refl refl; onward = tt }
    removes start serial (a ∷ rest) = grind (arith, keeps_fewer, length-paint, filter_within)

    places : (bytes align number : ℕ) (o : Option (ObjectAt × List ℕ)) → GoesOn (Choosing bytes align) (placing bytes align number o)
    places bytes align number None = record { map = stays m refl refl refl refl refl; onward = tt }
    places bytes align number (Some p) = record { map = stays _ refl refl refl refl refl; onward = tt }

    places_new : (base chunk bytes align : ℕ) (o : Option (ObjectAt × List ℕ)) → GoesOn (AddingChunk base chunk bytes align) (placing_new chunk base bytes align o)
    places_new base chunk bytes align None = record { map = stays m refl refl refl refl refl; onward = tt }
    places_new base chunk bytes align (Some p) = record { map = stays _ refl refl refl refl refl; onward = tt }

    places_atomic : (bytes align : ℕ) (o : Option (ObjectAt × List ℕ)) → GoesOn (ChoosingAtomic bytes align) (placing_atomic bytes align o)
    places_atomic bytes align None = record { map = stays m refl refl refl refl refl; onward = tt }
    places_atomic bytes align (Some p) = record { map = stays _ refl refl refl refl refl; onward = tt }

    frees : (at : ObjectAt) (serial : ℕ) (b : Bool) → GoesOn (FreeingObject at serial) (freeing at serial b)
    frees at serial true = record { map = stays _ refl refl refl refl refl; onward = tt }
    frees at serial false = record { map = stays m refl refl refl refl refl; onward = tt }

    spares : (o : Option Chunk) → GoesOn Sparing (sparing c o)
    spares None = record { map = stays m refl refl refl refl refl; onward = tt }
    spares (Some h) = record { map = stays _ refl refl refl refl refl; onward = tt }

    module _ (is : IsSetup c) (once : AreOnce c m.blocks) where
      some : 1 ≤ c.block_pages
      some = let low = is.block_low in omega arith

      cuts : (cpu pages : ℕ) (o : Option PartAt) → part_to_cut c cpu pages m.blocks ≡ o → CanBePart c cpu pages → GoesOn (CuttingPart cpu pages) (cutting cpu pages o)
      cuts cpu pages None e sound = record { map = stays m refl refl refl refl refl; onward = (refl, sound) }
      cuts cpu pages (Some at) e sound =
          let own = cut_own c m.blocks some once k cpu pages at e in
          record { map = keeps_cut c m k whole is once cpu pages at e; onward = (subst (λ n. n < cpus c) (sym own.0) sound.0, own.1) }

      begins : (cpu page serial : ℕ) (parts : List PartAt) → named_parts cpu page serial m.blocks ≡ parts → cpu < cpus c → GoesOn (BeginningUnmap cpu page serial) (beginning cpu page serial parts)
      begins cpu page serial [] e l = record { map = stays m refl refl refl refl refl; onward = tt }
      begins cpu page serial (at ∷ parts) e l =
          let named = is_named_part c m.blocks some once cpu page serial at parts e in
          record {
            map = keeps_begun c m k whole is once at serial named.has;
            onward = (subst (λ n. n < cpus c) (sym named.own) l, life_own c m.blocks some once at (Lives serial) (InHand k) named.has);
          }

      pub place_sound : (place : Place) → IsSoundPlace c m k place → IfSome (given c m (ask c place)) (GoesOn place)
      place_sound Over sound = tt
      place_sound (Refusing reply) sound = record { map = stays m refl refl refl refl refl; onward = tt }
      place_sound (Finding search aim) sound =
          let found = finds aim (Go (PurgeTaking None (SearchAgain search aim))) (λ m'. sound) search sound in record { map = found.map; onward = found.onward }
      place_sound (FindingAgain search aim) sound =
          let found = finds aim (without_space aim) (λ m'. without_sound m' aim) search sound in record { map = found.map; onward = found.onward }
      place_sound (MappingArea s kd) sound =
          of_two (GoesOn (MappingArea s kd)) _ (NoFrames (mapped_part kd s).pages) (MapPages (mapped_part kd s)) (record { map = stays m refl refl refl refl refl; onward = tt })
          (record { map = stays _ refl refl refl refl refl; onward = sound })
      place_sound (Dropping s) sound = record { map = stays _ (length-paint (holds s) Free m.marks) refl refl refl refl; onward = tt }
      place_sound (SettlingArea s kd) sound = record { map = keeps_settled c m k whole ((s, kd) ∷ []); onward = settled_plain c m k whole s kd sound }
      place_sound (Removing start serial) sound = removes start serial (named_areas start serial m.areas)
      place_sound (UnmappingArea area) sound = record { map = stays _ refl refl refl refl refl; onward = tt }
      place_sound (Waiting spans after) sound = grind (arith, stays, length-paint)
      place_sound (PurgeTaking extra after) sound = grind (arith, stays, some)
      place_sound (PurgeFragmenting cpu gone extra after) sound = record {
        map = keeps_fragmented c m k whole is once cpu;
        onward = sound_if _ (nat_lt (suc cpu) (cpus c)) _ _ (λ e. (lt_test (suc cpu) (cpus c) e, sound.1)) (λ e. fragments_sound _ (gone ++ fragmented c cpu m.blocks) extra after sound.1);
      }
      place_sound (PurgeUnlinking gone extra after) sound = grind (arith, keeps_fewer, length-paint, filter_within)
      place_sound (PurgeWaiting gone extra after) sound = grind (arith, stays, length-paint)
      place_sound (PurgeCollecting extra after) sound = grind (arith, stays, length-paint)
      place_sound (PurgeFlushing s waited after) sound = grind (arith, stays)
      place_sound (PurgeReturning waited after) sound = record { map = stays _ (length-paint (covers waited) Free m.marks) refl refl refl refl; onward = sound }
      place_sound (PurgeGiving after) sound = grind (arith, stays)
      place_sound (CuttingPart cpu pages) sound = cuts cpu pages (part_to_cut c cpu pages m.blocks) refl sound
      place_sound (SettlingBlock s cpu pages) sound = record { map = keeps_settled c m k whole ((s, kind.Block cpu) ∷ []); onward = (refl, sound.1) }
      place_sound (AddingBlock at) sound = record { map = keeps_added c m k whole is once at sound.0 sound.1.1; onward = (sound.1.0, added_own c m k whole is once at) }
      place_sound (MappingPart at) sound =
          of_two (GoesOn (MappingPart at)) _ (NoFrames at.pages) (MapPages (mapped_pages at)) (record { map = stays m refl refl refl refl refl; onward = sound })
          (record { map = stays _ refl refl refl refl refl; onward = sound })
      place_sound (SettlingPart at) sound = record { map = keeps_settled_part c m k whole is once at (slice_index m.next_part at.cpu) sound.1; onward = sound.0 }
      place_sound (BeginningUnmap cpu page serial) sound = begins cpu page serial (named_parts cpu page serial m.blocks) refl sound
      place_sound (UnmappingPart at) sound = record { map = stays _ refl refl refl refl refl; onward = sound }
      place_sound (Retiring at reply) sound = record {
        map = keeps_retired c m k whole is once at (spends c at (set_life at Ended m.blocks)) sound.1;
        onward = sound_if _ (spends c at (set_life at Ended m.blocks)) (Go (UnlinkingBlock at.block reply)) _ (λ e. tt) (λ e. tt);
      }
      place_sound (UnlinkingBlock start reply) sound = grind (arith, keeps_fewer, length-paint, filter_within)
      place_sound (LookingAtDirty cpu ranges) sound = grind (arith, stays, lt_test)
      place_sound (TakingAlloc bytes align) sound = grind (arith, stays)
      place_sound (Choosing bytes align) sound = places bytes align m.next_chunk (placement c (plain_fit c bytes align) bytes m.chunks)
      place_sound (SettlingGroups base chunk bytes align) sound = record { map = keeps_settled c m k whole (group_areas c chunk base); onward = tt }
      place_sound (AddingChunk base chunk bytes align) sound = places_new base chunk bytes align (placement c (plain_fit c bytes align) bytes (m.chunks ++ new_chunk c chunk base ∷ []))
      place_sound (Populating at missing) sound =
          of_two (GoesOn (Populating at missing)) _ (NoFrames (length (pages_in_units c at.base missing))) (Populate at missing) (record { map = stays m refl refl refl refl refl; onward = tt })
          (record { map = stays _ refl refl refl refl refl; onward = tt })
      place_sound (SettlingObject at) sound = record { map = stays _ refl refl refl refl refl; onward = tt }
      place_sound (Unplacing at) sound = record { map = stays _ refl refl refl refl refl; onward = tt }
      place_sound (GivingAlloc reply made) sound = grind (arith, stays)
      place_sound (ChoosingAtomic bytes align) sound = places_atomic bytes align (placement c (atomic_fit c bytes align) bytes m.chunks)
      place_sound (Zeroing at) sound = record { map = stays _ refl refl refl refl refl; onward = tt }
      place_sound (SettlingAtomic at) sound = record { map = stays _ refl refl refl refl refl; onward = tt }
      place_sound (FreeingObject at serial) sound = frees at serial (is_live_object at serial m.chunks)
      place_sound (Adding at serial cpu index amount) sound = record { map = stays _ refl refl refl refl refl; onward = tt }
      place_sound (Summing at serial index) sound = record { map = stays m refl refl refl refl refl; onward = tt }
      place_sound TakingToBalance sound = grind (arith, stays)
      place_sound Sparing sound = spares (spare_chunk m.chunks)
      place_sound (Depopulating base populated) sound = record { map = stays _ refl refl refl refl refl; onward = tt }
      place_sound (UnlinkingGroups base) sound = grind (arith, keeps_fewer, length-paint, filter_within)
      place_sound (NextFill filled) sound = grind (arith, stays)
      place_sound (Filling chunk base page filled) sound =
          of_two (GoesOn (Filling chunk base page filled)) _ (NoFrames (length (pages_in_units c base (page ∷ [])))) (Fill base page) (record { map = stays m refl refl refl refl refl; onward = tt })
          (record { map = stays _ refl refl refl refl refl; onward = tt })
      place_sound (NotingFilled chunk page filled) sound = record { map = stays _ refl refl refl refl refl; onward = tt }
