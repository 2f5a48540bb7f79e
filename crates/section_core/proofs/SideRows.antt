-- The rows of the table: each place stands before the side that it wants.
use Rattle.std.proofs.Common.{◌≡◌, ℕ, ◌+◌, true, false, List, Option, Some, ℤ, sym, ap, ◌∙◌, subst, refl, arith}
use Rattle.vm_model.specs.Setup.{Setup}
use Rattle.vm_model.specs.Places.{ask}
use Rattle.vm_model.specs.History.{Local}
use Rattle.vm_model.specs.Parts.{Region, number_of, wants}
use Rattle.vm_model.specs.Run.{StandTogether}
use Rattle.vm_model.specs.declared.areas.Span.{Span}
use Rattle.vm_model.specs.declared.areas.Area.{Area}
use Rattle.vm_model.specs.declared.areas.AreaKind.{AreaKind}
use Rattle.vm_model.specs.declared.areas.PageSet.{PageSet}
use Rattle.vm_model.specs.declared.calls.Reply.{Reply}
use Rattle.map_blocks.specs.declared.part.Part.{Part}
use Rattle.chunk_slots.specs.declared.placed.Placed.{Placed}
use Rattle.chunk_slots.specs.ChunkRegion.{ChunkRegion}
use Rattle.callers.specs.declared.answers.Made.{Made}
use Rattle.callers.specs.declared.answers.ObjectPlace.{ObjectPlace}
use Rattle.callers.specs.declared.place.Search.{Search}
use Rattle.callers.specs.declared.place.ObjectSize.{ObjectSize}
use Rattle.callers.specs.declared.place.NewChunk.{NewChunk}
use Rattle.callers.specs.declared.place.After.{After}
use Rattle.augmented_tree.specs.FreeBlocks.{FreeBlocks}
use Rattle.busy_areas.specs.LiveAreaRows.{LiveRows}
use Rattle.map_blocks.specs.BlockRows.{BlockRows}
use Rattle.page_pool.specs.PageMap as pool
use Rattle.callers.specs.declared.place.Place.{Place}
use Rattle.callers.specs.declared.place.Place.TheVariants as place
use Rattle.callers.specs.CarriedPlaces.{Carried, place_of, carried_at}
use Rattle.callers.specs.CallerParts.{IsAt}
use Rattle.section_core.specs.declared.region.Side.{Side}
use Rattle.section_core.specs.declared.region.Side.TheVariants.{Desk, Purge, Alloc, Free, Busy, Lazy, Pages, Percpu, Blocks}
use Rattle.section_core.specs.RegionSides.{region_of}
use Rattle.section_core.specs.SectionRows.{is_row}
use Rattle.section_core.specs.StandsWell.{CanMake}
use Rattle.section_laws.specs.Lawful.{IsLawful}
use Rattle.section_core.proofs.LawfulCallers.{number_of_region, wanted_number}

-- the number of a side's region
abbrev number : Side → ℕ
number side = number_of_region (region_of side)

-- a place by another name
pub at_place : (p p' : Place) (l : Local) (r : Region) → p ≡ p' → CanMake p l r → CanMake p' l r
at_place p p' l r same can = subst (λ q. CanMake q l r) same can

on_desk : (p : Place) (side : Side) → is_row Desk p ≡ true → number side ≡ 0 → is_row side p ≡ true
on_desk p Desk row e = row
on_desk p _ row e = absurd (omega arith)

on_purge : (p : Place) (side : Side) → ((own : Option ℕ) → is_row (Purge own) p ≡ true) → number side ≡ 1 → is_row side p ≡ true
on_purge p (Purge own) row e = row own
on_purge p _ row e = absurd (omega arith)

on_alloc : (p : Place) (side : Side) → ((own : Option ℕ) → is_row (Alloc own) p ≡ true) → number side ≡ 2 → is_row side p ≡ true
on_alloc p (Alloc own) row e = row own
on_alloc p _ row e = absurd (omega arith)

on_free : (p : Place) (side : Side) → ((own : FreeBlocks) → is_row (Free own) p ≡ true) → number side ≡ 3 → is_row side p ≡ true
on_free p (Free own) row e = row own
on_free p _ row e = absurd (omega arith)

on_busy : (p : Place) (side : Side) → ((own : LiveRows) → is_row (Busy own) p ≡ true) → number side ≡ 4 → is_row side p ≡ true
on_busy p (Busy own) row e = row own
on_busy p _ row e = absurd (omega arith)

on_lazy : (p : Place) (side : Side) → ((own : List Span) → is_row (Lazy own) p ≡ true) → number side ≡ 5 → is_row side p ≡ true
on_lazy p (Lazy own) row e = row own
on_lazy p _ row e = absurd (omega arith)

on_pages : (p : Place) (side : Side) → ((own : pool.Pages) → is_row (Pages own) p ≡ true) → number side ≡ 6 → is_row side p ≡ true
on_pages p (Pages own) row e = row own
on_pages p _ row e = absurd (omega arith)

on_percpu : (p : Place) (side : Side) → ((own : ChunkRegion) → is_row (Percpu own) p ≡ true) → number side ≡ 7 → is_row side p ≡ true
on_percpu p (Percpu own) row e = row own
on_percpu p _ row e = absurd (omega arith)

on_blocks : (p : Place) (side : Side) (cpu : ℕ) → ((own : BlockRows) → is_row (Blocks own) p ≡ true) → number side ≡ 8 + cpu → is_row side p ≡ true
on_blocks p (Blocks own) cpu row e = row own
on_blocks p _ cpu row e = absurd (omega arith)

some_is : (m n : ℕ) → Some m ≡ Some n → n ≡ m
some_is m n e = cc

row_by : (c : Setup) (p : Place) (carried : Carried) (side : Side) → number_of (ask c (place_of p carried)) ≡ Some (number side) → is_row side p ≡ true
row_by c place.Over carried side e = cc
row_by c (place.Refusing reply) carried side e = on_desk (place.Refusing reply) side refl (some_is _ _ e)
row_by c (place.PurgeTaking extra after) carried side e = on_purge (place.PurgeTaking extra after) side (λ own. refl) (some_is _ _ e)
row_by c (place.PurgeGiving after) carried side e = on_purge (place.PurgeGiving after) side (λ own. refl) (some_is _ _ e)
row_by c (place.TakingAlloc object) carried side e = on_alloc (place.TakingAlloc object) side (λ own. refl) (some_is _ _ e)
row_by c place.TakingToBalance carried side e = on_alloc place.TakingToBalance side (λ own. refl) (some_is _ _ e)
row_by c (place.GivingAlloc reply made) carried side e = on_alloc (place.GivingAlloc reply made) side (λ own. refl) (some_is _ _ e)
row_by c (place.Finding search) carried side e = on_free (place.Finding search) side (λ own. refl) (some_is _ _ e)
row_by c (place.FindingAgain search) carried side e = on_free (place.FindingAgain search) side (λ own. refl) (some_is _ _ e)
row_by c (place.FindingGroups wanted) carried side e = on_free (place.FindingGroups wanted) side (λ own. refl) (some_is _ _ e)
row_by c (place.FindingGroupsAgain wanted) carried side e = on_free (place.FindingGroupsAgain wanted) side (λ own. refl) (some_is _ _ e)
row_by c (place.Dropping span) carried side e = on_free (place.Dropping span) side (λ own. refl) (some_is _ _ e)
row_by c (place.PurgeReturning after) carried side e = on_free (place.PurgeReturning after) side (λ own. refl) (some_is _ _ e)
row_by c (place.SettlingArea span kind) carried side e = on_busy (place.SettlingArea span kind) side (λ own. refl) (some_is _ _ e)
row_by c (place.Removing start serial) carried side e = on_busy (place.Removing start serial) side (λ own. refl) (some_is _ _ e)
row_by c (place.PurgeUnlinking extra after) carried side e = on_busy (place.PurgeUnlinking extra after) side (λ own. refl) (some_is _ _ e)
row_by c (place.SettlingBlock span cpu asked) carried side e = on_busy (place.SettlingBlock span cpu asked) side (λ own. refl) (some_is _ _ e)
row_by c (place.UnlinkingBlock start reply) carried side e = on_busy (place.UnlinkingBlock start reply) side (λ own. refl) (some_is _ _ e)
row_by c (place.SettlingGroups base wanted) carried side e = on_busy (place.SettlingGroups base wanted) side (λ own. refl) (some_is _ _ e)
row_by c (place.UnlinkingGroups base) carried side e = on_busy (place.UnlinkingGroups base) side (λ own. refl) (some_is _ _ e)
row_by c (place.Waiting span after) carried side e = on_lazy (place.Waiting span after) side (λ own. refl) (some_is _ _ e)
row_by c (place.WaitingForGroups base) carried side e = on_lazy (place.WaitingForGroups base) side (λ own. refl) (some_is _ _ e)
row_by c (place.PurgeWaiting extra after) carried side e = on_lazy (place.PurgeWaiting extra after) side (λ own. refl) (some_is _ _ e)
row_by c (place.PurgeCollecting extra after) carried side e = on_lazy (place.PurgeCollecting extra after) side (λ own. refl) (some_is _ _ e)
row_by c (place.MappingArea span kind) carried side e = on_pages (place.MappingArea span kind) side (λ own. refl) (some_is _ _ e)
row_by c (place.UnmappingArea area) carried side e = on_pages (place.UnmappingArea area) side (λ own. refl) (some_is _ _ e)
row_by c (place.PurgeFlushing hull after) carried side e = on_pages (place.PurgeFlushing hull after) side (λ own. refl) (some_is _ _ e)
row_by c (place.MappingPart cpu part) carried side e = on_pages (place.MappingPart cpu part) side (λ own. refl) (some_is _ _ e)
row_by c (place.UnmappingPart cpu part) carried side e = on_pages (place.UnmappingPart cpu part) side (λ own. refl) (some_is _ _ e)
row_by c (place.Populating placed) carried side e = on_pages (place.Populating placed) side (λ own. refl) (some_is _ _ e)
row_by c (place.Zeroing placed) carried side e = on_pages (place.Zeroing placed) side (λ own. refl) (some_is _ _ e)
row_by c (place.Adding object serial cpu index amount) carried side e = on_pages (place.Adding object serial cpu index amount) side (λ own. refl) (some_is _ _ e)
row_by c (place.Summing object serial index) carried side e = on_pages (place.Summing object serial index) side (λ own. refl) (some_is _ _ e)
row_by c (place.Depopulating base populated) carried side e = on_pages (place.Depopulating base populated) side (λ own. refl) (some_is _ _ e)
row_by c (place.Filling chunk base page filled) carried side e = on_pages (place.Filling chunk base page filled) side (λ own. refl) (some_is _ _ e)
row_by c (place.Choosing object) carried side e = on_percpu (place.Choosing object) side (λ own. refl) (some_is _ _ e)
row_by c (place.AddingChunk base wanted) carried side e = on_percpu (place.AddingChunk base wanted) side (λ own. refl) (some_is _ _ e)
row_by c (place.SettlingObject placed) carried side e = on_percpu (place.SettlingObject placed) side (λ own. refl) (some_is _ _ e)
row_by c (place.Unplacing placed) carried side e = on_percpu (place.Unplacing placed) side (λ own. refl) (some_is _ _ e)
row_by c (place.ChoosingAtomic object) carried side e = on_percpu (place.ChoosingAtomic object) side (λ own. refl) (some_is _ _ e)
row_by c (place.SettlingAtomic placed) carried side e = on_percpu (place.SettlingAtomic placed) side (λ own. refl) (some_is _ _ e)
row_by c (place.FreeingObject object serial) carried side e = on_percpu (place.FreeingObject object serial) side (λ own. refl) (some_is _ _ e)
row_by c place.Sparing carried side e = on_percpu place.Sparing side (λ own. refl) (some_is _ _ e)
row_by c (place.NextFill filled) carried side e = on_percpu (place.NextFill filled) side (λ own. refl) (some_is _ _ e)
row_by c (place.NotingFilled chunk page filled) carried side e = on_percpu (place.NotingFilled chunk page filled) side (λ own. refl) (some_is _ _ e)
row_by c (place.LookingAtDirty cpu) carried side e = on_blocks (place.LookingAtDirty cpu) side cpu (λ own. refl) (some_is _ _ e)
row_by c (place.PurgeFragmenting cpu extra after) carried side e = on_blocks (place.PurgeFragmenting cpu extra after) side cpu (λ own. refl) (some_is _ _ e)
row_by c (place.CuttingPart cpu asked) carried side e = on_blocks (place.CuttingPart cpu asked) side cpu (λ own. refl) (some_is _ _ e)
row_by c (place.AddingBlock start cpu asked) carried side e = on_blocks (place.AddingBlock start cpu asked) side cpu (λ own. refl) (some_is _ _ e)
row_by c (place.SettlingPart cpu part) carried side e = on_blocks (place.SettlingPart cpu part) side cpu (λ own. refl) (some_is _ _ e)
row_by c (place.BeginningUnmap cpu page serial) carried side e = on_blocks (place.BeginningUnmap cpu page serial) side cpu (λ own. refl) (some_is _ _ e)
row_by c (place.Retiring cpu part reply) carried side e = on_blocks (place.Retiring cpu part reply) side cpu (λ own. refl) (some_is _ _ e)

-- each place stands before the side that it wants
pub row_here : (l : Local) (r : Region) (side : Side) (p : Place) → IsAt p l → region_of side ≡ r → StandTogether wants IsLawful l r → is_row side p ≡ true
row_here l r side p at is st =
    row_by l.setup p (carried_at l.place) side (sym (ap (λ q. number_of (ask l.setup q)) at.place) ∙ wanted_number l r st ∙ ap (λ x. Some (number_of_region x)) (sym is))

-- a place that is none of a side's rows does not stand before it
pub no : false ≡ true → ⊥
no e = cc

pub none_desk : (p : Place) → is_row Desk p ≡ true → ((reply : Reply) → p ≡ place.Refusing reply → ⊥) → ⊥
none_desk (place.Refusing reply) row n0 = n0 reply refl
none_desk _ row n0 = no row

pub none_purge : (p : Place) (own : Option ℕ) → is_row (Purge own) p ≡ true → ((extra : Option Span) (after : After) → p ≡ place.PurgeTaking extra after → ⊥) → ((after : After) → p ≡ place.PurgeGiving after → ⊥) → ⊥
none_purge (place.PurgeTaking extra after) own row n0 n1 = n0 extra after refl
none_purge (place.PurgeGiving after) own row n0 n1 = n1 after refl
none_purge _ own row n0 n1 = no row

pub none_alloc : (p : Place) (own : Option ℕ) → is_row (Alloc own) p ≡ true → ((object : ObjectSize) → p ≡ place.TakingAlloc object → ⊥) → (p ≡ place.TakingToBalance → ⊥) → ((reply : Reply) (made : Made) → p ≡ place.GivingAlloc reply made → ⊥) → ⊥
none_alloc (place.TakingAlloc object) own row n0 n1 n2 = n0 object refl
none_alloc place.TakingToBalance own row n0 n1 n2 = n1 refl
none_alloc (place.GivingAlloc reply made) own row n0 n1 n2 = n2 reply made refl
none_alloc _ own row n0 n1 n2 = no row

pub none_free : (p : Place) (own : FreeBlocks) → is_row (Free own) p ≡ true → ((search : Search) → p ≡ place.Finding search → ⊥) → ((search : Search) → p ≡ place.FindingAgain search → ⊥) → ((wanted : NewChunk) → p ≡ place.FindingGroups wanted → ⊥) → ((wanted : NewChunk) → p ≡ place.FindingGroupsAgain wanted → ⊥) → ((span : Span) → p ≡ place.Dropping span → ⊥) → ((after : After) → p ≡ place.PurgeReturning after → ⊥) → ⊥
none_free (place.Finding search) own row n0 n1 n2 n3 n4 n5 = n0 search refl
none_free (place.FindingAgain search) own row n0 n1 n2 n3 n4 n5 = n1 search refl
none_free (place.FindingGroups wanted) own row n0 n1 n2 n3 n4 n5 = n2 wanted refl
none_free (place.FindingGroupsAgain wanted) own row n0 n1 n2 n3 n4 n5 = n3 wanted refl
none_free (place.Dropping span) own row n0 n1 n2 n3 n4 n5 = n4 span refl
none_free (place.PurgeReturning after) own row n0 n1 n2 n3 n4 n5 = n5 after refl
none_free _ own row n0 n1 n2 n3 n4 n5 = no row

pub none_busy : (p : Place) (own : LiveRows) → is_row (Busy own) p ≡ true → ((span : Span) (kind : AreaKind) → p ≡ place.SettlingArea span kind → ⊥) → ((start : ℕ) (serial : ℕ) → p ≡ place.Removing start serial → ⊥) → ((extra : Option Span) (after : After) → p ≡ place.PurgeUnlinking extra after → ⊥) → ((span : Span) (cpu : ℕ) (asked : ℕ) → p ≡ place.SettlingBlock span cpu asked → ⊥) → ((start : ℕ) (reply : Reply) → p ≡ place.UnlinkingBlock start reply → ⊥) → ((base : ℕ) (wanted : NewChunk) → p ≡ place.SettlingGroups base wanted → ⊥) → ((base : ℕ) → p ≡ place.UnlinkingGroups base → ⊥) → ⊥
none_busy (place.SettlingArea span kind) own row n0 n1 n2 n3 n4 n5 n6 = n0 span kind refl
none_busy (place.Removing start serial) own row n0 n1 n2 n3 n4 n5 n6 = n1 start serial refl
none_busy (place.PurgeUnlinking extra after) own row n0 n1 n2 n3 n4 n5 n6 = n2 extra after refl
none_busy (place.SettlingBlock span cpu asked) own row n0 n1 n2 n3 n4 n5 n6 = n3 span cpu asked refl
none_busy (place.UnlinkingBlock start reply) own row n0 n1 n2 n3 n4 n5 n6 = n4 start reply refl
none_busy (place.SettlingGroups base wanted) own row n0 n1 n2 n3 n4 n5 n6 = n5 base wanted refl
none_busy (place.UnlinkingGroups base) own row n0 n1 n2 n3 n4 n5 n6 = n6 base refl
none_busy _ own row n0 n1 n2 n3 n4 n5 n6 = no row

pub none_lazy : (p : Place) (own : List Span) → is_row (Lazy own) p ≡ true → ((span : Span) (after : After) → p ≡ place.Waiting span after → ⊥) → ((base : ℕ) → p ≡ place.WaitingForGroups base → ⊥) → ((extra : Option Span) (after : After) → p ≡ place.PurgeWaiting extra after → ⊥) → ((extra : Option Span) (after : After) → p ≡ place.PurgeCollecting extra after → ⊥) → ⊥
none_lazy (place.Waiting span after) own row n0 n1 n2 n3 = n0 span after refl
none_lazy (place.WaitingForGroups base) own row n0 n1 n2 n3 = n1 base refl
none_lazy (place.PurgeWaiting extra after) own row n0 n1 n2 n3 = n2 extra after refl
none_lazy (place.PurgeCollecting extra after) own row n0 n1 n2 n3 = n3 extra after refl
none_lazy _ own row n0 n1 n2 n3 = no row

pub none_pages : (p : Place) (own : pool.Pages) → is_row (Pages own) p ≡ true → ((span : Span) (kind : AreaKind) → p ≡ place.MappingArea span kind → ⊥) → ((area : Area) → p ≡ place.UnmappingArea area → ⊥) → ((hull : Span) (after : After) → p ≡ place.PurgeFlushing hull after → ⊥) → ((cpu : ℕ) (part : Part) → p ≡ place.MappingPart cpu part → ⊥) → ((cpu : ℕ) (part : Part) → p ≡ place.UnmappingPart cpu part → ⊥) → ((placed : Placed) → p ≡ place.Populating placed → ⊥) → ((placed : Placed) → p ≡ place.Zeroing placed → ⊥) → ((object : ObjectPlace) (serial : ℕ) (cpu : ℕ) (index : ℕ) (amount : ℤ) → p ≡ place.Adding object serial cpu index amount → ⊥) → ((object : ObjectPlace) (serial : ℕ) (index : ℕ) → p ≡ place.Summing object serial index → ⊥) → ((base : ℕ) (populated : PageSet) → p ≡ place.Depopulating base populated → ⊥) → ((chunk : ℕ) (base : ℕ) (page : ℕ) (filled : ℕ) → p ≡ place.Filling chunk base page filled → ⊥) → ⊥
none_pages (place.MappingArea span kind) own row n0 n1 n2 n3 n4 n5 n6 n7 n8 n9 n10 = n0 span kind refl
none_pages (place.UnmappingArea area) own row n0 n1 n2 n3 n4 n5 n6 n7 n8 n9 n10 = n1 area refl
none_pages (place.PurgeFlushing hull after) own row n0 n1 n2 n3 n4 n5 n6 n7 n8 n9 n10 = n2 hull after refl
none_pages (place.MappingPart cpu part) own row n0 n1 n2 n3 n4 n5 n6 n7 n8 n9 n10 = n3 cpu part refl
none_pages (place.UnmappingPart cpu part) own row n0 n1 n2 n3 n4 n5 n6 n7 n8 n9 n10 = n4 cpu part refl
none_pages (place.Populating placed) own row n0 n1 n2 n3 n4 n5 n6 n7 n8 n9 n10 = n5 placed refl
none_pages (place.Zeroing placed) own row n0 n1 n2 n3 n4 n5 n6 n7 n8 n9 n10 = n6 placed refl
none_pages (place.Adding object serial cpu index amount) own row n0 n1 n2 n3 n4 n5 n6 n7 n8 n9 n10 = n7 object serial cpu index amount refl
none_pages (place.Summing object serial index) own row n0 n1 n2 n3 n4 n5 n6 n7 n8 n9 n10 = n8 object serial index refl
none_pages (place.Depopulating base populated) own row n0 n1 n2 n3 n4 n5 n6 n7 n8 n9 n10 = n9 base populated refl
none_pages (place.Filling chunk base page filled) own row n0 n1 n2 n3 n4 n5 n6 n7 n8 n9 n10 = n10 chunk base page filled refl
none_pages _ own row n0 n1 n2 n3 n4 n5 n6 n7 n8 n9 n10 = no row

pub none_percpu : (p : Place) (own : ChunkRegion) → is_row (Percpu own) p ≡ true → ((object : ObjectSize) → p ≡ place.Choosing object → ⊥) → ((base : ℕ) (wanted : NewChunk) → p ≡ place.AddingChunk base wanted → ⊥) → ((placed : Placed) → p ≡ place.SettlingObject placed → ⊥) → ((placed : Placed) → p ≡ place.Unplacing placed → ⊥) → ((object : ObjectSize) → p ≡ place.ChoosingAtomic object → ⊥) → ((placed : Placed) → p ≡ place.SettlingAtomic placed → ⊥) → ((object : ObjectPlace) (serial : ℕ) → p ≡ place.FreeingObject object serial → ⊥) → (p ≡ place.Sparing → ⊥) → ((filled : ℕ) → p ≡ place.NextFill filled → ⊥) → ((chunk : ℕ) (page : ℕ) (filled : ℕ) → p ≡ place.NotingFilled chunk page filled → ⊥) → ⊥
none_percpu (place.Choosing object) own row n0 n1 n2 n3 n4 n5 n6 n7 n8 n9 = n0 object refl
none_percpu (place.AddingChunk base wanted) own row n0 n1 n2 n3 n4 n5 n6 n7 n8 n9 = n1 base wanted refl
none_percpu (place.SettlingObject placed) own row n0 n1 n2 n3 n4 n5 n6 n7 n8 n9 = n2 placed refl
none_percpu (place.Unplacing placed) own row n0 n1 n2 n3 n4 n5 n6 n7 n8 n9 = n3 placed refl
none_percpu (place.ChoosingAtomic object) own row n0 n1 n2 n3 n4 n5 n6 n7 n8 n9 = n4 object refl
none_percpu (place.SettlingAtomic placed) own row n0 n1 n2 n3 n4 n5 n6 n7 n8 n9 = n5 placed refl
none_percpu (place.FreeingObject object serial) own row n0 n1 n2 n3 n4 n5 n6 n7 n8 n9 = n6 object serial refl
none_percpu place.Sparing own row n0 n1 n2 n3 n4 n5 n6 n7 n8 n9 = n7 refl
none_percpu (place.NextFill filled) own row n0 n1 n2 n3 n4 n5 n6 n7 n8 n9 = n8 filled refl
none_percpu (place.NotingFilled chunk page filled) own row n0 n1 n2 n3 n4 n5 n6 n7 n8 n9 = n9 chunk page filled refl
none_percpu _ own row n0 n1 n2 n3 n4 n5 n6 n7 n8 n9 = no row

pub none_blocks : (p : Place) (own : BlockRows) → is_row (Blocks own) p ≡ true → ((cpu : ℕ) → p ≡ place.LookingAtDirty cpu → ⊥) → ((cpu : ℕ) (extra : Option Span) (after : After) → p ≡ place.PurgeFragmenting cpu extra after → ⊥) → ((cpu : ℕ) (asked : ℕ) → p ≡ place.CuttingPart cpu asked → ⊥) → ((start : ℕ) (cpu : ℕ) (asked : ℕ) → p ≡ place.AddingBlock start cpu asked → ⊥) → ((cpu : ℕ) (part : Part) → p ≡ place.SettlingPart cpu part → ⊥) → ((cpu : ℕ) (page : ℕ) (serial : ℕ) → p ≡ place.BeginningUnmap cpu page serial → ⊥) → ((cpu : ℕ) (part : Part) (reply : Reply) → p ≡ place.Retiring cpu part reply → ⊥) → ⊥
none_blocks (place.LookingAtDirty cpu) own row n0 n1 n2 n3 n4 n5 n6 = n0 cpu refl
none_blocks (place.PurgeFragmenting cpu extra after) own row n0 n1 n2 n3 n4 n5 n6 = n1 cpu extra after refl
none_blocks (place.CuttingPart cpu asked) own row n0 n1 n2 n3 n4 n5 n6 = n2 cpu asked refl
none_blocks (place.AddingBlock start cpu asked) own row n0 n1 n2 n3 n4 n5 n6 = n3 start cpu asked refl
none_blocks (place.SettlingPart cpu part) own row n0 n1 n2 n3 n4 n5 n6 = n4 cpu part refl
none_blocks (place.BeginningUnmap cpu page serial) own row n0 n1 n2 n3 n4 n5 n6 = n5 cpu page serial refl
none_blocks (place.Retiring cpu part reply) own row n0 n1 n2 n3 n4 n5 n6 = n6 cpu part reply refl
none_blocks _ own row n0 n1 n2 n3 n4 n5 n6 = no row
