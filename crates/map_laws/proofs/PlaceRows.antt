-- Where a section leads: a row for each place and each of its outcomes. What holds of all places that some rows lead to is a function on rows.
use Rattle.std.proofs.Common.{◌≡◌, ℕ, suc, Bool, true, false, nat_lt, if◌then◌else◌, List, [], ◌∷◌, ◌++◌, Option, Some, None, refl, sym, subst, option_to_list, ℤ}
use Rattle.vm_model.specs.declared.areas.Span.{Span}
use Rattle.vm_model.specs.declared.areas.Area.{Area}
use Rattle.vm_model.specs.declared.areas.AreaKind.{AreaKind}
use Rattle.vm_model.specs.declared.calls.Reply.{Reply}
use Rattle.vm_model.specs.declared.calls.Reply.TheVariants as reply
use Rattle.vm_model.specs.Space.{address_of, hull}
use Rattle.vm_model.specs.Setup.{Setup, cpus, groups_at}
use Rattle.vm_model.specs.Blocks.{PartAt, first_page}
use Rattle.vm_model.specs.Chunks.{ObjectAt}
use Rattle.vm_model.specs.Events.{Section, Search, ForPages, ForGroups}
use Rattle.vm_model.specs.Told.{carved, carved_base, had_frames, serial_given, removed, pages_waiting, spans_taken, blocks_gone, dirty_told, part_told, was_spent, placed, next_number, was_live, sum_told, spare_told, page_told}
use Rattle.vm_model.specs.Places.{Made, MadeNothing, MadeArea, MadePart, MadeObject, Aim, ForArea, ForBlock, ForChunk, Then, SearchAgain, ReplyWith, SpareAgain, Place, Over, Refusing, Finding, FindingAgain, MappingArea, Dropping, SettlingArea, Removing, UnmappingArea, Waiting, PurgeTaking, PurgeFragmenting, PurgeUnlinking, PurgeWaiting, PurgeCollecting, PurgeFlushing, PurgeReturning, PurgeGiving, CuttingPart, SettlingBlock, AddingBlock, MappingPart, SettlingPart, BeginningUnmap, UnmappingPart, Retiring, UnlinkingBlock, LookingAtDirty, TakingAlloc, Choosing, SettlingGroups, AddingChunk, Populating, SettlingObject, Unplacing, GivingAlloc, ChoosingAtomic, Zeroing, SettlingAtomic, FreeingObject, Adding, Summing, TakingToBalance, Sparing, Depopulating, UnlinkingGroups, NextFill, Filling, NotingFilled, block_spans}
use Rattle.vm_model.specs.Next.{Next, Go, Answer, next, found, without_space, after_remove, go_on, after_fragments, after_collecting, after_flush, after_cut, after_begin, after_place, after_atomic, object_address, after_spare, after_page}

pub data PlaceRow (c : Setup) (s : Section) : Place → Next → Type 0 where
  Stays : PlaceRow c s Over (Go Over)
  Refused : (r : Reply) → PlaceRow c s (Refusing r) (Answer r MadeNothing)
  FoundArea : (search : Search) (k : AreaKind) (place : Span) → carved s ≡ Some place → PlaceRow c s (Finding search (ForArea k)) (Go (MappingArea place k))
  FoundBlock : (search : Search) (cpu pages : ℕ) (place : Span) → carved s ≡ Some place → PlaceRow c s (Finding search (ForBlock cpu pages)) (Go (SettlingBlock place cpu pages))
  FoundGroups : (search : Search) (chunk bytes align base : ℕ) → carved_base s ≡ Some base → PlaceRow c s (Finding search (ForChunk chunk bytes align)) (Go (SettlingGroups base chunk bytes align))
  FoundNoArea : (search : Search) (k : AreaKind) → PlaceRow c s (Finding search (ForArea k)) (Answer reply.NoSpace MadeNothing)
  FoundNoBlock : (search : Search) (cpu pages : ℕ) → PlaceRow c s (Finding search (ForBlock cpu pages)) (Answer reply.NoSpace MadeNothing)
  FoundNoGroups : (search : Search) (chunk bytes align : ℕ) (place : Span) → carved s ≡ Some place → PlaceRow c s (Finding search (ForChunk chunk bytes align)) (Answer reply.NoSpace MadeNothing)
  FoundNone : (search : Search) (aim : Aim) → PlaceRow c s (Finding search aim) (Go (PurgeTaking None (SearchAgain search aim)))
  AgainArea : (search : Search) (k : AreaKind) (place : Span) → carved s ≡ Some place → PlaceRow c s (FindingAgain search (ForArea k)) (Go (MappingArea place k))
  AgainBlock : (search : Search) (cpu pages : ℕ) (place : Span) → carved s ≡ Some place → PlaceRow c s (FindingAgain search (ForBlock cpu pages)) (Go (SettlingBlock place cpu pages))
  AgainGroups : (search : Search) (chunk bytes align base : ℕ) → carved_base s ≡ Some base
      → PlaceRow c s (FindingAgain search (ForChunk chunk bytes align)) (Go (SettlingGroups base chunk bytes align))
  AgainNoArea : (search : Search) (k : AreaKind) → PlaceRow c s (FindingAgain search (ForArea k)) (Answer reply.NoSpace MadeNothing)
  AgainNoBlock : (search : Search) (cpu pages : ℕ) → PlaceRow c s (FindingAgain search (ForBlock cpu pages)) (Answer reply.NoSpace MadeNothing)
  AgainNoGroups : (search : Search) (chunk bytes align : ℕ) (place : Span) → carved s ≡ Some place → PlaceRow c s (FindingAgain search (ForChunk chunk bytes align)) (Answer reply.NoSpace MadeNothing)
  NoSpaceForChunk : (search : Search) (chunk bytes align : ℕ) → PlaceRow c s (FindingAgain search (ForChunk chunk bytes align)) (Go (GivingAlloc reply.NoSpace MadeNothing))
  Mapped : (place : Span) (k : AreaKind) → had_frames s ≡ true → PlaceRow c s (MappingArea place k) (Go (SettlingArea place k))
  NotMapped : (place : Span) (k : AreaKind) → had_frames s ≡ false → PlaceRow c s (MappingArea place k) (Go (Dropping place))
  Dropped : (place : Span) → PlaceRow c s (Dropping place) (Answer reply.NoFrames MadeNothing)
  Settled : (place : Span) (k : AreaKind) → PlaceRow c s (SettlingArea place k) (Answer (reply.Address (address_of place.start)) (MadeArea place.start (serial_given s)))
  Removed : (start serial : ℕ) (area : Area) → removed s ≡ Some area → PlaceRow c s (Removing start serial) (Go (UnmappingArea area))
  NoArea : (start serial : ℕ) → PlaceRow c s (Removing start serial) (Answer reply.NotLive MadeNothing)
  UnmappedArea : (area : Area) → PlaceRow c s (UnmappingArea area) (Go (Waiting (area.span ∷ []) (ReplyWith reply.Done)))
  WaitedTooMuch : (spans : List Span) (after : Then) → PlaceRow c s (Waiting spans after) (Go (PurgeTaking None after))
  WaitedSearch : (spans : List Span) (search : Search) (aim : Aim) → PlaceRow c s (Waiting spans (SearchAgain search aim)) (Go (FindingAgain search aim))
  WaitedReply : (spans : List Span) (r : Reply) → PlaceRow c s (Waiting spans (ReplyWith r)) (Answer r MadeNothing)
  WaitedSpare : (spans : List Span) → PlaceRow c s (Waiting spans SpareAgain) (Go Sparing)
  TookPurge : (extra : Option Span) (after : Then) → PlaceRow c s (PurgeTaking extra after) (Go (PurgeFragmenting 0 [] extra after))
  FragmentedMore : (cpu : ℕ) (gone : List ℕ) (extra : Option Span) (after : Then) → nat_lt (suc cpu) (cpus c) ≡ true
      → PlaceRow c s (PurgeFragmenting cpu gone extra after) (Go (PurgeFragmenting (suc cpu) (gone ++ blocks_gone s) extra after))
  FragmentedSome : (cpu : ℕ) (gone : List ℕ) (extra : Option Span) (after : Then) → PlaceRow c s (PurgeFragmenting cpu gone extra after) (Go (PurgeUnlinking (gone ++ blocks_gone s) extra after))
  FragmentedNone : (cpu : ℕ) (gone : List ℕ) (extra : Option Span) (after : Then) → PlaceRow c s (PurgeFragmenting cpu gone extra after) (Go (PurgeCollecting extra after))
  UnlinkedGone : (gone : List ℕ) (extra : Option Span) (after : Then) → PlaceRow c s (PurgeUnlinking gone extra after) (Go (PurgeWaiting gone extra after))
  WaitedGone : (gone : List ℕ) (extra : Option Span) (after : Then) → PlaceRow c s (PurgeWaiting gone extra after) (Go (PurgeCollecting extra after))
  CollectedSome : (extra : Option Span) (after : Then) (h : Span) → PlaceRow c s (PurgeCollecting extra after) (Go (PurgeFlushing h (spans_taken s) after))
  CollectedNone : (extra : Option Span) (after : Then) → PlaceRow c s (PurgeCollecting extra after) (Go (PurgeGiving after))
  FlushedSome : (h : Span) (waited : List Span) (after : Then) → PlaceRow c s (PurgeFlushing h waited after) (Go (PurgeReturning waited after))
  FlushedNone : (h : Span) (waited : List Span) (after : Then) → PlaceRow c s (PurgeFlushing h waited after) (Go (PurgeGiving after))
  ReturnedAll : (waited : List Span) (after : Then) → PlaceRow c s (PurgeReturning waited after) (Go (PurgeGiving after))
  GaveToSearch : (search : Search) (aim : Aim) → PlaceRow c s (PurgeGiving (SearchAgain search aim)) (Go (FindingAgain search aim))
  GaveToReply : (r : Reply) → PlaceRow c s (PurgeGiving (ReplyWith r)) (Answer r MadeNothing)
  GaveToSpare : PlaceRow c s (PurgeGiving SpareAgain) (Go Sparing)
  Cut : (cpu pages : ℕ) (at : PartAt) → part_told s ≡ Some at → PlaceRow c s (CuttingPart cpu pages) (Go (MappingPart at))
  NotCut : (cpu pages : ℕ) → PlaceRow c s (CuttingPart cpu pages) (Go (Finding (ForPages c.block_pages c.block_pages) (ForBlock cpu pages)))
  SettledBlock : (place : Span) (cpu pages : ℕ) → PlaceRow c s (SettlingBlock place cpu pages) (Go (AddingBlock (record { cpu = cpu; block = place.start; offset = 0; pages = pages })))
  AddedBlock : (at : PartAt) → PlaceRow c s (AddingBlock at) (Go (MappingPart at))
  MappedPart : (at : PartAt) → had_frames s ≡ true → PlaceRow c s (MappingPart at) (Go (SettlingPart at))
  NotMappedPart : (at : PartAt) → had_frames s ≡ false → PlaceRow c s (MappingPart at) (Go (Retiring at reply.NoFrames))
  SettledPart : (at : PartAt) → PlaceRow c s (SettlingPart at) (Answer (reply.Address (address_of (first_page at))) (MadePart at.cpu (first_page at) (serial_given s)))
  Begun : (cpu page serial : ℕ) (at : PartAt) → part_told s ≡ Some at → PlaceRow c s (BeginningUnmap cpu page serial) (Go (UnmappingPart at))
  NoPart : (cpu page serial : ℕ) → PlaceRow c s (BeginningUnmap cpu page serial) (Answer reply.NotLive MadeNothing)
  UnmappedPart : (at : PartAt) → PlaceRow c s (UnmappingPart at) (Go (Retiring at reply.Done))
  RetiredSpent : (at : PartAt) (r : Reply) → was_spent s ≡ true → PlaceRow c s (Retiring at r) (Go (UnlinkingBlock at.block r))
  RetiredOther : (at : PartAt) (r : Reply) → PlaceRow c s (Retiring at r) (Answer r MadeNothing)
  UnlinkedBlock : (start : ℕ) (r : Reply) → PlaceRow c s (UnlinkingBlock start r) (Go (Waiting (block_spans c (start ∷ [])) (ReplyWith r)))
  LookedMore : (cpu : ℕ) (ranges : List Span) → nat_lt (suc cpu) (cpus c) ≡ true → PlaceRow c s (LookingAtDirty cpu ranges) (Go (LookingAtDirty (suc cpu) (ranges ++ option_to_list (dirty_told s))))
  LookedAll : (cpu : ℕ) (ranges : List Span) → PlaceRow c s (LookingAtDirty cpu ranges) (Go (PurgeTaking (hull (ranges ++ option_to_list (dirty_told s))) (ReplyWith reply.Done)))
  TookAlloc : (bytes align : ℕ) → PlaceRow c s (TakingAlloc bytes align) (Go (Choosing bytes align))
  Chose : (bytes align : ℕ) (at : ObjectAt) (missing : List ℕ) → placed s ≡ Some (at, missing) → PlaceRow c s (Choosing bytes align) (Go (Populating at missing))
  ChoseNone : (bytes align : ℕ) → PlaceRow c s (Choosing bytes align) (Go (Finding ForGroups (ForChunk (next_number s) bytes align)))
  SettledGroups : (base chunk bytes align : ℕ) → PlaceRow c s (SettlingGroups base chunk bytes align) (Go (AddingChunk base chunk bytes align))
  AddedChunk : (base chunk bytes align : ℕ) (at : ObjectAt) (missing : List ℕ) → placed s ≡ Some (at, missing) → PlaceRow c s (AddingChunk base chunk bytes align) (Go (Populating at missing))
  AddedNone : (base chunk bytes align : ℕ) → placed s ≡ None → PlaceRow c s (AddingChunk base chunk bytes align) (Go (Finding ForGroups (ForChunk 0 bytes align)))
  Populated : (at : ObjectAt) (missing : List ℕ) → had_frames s ≡ true → PlaceRow c s (Populating at missing) (Go (SettlingObject at))
  NotPopulated : (at : ObjectAt) (missing : List ℕ) → had_frames s ≡ false → PlaceRow c s (Populating at missing) (Go (Unplacing at))
  SettledObject : (at : ObjectAt) → PlaceRow c s (SettlingObject at) (Go (GivingAlloc (object_address at) (MadeObject at (serial_given s))))
  Unplaced : (at : ObjectAt) → PlaceRow c s (Unplacing at) (Go (GivingAlloc reply.NoFrames MadeNothing))
  GaveAlloc : (r : Reply) (made : Made) → PlaceRow c s (GivingAlloc r made) (Answer r made)
  ChoseAtomic : (bytes align : ℕ) (at : ObjectAt) (missing : List ℕ) → placed s ≡ Some (at, missing) → PlaceRow c s (ChoosingAtomic bytes align) (Go (Zeroing at))
  ChoseNoAtomic : (bytes align : ℕ) → PlaceRow c s (ChoosingAtomic bytes align) (Answer reply.NoAtomic MadeNothing)
  ZeroedObject : (at : ObjectAt) → PlaceRow c s (Zeroing at) (Go (SettlingAtomic at))
  SettledAtomic : (at : ObjectAt) → PlaceRow c s (SettlingAtomic at) (Answer (object_address at) (MadeObject at (serial_given s)))
  Freed : (at : ObjectAt) (serial : ℕ) → PlaceRow c s (FreeingObject at serial) (Answer reply.Done MadeNothing)
  NotFreed : (at : ObjectAt) (serial : ℕ) → PlaceRow c s (FreeingObject at serial) (Answer reply.NotLive MadeNothing)
  Added : (at : ObjectAt) (serial cpu index : ℕ) (amount : ℤ) → PlaceRow c s (Adding at serial cpu index amount) (Answer reply.Done MadeNothing)
  Summed : (at : ObjectAt) (serial index : ℕ) → PlaceRow c s (Summing at serial index) (Answer (reply.Sum (sum_told s)) MadeNothing)
  TookToBalance : PlaceRow c s TakingToBalance (Go Sparing)
  Spared : (base : ℕ) (populated : List ℕ) → spare_told s ≡ Some (base, populated) → PlaceRow c s Sparing (Go (Depopulating base populated))
  SparedNone : PlaceRow c s Sparing (Go (NextFill 0))
  Depopulated : (base : ℕ) (populated : List ℕ) → PlaceRow c s (Depopulating base populated) (Go (UnlinkingGroups base))
  UnlinkedGroups : (base : ℕ) → PlaceRow c s (UnlinkingGroups base) (Go (Waiting (groups_at c base) SpareAgain))
  NextFound : (filled chunk base page : ℕ) → page_told s ≡ Some (chunk, base, page) → PlaceRow c s (NextFill filled) (Go (Filling chunk base page filled))
  NextNone : (filled : ℕ) → PlaceRow c s (NextFill filled) (Go (GivingAlloc (reply.Count filled) MadeNothing))
  FilledPage : (chunk base page filled : ℕ) → had_frames s ≡ true → PlaceRow c s (Filling chunk base page filled) (Go (NotingFilled chunk page filled))
  NotFilled : (chunk base page filled : ℕ) → had_frames s ≡ false → PlaceRow c s (Filling chunk base page filled) (Go (GivingAlloc reply.NoFrames MadeNothing))
  Noted : (chunk page filled : ℕ) → PlaceRow c s (NotingFilled chunk page filled) (Go (NextFill (suc filled)))

module _ (c : Setup) (s : Section) where
  either : (p : Place) (b : Bool) (x y : Next) → (b ≡ true → PlaceRow c s p x) → (b ≡ false → PlaceRow c s p y) → PlaceRow c s p (if b then x else y)
  either p true x y f g = f refl
  either p false x y f g = g refl

  -- what was told, or that nothing was
  told : {X : Type 0} (p : Place) (o : Option X) (n : Option X → Next) → ((x : X) → o ≡ Some x → PlaceRow c s p (n (Some x))) → (o ≡ None → PlaceRow c s p (n None)) → PlaceRow c s p (n o)
  told p None n some none = none refl
  told p (Some x) n some none = some x refl

  finds : (search : Search) (aim : Aim) (o : Option Span) (base : Option ℕ) → carved s ≡ o → carved_base s ≡ base
      → PlaceRow c s (Finding search aim) (found aim o base (Go (PurgeTaking None (SearchAgain search aim))))
  finds search (ForArea k) (Some place) base e f = FoundArea search k place e
  finds search (ForBlock cpu pages) (Some place) base e f = FoundBlock search cpu pages place e
  finds search (ForChunk chunk bytes align) None (Some base) e f = FoundGroups search chunk bytes align base f
  finds search aim None None e f = FoundNone search aim
  finds search (ForChunk chunk bytes align) (Some place) base e f = FoundNoGroups search chunk bytes align place e
  finds search (ForArea k) None (Some base) e f = FoundNoArea search k
  finds search (ForBlock cpu pages) None (Some base) e f = FoundNoBlock search cpu pages

  finds_again : (search : Search) (aim : Aim) (o : Option Span) (base : Option ℕ) → carved s ≡ o → carved_base s ≡ base → PlaceRow c s (FindingAgain search aim) (found aim o base (without_space aim))
  finds_again search (ForArea k) (Some place) base e f = AgainArea search k place e
  finds_again search (ForBlock cpu pages) (Some place) base e f = AgainBlock search cpu pages place e
  finds_again search (ForChunk chunk bytes align) None (Some base) e f = AgainGroups search chunk bytes align base f
  finds_again search (ForChunk chunk bytes align) None None e f = NoSpaceForChunk search chunk bytes align
  finds_again search (ForChunk chunk bytes align) (Some place) base e f = AgainNoGroups search chunk bytes align place e
  finds_again search (ForArea k) None None e f = AgainNoArea search k
  finds_again search (ForArea k) None (Some base) e f = AgainNoArea search k
  finds_again search (ForBlock cpu pages) None None e f = AgainNoBlock search cpu pages
  finds_again search (ForBlock cpu pages) None (Some base) e f = AgainNoBlock search cpu pages

  waits : (spans : List Span) (after : Then) → PlaceRow c s (Waiting spans after) (go_on after)
  waits spans (SearchAgain search aim) = WaitedSearch spans search aim
  waits spans (ReplyWith r) = WaitedReply spans r
  waits spans SpareAgain = WaitedSpare spans

  gives : (after : Then) → PlaceRow c s (PurgeGiving after) (go_on after)
  gives (SearchAgain search aim) = GaveToSearch search aim
  gives (ReplyWith r) = GaveToReply r
  gives SpareAgain = GaveToSpare

  fragments : (cpu : ℕ) (gone : List ℕ) (extra : Option Span) (after : Then) (all : List ℕ) → gone ++ blocks_gone s ≡ all
      → PlaceRow c s (PurgeFragmenting cpu gone extra after) (Go (after_fragments (gone ++ blocks_gone s) extra after))
  fragments cpu gone extra after all e = subst (λ l. PlaceRow c s (PurgeFragmenting cpu gone extra after) (Go (after_fragments l extra after))) (sym e) (by_list all e)
    where
      by_list : (all : List ℕ) → gone ++ blocks_gone s ≡ all → PlaceRow c s (PurgeFragmenting cpu gone extra after) (Go (after_fragments all extra after))
      by_list [] e = FragmentedNone cpu gone extra after
      by_list (start ∷ more) e = subst (λ l. PlaceRow c s (PurgeFragmenting cpu gone extra after) (Go (PurgeUnlinking l extra after))) e (FragmentedSome cpu gone extra after)

  flushes : (h : Span) (waited : List Span) (after : Then) → PlaceRow c s (PurgeFlushing h waited after) (after_flush waited after)
  flushes h [] after = FlushedNone h [] after
  flushes h (x ∷ waited) after = FlushedSome h (x ∷ waited) after

  -- rows of places with one outcome
  ruleset lone = (
    Stays,
    Refused,
    Dropped,
    Settled,
    UnmappedArea,
    TookPurge,
    UnlinkedGone,
    WaitedGone,
    ReturnedAll,
    SettledBlock,
    AddedBlock,
    SettledPart,
    UnmappedPart,
    UnlinkedBlock,
    TookAlloc,
    SettledGroups,
    SettledObject,
    Unplaced,
    GaveAlloc,
    ZeroedObject,
    SettledAtomic,
    Added,
    Summed,
    TookToBalance,
    Depopulated,
    UnlinkedGroups,
    Noted,
  )

  -- each section leads as one of the rows says
  pub place_row : (p : Place) → PlaceRow c s p (next c p s)
  place_row (Finding search aim) = finds search aim (carved s) (carved_base s) refl refl
  place_row (FindingAgain search aim) = finds_again search aim (carved s) (carved_base s) refl refl
  place_row (MappingArea place k) = either _ (had_frames s) _ _ (Mapped place k) (NotMapped place k)
  place_row (Removing start serial) = told _ (removed s) after_remove (Removed start serial) (λ e. NoArea start serial)
  place_row (Waiting spans after) = either _ (nat_lt c.lazy (pages_waiting s)) _ _ (λ e. WaitedTooMuch spans after) (λ e. waits spans after)
  place_row (PurgeFragmenting cpu gone extra after) = either _ (nat_lt (suc cpu) (cpus c)) _ _ (FragmentedMore cpu gone extra after) (λ e. fragments cpu gone extra after _ refl)
  place_row (PurgeCollecting extra after) = told _ _ (λ o. after_collecting (spans_taken s) o after) (λ h e. CollectedSome extra after h) (λ e. CollectedNone extra after)
  place_row (PurgeFlushing h waited after) = flushes h waited after
  place_row (PurgeGiving after) = gives after
  place_row (CuttingPart cpu pages) = told _ (part_told s) (after_cut c cpu pages) (Cut cpu pages) (λ e. NotCut cpu pages)
  place_row (MappingPart at) = either _ (had_frames s) _ _ (MappedPart at) (NotMappedPart at)
  place_row (BeginningUnmap cpu page serial) = told _ (part_told s) after_begin (Begun cpu page serial) (λ e. NoPart cpu page serial)
  place_row (Retiring at r) = either _ (was_spent s) _ _ (RetiredSpent at r) (λ e. RetiredOther at r)
  place_row (LookingAtDirty cpu ranges) = either _ (nat_lt (suc cpu) (cpus c)) _ _ (LookedMore cpu ranges) (λ e. LookedAll cpu ranges)
  place_row (Choosing bytes align) = told _ (placed s) (after_place bytes align (next_number s)) (λ p. Chose bytes align p.0 p.1) (λ e. ChoseNone bytes align)
  place_row (AddingChunk base chunk bytes align) = told _ (placed s) (after_place bytes align 0) (λ p. AddedChunk base chunk bytes align p.0 p.1) (AddedNone base chunk bytes align)
  place_row (Populating at missing) = either _ (had_frames s) _ _ (Populated at missing) (NotPopulated at missing)
  place_row (ChoosingAtomic bytes align) = told _ (placed s) after_atomic (λ p. ChoseAtomic bytes align p.0 p.1) (λ e. ChoseNoAtomic bytes align)
  place_row (FreeingObject at serial) = either _ (was_live s) _ _ (λ e. Freed at serial) (λ e. NotFreed at serial)
  place_row Sparing = told _ (spare_told s) after_spare (λ p. Spared p.0 p.1) (λ e. SparedNone)
  place_row (NextFill filled) = told _ (page_told s) (after_page filled) (λ p. NextFound filled p.0 p.1 p.2) (λ e. NextNone filled)
  place_row (Filling chunk base page filled) = either _ (had_frames s) _ _ (FilledPage chunk base page filled) (NotFilled chunk base page filled)
  place_row _ = search lone
