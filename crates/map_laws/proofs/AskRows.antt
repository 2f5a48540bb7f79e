-- Which sections meet an ask: a row for each of its outcomes.
use Rattle.std.proofs.Common.{◌≡◌, ℕ, inl, inr, Bool, List, [], ◌∷◌, length, Option, sym, subst, ℤ}
use Rattle.vm_model.specs.declared.areas.Span.{Span}
use Rattle.vm_model.specs.declared.areas.Area.{Area}
use Rattle.vm_model.specs.declared.areas.AreaKind.{AreaKind}
use Rattle.vm_model.specs.Space.{span}
use Rattle.vm_model.specs.Setup.{Setup, pages_in_units}
use Rattle.vm_model.specs.Blocks.{PartAt, first_page}
use Rattle.vm_model.specs.Chunks.{ObjectAt}
use Rattle.vm_model.specs.Events.{Section, Search, ForPages, ForGroups, Refuse, TakePurge, GivePurge, TakeAlloc, GiveAlloc, Carve, CarveGroups, NoHole, Drop, Return, Settle, Remove, AreaNotLive, Unlink, Wait, TakeWaiting, MapPages, Populate, Fill, NoFrames, Unmap, Depopulate, Flush, Zero, AddWord, SumWords, PlaceObject, NoPlace, AddChunk, PlaceAtomic, NoAtomic, SettleObject, Unplace, FreeObject, ObjectNotLive, Spare, NoSpare, NextPage, Enough, Filled, CutPart, NoPart, AddBlock, SettlePart, BeginUnmap, PartNotLive, Retire, Fragment, Dirty}
use Rattle.vm_model.specs.Places.{Ask, AskNothing, AskRefuse, AskTakePurge, AskGivePurge, AskTakeAlloc, AskGiveAlloc, AskSearch, AskDrop, AskReturn, AskSettle, AskRemove, AskUnlink, AskWait, AskTakeWaiting, AskMap, AskPopulate, AskFill, AskUnmap, AskDepopulate, AskFlush, AskZero, AskAdd, AskSum, AskPlace, AskAddChunk, AskAtomic, AskSettleObject, AskUnplace, AskFree, AskSpare, AskNextPage, AskFilled, AskPart, AskAddBlock, AskSettlePart, AskBegin, AskRetire, AskFragment, AskDirty}
use Rattle.vm_model.specs.LegalHistory.{Meets}

pub data AskRow (c : Setup) : Ask → Section → Type 0 where
  Refused : AskRow c AskRefuse Refuse
  TookPurge : AskRow c AskTakePurge TakePurge
  GavePurge : AskRow c AskGivePurge GivePurge
  TookAlloc : AskRow c AskTakeAlloc TakeAlloc
  GaveAlloc : AskRow c AskGiveAlloc GiveAlloc
  Carved : (start pages align : ℕ) → AskRow c (AskSearch (ForPages pages align)) (Carve (span start pages) align)
  CarvedGroups : (base : ℕ) → AskRow c (AskSearch ForGroups) (CarveGroups base)
  FoundNone : (search : Search) → AskRow c (AskSearch search) (NoHole search)
  Dropped : (s : Span) → AskRow c (AskDrop s) (Drop s)
  Returned : (spans : List Span) → AskRow c (AskReturn spans) (Return spans)
  Settled : (areas : List (Span × AreaKind)) (first : ℕ) → AskRow c (AskSettle areas) (Settle areas first)
  Removed : (start serial : ℕ) (area : Area) → AskRow c (AskRemove start serial) (Remove start serial area)
  NoArea : (start serial : ℕ) → AskRow c (AskRemove start serial) (AreaNotLive start serial)
  Unlinked : (starts : List ℕ) → AskRow c (AskUnlink starts) (Unlink starts)
  Waited : (spans : List Span) (waiting : ℕ) → AskRow c (AskWait spans) (Wait spans waiting)
  Collected : (all : List Span) → AskRow c AskTakeWaiting (TakeWaiting all)
  Mapped : (s : Span) → AskRow c (AskMap s) (MapPages s)
  NotMapped : (s : Span) → AskRow c (AskMap s) (NoFrames s.pages)
  Populated : (at : ObjectAt) (missing : List ℕ) → AskRow c (AskPopulate at missing) (Populate at missing)
  NotPopulated : (at : ObjectAt) (missing : List ℕ) → AskRow c (AskPopulate at missing) (NoFrames (length (pages_in_units c at.base missing)))
  FilledPage : (base page : ℕ) → AskRow c (AskFill base page) (Fill base page)
  NotFilled : (base page : ℕ) → AskRow c (AskFill base page) (NoFrames (length (pages_in_units c base (page ∷ []))))
  Unmapped : (s : Span) → AskRow c (AskUnmap s) (Unmap s)
  Depopulated : (base : ℕ) (pages : List ℕ) → AskRow c (AskDepopulate base pages) (Depopulate base pages)
  Flushed : (s : Span) → AskRow c (AskFlush s) (Flush s)
  Zeroed : (at : ObjectAt) → AskRow c (AskZero at) (Zero at)
  Added : (at : ObjectAt) (serial cpu index : ℕ) (amount : ℤ) → AskRow c (AskAdd at serial cpu index amount) (AddWord at serial cpu index amount)
  Summed : (at : ObjectAt) (serial index : ℕ) (total : ℤ) → AskRow c (AskSum at serial index) (SumWords at serial index total)
  Placed : (bytes align : ℕ) (at : ObjectAt) (missing : List ℕ) (e : at.bytes ≡ bytes) → AskRow c (AskPlace bytes align) (PlaceObject at align missing)
  NotPlaced : (bytes align number : ℕ) → AskRow c (AskPlace bytes align) (NoPlace bytes align number)
  AddedChunk : (chunk base bytes align : ℕ) (at : ObjectAt) (missing : List ℕ) (e : at.bytes ≡ bytes) → AskRow c (AskAddChunk chunk base bytes align) (AddChunk chunk base at align missing)
  PlacedAtomic : (bytes align : ℕ) (at : ObjectAt) (e : at.bytes ≡ bytes) → AskRow c (AskAtomic bytes align) (PlaceAtomic at align)
  NotAtomic : (bytes align : ℕ) → AskRow c (AskAtomic bytes align) (NoAtomic bytes align)
  SettledObject : (at : ObjectAt) (serial : ℕ) → AskRow c (AskSettleObject at) (SettleObject at serial)
  Unplaced : (at : ObjectAt) → AskRow c (AskUnplace at) (Unplace at)
  Freed : (at : ObjectAt) (serial : ℕ) → AskRow c (AskFree at serial) (FreeObject at serial)
  NoObject : (at : ObjectAt) (serial : ℕ) → AskRow c (AskFree at serial) (ObjectNotLive at serial)
  Spared : (chunk base : ℕ) (populated : List ℕ) → AskRow c AskSpare (Spare chunk base populated)
  NotSpared : AskRow c AskSpare NoSpare
  Nexted : (chunk base page : ℕ) → AskRow c AskNextPage (NextPage chunk base page)
  NoNext : AskRow c AskNextPage Enough
  Noted : (chunk page : ℕ) → AskRow c (AskFilled chunk page) (Filled chunk page)
  Cut : (cpu pages : ℕ) (at : PartAt) (e : at.cpu ≡ cpu) (f : at.pages ≡ pages) → AskRow c (AskPart cpu pages) (CutPart at)
  NotCut : (cpu pages : ℕ) → AskRow c (AskPart cpu pages) (NoPart cpu pages)
  AddedBlock : (at : PartAt) → AskRow c (AskAddBlock at) (AddBlock at)
  SettledPart : (at : PartAt) (serial : ℕ) → AskRow c (AskSettlePart at) (SettlePart at serial)
  Begun : (cpu page serial : ℕ) (at : PartAt) (e : at.cpu ≡ cpu) (f : first_page at ≡ page) → AskRow c (AskBegin cpu page serial) (BeginUnmap at serial)
  NoPartThere : (cpu page serial : ℕ) → AskRow c (AskBegin cpu page serial) (PartNotLive cpu page serial)
  Retired : (at : PartAt) (spent : Bool) → AskRow c (AskRetire at) (Retire at spent)
  Fragmented : (cpu : ℕ) (gone : List ℕ) → AskRow c (AskFragment cpu) (Fragment cpu gone)
  Looked : (cpu : ℕ) (hull : Option Span) → AskRow c (AskDirty cpu) (Dirty cpu hull)

as_row : (c : Setup) (a : Ask) (s t : Section) → s ≡ t → AskRow c a t → AskRow c a s
as_row c a s t e row = subst (AskRow c a) (sym e) row

pub ask_row : (c : Setup) (a : Ask) (s : Section) → Meets c a s → AskRow c a s
ask_row c AskNothing s w = absurd w
ask_row c AskRefuse s w = as_row c _ s _ w Refused
ask_row c AskTakePurge s w = as_row c _ s _ w TookPurge
ask_row c AskGivePurge s w = as_row c _ s _ w GavePurge
ask_row c AskTakeAlloc s w = as_row c _ s _ w TookAlloc
ask_row c AskGiveAlloc s w = as_row c _ s _ w GaveAlloc
ask_row c (AskSearch (ForPages pages align)) s (inl w) = as_row c _ s _ w.1 (Carved w.0 pages align)
ask_row c (AskSearch (ForPages pages align)) s (inr w) = as_row c _ s _ w (FoundNone (ForPages pages align))
ask_row c (AskSearch ForGroups) s (inl w) = as_row c _ s _ w.1 (CarvedGroups w.0)
ask_row c (AskSearch ForGroups) s (inr w) = as_row c _ s _ w (FoundNone ForGroups)
ask_row c (AskDrop p) s w = as_row c _ s _ w (Dropped p)
ask_row c (AskReturn spans) s w = as_row c _ s _ w (Returned spans)
ask_row c (AskSettle areas) s w = as_row c _ s _ w.1 (Settled areas w.0)
ask_row c (AskRemove start serial) s (inl w) = as_row c _ s _ w.1 (Removed start serial w.0)
ask_row c (AskRemove start serial) s (inr w) = as_row c _ s _ w (NoArea start serial)
ask_row c (AskUnlink starts) s w = as_row c _ s _ w (Unlinked starts)
ask_row c (AskWait spans) s w = as_row c _ s _ w.1 (Waited spans w.0)
ask_row c AskTakeWaiting s w = as_row c _ s _ w.1 (Collected w.0)
ask_row c (AskMap p) s (inl w) = as_row c _ s _ w (Mapped p)
ask_row c (AskMap p) s (inr w) = as_row c _ s _ w (NotMapped p)
ask_row c (AskPopulate at missing) s (inl w) = as_row c _ s _ w (Populated at missing)
ask_row c (AskPopulate at missing) s (inr w) = as_row c _ s _ w (NotPopulated at missing)
ask_row c (AskFill base page) s (inl w) = as_row c _ s _ w (FilledPage base page)
ask_row c (AskFill base page) s (inr w) = as_row c _ s _ w (NotFilled base page)
ask_row c (AskUnmap p) s w = as_row c _ s _ w (Unmapped p)
ask_row c (AskDepopulate base pages) s w = as_row c _ s _ w (Depopulated base pages)
ask_row c (AskFlush p) s w = as_row c _ s _ w (Flushed p)
ask_row c (AskZero at) s w = as_row c _ s _ w (Zeroed at)
ask_row c (AskAdd at serial cpu index amount) s w = as_row c _ s _ w (Added at serial cpu index amount)
ask_row c (AskSum at serial index) s w = as_row c _ s _ w.1 (Summed at serial index w.0)
ask_row c (AskPlace bytes align) s (inl w) = as_row c _ s _ w.3 (Placed bytes align w.0 w.1 w.2)
ask_row c (AskPlace bytes align) s (inr w) = as_row c _ s _ w.1 (NotPlaced bytes align w.0)
ask_row c (AskAddChunk chunk base bytes align) s w = as_row c _ s _ w.3 (AddedChunk chunk base bytes align w.0 w.1 w.2)
ask_row c (AskAtomic bytes align) s (inl w) = as_row c _ s _ w.2 (PlacedAtomic bytes align w.0 w.1)
ask_row c (AskAtomic bytes align) s (inr w) = as_row c _ s _ w (NotAtomic bytes align)
ask_row c (AskSettleObject at) s w = as_row c _ s _ w.1 (SettledObject at w.0)
ask_row c (AskUnplace at) s w = as_row c _ s _ w (Unplaced at)
ask_row c (AskFree at serial) s (inl w) = as_row c _ s _ w (Freed at serial)
ask_row c (AskFree at serial) s (inr w) = as_row c _ s _ w (NoObject at serial)
ask_row c AskSpare s (inl w) = as_row c _ s _ w.3 (Spared w.0 w.1 w.2)
ask_row c AskSpare s (inr w) = as_row c _ s _ w NotSpared
ask_row c AskNextPage s (inl w) = as_row c _ s _ w.3 (Nexted w.0 w.1 w.2)
ask_row c AskNextPage s (inr w) = as_row c _ s _ w NoNext
ask_row c (AskFilled chunk page) s w = as_row c _ s _ w (Noted chunk page)
ask_row c (AskPart cpu pages) s (inl w) = as_row c _ s _ w.3 (Cut cpu pages w.0 w.1 w.2)
ask_row c (AskPart cpu pages) s (inr w) = as_row c _ s _ w (NotCut cpu pages)
ask_row c (AskAddBlock at) s w = as_row c _ s _ w (AddedBlock at)
ask_row c (AskSettlePart at) s w = as_row c _ s _ w.1 (SettledPart at w.0)
ask_row c (AskBegin cpu page serial) s (inl w) = as_row c _ s _ w.3 (Begun cpu page serial w.0 w.1 w.2)
ask_row c (AskBegin cpu page serial) s (inr w) = as_row c _ s _ w (NoPartThere cpu page serial)
ask_row c (AskRetire at) s w = as_row c _ s _ w.1 (Retired at w.0)
ask_row c (AskFragment cpu) s w = as_row c _ s _ w.1 (Fragmented cpu w.0)
ask_row c (AskDirty cpu) s w = as_row c _ s _ w.1 (Looked cpu w.0)
