-- Histories have the shapes of calls, replies have their causes, and the room counts the placing calls: as tests.
use Rattle.std.specs.Prelude.{ℕ, suc, ◌+◌, ◌-◌, Bool, true, false, not, ◌&&◌, ◌||◌, nat_lt, nat_le, ◌==◌, if◌then◌else◌, List, [], ◌∷◌, ◌++◌, length, slice_get, Option, Some, None, is_none}
use Rattle.std.specs.List.{list_all, list_any}
use Rattle.vm_model.specs.declared.areas.Span.{Span}
use Rattle.vm_model.specs.declared.calls.Call.{Call}
use Rattle.vm_model.specs.declared.calls.Call.TheVariants.{Vfree, UnmapRam, FreePercpu, Add, Sum}
use Rattle.vm_model.specs.declared.calls.Reply.{Reply}
use Rattle.vm_model.specs.declared.calls.Reply.TheVariants as reply
use Rattle.vm_model.specs.Space.{span, lowest, address_of}
use Rattle.vm_model.specs.Setup.{Setup, highest, pages_in_units, last_of}
use Rattle.vm_model.specs.PlainMap.{PlainMap, taken}
use Rattle.vm_model.specs.Areas.{named_areas}
use Rattle.vm_model.specs.Frames.{free_frames}
use Rattle.vm_model.specs.Blocks.{PartAt, named_parts, first_page}
use Rattle.vm_model.specs.Chunks.{ObjectAt, atomic_fit, placement, is_live_object}
use Rattle.vm_model.specs.Events.{Section, Event, Search, ForPages, ForGroups, Refuse, TakePurge, GivePurge, TakeAlloc, GiveAlloc, Carve, CarveGroups, NoHole, Drop, Return, Settle, Remove, AreaNotLive, Unlink, Wait, TakeWaiting, MapPages, Populate, Fill, NoFrames, Unmap, Depopulate, Flush, Zero, AddWord, SumWords, PlaceObject, NoPlace, AddChunk, PlaceAtomic, NoAtomic, SettleObject, Unplace, FreeObject, ObjectNotLive, NoSpare, NextPage, Enough, Filled, CutPart, NoPart, AddBlock, SettlePart, BeginUnmap, PartNotLive, Retire, Fragment, Dirty}
use Rattle.vm_model.specs.Told.{carved, carved_base, had_frames, serial_given, removed, pages_waiting, spans_taken, blocks_gone, dirty_told, part_told, was_spent, placed, next_number, was_live, sum_told, spare_told, page_told}
use Rattle.vm_model.specs.Places.{Made, MadeNothing, MadeArea, MadePart, MadeObject, Place, Over, Ask, ask, AskNothing, AskRefuse, AskTakePurge, AskGivePurge, AskTakeAlloc, AskGiveAlloc, AskSearch, AskDrop, AskReturn, AskSettle, AskRemove, AskUnlink, AskWait, AskTakeWaiting, AskMap, AskPopulate, AskFill, AskUnmap, AskDepopulate, AskFlush, AskZero, AskAdd, AskSum, AskPlace, AskAddChunk, AskAtomic, AskSettleObject, AskUnplace, AskFree, AskSpare, AskNextPage, AskFilled, AskPart, AskAddBlock, AskSettlePart, AskBegin, AskRetire, AskFragment, AskDirty}
use Rattle.vm_model.specs.Next.{Next, Go, Answer, next, object_address}
use Rattle.vm_model.specs.Calls.{Answered, begin, begin_call, answers_in, target_of, was_freed}
use Rattle.vm_model.specs.History.{World, Local, placing_calls}
use Rattle.call_laws.specs.Histories.{OwnSection, own_sections, sections, events_at, sections_for, sections_since}
use Rattle.call_laws.specs.Causes.{searched_for, is_bad_size, is_bad_align}
use Rattle.call_laws.specs.Room.{objects_placed, may_place}
use Rattle.law_tests.specs.Machines.{Machine}
use Rattle.law_tests.specs.Same.{same_list, same_number, same_reply}
use Rattle.law_tests.specs.Codes.{of_section, of_call, of_made}

abbrev pub same_code : List ℕ → List ℕ → Bool
same_code a b = same_list same_number a b

-- the one section that answers an ask with what this section tells
abbrev pub or_else : {X : Type 0} → Section → (X → Section) → Option X → Section
or_else otherwise told None = otherwise
or_else otherwise told (Some x) = told x

abbrev pub placing : (align bytes : ℕ) → ObjectAt × List ℕ → Section
placing align bytes p = PlaceObject (record p.0 { bytes = bytes }) align p.1

abbrev pub answer_to : Setup → Ask → Section → Option Section
answer_to c AskNothing s = None
answer_to c AskRefuse s = Some Refuse
answer_to c AskTakePurge s = Some TakePurge
answer_to c AskGivePurge s = Some GivePurge
answer_to c AskTakeAlloc s = Some TakeAlloc
answer_to c AskGiveAlloc s = Some GiveAlloc
answer_to c (AskSearch (ForPages pages align)) s = Some (or_else (NoHole (ForPages pages align)) (λ (p : Span). Carve (span p.start pages) align) (carved s))
answer_to c (AskSearch ForGroups) s = Some (or_else (NoHole ForGroups) CarveGroups (carved_base s))
answer_to c (AskDrop p) s = Some (Drop p)
answer_to c (AskReturn spans) s = Some (Return spans)
answer_to c (AskSettle areas) s = Some (Settle areas (serial_given s))
answer_to c (AskRemove start serial) s = Some (or_else (AreaNotLive start serial) (Remove start serial) (removed s))
answer_to c (AskUnlink starts) s = Some (Unlink starts)
answer_to c (AskWait spans) s = Some (Wait spans (pages_waiting s))
answer_to c AskTakeWaiting s = Some (TakeWaiting (spans_taken s))
answer_to c (AskMap p) s = Some (if had_frames s then MapPages p else NoFrames p.pages)
answer_to c (AskPopulate at missing) s = Some (if had_frames s then Populate at missing else NoFrames (length (pages_in_units c at.base missing)))
answer_to c (AskFill base page) s = Some (if had_frames s then Fill base page else NoFrames (length (pages_in_units c base (page ∷ []))))
answer_to c (AskUnmap p) s = Some (Unmap p)
answer_to c (AskDepopulate base pages) s = Some (Depopulate base pages)
answer_to c (AskFlush p) s = Some (Flush p)
answer_to c (AskZero at) s = Some (Zero at)
answer_to c (AskAdd at serial cpu index amount) s = Some (AddWord at serial cpu index amount)
answer_to c (AskSum at serial index) s = Some (SumWords at serial index (sum_told s))
answer_to c (AskPlace bytes align) s = Some (or_else (NoPlace bytes align (next_number s)) (placing align bytes) (placed s))
answer_to c (AskAddChunk chunk base bytes align) s = Some (or_else Refuse (λ (p : ObjectAt × List ℕ). AddChunk chunk base (record p.0 { bytes = bytes }) align p.1) (placed s))
answer_to c (AskAtomic bytes align) s = Some (or_else (NoAtomic bytes align) (λ (p : ObjectAt × List ℕ). PlaceAtomic (record p.0 { bytes = bytes }) align) (placed s))
answer_to c (AskSettleObject at) s = Some (SettleObject at (serial_given s))
answer_to c (AskUnplace at) s = Some (Unplace at)
answer_to c (AskFree at serial) s = Some (if was_live s then FreeObject at serial else ObjectNotLive at serial)
answer_to c AskSpare s = Some (or_else NoSpare (λ (p : ℕ × List ℕ). s) (spare_told s))
answer_to c AskNextPage s = Some (or_else Enough (λ (p : ℕ × ℕ × ℕ). NextPage p.0 p.1 p.2) (page_told s))
answer_to c (AskFilled chunk page) s = Some (Filled chunk page)
answer_to c (AskPart cpu pages) s = Some (or_else (NoPart cpu pages) (λ (at : PartAt). CutPart (record at { cpu = cpu; pages = pages })) (part_told s))
answer_to c (AskAddBlock at) s = Some (AddBlock at)
answer_to c (AskSettlePart at) s = Some (SettlePart at (serial_given s))
answer_to c (AskBegin cpu page serial) s = Some (or_else (PartNotLive cpu page serial) (λ (at : PartAt). if first_page at == page then BeginUnmap (record at { cpu = cpu }) serial else Refuse) (part_told s))
answer_to c (AskRetire at) s = Some (Retire at (was_spent s))
answer_to c (AskFragment cpu) s = Some (Fragment cpu (blocks_gone s))
answer_to c (AskDirty cpu) s = Some (Dirty cpu (dirty_told s))

abbrev pub is_section : Option Section → Section → Bool
is_section None s = false
is_section (Some t) s = same_code (of_section t) (of_section s)

abbrev pub meets : Setup → Ask → Section → Bool
meets c a s = is_section (answer_to c a s) s

abbrev pub makes : Setup → Next → List Section → Reply → Made → Bool
makes c (Answer r n) [] answer made = same_reply r answer && same_code (of_made n) (of_made made)
makes c (Answer r n) (s ∷ es) answer made = false
makes c (Go p) [] answer made = false
makes c (Go p) (s ∷ es) answer made = meets c (ask c p) s && makes c (next c p s) es answer made

-- the sections are a beginning
abbrev pub begins : Setup → Next → List Section → Bool
begins c (Answer r n) es = false
begins c (Go p) [] = true
begins c (Go p) (s ∷ es) = meets c (ask c p) s && begins c (next c p s) es

-- the last section but those after a settling, and what it settled
abbrev pub no_address : Reply → Bool
no_address (reply.Address address) = false
no_address _ = true

abbrev pub settles_area : (start serial : ℕ) → Option Section → Bool
settles_area start serial (Some (Settle ((s, k) ∷ []) first)) = (s.start == start) && (first == serial)
settles_area start serial _ = false

abbrev pub settles_part : (cpu page serial : ℕ) → Option Section → Bool
settles_part cpu page serial (Some (SettlePart at first)) = (at.cpu == cpu) && (first_page at == page) && (first == serial)
settles_part cpu page serial _ = false

abbrev pub is_settled : List Section → Reply → Made → Bool
is_settled es answer MadeNothing = no_address answer
is_settled es answer (MadeArea start serial) = same_reply answer (reply.Address (address_of start)) && settles_area start serial (last_of es)
is_settled es answer (MadePart cpu page serial) = same_reply answer (reply.Address (address_of page)) && settles_part cpu page serial (last_of es)
is_settled es answer (MadeObject at serial) = same_reply answer (object_address at) && list_any (λ s. same_code (of_section s) (of_section (SettleObject at serial))) es

abbrev pub is_call : Call → Option Call → Bool
is_call call None = false
is_call call (Some own) = same_code (of_call call) (of_call own)

module _ (c : Setup) (opening : List Answered) (calls : List Call) (own : List OwnSection) where
  abbrev pub is_answer_of : (i : ℕ) (before : List Answered) → Answered → Bool
  is_answer_of i before answer = is_call answer.call (slice_get calls i) && nat_lt (events_at before) answer.own_event && nat_le answer.own_event (length own)
      && makes c (Go (begin_call c opening before answer.call)) (sections (sections_for own before answer)) answer.reply answer.made
      && is_settled (sections (sections_for own before answer)) answer.reply answer.made

  abbrev pub are_answers : (i : ℕ) (before : List Answered) → List Answered → Bool
  are_answers i before [] = true
  are_answers i before (answer ∷ answers) = is_answer_of i before answer && are_answers (suc i) (before ++ answer ∷ []) answers

abbrev pub is_over : Place → Bool
is_over Over = true
is_over _ = false

abbrev pub same_calls : List Call → Option (List Call) → Bool
same_calls calls None = false
same_calls calls (Some own) = same_list (λ a b. same_code (of_call a) (of_call b)) calls own

abbrev pub has_shapes : Setup → List (List Call) → World → (k : ℕ) → Local → Bool
has_shapes c lists w k l =
    same_calls l.calls (slice_get lists k) && are_answers c l.opening l.calls (own_sections k w.events) 0 [] l.answers
    && (if is_over l.place then length l.answers == length l.calls else begins c (Go (begin c l.opening l.answers (slice_get l.calls (length l.answers)))) (sections (sections_since (own_sections k w.events) l.answers)))

abbrev pub each_local : (ℕ → Local → Bool) → ℕ → List Local → Bool
each_local test k [] = true
each_local test k (l ∷ locals) = test k l && each_local test (suc k) locals

abbrev pub histories_have_shapes : List (List Call) → Setup → World → Bool
histories_have_shapes lists c w = each_local (has_shapes c lists w) 0 w.locals

-- Causes.

abbrev pub no_hole : Setup → PlainMap → Search → Bool
no_hole c m (ForPages pages align) = is_none (lowest (taken m) pages align)
no_hole c m ForGroups = is_none (highest c (taken m))

-- the maps before the first event, and behind each
abbrev pub maps_from : Machine → Setup → PlainMap → List Event → List PlainMap
maps_from d c m [] = m ∷ []
maps_from d c m (e ∷ events) = m ∷ maps_from d c (d.does c m e.caller e.section) events

abbrev pub at_map : (PlainMap → Bool) → Option PlainMap → Bool
at_map test None = false
at_map test (Some m) = test m

abbrev pub is_no_hole : Search → Section → Bool
is_no_hole search s = same_code (of_section (NoHole search)) (of_section s)

abbrev pub is_lack : (ℕ → Bool) → Section → Bool
is_lack test (NoFrames asked) = test asked
is_lack test _ = false

abbrev pub is_no_atomic : (ℕ → ℕ → Bool) → Section → Bool
is_no_atomic test (NoAtomic bytes align) = test bytes align
is_no_atomic test _ = false

-- the own sections from the first one on that passes
abbrev pub from_first : (OwnSection → Bool) → List OwnSection → List OwnSection
from_first test [] = []
from_first test (o ∷ own) = if test o then o ∷ own else from_first test own

abbrev pub is_purge_part : Section → Bool
is_purge_part TakePurge = true
is_purge_part (Fragment cpu gone) = true
is_purge_part (Unlink starts) = true
is_purge_part (Wait spans waiting) = true
is_purge_part (TakeWaiting all) = true
is_purge_part (Flush s) = true
is_purge_part (Return spans) = true
is_purge_part GivePurge = true
is_purge_part _ = false

abbrev pub takes_waiting : Section → Bool
takes_waiting (TakeWaiting all) = true
takes_waiting _ = false

module _ (c : Setup) (maps : List PlainMap) where
  abbrev pub at_own : (PlainMap → Section → Bool) → OwnSection → Bool
  at_own test o = at_map (λ m. test m o.section) (slice_get maps o.before)

  -- a failed search, then a purge up to a second one
  abbrev pub second_fails : Search → (purged : Bool) → List OwnSection → Bool
  second_fails search purged [] = false
  second_fails search purged (o ∷ own) =
      if is_purge_part o.section then second_fails search (purged || takes_waiting o.section) own
      else purged && at_own (λ m s. is_no_hole search s && no_hole c m search) o

  abbrev pub found_no_hole : Search → List OwnSection → Bool
  found_no_hole search [] = false
  found_no_hole search (o ∷ own) = at_own (λ m s. no_hole c m search) o && second_fails search false own

  abbrev pub lacked_frames : List OwnSection → Bool
  lacked_frames own = list_any (at_own (λ m s. is_lack (λ asked. nat_lt (length (free_frames c m.frames)) asked) s)) own

  abbrev pub found_no_atomic : List OwnSection → Bool
  found_no_atomic own = list_any (at_own (λ m s. is_no_atomic (λ bytes align. is_none (placement c (atomic_fit c bytes align) bytes m.chunks)) s)) own

  abbrev pub finds_gone : PlainMap → Made → Section → Bool
  finds_gone m (MadeArea start serial) s = same_code (of_section (AreaNotLive start serial)) (of_section s) && (length (named_areas start serial m.areas) == 0)
  finds_gone m (MadePart cpu page serial) s = same_code (of_section (PartNotLive cpu page serial)) (of_section s) && (length (named_parts cpu page serial m.blocks) == 0)
  finds_gone m (MadeObject at serial) s = same_code (of_section (ObjectNotLive at serial)) (of_section s) && not (is_live_object at serial m.chunks)
  finds_gone m MadeNothing s = false

  abbrev pub was_gone : Made → List OwnSection → Bool
  was_gone made own = list_any (at_own (λ m s. finds_gone m made s)) own

  module _ (opening before : List Answered) where
    abbrev pub was_not_live : Call → List OwnSection → Bool
    was_not_live (Vfree t) own = was_gone (target_of opening before t) own
    was_not_live (UnmapRam t) own = was_gone (target_of opening before t) own
    was_not_live (FreePercpu t) own = was_gone (target_of opening before t) own
    was_not_live (Add t cpu index amount) own = was_freed (answers_in opening before t) t.call
    was_not_live (Sum t index) own = was_freed (answers_in opening before t) t.call
    was_not_live _ own = false

    -- the target's call was answered without an address
    abbrev pub was_refused : Option Answered → Bool
    was_refused None = false
    was_refused (Some answer) = no_address answer.reply

    abbrev pub was_unbound : Call → Bool
    was_unbound (Vfree t) = was_refused (slice_get (answers_in opening before t) (t.call - 1))
    was_unbound (UnmapRam t) = was_refused (slice_get (answers_in opening before t) (t.call - 1))
    was_unbound (FreePercpu t) = was_refused (slice_get (answers_in opening before t) (t.call - 1))
    was_unbound (Add t cpu index amount) = was_refused (slice_get (answers_in opening before t) (t.call - 1))
    was_unbound (Sum t index) = was_refused (slice_get (answers_in opening before t) (t.call - 1))
    was_unbound _ = false

    abbrev pub has_cause : Call → Reply → List OwnSection → Bool
    has_cause call reply.NoSpace own = found_no_hole (searched_for c call) (from_first (λ o. is_no_hole (searched_for c call) o.section) own)
    has_cause call reply.NoFrames own = lacked_frames own
    has_cause call reply.NoAtomic own = found_no_atomic own
    has_cause call reply.NotLive own = was_not_live call own
    has_cause call reply.Unbound own = was_unbound call
    has_cause call reply.BadSize own = is_bad_size c call
    has_cause call reply.BadAlign own = not (is_bad_size c call) && is_bad_align call
    has_cause call _ own = true

  abbrev pub have_causes : (opening before : List Answered) → List OwnSection → List Answered → Bool
  have_causes opening before own [] = true
  have_causes opening before own (answer ∷ answers) = has_cause opening before answer.call answer.reply (sections_for own before answer) && have_causes opening (before ++ answer ∷ []) own answers

abbrev pub replies_have_causes : Machine → PlainMap → Setup → World → Bool
replies_have_causes d first c w = each_local (λ k l. have_causes c (maps_from d c first w.events) l.opening [] (own_sections k w.events) l.answers) 0 w.locals

-- The room.

abbrev pub room_counted : List (List Call) → World → Bool
room_counted lists w = (w.map.room + objects_placed w.events == placing_calls lists) && list_all (λ (l : Local). not (may_place l.place) || nat_le 1 w.map.room) w.locals
