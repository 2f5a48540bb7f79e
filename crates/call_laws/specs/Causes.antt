-- Replies have their causes: what a call's own sections, and the map at each of them, say of a reply without an address.
use Rattle.std.specs.Prelude.{◌≡◌, ℕ, ◌+◌, ◌-◌, ◌<◌, Bool, true, false, nat_le, if◌then◌else◌, List, [], ◌∷◌, ◌++◌, length, take, slice_get, Some, None}
use Rattle.vm_model.specs.declared.calls.Target.{Target}
use Rattle.vm_model.specs.declared.calls.Call.{Call}
use Rattle.vm_model.specs.declared.calls.Call.TheVariants.{Vmalloc, Vfree, MapRam, UnmapRam, AllocPercpu, AllocAtomic, FreePercpu, Add, Sum}
use Rattle.vm_model.specs.declared.calls.Reply.{Reply}
use Rattle.vm_model.specs.declared.calls.Reply.TheVariants as reply
use Rattle.vm_model.specs.Setup.{Setup}
use Rattle.vm_model.specs.PlainMap.{PlainMap}
use Rattle.vm_model.specs.Areas.{named_areas}
use Rattle.vm_model.specs.Frames.{free_frames}
use Rattle.vm_model.specs.Blocks.{named_parts}
use Rattle.vm_model.specs.Chunks.{atomic_fit, placement, is_live_object}
use Rattle.vm_model.specs.Events.{Event, Section, Search, ForPages, ForGroups, NoHole, NoFrames, NoAtomic, AreaNotLive, PartNotLive, ObjectNotLive}
use Rattle.vm_model.specs.Legal.{IsLegal, HasNoHole}
use Rattle.vm_model.specs.Places.{Made, MadeNothing, MadeArea, MadePart, MadeObject}
use Rattle.vm_model.specs.Calls.{Answered, pages_for, align_pages, is_bad_vmalloc_size, is_bad_vmalloc_align, is_bad_map_size, is_bad_object_size, is_bad_object_align, answers_in, target_of, was_freed}
use Rattle.vm_model.specs.History.{Local}
use Rattle.vm_model.specs.Shapes.{IsPurge, IsRefused}
use Rattle.vm_model.specs.Laws.{Always, map_at}
use Rattle.call_laws.specs.Histories.{OwnSection, own_sections, sections, sections_for, IsNoAddress}
use Rattle.call_laws.specs.CallTargets.{target_in}

-- each event of a history is legal in the map that the events before it leave
abbrev pub WereLegal : Setup → PlainMap → List Event → Type 0
WereLegal c m events = (i : ℕ) (e : Event) → slice_get events i ≡ Some e → IsLegal c (map_at c m events i) e

abbrev pub EachEventIsLegal : Type 0
EachEventIsLegal = Always (λ c m w. WereLegal c m w.events)

-- A no-space reply: two searches found no hole, each in the map as it was then, and between the two is the call's own purge.

-- what a call searches for
abbrev pub searched_for : Setup → Call → Search
searched_for c (Vmalloc bytes align) = ForPages (pages_for bytes + 1) (align_pages align)
searched_for c (MapRam cpu pages) = if nat_le pages c.part_limit then ForPages c.block_pages c.block_pages else ForPages pages 1
searched_for c _ = ForGroups

pub record FoundNoHole (c : Setup) (m : PlainMap) (events : List Event) (search : Search) (own : List OwnSection) : Type 0 where
  pub before : List OwnSection
  pub first : OwnSection
  pub purge : List OwnSection
  pub second : OwnSection
  pub after : List OwnSection
  pub all : own ≡ before ++ first ∷ (purge ++ second ∷ after)
  pub first_search : first.section ≡ NoHole search
  pub no_hole_first : HasNoHole c (map_at c m events first.before) search
  pub own_purge : IsPurge c None (sections purge)
  pub second_search : second.section ≡ NoHole search
  pub no_hole : HasNoHole c (map_at c m events second.before) search

-- A no-frames reply: fewer frames were free than the call asked for.

pub record LackedFrames (c : Setup) (m : PlainMap) (events : List Event) (own : List OwnSection) : Type 0 where
  pub before : List OwnSection
  pub lack : OwnSection
  pub after : List OwnSection
  pub asked : ℕ
  pub all : own ≡ before ++ lack ∷ after
  pub lacks : lack.section ≡ NoFrames asked
  pub few : length (free_frames c (map_at c m events lack.before).frames) < asked

-- A no-atomic reply: no chunk had room in its populated pages at the call's one section.

pub record FoundNoAtomic (c : Setup) (m : PlainMap) (events : List Event) (own : List OwnSection) : Type 0 where
  pub only : OwnSection
  pub bytes : ℕ
  pub align : ℕ
  pub all : own ≡ only ∷ []
  pub fails : only.section ≡ NoAtomic bytes align
  pub no_room : placement c (atomic_fit c bytes align) bytes (map_at c m events only.before).chunks ≡ None

-- A not-live reply: nothing live has what the target's call made; or the use of an object that the target's own section freed.

abbrev pub IsGone : PlainMap → Made → Type 0
IsGone m (MadeArea start serial) = named_areas start serial m.areas ≡ []
IsGone m (MadePart cpu page serial) = named_parts cpu page serial m.blocks ≡ []
IsGone m (MadeObject at serial) = is_live_object at serial m.chunks ≡ false
IsGone m MadeNothing = ⊥

abbrev pub FindsNotLive : Made → Section → Type 0
FindsNotLive (MadeArea start serial) s = s ≡ AreaNotLive start serial
FindsNotLive (MadePart cpu page serial) s = s ≡ PartNotLive cpu page serial
FindsNotLive (MadeObject at serial) s = s ≡ ObjectNotLive at serial
FindsNotLive MadeNothing s = ⊥

pub record WasGone (c : Setup) (m : PlainMap) (events : List Event) (target : Made) (own : List OwnSection) : Type 0 where
  pub only : OwnSection
  pub all : own ≡ only ∷ []
  pub finds_none : FindsNotLive target only.section
  pub gone : IsGone (map_at c m events only.before) target

abbrev pub WasNotLive : Setup → PlainMap → List Event → (opening before : List Answered) → Call → List OwnSection → Type 0
WasNotLive c m events opening before (Vfree t) own = WasGone c m events (target_of opening before t) own
WasNotLive c m events opening before (UnmapRam t) own = WasGone c m events (target_of opening before t) own
WasNotLive c m events opening before (FreePercpu t) own = WasGone c m events (target_of opening before t) own
WasNotLive c m events opening before (Add t cpu index amount) own = (was_freed (answers_in opening before t) t.call ≡ true) × IsRefused (sections own)
WasNotLive c m events opening before (Sum t index) own = (was_freed (answers_in opening before t) t.call ≡ true) × IsRefused (sections own)
WasNotLive c m events opening before _ own = ⊥

-- An unbound reply: the target's call was answered without an address.

pub record WasUnbound (opening before : List Answered) (call : Call) : Type 0 where
  pub target : Target
  pub named : target_in call ≡ Some target
  pub answer : Answered
  pub at : slice_get (answers_in opening before target) (target.call - 1) ≡ Some answer
  pub no_address : IsNoAddress answer.reply

-- A bad-size or bad-align reply: the desk refuses the size, or else the alignment.

abbrev pub is_bad_size : Setup → Call → Bool
is_bad_size c (Vmalloc bytes align) = is_bad_vmalloc_size c bytes
is_bad_size c (MapRam cpu pages) = is_bad_map_size c pages
is_bad_size c (AllocPercpu bytes align) = is_bad_object_size bytes
is_bad_size c (AllocAtomic bytes align) = is_bad_object_size bytes
is_bad_size c _ = false

abbrev pub is_bad_align : Call → Bool
is_bad_align (Vmalloc bytes align) = is_bad_vmalloc_align align
is_bad_align (AllocPercpu bytes align) = is_bad_object_align align
is_bad_align (AllocAtomic bytes align) = is_bad_object_align align
is_bad_align _ = false

-- each answer without an address has its cause, over the call's own sections and the maps at these
pub record HasItsCause (c : Setup) (m : PlainMap) (events : List Event) (opening before : List Answered) (call : Call) (answer : Reply) (own : List OwnSection) : Type 0 where
  pub no_space : answer ≡ reply.NoSpace → FoundNoHole c m events (searched_for c call) own
  pub no_frames : answer ≡ reply.NoFrames → LackedFrames c m events own
  pub no_atomic : answer ≡ reply.NoAtomic → FoundNoAtomic c m events own
  pub not_live : answer ≡ reply.NotLive → WasNotLive c m events opening before call own
  pub unbound : answer ≡ reply.Unbound → WasUnbound opening before call × IsRefused (sections own)
  pub bad_size : answer ≡ reply.BadSize → (is_bad_size c call ≡ true) × IsRefused (sections own)
  pub bad_align : answer ≡ reply.BadAlign → (is_bad_size c call ≡ false) × (is_bad_align call ≡ true) × IsRefused (sections own)

abbrev pub RepliesHaveTheirCauses : Type 0
RepliesHaveTheirCauses = Always (λ c m w. (k i : ℕ) (l : Local) (answer : Answered) → slice_get w.locals k ≡ Some l → slice_get l.answers i ≡ Some answer
    → HasItsCause c m w.events l.opening (take i l.answers) answer.call answer.reply (sections_for (own_sections k w.events) (take i l.answers) answer))
