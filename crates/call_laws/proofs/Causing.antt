-- The shape of a call, over its own sections, says the cause of its reply.
use Rattle.std.proofs.Common.{◌≡◌, ℕ, ◌+◌, ◌<◌, ◌≤◌, ◌⊎◌, inl, inr, true, false, nat_le, if◌then◌else◌, List, [], ◌∷◌, ◌++◌, length, take, slice_get, Some, None, refl, ap, sym, ◌∙◌, subst, arith, append_assoc, append-nil, ◌*◌, max}
use Rattle.std.proofs.lemmas.Bool.Decides.{nat_tests}
use Rattle.vm_model.specs.declared.calls.Target.{Target}
use Rattle.vm_model.specs.declared.areas.AreaKind.{AreaKind}
use Rattle.vm_model.specs.declared.areas.AreaKind.TheVariants as kind
use Rattle.vm_model.specs.declared.calls.Call.{Call}
use Rattle.vm_model.specs.declared.calls.Call.TheVariants.{Vmalloc, Vfree, MapRam, UnmapRam, UnmapAliases, AllocPercpu, AllocAtomic, FreePercpu, Add, Sum, Balance}
use Rattle.vm_model.specs.declared.calls.Reply.{Reply}
use Rattle.vm_model.specs.declared.calls.Reply.TheVariants as reply
use Rattle.vm_model.specs.Setup.{Setup, pages_in_units}
use Rattle.vm_model.specs.Areas.{mapped_part}
use Rattle.vm_model.specs.Chunks.{ObjectAt}
use Rattle.vm_model.specs.PlainMap.{PlainMap, at_first}
use Rattle.vm_model.specs.Events.{Event, Section, Search, ForPages, ForGroups, NoHole, NoFrames, NoAtomic, Drop, NoPart, TakeAlloc, GiveAlloc, NoPlace, Unplace, NextPage, NoSpare, AreaNotLive, PartNotLive, ObjectNotLive}
use Rattle.vm_model.specs.Legal.{IsLegalAs}
use Rattle.vm_model.specs.Places.{Made, MadeNothing, MadeArea, MadePart, MadeObject}
use Rattle.vm_model.specs.Calls.{Answered, words_for, pages_for, align_pages, target_of}
use Rattle.vm_model.specs.History.{Local, placing_calls}
use Rattle.vm_model.specs.Shapes.{IsPurge, IsFind, IsRefused, IsAreaMade, IsPartMade, IsUnmapRam}
use Rattle.vm_model.specs.ObjectShapes.{HasShape, IsFreePercpu, fill_sections, spare_sections}
use Rattle.vm_model.specs.Laws.{Always, map_at}
use Rattle.call_laws.specs.Histories.{OwnSection, own_sections, sections, sections_for, events_at}
use Rattle.call_laws.specs.Causes.{WasNotLive, is_bad_size, is_bad_align, HasItsCause, searched_for, FoundNoHole, LackedFrames, FoundNoAtomic, WasGone, WasUnbound}
use Rattle.call_laws.proofs.Unusable.{IsNoMapping, IsUnusable}
use Rattle.call_laws.proofs.LegalEvents.{IsOneOf, one_middle, one_between, own_legal, legal_reached}
use Rattle.call_laws.proofs.CallWorlds.{histories_have_shapes}

-- the cause of an answer by its kind
abbrev pub HasCause : Setup → PlainMap → List Event → (opening before : List Answered) → Call → Reply → List OwnSection → Type 0
HasCause c m events opening before call reply.NoSpace own = FoundNoHole c m events (searched_for c call) own
HasCause c m events opening before call reply.NoFrames own = LackedFrames c m events own
HasCause c m events opening before call reply.NoAtomic own = FoundNoAtomic c m events own
HasCause c m events opening before call reply.NotLive own = WasNotLive c m events opening before call own
HasCause c m events opening before call reply.Unbound own = IsUnusable opening before call × IsRefused (sections own)
HasCause c m events opening before call reply.BadSize own = (is_bad_size c call ≡ true) × IsRefused (sections own)
HasCause c m events opening before call reply.BadAlign own = (is_bad_size c call ≡ false) × (is_bad_align call ≡ true) × IsRefused (sections own)
HasCause c m events opening before call _ own = Unit {0}

-- and of an answer that is unbound only for its cause
pub its_cause : (c : Setup) (m : PlainMap) (events : List Event) (opening before : List Answered) (call : Call) (answer : Reply) (own : List OwnSection) → HasCause c m events opening before call answer own
    → (answer ≡ reply.Unbound → WasUnbound opening before call) → HasItsCause c m events opening before call answer own
its_cause c m events opening before call answer own has was = grind (arith, nat_tests)

-- Lists whose sections are known.

pub record Parted (own : List OwnSection) (xs ys : List Section) : Type 0 where
  pub first : List OwnSection
  pub last : List OwnSection
  pub all : own ≡ first ++ last
  pub firsts : sections first ≡ xs
  pub lasts : sections last ≡ ys

pub record Headed (own : List OwnSection) (x : Section) (ys : List Section) : Type 0 where
  pub head : OwnSection
  pub last : List OwnSection
  pub all : own ≡ head ∷ last
  pub is : head.section ≡ x
  pub lasts : sections last ≡ ys

headed : (own : List OwnSection) (x : Section) (ys : List Section) → sections own ≡ x ∷ ys → Headed own x ys
headed [] x ys h = cc
headed (o ∷ own) x ys h = record { head = o; last = own; all = refl; is = (cc); lasts = (cc) }

parted : (xs ys : List Section) (own : List OwnSection) → sections own ≡ xs ++ ys → Parted own xs ys
parted [] ys own h = record { first = []; last = own; all = refl; firsts = refl; lasts = h }
parted (x ∷ xs) ys [] h = cc
parted (x ∷ xs) ys (o ∷ own) h =
    let more = parted xs ys own (cc) in
    let same : o.section ≡ x = cc in record {
      first = o ∷ more.first;
      last = more.last;
      all = ap (λ l. o ∷ l) more.all;
      firsts = ap (λ s. s ∷ sections more.first) same ∙ ap (λ l. x ∷ l) more.firsts;
      lasts = more.lasts;
    }

-- a section among some, with those before and behind it
pub record Has (es : List Section) (x : Section) : Type 0 where
  pub before : List Section
  pub after : List Section
  pub all : es ≡ before ++ x ∷ after

-- two failed searches with a purge between, with those before and behind them
pub record Searched (c : Setup) (es : List Section) (search : Search) : Type 0 where
  pub before : List Section
  pub purge : List Section
  pub after : List Section
  pub is : IsPurge c None purge
  pub all : es ≡ before ++ NoHole search ∷ (purge ++ NoHole search ∷ after)

searched : (c : Setup) (search : Search) (pre find post : List Section) → IsFind c search None find → Searched c (pre ++ (find ++ post)) search
searched c search pre find post is = grind (arith, append_assoc, nat_tests)

module _ (c : Setup) (m : PlainMap) (events : List Event) (k : ℕ) where
  abbrev pub AreLegal : List OwnSection → Type 0
  AreLegal own = (o : OwnSection) → IsOneOf own o → IsLegalAs c (map_at c m events o.before) k o.section

  -- what was legal of one of them
  legal_at : (own before : List OwnSection) (o : OwnSection) (after : List OwnSection) (x : Section) → AreLegal own → own ≡ before ++ o ∷ after → o.section ≡ x → IsLegalAs c (map_at c m events o.before) k x
  legal_at own before o after x legal all is = subst (IsLegalAs c (map_at c m events o.before) k) is (legal o (subst (λ l. IsOneOf l o) (sym all) (one_middle before o after)))

  lacked : (own : List OwnSection) (asked : ℕ) → AreLegal own → Has (sections own) (NoFrames asked) → LackedFrames c m events own
  lacked own asked legal has =
      let parts = parted has.before (NoFrames asked ∷ has.after) own has.all in
      let one = headed parts.last (NoFrames asked) has.after parts.lasts in
      let all = parts.all ∙ ap (λ l. parts.first ++ l) one.all in record {
        before = parts.first;
        lack = one.head;
        after = one.last;
        asked = asked;
        all = all;
        lacks = one.is;
        few = legal_at own parts.first one.head one.last (NoFrames asked) legal all one.is;
      }

  module _ (own : List OwnSection) (legal : AreLegal own) where
    no_hole_pages : (search : Search) → Searched c (sections own) search → FoundNoHole c m events search own
    no_hole_pages search found =
        let a = parted found.before (NoHole search ∷ (found.purge ++ NoHole search ∷ found.after)) own found.all in
        let b = headed a.last (NoHole search) (found.purge ++ NoHole search ∷ found.after) a.lasts in
        let d = parted found.purge (NoHole search ∷ found.after) b.last b.lasts in
        let e = headed d.last (NoHole search) found.after d.lasts in
        let rest : b.last ≡ d.first ++ e.head ∷ e.last = d.all ∙ ap (λ l. d.first ++ l) e.all in
        let whole : own ≡ a.first ++ b.head ∷ (d.first ++ e.head ∷ e.last) = a.all ∙ ap (λ l. a.first ++ l) (b.all ∙ ap (λ l. b.head ∷ l) rest) in
        let second : own ≡ (a.first ++ b.head ∷ d.first) ++ e.head ∷ e.last = whole ∙ sym (append_assoc a.first (b.head ∷ d.first) (e.head ∷ e.last)) in record {
          before = a.first;
          first = b.head;
          purge = d.first;
          second = e.head;
          after = e.last;
          all = whole;
          first_search = b.is;
          no_hole_first = legal_at own a.first b.head (d.first ++ e.head ∷ e.last) (NoHole search) legal whole b.is;
          own_purge = subst (IsPurge c None) (sym d.firsts) found.is;
          second_search = e.is;
          no_hole = legal_at own (a.first ++ b.head ∷ d.first) e.head e.last (NoHole search) legal second e.is;
        }

    -- the only section
    only_own : (x : Section) → sections own ≡ x ∷ [] → Headed own x []
    only_own x e = headed own x [] e

    nothing_more : (last : List OwnSection) → sections last ≡ [] → last ≡ []
    nothing_more [] e = refl
    nothing_more (o ∷ last) e = cc

    no_atomic : (bytes align : ℕ) → sections own ≡ NoAtomic bytes align ∷ [] → FoundNoAtomic c m events own
    no_atomic bytes align e =
        let one = headed own (NoAtomic bytes align) [] e in
        let all : own ≡ one.head ∷ [] = one.all ∙ ap (λ l. one.head ∷ l) (nothing_more one.last one.lasts) in
        record { only = one.head; bytes = bytes; align = align; all = all; fails = one.is; no_room = legal_at own [] one.head [] (NoAtomic bytes align) legal all one.is }

    gone_area : (start serial : ℕ) → sections own ≡ AreaNotLive start serial ∷ [] → WasGone c m events (MadeArea start serial) own
    gone_area start serial e =
        let one = headed own (AreaNotLive start serial) [] e in
        let all : own ≡ one.head ∷ [] = one.all ∙ ap (λ l. one.head ∷ l) (nothing_more one.last one.lasts) in
        record { only = one.head; all = all; finds_none = one.is; gone = legal_at own [] one.head [] (AreaNotLive start serial) legal all one.is }

    gone_part : (cpu page serial : ℕ) → sections own ≡ PartNotLive cpu page serial ∷ [] → WasGone c m events (MadePart cpu page serial) own
    gone_part cpu page serial e =
        let one = headed own (PartNotLive cpu page serial) [] e in
        let all : own ≡ one.head ∷ [] = one.all ∙ ap (λ l. one.head ∷ l) (nothing_more one.last one.lasts) in
        record { only = one.head; all = all; finds_none = one.is; gone = legal_at own [] one.head [] (PartNotLive cpu page serial) legal all one.is }

    gone_object : (at : ObjectAt) (serial : ℕ) → sections own ≡ ObjectNotLive at serial ∷ [] → WasGone c m events (MadeObject at serial) own
    gone_object at serial e =
        let one = headed own (ObjectNotLive at serial) [] e in
        let all : own ≡ one.head ∷ [] = one.all ∙ ap (λ l. one.head ∷ l) (nothing_more one.last one.lasts) in
        record { only = one.head; all = all; finds_none = one.is; gone = legal_at own [] one.head [] (ObjectNotLive at serial) legal all one.is }

    -- a search that found nothing, and a want of frames, in a list of sections
    no_hole_in : (search : Search) (pre find post : List Section) → IsFind c search None find → sections own ≡ pre ++ (find ++ post) → FoundNoHole c m events search own
    no_hole_in search pre find post is e =
        let found = searched c search pre find post is in
        no_hole_pages search (record { before = found.before; purge = found.purge; after = found.after; is = found.is; all = e ∙ found.all })

    lacked_in : (asked : ℕ) (pre post : List Section) → sections own ≡ pre ++ NoFrames asked ∷ post → LackedFrames c m events own
    lacked_in asked pre post e = lacked own asked legal (record { before = pre; after = post; all = e })

    -- By calls and replies.

    module _ (opening before : List Answered) where
      abbrev Caused : Call → Reply → Type 0
      Caused call r = HasShape c opening before call r (sections own) → HasCause c m events opening before call r own

      area_space : (pages align : ℕ) (kd : AreaKind) → IsAreaMade c pages align kd reply.NoSpace (sections own) → FoundNoHole c m events (ForPages pages align) own
      area_space pages align kd is = no_hole_in (ForPages pages align) [] (sections own) [] is (sym (append-nil (sections own)))

      area_frames : (pages align : ℕ) (kd : AreaKind) → IsAreaMade c pages align kd reply.NoFrames (sections own) → LackedFrames c m events own
      area_frames pages align kd is = lacked_in (mapped_part kd is.0).pages is.1 (Drop is.0 ∷ []) is.4

      vmalloc_caused : (bytes align : ℕ) (r : Reply) → Caused (Vmalloc bytes align) r
      vmalloc_caused bytes align reply.NoSpace is = area_space (pages_for bytes + 1) (align_pages align) kind.Vmalloc is.2
      vmalloc_caused bytes align reply.NoFrames is = area_frames (pages_for bytes + 1) (align_pages align) kind.Vmalloc is.2
      vmalloc_caused bytes align reply.NoAtomic is = absurd is.2
      vmalloc_caused bytes align reply.NotLive is = absurd is.2
      vmalloc_caused bytes align reply.Unbound is = absurd is.2
      vmalloc_caused bytes align reply.BadSize is = is
      vmalloc_caused bytes align reply.BadAlign is = is
      vmalloc_caused bytes align _ is = tt

      le_true : (a b : ℕ) → a ≤ b → nat_le a b ≡ true
      le_true a b h = grind (arith, nat_tests)

      le_false : (a b : ℕ) → b < a → nat_le a b ≡ false
      le_false a b h = grind (arith, nat_tests)

      map_space : (cpu pages : ℕ) → ((pages ≤ c.part_limit) × IsPartMade c cpu pages reply.NoSpace (sections own)) ⊎ ((c.part_limit < pages) × IsAreaMade c pages 1 kind.MapRam reply.NoSpace (sections own))
          → FoundNoHole c m events (searched_for c (MapRam cpu pages)) own
      map_space cpu pages (inl is) = subst (λ b. FoundNoHole c m events (if b then ForPages c.block_pages c.block_pages else ForPages pages 1) own) (sym (le_true pages c.part_limit is.0))
          (no_hole_in (ForPages c.block_pages c.block_pages) (NoPart cpu pages ∷ []) is.1.0 [] is.1.1 (is.1.2 ∙ ap (λ l. NoPart cpu pages ∷ l) (sym (append-nil is.1.0))))
      map_space cpu pages (inr is) = subst (λ b. FoundNoHole c m events (if b then ForPages c.block_pages c.block_pages else ForPages pages 1) own) (sym (le_false pages c.part_limit is.0)) (area_space pages 1 kind.MapRam is.1)

      map_caused : (cpu pages : ℕ) (r : Reply) → Caused (MapRam cpu pages) r
      map_caused cpu pages reply.NoSpace is = map_space cpu pages is.1
      map_caused cpu pages reply.NoFrames is = grind (arith, lacked_in, area_frames, nat_tests)
      map_caused cpu pages reply.NoAtomic is = grind (arith, nat_tests)
      map_caused cpu pages reply.NotLive is = grind (arith, nat_tests)
      map_caused cpu pages reply.Unbound is = grind (arith, nat_tests)
      map_caused cpu pages reply.BadSize is = is
      map_caused cpu pages reply.BadAlign is = grind (arith, nat_tests)
      map_caused cpu pages _ is = tt

      object_caused : (bytes align : ℕ) (r : Reply) → Caused (AllocPercpu bytes align) r
      object_caused bytes align reply.NoSpace is = let made = is.2 in no_hole_in ForGroups (TakeAlloc ∷ NoPlace (4 * words_for bytes) (max align 4) made.0 ∷ []) made.1 (GiveAlloc ∷ []) made.2 made.3
      object_caused bytes align reply.NoFrames is = let made = is.2 in lacked_in (length (pages_in_units c made.0.base made.1)) (TakeAlloc ∷ made.2) (Unplace made.0 ∷ GiveAlloc ∷ []) made.5
      object_caused bytes align reply.NoAtomic is = absurd is.2
      object_caused bytes align reply.NotLive is = absurd is.2
      object_caused bytes align reply.Unbound is = absurd is.2
      object_caused bytes align reply.BadSize is = is
      object_caused bytes align reply.BadAlign is = is
      object_caused bytes align _ is = tt

      -- a call whose target made nothing that it can use
      unbound_by : (call : Call) (r : Reply) → IsUnusable opening before call → (r ≡ reply.Unbound) × IsRefused (sections own) → HasCause c m events opening before call r own
      unbound_by call r was is = subst (λ x. HasCause c m events opening before call x own) (sym is.0) (was, is.1)

      unmap_by : (t : Target) (made : Made) (r : Reply) → target_of opening before t ≡ made → IsUnmapRam c made r (sections own) → HasCause c m events opening before (UnmapRam t) r own
      unmap_by t (MadeArea start serial) reply.NotLive e is = subst (λ n. WasGone c m events n own) (sym e) (gone_area start serial is)
      unmap_by t (MadePart cpu page serial) reply.NotLive e is = subst (λ n. WasGone c m events n own) (sym e) (gone_part cpu page serial is)
      unmap_by t MadeNothing r e is = unbound_by (UnmapRam t) r (subst IsNoMapping (sym e) tt) is
      unmap_by t (MadeObject at serial) r e is = unbound_by (UnmapRam t) r (subst IsNoMapping (sym e) tt) is
      unmap_by t _ _ e is = grind arith

      free_by : (t : Target) (made : Made) (r : Reply) → target_of opening before t ≡ made → IsFreePercpu made r (sections own) → HasCause c m events opening before (FreePercpu t) r own
      free_by t made r e is = grind (arith, gone_object, unbound_by, nat_tests)

      balance_caused : (r : Reply) → Caused Balance r
      balance_caused reply.NoFrames is =
          let p = is.2 in
          let asked = length (pages_in_units c p.base (p.page ∷ [])) in
          let fills = fill_sections is.1 in
          let spares = spare_sections c is.0 in
          lacked_in asked (TakeAlloc ∷ (spares ++ (NoSpare ∷ (fills ++ NextPage p.chunk p.base p.page ∷ [])))) (GiveAlloc ∷ [])
          (is.4 ∙ ap (λ l. TakeAlloc ∷ (spares ++ (NoSpare ∷ l))) (sym (append_assoc fills (NextPage p.chunk p.base p.page ∷ []) (NoFrames asked ∷ GiveAlloc ∷ [])))
          ∙ ap (λ l. TakeAlloc ∷ l) (sym (append_assoc spares (NoSpare ∷ (fills ++ NextPage p.chunk p.base p.page ∷ [])) (NoFrames asked ∷ GiveAlloc ∷ []))))
      balance_caused _ is = grind arith

      pub caused : (call : Call) (r : Reply) → Caused call r
      caused (Vmalloc bytes align) r is = vmalloc_caused bytes align r is
      caused (Vfree t) r is = grind (arith, gone_area, unbound_by, nat_tests)
      caused (MapRam cpu pages) r is = map_caused cpu pages r is
      caused (UnmapRam t) r is = unmap_by t (target_of opening before t) r refl is
      caused UnmapAliases r is = grind (arith, nat_tests)
      caused (AllocPercpu bytes align) r is = object_caused bytes align r is
      caused (AllocAtomic bytes align) r is = grind (arith, no_atomic, nat_tests)
      caused (FreePercpu t) r is = free_by t (target_of opening before t) r refl is
      caused (Add t cpu index amount) r is = grind (arith, unbound_by, nat_tests)
      caused (Sum t index) r is = grind (arith, unbound_by, nat_tests)
      caused Balance r is = balance_caused r is

pub replies_caused : Always (λ c m w. (k i : ℕ) (l : Local) (answer : Answered) → slice_get w.locals k ≡ Some l → slice_get l.answers i ≡ Some answer
    → HasCause c m w.events l.opening (take i l.answers) answer.call answer.reply (sections_for (own_sections k w.events) (take i l.answers) answer))
replies_caused c opening calls w trace reached k i l answer here at =
    let is = (histories_have_shapes c opening calls w trace reached k l here).answers i answer at in
    let first = at_first c (placing_calls (opening ∷ calls)) in
    caused c first w.events k (sections_for (own_sections k w.events) (take i l.answers) answer)
    (λ o one. own_legal c first w.events k (legal_reached c opening calls w reached).legal o (one_between (events_at (take i l.answers)) answer.own_event (own_sections k w.events) o one))
    l.opening (take i l.answers) answer.call answer.reply is.shape
