-- What is proper of a caller's place whatever the map is: searches are for what fits them, and objects aren't too large.
use Rattle.std.proofs.lemmas.List.Sums.{sum_by-cons}
use Rattle.std.proofs.Common.{◌++◌, ◌≢◌, slice_set, ◌≡◌, ℕ, zero, suc, inl, inr, ◌+◌, ◌*◌, ◌%◌, ◌<◌, ◌≤◌, max, Bool, true, false, nat_le, if◌then◌else◌, List, [], ◌∷◌, slice_get, length, Option, Some, None, refl, ap, sym, ◌∙◌, subst, arith, ℤ, ◌-◌, IfSome, sum_by}
use Rattle.std.proofs.lemmas.Bool.Decides.{nat_tests}
use Rattle.vm_model.specs.declared.areas.AreaKind.{AreaKind}
use Rattle.vm_model.specs.declared.calls.Call.{Call}
use Rattle.vm_model.specs.declared.calls.Call.TheVariants.{Vmalloc, Vfree, MapRam, UnmapRam, UnmapAliases, AllocPercpu, AllocAtomic, FreePercpu, Add, Sum, Balance}
use Rattle.vm_model.specs.declared.calls.Reply.{Reply}
use Rattle.vm_model.specs.Setup.{Setup, highest}
use Rattle.vm_model.specs.PlainMap.{PlainMap, taken}
use Rattle.vm_model.specs.Chunks.{ObjectAt}
use Rattle.vm_model.specs.Events.{Section, Search, ForPages, ForGroups}
use Rattle.vm_model.specs.Told.{carved, carved_base}
use Rattle.vm_model.specs.Places.{Place, Over, Refusing, Adding, Summing, TakingToBalance, Finding, FindingAgain, MappingArea, SettlingArea, Removing, Waiting, PurgeTaking, PurgeFragmenting, PurgeUnlinking, PurgeWaiting, PurgeCollecting, PurgeFlushing, PurgeReturning, PurgeGiving, CuttingPart, AddingBlock, BeginningUnmap, LookingAtDirty, SettlingBlock, TakingAlloc, Choosing, SettlingGroups, AddingChunk, ChoosingAtomic, FreeingObject, Made, MadeArea, MadePart, MadeObject, Aim, ForArea, ForBlock, ForChunk, Then, SearchAgain, ReplyWith, SpareAgain, AskSearch, ask}
use Rattle.vm_model.specs.Next.{Next, Go, Answer, next, found, without_space}
use Rattle.vm_model.specs.Calls.{pages_for, align_pages, Answered, begin, begin_call, begin_alloc, begin_free_area, begin_unmap_ram, begin_free_percpu, begin_add, begin_sum, target_of, was_freed, answers_in, words_for, is_bad_vmalloc_size, is_bad_vmalloc_align, is_bad_map_size, is_bad_object_size, is_bad_object_align}
use Rattle.vm_model.specs.Given.{given, carving, carving_groups}
use Rattle.vm_model.specs.History.{World, Local, started, answered, answered_of, moved_to, opening_world, opening_answers, callers_from, with_callers}
use Rattle.vm_model.specs.Space.{lowest}
use Rattle.map_laws.proofs.SearchEnds.{is_zero, lowest_fit, highest_fit}
use Rattle.map_laws.proofs.PlaceRows.{PlaceRow, NotCut, SettledBlock, SettledGroups, Mapped, place_row}
use Rattle.map_laws.proofs.KeptThroughSteps.{there, set_cases, append_cases, IsOwn, IsStep, IsLasting, not_over, has_call}
use Rattle.vm_model.specs.declared.areas.AreaKind.TheVariants as kind
use Rattle.vm_model.specs.declared.calls.Reply.TheVariants as reply

-- an area that is neither a block's nor a chunk's
abbrev pub IsPlainKind : AreaKind → Type 0
IsPlainKind kind.Vmalloc = Unit {0}
IsPlainKind kind.MapRam = Unit {0}
IsPlainKind (kind.Block cpu) = ⊥
IsPlainKind (kind.Chunk chunk group) = ⊥

-- an object's bytes are whole words, and not too many
abbrev pub IsObjectSize : ℕ → Type 0
IsObjectSize bytes = (bytes ≤ 32768) × (more : ℕ) × (bytes ≡ 4 * suc more)

-- pages are searched for areas and blocks, and groups for a chunk
abbrev pub IsAimed : Setup → Search → Aim → Type 0
IsAimed c (ForPages pages align) (ForArea k) = IsPlainKind k × (1 ≤ pages)
IsAimed c (ForPages pages align) (ForBlock cpu asked) = (pages ≡ c.block_pages) × (align ≡ c.block_pages) × (1 ≤ asked) × (asked ≤ c.part_limit)
IsAimed c (ForPages pages align) (ForChunk chunk bytes to) = ⊥
IsAimed c ForGroups (ForArea k) = ⊥
IsAimed c ForGroups (ForBlock cpu asked) = ⊥
IsAimed c ForGroups (ForChunk chunk bytes to) = IsObjectSize bytes

-- what a caller does behind the wait or the purge that it is at
abbrev pub then_of : Place → Option Then
then_of (Waiting spans after) = Some after
then_of (PurgeTaking extra after) = Some after
then_of (PurgeFragmenting cpu gone extra after) = Some after
then_of (PurgeUnlinking gone extra after) = Some after
then_of (PurgeWaiting gone extra after) = Some after
then_of (PurgeCollecting extra after) = Some after
then_of (PurgeFlushing s waited after) = Some after
then_of (PurgeReturning waited after) = Some after
then_of (PurgeGiving after) = Some after
then_of _ = None

abbrev pub IsFollowed : Setup → Then → Type 0
IsFollowed c (SearchAgain search aim) = IsAimed c search aim
IsFollowed c (ReplyWith reply) = Unit {0}
IsFollowed c SpareAgain = Unit {0}

abbrev pub IsProper : Setup → Place → Type 0
IsProper c (Finding search aim) = IsAimed c search aim
IsProper c (FindingAgain search aim) = IsAimed c search aim
IsProper c (MappingArea s k) = IsPlainKind k × (1 ≤ s.pages)
IsProper c (SettlingArea s k) = IsPlainKind k × (1 ≤ s.pages)
IsProper c (SettlingBlock s cpu pages) = (s.pages ≡ c.block_pages) × (s.start % c.block_pages ≡ 0) × (1 ≤ pages) × (pages ≤ c.part_limit)
IsProper c (CuttingPart cpu pages) = (1 ≤ pages) × (pages ≤ c.part_limit)
IsProper c (AddingBlock at) = (at.offset ≡ 0) × (1 ≤ at.pages) × (at.pages ≤ c.part_limit)
IsProper c (TakingAlloc bytes align) = IsObjectSize bytes
IsProper c (Choosing bytes align) = IsObjectSize bytes
IsProper c (SettlingGroups base chunk bytes align) = (IsObjectSize bytes) × (base % c.atom ≡ 0)
IsProper c (AddingChunk base chunk bytes align) = IsObjectSize bytes
IsProper c (ChoosingAtomic bytes align) = IsObjectSize bytes
IsProper c p = IfSome (then_of p) (IsFollowed c)

-- what a fact about places says of what comes next
abbrev pub OnNext : (Place → Type 0) → Next → Type 0
OnNext P (Go p) = P p
OnNext P (Answer reply made) = Unit {0}

pub either_next : (P : Place → Type 0) (b : Bool) (x y : Next) → OnNext P x → OnNext P y → OnNext P (if b then x else y)
either_next P b x y p q = grind arith

pub either_place : (P : Place → Type 0) (b : Bool) (x y : Place) → (b ≡ true → P x) → (b ≡ false → P y) → P (if b then x else y)
either_place P b x y p q = grind arith

-- What a search tells.

module _ (c : Setup) (m : PlainMap) where
  -- a search for groups carves no single span
  pub no_span : (s : Section) → given c m (AskSearch ForGroups) ≡ Some s → carved s ≡ None
  no_span s e = grind (arith, nat_tests)

  found_pages : (pages align : ℕ) (aim : Aim) (otherwise : Next) (o : Option ℕ) → lowest (taken m) pages align ≡ o → IsAimed c (ForPages pages align) aim → OnNext (IsProper c) otherwise
      → OnNext (IsProper c) (found aim (carved (carving pages align o)) (carved_base (carving pages align o)) otherwise)
  found_pages pages align aim otherwise None e is q = q
  found_pages pages align (ForArea k) otherwise (Some start) e is q = is
  found_pages pages align (ForBlock cpu asked) otherwise (Some start) e is q =
      let fit = is_zero (start % align) (lowest_fit (taken m) pages align start e).0 in (is.0, ap (λ n. start % n) (sym is.1) ∙ fit, is.2, is.3)
  found_pages pages align (ForChunk chunk bytes to) otherwise (Some start) e is q = absurd is

  found_groups : (chunk bytes align : ℕ) (otherwise : Next) (o : Option ℕ) → highest c (taken m) ≡ o → IsObjectSize bytes → OnNext (IsProper c) otherwise
      → OnNext (IsProper c) (found (ForChunk chunk bytes align) (carved (carving_groups o)) (carved_base (carving_groups o)) otherwise)
  found_groups chunk bytes align otherwise None e few q = q
  found_groups chunk bytes align otherwise (Some base) e few q = (few, is_zero (base % c.atom) (highest_fit c (taken m) base e).0)

  found_proper : (search : Search) (aim : Aim) (s : Section) (otherwise : Next) → IsAimed c search aim → given c m (AskSearch search) ≡ Some s → OnNext (IsProper c) otherwise
      → OnNext (IsProper c) (found aim (carved s) (carved_base s) otherwise)
  found_proper search aim s otherwise is e q = grind (arith, found_pages, found_groups, nat_tests)

  no_space_proper : (aim : Aim) → OnNext (IsProper c) (without_space aim)
  no_space_proper aim = grind (arith, nat_tests)

  -- a section leads from a proper place to a proper one
  proper_row : (s : Section) (p : Place) (n : Next) → PlaceRow c s p n → IsProper c p → given c m (ask c p) ≡ Some s → n ≡ next c p s → OnNext (IsProper c) n
  proper_row s _ n (NotCut cpu pages) is e f = (refl, refl, is.0, is.1)
  proper_row s _ n (SettledBlock place cpu pages) is e f = (refl, is.2, is.3)
  proper_row s _ n (SettledGroups base chunk bytes align) is e f = is.0
  proper_row s (Finding search aim) n row is e f = subst (OnNext (IsProper c)) (sym f) (found_proper search aim s _ is e is)
  proper_row s (FindingAgain search aim) n row is e f = subst (OnNext (IsProper c)) (sym f) (found_proper search aim s _ is e (no_space_proper aim))
  proper_row s _ n (Mapped place k had) is e f = is
  proper_row s _ n _ is e f = search

  pub proper_next : (p : Place) (s : Section) → IsProper c p → given c m (ask c p) ≡ Some s → OnNext (IsProper c) (next c p s)
  proper_next p s is e = proper_row s p (next c p s) (place_row c s p) is e refl

-- Where a call begins.

-- a size that the desk accepts
accepted_size : (bytes : ℕ) → is_bad_object_size bytes ≡ false → IsObjectSize (4 * words_for bytes)
accepted_size bytes h = let few : bytes ≤ 32768 = grind (arith, nat_tests) in let some : 1 ≤ bytes = grind (arith, nat_tests) in ((omega arith), words_for bytes - 1, (omega arith))

-- a mapping that the desk accepts has a page
some_pages : (c : Setup) (pages : ℕ) → is_bad_map_size c pages ≡ false → 1 ≤ pages
some_pages c pages h = grind (arith, nat_tests)

-- the places at which a call can begin, and a fact that each of them has
pub data Opens (c : Setup) : Place → Type 0 where
  AtOver : Opens c Over
  AtRefusing : (r : Reply) → Opens c (Refusing r)
  AtArea : (pages align : ℕ) (k : AreaKind) → IsPlainKind k → 1 ≤ pages → Opens c (Finding (ForPages pages align) (ForArea k))
  AtPart : (cpu pages : ℕ) → is_bad_map_size c pages ≡ false → nat_le pages c.part_limit ≡ true → Opens c (CuttingPart cpu pages)
  AtDirty : Opens c (LookingAtDirty 0 [])
  AtObject : (bytes align : ℕ) → IsObjectSize bytes → Opens c (TakingAlloc bytes align)
  AtAtomic : (bytes align : ℕ) → IsObjectSize bytes → Opens c (ChoosingAtomic bytes align)
  AtRemove : (start serial : ℕ) → Opens c (Removing start serial)
  AtUnmap : (cpu page serial : ℕ) → Opens c (BeginningUnmap cpu page serial)
  AtFree : (at : ObjectAt) (serial : ℕ) → Opens c (FreeingObject at serial)
  AtAdd : (at : ObjectAt) (serial cpu index : ℕ) (amount : ℤ) → Opens c (Adding at serial cpu index amount)
  AtSum : (at : ObjectAt) (serial index : ℕ) → Opens c (Summing at serial index)
  AtBalance : Opens c TakingToBalance

abbrev pub HaveBeginnings : (Place → Type 0) → Setup → Type 0
HaveBeginnings P c = (p : Place) → Opens c p → P p

module _ (P : Place → Type 0) (c : Setup) (have : HaveBeginnings P c) where
  alloc_begins : (place : ℕ → ℕ → Place) (bytes align : ℕ) → ((n to : ℕ) → IsObjectSize n → P (place n to)) → P (begin_alloc place bytes align)
  alloc_begins place bytes align h = either_place P (is_bad_object_size bytes) _ _ (λ e. have _ (AtRefusing reply.BadSize))
      (λ e. either_place P (is_bad_object_align align) _ _ (λ f. have _ (AtRefusing reply.BadAlign)) (λ f. h (4 * words_for bytes) (max align 4) (accepted_size bytes e)))

  free_begins : (made : Made) → P (begin_free_area made)
  free_begins (MadeArea start serial) = have _ (AtRemove start serial)
  free_begins _ = have _ (AtRefusing reply.Unbound)

  unmap_begins : (made : Made) → P (begin_unmap_ram made)
  unmap_begins (MadeArea start serial) = have _ (AtRemove start serial)
  unmap_begins (MadePart cpu page serial) = have _ (AtUnmap cpu page serial)
  unmap_begins _ = have _ (AtRefusing reply.Unbound)

  object_begins : (made : Made) → P (begin_free_percpu made)
  object_begins (MadeObject at serial) = have _ (AtFree at serial)
  object_begins _ = have _ (AtRefusing reply.Unbound)

  add_begins : (freed : Bool) (cpu index : ℕ) (amount : ℤ) (made : Made) → P (begin_add freed cpu index amount made)
  add_begins freed cpu index amount (MadeObject at serial) = either_place P freed _ _ (λ e. have _ (AtRefusing reply.NotLive)) (λ e. have _ (AtAdd at serial cpu index amount))
  add_begins freed cpu index amount _ = have _ (AtRefusing reply.Unbound)

  sum_begins : (freed : Bool) (index : ℕ) (made : Made) → P (begin_sum freed index made)
  sum_begins freed index (MadeObject at serial) = either_place P freed _ _ (λ e. have _ (AtRefusing reply.NotLive)) (λ e. have _ (AtSum at serial index))
  sum_begins freed index _ = have _ (AtRefusing reply.Unbound)

  call_begins : (opening own : List Answered) (call : Call) → P (begin_call c opening own call)
  call_begins opening own (Vmalloc bytes align) = either_place P (is_bad_vmalloc_size c bytes) _ _ (λ e. have _ (AtRefusing reply.BadSize))
      (λ e. either_place P (is_bad_vmalloc_align align) _ _ (λ f. have _ (AtRefusing reply.BadAlign)) (λ f. have _ (AtArea (pages_for bytes + 1) (align_pages align) kind.Vmalloc tt (omega arith))))
  call_begins opening own (Vfree t) = free_begins (target_of opening own t)
  call_begins opening own (MapRam cpu pages) = either_place P (is_bad_map_size c pages) _ _ (λ e. have _ (AtRefusing reply.BadSize))
      (λ e. either_place P (nat_le pages c.part_limit) _ _ (λ f. have _ (AtPart cpu pages e f)) (λ f. have _ (AtArea pages 1 kind.MapRam tt (some_pages c pages e))))
  call_begins opening own (UnmapRam t) = unmap_begins (target_of opening own t)
  call_begins opening own UnmapAliases = have _ AtDirty
  call_begins opening own (AllocPercpu bytes align) = alloc_begins TakingAlloc bytes align (λ n to few. have _ (AtObject n to few))
  call_begins opening own (AllocAtomic bytes align) = alloc_begins ChoosingAtomic bytes align (λ n to few. have _ (AtAtomic n to few))
  call_begins opening own (FreePercpu t) = object_begins (target_of opening own t)
  call_begins opening own (Add t cpu index amount) = add_begins (was_freed (answers_in opening own t) t.call) cpu index amount (target_of opening own t)
  call_begins opening own (Sum t index) = sum_begins (was_freed (answers_in opening own t) t.call) index (target_of opening own t)
  call_begins opening own Balance = have _ AtBalance

  pub begins_with : (opening own : List Answered) (o : Option Call) → P (begin c opening own o)
  begins_with opening own None = have _ AtOver
  begins_with opening own (Some call) = call_begins opening own call

pub proper_begins : (c : Setup) → HaveBeginnings (IsProper c) c
proper_begins c p opens = grind arith

-- Where a caller goes, by what holds of the place behind a section and of each beginning.

-- the caller with its call answered, the call being at hand
pub answers_call : (l : Local) (r : Reply) (made : Made) → length l.answers < length l.calls
    → (call : Call) × (slice_get l.calls (length l.answers) ≡ Some call) × (moved_to l (Answer r made) ≡ answered l (record { call = call; reply = r; made = made; own_event = suc l.events }))
answers_call l r made h =
    let at = there l.calls (length l.answers) h in
    (at.0, at.1, ap (λ o. answered_of l o (λ call. record { call = call; reply = r; made = made; own_event = suc l.events })) at.1)

pub moved_has : (P : Place → Type 0) (l : Local) → HaveBeginnings P l.setup → length l.answers < length l.calls → (n : Next) → OnNext P n → P (moved_to l n).place
moved_has P l have h (Go p) is = is
moved_has P l have h (Answer r made) is =
    let e = answers_call l r made h in
    subst (λ (x : Local). P x.place) (sym e.2) (begins_with P l.setup have l.opening _ (slice_get l.calls (suc (length l.answers))))

-- What each of several callers has.

-- a caller at its start has its list of calls
pub started_caller : (c : Setup) (answers : List Answered) (first : ℕ) (calls : List (List Call)) (j : ℕ) (l : Local) → slice_get (callers_from c answers first calls) j ≡ Some l
    → (own : List Call) × (slice_get calls j ≡ Some own) × (l ≡ started c answers (first + j) own)
started_caller c answers first [] j l h = cc
started_caller c answers first (own ∷ more) j l h = grind (arith, started_caller c answers (suc first) more)

-- callers at their start
pub all_started : (P : Local → Type 0) (c : Setup) (answers : List Answered) (first : ℕ) (calls : List (List Call)) → ((i : ℕ) (own : List Call) → P (started c answers i own))
    → (j : ℕ) (l : Local) → slice_get (callers_from c answers first calls) j ≡ Some l → P l
all_started P c answers first calls begin j l h = let is = started_caller c answers first calls j l h in subst P (sym is.2) (begin (first + j) is.0)

-- a count that is 0 for each caller at its start
pub none_started : (f : Local → ℕ) (c : Setup) (answers : List Answered) → ((i : ℕ) (own : List Call) → f (started c answers i own) ≡ 0) → (first : ℕ) (calls : List (List Call)) → sum_by f (callers_from c answers first calls) ≡ 0
none_started f c answers none first [] = refl
none_started f c answers none first (own ∷ more) = omega (arith, sum_by-cons f (started c answers first own) (callers_from c answers (suc first) more), none first own, none_started f c answers none (suc first) more)

-- callers of a world, with those that join them
pub all_joined : (P : Local → Type 0) (c : Setup) (calls : List (List Call)) (w : World) → ((k : ℕ) (l : Local) → slice_get w.locals k ≡ Some l → P l)
    → ((i : ℕ) (own : List Call) → P (started c (opening_answers w.locals) i own)) → (k : ℕ) (l : Local) → slice_get (with_callers c calls w).locals k ≡ Some l → P l
all_joined P c calls w all begin k l h = grind (arith, append_cases, started_caller)

-- callers of which one has moved
pub all_moved : (P : Local → Type 0) (locals : List Local) (k : ℕ) (moved : Local) → P moved → ((j : ℕ) (x : Local) → slice_get locals j ≡ Some x → j ≢ k → P x)
    → (j : ℕ) (x : Local) → slice_get (slice_set locals k moved) j ≡ Some x → P x
all_moved P locals k moved own others j x h = elim (set_cases locals k j moved x h) [ inl e ↦ subst P (sym e.1) own | inr e ↦ others j x e.1 e.0 ]

-- answers of a caller, with one more
pub all_answered : (P : Answered → Type 0) (answers : List Answered) (a : Answered) → ((i : ℕ) (b : Answered) → slice_get answers i ≡ Some b → P b) → P a
    → (i : ℕ) (b : Answered) → slice_get (answers ++ a ∷ []) i ≡ Some b → P b
all_answered P answers a all own i b h = grind (arith, append_cases)

-- a fact of each caller by its setup and place alone
pub record AllStand (P : Setup → Place → Type 0) (w : World) : Type 0 where
  pub each : (k : ℕ) (l : Local) → slice_get w.locals k ≡ Some l → P l.setup l.place

pub moved_setup : (l : Local) (n : Next) → (moved_to l n).setup ≡ l.setup
moved_setup l n = grind (arith, nat_tests)

-- such a fact lasts where each section keeps it and each beginning has it
abbrev pub IsKeptAtPlaces : (Setup → Place → Type 0) → Setup → Type 0
IsKeptAtPlaces P c = (m : PlainMap) (p : Place) (s : Section) → P c p → given c m (ask c p) ≡ Some s → OnNext (P c) (next c p s)

pub stand_lasts : (c : Setup) (calls : List (List Call)) (P : Setup → Place → Type 0) → HaveBeginnings (P c) c → IsKeptAtPlaces P c → IsLasting c calls (AllStand P)
stand_lasts c calls P have keeps = record {
  steps = λ w k l s framed all step. record {
    each = all_moved (λ x. P x.setup x.place) w.locals l.caller _ (own w k l s (framed.own k l step.here) (all.each k l step.here) step) (λ j x h apart. all.each j x h);
  };
  joins = λ w framed one all over. record { each = all_joined (λ x. P x.setup x.place) c calls w all.each (λ i own. begins_with (P c) c have (opening_answers w.locals) [] (slice_get own 0)) };
}
  where
    own : (w : World) (k : ℕ) (l : Local) (s : Section) → IsOwn c k l → P l.setup l.place → IsStep w k l s → P (moved_to l (next l.setup l.place s)).setup (moved_to l (next l.setup l.place s)).place
    own w k l s is here step = grind (arith, moved_has)

pub proper_lasts : (c : Setup) (calls : List (List Call)) → IsLasting c calls (AllStand IsProper)
proper_lasts c calls = stand_lasts c calls IsProper (proper_begins c) (λ m p s. proper_next c m p s)

pub stand_first : (P : Setup → Place → Type 0) (c : Setup) (opening : List Call) (calls : List (List Call)) → HaveBeginnings (P c) c → AllStand P (opening_world c opening calls)
stand_first P c opening calls have = record { each = all_started (λ x. P x.setup x.place) c [] 0 (opening ∷ []) (λ i own. begins_with (P c) c have [] [] (slice_get own 0)) }
