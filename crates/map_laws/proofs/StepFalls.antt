-- How many sections a call has left at each place, and that each section leaves fewer.
use Rattle.map_laws.proofs.blocks.BlockFacts.{same_test}
use Rattle.std.proofs.Common.{◌≡◌, ℕ, suc, ◌+◌, ◌*◌, ◌-◌, ◌<◌, ◌≤◌, Bool, true, false, List, [], ◌∷◌, ◌++◌, Option, Some, None, subst, arith, refl, not, ◌==◌, length, ap}
use Rattle.std.proofs.lemmas.Bool.Decides.{nat_tests}
use Rattle.vm_model.specs.Setup.{Setup, cpus}
use Rattle.vm_model.specs.PlainMap.{PlainMap, Chunk}
use Rattle.vm_model.specs.Chunks.{ObjectAt, new_chunk, plain_fit, placement, spare_chunk, page_to_fill, change_chunk, with_page}
use Rattle.vm_model.specs.Events.{Section, Filled}
use Rattle.vm_model.specs.Told.{placed, spare_told, page_told}
use Rattle.vm_model.specs.Places.{Place, Over, Refusing, Finding, FindingAgain, MappingArea, Dropping, SettlingArea, Removing, UnmappingArea, Waiting, PurgeTaking, PurgeFragmenting, PurgeUnlinking, PurgeWaiting, PurgeCollecting, PurgeFlushing, PurgeReturning, PurgeGiving, CuttingPart, SettlingBlock, AddingBlock, MappingPart, SettlingPart, BeginningUnmap, UnmappingPart, Retiring, UnlinkingBlock, LookingAtDirty, TakingAlloc, Choosing, SettlingGroups, AddingChunk, Populating, SettlingObject, Unplacing, GivingAlloc, ChoosingAtomic, Zeroing, SettlingAtomic, FreeingObject, Adding, Summing, TakingToBalance, Sparing, Depopulating, UnlinkingGroups, NextFill, Filling, NotingFilled, Aim, ForArea, ForBlock, ForChunk, Then, SearchAgain, ReplyWith, SpareAgain, AskAddChunk, ask, Ask}
use Rattle.vm_model.specs.Next.{Next, Go, Answer, next, after_place, after_spare, after_page}
use Rattle.vm_model.specs.Given.{given, placing_new, sparing, filling}
use Rattle.map_laws.proofs.PlaceRows.{place_row}
use Rattle.map_laws.proofs.ProperPlaces.{IsProper, OnNext}
use Rattle.map_laws.proofs.chunks.ChunkFalls.{added, new_chunk_has_room, opens, worth, worth_of, open_in, lower_section, IsFillable, page_fillable, AreSized}
use Rattle.vm_model.specs.LegalHistory.{Meets}
use Rattle.map_laws.proofs.AskRows.{ask_row}
use Rattle.std.proofs.lemmas.List.Sums.{sum_by-cons}
use Rattle.vm_model.proofs.Paint.{slice_get-paint}
use Rattle.vm_model.specs.Effects.{effect_as}
use Rattle.map_laws.proofs.TestsAndFilters.{filter_has, sum_has, sum_without}
use Rattle.map_laws.proofs.GivenMeets.{HasRoom, given_meets}

-- How many sections a caller has left in its call, chunks that it gives up and pages that it fills aside.

-- what a new chunk adds to what is to be done
abbrev pub chunk_cost : Setup → ℕ
chunk_cost c = 15 + cpus c + 3 * c.unit_pages

abbrev pub left_aim : Setup → Aim → ℕ
left_aim c (ForArea k) = 2
left_aim c (ForBlock cpu pages) = 14 + cpus c
left_aim c (ForChunk chunk bytes align) = 5 + chunk_cost c

abbrev pub left_then : Setup → Then → ℕ
left_then c (SearchAgain search aim) = 1 + left_aim c aim
left_then c (ReplyWith reply) = 0
left_then c SpareAgain = 5

abbrev pub left : Setup → Place → ℕ
left c Over = 0
left c (Refusing reply) = 1
left c (Finding search aim) = 10 + cpus c + left_aim c aim
left c (FindingAgain search aim) = 1 + left_aim c aim
left c (MappingArea s k) = 2
left c (Dropping s) = 1
left c (SettlingArea s k) = 1
left c (Removing start serial) = 11 + cpus c
left c (UnmappingArea area) = 10 + cpus c
left c (Waiting spans after) = 9 + cpus c + left_then c after
left c (PurgeTaking extra after) = 8 + cpus c + left_then c after
left c (PurgeFragmenting cpu gone extra after) = 7 + (cpus c - suc cpu) + left_then c after
left c (PurgeUnlinking gone extra after) = 6 + left_then c after
left c (PurgeWaiting gone extra after) = 5 + left_then c after
left c (PurgeCollecting extra after) = 4 + left_then c after
left c (PurgeFlushing s waited after) = 3 + left_then c after
left c (PurgeReturning waited after) = 2 + left_then c after
left c (PurgeGiving after) = 1 + left_then c after
left c (CuttingPart cpu pages) = 25 + 2 * cpus c
left c (SettlingBlock s cpu pages) = 14 + cpus c
left c (AddingBlock at) = 13 + cpus c
left c (MappingPart at) = 12 + cpus c
left c (SettlingPart at) = 1
left c (BeginningUnmap cpu page serial) = 13 + cpus c
left c (UnmappingPart at) = 12 + cpus c
left c (Retiring at reply) = 11 + cpus c
left c (UnlinkingBlock start reply) = 10 + cpus c
left c (LookingAtDirty cpu ranges) = 9 + cpus c + (cpus c - suc cpu)
left c (TakingAlloc bytes align) = 17 + cpus c + chunk_cost c
left c (Choosing bytes align) = 16 + cpus c + chunk_cost c
left c (SettlingGroups base chunk bytes align) = 5 + chunk_cost c
left c (AddingChunk base chunk bytes align) = 4 + chunk_cost c
left c (Populating at missing) = 3
left c (SettlingObject at) = 2
left c (Unplacing at) = 2
left c (GivingAlloc reply made) = 1
left c (ChoosingAtomic bytes align) = 3
left c (Zeroing at) = 2
left c (SettlingAtomic at) = 1
left c (FreeingObject at serial) = 1
left c (Adding at serial cpu index amount) = 1
left c (Summing at serial index) = 1
left c TakingToBalance = 6
left c Sparing = 5
left c (Depopulating base populated) = 16 + cpus c
left c (UnlinkingGroups base) = 15 + cpus c
left c (NextFill filled) = 4
left c (Filling chunk base page filled) = 3
left c (NotingFilled chunk page filled) = 2

abbrev pub left_next : Setup → Next → ℕ
left_next c (Go p) = left c p
left_next c (Answer reply made) = 0

-- at most how many sections a call has, with those that its chunk costs
abbrev pub per_call : Setup → ℕ
per_call c = 25 + 2 * cpus c + chunk_cost c

-- the places of a balance at which chunks and pages count
abbrev pub is_balancing : Place → Bool
is_balancing Sparing = true
is_balancing (NextFill filled) = true
is_balancing (Filling chunk base page filled) = true
is_balancing (NotingFilled chunk page filled) = true
is_balancing _ = false

-- the place at which a new chunk is added
abbrev pub adds_chunk : Place → Bool
adds_chunk (AddingChunk base chunk bytes align) = true
adds_chunk _ = false

module _ (c : Setup) where
  module _ (m : PlainMap) (units : 8 ≤ c.unit_pages) where
    pub chunk_left : (base chunk bytes align : ℕ) (s : Section) → bytes ≤ 32768 → given c m (AskAddChunk chunk base bytes align) ≡ Some s
        → left_next c (after_place bytes align 0 (placed s)) + added c s < 4 + chunk_cost c
    chunk_left base chunk bytes align s few e =
        let room = new_chunk_has_room c chunk base bytes align m.chunks units few in
        grind arith

-- What a caller that fills pages has to its credit, and that none but a balance has any.

-- a page that it fills and that someone else populated meanwhile
abbrev pub credit : List Chunk → Place → ℕ
credit chunks (Filling chunk base page filled) = 3 - 3 * opens chunk page chunks
credit chunks (NotingFilled chunk page filled) = 3 - 3 * opens chunk page chunks
credit chunks _ = 0

abbrev pub credit_next : List Chunk → Next → ℕ
credit_next chunks (Go p) = credit chunks p
credit_next chunks (Answer reply made) = 0

abbrev pub is_filling : Place → Bool
is_filling (Filling chunk base page filled) = true
is_filling (NotingFilled chunk page filled) = true
is_filling _ = false

abbrev pub asks_chunk : Ask → Bool
asks_chunk (AskAddChunk chunk base bytes align) = true
asks_chunk _ = false

abbrev pub IsNoFilling : Place → Type 0
IsNoFilling p = is_filling p ≡ false

pub no_credit_next : (chunks : List Chunk) (n : Next) → OnNext IsNoFilling n → credit_next chunks n ≡ 0
no_credit_next chunks n h = grind (arith, nat_tests)

module _ (c : Setup) where
  pub no_filling_next : (p : Place) (s : Section) → is_balancing p ≡ false → OnNext IsNoFilling (next c p s)
  no_filling_next p s h = grind (arith, place_row, nat_tests)

  pub adds_nothing : (a : Ask) (s : Section) → asks_chunk a ≡ false → Meets c a s → added c s ≡ 0
  adds_nothing a s h w = grind (arith, ask_row, added, nat_tests)

-- Each section lowers what all callers have left, their chunks' worth and the filler's credit together.

-- the object of a new chunk has room
pub has_room : (c : Setup) (m : PlainMap) (p : Place) → 8 ≤ c.unit_pages → IsProper c p → HasRoom c m (ask c p)
has_room c m p u is = grind (arith, new_chunk_has_room, nat_tests)

module _ (c : Setup) (m : PlainMap) (k : ℕ) (units : 8 ≤ c.unit_pages) where
  pub plain_falls : (p : Place) (s : Section) → is_balancing p ≡ false → IsProper c p → given c m (ask c p) ≡ Some s → left_next c (next c p s) + added c s < left c p
  plain_falls p s h is e = grind (arith, added, adds_nothing, given_meets, has_room, chunk_left, nat_tests, place_row)

  -- The sections of a balance.

  spared : (o : Option Chunk) → spare_chunk m.chunks ≡ o
      → left_next c (after_spare (spare_told (sparing c o))) + credit_next (effect_as c m k (sparing c o)).chunks (after_spare (spare_told (sparing c o))) + worth_of c (effect_as c m k (sparing c o)).chunks < 5 + worth_of c m.chunks
  spared None e = omega arith
  spared (Some h) e =
      let kept = filter_has (λ (h : Chunk). length h.objects == 0) m.chunks 1 h e in
      grind (arith, sum_without)

  opens_some : (h : Chunk) (page : ℕ) → IsFillable m.chunks h page → 1 ≤ opens h.number page m.chunks
  opens_some h page is = grind (arith, open_in, same_test, sum_has, nat_tests)

  filled_next : AreSized c m.chunks → (filled : ℕ) (o : Option (Chunk × ℕ)) → page_to_fill c m.chunks ≡ o
      → left_next c (after_page filled (page_told (filling o))) + credit_next (effect_as c m k (filling o)).chunks (after_page filled (page_told (filling o))) + worth_of c (effect_as c m k (filling o)).chunks < 4 + worth_of c m.chunks
  filled_next sized filled o e = grind (arith, opens_some, page_fillable, nat_tests)

  closed_all : (chunk page : ℕ) (chunks : List Chunk) → opens chunk page (change_chunk chunk (with_page page) chunks) ≡ 0
  closed_all chunk page [] = refl
  closed_all chunk page (h ∷ chunks) = grind (arith, closed_all chunk page chunks, sum_by-cons, open_in, slice_get-paint, same_test, nat_tests)

  noted : (chunk page : ℕ) → 4 + worth_of c (effect_as c m k (Filled chunk page)).chunks < 2 + (3 - 3 * opens chunk page m.chunks) + worth_of c m.chunks
  noted chunk page = let low = lower_section c chunk page m k (Filled chunk page) in let a = low.less in let b = low.closes in
      omega (arith, closed_all chunk page m.chunks)

  balance_falls : AreSized c m.chunks → (p : Place) (s : Section) → is_balancing p ≡ true → given c m (ask c p) ≡ Some s
      → left_next c (next c p s) + credit_next (effect_as c m k s).chunks (next c p s) + worth_of c (effect_as c m k s).chunks < left c p + credit m.chunks p + worth_of c m.chunks
  balance_falls sized p s h e = grind (arith, spared, filled_next, noted)

  falls_by : AreSized c m.chunks → (p : Place) (s : Section) (b : Bool) → is_balancing p ≡ b → IsProper c p → given c m (ask c p) ≡ Some s
      → left_next c (next c p s) + credit_next (effect_as c m k s).chunks (next c p s) + worth_of c (effect_as c m k s).chunks < left c p + credit m.chunks p + worth_of c m.chunks
  falls_by sized p s true f is e = balance_falls sized p s f e
  falls_by sized p s false f is e =
      let low = (lower_section c 0 0 m k s).less in
      omega (arith, plain_falls p s f is e, no_credit_next (effect_as c m k s).chunks (next c p s) (no_filling_next c p s f))

  pub place_falls : AreSized c m.chunks → (p : Place) (s : Section) → IsProper c p → given c m (ask c p) ≡ Some s
      → left_next c (next c p s) + credit_next (effect_as c m k s).chunks (next c p s) + worth_of c (effect_as c m k s).chunks < left c p + credit m.chunks p + worth_of c m.chunks
  place_falls sized p s is e = falls_by sized p s (is_balancing p) refl is e

  -- what another caller has to its credit, with the chunks' worth
  pub credit_falls : (s : Section) (p : Place) → credit (effect_as c m k s).chunks p + worth_of c (effect_as c m k s).chunks ≤ credit m.chunks p + worth_of c m.chunks + added c s
  credit_falls s (Filling chunk base page filled) = let low = lower_section c chunk page m k s in let a = low.less in let b = low.closes in omega arith
  credit_falls s (NotingFilled chunk page filled) = let low = lower_section c chunk page m k s in let a = low.less in let b = low.closes in omega arith
  credit_falls s _ = let a = (lower_section c 0 0 m k s).less in omega arith
