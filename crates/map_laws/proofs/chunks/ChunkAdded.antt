-- Chunks that are added, and objects that are placed at once.
use Rattle.vm_model.proofs.Tabulated.{length-tabulated}
use Rattle.std.proofs.Common.{List, Some, [], ap, arith, false, inl, inr, refl, max, replicate, slice_get, subst, suc, sym, true, zero, ℕ, ◌+◌, ◌∙◌, ◌∷◌, ◌≡◌, ◌⊎◌, Bool, map, nat_le, not, ◌*◌, ◌++◌, ◌-◌, ◌/◌, ◌<◌, ◌≤◌, None, Option, option_and_then}
use Rattle.std.proofs.lemmas.List.{length-replicate}
use Rattle.std.proofs.lemmas.Option.{slice_get_within}
use Rattle.vm_model.specs.Carried.{IsBeingPopulated, has_alloc, is_for_chunk, keeps_alloc}
use Rattle.vm_model.specs.Chunks.{ObjectAt, bit_list, new_chunk, plain_fit, with_object, atomic_bits, atomic_fit, is_populated, object_bits, pages_of_object, unpopulated_pages, with_live_object}
use Rattle.vm_model.specs.Effects.{effect_as, with_new_chunk}
use Rattle.vm_model.specs.Events.{AddChunk, PlaceAtomic, SettleObject, Section}
use Rattle.vm_model.specs.Legal.{IsLegalAs}
use Rattle.vm_model.specs.Next.{Go, Next, next}
use Rattle.vm_model.specs.Places.{AddingChunk, Populating, ChoosingAtomic, SettlingAtomic, Zeroing, Aim, Choosing, Finding, FindingAgain, ForArea, ForBlock, ForChunk, Place, PurgeCollecting, PurgeFlushing, PurgeFragmenting, PurgeGiving, PurgeReturning, PurgeTaking, PurgeUnlinking, PurgeWaiting, ReplyWith, SearchAgain, SettlingGroups, SpareAgain, Then, Waiting, ask}
use Rattle.vm_model.specs.PlainMap.{Chunk, PlainMap, Lives}
use Rattle.vm_model.specs.Rules.{AreUnits}
use Rattle.vm_model.specs.Setup.{Setup, unit_bits}
use Rattle.map_laws.proofs.TestsAndFilters.{IsIn, by_test, count_at, filter_in, in_among, or_right, covers_append, holds_from}
use Rattle.map_laws.proofs.chunks.ChunkFacts.{AreSameRows, IsChunkAt, IsChunkFine, IsChunkOf, IsLacking, IsSameRow, chunk_stays, of_stays, unit_covered, IsPlacedAt, chunk_at_stays}
use Rattle.map_laws.proofs.chunks.ChunkMoves.{AreGrown, IsChunkMoved, later_places, quiet_chunks}
use Rattle.map_laws.proofs.chunks.ChunkRows.{fitting, object_low, placed_lacking, placement_is, AreNumbered, rows_changed, rows_numbered, same_row, IsFitting, fitting_bit, populated_at, plain_rows, plain_stays}
use Rattle.map_laws.proofs.KeptThroughSteps.{append_cases, there}
use Rattle.map_laws.proofs.ProperPlaces.{IsObjectSize, OnNext, then_of}
use Rattle.std.proofs.lemmas.Bool.Decides.{nat_tests}
use Rattle.vm_model.proofs.Paint.{length-paint_from}
use Rattle.vm_model.specs.Areas.{spans_of}
use Rattle.vm_model.specs.Space.{count_from, covers, fits, holds, is_among, paint, span, times}
use Rattle.map_laws.proofs.blocks.BlockFacts.{to_same}
use Rattle.map_laws.proofs.areas.AreaFacts.{painted_still, unpainted}
use Rattle.vm_model.specs.LegalHistory.{Meets}
use Rattle.map_laws.proofs.PlaceRows.{PlaceRow, Stays, NoSpaceForChunk, place_row}
use Rattle.map_laws.proofs.chunks.ChunkFalls.{added}
use Rattle.map_laws.proofs.StepFalls.{adds_nothing, asks_chunk}

-- A chunk is added, and an object is placed in the chunk that has room.

module _ (c : Setup) (units : AreUnits c) (m : PlainMap) (k : ℕ) (numbered : AreNumbered m) (busy : ℕ → ℕ → Type 0) (base chunk bytes align : ℕ)
    (all : (h : Chunk) → IsIn h m.chunks → IsChunkFine c m (λ number page. busy number page ⊎ IsBeingPopulated number page (AddingChunk base chunk bytes align)) h) (own : IsChunkAt c m (AddingChunk base chunk bytes align))
    (at : ObjectAt) (missing : List ℕ) (size : IsObjectSize at.bytes) (legal : IsLegalAs c m k (AddChunk chunk base at align missing)) where
  abbrev grown_map : PlainMap
  grown_map = with_new_chunk c chunk base m

  abbrev added_map : PlainMap
  added_map = effect_as c m k (AddChunk chunk base at align missing)

  old_or_new : (h : Chunk) → IsIn h grown_map.chunks → IsIn h m.chunks ⊎ (h ≡ new_chunk c chunk base)
  old_or_new h there = grind (arith, append_cases, there, nat_tests)

  none_populated : (n page : ℕ) → slice_get (replicate n false) page ≡ Some true → ⊥
  none_populated (suc n) (suc page) e = none_populated n page e
  none_populated _ _ e = cc

  new_fine : IsChunkFine c grown_map (λ number page. busy number page ⊎ ⊥) (new_chunk c chunk base)
  new_fine = record {
    live = λ group g e. (let is = own.0 group g e in record { area = is.area; there = is.there; span = is.span; kind = is.kind });
    long = length-replicate c.unit_pages false;
    clean = λ page e. (own.1 page e).not_stale;
    populated = λ page e. absurd (none_populated c.unit_pages page e);
    outer = λ page e out. (own.1 page e).unmapped;
    spare = λ page e. inl (λ cpu unit f. (own.1 (base + unit + page) (unit_covered c base page cpu unit units f (let l = slice_get_within (replicate c.unit_pages false) page false e in omega (arith, length-replicate c.unit_pages false)))).unmapped);
  }

  all_grown : (h : Chunk) → IsIn h grown_map.chunks → IsChunkFine c grown_map (λ number page. busy number page ⊎ ⊥) h
  all_grown h there = elim (old_or_new h there) [
    | inl old ↦ chunk_stays c units m grown_map _ _ h h (same_row h) (record { areas = λ a group is e. is; still = λ page is e. record { frame = refl; clean = λ f. f } }) (λ page b. b) (all h old)
    | inr new ↦ subst (IsChunkFine c grown_map (λ number page. busy number page ⊎ ⊥)) (sym new) new_fine
  ]

  new_number : (h : Chunk) → h ≡ new_chunk c chunk base → h.number ≡ m.next_chunk
  new_number h e = ap (λ (x : Chunk). x.number) e ∙ legal.1

  grown_numbered : AreNumbered grown_map
  grown_numbered = record {
    low = λ h there. elim (old_or_new h there) [
      | inl old ↦ (let l = numbered.low h old in let e = legal.1 in omega arith)
      | inr new ↦ (let e = new_number h new in let f = legal.1 in omega arith)
    ];
    same = λ h h' there there' e. elim (old_or_new h there) [
      | inl old ↦ elim (old_or_new h' there') [ inl old' ↦ numbered.same h h' old old' e | inr new' ↦ absurd (let l = numbered.low h old in let f = new_number h' new' in omega arith) ]
      | inr new ↦ elim (old_or_new h' there') [ inl old' ↦ absurd (let l = numbered.low h' old' in let f = new_number h new in omega arith) | inr new' ↦ subst (IsSameRow h) (new ∙ sym new') (same_row h) ]
    ];
  }

  object_rows : AreSameRows grown_map added_map
  object_rows = rows_changed grown_map added_map at.chunk (with_object k at) refl refl (λ x there e. record { number = refl; base = refl; long = refl; populated = λ page. refl })

  added_grown : AreGrown m added_map
  added_grown = record {
    next = let e = legal.1 in omega arith;
    back = λ h there low. (let was = object_rows.back h there in (grind (arith, old_or_new)));
  }

  added_lacking : IsLacking c added_map at missing
  added_lacking =
      let is = placement_is c (plain_fit c at.bytes align) at.bytes grown_map.chunks at missing legal.2 in
      let of : IsChunkOf grown_map at.chunk at.base = record { chunk = is.chunk; there = is.there; numbered = sym is.numbered; based = sym is.based } in
      let after = of_stays grown_map added_map at.chunk at.base object_rows of in
      placed_lacking c (plain_fit c at.bytes align) at.bytes grown_map.chunks added_map at missing is (all_grown is.chunk is.there).long after.0 after.1
      (λ page h. (object_low c (bit_list c is.chunk) at at.bytes (length-tabulated _ (unit_bits c) 0) size refl (fitting at.bytes align at.off (bit_list c is.chunk) is.fits) page h).0)

  pub chunk_added : IsChunkMoved c m k busy (AddingChunk base chunk bytes align) (AddChunk chunk base at align missing) (Go (Populating at missing))
  chunk_added = record {
    chunks = λ h there. (let was = object_rows.back h there in
        chunk_stays c units grown_map added_map _ _ was.0 h was.2 (record { areas = λ a group is e. is; still = λ page is e. record { frame = refl; clean = λ f. f } }) (λ page b. b) (all_grown was.0 was.1));
    numbered = rows_numbered grown_map added_map object_rows grown_numbered;
    own = added_lacking;
    others = λ q apart is. later_places c m added_map added_grown q (apart refl) is;
  }

-- An object that is placed at once: all of its pages are populated, before it lives and after.

page_bit : (bits : List Bool) (bytes off more page : ℕ) → (is : IsFitting bits bytes off) → bytes ≡ 4 * suc more → off / 4096 ≤ page → page ≤ (off + bytes - 1) / 4096
    → (bit : ℕ) × (slice_get bits bit ≡ Some false) × (holds (span (1024 * page) 1024) bit ≡ true)
page_bit bits bytes off more page is whole low high =
    let at = is.at in let there : is.bit + (max (1024 * page) is.bit - is.bit) ≡ max (1024 * page) is.bit = omega arith in
    (max (1024 * page) is.bit, ap (slice_get bits) (sym there) ∙ fitting_bit bits bytes off (max (1024 * page) is.bit - is.bit) is (omega arith), holds_from (span (1024 * page) 1024) (max (1024 * page) is.bit) (omega arith) (omega arith))

-- what a row of tests says at a place
pub row_test : (test : ℕ → Bool) (n first i : ℕ) (b : Bool) → slice_get (map test (count_from n first)) i ≡ Some b → test (first + i) ≡ b
row_test test zero first i b e = cc
row_test test (suc n) first i b e = grind (arith, row_test test n)

-- a page's bits are covered where the page is listed
covers_page : (bit page : ℕ) (pages : List ℕ) → is_among pages page ≡ true → holds (span (1024 * page) 1024) bit ≡ true → covers (map (λ page. span (1024 * page) 1024) pages) bit ≡ true
covers_page bit page [] h e = cc
covers_page bit page (p ∷ pages) h e = grind (arith, covers_page bit page pages, to_same, or_right, nat_tests)

-- a page is populated of which an atomic call may take a bit
free_page : (c : Setup) (h : Chunk) (bit page : ℕ) → page < c.unit_pages → slice_get (atomic_bits c h) bit ≡ Some false → holds (span (1024 * page) 1024) bit ≡ true → slice_get h.populated page ≡ Some true
free_page c h bit page low free here = by_test (is_populated h page) (populated_at h page) (λ e. (
    let listed = in_among page (unpopulated_pages c h) (filter_in (λ page. not (is_populated h page)) (count_from c.unit_pages 0) page page (count_at c.unit_pages 0 page low ∙ ap (λ i. Some i) (let f : 0 + page ≡ page = omega arith in f)) (ap not e)) in
    let taken = covers_append bit (map object_bits h.objects) (map (λ page. span (1024 * page) 1024) (unpopulated_pages c h))
    ∙ or_right (covers (map object_bits h.objects) bit) _ (covers_page bit page (unpopulated_pages c h) listed here) in
    let open_bit : covers (map object_bits h.objects ++ map (λ page. span (1024 * page) 1024) (unpopulated_pages c h)) bit ≡ false = grind (arith, row_test) in absurd cc))

-- the pages of an object that fits at once are populated
pub atomic_pages : (c : Setup) (h : Chunk) (at : ObjectAt) → IsObjectSize at.bytes → IsFitting (atomic_bits c h) at.bytes at.off → (page : ℕ) → is_among (pages_of_object at) page ≡ true → slice_get h.populated page ≡ Some true
atomic_pages c h at size fits page f =
    let low = object_low c (atomic_bits c h) at at.bytes (length-tabulated _ (unit_bits c) 0) size refl fits page f in
    let bit = page_bit (atomic_bits c h) at.bytes at.off size.1 page fits size.2 low.1 low.2 in free_page c h bit.0 page low.0 bit.1 bit.2

module _ (c : Setup) (units : AreUnits c) (m : PlainMap) (k : ℕ) (numbered : AreNumbered m) (once : (page : ℕ) → times page (spans_of m.areas) ≤ 1) (busy : ℕ → ℕ → Type 0) where
  module _ (bytes align : ℕ) (all : (h : Chunk) → IsIn h m.chunks → IsChunkFine c m (λ number page. busy number page ⊎ IsBeingPopulated number page (ChoosingAtomic bytes align)) h) where
    atomic_placed : (at : ObjectAt) (size : IsObjectSize at.bytes) → IsLegalAs c m k (PlaceAtomic at align) → IsPlacedAt m at
    atomic_placed at size legal =
        let is = placement_is c (atomic_fit c at.bytes align) at.bytes m.chunks at [] legal in record {
          old = let l = numbered.low is.chunk is.there in let e = is.numbered in omega arith;
          populated = λ h there e page f. (numbered.same is.chunk h is.there there (sym (e ∙ is.numbered))).populated page ∙ atomic_pages c is.chunk at size (fitting at.bytes align at.off (atomic_bits c is.chunk) is.fits) page f;
        }

    pub atomic_moved : (at : ObjectAt) (size : IsObjectSize at.bytes) → IsLegalAs c m k (PlaceAtomic at align) → IsChunkMoved c m k busy (ChoosingAtomic bytes align) (PlaceAtomic at align) (Go (Zeroing at))
    atomic_moved at size legal = quiet_chunks c units m k numbered once busy (ChoosingAtomic bytes align) all (PlaceAtomic at align) (Go (Zeroing at)) (plain_rows c m k (PlaceAtomic at align) refl) (λ number. plain_stays c m k (PlaceAtomic at align) number refl)
        (λ number page mine. absurd mine)
        (chunk_at_stays c units m (effect_as c m k (PlaceAtomic at align)) (plain_rows c m k (PlaceAtomic at align) refl) (λ number. plain_stays c m k (PlaceAtomic at align) number refl) (λ h there. (all h there).live) (Zeroing at) (atomic_placed at size legal))

  -- it lives from then on
  module _ (at : ObjectAt) (all : (h : Chunk) → IsIn h m.chunks → IsChunkFine c m (λ number page. busy number page ⊎ IsBeingPopulated number page (SettlingAtomic at)) h) (own : IsPlacedAt m at) where
    painted_same : (h : Chunk) → IsIn h m.chunks → h.number ≡ at.chunk → (page : ℕ) (t : Bool) → is_among (pages_of_object at) page ≡ t → slice_get (paint (is_among (pages_of_object at)) true h.populated) page ≡ slice_get h.populated page
    painted_same h there e page t f = grind (arith, painted_still, unpainted)

    live_rows : (serial : ℕ) → AreSameRows m (effect_as c m k (SettleObject at serial))
    live_rows serial = rows_changed m (effect_as c m k (SettleObject at serial)) at.chunk (with_live_object at (Lives serial)) refl refl
        (λ h there e. record { number = refl; base = refl; long = length-paint_from (is_among (pages_of_object at)) true h.populated 0; populated = λ page. painted_same h there e page _ refl })

    pub atomic_lives : (serial : ℕ) (n : Next) → OnNext (IsChunkAt c (effect_as c m k (SettleObject at serial))) n → IsChunkMoved c m k busy (SettlingAtomic at) (SettleObject at serial) n
    atomic_lives serial n next = quiet_chunks c units m k numbered once busy (SettlingAtomic at) all (SettleObject at serial) n (live_rows serial)
        (λ number. record { areas = λ a group is e. is; still = λ page is e. record { frame = refl; clean = λ f. f } }) (λ number page mine. absurd mine) next

-- The number that a caller's new chunk gets is the next one, up to its section.

abbrev pub number_aim : Aim → Option ℕ
number_aim (ForArea k) = None
number_aim (ForBlock cpu pages) = None
number_aim (ForChunk chunk bytes align) = Some chunk

abbrev pub number_then : Then → Option ℕ
number_then (SearchAgain search aim) = number_aim aim
number_then (ReplyWith reply) = None
number_then SpareAgain = None

abbrev pub chunk_number : Place → Option ℕ
chunk_number (Finding search aim) = number_aim aim
chunk_number (FindingAgain search aim) = number_aim aim
chunk_number (SettlingGroups base chunk bytes align) = Some chunk
chunk_number (AddingChunk base chunk bytes align) = Some chunk
chunk_number p = option_and_then number_then (then_of p)

-- of a place, and of what follows one that has this number
abbrev pub IsNumberNext : PlainMap → Place → Type 0
IsNumberNext m p = (number : ℕ) → chunk_number p ≡ Some number → number ≡ m.next_chunk

then_alloc : (after : Then) (number : ℕ) → number_then after ≡ Some number → keeps_alloc after ≡ true
then_alloc after number e = grind arith

-- such a place has the alloc turn
pub number_alloc : (p : Place) (number : ℕ) → chunk_number p ≡ Some number → has_alloc p ≡ true
number_alloc p number e = grind (arith, then_alloc)

module _ (c : Setup) where
  module _ (m : PlainMap) (k : ℕ) where
    pub same_or_alloc : (p : Place) (s : Section) → Meets c (ask c p) s → ((effect_as c m k s).next_chunk ≡ m.next_chunk) ⊎ (has_alloc p ≡ true)
    same_or_alloc p s w = grind (arith, asks_chunk, adds_nothing)

    pub number_after : (p : Place) (s : Section) → Meets c (ask c p) s → IsLegalAs c m k s → IsNumberNext m p → OnNext (IsNumberNext (effect_as c m k s)) (next c p s)
    number_after p s meets legal is = grind arith
