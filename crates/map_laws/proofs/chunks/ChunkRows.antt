-- Chunks as rows of the map: what sections leave of them, and where objects are placed.
use Rattle.std.proofs.Common.{◌≡◌, ◌≢◌, ℕ, ◌⊎◌, inl, inr, Bool, true, false, ◌==◌, if◌then◌else◌, List, map, Some, option_map, refl, ap, sym, ◌∙◌, arith, ◌<◌, slice_get, subst, None, Option, drop, filter, is_some, length, not, option_and_then, suc, unwrap_or, zero, ◌*◌, ◌+◌, ◌-◌, ◌/◌, ◌≤◌}
use Rattle.std.proofs.lemmas.Bool.Decides.{nat_tests}
use Rattle.std.proofs.lemmas.Option.{slice_get-map, get_or_from_slice_get, slice_get_within, unwrap_or-slice_get}
use Rattle.map_laws.proofs.TestsAndFilters.{IsIn, among_in, filter_has, filter_in, in_among, least_in}
use Rattle.map_laws.proofs.chunks.ChunkFalls.{mapped_at, hole_is}
use Rattle.map_laws.proofs.chunks.ChunkFacts.{IsSameRow, AreSameRows, NumberStays, IsChunkOf, IsLacking}
use Rattle.vm_model.specs.Events.{AddChunk, Depopulate, Fill, Filled, FreeObject, MapPages, PlaceAtomic, PlaceObject, Populate, Remove, SettleObject, Spare, Unlink, Unmap, Unplace, Section}
use Rattle.vm_model.specs.Places.{AskAddChunk, AskDepopulate, AskFill, AskFilled, AskMap, AskPopulate, AskRemove, AskSettleObject, AskSpare, AskUnlink, AskUnmap, Ask}
use Rattle.vm_model.specs.PlainMap.{Chunk, PlainMap}
use Rattle.vm_model.specs.Setup.{Setup, unit_bits}
use Rattle.vm_model.specs.Chunks.{change_chunk, with_object, without_object, ObjectAt, chosen, is_populated, missing_pages, offset_fit, pages_of_object, placed_at, placement, slot}
use Rattle.vm_model.specs.Effects.{effect_as}
use Rattle.map_laws.proofs.blocks.BlockPlaces.{with_keeps}
use Rattle.map_laws.proofs.KeptThroughSteps.{same_or, there}
use Rattle.map_laws.proofs.areas.AreaFacts.{painted_still, in_row}
use Rattle.vm_model.specs.Space.{begins_free, count_from, is_among, lowest}
use Rattle.vm_model.proofs.Elements.{slice_get-drop}
use Rattle.map_laws.proofs.SearchEnds.{lowest_fit}
use Rattle.vm_model.proofs.FreePlaces.{begins_free-at}
use Rattle.map_laws.proofs.ProperPlaces.{IsObjectSize}

-- Lists in which the elements with one key are changed.

module _ {X : Type 0} (key : X → ℕ) (start : ℕ) (change : X → X) where
  -- an element of the changed list is the changed one, or another one as it was
  pub keyed_is : (xs : List X) (y : X) → IsIn y (map (λ x. if key x == start then change x else x) xs) → (was : X) × IsIn was xs × (((key was ≡ start) × (y ≡ change was)) ⊎ ((key was ≢ start) × (y ≡ was)))
  keyed_is xs y there = grind (arith, mapped_at, there, nat_tests)

  -- and each element of the list is there, changed or not
  pub keyed_in : (xs : List X) (x : X) → IsIn x xs → key x ≡ start → IsIn (change x) (map (λ x. if key x == start then change x else x) xs)
  keyed_in xs x there e = grind (arith, there, slice_get-map, nat_tests)

  pub unkeyed_in : (xs : List X) (x : X) → IsIn x xs → key x ≢ start → IsIn x (map (λ x. if key x == start then change x else x) xs)
  unkeyed_in xs x there n = grind (arith, there, slice_get-map, nat_tests)

-- Sections that change no chunk but for its objects, and leave the areas and pages of chunks.

pub same_row : (h : Chunk) → IsSameRow h h
same_row h = record { number = refl; base = refl; long = refl; populated = λ page. refl }

pub row_back : (h h' : Chunk) → IsSameRow h h' → IsSameRow h' h
row_back h h' r = record { number = sym r.number; base = sym r.base; long = sym r.long; populated = λ page. sym (r.populated page) }

pub row_then : (h h' h'' : Chunk) → IsSameRow h h' → IsSameRow h' h'' → IsSameRow h h''
row_then h h' h'' r q = record { number = q.number ∙ r.number; base = q.base ∙ r.base; long = q.long ∙ r.long; populated = λ page. q.populated page ∙ r.populated page }

-- numbers are below the next one, and two chunks with one number are alike
pub record AreNumbered (m : PlainMap) : Type 0 where
  pub low : (h : Chunk) → IsIn h m.chunks → h.number < m.next_chunk
  pub same : (h h' : Chunk) → IsIn h m.chunks → IsIn h' m.chunks → h.number ≡ h'.number → IsSameRow h h'

pub rows_numbered : (m m' : PlainMap) → AreSameRows m m' → AreNumbered m → AreNumbered m'
rows_numbered m m' rows is = record {
  low = λ h there. (let was = rows.back h there in let l = is.low was.0 was.1 in let e = was.2.number in let f = rows.next in omega arith);
  same = λ h h' there there' e. (let was = rows.back h there in let was' = rows.back h' there' in
      row_then h was.0 h' (row_back was.0 h was.2) (row_then was.0 was'.0 h' (is.same was.0 was'.0 was.1 was'.1 (sym was.2.number ∙ e ∙ was'.2.number)) was'.2));
}

-- chunks of one number are changed in their objects only
pub rows_changed : (m m' : PlainMap) (number : ℕ) (change : Chunk → Chunk) → m'.chunks ≡ change_chunk number change m.chunks → m'.next_chunk ≡ m.next_chunk
    → ((h : Chunk) → IsIn h m.chunks → h.number ≡ number → IsSameRow h (change h)) → AreSameRows m m'
rows_changed m m' number change e next row = record {
  back = λ h there. (let was = keyed_is (λ (x : Chunk). x.number) number change m.chunks h (subst (IsIn h) e there) in (grind arith));
  forth = λ h there. elim (same_or h.number number) [
    | inl own ↦ (change h, subst (IsIn (change h)) (sym e) (keyed_in (λ (x : Chunk). x.number) number change m.chunks h there own), row h there own)
    | inr other ↦ (h, subst (IsIn h) (sym e) (unkeyed_in (λ (x : Chunk). x.number) number change m.chunks h there other), same_row h)
  ];
  next = next;
}

pub rows_kept : (m m' : PlainMap) → m'.chunks ≡ m.chunks → m'.next_chunk ≡ m.next_chunk → AreSameRows m m'
rows_kept m m' e next = grind (arith, there, same_row, nat_tests)

-- sections that may change a chunk's pages or areas, or which chunks there are
abbrev pub is_chunky : Section → Bool
is_chunky (MapPages s) = true
is_chunky (Populate at missing) = true
is_chunky (Fill base page) = true
is_chunky (Unmap s) = true
is_chunky (Depopulate base pages) = true
is_chunky (Remove start serial area) = true
is_chunky (Unlink starts) = true
is_chunky (AddChunk chunk base at align missing) = true
is_chunky (SettleObject at serial) = true
is_chunky (Spare chunk base populated) = true
is_chunky (Filled chunk page) = true
is_chunky _ = false

module _ (c : Setup) (m : PlainMap) (k : ℕ) where
  pub plain_rows : (s : Section) → is_chunky s ≡ false → AreSameRows m (effect_as c m k s)
  plain_rows (PlaceObject at align missing) h = rows_changed m (effect_as c m k (PlaceObject at align missing)) at.chunk (with_object k at) refl refl (λ x there e. record { number = refl; base = refl; long = refl; populated = λ page. refl })
  plain_rows (PlaceAtomic at align) h = rows_changed m (effect_as c m k (PlaceAtomic at align)) at.chunk (with_object k at) refl refl (λ x there e. record { number = refl; base = refl; long = refl; populated = λ page. refl })
  plain_rows (Unplace at) h = rows_changed m (effect_as c m k (Unplace at)) at.chunk (without_object at) refl refl (λ x there e. record { number = refl; base = refl; long = refl; populated = λ page. refl })
  plain_rows (FreeObject at serial) h = rows_changed m (effect_as c m k (FreeObject at serial)) at.chunk (without_object at) refl refl (λ x there e. record { number = refl; base = refl; long = refl; populated = λ page. refl })
  plain_rows (AddChunk chunk base at align missing) h = cc
  plain_rows (SettleObject at serial) h = cc
  plain_rows (Spare chunk base populated) h = cc
  plain_rows (Filled chunk page) h = cc
  plain_rows s h = rows_kept m (effect_as c m k s) refl refl

  same_stays : (m' : PlainMap) (number : ℕ) → m'.areas ≡ m.areas → m'.frames ≡ m.frames → ((page : ℕ) → slice_get m.stale page ≡ Some false → slice_get m'.stale page ≡ Some false) → NumberStays m m' number
  same_stays m' number areas frames clean = record { areas = λ a group there e. subst (IsIn a) (sym areas) there; still = λ page is e. record { frame = ap (λ l. slice_get l page) frames; clean = clean page } }

  pub plain_stays : (s : Section) (number : ℕ) → is_chunky s ≡ false → NumberStays m (effect_as c m k s) number
  plain_stays s number h = grind (arith, there, with_keeps, same_stays, painted_still, nat_tests)

-- Where an object is placed: its chunk, its pages, and those of them that lack frames.

-- an object as a choice of a chunk places it
pub record IsPlacement (c : Setup) (fit : Chunk → Option ℕ) (bytes : ℕ) (chunks : List Chunk) (at : ObjectAt) (missing : List ℕ) : Type 0 where
  pub chunk : Chunk
  pub there : IsIn chunk chunks
  pub fits : fit chunk ≡ Some at.off
  pub numbered : at.chunk ≡ chunk.number
  pub based : at.base ≡ chunk.base
  pub sized : at.bytes ≡ bytes
  pub lacks : missing ≡ missing_pages at chunk

placement_by : (c : Setup) (fit : Chunk → Option ℕ) (bytes : ℕ) (chunks : List Chunk) (o : Option Chunk) (at : ObjectAt) (missing : List ℕ) → ((h : Chunk) → o ≡ Some h → IsIn h chunks)
    → option_and_then (placed_at fit bytes) o ≡ Some (at, missing) → IsPlacement c fit bytes chunks at missing
placement_by c fit bytes chunks o at missing from e = grind arith

pub placement_is : (c : Setup) (fit : Chunk → Option ℕ) (bytes : ℕ) (chunks : List Chunk) (at : ObjectAt) (missing : List ℕ) → placement c fit bytes chunks ≡ Some (at, missing) → IsPlacement c fit bytes chunks at missing
placement_is c fit bytes chunks at missing e = placement_by c fit bytes chunks (chosen c fit chunks) at missing
    (λ h f. (let is = least_in (slot c) (filter (λ h. is_some (fit h)) chunks) h f in (filter_has (λ (h : Chunk). is_some (fit h)) chunks is.place h is.at).there)) e

-- The pages of an object that fits.

pub record IsFitting (bits : List Bool) (bytes off : ℕ) : Type 0 where
  pub bit : ℕ
  pub at : off ≡ 4 * bit
  pub free : begins_free (bytes / 4) (drop bit bits) ≡ true

fitting_by : (bytes align off : ℕ) (bits : List Bool) (o : Option ℕ) → lowest bits (bytes / 4) (align / 4) ≡ o → option_map (λ bit. 4 * bit) o ≡ Some off → IsFitting bits bytes off
fitting_by bytes align off bits None e f = cc
fitting_by bytes align off bits (Some bit) e f = record { bit = bit; at = (let g : 4 * bit ≡ off = cc in sym g); free = (lowest_fit bits (bytes / 4) (align / 4) bit e).1 }

pub fitting : (bytes align off : ℕ) (bits : List Bool) → offset_fit bytes align bits ≡ Some off → IsFitting bits bytes off
fitting bytes align off bits e = fitting_by bytes align off bits (lowest bits (bytes / 4) (align / 4)) refl e

-- a free bit of a list of bits
pub fitting_bit : (bits : List Bool) (bytes off i : ℕ) → (is : IsFitting bits bytes off) → i < bytes / 4 → slice_get bits (is.bit + i) ≡ Some false
fitting_bit bits bytes off i is low = sym (slice_get-drop is.bit bits i) ∙ begins_free-at (bytes / 4) (drop is.bit bits) i is.free low

pub object_low : (c : Setup) (bits : List Bool) (at : ObjectAt) (bytes : ℕ) → length bits ≡ unit_bits c → IsObjectSize bytes → at.bytes ≡ bytes → IsFitting bits bytes at.off → (page : ℕ) → is_among (pages_of_object at) page ≡ true
    → (page < c.unit_pages) × (at.off / 4096 ≤ page) × (page ≤ (at.off + at.bytes - 1) / 4096)
object_low c bits at bytes long size same is page h =
    let row = in_row (suc ((at.off + at.bytes - 1) / 4096) - at.off / 4096) (at.off / 4096) page h in
    let last = slice_get_within bits (is.bit + size.1) false (fitting_bit bits bytes at.off size.1 is (omega arith)) in
    grind arith

-- Which pages of an object lack frames.

pub populated_at : (h : Chunk) (page : ℕ) → is_populated h page ≡ true → slice_get h.populated page ≡ Some true
populated_at h page e = let value = unwrap_or-slice_get h.populated page false in grind arith

module _ (c : Setup) (fit : Chunk → Option ℕ) (bytes : ℕ) (chunks : List Chunk) (m : PlainMap) (at : ObjectAt) (missing : List ℕ) (is : IsPlacement c fit bytes chunks at missing) where
  missing_within : (page : ℕ) → is_among missing page ≡ true → is_among (pages_of_object at) page ≡ true
  missing_within page h = grind (arith, among_in, in_among, filter_has, there, nat_tests)

  either_by : (page : ℕ) → is_among (pages_of_object at) page ≡ true → (t : Bool) → is_populated is.chunk page ≡ t → (is_among missing page ≡ true) ⊎ (slice_get is.chunk.populated page ≡ Some true)
  either_by page h t e = grind (arith, populated_at, among_in, in_among, filter_in)

  -- the placed object in a map that has its chunk
  pub placed_lacking : length is.chunk.populated ≡ c.unit_pages → (of : IsChunkOf m at.chunk at.base) → IsSameRow is.chunk of.chunk → ((page : ℕ) → is_among (pages_of_object at) page ≡ true → page < c.unit_pages) → IsLacking c m at missing
  placed_lacking long of row low = record {
    here = of;
    low = low;
    either = λ page h. elim (either_by page h _ refl) [ inl lacks ↦ inl lacks | inr has ↦ inr (row.populated page ∙ has) ];
    within = missing_within;
    lacks = λ page h. row.populated page ∙ missing_open page h (low page (missing_within page h));
  }
    where
      missing_open : (page : ℕ) → is_among missing page ≡ true → page < c.unit_pages → slice_get is.chunk.populated page ≡ Some false
      missing_open page h under =
          let place = among_in page (missing_pages at is.chunk) (ap (λ l. is_among l page) (sym is.lacks) ∙ h) in
          hole_is is.chunk.populated page (omega (arith, long)) (filter_has (λ page. not (is_populated is.chunk page)) (pages_of_object at) place.place page place.at).passes
