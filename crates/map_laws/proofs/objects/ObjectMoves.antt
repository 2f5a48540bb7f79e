-- Each section at its place, as to the objects of chunks.
-- the lives that a section ends or changes
use Rattle.vm_model.proofs.Tabulated.{length-tabulated}
use Rattle.std.proofs.Common.{Bool, List, Some, [], ap, arith, false, find, flat_map, inl, inr, is_some, length, map, refl, slice_get, subst, sym, true, ℕ, ◌&&◌, ◌++◌, ◌+◌, ◌==◌, ◌∙◌, ◌∷◌, ◌≡◌, ◌⊎◌}
use Rattle.std.proofs.lemmas.Option.{slice_get_within}
use Rattle.vm_model.specs.Areas.{group_areas}
use Rattle.vm_model.specs.Chunks.{ObjectAt, atomic_bits, atomic_fit, bit_list, chunks_numbered, is_live_object, new_chunk, object_bits, pages_of_object, plain_fit, with_object}
use Rattle.vm_model.specs.Effects.{effect_as}
use Rattle.vm_model.specs.Events.{AddChunk, Depopulate, Enough, Fill, Filled, FreeObject, NextPage, NoAtomic, NoFrames, NoPlace, NoSpare, ObjectNotLive, PlaceAtomic, PlaceObject, Populate, Section, Settle, SettleObject, Spare, Unplace, Zero}
use Rattle.vm_model.specs.Legal.{IsLegalAs}
use Rattle.vm_model.specs.LegalHistory.{Meets}
use Rattle.vm_model.specs.Next.{Go, Next, next}
use Rattle.vm_model.specs.Places.{AddingChunk, Ask, AskAddChunk, AskAtomic, AskFilled, AskFree, AskPlace, AskSettleObject, AskSpare, AskUnplace, Choosing, ChoosingAtomic, Depopulating, Filling, FreeingObject, NextFill, NotingFilled, Place, Populating, SettlingAtomic, SettlingGroups, SettlingObject, Sparing, Unplacing, Zeroing, ask}
use Rattle.vm_model.specs.PlainMap.{Chunk, InHand, Life, Lives, Object, PlainMap, lives_as}
use Rattle.vm_model.specs.Setup.{Setup, pages_in_units, unit_bits}
use Rattle.vm_model.specs.Space.{covers, is_among, times}
use Rattle.vm_model.specs.Told.{placed}
use Rattle.map_laws.proofs.AskRows.{ask_row}
use Rattle.map_laws.proofs.PlaceRows.{place_row}
use Rattle.map_laws.proofs.chunks.ChunkRows.{keyed_in, fitting, placement_is, AreNumbered}
use Rattle.map_laws.proofs.TestsAndFilters.{IsIn, filter_has, or_none, covers_append, covers_none}
use Rattle.map_laws.proofs.chunks.ChunkAdded.{row_test}
use Rattle.map_laws.proofs.chunks.ChunkFacts.{IsChunkAt, IsPlacedAt}
use Rattle.map_laws.proofs.chunks.ChunkDispatch.{IsUnchunked}
use Rattle.map_laws.proofs.SearchEnds.{is_zero}
use Rattle.map_laws.proofs.KeptThroughSteps.{there}
use Rattle.map_laws.proofs.objects.ObjectChanges.{grown_fine, grown_keeps, lived_fine, lived_keeps, paged_fine, paged_keeps, placed_fine, placed_keeps, placed_object, removed_fine, removed_keeps, same_fine, spared_fine, spared_keeps}
use Rattle.map_laws.proofs.objects.ObjectFacts.{AreChunksFine, IsBeingPlaced, IsObject, IsObjectAt, live_life, next_placed, object_only, same_chunk}
use Rattle.map_laws.proofs.ProperPlaces.{IsObjectSize, IsProper, OnNext}

abbrev pub Kills : ℕ → Section → Life → Type 0
Kills k (SettleObject at serial) life = life ≡ InHand k
Kills k (Unplace at) life = life ≡ InHand k
Kills k (FreeObject at serial) life = life ≡ Lives serial
Kills k _ life = ⊥

-- what a section does to objects, where its caller goes on to the given next and others are placing objects
pub record IsObjectMoved (c : Setup) (m : PlainMap) (k : ℕ) (placing : ℕ → ℕ → Type 0) (s : Section) (n : Next) : Type 0 where
  pub fine : AreChunksFine c (λ number off. placing number off ⊎ next_placed n number off) (effect_as c m k s).chunks
  pub own : OnNext (IsObjectAt (effect_as c m k s) k) n
  pub keeps : (at : ObjectAt) (life : Life) → IsObject m.chunks at life → (Kills k s life → ⊥) → IsObject (effect_as c m k s).chunks at life

-- places of which nothing is said as to objects
pub unhanded_at : (m : PlainMap) (k : ℕ) (p : Place) → IsUnchunked p → IsObjectAt m k p
unhanded_at m k p h = grind arith

pub unhanded_idle : (p : Place) → IsUnchunked p → (number off : ℕ) → IsBeingPlaced number off p → ⊥
unhanded_idle p h number off b = grind arith

unhanded_next : (m : PlainMap) (k : ℕ) (n : Next) → OnNext IsUnchunked n → OnNext (IsObjectAt m k) n
unhanded_next m k n h = grind (arith, unhanded_at)

-- sections that change the chunks
abbrev pub is_objecty : Section → Bool
is_objecty (PlaceObject at align missing) = true
is_objecty (AddChunk chunk base at align missing) = true
is_objecty (PlaceAtomic at align) = true
is_objecty (SettleObject at serial) = true
is_objecty (Unplace at) = true
is_objecty (FreeObject at serial) = true
is_objecty (Spare chunk base populated) = true
is_objecty (Filled chunk page) = true
is_objecty _ = false

pub chunks_same : (c : Setup) (m : PlainMap) (k : ℕ) (s : Section) → is_objecty s ≡ false → (effect_as c m k s).chunks ≡ m.chunks
chunks_same c m k s h = grind arith

-- bits that a search finds free are no object's
plain_free : (c : Setup) (h : Chunk) (bit : ℕ) → slice_get (bit_list c h) bit ≡ Some false → times bit (map object_bits h.objects) ≡ 0
plain_free c h bit e = covers_none bit (map object_bits h.objects) (ap (covers (map object_bits h.objects)) (let f : bit ≡ 0 + bit = omega arith in f) ∙ row_test (covers (map object_bits h.objects)) (unit_bits c) 0 bit false e)

atomic_free : (c : Setup) (h : Chunk) (bit : ℕ) → slice_get (atomic_bits c h) bit ≡ Some false → times bit (map object_bits h.objects) ≡ 0
atomic_free c h bit e = grind (arith, row_test, covers_none, or_none, covers_append)

module _ (c : Setup) (m : PlainMap) (k : ℕ) (numbered : AreNumbered m) (long : (h : Chunk) → IsIn h m.chunks → length h.populated ≡ c.unit_pages) (placing : ℕ → ℕ → Type 0) where
  module _ (p : Place) (all : AreChunksFine c (λ number off. placing number off ⊎ IsBeingPlaced number off p) m.chunks) where
    as_o : (s t : Section) → s ≡ t → IsLegalAs c m k s → (IsLegalAs c m k t → IsObjectMoved c m k placing t (next c p t)) → IsObjectMoved c m k placing s (next c p s)
    as_o s t e legal f = subst (λ (x : Section). IsObjectMoved c m k placing x (next c p x)) (sym e) (f (subst (IsLegalAs c m k) e legal))

    -- the chunks stay
    same_o : (s : Section) (n : Next) → (effect_as c m k s).chunks ≡ m.chunks → ((number off : ℕ) → IsBeingPlaced number off p → next_placed n number off) → OnNext (IsObjectAt m k) n → IsObjectMoved c m k placing s n
    same_o s n e more own = grind (arith, same_fine)

    idle_o : (s : Section) (n : Next) → (effect_as c m k s).chunks ≡ m.chunks → IsUnchunked p → OnNext IsUnchunked n → IsObjectMoved c m k placing s n
    idle_o s n e un next_un = same_o s n e (λ number off mine. absurd (unhanded_idle p un number off mine)) (unhanded_next m k n next_un)

    plain_o : (s : Section) → is_objecty s ≡ false → OnNext IsUnchunked (next c p s) → ((number off : ℕ) → IsBeingPlaced number off p → ⊥) → IsObjectMoved c m k placing s (next c p s)
    plain_o s same leads idle = same_o s (next c p s) (chunks_same c m k s same) (λ number off mine. absurd (idle number off mine)) (unhanded_next m k (next c p s) leads)

    -- who isn't placing an object
    others_only : ((number off : ℕ) → IsBeingPlaced number off p → ⊥) → (n : Next) (number off : ℕ) → placing number off ⊎ IsBeingPlaced number off p → placing number off ⊎ next_placed n number off
    others_only idle n number off b = elim b [ inl other ↦ inl other | inr mine ↦ absurd (idle number off mine) ]

  choose_moved : (bytes align : ℕ) (all : AreChunksFine c (λ number off. placing number off ⊎ IsBeingPlaced number off (Choosing bytes align)) m.chunks) (at : ObjectAt) (missing : List ℕ) → IsObjectSize at.bytes → IsLegalAs c m k (PlaceObject at align missing)
      → IsObjectMoved c m k placing (PlaceObject at align missing) (Go (Populating at missing))
  choose_moved bytes align all at missing size legal =
      let is = placement_is c (plain_fit c at.bytes align) at.bytes m.chunks at missing legal in record {
        fine = placed_fine c _ _ k at m.chunks all is.chunk is.there (sym is.numbered) (sym is.based) size (bit_list c is.chunk) (fitting at.bytes align at.off (bit_list c is.chunk) is.fits) (length-tabulated _ (unit_bits c) 0) (plain_free c is.chunk)
            (others_only (Choosing bytes align) all (λ number off mine. mine) (Go (Populating at missing))) (inr (inr (refl, refl)));
        own = placed_object k at m.chunks is.chunk is.there (sym is.numbered) (sym is.based);
        keeps = λ other life there never. placed_keeps k at m.chunks other life there;
      }

  new_moved : (base chunk bytes align : ℕ) (all : AreChunksFine c (λ number off. placing number off ⊎ IsBeingPlaced number off (AddingChunk base chunk bytes align)) m.chunks) (at : ObjectAt) (missing : List ℕ) → IsObjectSize at.bytes → IsLegalAs c m k (AddChunk chunk base at align missing)
      → IsObjectMoved c m k placing (AddChunk chunk base at align missing) (Go (Populating at missing))
  new_moved base chunk bytes align all at missing size legal =
      let grown = grown_fine c _ placing m.chunks all (λ number off b. elim b [ inl other ↦ other | inr mine ↦ absurd mine ]) chunk base (λ h there. (let l = numbered.low h there in let e = legal.1 in omega arith)) in
      let is = placement_is c (plain_fit c at.bytes align) at.bytes (m.chunks ++ new_chunk c chunk base ∷ []) at missing legal.2 in record {
        fine = placed_fine c placing _ k at (m.chunks ++ new_chunk c chunk base ∷ []) grown is.chunk is.there (sym is.numbered) (sym is.based) size (bit_list c is.chunk) (fitting at.bytes align at.off (bit_list c is.chunk) is.fits) (length-tabulated _ (unit_bits c) 0) (plain_free c is.chunk)
            (λ number off b. inl b) (inr (inr (refl, refl)));
        own = placed_object k at (m.chunks ++ new_chunk c chunk base ∷ []) is.chunk is.there (sym is.numbered) (sym is.based);
        keeps = λ other life there never. placed_keeps k at (m.chunks ++ new_chunk c chunk base ∷ []) other life (grown_keeps c m.chunks chunk base other life there);
      }

  atomic_moved : (bytes align : ℕ) (all : AreChunksFine c (λ number off. placing number off ⊎ IsBeingPlaced number off (ChoosingAtomic bytes align)) m.chunks) (at : ObjectAt) → IsObjectSize at.bytes → IsLegalAs c m k (PlaceAtomic at align) → IsPlacedAt (effect_as c m k (PlaceAtomic at align)) at
      → IsObjectMoved c m k placing (PlaceAtomic at align) (Go (Zeroing at))
  atomic_moved bytes align all at size legal placed =
      let is = placement_is c (atomic_fit c at.bytes align) at.bytes m.chunks at [] legal in
      let done : (page : ℕ) → is_among (pages_of_object at) page ≡ true → slice_get is.chunk.populated page ≡ Some true =
      (λ page f. placed.populated (with_object k at is.chunk) (keyed_in (λ (x : Chunk). x.number) at.chunk (with_object k at) m.chunks is.chunk is.there (sym is.numbered)) (sym is.numbered) page f) in record {
        fine = placed_fine c _ _ k at m.chunks all is.chunk is.there (sym is.numbered) (sym is.based) size (atomic_bits c is.chunk) (fitting at.bytes align at.off (atomic_bits c is.chunk) is.fits) (length-tabulated _ (unit_bits c) 0) (atomic_free c is.chunk)
            (others_only (ChoosingAtomic bytes align) all (λ number off mine. mine) (Go (Zeroing at))) (inl done);
        own = placed_object k at m.chunks is.chunk is.there (sym is.numbered) (sym is.based);
        keeps = λ other life there never. placed_keeps k at m.chunks other life there;
      }

  lived_moved : (p : Place) (all : AreChunksFine c (λ number off. placing number off ⊎ IsBeingPlaced number off p) m.chunks) (at : ObjectAt) (serial : ℕ) (n : Next) → IsObject m.chunks at (InHand k) → ((number off : ℕ) → IsBeingPlaced number off p → (at.chunk ≡ number) × (at.off ≡ off))
      → OnNext (IsObjectAt (effect_as c m k (SettleObject at serial)) k) n → IsObjectMoved c m k placing (SettleObject at serial) n
  lived_moved p all at serial n hand mine own = record {
    fine = lived_fine c _ _ k at serial m.chunks all hand long (λ number off b. elim b [ inl other ↦ inl (inl other) | inr placed ↦ inr (mine number off placed) ]);
    own = own;
    keeps = λ other life there never. lived_keeps c _ (λ number off. placing number off ⊎ next_placed n number off) k at serial m.chunks all hand other life never there;
  }

  unplaced_moved : (at : ObjectAt) (all : AreChunksFine c (λ number off. placing number off ⊎ IsBeingPlaced number off (Unplacing at)) m.chunks) (n : Next) → IsObject m.chunks at (InHand k)
      → OnNext (IsObjectAt (effect_as c m k (Unplace at)) k) n → IsObjectMoved c m k placing (Unplace at) n
  unplaced_moved at all n hand own = record {
    fine = removed_fine c _ _ at m.chunks all (λ number off b. elim b [ inl other ↦ inl (inl other) | inr placed ↦ inr placed ]);
    own = own;
    keeps = λ other life there never. removed_keeps at m.chunks other life (λ e f. never (let one = object_only c _ m.chunks all at (InHand k) hand there.chunk there.object there.there (there.numbered ∙ e) there.object_there (there.off ∙ f) in
        sym there.lives ∙ ap (λ (x : Object). x.life) one ∙ hand.lives)) there;
  }

  freed_moved : (at : ObjectAt) (serial : ℕ) (all : AreChunksFine c (λ number off. placing number off ⊎ IsBeingPlaced number off (FreeingObject at serial)) m.chunks) (n : Next) → IsLegalAs c m k (FreeObject at serial)
      → OnNext (IsObjectAt (effect_as c m k (FreeObject at serial)) k) n → IsObjectMoved c m k placing (FreeObject at serial) n
  freed_moved at serial all n legal own = record {
    fine = removed_fine c _ _ at m.chunks all (λ number off b. elim b [ inl other ↦ inl (inl other) | inr placed ↦ absurd placed ]);
    own = own;
    keeps = λ other life there never. removed_keeps at m.chunks other life (λ e f. never (live_life c _ m.chunks all other serial life there (same_test_at other e f ∙ legal))) there;
  }
    where
      same_test_at : (other : ObjectAt) → other.chunk ≡ at.chunk → other.off ≡ at.off → is_live_object other serial m.chunks ≡ is_live_object at serial m.chunks
      same_test_at other e f = grind arith

  spared_moved : (all : AreChunksFine c (λ number off. placing number off ⊎ IsBeingPlaced number off Sparing) m.chunks) (chunk base : ℕ) (populated : List ℕ) → IsLegalAs c m k (Spare chunk base populated) → IsObjectMoved c m k placing (Spare chunk base populated) (Go (Depopulating base populated))
  spared_moved all chunk base populated legal = record {
    fine = spared_fine c _ _ m.chunks all (others_only Sparing all (λ number off mine. mine) (Go (Depopulating base populated))) chunk;
    own = tt;
    keeps = λ other life there never. spared_keeps m.chunks chunk other life (λ e. empty other life there e) there;
  }
    where
      empty : (other : ObjectAt) (life : Life) → IsObject m.chunks other life → other.chunk ≡ chunk → ⊥
      empty other life there e =
          let was = filter_has (λ (h : Chunk). length h.objects == 0) m.chunks 1 legal.0 legal.1 in
          let one = same_chunk m.chunks there.chunk legal.0 all.once there.there was.there (there.numbered ∙ e ∙ legal.2) in
          let some = slice_get_within legal.0.objects there.object_there.place there.object (ap (λ (x : Chunk). slice_get x.objects there.object_there.place) (sym one) ∙ there.object_there.at) in
          let none = is_zero (length legal.0.objects) was.passes in omega arith

  pub object_by : (p : Place) (s : Section) → AreChunksFine c (λ number off. placing number off ⊎ IsBeingPlaced number off p) m.chunks → IsProper c p → IsObjectAt m k p → OnNext (IsChunkAt c (effect_as c m k s)) (next c p s) → Meets c (ask c p) s → IsLegalAs c m k s
      → IsObjectMoved c m k placing s (next c p s)
  object_by (Choosing bytes align) s all proper at chunked (inl w) legal = as_o (Choosing bytes align) all s (PlaceObject w.0 align w.1) w.3 legal (λ l. choose_moved bytes align all w.0 w.1 (subst IsObjectSize (sym w.2) proper) l)
  object_by (Choosing bytes align) s all proper at chunked (inr w) legal = as_o (Choosing bytes align) all s (NoPlace bytes align w.0) w.1 legal (λ l. idle_o (Choosing bytes align) all (NoPlace bytes align w.0) _ refl refl refl)
  object_by (AddingChunk base chunk bytes align) s all proper at chunked w legal = as_o (AddingChunk base chunk bytes align) all s (AddChunk chunk base w.0 align w.1) w.3 legal (λ l. new_moved base chunk bytes align all w.0 w.1 (subst IsObjectSize (sym w.2) proper) l)
  object_by (Populating object missing) s all proper at chunked (inl w) legal = as_o (Populating object missing) all s (Populate object missing) w legal (λ l. same_o (Populating object missing) all (Populate object missing) _ refl (λ number off mine. mine) at)
  object_by (Populating object missing) s all proper at chunked (inr w) legal = search as_o
  object_by (SettlingObject object) s all proper at chunked w legal = as_o (SettlingObject object) all s (SettleObject object w.0) w.1 legal (λ l. lived_moved (SettlingObject object) all object w.0 _ at (λ number off mine. mine) tt)
  object_by (Unplacing object) s all proper at chunked w legal = as_o (Unplacing object) all s (Unplace object) w legal (λ l. unplaced_moved object all _ at tt)
  object_by (ChoosingAtomic bytes align) s all proper at chunked (inl w) legal = as_o (ChoosingAtomic bytes align) all s (PlaceAtomic w.0 align) w.2 legal
      (λ l. atomic_moved bytes align all w.0 (subst IsObjectSize (sym w.1) proper) l (subst (λ (x : Section). OnNext (IsChunkAt c (effect_as c m k x)) (next c (ChoosingAtomic bytes align) x)) w.2 chunked))
  object_by (ChoosingAtomic bytes align) s all proper at chunked (inr w) legal = as_o (ChoosingAtomic bytes align) all s (NoAtomic bytes align) w legal (λ l. idle_o (ChoosingAtomic bytes align) all (NoAtomic bytes align) _ refl refl tt)
  object_by (Zeroing object) s all proper at chunked w legal = as_o (Zeroing object) all s (Zero object) w legal (λ l. same_o (Zeroing object) all (Zero object) _ refl (λ number off mine. mine) at)
  object_by (SettlingAtomic object) s all proper at chunked w legal = as_o (SettlingAtomic object) all s (SettleObject object w.0) w.1 legal (λ l. lived_moved (SettlingAtomic object) all object w.0 _ at (λ number off mine. absurd mine) tt)
  object_by (FreeingObject object serial) s all proper at chunked (inl w) legal = as_o (FreeingObject object serial) all s (FreeObject object serial) w legal (λ l. freed_moved object serial all _ l tt)
  object_by (FreeingObject object serial) s all proper at chunked (inr w) legal = as_o (FreeingObject object serial) all s (ObjectNotLive object serial) w legal (λ l. idle_o (FreeingObject object serial) all (ObjectNotLive object serial) _ refl refl tt)
  object_by (SettlingGroups base chunk bytes align) s all proper at chunked w legal = search as_o
  object_by Sparing s all proper at chunked (inl w) legal = as_o Sparing all s (Spare w.0 w.1 w.2) w.3 legal (λ l. spared_moved all w.0 w.1 w.2 l)
  object_by Sparing s all proper at chunked (inr w) legal = as_o Sparing all s NoSpare w legal (λ l. idle_o Sparing all NoSpare _ refl refl refl)
  object_by (Depopulating base populated) s all proper at chunked w legal = as_o (Depopulating base populated) all s (Depopulate base populated) w legal (λ l. same_o (Depopulating base populated) all (Depopulate base populated) _ refl (λ number off mine. mine) tt)
  object_by (NextFill filled) s all proper at chunked (inl w) legal = as_o (NextFill filled) all s (NextPage w.0 w.1 w.2) w.3 legal (λ l. same_o (NextFill filled) all (NextPage w.0 w.1 w.2) _ refl (λ number off mine. mine) tt)
  object_by (NextFill filled) s all proper at chunked (inr w) legal = as_o (NextFill filled) all s Enough w legal (λ l. idle_o (NextFill filled) all Enough _ refl refl refl)
  object_by (Filling chunk base page filled) s all proper at chunked (inl w) legal = as_o (Filling chunk base page filled) all s (Fill base page) w legal (λ l. same_o (Filling chunk base page filled) all (Fill base page) _ refl (λ number off mine. mine) tt)
  object_by (Filling chunk base page filled) s all proper at chunked (inr w) legal = search as_o
  object_by (NotingFilled chunk page filled) s all proper at chunked w legal = grind (arith, paged_fine, others_only, there, paged_keeps)
  object_by p s all proper at chunked w legal = plain_o p all s (grind (arith, ask_row)) (grind (arith, place_row)) (λ number off mine. mine)
