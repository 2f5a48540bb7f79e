-- Where a live object comes from: it was live, or its caller settled it.
use Rattle.std.proofs.Common.{◌≡◌, ◌≢◌, ℕ, ◌⊎◌, inl, inr, not, ◌==◌, List, [], ◌∷◌, ◌++◌, filter, refl, ap, sym, ◌∙◌, subst, arith}
use Rattle.vm_model.specs.Setup.{Setup}
use Rattle.vm_model.specs.PlainMap.{PlainMap, Chunk, Object, Life, Lives}
use Rattle.vm_model.specs.Chunks.{ObjectAt, new_chunk, change_chunk, with_object, without_object, with_live_object, with_page}
use Rattle.vm_model.specs.Events.{Section, PlaceObject, AddChunk, PlaceAtomic, SettleObject, Unplace, FreeObject, Spare, Filled}
use Rattle.vm_model.specs.Effects.{effect_as}
use Rattle.map_laws.proofs.KeptThroughSteps.{append_cases}
use Rattle.map_laws.proofs.TestsAndFilters.{IsIn, filter_has, put_in}
use Rattle.map_laws.proofs.chunks.ChunkRows.{keyed_is}
use Rattle.map_laws.proofs.objects.ObjectFacts.{IsObject, AreChunksFine, same_chunk, object_only}

-- an object of a chunk, by that chunk
pub record IsObjectOf (chunks : List Chunk) (h : Chunk) (at : ObjectAt) (life : Life) : Type 0 where
  pub there : IsIn h chunks
  pub numbered : h.number ≡ at.chunk
  pub based : h.base ≡ at.base
  pub object : Object
  pub object_there : IsIn object h.objects
  pub off : object.off ≡ at.off
  pub bytes : object.bytes ≡ at.bytes
  pub lives : object.life ≡ life

object_of : (chunks : List Chunk) (h : Chunk) (at : ObjectAt) (life : Life) → IsObjectOf chunks h at life → IsObject chunks at life
object_of chunks h at life is = grind arith

-- chunks of one number whose objects are others: each of the live ones was there
changed_before : (chunks : List Chunk) (number : ℕ) (change : Chunk → Chunk) (at : ObjectAt) (serial : ℕ) → ((h : Chunk) → (change h).number ≡ h.number) → ((h : Chunk) → (change h).base ≡ h.base)
    → ((h : Chunk) (o : Object) → IsIn o (change h).objects → o.life ≡ Lives serial → IsIn o h.objects) → IsObject (change_chunk number change chunks) at (Lives serial) → IsObject chunks at (Lives serial)
changed_before chunks number change at serial numbers bases back is =
    let was = keyed_is (λ (x : Chunk). x.number) number change chunks is.chunk is.there in
    grind arith

-- an object that is placed is in a caller's hand
placed_back : (k : ℕ) (own : ObjectAt) (serial : ℕ) (h : Chunk) (o : Object) → IsIn o (with_object k own h).objects → o.life ≡ Lives serial → IsIn o h.objects
placed_back k own serial h o there lives = grind (arith, put_in)

removed_back : (own : ObjectAt) (h : Chunk) (o : Object) → IsIn o (without_object own h).objects → IsIn o h.objects
removed_back own h o there = (filter_has (λ (o : Object). not (o.off == own.off)) h.objects there.place o there.at).there

-- a new chunk has no object
new_before : (c : Setup) (chunks : List Chunk) (number base : ℕ) (at : ObjectAt) (life : Life) → IsObject (chunks ++ new_chunk c number base ∷ []) at life → IsObject chunks at life
new_before c chunks number base at life is = grind (arith, append_cases, object_of)

spared_before : (chunks : List Chunk) (number : ℕ) (at : ObjectAt) (life : Life) → IsObject (filter (λ (h : Chunk). not (h.number == number)) chunks) at life → IsObject chunks at life
spared_before chunks number at life is = grind (arith, object_of, filter_has)

-- an object that was live, or that was settled just now
pub data CameFrom (chunks : List Chunk) (at : ObjectAt) (serial : ℕ) : Section → Type 0 where
  Was : (s : Section) → IsObject chunks at (Lives serial) → CameFrom chunks at serial s
  Settled : (own : ObjectAt) (life : Life) → IsObject chunks at life → at.chunk ≡ own.chunk → at.off ≡ own.off → CameFrom chunks at serial (SettleObject own serial)

settled_before : (chunks : List Chunk) (own at : ObjectAt) (given serial : ℕ) → IsObject (change_chunk own.chunk (with_live_object own (Lives given)) chunks) at (Lives serial) → CameFrom chunks at serial (SettleObject own given)
settled_before chunks own at given serial is =
    let was = keyed_is (λ (x : Chunk). x.number) own.chunk (with_live_object own (Lives given)) chunks is.chunk is.there in
    elim was.2 [
      | inr other ↦ Was (SettleObject own given) (object_of chunks was.0 at (Lives serial) (grind arith))
      | inl mine ↦ by_object was.0 was.1 mine.0 mine.1
          (keyed_is (λ (o : Object). o.off) own.off (λ (o : Object). record o { life = Lives given }) was.0.objects is.object (subst (λ (h : Chunk). IsIn is.object h.objects) mine.1 is.object_there))
    ]
  where
    by_object : (h : Chunk) → IsIn h chunks → h.number ≡ own.chunk → is.chunk ≡ with_live_object own (Lives given) h
        → ((o : Object) × IsIn o h.objects × (((o.off ≡ own.off) × (is.object ≡ record o { life = Lives given })) ⊎ ((o.off ≢ own.off) × (is.object ≡ o)))) → CameFrom chunks at serial (SettleObject own given)
    by_object h there e f (o, o_there, inl mine) =
        let same : given ≡ serial = (let l : o.life ≡ o.life = refl in let a : Lives given ≡ Lives serial = ap (λ (x : Object). x.life) (sym mine.1) ∙ is.lives in cc) in
        let was : IsObject chunks at o.life = object_of chunks h at o.life (grind arith) in
        subst (λ n. CameFrom chunks at serial (SettleObject own n)) (sym same)
        (Settled own o.life was (sym is.numbered ∙ ap (λ (x : Chunk). x.number) f ∙ e) (sym is.off ∙ ap (λ (x : Object). x.off) mine.1 ∙ mine.0))
    by_object h there e f (o, o_there, inr other) = Was (SettleObject own given) (object_of chunks h at (Lives serial) (grind arith))

pub came_from : (c : Setup) (m : PlainMap) (k : ℕ) (s : Section) (at : ObjectAt) (serial : ℕ) → IsObject (effect_as c m k s).chunks at (Lives serial) → CameFrom m.chunks at serial s
came_from c m k (PlaceObject own align missing) at serial is = Was (PlaceObject own align missing) (changed_before m.chunks own.chunk (with_object k own) at serial (λ h. refl) (λ h. refl) (placed_back k own serial) is)
came_from c m k (PlaceAtomic own align) at serial is = Was (PlaceAtomic own align) (changed_before m.chunks own.chunk (with_object k own) at serial (λ h. refl) (λ h. refl) (placed_back k own serial) is)
came_from c m k (AddChunk chunk base own align missing) at serial is = Was (AddChunk chunk base own align missing)
    (new_before c m.chunks chunk base at (Lives serial) (changed_before (m.chunks ++ new_chunk c chunk base ∷ []) own.chunk (with_object k own) at serial (λ h. refl) (λ h. refl) (placed_back k own serial) is))
came_from c m k (SettleObject own given) at serial is = settled_before m.chunks own at given serial is
came_from c m k (Unplace own) at serial is = Was (Unplace own) (changed_before m.chunks own.chunk (without_object own) at serial (λ h. refl) (λ h. refl) (λ h o there lives. removed_back own h o there) is)
came_from c m k (FreeObject own given) at serial is = Was (FreeObject own given) (changed_before m.chunks own.chunk (without_object own) at serial (λ h. refl) (λ h. refl) (λ h o there lives. removed_back own h o there) is)
came_from c m k (Spare chunk base populated) at serial is = Was (Spare chunk base populated) (spared_before m.chunks chunk at (Lives serial) is)
came_from c m k (Filled chunk page) at serial is = Was (Filled chunk page) (changed_before m.chunks chunk (with_page page) at serial (λ h. refl) (λ h. refl) (λ h o there lives. there) is)
came_from c m k s at serial is = Was s is

-- objects of one chunk at one offset are one, with one base and so many bytes
pub record IsSameObject (at own : ObjectAt) (life life' : Life) : Type 0 where
  pub base : at.base ≡ own.base
  pub bytes : at.bytes ≡ own.bytes
  pub lives : life ≡ life'

pub one_object : (c : Setup) (placing : ℕ → ℕ → Type 0) (chunks : List Chunk) (fine : AreChunksFine c placing chunks) (at own : ObjectAt) (life life' : Life) → IsObject chunks at life → IsObject chunks own life' → at.chunk ≡ own.chunk → at.off ≡ own.off
    → IsSameObject at own life life'
one_object c placing chunks fine at own life life' is is' e f =
    let chunk = same_chunk chunks is.chunk is'.chunk fine.once is.there is'.there (is.numbered ∙ e ∙ sym is'.numbered) in
    let one = object_only c placing chunks fine own life' is' is.chunk is.object is.there (is.numbered ∙ e) is.object_there (is.off ∙ f) in
    search
