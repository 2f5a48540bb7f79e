-- What placing, settling and removing an object do to the objects of all chunks, and so do adding, giving up and filling a chunk.
use Rattle.map_laws.proofs.blocks.BlockWorlds.{sum_some}
use Rattle.std.proofs.Common.{Bool, List, Some, [], ap, arith, false, filter, if◌then◌else◌, inl, inr, length, map, not, option_map, refl, slice_get, subst, suc, sym, true, zero, ℕ, ◌++◌, ◌+◌, ◌-◌, ◌/◌, ◌<◌, ◌==◌, ◌∙◌, ◌∷◌, ◌≡◌, ◌≢◌, ◌≤◌, ◌⊎◌}
use Rattle.std.proofs.lemmas.List.Sums.{sum_by-append, sum_by-cons}
use Rattle.std.proofs.lemmas.Option.{slice_get-map, slice_get_within}
use Rattle.vm_model.specs.Carried.{count_of}
use Rattle.vm_model.specs.Chunks.{ObjectAt, change_chunk, new_chunk, object_bits, pages_of_object, with_live_object, with_object, with_page, without_object}
use Rattle.vm_model.specs.Frames.{pages_of_bytes}
use Rattle.vm_model.specs.Given.{placing}
use Rattle.vm_model.specs.PlainMap.{Chunk, InHand, Life, Lives, Object}
use Rattle.vm_model.specs.Setup.{Setup, unit_bits}
use Rattle.vm_model.specs.Space.{holds, is_among, one_if, times}
use Rattle.vm_model.specs.Told.{placed}
use Rattle.map_laws.proofs.blocks.BlockFacts.{count_cons, same_test, to_same}
use Rattle.map_laws.proofs.chunks.ChunkRows.{keyed_in, keyed_is, unkeyed_in, IsFitting, fitting_bit}
use Rattle.map_laws.proofs.TestsAndFilters.{IsIn, filter_has, filter_in, in_more, sum_by-filter-le, sum_has, put_in, put_keeps, put_new, put_sum, holds_to, by_test, not_true, one_of_two, one_if_le}
use Rattle.map_laws.proofs.KeptThroughSteps.{append_cases, append_first, same_or, there, there as there_at}
use Rattle.map_laws.proofs.objects.ObjectFacts.{AreChunksFine, AreObjectsFine, IsObject, IsShaped, chunk_numbers, count_sum, object_only, same_chunk, times_map}
use Rattle.map_laws.proofs.ProperPlaces.{IsObjectSize}
use Rattle.map_laws.proofs.chunks.ChunkFalls.{mapped_at}
use Rattle.map_laws.proofs.areas.AreaFacts.{in_row, painted, painted_still}

pub numbers_changed : (number : ℕ) (change : Chunk → Chunk) (chunks : List Chunk) → ((h : Chunk) → (change h).number ≡ h.number) → chunk_numbers (change_chunk number change chunks) ≡ chunk_numbers chunks
numbers_changed number change [] same = refl
numbers_changed number change (h ∷ chunks) same = grind (arith, numbers_changed number change chunks same, chunk_numbers)

pub more_fine : (c : Setup) (placing placing' : ℕ → ℕ → Type 0) (h : Chunk) → ((off : ℕ) → placing h.number off → placing' h.number off) → AreObjectsFine c placing h → AreObjectsFine c placing' h
more_fine c placing placing' h more fine = record { shaped = fine.shaped; bits = fine.bits; settled = λ o there. elim (fine.settled o there) [ inl done ↦ inl done | inr placed ↦ inr (more o.off placed) ] }

pub same_fine : (c : Setup) (placing placing' : ℕ → ℕ → Type 0) (chunks chunks' : List Chunk) → chunks' ≡ chunks → ((number off : ℕ) → placing number off → placing' number off) → AreChunksFine c placing chunks → AreChunksFine c placing' chunks'
same_fine c placing placing' chunks chunks' e more fine = subst (AreChunksFine c placing') (sym e) (record { once = fine.once; each = λ h there. more_fine c placing placing' h (more h.number) (fine.each h there) })

pub shaped_as : (c : Setup) (o o' : Object) → o'.off ≡ o.off → o'.bytes ≡ o.bytes → IsShaped c o → IsShaped c o'
shaped_as c o o' off bytes is = record { bit = is.bit; more = is.more; at = off ∙ is.at; whole = bytes ∙ is.whole; within = is.within }

-- a page of a shaped object is a page of its unit
pub shaped_low : (c : Setup) (o : Object) → IsShaped c o → (page : ℕ) → is_among (pages_of_bytes o.off o.bytes) page ≡ true → page < c.unit_pages
shaped_low c o is page h = let row = in_row (suc ((o.off + o.bytes - 1) / 4096) - o.off / 4096) (o.off / 4096) page h in let a = is.at in let w = is.whole in let l = is.within in omega arith

-- an object stays in another list of chunks, where a chunk with its number and its base has it
object_in : (chunks chunks' : List Chunk) (at : ObjectAt) (life : Life) (is : IsObject chunks at life) (h : Chunk) → IsIn h chunks' → h.number ≡ is.chunk.number → h.base ≡ is.chunk.base → IsIn is.object h.objects → IsObject chunks' at life
object_in chunks chunks' at life is h there number base object_there = grind arith

module _ (number : ℕ) (change : Chunk → Chunk) (numbers : (h : Chunk) → (change h).number ≡ h.number) where
  pub changed_fine : (c : Setup) (placing placing' : ℕ → ℕ → Type 0) (chunks : List Chunk) → AreChunksFine c placing chunks → ((h : Chunk) → IsIn h chunks → h.number ≡ number → AreObjectsFine c placing' (change h))
      → ((h : Chunk) → IsIn h chunks → h.number ≢ number → AreObjectsFine c placing' h) → AreChunksFine c placing' (change_chunk number change chunks)
  changed_fine c placing placing' chunks fine own other = record {
    once = λ n. (let few = fine.once n in omega (arith, ap (count_of n) (numbers_changed number change chunks numbers)));
    each = λ h there. (let was = keyed_is (λ (x : Chunk). x.number) number change chunks h there in elim was.2 [
      | inl e ↦ subst (AreObjectsFine c placing') (sym e.1) (own was.0 was.1 e.0)
      | inr e ↦ subst (AreObjectsFine c placing') (sym e.1) (other was.0 was.1 e.0)
    ]);
  }

  pub changed_object : ((h : Chunk) → (change h).base ≡ h.base) → (chunks : List Chunk) (at : ObjectAt) (life : Life) → (is : IsObject chunks at life) → (at.chunk ≡ number → IsIn is.object (change is.chunk).objects) → IsObject (change_chunk number change chunks) at life
  changed_object bases chunks at life is still = elim (same_or is.chunk.number number) [
    | inl e ↦ object_in chunks (change_chunk number change chunks) at life is (change is.chunk) (keyed_in (λ (x : Chunk). x.number) number change chunks is.chunk is.there e) (numbers is.chunk) (bases is.chunk) (still (sym is.numbered ∙ e))
    | inr apart ↦ object_in chunks (change_chunk number change chunks) at life is is.chunk (unkeyed_in (λ (x : Chunk). x.number) number change chunks is.chunk is.there apart) refl refl is.object_there
  ]

-- An object is placed, where its bits are free.
module _ (c : Setup) (placing placing' : ℕ → ℕ → Type 0) (k : ℕ) (at : ObjectAt) (chunks : List Chunk) (fine : AreChunksFine c placing chunks) (h : Chunk) (there : IsIn h chunks) (numbered : h.number ≡ at.chunk) (based : h.base ≡ at.base) (size : IsObjectSize at.bytes)
    (bits : List Bool) (fits : IsFitting bits at.bytes at.off) (long : length bits ≡ unit_bits c) (free : (bit : ℕ) → slice_get bits bit ≡ Some false → times bit (map object_bits h.objects) ≡ 0) (more : (number off : ℕ) → placing number off → placing' number off)
    (settles : ((page : ℕ) → is_among (pages_of_object at) page ≡ true → slice_get h.populated page ≡ Some true) ⊎ placing' at.chunk at.off) where
  abbrev new_object : Object
  new_object = record { off = at.off; bytes = at.bytes; caller = k; life = InHand k }

  new_shaped : IsShaped c new_object
  new_shaped = let whole = size.2 in record {
    bit = fits.bit;
    more = size.1;
    at = fits.at;
    whole = whole;
    within = let last = slice_get_within bits (fits.bit + size.1) false (fitting_bit bits at.bytes at.off size.1 fits (omega arith)) in omega arith;
  }

  new_free : (bit : ℕ) → holds (object_bits new_object) bit ≡ true → times bit (map object_bits h.objects) ≡ 0
  new_free bit e =
      let r = holds_to (object_bits new_object) bit e in let a = fits.at in let whole = size.2 in
      let i : fits.bit + (bit - fits.bit) ≡ bit = omega arith in
      free bit (ap (slice_get bits) (sym i) ∙ fitting_bit bits at.bytes at.off (bit - fits.bit) fits (omega arith))

  new_bits : (bit : ℕ) → times bit (map object_bits (with_object k at h).objects) ≤ 1
  new_bits bit =
      let few = (fine.each h there).bits bit in
      let own : one_if (holds (object_bits new_object) bit) + times bit (map object_bits h.objects) ≤ 1 = by_test (holds (object_bits new_object) bit) (λ e. omega (arith, ap one_if e, new_free bit e)) (λ e. omega (arith, ap one_if e)) in
      let put = put_sum (λ (o : Object). one_if (holds (object_bits o) bit)) (λ (o : Object). o.off) new_object h.objects in
      omega (arith, times_map object_bits bit (with_object k at h).objects, times_map object_bits bit h.objects)

  own_fine : AreObjectsFine c placing' (with_object k at h)
  own_fine = record {
    shaped = λ o is. elim (put_in (λ (o : Object). o.off) new_object h.objects o is) [ inl new ↦ subst (IsShaped c) (sym new) new_shaped | inr old ↦ (fine.each h there).shaped o old ];
    bits = new_bits;
    settled = λ o is. elim (put_in (λ (o : Object). o.off) new_object h.objects o is) [
      | inl new ↦ subst (λ (x : Object). ((page : ℕ) → is_among (pages_of_bytes x.off x.bytes) page ≡ true → slice_get h.populated page ≡ Some true) ⊎ placing' h.number x.off) (sym new)
          (elim settles [ inl done ↦ inl done | inr placed ↦ inr (subst (λ n. placing' n at.off) (sym numbered) placed) ])
      | inr old ↦ elim ((fine.each h there).settled o old) [ inl done ↦ inl done | inr placed ↦ inr (more h.number o.off placed) ]
    ];
  }

  pub placed_fine : AreChunksFine c placing' (change_chunk at.chunk (with_object k at) chunks)
  placed_fine = changed_fine at.chunk (with_object k at) (λ x. refl) c placing placing' chunks fine
      (λ x is e. subst (λ (y : Chunk). AreObjectsFine c placing' (with_object k at y)) (same_chunk chunks h x fine.once there is (numbered ∙ sym e)) own_fine)
      (λ x is apart. more_fine c placing placing' x (more x.number) (fine.each x is))

pub placed_object : (k : ℕ) (at : ObjectAt) (chunks : List Chunk) (h : Chunk) → IsIn h chunks → h.number ≡ at.chunk → h.base ≡ at.base → IsObject (change_chunk at.chunk (with_object k at) chunks) at (InHand k)
placed_object k at chunks h there numbered based = record {
  chunk = with_object k at h;
  there = keyed_in (λ (x : Chunk). x.number) at.chunk (with_object k at) chunks h there numbered;
  numbered = numbered;
  based = based;
  object = record { off = at.off; bytes = at.bytes; caller = k; life = InHand k };
  object_there = put_new (λ (o : Object). o.off) (record { off = at.off; bytes = at.bytes; caller = k; life = InHand k }) h.objects;
  off = refl;
  bytes = refl;
  lives = refl;
}

pub placed_keeps : (k : ℕ) (at : ObjectAt) (chunks : List Chunk) (other : ObjectAt) (life : Life) → IsObject chunks other life → IsObject (change_chunk at.chunk (with_object k at) chunks) other life
placed_keeps k at chunks other life is = changed_object at.chunk (with_object k at) (λ h. refl) (λ h. refl) chunks other life is
    (λ e. put_keeps (λ (o : Object). o.off) (record { off = at.off; bytes = at.bytes; caller = k; life = InHand k }) is.chunk.objects is.object is.object_there)

-- An object that a caller has in hand becomes live.
module _ (c : Setup) (placing placing' : ℕ → ℕ → Type 0) (k : ℕ) (at : ObjectAt) (serial : ℕ) (chunks : List Chunk) (fine : AreChunksFine c placing chunks) (hand : IsObject chunks at (InHand k)) where
  abbrev alive : Object → Object
  alive o = if o.off == at.off then record o { life = Lives serial } else o

  alive_bits : (objects : List Object) → map object_bits (map alive objects) ≡ map object_bits objects
  alive_bits [] = refl
  alive_bits (o ∷ objects) = grind (arith, alive_bits objects)

  was_object : (objects : List Object) (o : Object) → IsIn o (map alive objects) → (was : Object) × IsIn was objects × (o.off ≡ was.off) × (o.bytes ≡ was.bytes)
  was_object objects o is = grind (arith, mapped_at)

  module _ (long : (h : Chunk) → IsIn h chunks → length h.populated ≡ c.unit_pages) (more : (number off : ℕ) → placing number off → placing' number off ⊎ ((at.chunk ≡ number) × (at.off ≡ off))) where
    now_populated : (h : Chunk) (o was : Object) → IsIn h chunks → IsIn was h.objects → o.off ≡ was.off → o.bytes ≡ was.bytes → at.chunk ≡ h.number → at.off ≡ was.off → (page : ℕ) → is_among (pages_of_bytes o.off o.bytes) page ≡ true
        → slice_get (with_live_object at (Lives serial) h).populated page ≡ Some true
    now_populated h o was there was_there off bytes number same page f =
        let one = object_only c placing chunks fine at (InHand k) hand h was there (sym number) was_there (sym same) in
        let size : o.bytes ≡ at.bytes = bytes ∙ ap (λ (x : Object). x.bytes) one ∙ hand.bytes in
        let own : is_among (pages_of_object at) page ≡ true = ap (λ n. is_among (pages_of_bytes n at.bytes) page) (same ∙ sym off) ∙ ap (λ n. is_among (pages_of_bytes o.off n) page) (sym size) ∙ f in
        let low = shaped_low c was ((fine.each h there).shaped was was_there) page (ap (λ n. is_among (pages_of_bytes n was.bytes) page) (sym off) ∙ ap (λ n. is_among (pages_of_bytes o.off n) page) (sym bytes) ∙ f) in
        let bit = there_at h.populated page (omega (arith, long h there)) in
        painted (is_among (pages_of_object at)) true bit.0 h.populated page own bit.1

    live_fine : (h : Chunk) → IsIn h chunks → h.number ≡ at.chunk → AreObjectsFine c placing' (with_live_object at (Lives serial) h)
    live_fine h there e = record {
      shaped = λ o is. (let was = was_object h.objects o is in shaped_as c was.0 o was.2 was.3 ((fine.each h there).shaped was.0 was.1));
      bits = λ bit. (let few = (fine.each h there).bits bit in omega (arith, ap (times bit) (alive_bits h.objects)));
      settled = λ o is. (let was = was_object h.objects o is in elim ((fine.each h there).settled was.0 was.1) [
        | inl done ↦ inl (grind (arith, painted_still))
        | inr placed ↦ elim (more h.number was.0.off placed) [
          | inl still ↦ inr (subst (placing' h.number) (sym was.2) still)
          | inr own ↦ inl (λ page f. now_populated h o was.0 there was.1 was.2 was.3 own.0 own.1 page f)
        ]
      ]);
    }

    pub lived_fine : AreChunksFine c placing' (change_chunk at.chunk (with_live_object at (Lives serial)) chunks)
    lived_fine = changed_fine at.chunk (with_live_object at (Lives serial)) (λ h. refl) c placing placing' chunks fine live_fine
        (λ h there apart. more_fine c placing placing' h (λ off placed. elim (more h.number off placed) [ inl still ↦ still | inr own ↦ absurd (apart (sym own.0)) ]) (fine.each h there))

  alive_in : (o : Object) (objects : List Object) (t : Bool) → (o.off == at.off) ≡ t → IsIn o objects → IsIn (if t then record o { life = Lives serial } else o) (map alive objects)
  alive_in o objects t e is = record { place = is.place; at = slice_get-map alive objects is.place ∙ ap (option_map alive) is.at ∙ ap (λ b. Some (if b then record o { life = Lives serial } else o)) e }

  pub lived_object : IsObject (change_chunk at.chunk (with_live_object at (Lives serial)) chunks) at (Lives serial)
  lived_object = record {
    chunk = with_live_object at (Lives serial) hand.chunk;
    there = keyed_in (λ (x : Chunk). x.number) at.chunk (with_live_object at (Lives serial)) chunks hand.chunk hand.there hand.numbered;
    numbered = hand.numbered;
    based = hand.based;
    object = record hand.object { life = Lives serial };
    object_there = alive_in hand.object hand.chunk.objects true (ap (λ n. n == at.off) hand.off ∙ same_test at.off) hand.object_there;
    off = hand.off;
    bytes = hand.bytes;
    lives = refl;
  }

  pub lived_keeps : (other : ObjectAt) (life : Life) → (life ≢ InHand k) → IsObject chunks other life → IsObject (change_chunk at.chunk (with_live_object at (Lives serial)) chunks) other life
  lived_keeps other life apart is = changed_object at.chunk (with_live_object at (Lives serial)) (λ h. refl) (λ h. refl) chunks other life is (λ e. by_test (is.object.off == at.off)
      (λ f. absurd (apart (let one = object_only c placing chunks fine at (InHand k) hand is.chunk is.object is.there (is.numbered ∙ e) is.object_there (to_same is.object.off at.off f) in
      sym is.lives ∙ ap (λ (x : Object). x.life) one ∙ hand.lives)))
      (λ f. alive_in is.object is.chunk.objects false f is.object_there))

-- An object is removed.
module _ (c : Setup) (placing placing' : ℕ → ℕ → Type 0) (at : ObjectAt) (chunks : List Chunk) (fine : AreChunksFine c placing chunks) where
  kept_off : (h : Chunk) (o : Object) → IsIn o (without_object at h).objects → IsIn o h.objects × (o.off ≢ at.off)
  kept_off h o is = let was = filter_has (λ (o : Object). not (o.off == at.off)) h.objects is.place o is.at in
      (was.there, (λ e. (let t : (o.off == at.off) ≡ true = ap (λ n. n == at.off) e ∙ same_test at.off in let f : not (o.off == at.off) ≡ false = ap not t in let g = was.passes in cc)))

  pub removed_fine : ((number off : ℕ) → placing number off → placing' number off ⊎ ((at.chunk ≡ number) × (at.off ≡ off))) → AreChunksFine c placing' (change_chunk at.chunk (without_object at) chunks)
  removed_fine more = changed_fine at.chunk (without_object at) (λ h. refl) c placing placing' chunks fine
      (λ h there e. record {
        shaped = λ o is. (fine.each h there).shaped o (kept_off h o is).0;
        bits = λ bit. (let few = (fine.each h there).bits bit in
            omega (arith, times_map object_bits bit (without_object at h).objects, times_map object_bits bit h.objects, sum_by-filter-le (λ (o : Object). one_if (holds (object_bits o) bit)) (λ (o : Object). not (o.off == at.off)) h.objects));
        settled = λ o is. (let was = kept_off h o is in elim ((fine.each h there).settled o was.0) [
          | inl done ↦ inl done
          | inr placed ↦ elim (more h.number o.off placed) [ inl still ↦ inr still | inr own ↦ absurd (was.1 (sym own.1)) ]
        ]);
      })
      (λ h there apart. more_fine c placing placing' h (λ off placed. elim (more h.number off placed) [ inl still ↦ still | inr own ↦ absurd (apart (sym own.0)) ]) (fine.each h there))

pub removed_keeps : (at : ObjectAt) (chunks : List Chunk) (other : ObjectAt) (life : Life) → (other.chunk ≡ at.chunk → other.off ≡ at.off → ⊥) → IsObject chunks other life → IsObject (change_chunk at.chunk (without_object at) chunks) other life
removed_keeps at chunks other life apart is = changed_object at.chunk (without_object at) (λ h. refl) (λ h. refl) chunks other life is (grind (arith, filter_in))

-- A chunk is added, given up, or gets a page.
module _ (c : Setup) (placing placing' : ℕ → ℕ → Type 0) (chunks : List Chunk) (fine : AreChunksFine c placing chunks) (more : (number off : ℕ) → placing number off → placing' number off) where
  pub grown_fine : (number base : ℕ) → ((h : Chunk) → IsIn h chunks → h.number < number) → AreChunksFine c placing' (chunks ++ new_chunk c number base ∷ [])
  grown_fine number base low = record {
    once = few;
    each = λ h there. elim (append_cases chunks (new_chunk c number base ∷ []) there.place h there.at) [
      | inl e ↦ more_fine c placing placing' h (more h.number) (fine.each h (record { place = there.place; at = e }))
      | inr e ↦ new_fine h e.0 e.2
    ];
  }
    where
      counted : (n : ℕ) → count_of n (chunk_numbers (chunks ++ new_chunk c number base ∷ [])) ≡ count_of n (chunk_numbers chunks) + one_if (number == n)
      counted n = search (count_sum, sum_by-append, arith) depth 6

      none_there : (n : ℕ) → number ≡ n → 1 ≤ count_of n (chunk_numbers chunks) → ⊥
      none_there n e some =
          let is = sum_some (λ (x : Chunk). one_if (x.number == n)) chunks (omega (arith, count_sum (λ (x : Chunk). x.number) n chunks)) in
          let l = low is.1 (record { place = is.0; at = is.2 }) in let hit = is.3 in grind (arith, to_same)

      few : (n : ℕ) → count_of n (chunk_numbers (chunks ++ new_chunk c number base ∷ [])) ≤ 1
      few n = let one = one_of_two _ _ (fine.once n) (one_if_le (number == n)) (λ some hit. (let same : number ≡ n = grind (arith, to_same) in none_there n same some)) in omega (arith, counted n)

      new_fine : (h : Chunk) (j : ℕ) → slice_get (new_chunk c number base ∷ []) j ≡ Some h → AreObjectsFine c placing' h
      new_fine h zero e = let same : new_chunk c number base ≡ h = cc in subst (AreObjectsFine c placing') same (record { shaped = λ o is. (let no = is.at in cc); bits = λ bit. omega arith; settled = λ o is. (let no = is.at in cc) })
      new_fine h (suc j) e = cc

  pub spared_fine : (number : ℕ) → AreChunksFine c placing' (filter (λ (h : Chunk). not (h.number == number)) chunks)
  spared_fine number = record {
    once = λ n. (let few = fine.once n in omega (
      arith,
      count_sum (λ (x : Chunk). x.number) n (filter (λ (h : Chunk). not (h.number == number)) chunks),
      count_sum (λ (x : Chunk). x.number) n chunks,
      sum_by-filter-le (λ (x : Chunk). one_if (x.number == n)) (λ (h : Chunk). not (h.number == number)) chunks,
    ));
    each = λ h there. more_fine c placing placing' h (more h.number) (fine.each h (filter_has (λ (h : Chunk). not (h.number == number)) chunks there.place h there.at).there);
  }

  pub paged_fine : (number page : ℕ) → AreChunksFine c placing' (change_chunk number (with_page page) chunks)
  paged_fine number page = changed_fine number (with_page page) (λ h. refl) c placing placing' chunks fine
      (λ h there e. record {
        shaped = (fine.each h there).shaped;
        bits = (fine.each h there).bits;
        settled = λ o is. elim ((fine.each h there).settled o is) [
          | inl done ↦ inl (λ own f. painted_still (λ other. other == page) true h.populated own (done own f))
          | inr placed ↦ inr (more h.number o.off placed)
        ];
      })
      (λ h there apart. more_fine c placing placing' h (more h.number) (fine.each h there))

pub grown_keeps : (c : Setup) (chunks : List Chunk) (number base : ℕ) (at : ObjectAt) (life : Life) → IsObject chunks at life → IsObject (chunks ++ new_chunk c number base ∷ []) at life
grown_keeps c chunks number base at life is = grind (arith, there, append_first)

pub spared_keeps : (chunks : List Chunk) (number : ℕ) (at : ObjectAt) (life : Life) → at.chunk ≢ number → IsObject chunks at life → IsObject (filter (λ (h : Chunk). not (h.number == number)) chunks) at life
spared_keeps chunks number at life apart is = grind (arith, there, filter_in, to_same)

pub paged_keeps : (number page : ℕ) (chunks : List Chunk) (at : ObjectAt) (life : Life) → IsObject chunks at life → IsObject (change_chunk number (with_page page) chunks) at life
paged_keeps number page chunks at life is = changed_object number (with_page page) (λ h. refl) (λ h. refl) chunks at life is (λ e. is.object_there)
