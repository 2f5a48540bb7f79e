-- What is kept of the objects of chunks between two events, and of the objects that callers have in hand.
-- whole words, within the units
use Rattle.std.proofs.Common.{IfSome, List, None, Option, Some, [], ap, arith, find, flat_map, is_some, map, option_map, refl, slice_get, subst, suc, sum_by, sym, true, ℕ, ◌&&◌, ◌*◌, ◌+◌, ◌==◌, ◌∙◌, ◌∷◌, ◌≡◌, ◌≤◌, ◌⊎◌}
use Rattle.std.proofs.lemmas.List.Sums.{sum_by-cons}
use Rattle.vm_model.specs.Carried.{count_of, object_in_hand}
use Rattle.vm_model.specs.Chunks.{ObjectAt, chunks_numbered, is_live_object, life_of_object, object_bits}
use Rattle.vm_model.specs.Frames.{pages_of_bytes}
use Rattle.vm_model.specs.Given.{placing}
use Rattle.vm_model.specs.Next.{Answer, Go, Next, found}
use Rattle.vm_model.specs.Places.{Place, Populating, SettlingObject, Unplacing}
use Rattle.vm_model.specs.PlainMap.{Chunk, InHand, Life, Lives, Object, PlainMap, lives_as}
use Rattle.vm_model.specs.Setup.{Setup, unit_bits}
use Rattle.vm_model.specs.Space.{holds, is_among, one_if, times}
use Rattle.vm_model.specs.declared.areas.Span.{Span}
use Rattle.map_laws.proofs.blocks.BlockFacts.{count_cons, same_test, to_same}
use Rattle.map_laws.proofs.TestsAndFilters.{IsIn, filter_has, filter_in, find_has, holds_from, times-cons}
use Rattle.map_laws.proofs.SearchEnds.{and_both, find_some, flat_has}
use Rattle.map_laws.proofs.GivenMeets.{flat_in}
use Rattle.map_laws.proofs.KeptThroughSteps.{same_or, there}
use Rattle.map_laws.proofs.OutMoves.{sum_two}

pub record IsShaped (c : Setup) (o : Object) : Type 0 where
  pub bit : ℕ
  pub more : ℕ
  pub at : o.off ≡ 4 * bit
  pub whole : o.bytes ≡ 4 * suc more
  pub within : bit + suc more ≤ unit_bits c

-- of the objects of a chunk, where some of them are being placed
pub record AreObjectsFine (c : Setup) (placing : ℕ → ℕ → Type 0) (h : Chunk) : Type 0 where
  pub shaped : (o : Object) → IsIn o h.objects → IsShaped c o
  pub bits : (bit : ℕ) → times bit (map object_bits h.objects) ≤ 1
  pub settled : (o : Object) → IsIn o h.objects → ((page : ℕ) → is_among (pages_of_bytes o.off o.bytes) page ≡ true → slice_get h.populated page ≡ Some true) ⊎ placing h.number o.off

abbrev pub chunk_numbers : List Chunk → List ℕ
chunk_numbers chunks = map (λ (h : Chunk). h.number) chunks

-- of all chunks
pub record AreChunksFine (c : Setup) (placing : ℕ → ℕ → Type 0) (chunks : List Chunk) : Type 0 where
  pub once : (number : ℕ) → count_of number (chunk_numbers chunks) ≤ 1
  pub each : (h : Chunk) → IsIn h chunks → AreObjectsFine c placing h

-- an object of one of the chunks, as far as it has come
pub record IsObject (chunks : List Chunk) (at : ObjectAt) (life : Life) : Type 0 where
  pub chunk : Chunk
  pub there : IsIn chunk chunks
  pub numbered : chunk.number ≡ at.chunk
  pub based : chunk.base ≡ at.base
  pub object : Object
  pub object_there : IsIn object chunk.objects
  pub off : object.off ≡ at.off
  pub bytes : object.bytes ≡ at.bytes
  pub lives : object.life ≡ life

-- that a caller has in hand
abbrev pub IsObjectAt : PlainMap → ℕ → Place → Type 0
IsObjectAt m k p = IfSome (object_in_hand p) (λ at. IsObject m.chunks at (InHand k))

-- of the objects that callers are placing, whose pages may lack frames
abbrev pub IsBeingPlaced : (number off : ℕ) → Place → Type 0
IsBeingPlaced number off (Populating at missing) = (at.chunk ≡ number) × (at.off ≡ off)
IsBeingPlaced number off (SettlingObject at) = (at.chunk ≡ number) × (at.off ≡ off)
IsBeingPlaced number off (Unplacing at) = (at.chunk ≡ number) × (at.off ≡ off)
IsBeingPlaced number off _ = ⊥

abbrev pub next_placed : Next → ℕ → ℕ → Type 0
next_placed (Go p) number off = IsBeingPlaced number off p
next_placed (Answer reply made) number off = ⊥

-- Elements that count for the same.

pub same_place : {X : Type 0} (f : X → ℕ) (xs : List X) (i j : ℕ) (x y : X) → sum_by f xs ≤ 1 → slice_get xs i ≡ Some x → slice_get xs j ≡ Some y → 1 ≤ f x → 1 ≤ f y → i ≡ j
same_place f xs i j x y once h g a b = grind (arith, same_or, sum_two)

pub same_element : {X : Type 0} (f : X → ℕ) (xs : List X) (x y : X) → sum_by f xs ≤ 1 → IsIn x xs → IsIn y xs → 1 ≤ f x → 1 ≤ f y → x ≡ y
same_element f xs x y once h g a b = grind (arith, same_place)

pub count_sum : {X : Type 0} (key : X → ℕ) (n : ℕ) (xs : List X) → count_of n (map key xs) ≡ sum_by (λ x. one_if (key x == n)) xs
count_sum key n [] = refl
count_sum key n (x ∷ xs) = omega (arith, count_cons n (key x) (map key xs), count_sum key n xs, sum_by-cons (λ x. one_if (key x == n)) x xs)

pub times_map : {X : Type 0} (f : X → Span) (n : ℕ) (xs : List X) → times n (map f xs) ≡ sum_by (λ x. one_if (holds (f x) n)) xs
times_map f n [] = refl
times_map f n (x ∷ xs) = omega (arith, times-cons n (f x) (map f xs), times_map f n xs, sum_by-cons (λ x. one_if (holds (f x) n)) x xs)

-- chunks with one number are one
pub same_chunk : (chunks : List Chunk) (h h' : Chunk) → ((number : ℕ) → count_of number (chunk_numbers chunks) ≤ 1) → IsIn h chunks → IsIn h' chunks → h.number ≡ h'.number → h ≡ h'
same_chunk chunks h h' once there there' e =
    let few = once h.number in
    same_element (λ (x : Chunk). one_if (x.number == h.number)) chunks h h' (omega (arith, count_sum (λ (x : Chunk). x.number) h.number chunks)) there there'
    (omega (arith, ap one_if (same_test h.number))) (omega (arith, ap one_if (ap (λ n. n == h.number) (sym e) ∙ same_test h.number)))

pub first_bit : (c : Setup) (o : Object) (bit : ℕ) → (is : IsShaped c o) → is.bit ≡ bit → holds (object_bits o) bit ≡ true
first_bit c o bit is e = let a = is.at in let w = is.whole in holds_from (object_bits o) bit (omega arith) (omega arith)

-- objects of a chunk at one offset are one
pub same_object : (c : Setup) (placing : ℕ → ℕ → Type 0) (h : Chunk) (o o' : Object) → AreObjectsFine c placing h → IsIn o h.objects → IsIn o' h.objects → o.off ≡ o'.off → o ≡ o'
same_object c placing h o o' fine there there' e =
    let is = fine.shaped o there in let is' = fine.shaped o' there' in
    let few = fine.bits is.bit in let a = is.at in let b = is'.at in
    same_element (λ (x : Object). one_if (holds (object_bits x) is.bit)) h.objects o o' (omega (arith, times_map object_bits is.bit h.objects)) there there'
    (omega (arith, ap one_if (first_bit c o is.bit is refl))) (omega (arith, ap one_if (first_bit c o' is.bit is' (omega arith))))

-- Objects that are looked for.

module _ (c : Setup) (placing : ℕ → ℕ → Type 0) (chunks : List Chunk) (fine : AreChunksFine c placing chunks) (at : ObjectAt) where
  -- objects of the chunks with its number
  flat_object : (h : Chunk) (o : Object) → IsIn h chunks → h.number ≡ at.chunk → IsIn o h.objects → IsIn o (flat_map (λ (h : Chunk). h.objects) (chunks_numbered at.chunk chunks))
  flat_object h o there e o_there =
      let kept = filter_in (λ (h : Chunk). h.number == at.chunk) chunks h there.place there.at (ap (λ n. n == at.chunk) e ∙ same_test at.chunk) in
      flat_has (λ (h : Chunk). h.objects) (chunks_numbered at.chunk chunks) kept.place h o kept.at o_there

  object_flat : (o : Object) → IsIn o (flat_map (λ (h : Chunk). h.objects) (chunks_numbered at.chunk chunks)) → (h : Chunk) × IsIn h chunks × (h.number ≡ at.chunk) × IsIn o h.objects
  object_flat o there =
      let from = flat_in (λ (h : Chunk). h.objects) (chunks_numbered at.chunk chunks) o there in
      let kept = filter_has (λ (h : Chunk). h.number == at.chunk) chunks from.1.place from.0 from.1.at in
      (from.0, kept.there, to_same from.0.number at.chunk kept.passes, from.2)

  -- there is one object at its place
  pub object_only : (life : Life) (is : IsObject chunks at life) (h : Chunk) (o : Object) → IsIn h chunks → h.number ≡ at.chunk → IsIn o h.objects → o.off ≡ at.off → o ≡ is.object
  object_only life is h o there e o_there f =
      let same = same_chunk chunks h is.chunk fine.once there is.there (e ∙ sym is.numbered) in
      same_object c placing is.chunk o is.object (fine.each is.chunk is.there) (subst (λ (x : Chunk). IsIn o x.objects) same o_there) is.object_there (f ∙ sym is.off)

  pub object_life : (life : Life) → IsObject chunks at life → life_of_object at chunks ≡ Some life
  object_life life is =
      let flat = flat_object is.chunk is.object is.there is.numbered is.object_there in
      let found = find_some (λ (o : Object). o.off == at.off) (flat_map (λ (h : Chunk). h.objects) (chunks_numbered at.chunk chunks)) is.object flat.place flat.at (ap (λ n. n == at.off) is.off ∙ same_test at.off) in
      let passes = find_has (λ (o : Object). o.off == at.off) (flat_map (λ (h : Chunk). h.objects) (chunks_numbered at.chunk chunks)) found.0 found.1 in
      let from = object_flat found.0 passes.0 in
      let one = object_only life is from.0 found.0 from.1 from.2 from.3 (to_same found.0.off at.off passes.1) in
      ap (option_map (λ (o : Object). o.life)) found.1 ∙ ap (λ (o : Object). Some o.life) one ∙ ap (λ l. Some l) is.lives

  pub same_life : (life found : Life) → IsObject chunks at life → life_of_object at chunks ≡ Some found → life ≡ found
  same_life life found is e = let f = object_life life is in cc

  lives_serial : (serial : ℕ) (life : Life) → lives_as serial life ≡ true → life ≡ Lives serial
  lives_serial serial life e = grind (arith, to_same)

  some_found : (serial : ℕ) (o : Option Object) → find (λ (o : Object). (o.off == at.off) && lives_as serial o.life) (flat_map (λ (h : Chunk). h.objects) (chunks_numbered at.chunk chunks)) ≡ o → is_some o ≡ true → (life : Life) → IsObject chunks at life → life ≡ Lives serial
  some_found serial None e f life is = cc
  some_found serial (Some o) e f life is =
      let passes = find_has (λ (o : Object). (o.off == at.off) && lives_as serial o.life) (flat_map (λ (h : Chunk). h.objects) (chunks_numbered at.chunk chunks)) o e in
      let both = and_both (o.off == at.off) (lives_as serial o.life) passes.1 in
      let from = object_flat o passes.0 in
      let one = object_only life is from.0 o from.1 from.2 from.3 (to_same o.off at.off both.0) in
      sym is.lives ∙ ap (λ (x : Object). x.life) (sym one) ∙ lives_serial serial o.life both.1

  -- what is live under a serial
  pub live_life : (serial : ℕ) (life : Life) → IsObject chunks at life → is_live_object at serial chunks ≡ true → life ≡ Lives serial
  live_life serial life is e = some_found serial _ refl e life is
