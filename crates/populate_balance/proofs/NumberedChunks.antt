-- Chunks by their numbers, and the second of those without an object.
use Rattle.std.proofs.Common.{◌≡◌, ℕ, ◌<◌, ◌⊎◌, inl, inr, Bool, true, ◌==◌, List, [], ◌∷◌, length, map, filter, find, get_or, slice_get, Option, Some, None, option_map, refl, ap, sym, ◌∙◌, arith}
use Rattle.std.proofs.lemmas.Bool.Decides.{nat_tests}
use Rattle.std.proofs.lemmas.Option.{slice_get-get_or, slice_get-map}
use Rattle.vm_model.specs.PlainMap.{Chunk, Object}
use Rattle.vm_model.specs.Chunks.{spare_chunk}
use Rattle.chunk_slots.specs.Rising.{IsRising, index_by}
use Rattle.chunk_slots.proofs.RisingLists.{at_index, IsAt, find-none}
use Rattle.chunk_slots.proofs.InOrder.{same_some, kept_found, kept_passes}

abbrev pub number_of : Chunk → ℕ
number_of h = h.number

-- the chunk at an index, by its number
pub record IsChunk (chunks : List Chunk) (n i : ℕ) : Type 0 where
  pub chunk : Chunk
  pub within : i < length chunks
  pub there : slice_get chunks i ≡ Some chunk
  pub number : chunk.number ≡ n
  pub found : find (λ (h : Chunk). h.number == n) chunks ≡ Some chunk

no_chunk : Chunk
no_chunk = record { number = 0; base = 0; populated = []; objects = [] }

pub chunk_by : (n i : ℕ) (o : Option ℕ) (chunks : List Chunk) → IsRising number_of chunks → o ≡ index_by number_of n chunks → o ≡ Some i → IsChunk chunks n i
chunk_by n i o chunks rise e some =
    let at : IsAt number_of n chunks i = at_index number_of n 0 chunks i rise (sym e ∙ some) in
    record {
      chunk = get_or chunks i no_chunk;
      within = at.within;
      there = slice_get-get_or chunks i no_chunk at.within;
      number = at.has no_chunk;
      found = at.found no_chunk;
    }

pub no_chunk_by : (n : ℕ) (o : Option ℕ) (chunks : List Chunk) → o ≡ index_by number_of n chunks → o ≡ None → find (λ (h : Chunk). h.number == n) chunks ≡ None
no_chunk_by n o chunks e none = find-none number_of n chunks (sym e ∙ none)

-- The chunk that is given up.

abbrev is_free : Chunk → Bool
is_free h = length h.objects == 0

pub record IsSpare (chunks : List Chunk) (n : ℕ) : Type 0 where
  pub chunk : Chunk
  pub spare : spare_chunk chunks ≡ Some chunk
  pub number : chunk.number ≡ n
  pub found : find (λ (h : Chunk). h.number == n) chunks ≡ Some chunk
  pub free : chunk.objects ≡ []

pub option_split : {A : Type 0} (o : Option A) → (o ≡ None) ⊎ ((x : A) × (o ≡ Some x))
option_split None = inl refl
option_split (Some x) = inr (x, refl)

no_objects : (objects : List Object) → (length objects == 0) ≡ true → objects ≡ []
no_objects [] e = refl
no_objects (o ∷ os) e = absurd (let none : length (o ∷ os) ≡ 0 = grind (arith, nat_tests) in omega (arith, none))

pub spare_by : (n : ℕ) (chunks : List Chunk) → IsRising number_of chunks → Some n ≡ slice_get (map number_of (filter is_free chunks)) 1 → IsSpare chunks n
spare_by n chunks rise e = by (option_split (spare_chunk chunks))
  where
    told : Some n ≡ option_map number_of (spare_chunk chunks)
    told = e ∙ slice_get-map number_of (filter is_free chunks) 1

    by : (spare_chunk chunks ≡ None) ⊎ ((h : Chunk) × (spare_chunk chunks ≡ Some h)) → IsSpare chunks n
    by (inl none) = absurd (let clash : Some n ≡ None = told ∙ ap (option_map number_of) none in cc)
    by (inr found) =
        let h : Chunk = found.0 in
        let number : h.number ≡ n = sym (same_some n h.number (told ∙ ap (option_map number_of) found.1)) in
        record {
          chunk = h;
          spare = found.1;
          number = number;
          found = ap (λ m. find (λ (g : Chunk). g.number == m) chunks) (sym number) ∙ kept_found number_of is_free chunks 1 h rise found.1;
          free = no_objects h.objects (kept_passes is_free chunks 1 h found.1);
        }
