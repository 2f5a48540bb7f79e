-- The page that a balance fills next: the search over the chunks by slot and number.
use Rattle.std.proofs.Common.{◌≡◌, ◌≢◌, ℕ, ◌+◌, ◌<◌, ◌≤◌, ◌⊎◌, inl, inr, Bool, true, false, not, if◌then◌else◌, nat_le, ◌==◌, List, [], ◌∷◌, length, filter, find, drop, slice_get, Option, Some, None, option_map, option_and_then, All, refl, ap, sym, ◌∙◌, subst, arith}
use Rattle.std.specs.Prelude.{IfSome}
use Rattle.std.specs.Option.{is_some}
use Rattle.std.proofs.lemmas.Bool.Decides.{nat_tests}
use Rattle.std.proofs.lemmas.List.{drop_all}
use Rattle.std.proofs.lemmas.Option.{slice_get-map}
use Rattle.vm_model.specs.declared.areas.PageSet.{PageSet}
use Rattle.vm_model.specs.PageSets.{has_page}
use Rattle.vm_model.specs.Space.{count_from, least_by}
use Rattle.vm_model.specs.PlainMap.{Chunk}
use Rattle.vm_model.specs.Chunks.{slot, is_populated, unpopulated_pages, page_in, unpopulated_page, page_to_fill, empty_count}
use Rattle.vm_model.proofs.Tabulated.{filter-same}
use Rattle.chunk_slots.specs.Rising.{IsRising}
use Rattle.chunk_slots.specs.ChunksBySlot.{slot_key}
use Rattle.chunk_slots.specs.ChunkRegion.{ChunkRegion, setup_of, in_order, numbers_in_order}
use Rattle.chunk_slots.proofs.Choosing.{chosen_from}
use Rattle.chunk_slots.proofs.InOrder.{same_some, sorted_found, goes_past, stops_here}
use Rattle.populate_balance.specs.declared.fill.UnpopulatedPage.{UnpopulatedPage}
use Rattle.populate_balance.specs.Balance.{placed_page, told_page, page_in_chunk}
use Rattle.populate_balance.proofs.NumberedChunks.{number_of, option_split, IsChunk}

-- whether the chunk has a page to fill
abbrev pub has_room : ChunkRegion → Chunk → Bool
has_room r h = not (length (unpopulated_pages (setup_of r) h) == 0)

-- the lowest page that is not in the set of populated ones is the chunk's
pub lowest_is : (r : ChunkRegion) (i m n : ℕ) (o : Option ℕ) (set : PageSet) (at : IsChunk r.chunks n i) → m ≡ r.unit_pages
    → IfSome (slice_get r.chunks i) (λ h. (page : ℕ) → page < r.unit_pages → has_page set page ≡ is_populated h page)
    → o ≡ slice_get (filter (λ page. not (has_page set page)) (count_from m 0)) 0 → page_in_chunk n r ≡ option_map (λ page. (at.chunk, page)) o
lowest_is r i m n o set at count told is =
    let each : (page : ℕ) → page < r.unit_pages → has_page set page ≡ is_populated at.chunk page =
    subst (λ (k : Option Chunk). IfSome k (λ h. (page : ℕ) → page < r.unit_pages → has_page set page ≡ is_populated h page)) at.there told in
    ap (option_and_then (page_in (setup_of r))) at.found
    ∙ ap (option_map (λ page. (at.chunk, page)))
    (sym
    (is ∙ ap (λ k. slice_get (filter (λ page. not (has_page set page)) (count_from k 0)) 0) count
    ∙ ap (λ (ps : List ℕ). slice_get ps 0) (filter-same (λ page. not (has_page set page)) (λ page. not (is_populated at.chunk page)) r.unit_pages 0 (λ page low high. ap not (each page (omega arith))))))

some_room : (pages : List ℕ) (page : ℕ) → slice_get pages 0 ≡ Some page → not (length pages == 0) ≡ true
some_room [] page e = cc
some_room (p ∷ ps) page e = let some : (length (p ∷ ps) == 0) ≡ false = let apart : length (p ∷ ps) ≢ 0 = (λ none. absurd (omega (arith, none))) in grind (arith, nat_tests) in ap not some

no_room : (pages : List ℕ) → slice_get pages 0 ≡ None → not (length pages == 0) ≡ false
no_room [] e = refl
no_room (p ∷ ps) e = cc

-- the chunk at a place
pub record IsAtPlace (r : ChunkRegion) (place n : ℕ) : Type 0 where
  pub chunk : Chunk
  pub there : slice_get (in_order r) place ≡ Some chunk
  pub number : chunk.number ≡ n
  pub page : page_in_chunk n r ≡ page_in (setup_of r) chunk

at_place : (r : ChunkRegion) (place n : ℕ) → IsRising number_of r.chunks → slice_get (numbers_in_order r) place ≡ Some n → IsAtPlace r place n
at_place r place n rise e = by (option_split (slice_get (in_order r) place))
  where
    told : option_map number_of (slice_get (in_order r) place) ≡ Some n
    told = sym (slice_get-map number_of (in_order r) place) ∙ e

    by : (slice_get (in_order r) place ≡ None) ⊎ ((h : Chunk) × (slice_get (in_order r) place ≡ Some h)) → IsAtPlace r place n
    by (inl none) = absurd (let clash : None ≡ Some n = sym (ap (option_map number_of) none) ∙ told in cc)
    by (inr found) =
        let h : Chunk = found.0 in
        let number : h.number ≡ n = same_some h.number n (sym (ap (option_map number_of) found.1) ∙ told) in
        record {
          chunk = h;
          there = found.1;
          number = number;
          page = ap (λ m. page_in_chunk m r) (sym number)
              ∙ ap (option_and_then (page_in (setup_of r))) (sorted_found number_of (λ k. slot_key (slot (setup_of r) k) k.number) r.chunks place h rise found.1);
        }

-- no chunk before the place has a page to fill
abbrev pub IsPast : ChunkRegion → (place : ℕ) → Type 0
IsPast r place = find (has_room r) (in_order r) ≡ find (has_room r) (drop place (in_order r))

abbrev page_by : Chunk → Option ℕ → Option (ℕ × ℕ × ℕ)
page_by h pages = option_map placed_page (option_map (λ page. (h, page)) pages)

none_there : (o : Option UnpopulatedPage) (h : Chunk) (p : Option ℕ) → is_some o ≡ false → option_map told_page o ≡ page_by h p → p ≡ None
none_there None h None e is = refl
none_there None h (Some page) e is = cc
none_there (Some next) h p e is = cc

some_there : (o : Option UnpopulatedPage) (h : Chunk) (p : Option ℕ) → is_some o ≡ true → option_map told_page o ≡ page_by h p → (page : ℕ) × (p ≡ Some page)
some_there None h p e is = cc
some_there (Some next) h None e is = cc
some_there (Some next) h (Some page) e is = (page, refl)

pub past_one : (r : ChunkRegion) (place n : ℕ) (o : Option UnpopulatedPage) → IsRising number_of r.chunks → slice_get (numbers_in_order r) place ≡ Some n
    → option_map told_page o ≡ option_map placed_page (page_in_chunk n r) → is_some o ≡ false → IsPast r place → IsPast r (place + 1)
past_one r place n o rise e is none past =
    let at = at_place r place n rise e in
    let pages : List ℕ = unpopulated_pages (setup_of r) at.chunk in
    goes_past (has_room r) (in_order r) place at.chunk at.there (no_room pages (none_there o at.chunk (slice_get pages 0) none (is ∙ ap (option_map placed_page) at.page))) past

-- the first in this order is the least by slot and number
least_is : (r : ChunkRegion) → IsRising number_of r.chunks → All (λ (h : Chunk). h.number < 4294967296) r.chunks → least_by (slot (setup_of r)) (filter (has_room r) r.chunks) ≡ find (has_room r) (in_order r)
least_is r rise small = chosen_from (slot (setup_of r)) number_of (has_room r) 0 r.chunks rise small

fills : (r : ChunkRegion) → empty_count (setup_of r) r.chunks < 4 → page_to_fill (setup_of r) r.chunks ≡ unpopulated_page (setup_of r) r.chunks
fills r few = let test : nat_le 4 (empty_count (setup_of r) r.chunks) ≡ false = grind (arith, nat_tests) in ap (λ b. if b then None else unpopulated_page (setup_of r) r.chunks) test

pub page_found : (r : ChunkRegion) (place n : ℕ) (o : Option UnpopulatedPage) → IsRising number_of r.chunks → All (λ (h : Chunk). h.number < 4294967296) r.chunks → empty_count (setup_of r) r.chunks < 4
    → slice_get (numbers_in_order r) place ≡ Some n → option_map told_page o ≡ option_map placed_page (page_in_chunk n r) → is_some o ≡ true → IsPast r place
    → option_map told_page o ≡ option_map placed_page (page_to_fill (setup_of r) r.chunks)
page_found r place n o rise small few e is some past =
    let at = at_place r place n rise e in
    let pages : List ℕ = unpopulated_pages (setup_of r) at.chunk in
    let here = some_there o at.chunk (slice_get pages 0) some (is ∙ ap (option_map placed_page) at.page) in
    let least : least_by (slot (setup_of r)) (filter (has_room r) r.chunks) ≡ Some at.chunk =
    least_is r rise small ∙ stops_here (has_room r) (in_order r) place at.chunk at.there (some_room pages here.0 here.1) past in
    is ∙ ap (option_map placed_page) (at.page ∙ sym (fills r few ∙ ap (option_and_then (page_in (setup_of r))) least))

pub none_found : (r : ChunkRegion) (place : ℕ) → IsRising number_of r.chunks → All (λ (h : Chunk). h.number < 4294967296) r.chunks → empty_count (setup_of r) r.chunks < 4
    → length (in_order r) ≤ place → IsPast r place → page_to_fill (setup_of r) r.chunks ≡ None
none_found r place rise small few end past =
    fills r few
    ∙ ap (option_and_then (page_in (setup_of r))) (least_is r rise small ∙ past ∙ ap (find (has_room r)) (drop_all place (in_order r) end))
