-- The words of an object: their pages have frames, and what they come to fits in 64 bits.
use Rattle.std.proofs.Common.{◌≡◌, ℕ, zero, suc, ◌+◌, ◌-◌, ◌*◌, ◌/◌, ◌^◌, ◌<◌, ◌≤◌, true, List, [], ◌∷◌, length, map, take, slice_get, slice_index_or, Option, Some, ℤ, pos, negsuc, ◌+ℤ◌, to_z, of_z, FitsSigned, w32, w64, ap, sym, ◌∙◌, subst, arith}
use Rattle.std.proofs.lemmas.Int.{ints, to_z-of_z}
use Rattle.std.proofs.lemmas.Option.{slice_get-get_or}
use Rattle.vm_model.specs.Space.{is_among}
use Rattle.vm_model.specs.Setup.{Setup, cpus, pages_in_units}
use Rattle.vm_model.specs.Frames.{cell_of, word_at, sum_words}
use Rattle.vm_model.specs.Chunks.{ObjectAt, pages_of_object}
use Rattle.map_laws.proofs.blocks.BlockWorlds.{only_one}
use Rattle.map_laws.proofs.chunks.ChunkFacts.{unit_page, page_in_units}
use Rattle.map_laws.proofs.PlaceMoves.{row_in}
use Rattle.section_laws.specs.Needs.{HasFrame, IsReachable}
use Rattle.section_laws.specs.WordBounds.{IsWithin, most_amount, most_word}
use Rattle.section_laws.proofs.WordsSmall.{AreWithin, zero_within, wider, both_within, cell_within}

-- the page of a word, in each unit
module _ (c : Setup) (frames : List (Option ℕ)) (at : ObjectAt) (is : IsReachable c frames at) (index : ℕ) (low : 4 * index < at.bytes) where
  abbrev page : ℕ
  page = (at.off + 4 * index) / 4096

  word_in_object : is_among (pages_of_object at) page ≡ true
  word_in_object = row_in (suc ((at.off + at.bytes - 1) / 4096) - at.off / 4096) (at.off / 4096) page (omega arith) (omega arith)

  mapped_in : (cpu unit : ℕ) → slice_get c.units cpu ≡ Some unit → HasFrame frames (at.base + unit + page)
  mapped_in cpu unit e = is.mapped (at.base + unit + page) (page_in_units c at.base page cpu unit (pages_of_object at) e word_in_object)

  pub word_mapped : (units : List ℕ) (cpu : ℕ) → units ≡ c.units → cpu < cpus c → HasFrame frames (at.base + slice_index_or units cpu 0 + page)
  word_mapped units cpu e own = subst (λ (list : List ℕ). HasFrame frames (at.base + slice_index_or list cpu 0 + page)) (sym e) (mapped_in cpu (slice_index_or c.units cpu 0) (slice_get-get_or c.units cpu 0 own))

  pub words_mapped : (x : ℕ) → is_among (pages_in_units c at.base (page ∷ [])) x ≡ true → HasFrame frames x
  words_mapped x h =
      let u = unit_page c at.base x (page ∷ []) h in
      subst (HasFrame frames) (ap (λ p. at.base + u.unit + p) (only_one page u.page u.among) ∙ sym u.same) (mapped_in u.cpu u.unit u.at)

within_fits : (most : ℕ) (z : ℤ) → most < 2 ^ 63 → IsWithin most z → FitsSigned w64 z
within_fits most (pos n) low is = let high = is.1 in record { sfits = omega (arith, ints) }
within_fits most (negsuc n) low is = let high = is.0 in record { sfits = omega (arith, ints) }

pub added_fits : (frames : List (Option ℕ)) (cells : List ℤ) (byte : ℕ) (amount : ℤ) → AreWithin most_word cells → IsWithin most_amount amount → FitsSigned w32 amount → FitsSigned w64 (word_at frames cells byte +ℤ to_z w32 (of_z w32 amount))
added_fits frames cells byte amount small few fits = subst (λ z. FitsSigned w64 (word_at frames cells byte +ℤ z)) (sym (to_z-of_z w32 amount fits))
    (within_fits (most_word + most_amount) (word_at frames cells byte +ℤ amount) (omega arith) (both_within most_word most_amount (word_at frames cells byte) amount (cell_within most_word cells (cell_of frames byte) small) few))

-- some first words added up
sum_within : (frames : List (Option ℕ)) (cells : List ℤ) (byte : ℕ → ℕ) (units : List ℕ) (count : ℕ) → AreWithin most_word cells → IsWithin (most_word * length units) (sum_words frames cells (map byte (take count units)))
sum_within frames cells byte [] zero small = zero_within 0
sum_within frames cells byte [] (suc count) small = zero_within 0
sum_within frames cells byte (unit ∷ units) zero small = zero_within (most_word * suc (length units))
sum_within frames cells byte (unit ∷ units) (suc count) small =
    wider (most_word + most_word * length units) (most_word * suc (length units)) _ (omega arith)
    (both_within most_word (most_word * length units) _ _ (cell_within most_word cells (cell_of frames (byte unit)) small) (sum_within frames cells byte units count small))

pub sum_fits : (frames : List (Option ℕ)) (cells : List ℤ) (byte : ℕ → ℕ) (units : List ℕ) (count : ℕ) → length units ≤ 64 → AreWithin most_word cells → FitsSigned w64 (sum_words frames cells (map byte (take count units)))
sum_fits frames cells byte units count few small = within_fits (most_word * length units) _ (omega arith) (sum_within frames cells byte units count small)
