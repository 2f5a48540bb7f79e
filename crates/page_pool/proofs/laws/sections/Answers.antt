use Rattle.std.proofs.Common.{◌≡◌, ◌+◌, ◌*◌, ◌/◌, ℕ, List, [], ◌∷◌, Option, length, map, slice_index, ◌+ℤ◌, refl, ap, ◌∙◌, arith}
use Rattle.vm_model.specs.Space.{pages_of}
use Rattle.vm_model.specs.Setup.{Setup}
use Rattle.vm_model.specs.PlainMap.{PlainMap}
use Rattle.vm_model.specs.Chunks.{ObjectAt, copy_at}
use Rattle.vm_model.specs.Frames.{free_frames, give_frames, sum_words}
use Rattle.page_pool.specs.PageMap.{Pages, free_of}
use Rattle.page_pool.specs.Units.{pages_at, bytes_at, with_zeroed, with_added, word_of, sum_of}
use Rattle.page_pool.specs.PlainMapPages.{pages_in, HasCells}
use Rattle.page_pool.proofs.SharedFrames.{setup}
use Rattle.page_pool.proofs.laws.sections.Goals as goal

free_in : (c : Setup) (m : PlainMap) → HasCells c m → free_of (pages_in m) ≡ free_frames c m.frames
free_in c m cells = let frames : length m.cells / 1024 ≡ c.frames = omega arith in ap (λ n. free_frames (setup n) m.frames) frames

pub returns : goal.returns
returns c = record {
  begins = λ setup room. refl;
  free = free_in;
  maps = λ setup m caller s cells. ap (λ free. with_frames m (give_frames (pages_of s) free m.frames)) (free_in setup m cells);
  unmaps = λ setup m caller s. refl;
  flushes = λ setup m caller s. refl;
  populates = λ setup m caller at missing cells.
      ap (λ free. with_zeroed at.base setup.units at.off at.bytes (with_frames m (give_frames (pages_at at.base setup.units missing) free m.frames))) (free_in setup m cells);
  fills = λ setup m caller base page cells. ap (λ free. with_frames m (give_frames (pages_at base setup.units (page ∷ [])) free m.frames)) (free_in setup m cells);
  depopulates = λ setup m caller base pages. refl;
  zeroes = λ setup m caller at. refl;
  adds = λ setup m caller at serial cpu index amount. ap (λ byte. with_added byte amount (pages_in m)) (byte_of at (slice_index setup.units cpu) index);
  sums = λ setup m at index. summed m at index setup.units;
}
  where
    byte_of : (at : ObjectAt) (unit index : ℕ) → 4096 * (at.base + unit) + (at.off + 4 * index) ≡ copy_at at unit + 4 * index
    byte_of at unit index = omega arith

    summed : (m : PlainMap) (at : ObjectAt) (index : ℕ) (units : List ℕ)
        → sum_of (pages_in m) (bytes_at at.base units (at.off + 4 * index)) ≡ sum_words m.frames m.cells (map (λ unit. copy_at at unit + 4 * index) units)
    summed m at index [] = refl
    summed m at index (unit ∷ units) =
        ap (λ byte. word_of (pages_in m) byte +ℤ sum_of (pages_in m) (bytes_at at.base units (at.off + 4 * index))) (byte_of at unit index)
        ∙ ap (λ rest. word_of (pages_in m) (copy_at at unit + 4 * index) +ℤ rest) (summed m at index units)

    with_frames : PlainMap → List (Option ℕ) → Pages
    with_frames m frames = record (pages_in m) { frames = frames }
