-- Words that are 0, when they are set to 0.
use Rattle.std.proofs.Common.{◌≡◌, ℕ, ◌+◌, ◌*◌, List, [], ◌∷◌, Option, Some, None, ℤ, pos, refl, ap, ◌∙◌}
use Rattle.vm_model.specs.declared.areas.Span.{Span}
use Rattle.vm_model.specs.Space.{span, holds}
use Rattle.vm_model.specs.Frames.{frame_of, pages_of_bytes, words_in_page, zero_frame, zero_pages, zero_words}
use Rattle.page_pool.specs.PageMap.{Pages}
use Rattle.page_pool.specs.Units.{units_at, with_zeroed}
use Rattle.page_pool.specs.MemoryWords.{AreBlank}
use Rattle.page_pool.proofs.Painting.{paint-again}

zero_frame-blank : (frame : Option ℕ) (words : Span) (cells : List ℤ) → AreBlank cells → zero_frame frame words cells ≡ cells
zero_frame-blank None words cells blank = refl
zero_frame-blank (Some frame) words cells blank = paint-again (holds (span (1024 * frame + words.start) words.pages)) (pos 0) cells (λ cell held low. blank cell low)

zero_pages-blank : (frames : List (Option ℕ)) (unit off bytes : ℕ) (pages : List ℕ) (cells : List ℤ) → AreBlank cells → zero_pages frames unit off bytes pages cells ≡ cells
zero_pages-blank frames unit off bytes [] cells blank = refl
zero_pages-blank frames unit off bytes (page ∷ pages) cells blank =
    ap (zero_pages frames unit off bytes pages) (zero_frame-blank (frame_of frames (unit + page)) (words_in_page off bytes page) cells blank) ∙ zero_pages-blank frames unit off bytes pages cells blank

zero_words-blank : (frames : List (Option ℕ)) (units : List ℕ) (off bytes : ℕ) (cells : List ℤ) → AreBlank cells → zero_words frames units off bytes cells ≡ cells
zero_words-blank frames [] off bytes cells blank = refl
zero_words-blank frames (unit ∷ units) off bytes cells blank =
    ap (zero_words frames units off bytes) (zero_pages-blank frames unit off bytes (pages_of_bytes off bytes) cells blank) ∙ zero_words-blank frames units off bytes cells blank

pub zeroed-blank : (base : ℕ) (units : List ℕ) (off bytes : ℕ) (p : Pages) → AreBlank p.cells → with_zeroed base units off bytes p ≡ p
zeroed-blank base units off bytes p blank = ap (λ (cells : List ℤ). record p { cells = cells }) (zero_words-blank p.frames (units_at base units) off bytes p.cells blank)
