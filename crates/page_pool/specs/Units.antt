-- Pages of the units of the processors, and the words in them.
use Rattle.std.specs.Prelude.{◌≡◌, ℕ, ◌+◌, ◌*◌, true, false, None, List, [], ◌∷◌, map, flat_map, slice_set, ℤ}
use Rattle.vm_model.specs.Space.{is_among, paint}
use Rattle.vm_model.specs.Frames.{give_frames, word_at, zero_words, add_word, sum_words}
use Rattle.page_pool.specs.PageMap.{Pages, IsBare, free_of}

-- pages of a unit in the units that begin so many pages from the base on, by unit and then as listed
abbrev pub pages_in_unit : (base unit : ℕ) → List ℕ → List ℕ
pages_in_unit base unit pages = map (λ page. base + unit + page) pages

abbrev pub pages_at : (base : ℕ) (units pages : List ℕ) → List ℕ
pages_at base units pages = flat_map (λ unit. pages_in_unit base unit pages) units

-- no page stands twice in the list
abbrev pub AreDistinct : List ℕ → Type 0
AreDistinct [] = Unit {0}
AreDistinct (page ∷ pages) = (is_among pages page ≡ false) × AreDistinct pages

-- each of the pages is bare, and none stands twice
abbrev pub AreBareOnce : List ℕ → Pages → Type 0
AreBareOnce [] p = Unit {0}
AreBareOnce (page ∷ pages) p = IsBare p page × (is_among pages page ≡ false) × AreBareOnce pages p

-- the pages get the lowest free frames, in this order
abbrev pub with_frames_for : List ℕ → Pages → Pages
with_frames_for pages p = record p { frames = give_frames pages (free_of p) p.frames }

-- a page loses its frame and becomes stale, and so do all of a list
abbrev pub without_frame : (page : ℕ) → Pages → Pages
without_frame page p = record p { frames = slice_set p.frames page None; stale = slice_set p.stale page true }

abbrev pub without_frames_for : List ℕ → Pages → Pages
without_frames_for pages p = record p { frames = paint (is_among pages) None p.frames; stale = paint (is_among pages) true p.stale }

-- the first pages of the units, and the byte at an offset of each
abbrev pub units_at : (base : ℕ) (units : List ℕ) → List ℕ
units_at base units = map (λ unit. base + unit) units

abbrev pub bytes_at : (base : ℕ) (units : List ℕ) (off : ℕ) → List ℕ
bytes_at base units off = map (λ unit. 4096 * (base + unit) + off) units

-- the words from an offset on are 0 in each of the units
abbrev pub with_zeroed : (base : ℕ) (units : List ℕ) (off bytes : ℕ) → Pages → Pages
with_zeroed base units off bytes p = record p { cells = zero_words p.frames (units_at base units) off bytes p.cells }

-- the word at a byte of the space, and the same pages where an amount is added to it
abbrev pub word_of : Pages → (byte : ℕ) → ℤ
word_of p byte = word_at p.frames p.cells byte

abbrev pub with_added : (byte : ℕ) → ℤ → Pages → Pages
with_added byte amount p = record p { cells = add_word p.frames byte amount p.cells }

-- the words at some bytes, added up
abbrev pub sum_of : Pages → List ℕ → ℤ
sum_of p bytes = sum_words p.frames p.cells bytes
