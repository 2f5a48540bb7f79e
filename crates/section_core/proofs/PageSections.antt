-- The sections over the pages and words of per-CPU objects.
use Rattle.std.proofs.Common.{◌≡◌, ℕ, ◌+◌, ◌*◌, ◌/◌, ◌<◌, ◌≤◌, ◌==◌, ◌&&◌, ◌⊎◌, inl, inr, Bool, true, false, not, nat_lt, nat_le, if◌then◌else◌, List, [], ◌∷◌, length, filter, map, slice_index, slice_get, Some, None, ℤ, ◌+ℤ◌, refl, ap, sym, ◌∙◌, arith}
use Rattle.std.proofs.lemmas.Bool.Decides.{nat_tests}
use Rattle.vm_model.specs.declared.calls.Reply.TheVariants as reply
use Rattle.vm_model.specs.Space.{count_from, is_among, one_if}
use Rattle.vm_model.specs.declared.areas.PageSet.{PageSet}
use Rattle.vm_model.specs.PageSets.{has_page}
use Rattle.vm_model.specs.PageSets.{pages_in as pages_set}
use Rattle.vm_model.specs.Carried.{count_of}
use Rattle.vm_model.proofs.Tabulated.{filter-same}
use Rattle.map_laws.proofs.blocks.BlockFacts.{count_cons, among_count}
use Rattle.map_laws.proofs.PlaceMoves.{given_all, given_still}
use Rattle.chunk_slots.proofs.PagesInRow.{inside, from_before}
use Rattle.vm_model.specs.Setup.{pages_in_units}
use Rattle.vm_model.specs.PlainMap.{PlainMap}
use Rattle.vm_model.specs.Frames.{is_used, free_frames, give_frames, sum_words}
use Rattle.vm_model.specs.Chunks.{ObjectAt, copy_at}
use Rattle.vm_model.specs.Effects.{effect_as}
use Rattle.vm_model.specs.Events.{Section, Populate, Fill, NoFrames, Depopulate, Zero, AddWord, SumWords}
use Rattle.vm_model.specs.Places.{Place, MadeNothing, Populating, SettlingObject, Unplacing, GivingAlloc, Zeroing, SettlingAtomic, Adding, Summing, Depopulating, UnlinkingGroups, Filling, NotingFilled, ask}
use Rattle.vm_model.specs.Given.{given, with_frames}
use Rattle.vm_model.specs.Next.{Next, Go, just, next}
use Rattle.vm_model.specs.History.{Local, moved_to}
use Rattle.vm_model.specs.Parts.{map_with}
use Rattle.page_pool.specs.PageMap.{Pages, free_of, IsMapped}
use Rattle.page_pool.specs.Units.{AreDistinct, pages_at, bytes_at, with_frames_for, without_frames_for, with_zeroed, with_added, word_of, sum_of}
use Rattle.page_pool.specs.PlainMapPages.{pages_in}
use Rattle.section_core.specs.MadeSections.{IsMoved}
use Rattle.section_core.specs.RegionSides.{pages_region}
use Rattle.section_core.proofs.Moved.{moved_as}

-- pages of which each stands once
pub distinct_once : (pages : List ℕ) → ((page : ℕ) → count_of page pages ≤ 1) → AreDistinct pages
distinct_once [] once = tt
distinct_once (page ∷ pages) once =
    (by (is_among pages page) refl, distinct_once pages (λ other. (let few = once other in omega (arith, count_cons other page pages))))
  where
    by : (b : Bool) → is_among pages page ≡ b → is_among pages page ≡ false
    by false e = e
    by true e =
        let here : (page == page) ≡ true = grind (arith, nat_tests) in
        let few = once page in absurd (omega (arith, count_cons page page pages, ap one_if here, among_count page pages e))

-- where each of some pages has a frame or gets one, all are mapped then
pub mapped_then : (p : Pages) (pages : List ℕ) (page : ℕ) → length pages ≤ length (free_of p) → ((other : ℕ) → is_among pages other ≡ true → slice_get p.frames other ≡ Some None)
    → (is_among pages page ≡ true) ⊎ ((frame : ℕ) × (slice_get p.frames page ≡ Some (Some frame))) → IsMapped (with_frames_for pages p) page
mapped_then p pages page low unmapped is = elim is [
  | inl among ↦ given_all pages (free_of p) p.frames page None among low (unmapped page among)
  | inr mapped ↦ given_still pages (free_of p) p.frames page mapped.0 mapped.1
]

-- a set of one page
pub one_page : (set : PageSet) (page : ℕ) → page < 64 → ((other : ℕ) → other < 64 → has_page set other ≡ (nat_le page other && nat_lt other (page + 1))) → pages_set set ≡ page ∷ []
unfolding pages_set
one_page set page low is = filter-same (has_page set) (inside page (page + 1)) 64 0 (λ other a b. is other (omega arith)) ∙ from_before page 1 64 0 (omega arith) (omega arith)

module _ (l : Local) (p : Pages) (memory : length p.cells ≡ 1024 * l.setup.frames) where
  abbrev here : PlainMap
  here = map_with l.setup (pages_region p)

  free_are : free_of p ≡ free_frames l.setup p.frames
  free_are = let frames : length p.cells / 1024 ≡ l.setup.frames = omega arith in ap (λ n. filter (λ frame. not (is_used frame p.frames)) (count_from n 0)) frames

  moved_pages : (q : Place) (s : Section) (n : Next) (l' : Local) (p' : Pages) → l.place ≡ q → given l.setup here (ask l.setup q) ≡ Some s → next l.setup q s ≡ n → l' ≡ moved_to l n → p' ≡ pages_in (effect_as l.setup here l.caller s)
      → IsMoved l (pages_region p) l' (pages_region p')
  moved_pages q s n l' p' at told on local left = moved_as l (pages_region p) q s n l' (pages_region p') at told on local (ap pages_region left)

  -- a section that needs frames has them, or there are too few
  enough : (asked : ℕ) (s : Section) → asked ≤ length (free_of p) → with_frames l.setup here asked s ≡ s
  enough asked s low = ap (λ b. if b then NoFrames asked else s) (let few : nat_lt (length (free_frames l.setup p.frames)) asked ≡ false = (let wide = ap length free_are in grind (arith, nat_tests)) in few)

  too_few : (asked : ℕ) (s : Section) → length (free_of p) < asked → with_frames l.setup here asked s ≡ NoFrames asked
  too_few asked s low = ap (λ b. if b then NoFrames asked else s) (let few : nat_lt (length (free_frames l.setup p.frames)) asked ≡ true = (let wide = ap length free_are in grind (arith, nat_tests)) in few)

  pub populates : (at : ObjectAt) (missing : List ℕ) (l' : Local) (p' : Pages) → l.place ≡ Populating at missing → length (pages_at at.base l.setup.units missing) ≤ length (free_of p) → l' ≡ moved_to l (Go (SettlingObject at))
      → p' ≡ with_zeroed at.base l.setup.units at.off at.bytes (with_frames_for (pages_at at.base l.setup.units missing) p) → IsMoved l (pages_region p) l' (pages_region p')
  populates at missing l' p' place low local left =
      moved_pages (Populating at missing) (Populate at missing) (Go (SettlingObject at)) l' p' place (ap (λ s. Some s) (enough (length (pages_in_units l.setup at.base missing)) (Populate at missing) low)) refl local
      (left ∙ ap (λ free. with_zeroed at.base l.setup.units at.off at.bytes (given_frames (pages_at at.base l.setup.units missing) free)) free_are)
    where
      given_frames : List ℕ → List ℕ → Pages
      given_frames pages free = record p { frames = give_frames pages free p.frames }

  pub populates_none : (at : ObjectAt) (missing : List ℕ) (l' : Local) → l.place ≡ Populating at missing → length (free_of p) < length (pages_at at.base l.setup.units missing) → l' ≡ moved_to l (Go (Unplacing at))
      → IsMoved l (pages_region p) l' (pages_region p)
  populates_none at missing l' place low local =
      moved_pages (Populating at missing) (NoFrames (length (pages_in_units l.setup at.base missing))) (Go (Unplacing at)) l' p place
      (ap (λ s. Some s) (too_few (length (pages_in_units l.setup at.base missing)) (Populate at missing) low)) refl local refl

  pub fills : (chunk base page filled : ℕ) (l' : Local) (p' : Pages) → l.place ≡ Filling chunk base page filled → length (pages_at base l.setup.units (page ∷ [])) ≤ length (free_of p) → l' ≡ moved_to l (Go (NotingFilled chunk page filled))
      → p' ≡ with_frames_for (pages_at base l.setup.units (page ∷ [])) p → IsMoved l (pages_region p) l' (pages_region p')
  fills chunk base page filled l' p' place low local left =
      moved_pages (Filling chunk base page filled) (Fill base page) (Go (NotingFilled chunk page filled)) l' p' place (ap (λ s. Some s) (enough (length (pages_in_units l.setup base (page ∷ []))) (Fill base page) low)) refl local
      (left ∙ ap (λ free. given_frames (pages_at base l.setup.units (page ∷ [])) free) free_are)
    where
      given_frames : List ℕ → List ℕ → Pages
      given_frames pages free = record p { frames = give_frames pages free p.frames }

  pub fills_none : (chunk base page filled : ℕ) (l' : Local) → l.place ≡ Filling chunk base page filled → length (free_of p) < length (pages_at base l.setup.units (page ∷ [])) → l' ≡ moved_to l (Go (GivingAlloc reply.NoFrames MadeNothing))
      → IsMoved l (pages_region p) l' (pages_region p)
  fills_none chunk base page filled l' place low local =
      moved_pages (Filling chunk base page filled) (NoFrames (length (pages_in_units l.setup base (page ∷ [])))) (Go (GivingAlloc reply.NoFrames MadeNothing)) l' p place
      (ap (λ s. Some s) (too_few (length (pages_in_units l.setup base (page ∷ []))) (Fill base page) low)) refl local refl

  pub depopulates : (base : ℕ) (populated : List ℕ) (l' : Local) (p' : Pages) → l.place ≡ Depopulating base populated → l' ≡ moved_to l (Go (UnlinkingGroups base))
      → p' ≡ without_frames_for (pages_at base l.setup.units populated) p → IsMoved l (pages_region p) l' (pages_region p')
  depopulates base populated l' p' place local left = moved_pages (Depopulating base populated) (Depopulate base populated) (Go (UnlinkingGroups base)) l' p' place refl refl local left

  pub zeroes : (at : ObjectAt) (l' : Local) (p' : Pages) → l.place ≡ Zeroing at → l' ≡ moved_to l (Go (SettlingAtomic at)) → p' ≡ with_zeroed at.base l.setup.units at.off at.bytes p → IsMoved l (pages_region p) l' (pages_region p')
  zeroes at l' p' place local left = moved_pages (Zeroing at) (Zero at) (Go (SettlingAtomic at)) l' p' place refl refl local left

  byte_of : (base unit off index : ℕ) → 4096 * (base + unit) + (off + 4 * index) ≡ 4096 * (base + unit) + off + 4 * index
  byte_of base unit off index = omega arith

  pub adds : (at : ObjectAt) (serial cpu index : ℕ) (amount : ℤ) (l' : Local) (p' : Pages) → l.place ≡ Adding at serial cpu index amount → l' ≡ moved_to l (just reply.Done)
      → p' ≡ with_added (4096 * (at.base + slice_index l.setup.units cpu) + (at.off + 4 * index)) amount p → IsMoved l (pages_region p) l' (pages_region p')
  adds at serial cpu index amount l' p' place local left =
      moved_pages (Adding at serial cpu index amount) (AddWord at serial cpu index amount) (just reply.Done) l' p' place refl refl local
      (left ∙ ap (λ byte. with_added byte amount p) (byte_of at.base (slice_index l.setup.units cpu) at.off index))

  summed : (at : ObjectAt) (index : ℕ) (units : List ℕ) → sum_words p.frames p.cells (map (λ unit. copy_at at unit + 4 * index) units) ≡ sum_of p (bytes_at at.base units (at.off + 4 * index))
  summed at index [] = refl
  summed at index (unit ∷ units) =
      ap (λ byte. word_of p byte +ℤ sum_words p.frames p.cells (map (λ unit. copy_at at unit + 4 * index) units)) (sym (byte_of at.base unit at.off index))
      ∙ ap (λ rest. word_of p (4096 * (at.base + unit) + (at.off + 4 * index)) +ℤ rest) (summed at index units)

  pub sums : (at : ObjectAt) (serial index : ℕ) (total : ℤ) (l' : Local) → l.place ≡ Summing at serial index → total ≡ sum_of p (bytes_at at.base l.setup.units (at.off + 4 * index)) → l' ≡ moved_to l (just (reply.Sum total)) → IsMoved l (pages_region p) l' (pages_region p)
  sums at serial index total l' place told local =
      moved_pages (Summing at serial index) (SumWords at serial index total) (just (reply.Sum total)) l' p place
      (ap (λ z. Some (SumWords at serial index z)) (summed at index l.setup.units ∙ sym told)) refl local refl
