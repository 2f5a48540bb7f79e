-- Memory has as many cells as at first, and the page map as many pages, whatever happens.
use Rattle.std.proofs.Common.{◌≡◌, ℕ, ◌+◌, ◌*◌, List, [], ◌∷◌, length, map, slice_index, Option, Some, None, ℤ, pos, refl, ◌∙◌, length-set}
use Rattle.std.proofs.lemmas.List.{length-replicate}
use Rattle.vm_model.specs.declared.calls.Call.{Call}
use Rattle.vm_model.specs.declared.areas.Span.{Span}
use Rattle.vm_model.specs.Space.{span, holds, pages_of}
use Rattle.vm_model.specs.Setup.{Setup, pages_in_units}
use Rattle.vm_model.specs.PlainMap.{PlainMap}
use Rattle.vm_model.specs.Frames.{free_frames, frame_of, cell_of, write_cell, words_in_page, pages_of_bytes, zero_frame, zero_pages, zero_words}
use Rattle.vm_model.specs.Chunks.{copy_at}
use Rattle.vm_model.specs.Effects.{effect_as}
use Rattle.vm_model.specs.Events.{Section, Refuse, TakePurge, GivePurge, TakeAlloc, GiveAlloc, Carve, CarveGroups, NoHole, Drop, Return, Settle, Remove, AreaNotLive, Unlink, Wait, TakeWaiting, MapPages, Populate, Fill, NoFrames, Unmap, Depopulate, Flush, Zero, AddWord, SumWords, PlaceObject, NoPlace, AddChunk, PlaceAtomic, NoAtomic, SettleObject, Unplace, FreeObject, ObjectNotLive, Spare, NoSpare, NextPage, Enough, Filled, CutPart, NoPart, AddBlock, SettlePart, BeginUnmap, PartNotLive, Retire, Fragment, Dirty}
use Rattle.vm_model.specs.History.{World}
use Rattle.vm_model.specs.LegalHistory.{IsReached}
use Rattle.vm_model.proofs.PaintRuns.{length-paint}
use Rattle.map_laws.proofs.KeptThroughSteps.{lasts}
use Rattle.map_laws.proofs.PlaceMoves.{length-give_frames}

length-write_cell : (cells : List ℤ) (cell : Option ℕ) (value : ℤ) → length (write_cell cells cell value) ≡ length cells
length-write_cell cells None value = refl
length-write_cell cells (Some cell) value = length-set cells cell value

length-zero_frame : (frame : Option ℕ) (words : Span) (cells : List ℤ) → length (zero_frame frame words cells) ≡ length cells
length-zero_frame None words cells = refl
length-zero_frame (Some frame) words cells = length-paint (holds (span (1024 * frame + words.start) words.pages)) (pos 0) cells

length-zero_pages : (frames : List (Option ℕ)) (unit off bytes : ℕ) (pages : List ℕ) (cells : List ℤ) → length (zero_pages frames unit off bytes pages cells) ≡ length cells
length-zero_pages frames unit off bytes [] cells = refl
length-zero_pages frames unit off bytes (page ∷ pages) cells =
    length-zero_pages frames unit off bytes pages (zero_frame (frame_of frames (unit + page)) (words_in_page off bytes page) cells)
    ∙ length-zero_frame (frame_of frames (unit + page)) (words_in_page off bytes page) cells

length-zero_words : (frames : List (Option ℕ)) (units : List ℕ) (off bytes : ℕ) (cells : List ℤ) → length (zero_words frames units off bytes cells) ≡ length cells
length-zero_words frames [] off bytes cells = refl
length-zero_words frames (unit ∷ units) off bytes cells =
    length-zero_words frames units off bytes (zero_pages frames unit off bytes (pages_of_bytes off bytes) cells) ∙ length-zero_pages frames unit off bytes (pages_of_bytes off bytes) cells

-- no section changes how many there are
effect_cells : (c : Setup) (m : PlainMap) (k : ℕ) (s : Section) → length (effect_as c m k s).cells ≡ length m.cells
effect_cells c m k Refuse = refl
effect_cells c m k TakePurge = refl
effect_cells c m k GivePurge = refl
effect_cells c m k TakeAlloc = refl
effect_cells c m k GiveAlloc = refl
effect_cells c m k (Carve place align) = refl
effect_cells c m k (CarveGroups base) = refl
effect_cells c m k (NoHole search) = refl
effect_cells c m k (Drop s) = refl
effect_cells c m k (Return spans) = refl
effect_cells c m k (Settle areas first) = refl
effect_cells c m k (Remove start serial area) = refl
effect_cells c m k (AreaNotLive start serial) = refl
effect_cells c m k (Unlink starts) = refl
effect_cells c m k (Wait spans waiting) = refl
effect_cells c m k (TakeWaiting all) = refl
effect_cells c m k (MapPages s) = refl
effect_cells c m k (Populate at missing) = length-zero_words _ (map (λ unit. at.base + unit) c.units) at.off at.bytes m.cells
effect_cells c m k (Fill base page) = refl
effect_cells c m k (NoFrames asked) = refl
effect_cells c m k (Unmap s) = refl
effect_cells c m k (Depopulate base pages) = refl
effect_cells c m k (Flush s) = refl
effect_cells c m k (Zero at) = length-zero_words m.frames (map (λ unit. at.base + unit) c.units) at.off at.bytes m.cells
effect_cells c m k (AddWord at serial cpu index amount) = length-write_cell m.cells (cell_of m.frames (copy_at at (slice_index c.units cpu) + 4 * index)) _
effect_cells c m k (SumWords at serial index total) = refl
effect_cells c m k (PlaceObject at align missing) = refl
effect_cells c m k (NoPlace bytes align next) = refl
effect_cells c m k (AddChunk chunk base at align missing) = refl
effect_cells c m k (PlaceAtomic at align) = refl
effect_cells c m k (NoAtomic bytes align) = refl
effect_cells c m k (SettleObject at serial) = refl
effect_cells c m k (Unplace at) = refl
effect_cells c m k (FreeObject at serial) = refl
effect_cells c m k (ObjectNotLive at serial) = refl
effect_cells c m k (Spare chunk base populated) = refl
effect_cells c m k NoSpare = refl
effect_cells c m k (NextPage chunk base page) = refl
effect_cells c m k Enough = refl
effect_cells c m k (Filled chunk page) = refl
effect_cells c m k (CutPart at) = refl
effect_cells c m k (NoPart cpu pages) = refl
effect_cells c m k (AddBlock at) = refl
effect_cells c m k (SettlePart at serial) = refl
effect_cells c m k (BeginUnmap at serial) = refl
effect_cells c m k (PartNotLive cpu page serial) = refl
effect_cells c m k (Retire at spent) = refl
effect_cells c m k (Fragment cpu gone) = refl
effect_cells c m k (Dirty cpu hull) = refl

pub memory_reached : (c : Setup) (opening : List Call) (calls : List (List Call)) (w : World) → IsReached c opening calls w → length w.map.cells ≡ 1024 * c.frames
memory_reached c opening calls w reached =
    (lasts c opening calls (λ v. length v.map.cells ≡ 1024 * c.frames) (length-replicate (1024 * c.frames) (pos 0))
    (record { steps = λ v k l s framed h step. effect_cells l.setup v.map l.caller s ∙ h; joins = λ v framed one h over. h }) w reached).1

-- nor the pages of the page map
effect_frames : (c : Setup) (m : PlainMap) (k : ℕ) (s : Section) → length (effect_as c m k s).frames ≡ length m.frames
effect_frames c m k (MapPages s) = length-give_frames (pages_of s) (free_frames c m.frames) m.frames
effect_frames c m k (Populate at missing) = length-give_frames (pages_in_units c at.base missing) (free_frames c m.frames) m.frames
effect_frames c m k (Fill base page) = length-give_frames (pages_in_units c base (page ∷ [])) (free_frames c m.frames) m.frames
effect_frames c m k (Unmap s) = length-paint _ None m.frames
effect_frames c m k (Depopulate base pages) = length-paint _ None m.frames
effect_frames c m k _ = refl

pub pages_reached : (c : Setup) (opening : List Call) (calls : List (List Call)) (w : World) → IsReached c opening calls w → length w.map.frames ≡ c.space
pages_reached c opening calls w reached =
    (lasts c opening calls (λ v. length v.map.frames ≡ c.space) (length-replicate c.space None)
    (record { steps = λ v k l s framed h step. effect_frames l.setup v.map l.caller s ∙ h; joins = λ v framed one h over. h }) w reached).1
