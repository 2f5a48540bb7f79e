-- What is kept beside the pages, at first and when pages are mapped.
use Rattle.std.proofs.Common.{◌≡◌, ℕ, zero, suc, ◌+◌, ◌-◌, ◌*◌, ◌/◌, ◌<◌, ◌≤◌, ◌^◌, ℤ, Bool, true, false, cond, List, [], ◌∷◌, length, count_by, drop, replicate, get_or, slice_get, slice_set, Option, Some, None, is_some, pos, refl, ap, sym, ◌∙◌, subst, arith}
use Rattle.std.proofs.lemmas.Bool.Decides.{nat_tests}
use Rattle.std.proofs.lemmas.List.{length-replicate, length-set}
use Rattle.std.proofs.lemmas.List.Sums.{sum_by-cons, count_by-le-length}
use Rattle.std.proofs.lemmas.Option.{slice_get-get_or}
use Rattle.vm_model.specs.declared.areas.Span.{Span}
use Rattle.vm_model.specs.Space.{holds, count_from, pages_of, paint, put_by}
use Rattle.vm_model.specs.Frames.{give_frames, free_frames}
use Rattle.vm_model.proofs.Search.{length-count_from}
use Rattle.vm_model.proofs.FramesGiven.{unmapped_in_order, length-give_frames, count-give_frames, free_frames-at_first, count_mapped-at_first}
use Rattle.vm_model.proofs.Paint.{length-paint_from}
use Rattle.page_pool.specs.FrameList.{FrameList, has_frame, times_used, AreShared}
use Rattle.page_pool.proofs.SharedFrames.{setup, shared_taken, shared_back, count-unmapped}
use Rattle.page_pool.specs.PageMap.{Pages, memory, free_of, IsKept}

abbrev frame_list : List ℕ → ℕ → FrameList
frame_list numbers memory = record { numbers = numbers; memory = memory }

-- Frames are given page by page.

pub give_frames-next : (end page frame : ℕ) (free rest : List ℕ) (frames : List (Option ℕ)) → page < end → free ≡ frame ∷ rest
    → give_frames (count_from (end - (page + 1)) (page + 1)) rest (slice_set frames page (Some frame)) ≡ give_frames (count_from (end - page) page) free frames
give_frames-next end page frame free rest frames h is =
    let next : page + 1 ≡ suc page = omega arith in
    let more : end - page ≡ suc (end - (page + 1)) = omega arith in
    ap (λ p. give_frames (count_from (end - (page + 1)) p) rest (slice_set frames page (Some frame))) next
    ∙ sym (ap (λ n. give_frames (count_from n page) free frames) more ∙ ap (λ fs. give_frames (count_from (suc (end - (page + 1))) page) fs frames) is)

drop-next : (k : ℕ) (xs : List ℕ) (x : ℕ) (rest : List ℕ) → drop k xs ≡ x ∷ rest → drop (suc k) xs ≡ rest
drop-next zero [] x rest h = cc
drop-next (suc k) [] x rest h = cc
drop-next zero (y ∷ xs) x rest h = cc
drop-next (suc k) (y ∷ xs) x rest h = drop-next k xs x rest h

pub frames_left : (low page frame : ℕ) (initial free new : FrameList) → low ≤ page → free ≡ record initial { numbers = drop (page - low) initial.numbers } → free ≡ record new { numbers = frame ∷ new.numbers }
    → new ≡ record initial { numbers = drop (page + 1 - low) initial.numbers }
frames_left low page frame initial free new h left taken =
    let numbers : drop (suc (page - low)) initial.numbers ≡ new.numbers = drop-next (page - low) initial.numbers frame new.numbers (ap (λ (f : FrameList). f.numbers) (sym left ∙ taken)) in
    let more : suc (page - low) ≡ page + 1 - low = omega arith in
    ap (λ ns. frame_list ns new.memory) (sym numbers ∙ ap (λ k. drop k initial.numbers) more)
    ∙ ap (frame_list (drop (page + 1 - low) initial.numbers)) (ap (λ (f : FrameList). f.memory) (sym taken ∙ left))

pub none_left : (low : ℕ) (free : FrameList) → free ≡ record free { numbers = drop (low - low) free.numbers }
none_left low free = ap (λ k. frame_list (drop k free.numbers) free.memory) (let e : 0 ≡ low - low = omega arith in e)

pub all_left : (s : Span) (free : List ℕ) (frames : List (Option ℕ)) → give_frames (count_from (s.start + s.pages - s.start) s.start) free frames ≡ give_frames (pages_of s) free frames
all_left s free frames = ap (λ n. give_frames (count_from n s.start) free frames) (let e : s.start + s.pages - s.start ≡ s.pages = omega arith in e)

-- What is kept.

none_used : (frame space : ℕ) → times_used frame (replicate space None) ≡ 0
none_used frame zero = refl
none_used frame (suc space) = omega (arith, none_used frame space, sum_by-cons (λ (o : Option ℕ). cond (has_frame frame o) 1 0) None (replicate space None))

shared_first : (space frames : ℕ) → AreShared (replicate space None) (record { numbers = count_from frames 0; memory = frames })
shared_first space frames = record {
  numbers = sym (free_frames-at_first (setup frames) space);
  own = λ frame. omega (arith, none_used frame space);
}

first : (space frames : ℕ) → space < 2 ^ 32
    → IsKept (record { frames = replicate space None; stale = replicate space false; cells = replicate (1024 * frames) (pos 0) }) (record { numbers = count_from frames 0; memory = frames }) 0
first space frames small = record {
  shared = shared_first space frames;
  all = omega (arith, length-replicate (1024 * frames) (pos 0));
  count = sym (count_mapped-at_first space);
  space = omega (arith, length-replicate {A = Option ℕ} space None);
  alike = length-replicate space false ∙ sym (length-replicate {A = Option ℕ} space None);
}

pub kept_first : (space frames : ℕ) (p : Pages) (free : FrameList) → space < 2 ^ 32 → p.frames ≡ replicate space None → p.stale ≡ replicate space false → p.cells ≡ replicate (1024 * frames) (pos 0)
    → free ≡ record { numbers = count_from frames 0; memory = frames } → IsKept p free 0
kept_first space frames p free small unmapped clean unwritten frees =
    subst (λ fs. IsKept (record { frames = fs; stale = p.stale; cells = p.cells }) free 0) (sym unmapped)
    (subst (λ ss. IsKept (record { frames = replicate space None; stale = ss; cells = p.cells }) free 0) (sym clean)
    (subst (λ cs. IsKept (record { frames = replicate space None; stale = replicate space false; cells = cs }) free 0) (sym unwritten)
    (subst (λ f. IsKept (record { frames = replicate space None; stale = replicate space false; cells = replicate (1024 * frames) (pos 0) }) f 0) (sym frees) (first space frames small))))

count_mapped : (s : Span) (free : List ℕ) (frames : List (Option ℕ)) → ((page : ℕ) → holds s page ≡ true → slice_get frames page ≡ Some None) → s.pages ≤ length free
    → count_by is_some (give_frames (pages_of s) free frames) ≡ count_by is_some frames + s.pages
count_mapped s free frames unmapped enough =
    let each = unmapped_in_order s.pages s.start frames (λ page low high. unmapped page (grind (arith, nat_tests))) in
    let pages : length (pages_of s) ≡ s.pages = length-count_from s.pages s.start in
    omega (arith, count-give_frames (pages_of s) free frames each (omega arith))

-- the count of mapped pages stays small
pub mapped_fits : (p : Pages) (free : FrameList) (mapped : ℕ) (s : Span) → IsKept p free mapped → ((page : ℕ) → holds s page ≡ true → slice_get p.frames page ≡ Some None) → s.pages ≤ length free.numbers
    → mapped + s.pages < 2 ^ 32
mapped_fits p free mapped s kept unmapped enough =
    let given = give_frames (pages_of s) free.numbers p.frames in
    omega (arith, kept.count, kept.space, count_mapped s free.numbers p.frames unmapped enough, count_by-le-length (is_some {T = ℕ}) given, length-give_frames (pages_of s) free.numbers p.frames)

-- pages that were mapped, in a part that is written back
pub kept_mapped : (p : Pages) (free new_free : FrameList) (mapped : ℕ) (s : Span) (new : List (Option ℕ)) → IsKept p free mapped → ((page : ℕ) → holds s page ≡ true → slice_get p.frames page ≡ Some None)
    → s.pages ≤ length free.numbers → new ≡ give_frames (pages_of s) free.numbers p.frames → new_free ≡ record free { numbers = drop s.pages free.numbers } → AreShared new new_free
    → IsKept (record p { frames = new }) new_free (mapped + s.pages)
kept_mapped p free new_free mapped s new kept unmapped enough given left shared =
    let long : length new ≡ length p.frames = ap length given ∙ length-give_frames (pages_of s) free.numbers p.frames in
    let count : count_by is_some new ≡ count_by is_some p.frames + s.pages = ap (count_by is_some) given ∙ count_mapped s free.numbers p.frames unmapped enough in
    record {
      shared = shared;
      all = ap (λ (f : FrameList). f.memory) left ∙ kept.all;
      count = omega (arith, kept.count);
      space = omega (arith, kept.space);
      alike = kept.alike ∙ sym long;
    }

-- pages that were unmapped, in a part that is written back
pub kept_unmapped : (p : Pages) (free new_free : FrameList) (mapped : ℕ) (s : Span) (new : List (Option ℕ)) (stale : List Bool) → IsKept p free mapped
    → new ≡ paint (holds s) None p.frames → AreShared new new_free → new_free.memory ≡ free.memory → count_by is_some new + s.pages ≡ count_by is_some p.frames → stale ≡ paint (holds s) true p.stale
    → IsKept (record p { frames = new; stale = stale }) new_free (mapped - s.pages)
kept_unmapped p free new_free mapped s new stale kept painted shared memory count marked =
    let long : length new ≡ length p.frames = ap length painted ∙ length-paint_from (holds s) None p.frames 0 in
    record {
      shared = shared;
      all = memory ∙ kept.all;
      count = omega (arith, kept.count);
      space = omega (arith, kept.space);
      alike = ap length marked ∙ length-paint_from (holds s) true p.stale 0 ∙ kept.alike ∙ sym long;
    }

-- pages that were flushed
pub kept_flushed : (p : Pages) (free : FrameList) (mapped : ℕ) (s : Span) (stale : List Bool) → IsKept p free mapped → stale ≡ paint (holds s) false p.stale → IsKept (record p { stale = stale }) free mapped
kept_flushed p free mapped s stale kept cleared = record {
  shared = kept.shared;
  all = kept.all;
  count = kept.count;
  space = kept.space;
  alike = ap length cleared ∙ length-paint_from (holds s) false p.stale 0 ∙ kept.alike;
}

-- one page that was mapped, and one that was unmapped

mapped_more : (frames : List (Option ℕ)) (page frame : ℕ) → slice_get frames page ≡ Some None → count_by is_some (slice_set frames page (Some frame)) ≡ count_by is_some frames + 1
mapped_more frames page frame unmapped = count-give_frames (page ∷ []) (frame ∷ []) frames (unmapped, refl, tt) (omega arith)

pub one_mapped_fits : (p : Pages) (free : FrameList) (mapped page : ℕ) → IsKept p free mapped → slice_get p.frames page ≡ Some None → mapped + 1 < 2 ^ 32
one_mapped_fits p free mapped page kept unmapped =
    let given = slice_set p.frames page (Some 0) in
    omega (arith, kept.count, kept.space, mapped_more p.frames page 0 unmapped, count_by-le-length (is_some {T = ℕ}) given, length-set p.frames page (Some 0))

pub kept_one_mapped : (p : Pages) (free new : FrameList) (mapped page frame : ℕ) → IsKept p free mapped → slice_get p.frames page ≡ Some None → free ≡ record new { numbers = frame ∷ new.numbers }
    → IsKept (record p { frames = slice_set p.frames page (Some frame) }) new (mapped + 1)
kept_one_mapped p free new mapped page frame kept unmapped taken = record {
  shared = shared_taken p.frames free new page frame kept.shared unmapped taken;
  all = sym (ap (λ (f : FrameList). f.memory) taken) ∙ kept.all;
  count = omega (arith, kept.count, mapped_more p.frames page frame unmapped);
  space = omega (arith, kept.space, length-set p.frames page (Some frame));
  alike = kept.alike ∙ sym (length-set p.frames page (Some frame));
}

pub kept_one_unmapped : (p : Pages) (free new : FrameList) (stale : List Bool) (mapped page frame : ℕ) → IsKept p free mapped → slice_get p.frames page ≡ Some (Some frame)
    → new ≡ record free { numbers = put_by (λ n. n) frame free.numbers } → stale ≡ slice_set p.stale page true → IsKept (record p { frames = slice_set p.frames page None; stale = stale }) new (mapped - 1)
kept_one_unmapped p free new stale mapped page frame kept at back marked = record {
  shared = subst (AreShared (slice_set p.frames page None)) (sym back) (shared_back p.frames free page frame kept.shared at);
  all = ap (λ (f : FrameList). f.memory) back ∙ kept.all;
  count = omega (arith, kept.count, count-unmapped p.frames page frame at);
  space = omega (arith, kept.space, length-set p.frames page None);
  alike = ap length marked ∙ length-set p.stale page true ∙ kept.alike ∙ sym (length-set p.frames page None);
}

-- what was read at a page
pub read_at : (frames : List (Option ℕ)) (page : ℕ) (read o : Option ℕ) → page < length frames → read ≡ get_or frames page read → read ≡ o → slice_get frames page ≡ Some o
read_at frames page read o within is same = slice_get-get_or frames page read within ∙ ap Some (sym is ∙ same)

-- cells that were written
pub kept_written : (p : Pages) (free : FrameList) (mapped : ℕ) (cells : List ℤ) → IsKept p free mapped → length cells ≡ length p.cells → IsKept (record p { cells = cells }) free mapped
kept_written p free mapped cells kept same = record {
  shared = kept.shared;
  all = kept.all ∙ ap (λ n. n / 1024) (sym same);
  count = kept.count;
  space = kept.space;
  alike = kept.alike;
}

-- the free frames are those that no page has
pub kept_free : (p : Pages) (free : FrameList) (mapped : ℕ) → IsKept p free mapped → length free.numbers ≡ length (free_of p)
kept_free p free mapped kept = ap length kept.shared.numbers ∙ ap (λ n. length (free_frames (setup n) p.frames)) kept.all
