-- Frames that pages have, and the free ones.
use Rattle.std.proofs.Common.{◌≡◌, ℕ, ◌+◌, ◌<◌, ◌≤◌, inl, inr, Bool, true, false, not, ◌||◌, ◌==◌, cond, nat_lt, List, [], ◌∷◌, count_by, drop, get_or, slice_get, slice_set, Option, Some, None, is_some, refl, ap, sym, ◌∙◌, subst, arith}
use Rattle.std.proofs.lemmas.Bool.{cases_lt}
use Rattle.std.proofs.lemmas.Bool.Decides.{nat_tests}
use Rattle.std.proofs.lemmas.List.Sums.{sum_by-cons, sum_by-set}
use Rattle.std.proofs.lemmas.Option.{slice_get_within, get_or_from_slice_get}
use Rattle.vm_model.specs.Space.{count_from, is_among, one_if, put_by}
use Rattle.vm_model.specs.Setup.{Setup}
use Rattle.vm_model.specs.Frames.{is_used, free_frames, give_frames}
use Rattle.vm_model.proofs.FramesGiven.{free_frames-give_frames}
use Rattle.page_pool.specs.FrameList.{FrameList, has_frame, times_used, AreShared}
use Rattle.page_pool.proofs.PassingNumbers.{one_if-below, one_if-above, one_if-cond, filter-alike, filter-puts, not_among, first_passes, same_or_apart}

-- a machine with so many frames of memory
abbrev pub setup : ℕ → Setup
setup frames = record { space = 0; frames = frames; lazy = 0; block_pages = 0; part_limit = 0; unit_pages = 0; atom = 0; groups = []; units = [] }

-- How many pages have a frame.

times-cons : (frame : ℕ) (o : Option ℕ) (frames : List (Option ℕ)) → times_used frame (o ∷ frames) ≡ one_if (has_frame frame o) + times_used frame frames
times-cons frame o frames = sum_by-cons (λ o. cond (has_frame frame o) 1 0) o frames ∙ ap (λ n. n + times_used frame frames) (one_if-cond (has_frame frame o))

used_if : (b : Bool) (n : ℕ) → (b || nat_lt 0 n) ≡ nat_lt 0 (one_if b + n)
used_if true n = let e : nat_lt 0 (1 + n) ≡ true = grind (arith, nat_tests) in sym e
used_if false n = ap (nat_lt 0) (let e : n ≡ 0 + n = omega arith in e)

is_used-times : (frame : ℕ) (frames : List (Option ℕ)) → is_used frame frames ≡ nat_lt 0 (times_used frame frames)
is_used-times frame [] = refl
is_used-times frame (None ∷ frames) = is_used-times frame frames ∙ ap (nat_lt 0) (let e : times_used frame frames ≡ times_used frame (None ∷ frames) = omega (arith, times-cons frame None frames) in e)
is_used-times frame (Some own ∷ frames) =
    ap (λ b. (own == frame) || b) (is_used-times frame frames) ∙ used_if (own == frame) (times_used frame frames) ∙ ap (nat_lt 0) (sym (times-cons frame (Some own) frames))

unused_none : (frame : ℕ) (frames : List (Option ℕ)) → is_used frame frames ≡ false → times_used frame frames ≡ 0
unused_none frame frames h = let e = sym (is_used-times frame frames) ∙ h in let none : times_used frame frames ≡ 0 = grind (arith, nat_tests) in none

-- one page has another frame
times-set : (frame page : ℕ) (old new : Option ℕ) (frames : List (Option ℕ)) → slice_get frames page ≡ Some old
    → times_used frame (slice_set frames page new) + one_if (has_frame frame old) ≡ times_used frame frames + one_if (has_frame frame new)
times-set frame page old new frames at =
    let here : cond (has_frame frame (get_or frames page old)) 1 0 ≡ one_if (has_frame frame old) = one_if-cond (has_frame frame (get_or frames page old)) ∙ ap (λ o. one_if (has_frame frame o)) (get_or_from_slice_get frames page old old at) in
    omega (arith, sum_by-set (λ o. cond (has_frame frame o) 1 0) frames page new old (slice_get_within frames page old at), one_if-cond (has_frame frame new))

-- A page gets the lowest free frame.

row_taken : (frames : List (Option ℕ)) (free new : FrameList) (frame : ℕ) → AreShared frames free → free ≡ record new { numbers = frame ∷ new.numbers } → free_frames (setup new.memory) frames ≡ frame ∷ new.numbers
row_taken frames free new frame shared taken =
    ap (λ m. free_frames (setup m) frames) (sym (ap (λ (f : FrameList). f.memory) taken)) ∙ sym shared.numbers ∙ ap (λ (f : FrameList). f.numbers) taken

unused_from : (frame : ℕ) (frames : List (Option ℕ)) → not (is_used frame frames) ≡ true → times_used frame frames ≡ 0
unused_from frame frames h = unused_none frame frames (elim_not (is_used frame frames) h)
  where
    elim_not : (b : Bool) → not b ≡ true → b ≡ false
    elim_not true e = sym e
    elim_not false e = refl

own_taken : (frames : List (Option ℕ)) (memory page frame : ℕ) → ((other : ℕ) → times_used other frames ≤ one_if (nat_lt other memory)) → slice_get frames page ≡ Some None → times_used frame frames ≡ 0 → frame < memory
    → (other : ℕ) → times_used other (slice_set frames page (Some frame)) ≤ one_if (nat_lt other memory)
own_taken frames memory page frame own unmapped unused within other = elim (same_or_apart frame other) [
  | inl same ↦
      let here : one_if (frame == frame) ≡ 1 = ap one_if (let e : (frame == frame) ≡ true = grind (arith, nat_tests) in e) in
      subst (λ f. times_used f (slice_set frames page (Some frame)) ≤ one_if (nat_lt f memory)) same (omega (arith, times-set frame page None (Some frame) frames unmapped, one_if-below frame memory within))
  | inr apart ↦
      let elsewhere : one_if (frame == other) ≡ 0 = ap one_if (let e : (frame == other) ≡ false = grind (arith, nat_tests) in e) in
      omega (arith, own other, times-set other page None (Some frame) frames unmapped)
]

pub shared_taken : (frames : List (Option ℕ)) (free new : FrameList) (page frame : ℕ) → AreShared frames free → slice_get frames page ≡ Some None → free ≡ record new { numbers = frame ∷ new.numbers }
    → AreShared (slice_set frames page (Some frame)) new
shared_taken frames free new page frame shared unmapped taken =
    let row = row_taken frames free new frame shared taken in
    let first = first_passes (λ f. not (is_used f frames)) new.memory 0 frame new.numbers row in
    record {
      numbers = sym (sym (ap (λ fs. free_frames (setup new.memory) (give_frames (page ∷ []) fs frames)) row) ∙ free_frames-give_frames (setup new.memory) (page ∷ []) frames (unmapped, refl, tt) ∙ ap (drop 1) row);
      own = own_taken frames new.memory page frame (λ other. subst (λ m. times_used other frames ≤ one_if (nat_lt other m)) (ap (λ (f : FrameList). f.memory) taken) (shared.own other)) unmapped
          (unused_from frame frames first.0) (let low = first.1 in omega arith);
    }

-- A page gives its frame back.

used_here : (frames : List (Option ℕ)) (memory page frame : ℕ) → ((other : ℕ) → times_used other frames ≤ one_if (nat_lt other memory)) → slice_get frames page ≡ Some (Some frame)
    → (frame < memory) × (times_used frame frames ≡ 1)
used_here frames memory page frame own mapped =
    let here : one_if (frame == frame) ≡ 1 = ap one_if (let e : (frame == frame) ≡ true = grind (arith, nat_tests) in e) in
    elim (cases_lt frame memory) [
      | inl below ↦ (below, omega (arith, own frame, one_if-below frame memory below, times-set frame page (Some frame) None frames mapped))
      | inr above ↦ absurd (omega (arith, own frame, one_if-above frame memory above, times-set frame page (Some frame) None frames mapped))
    ]

is_used-from : (frame : ℕ) (frames : List (Option ℕ)) → 1 ≤ times_used frame frames → is_used frame frames ≡ true
is_used-from frame frames h = is_used-times frame frames ∙ (let e : nat_lt 0 (times_used frame frames) ≡ true = grind (arith, nat_tests) in e)

pub frame_of_page : (frames : List (Option ℕ)) (free : FrameList) (page frame : ℕ) → AreShared frames free → slice_get frames page ≡ Some (Some frame) → (frame < free.memory) × (is_among free.numbers frame ≡ false)
frame_of_page frames free page frame shared mapped =
    let here = used_here frames free.memory page frame shared.own mapped in
    (here.0, ap (λ ns. is_among ns frame) shared.numbers ∙ not_among (λ f. not (is_used f frames)) frame (count_from free.memory 0) (ap not (is_used-from frame frames (let once = here.1 in omega arith))))

unused_after : (frames : List (Option ℕ)) (page frame : ℕ) → slice_get frames page ≡ Some (Some frame) → times_used frame frames ≡ 1 → (other : ℕ)
    → not (is_used other (slice_set frames page None)) ≡ ((frame == other) || not (is_used other frames))
unused_after frames page frame mapped once other = elim (same_or_apart frame other) [
  | inl same ↦
      let here : (frame == other) ≡ true = grind (arith, nat_tests) in
      let one : one_if (frame == other) ≡ 1 = ap one_if here in
      let times : times_used other frames ≡ 1 = ap (λ f. times_used f frames) (sym same) ∙ once in
      let none : nat_lt 0 (times_used other (slice_set frames page None)) ≡ false = (let n : times_used other (slice_set frames page None) ≡ 0 = omega (arith, times-set other page (Some frame) None frames mapped) in grind (arith, nat_tests)) in
      ap not (is_used-times other (slice_set frames page None) ∙ none) ∙ sym (ap (λ b. b || not (is_used other frames)) here)
  | inr apart ↦
      let elsewhere : (frame == other) ≡ false = grind (arith, nat_tests) in
      let none : one_if (frame == other) ≡ 0 = ap one_if elsewhere in
      let same : times_used other (slice_set frames page None) ≡ times_used other frames = omega (arith, times-set other page (Some frame) None frames mapped) in
      ap not (is_used-times other (slice_set frames page None) ∙ ap (nat_lt 0) same ∙ sym (is_used-times other frames)) ∙ sym (ap (λ b. b || not (is_used other frames)) elsewhere)
]

pub shared_back : (frames : List (Option ℕ)) (free : FrameList) (page frame : ℕ) → AreShared frames free → slice_get frames page ≡ Some (Some frame)
    → AreShared (slice_set frames page None) (record free { numbers = put_by (λ n. n) frame free.numbers })
shared_back frames free page frame shared mapped =
    let here = used_here frames free.memory page frame shared.own mapped in
    let used = is_used-from frame frames (let once = here.1 in omega arith) in
    record {
      numbers = ap (put_by (λ n. n) frame) shared.numbers ∙ sym (filter-puts (λ f. not (is_used f frames)) frame free.memory 0 (ap not used) (omega arith) (let low = here.0 in omega arith))
          ∙ sym (filter-alike (λ f. not (is_used f (slice_set frames page None))) (λ f. (frame == f) || not (is_used f frames)) free.memory 0 (λ i a b. unused_after frames page frame mapped here.1 i));
      own = λ other. omega (arith, shared.own other, times-set other page (Some frame) None frames mapped);
    }

-- one page fewer is mapped
pub count-unmapped : (frames : List (Option ℕ)) (page frame : ℕ) → slice_get frames page ≡ Some (Some frame) → count_by is_some (slice_set frames page None) + 1 ≡ count_by is_some frames
count-unmapped frames page frame at =
    let none : Option ℕ = None in
    let weight : Option ℕ → ℕ = λ (o : Option ℕ). cond (is_some o) 1 0 in
    let here : weight (get_or frames page none) ≡ 1 = ap weight (get_or_from_slice_get frames page (Some frame) none at) in
    omega (arith, sum_by-set weight frames page none none (slice_get_within frames page (Some frame) at))
