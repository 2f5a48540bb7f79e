-- What is left of the free frames when pages are mapped, and which pages then have one.
use Rattle.std.proofs.Common.{◌≡◌, ◌≢◌, ℕ, zero, suc, ◌+◌, ◌-◌, ◌<◌, ◌≤◌, Bool, true, false, not, cond, ◌&&◌, ◌||◌, ◌==◌, List, [], ◌∷◌, length, filter, drop, replicate, slice_get, slice_set, count_by, Option, Some, None, is_some, refl, ap, sym, ◌∙◌, subst, arith}
use Rattle.std.proofs.lemmas.List.{length-set, length-drop}
use Rattle.std.proofs.lemmas.List.Sums.{sum_by-cons}
use Rattle.std.proofs.lemmas.Bool.Decides.{nat_tests}
use Rattle.vm_model.specs.Space.{count_from, is_among}
use Rattle.vm_model.specs.Setup.{Setup}
use Rattle.vm_model.specs.Frames.{is_used, free_frames, give_frames}
use Rattle.vm_model.proofs.Elements.{slice_get-set_other}
use Rattle.vm_model.proofs.Search.{length-count_from}

-- each of the pages is unmapped, and stands once
abbrev pub AreUnmappedOnce : List ℕ → List (Option ℕ) → Type 0
AreUnmappedOnce [] frames = Unit {0}
AreUnmappedOnce (page ∷ pages) frames = (slice_get frames page ≡ Some None) × (is_among pages page ≡ false) × AreUnmappedOnce pages frames

-- Lists of pages.

not_in_later : (n first page : ℕ) → page < first → is_among (count_from n first) page ≡ false
not_in_later zero first page h = refl
not_in_later (suc n) first page h = let rest = not_in_later n (suc first) page (omega arith) in grind (arith, nat_tests)

pub unmapped_in_order : (n first : ℕ) (frames : List (Option ℕ)) → ((page : ℕ) → first ≤ page → page < first + n → slice_get frames page ≡ Some None)
    → AreUnmappedOnce (count_from n first) frames
unmapped_in_order zero first frames h = tt
unmapped_in_order (suc n) first frames h =
    (h first (omega arith) (omega arith), not_in_later n (suc first) first (omega arith), unmapped_in_order n (suc first) frames (λ page a b. h page (omega arith) (omega arith)))

-- the other pages stay unmapped when one is set
stay_unmapped : (pages : List ℕ) (frames : List (Option ℕ)) (page : ℕ) (o : Option ℕ) → is_among pages page ≡ false → AreUnmappedOnce pages frames → AreUnmappedOnce pages (slice_set frames page o)
stay_unmapped [] frames page o h u = tt
stay_unmapped (other ∷ pages) frames page o h u =
    let apart : page ≢ other = grind (arith, nat_tests) in
    let rest : is_among pages page ≡ false = grind (arith, nat_tests) in
    (slice_get-set_other frames page other o apart ∙ u.0, u.1, stay_unmapped pages frames page o rest u.2)

-- The list of frames.

pub length-give_frames : (pages free : List ℕ) (frames : List (Option ℕ)) → length (give_frames pages free frames) ≡ length frames
length-give_frames [] free frames = refl
length-give_frames (page ∷ pages) [] frames = refl
length-give_frames (page ∷ pages) (frame ∷ free) frames = length-give_frames pages free (slice_set frames page (Some frame)) ∙ length-set frames page (Some frame)

-- a page that is not among them keeps what it has
pub slice_get-give_frames_other : (pages free : List ℕ) (frames : List (Option ℕ)) (page : ℕ) → is_among pages page ≡ false → slice_get (give_frames pages free frames) page ≡ slice_get frames page
slice_get-give_frames_other [] free frames page h = refl
slice_get-give_frames_other (other ∷ pages) [] frames page h = refl
slice_get-give_frames_other (other ∷ pages) (frame ∷ free) frames page h =
    let apart : other ≢ page = grind (arith, nat_tests) in
    let rest : is_among pages page ≡ false = grind (arith, nat_tests) in
    slice_get-give_frames_other pages free (slice_set frames other (Some frame)) page rest ∙ slice_get-set_other frames other page (Some frame) apart

-- how many pages are mapped
count-set : (frames : List (Option ℕ)) (page frame : ℕ) → slice_get frames page ≡ Some None → count_by is_some (slice_set frames page (Some frame)) ≡ count_by is_some frames + 1
count-set [] page frame h = cc
count-set (o ∷ frames) zero frame h =
    let e : o ≡ None = cc in
    sum_by-cons (λ o. cond (is_some o) 1 0) (Some frame) frames ∙ subst (λ (o : Option ℕ). 1 + count_by is_some frames ≡ count_by is_some (o ∷ frames) + 1) (sym e)
    (omega (arith, sum_by-cons (λ (o : Option ℕ). cond (is_some o) 1 0) None frames))
count-set (o ∷ frames) (suc page) frame h =
    omega (arith, count-set frames page frame h, sum_by-cons (λ (o : Option ℕ). cond (is_some o) 1 0) o frames, sum_by-cons (λ (o : Option ℕ). cond (is_some o) 1 0) o (slice_set frames page (Some frame)))

pub count-give_frames : (pages free : List ℕ) (frames : List (Option ℕ)) → AreUnmappedOnce pages frames → length pages ≤ length free
    → count_by is_some (give_frames pages free frames) ≡ count_by is_some frames + length pages
count-give_frames [] free frames u h = omega arith
count-give_frames (page ∷ pages) [] frames u h = absurd (omega arith)
count-give_frames (page ∷ pages) (frame ∷ free) frames u h =
    omega (arith, count-give_frames pages free (slice_set frames page (Some frame)) (stay_unmapped pages frames page (Some frame) u.1 u.2) (omega arith), count-set frames page frame u.0)

-- The free frames.

is_used-set : (frame own page : ℕ) (frames : List (Option ℕ)) → slice_get frames page ≡ Some None → is_used frame (slice_set frames page (Some own)) ≡ ((own == frame) || is_used frame frames)
is_used-set frame own page [] h = cc
is_used-set frame own zero (o ∷ frames) h = let e : o ≡ None = cc in ap (λ b. (own == frame) || b) (ap (λ (o : Option ℕ). is_used frame (o ∷ frames)) (sym e))
is_used-set frame own (suc page) (None ∷ frames) h = is_used-set frame own page frames h
is_used-set frame own (suc page) (Some other ∷ frames) h = let e = is_used-set frame own page frames h in or_swap (other == frame) (own == frame) _ _ e
  where
    or_swap : (a b c d : Bool) → d ≡ (b || c) → (a || d) ≡ (b || (a || c))
    or_swap true true c d e = refl
    or_swap true false c d e = refl
    or_swap false b c d e = e

-- of the numbers that pass, those behind the first
filter_same_above : (p q : ℕ → Bool) (n first : ℕ) → ((i : ℕ) → first ≤ i → p i ≡ q i) → filter p (count_from n first) ≡ filter q (count_from n first)
filter_same_above p q zero first h = refl
filter_same_above p q (suc n) first h =
    ap (λ b. cond b (first ∷ filter p (count_from n (suc first))) (filter p (count_from n (suc first)))) (h first (omega arith))
    ∙ ap (λ rest. cond (q first) (first ∷ rest) rest) (filter_same_above p q n (suc first) (λ i l. h i (omega arith)))

-- a test that the first of them fails besides leaves the others
tests_agree : (p q : ℕ → Bool) (x i : ℕ) → x < i → q i ≡ (not (x == i) && p i) → q i ≡ p i
tests_agree p q x i l e = let differs : (x == i) ≡ false = grind (arith, nat_tests) in e ∙ ap (λ b. not b && p i) differs

first_fails : (p q : ℕ → Bool) (x first : ℕ) → first ≡ x → q first ≡ (not (x == first) && p first) → q first ≡ false
first_fails p q x first same e = let is : (x == first) ≡ true = grind (arith, nat_tests) in e ∙ ap (λ b. not b && p first) is

filter-rest_by : (p q : ℕ → Bool) (n first x : ℕ) (rest : List ℕ) (b : Bool) → p first ≡ b → cond b (first ∷ filter p (count_from n (suc first))) (filter p (count_from n (suc first))) ≡ x ∷ rest
    → ((i : ℕ) → q i ≡ (not (x == i) && p i)) → (filter p (count_from n (suc first)) ≡ x ∷ rest → filter q (count_from n (suc first)) ≡ rest)
    → cond (q first) (first ∷ filter q (count_from n (suc first))) (filter q (count_from n (suc first))) ≡ rest
filter-rest_by p q n first x rest true e h test more =
    let same : first ≡ x = cc in
    let tail : filter p (count_from n (suc first)) ≡ rest = cc in
    ap (λ b. cond b (first ∷ filter q (count_from n (suc first))) (filter q (count_from n (suc first)))) (first_fails p q x first same (test first))
    ∙ filter_same_above q p n (suc first) (λ i l. tests_agree p q x i (omega arith) (test i)) ∙ tail
filter-rest_by p q n first x rest false e h test more =
    let fails : q first ≡ false = let t = test first in grind arith in
    ap (λ b. cond b (first ∷ filter q (count_from n (suc first))) (filter q (count_from n (suc first)))) fails ∙ more h

filter-rest : (p q : ℕ → Bool) (n first x : ℕ) (rest : List ℕ) → filter p (count_from n first) ≡ x ∷ rest → ((i : ℕ) → q i ≡ (not (x == i) && p i)) → filter q (count_from n first) ≡ rest
filter-rest p q zero first x rest h test = cc
filter-rest p q (suc n) first x rest h test = filter-rest_by p q n first x rest _ refl h test (λ tail. filter-rest p q n (suc first) x rest tail test)

not_or : (a b : Bool) → not (a || b) ≡ (not a && not b)
not_or true b = refl
not_or false b = refl

-- one page that gets the lowest free frame leaves the others
free_frames-set : (c : Setup) (frames : List (Option ℕ)) (page frame : ℕ) (free : List ℕ) → slice_get frames page ≡ Some None → free_frames c frames ≡ frame ∷ free
    → free_frames c (slice_set frames page (Some frame)) ≡ free
free_frames-set c frames page frame free h e =
    filter-rest (λ i. not (is_used i frames)) (λ i. not (is_used i (slice_set frames page (Some frame)))) c.frames 0 frame free e
    (λ i. ap not (is_used-set i frame page frames h) ∙ not_or (frame == i) (is_used i frames))

give_from : (c : Setup) (pages free : List ℕ) (frames : List (Option ℕ)) → AreUnmappedOnce pages frames → free_frames c frames ≡ free
    → free_frames c (give_frames pages free frames) ≡ drop (length pages) free
give_from c [] free frames u e = e
give_from c (page ∷ pages) [] frames u e = e
give_from c (page ∷ pages) (frame ∷ free) frames u e =
    give_from c pages free (slice_set frames page (Some frame)) (stay_unmapped pages frames page (Some frame) u.1 u.2) (free_frames-set c frames page frame free u.0 e)

-- the pages take the lowest free frames in order
pub free_frames-give_frames : (c : Setup) (pages : List ℕ) (frames : List (Option ℕ)) → AreUnmappedOnce pages frames
    → free_frames c (give_frames pages (free_frames c frames) frames) ≡ drop (length pages) (free_frames c frames)
free_frames-give_frames c pages frames u = give_from c pages (free_frames c frames) frames u refl

pub count-free_frames-give_frames : (c : Setup) (pages : List ℕ) (frames : List (Option ℕ)) → AreUnmappedOnce pages frames
    → length (free_frames c (give_frames pages (free_frames c frames) frames)) ≡ length (free_frames c frames) - length pages
count-free_frames-give_frames c pages frames u = ap length (free_frames-give_frames c pages frames u) ∙ length-drop (length pages) (free_frames c frames)

-- At first.

none_used : (frame space : ℕ) → is_used frame (replicate space None) ≡ false
none_used frame zero = refl
none_used frame (suc space) = none_used frame space

filter_all : (p : ℕ → Bool) (xs : List ℕ) → ((x : ℕ) → p x ≡ true) → filter p xs ≡ xs
filter_all p [] h = refl
filter_all p (x ∷ xs) h = ap (λ b. cond b (x ∷ filter p xs) (filter p xs)) (h x) ∙ ap (λ rest. x ∷ rest) (filter_all p xs h)

pub free_frames-at_first : (c : Setup) (space : ℕ) → free_frames c (replicate space None) ≡ count_from c.frames 0
free_frames-at_first c space = filter_all (λ frame. not (is_used frame (replicate space None))) (count_from c.frames 0) (λ frame. ap not (none_used frame space))

pub count-free_frames-at_first : (c : Setup) (space : ℕ) → length (free_frames c (replicate space None)) ≡ c.frames
count-free_frames-at_first c space = ap length (free_frames-at_first c space) ∙ length-count_from c.frames 0

pub count_mapped-at_first : (space : ℕ) → count_by (is_some {T = ℕ}) (replicate space None) ≡ 0
count_mapped-at_first zero = refl
count_mapped-at_first (suc space) = sum_by-cons (λ (o : Option ℕ). cond (is_some o) 1 0) None (replicate space None) ∙ ap (λ n. 0 + n) (count_mapped-at_first space)
