-- Flags of pages in a row that are set or cleared together, and how many are set then.
use Rattle.std.proofs.Common.{◌≡◌, ◌≢◌, ℕ, zero, suc, ◌+◌, ◌-◌, ◌*◌, ◌/◌, ◌%◌, ◌<◌, ◌≤◌, inl, inr, if◌then◌else◌, Bool, true, false, List, length, get_or, slice_get, slice_set, Option, Some, None, option_map, refl, ap, sym, ◌∙◌, subst, arith}
use Rattle.std.proofs.lemmas.Bool.Decides.{nat_tests}
use Rattle.std.proofs.lemmas.List.{length-set, get_or-set_same, get_or-set_other}
use Rattle.std.proofs.lemmas.List.Sums.{count_by-le-length}
use Rattle.std.proofs.lemmas.Nat.{div-mul-add, div-add-mod'}
use Rattle.vm_model.specs.Space.{span, holds, paint}
use Rattle.vm_model.proofs.Elements.{same_by_get}
use Rattle.vm_model.proofs.Paint.{length-paint_from, slice_get-paint}
use Rattle.page_pool.specs.StaleList.{set_count, set_in, AreCountedBy, AreCounted}
use Rattle.page_pool.proofs.PassingNumbers.{same_or_apart}
use Rattle.page_pool.proofs.Painting.{paint-first, paint-next, paint-ahead}
use Rattle.page_pool.proofs.Flags.{set_count-set, set_in-set, set_in-other, set_in-fits, group_within, cluster_within, group_read, cluster_read}

-- Each flag of so many pages from one on has the value.
abbrev pub IsRun : (flags : List Bool) (start n : ℕ) (value : Bool) → Type 0
IsRun flags start n value = (page : ℕ) → start ≤ page → page < start + n → slice_get flags page ≡ Some value

painted_none : (start : ℕ) (b : Bool) (flags : List Bool) → paint (holds (span start 0)) b flags ≡ flags
painted_none start b flags = sym (paint-first start b flags ∙ ap (λ k. paint (holds (span start k)) b flags) (let e : start - start ≡ 0 = omega arith in e))

so_far : (start n : ℕ) (b : Bool) (flags : List Bool) → paint (holds (span start n)) b flags ≡ paint (holds (span start (start + n - start))) b flags
so_far start n b flags = ap (λ k. paint (holds (span start k)) b flags) (let e : n ≡ start + n - start = omega arith in e)

painted_next : (start n : ℕ) (b : Bool) (flags : List Bool) → paint (holds (span start (suc n))) b flags ≡ slice_set (paint (holds (span start n)) b flags) (start + n) b
painted_next start n b flags =
    sym (paint-next start (start + n) b flags (paint (holds (span start n)) b flags) (omega arith) (so_far start n b flags)
    ∙ ap (λ k. paint (holds (span start k)) b flags) (let e : start + n + 1 - start ≡ suc n = omega arith in e))

next_is : (start n : ℕ) (b : Bool) (flags : List Bool) → IsRun flags start (suc n) false → slice_get (paint (holds (span start n)) b flags) (start + n) ≡ Some false
next_is start n b flags run = paint-ahead start (start + n) b flags (paint (holds (span start n)) b flags) (omega arith) (so_far start n b flags) ∙ run (start + n) (omega arith) (omega arith)

fewer : (start n : ℕ) (flags : List Bool) (value : Bool) → IsRun flags start (suc n) value → IsRun flags start n value
fewer start n flags value run page low high = run page low (omega arith)

-- so many more are set
set_count-run : (n start : ℕ) (flags : List Bool) → IsRun flags start n false → set_count (paint (holds (span start n)) true flags) ≡ set_count flags + n
set_count-run zero start flags run = omega (arith, ap set_count (painted_none start true flags))
set_count-run (suc n) start flags run =
    omega (arith, ap set_count (painted_next start n true flags), set_count-set (paint (holds (span start n)) true flags) (start + n) (next_is start n true flags run), set_count-run n start flags (fewer start n flags false run))

same_group : (size n start : ℕ) → 0 < size → start % size + n < size → (start + n) / size ≡ start / size
same_group size n start some within =
    let rest : start / size * size + (start % size + n) ≡ start + n = omega (arith, div-add-mod' start size) in
    ap (λ p. p / size) (sym rest) ∙ div-mul-add (start / size) size (start % size + n) within

-- so many more are set of the group that the pages are in
set_in-run : (size n start : ℕ) (flags : List Bool) → 0 < size → start % size + n ≤ size → IsRun flags start n false → set_in size (start / size) (paint (holds (span start n)) true flags) ≡ set_in size (start / size) flags + n
set_in-run size zero start flags some within run = omega (arith, ap (set_in size (start / size)) (painted_none start true flags))
set_in-run size (suc n) start flags some within run =
    let next = same_group size n start some (omega arith) in
    let set = subst (λ g. set_in size g (slice_set (paint (holds (span start n)) true flags) (start + n) true) ≡ set_in size g (paint (holds (span start n)) true flags) + 1) next
    (set_in-set size (start + n) (paint (holds (span start n)) true flags) some (next_is start n true flags run)) in
    omega (arith, ap (set_in size (start / size)) (painted_next start n true flags), set, set_in-run size n start flags some (omega arith) (fewer start n flags false run))

-- and none of another
set_in-run_elsewhere : (size group n start : ℕ) (flags : List Bool) → 0 < size → start % size + n ≤ size → start / size ≢ group → set_in size group (paint (holds (span start n)) true flags) ≡ set_in size group flags
set_in-run_elsewhere size group zero start flags some within apart = ap (set_in size group) (painted_none start true flags)
set_in-run_elsewhere size group (suc n) start flags some within apart =
    let next = same_group size n start some (omega arith) in
    ap (set_in size group) (painted_next start n true flags)
    ∙ set_in-other size group (start + n) (paint (holds (span start n)) true flags) true (λ e. apart (sym next ∙ e))
    ∙ set_in-run_elsewhere size group n start flags some (omega arith) apart

counted_run : (size n start r : ℕ) (flags : List Bool) (counts : List ℕ) → 0 < size → start / size < length counts → start % size + n ≤ size → AreCountedBy size flags counts → IsRun flags start n false
    → r ≡ set_in size (start / size) flags → AreCountedBy size (paint (holds (span start n)) true flags) (slice_set counts (start / size) (r + n))
counted_run size n start r flags counts some within inside is run so_far = record {
  groups = length-set counts (start / size) (r + n) ∙ is.groups ∙ ap (λ k. (k + (size - 1)) / size) (sym (length-paint_from (holds (span start n)) true flags 0));
  each = λ group. elim (same_or_apart (start / size) group) [
    | inl same ↦ subst (λ g. get_or (slice_set counts (start / size) (r + n)) g 0 ≡ set_in size g (paint (holds (span start n)) true flags)) same
        (get_or-set_same counts (start / size) (r + n) 0 within ∙ ap (λ k. k + n) so_far ∙ sym (set_in-run size n start flags some inside run))
    | inr apart ↦ get_or-set_other counts (start / size) group (r + n) 0 (λ e. apart (sym e)) ∙ is.each group ∙ sym (set_in-run_elsewhere size group n start flags some inside apart)
  ];
}

-- What is cleared together was set together.

unset : (start n : ℕ) (flags : List Bool) → IsRun flags start n true → IsRun (paint (holds (span start n)) false flags) start n false
unset start n flags run page low high =
    slice_get-paint (holds (span start n)) false flags page
    ∙ ap (λ b. option_map (λ y. if b then false else y) (slice_get flags page)) (let e : holds (span start n) page ≡ true = grind (arith, nat_tests) in e)
    ∙ ap (option_map (λ y. false)) (run page low high)

-- painted with the other value and back
painted_back : (start n : ℕ) (flags : List Bool) → IsRun flags start n true → paint (holds (span start n)) true (paint (holds (span start n)) false flags) ≡ flags
painted_back start n flags run = same_by_get (paint (holds (span start n)) true (paint (holds (span start n)) false flags)) flags (λ page.
    slice_get-paint (holds (span start n)) true (paint (holds (span start n)) false flags) page
    ∙ ap (option_map (λ y. if holds (span start n) page then true else y)) (slice_get-paint (holds (span start n)) false flags page)
    ∙ back (slice_get flags page) (holds (span start n) page) (λ inside.
    let low : start ≤ page = grind (arith, nat_tests) in
    let high : page < start + n = grind (arith, nat_tests) in
    run page low high))
  where
    back : (o : Option Bool) (b : Bool) → (b ≡ true → o ≡ Some true) → option_map (λ y. if b then true else y) (option_map (λ y. if b then false else y) o) ≡ o
    back None b is = refl
    back (Some y) true is = sym (is refl)
    back (Some y) false is = refl

set_in-run_cleared : (size n start : ℕ) (flags : List Bool) → 0 < size → start % size + n ≤ size → IsRun flags start n true → set_in size (start / size) flags ≡ set_in size (start / size) (paint (holds (span start n)) false flags) + n
set_in-run_cleared size n start flags some within run =
    ap (set_in size (start / size)) (sym (painted_back start n flags run)) ∙ set_in-run size n start (paint (holds (span start n)) false flags) some within (unset start n flags run)

counted_run_cleared : (size n start r : ℕ) (flags : List Bool) (counts : List ℕ) → 0 < size → start / size < length counts → start % size + n ≤ size → AreCountedBy size flags counts → IsRun flags start n true
    → r ≡ set_in size (start / size) flags → AreCountedBy size (paint (holds (span start n)) false flags) (slice_set counts (start / size) (r - n))
counted_run_cleared size n start r flags counts some within inside is run so_far = record {
  groups = length-set counts (start / size) (r - n) ∙ is.groups ∙ ap (λ k. (k + (size - 1)) / size) (sym (length-paint_from (holds (span start n)) false flags 0));
  each = λ group. elim (same_or_apart (start / size) group) [
    | inl same ↦ subst (λ g. get_or (slice_set counts (start / size) (r - n)) g 0 ≡ set_in size g (paint (holds (span start n)) false flags)) same
        (get_or-set_same counts (start / size) (r - n) 0 within ∙ less)
    | inr apart ↦ get_or-set_other counts (start / size) group (r - n) 0 (λ e. apart (sym e)) ∙ is.each group
        ∙ ap (set_in size group) (sym (painted_back start n flags run)) ∙ set_in-run_elsewhere size group n start (paint (holds (span start n)) false flags) some inside apart
  ];
}
  where
    less : r - n ≡ set_in size (start / size) (paint (holds (span start n)) false flags)
    less = omega (arith, set_in-run_cleared size n start flags some inside run)

-- The counts of a run that is set, and of one that is cleared.

-- a run that lies in a group of 64 lies in one of 4,096
pub in_cluster : (start n : ℕ) → start % 64 + n ≤ 64 → start % 4096 + n ≤ 4096
in_cluster start n within = omega arith

pub counts_run_set : (flags : List Bool) (groups clusters : List ℕ) (count start n r q : ℕ) → AreCounted flags groups clusters count → IsRun flags start n false → start < length flags → start % 64 + n ≤ 64
    → r ≡ get_or groups (start / 64) r → q ≡ get_or clusters (start / 4096) q
    → AreCounted (paint (holds (span start n)) true flags) (slice_set groups (start / 64) (r + n)) (slice_set clusters (start / 4096) (q + n)) (count + n)
counts_run_set flags groups clusters count start n r q is run within inside by_group by_cluster = record {
  all = omega (arith, is.all, set_count-run n start flags run);
  by_group = counted_run 64 n start r flags groups (omega arith) (group_within flags groups clusters count start is within) inside is.by_group run (group_read flags groups clusters count start r is within by_group);
  by_cluster = counted_run 4096 n start q flags clusters (omega arith) (cluster_within flags groups clusters count start is within) (in_cluster start n inside) is.by_cluster run (cluster_read flags groups clusters count start q is within by_cluster);
}

pub counts_run_cleared : (flags : List Bool) (groups clusters : List ℕ) (count start n r q : ℕ) → AreCounted flags groups clusters count → IsRun flags start n true → start < length flags → start % 64 + n ≤ 64
    → r ≡ get_or groups (start / 64) r → q ≡ get_or clusters (start / 4096) q
    → AreCounted (paint (holds (span start n)) false flags) (slice_set groups (start / 64) (r - n)) (slice_set clusters (start / 4096) (q - n)) (count - n)
counts_run_cleared flags groups clusters count start n r q is run within inside by_group by_cluster = record {
  all = omega (arith, is.all, ap set_count (painted_back start n flags run), set_count-run n start (paint (holds (span start n)) false flags) (unset start n flags run));
  by_group = counted_run_cleared 64 n start r flags groups (omega arith) (group_within flags groups clusters count start is within) inside is.by_group run (group_read flags groups clusters count start r is within by_group);
  by_cluster = counted_run_cleared 4096 n start q flags clusters (omega arith) (cluster_within flags groups clusters count start is within) (in_cluster start n inside) is.by_cluster run (cluster_read flags groups clusters count start q is within by_cluster);
}

-- The counts at a run's first page leave room for it, or hold it.

pub group_has_room : (size n start : ℕ) (flags : List Bool) → 0 < size → start % size + n ≤ size → IsRun flags start n false → set_in size (start / size) flags + n ≤ size
group_has_room size n start flags some within run =
    omega (arith, set_in-run size n start flags some within run, set_in-fits size (start / size) (paint (holds (span start n)) true flags))

pub group_holds : (size n start : ℕ) (flags : List Bool) → 0 < size → start % size + n ≤ size → IsRun flags start n true → n ≤ set_in size (start / size) flags
group_holds size n start flags some within run = omega (arith, set_in-run_cleared size n start flags some within run)

pub all_have_room : (n start : ℕ) (flags : List Bool) → IsRun flags start n false → set_count flags + n ≤ length flags
all_have_room n start flags run =
    omega (arith, set_count-run n start flags run, count_by-le-length (λ (b : Bool). b) (paint (holds (span start n)) true flags), length-paint_from (holds (span start n)) true flags 0)

pub all_hold : (n start : ℕ) (flags : List Bool) → IsRun flags start n true → n ≤ set_count flags
all_hold n start flags run =
    omega (arith, ap set_count (painted_back start n flags run), set_count-run n start (paint (holds (span start n)) false flags) (unset start n flags run))
