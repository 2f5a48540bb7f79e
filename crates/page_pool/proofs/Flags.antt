-- Flags that are set, all and in groups of so many pages.
use Rattle.std.proofs.Common.{◌≡◌, ◌≢◌, ℕ, zero, suc, ◌+◌, ◌-◌, ◌*◌, ◌/◌, ◌%◌, ◌<◌, ◌≤◌, ◌⊎◌, inl, inr, Bool, true, false, cond, if◌then◌else◌, List, [], ◌∷◌, length, take, drop, replicate, get_or, slice_get, slice_set, Option, Some, None, option_map, refl, ap, sym, ◌∙◌, subst, arith}
use Rattle.std.proofs.lemmas.Bool.{cases_lt}
use Rattle.std.proofs.lemmas.Bool.Decides.{nat_tests}
use Rattle.std.proofs.lemmas.List.Sums.{sum_by-cons, count_by-le-length}
use Rattle.std.proofs.lemmas.List.{length-set, length-replicate, length-take, drop-replicate, drop-set-lt, drop-set-add, take-set-le, get_or-set_same, get_or-set_other}
use Rattle.std.proofs.lemmas.Nat.{div-mul-add}
use Rattle.std.proofs.lemmas.Option.{slice_get_read, get_or_from_slice_get}
use Rattle.std.proofs.Math.Seq.{take-set-lt}
use Rattle.vm_model.specs.declared.areas.Span.{Span}
use Rattle.vm_model.specs.Space.{one_if, span, holds, paint}
use Rattle.vm_model.proofs.Elements.{same_by_get, slice_get-drop}
use Rattle.vm_model.proofs.Paint.{slice_get-paint}
use Rattle.chunk_bitmaps.specs.Bitmap.{IsNextBit}
use Rattle.page_pool.specs.StaleList.{set_count, set_in, AreCountedBy, AreCounted}
use Rattle.page_pool.proofs.PassingNumbers.{one_if-cond, same_or_apart}

-- How many flags are set.

set_count-cons : (b : Bool) (flags : List Bool) → set_count (b ∷ flags) ≡ one_if b + set_count flags
set_count-cons b flags = sum_by-cons (λ (b : Bool). cond b 1 0) b flags ∙ ap (λ n. n + set_count flags) (one_if-cond b)

set_count-cleared : (flags : List Bool) (page : ℕ) → slice_get flags page ≡ Some true → set_count flags ≡ set_count (slice_set flags page false) + 1
set_count-cleared [] page h = cc
set_count-cleared (b ∷ flags) zero h = let is : one_if b ≡ 1 = ap one_if (let e : b ≡ true = cc in e) in omega (arith, set_count-cons b flags, set_count-cons false flags)
set_count-cleared (b ∷ flags) (suc page) h = omega (arith, set_count-cons b flags, set_count-cons b (slice_set flags page false), set_count-cleared flags page h)

pub set_count-set : (flags : List Bool) (page : ℕ) → slice_get flags page ≡ Some false → set_count (slice_set flags page true) ≡ set_count flags + 1
set_count-set [] page h = cc
set_count-set (b ∷ flags) zero h = let is : one_if b ≡ 0 = ap one_if (let e : b ≡ false = cc in e) in omega (arith, set_count-cons b flags, set_count-cons true flags)
set_count-set (b ∷ flags) (suc page) h = omega (arith, set_count-cons b flags, set_count-cons b (slice_set flags page true), set_count-set flags page h)

set_count-replicate : (n : ℕ) → set_count (replicate n false) ≡ 0
set_count-replicate zero = refl
set_count-replicate (suc n) = omega (arith, set_count-cons false (replicate n false), set_count-replicate n)

-- a flag that is not set leaves room for one more
pub set_count-below : (flags : List Bool) (page : ℕ) → slice_get flags page ≡ Some false → set_count flags < length flags
set_count-below flags page clear = omega (arith, set_count-set flags page clear, count_by-le-length (λ (b : Bool). b) (slice_set flags page true), length-set flags page true)

set_count-take : (n : ℕ) (flags : List Bool) → set_count (take n flags) ≤ set_count flags
set_count-take zero flags = omega arith
set_count-take (suc n) [] = omega arith
set_count-take (suc n) (b ∷ flags) = omega (arith, set_count-cons b (take n flags), set_count-cons b flags, set_count-take n flags)

-- The part of the flags that is a group.

slice_get-take : (n k : ℕ) (flags : List Bool) → k < n → slice_get (take n flags) k ≡ slice_get flags k
slice_get-take zero k flags h = absurd (omega arith)
slice_get-take (suc n) k [] h = refl
slice_get-take (suc n) zero (b ∷ flags) h = refl
slice_get-take (suc n) (suc k) (b ∷ flags) h = slice_get-take n k flags (omega arith)

-- a page of the part
slice_get-part : (n low page : ℕ) (flags : List Bool) → low ≤ page → page < low + n → slice_get (take n (drop low flags)) (page - low) ≡ slice_get flags page
slice_get-part n low page flags above below =
    slice_get-take n (page - low) (drop low flags) (omega arith) ∙ slice_get-drop low flags (page - low) ∙ ap (slice_get flags) (let e : low + (page - low) ≡ page = omega arith in e)

part-set_within : (n low page : ℕ) (flags : List Bool) (b : Bool) → low ≤ page → page < low + n → take n (drop low (slice_set flags page b)) ≡ slice_set (take n (drop low flags)) (page - low) b
part-set_within n low page flags b above below =
    ap (λ p. take n (drop low (slice_set flags p b))) (let e : page ≡ low + (page - low) = omega arith in e)
    ∙ ap (take n) (drop-set-add low flags (page - low) b) ∙ take-set-lt n (drop low flags) (page - low) b (omega arith)

-- a page elsewhere
part-set_elsewhere : (n low page : ℕ) (flags : List Bool) (b : Bool) → (page < low) ⊎ (low + n ≤ page) → take n (drop low (slice_set flags page b)) ≡ take n (drop low flags)
part-set_elsewhere n low page flags b (inl below) = ap (take n) (drop-set-lt low flags page b below)
part-set_elsewhere n low page flags b (inr above) =
    ap (λ p. take n (drop low (slice_set flags p b))) (let e : page ≡ low + (page - low) = omega arith in e)
    ∙ ap (take n) (drop-set-add low flags (page - low) b) ∙ take-set-le n (drop low flags) (page - low) b (omega arith)

-- How many flags of a group are set.

group_from : (size page : ℕ) → 0 < size → size * (page / size) ≤ page
group_from size page some = omega arith

group_to : (size page : ℕ) → 0 < size → page < size * (page / size) + size
group_to size page some = omega arith

group_of : (size group page : ℕ) → size * group ≤ page → page < size * group + size → page / size ≡ group
group_of size group page from to =
    let rest : page ≡ group * size + (page - size * group) = omega arith in
    ap (λ p. p / size) rest ∙ div-mul-add group size (page - size * group) (omega arith)

elsewhere : (size group page : ℕ) → page / size ≢ group → (page < size * group) ⊎ (size * group + size ≤ page)
elsewhere size group page apart = elim (cases_lt page (size * group)) [
  | inl below ↦ inl below
  | inr from ↦ elim (cases_lt page (size * group + size)) [
    | inl to ↦ absurd (apart (group_of size group page from to))
    | inr above ↦ inr above
  ]
]

-- the pages that are left of a group are in it
pub rest_in_group : (size start pages page : ℕ) → 0 < size → pages ≤ size - start % size → holds (span start pages) page ≡ true → page / size ≡ start / size
rest_in_group size start pages page some few h =
    let low : start ≤ page = grind (arith, nat_tests) in
    let high : page < start + pages = grind (arith, nat_tests) in
    group_of size (start / size) page (omega arith) (omega arith)

set_in-replicate : (size group space : ℕ) → set_in size group (replicate space false) ≡ 0
unfolding set_in
set_in-replicate size group space =
    let left = space - size * group in
    let few : set_count (take size (replicate left false)) ≤ 0 = omega (arith, set_count-take size (replicate left false), set_count-replicate left) in
    ap (λ fs. set_count (take size fs)) (drop-replicate (size * group) space false) ∙ (let e : set_count (take size (replicate left false)) ≡ 0 = omega arith in e)

pub set_in-set : (size page : ℕ) (flags : List Bool) → 0 < size → slice_get flags page ≡ Some false → set_in size (page / size) (slice_set flags page true) ≡ set_in size (page / size) flags + 1
unfolding set_in
set_in-set size page flags some clear =
    let low = size * (page / size) in
    let from = group_from size page some in
    let to = group_to size page some in
    ap set_count (part-set_within size low page flags true from to) ∙ set_count-set (take size (drop low flags)) (page - low) (slice_get-part size low page flags from to ∙ clear)

set_in-cleared : (size page : ℕ) (flags : List Bool) → 0 < size → slice_get flags page ≡ Some true → set_in size (page / size) flags ≡ set_in size (page / size) (slice_set flags page false) + 1
unfolding set_in
set_in-cleared size page flags some set =
    let low = size * (page / size) in
    let from = group_from size page some in
    let to = group_to size page some in
    set_count-cleared (take size (drop low flags)) (page - low) (slice_get-part size low page flags from to ∙ set) ∙ ap (λ fs. set_count fs + 1) (sym (part-set_within size low page flags false from to))

pub set_in-other : (size group page : ℕ) (flags : List Bool) (b : Bool) → page / size ≢ group → set_in size group (slice_set flags page b) ≡ set_in size group flags
unfolding set_in
set_in-other size group page flags b apart = ap set_count (part-set_elsewhere size (size * group) page flags b (elsewhere size group page apart))

pub set_in-fits : (size group : ℕ) (flags : List Bool) → set_in size group flags ≤ size
unfolding set_in
set_in-fits size group flags =
    let fs = take size (drop (size * group) flags) in
    omega (arith, count_by-le-length (λ (b : Bool). b) fs, length-take size (drop (size * group) flags))

-- a flag that is not set leaves room in its group
pub set_in-below : (size page : ℕ) (flags : List Bool) → 0 < size → slice_get flags page ≡ Some false → set_in size (page / size) flags < size
set_in-below size page flags some clear = omega (arith, set_in-set size page flags some clear, set_in-fits size (page / size) (slice_set flags page true))

-- a flag that is set is one of its group
pub set_in-some : (size page : ℕ) (flags : List Bool) → 0 < size → slice_get flags page ≡ Some true → 0 < set_in size (page / size) flags
set_in-some size page flags some set = omega (arith, set_in-cleared size page flags some set)

-- The counts of groups.

zeros : (n group : ℕ) → get_or {A = ℕ} (replicate n 0) group 0 ≡ 0
zeros zero group = refl
zeros (suc n) zero = refl
zeros (suc n) (suc group) = zeros n group

counted_first : (size space : ℕ) → AreCountedBy size (replicate space false) (replicate ((space + (size - 1)) / size) 0)
counted_first size space = record {
  groups = length-replicate {A = ℕ} ((space + (size - 1)) / size) 0 ∙ ap (λ n. (n + (size - 1)) / size) (sym (length-replicate space false));
  each = λ group. zeros ((space + (size - 1)) / size) group ∙ sym (set_in-replicate size group space);
}

count_read : (size group n : ℕ) (flags : List Bool) (counts : List ℕ) → AreCountedBy size flags counts → group < length counts → n ≡ get_or counts group n → n ≡ set_in size group flags
count_read size group n flags counts is within read = sym (get_or_from_slice_get counts group n 0 (slice_get_read counts (length counts) group n refl within read)) ∙ is.each group

counted_set : (size page n : ℕ) (flags : List Bool) (counts : List ℕ) → 0 < size → page / size < length counts → AreCountedBy size flags counts → slice_get flags page ≡ Some false
    → n ≡ set_in size (page / size) flags → AreCountedBy size (slice_set flags page true) (slice_set counts (page / size) (n + 1))
counted_set size page n flags counts some within is clear so_far = record {
  groups = length-set counts (page / size) (n + 1) ∙ is.groups ∙ ap (λ k. (k + (size - 1)) / size) (sym (length-set flags page true));
  each = λ group. elim (same_or_apart (page / size) group) [
    | inl same ↦ subst (λ g. get_or (slice_set counts (page / size) (n + 1)) g 0 ≡ set_in size g (slice_set flags page true)) same
        (get_or-set_same counts (page / size) (n + 1) 0 within ∙ ap (λ k. k + 1) so_far ∙ sym (set_in-set size page flags some clear))
    | inr apart ↦ get_or-set_other counts (page / size) group (n + 1) 0 (λ e. apart (sym e)) ∙ is.each group ∙ sym (set_in-other size group page flags true apart)
  ];
}

-- What is kept.

pub counts_first : (space : ℕ) → AreCounted (replicate space false) (replicate ((space + 63) / 64) 0) (replicate ((space + 4095) / 4096) 0) 0
counts_first space = record { all = sym (set_count-replicate space); by_group = counted_first 64 space; by_cluster = counted_first 4096 space }

pub group_within : (flags : List Bool) (groups clusters : List ℕ) (count page : ℕ) → AreCounted flags groups clusters count → page < length flags → page / 64 < length groups
group_within flags groups clusters count page is within = omega (arith, is.by_group.groups)

pub cluster_within : (flags : List Bool) (groups clusters : List ℕ) (count page : ℕ) → AreCounted flags groups clusters count → page < length flags → page / 4096 < length clusters
cluster_within flags groups clusters count page is within = omega (arith, is.by_cluster.groups)

-- the counts that are read at a page
pub group_read : (flags : List Bool) (groups clusters : List ℕ) (count page n : ℕ) → AreCounted flags groups clusters count → page < length flags → n ≡ get_or groups (page / 64) n → n ≡ set_in 64 (page / 64) flags
group_read flags groups clusters count page n is within read = count_read 64 (page / 64) n flags groups is.by_group (group_within flags groups clusters count page is within) read

pub cluster_read : (flags : List Bool) (groups clusters : List ℕ) (count page n : ℕ) → AreCounted flags groups clusters count → page < length flags → n ≡ get_or clusters (page / 4096) n → n ≡ set_in 4096 (page / 4096) flags
cluster_read flags groups clusters count page n is within read = count_read 4096 (page / 4096) n flags clusters is.by_cluster (cluster_within flags groups clusters count page is within) read

pub counts_set : (flags : List Bool) (groups clusters : List ℕ) (count page n m : ℕ) → AreCounted flags groups clusters count → slice_get flags page ≡ Some false → page < length flags
    → n ≡ get_or groups (page / 64) n → m ≡ get_or clusters (page / 4096) m
    → AreCounted (slice_set flags page true) (slice_set groups (page / 64) (n + 1)) (slice_set clusters (page / 4096) (m + 1)) (count + 1)
counts_set flags groups clusters count page n m is clear within by_group by_cluster = record {
  all = omega (arith, is.all, set_count-set flags page clear);
  by_group = counted_set 64 page n flags groups (omega arith) (group_within flags groups clusters count page is within) is.by_group clear (group_read flags groups clusters count page n is within by_group);
  by_cluster = counted_set 4096 page m flags clusters (omega arith) (cluster_within flags groups clusters count page is within) is.by_cluster clear (cluster_read flags groups clusters count page m is within by_cluster);
}

-- nothing is cleared in a group where nothing is set
clear_there : (o : Option Bool) → o ≢ Some true → option_map (λ y. if true then false else y) o ≡ o
clear_there None h = refl
clear_there (Some true) h = absurd (h refl)
clear_there (Some false) h = refl

not_there : (o : Option Bool) → option_map (λ y. if false then false else y) o ≡ o
not_there None = refl
not_there (Some b) = refl

clear_if : (o : Option Bool) (b : Bool) → (b ≡ true → o ≢ Some true) → option_map (λ y. if b then false else y) o ≡ o
clear_if o true h = clear_there o (h refl)
clear_if o false h = not_there o

pub nothing_stale : (size group : ℕ) (flags : List Bool) (s : Span) → 0 < size → set_in size group flags ≡ 0 → ((page : ℕ) → holds s page ≡ true → page / size ≡ group) → flags ≡ paint (holds s) false flags
nothing_stale size group flags s some none each = sym (same_by_get (paint (holds s) false flags) flags (λ page.
    slice_get-paint (holds s) false flags page ∙ clear_if (slice_get flags page) (holds s page) (λ inside set.
    let more : 0 < set_in size group flags = subst (λ g. 0 < set_in size g flags) (each page inside) (set_in-some size page flags some set) in absurd (omega arith))))

-- nothing is cleared before the next page that is set
pub skipped : (flags : List Bool) (from end place : ℕ) → IsNextBit flags true from end place → flags ≡ paint (holds (span from (place - from))) false flags
skipped flags from end place next = sym (same_by_get (paint (holds (span from (place - from))) false flags) flags (λ page.
    slice_get-paint (holds (span from (place - from))) false flags page ∙ clear_if (slice_get flags page) (holds (span from (place - from)) page) (λ inside set.
    let low : from ≤ page = grind (arith, nat_tests) in
    let high : page < place = grind (arith, nat_tests) in
    let clear : slice_get flags page ≡ Some false = next.others page low high in
    cc)))
