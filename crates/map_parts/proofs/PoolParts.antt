-- How often areas, blocks and chunks have a page after each change.
use Rattle.std.proofs.Common.{◌≡◌, ℕ, zero, suc, ◌+◌, ◌<◌, ◌≤◌, ◌⊎◌, inl, inr, Bool, true, false, not, ◌&&◌, ◌==◌, nat_lt, if◌then◌else◌, List, [], ◌∷◌, map, filter, length, slice_get, sum_by, Some, refl, ap, sym, ◌∙◌, arith}
use Rattle.std.proofs.lemmas.List.Sums.{sum_by-cons}
use Rattle.std.proofs.lemmas.Option.{same_Some}
use Rattle.vm_model.specs.declared.areas.Span.{Span}
use Rattle.vm_model.specs.declared.areas.Area.{Area}
use Rattle.vm_model.specs.declared.areas.AreaKind.{AreaKind}
use Rattle.vm_model.specs.Space.{holds, times, one_if, is_among, put_by}
use Rattle.vm_model.specs.Setup.{Setup, groups_at}
use Rattle.vm_model.specs.PlainMap.{Block, Chunk, Ended}
use Rattle.vm_model.specs.Areas.{named_areas, is_area, without_area, areas_of, with_areas, group_kinds}
use Rattle.vm_model.specs.Blocks.{PartAt, free_of, queue_of, fragmented, is_fragmented, change_block, set_life, spends, without_spent}
use Rattle.vm_model.specs.Chunks.{change_chunk, spare_chunk}
use Rattle.vm_model.specs.Places.{block_spans}
use Rattle.map_parts.specs.Owners.{is_plain, other_than, times_from, of_area, of_block, of_chunk}
use Rattle.map_parts.proofs.Filters.{filter_passes, filter_within, filter_keeps, filter-filter, found_there, among_map}
use Rattle.map_parts.proofs.Sums.{sum-filter_parts, sum-filter-le, sum-filter_without, sum-map, sum-same, sum-le}
use Rattle.map_parts.proofs.Tests.{and_less, both_true, is_equal, is_same}

-- Blocks.

pub blocks_changed : (c : Setup) (counts : ℕ → Bool) (page start : ℕ) (change : Block → Block) (blocks : List Block) → ((b : Block) → (change b).start ≡ b.start)
    → sum_by (of_block c counts page) (change_block start change blocks) ≡ sum_by (of_block c counts page) blocks
blocks_changed c counts page start change blocks keeps = grind (arith, sum-map, sum-same)

pub blocks_left : (c : Setup) (counts : ℕ → Bool) (page : ℕ) (at : PartAt) (blocks : List Block)
    → sum_by (of_block c counts page) (without_spent c (set_life at Ended blocks)) ≤ sum_by (of_block c counts page) blocks
blocks_left c counts page at blocks = grind (arith, sum-filter-le, blocks_changed)

-- a spent block passes from the list to its caller
pub block_spent : (c : Setup) (counts : ℕ → Bool) (page : ℕ) (at : PartAt) (blocks : List Block) → spends c at (set_life at Ended blocks) ≡ true
    → sum_by (of_block c counts page) (without_spent c (set_life at Ended blocks)) + times_from counts page (block_spans c (at.block ∷ [])) ≤ sum_by (of_block c counts page) blocks
block_spent c counts page at blocks h = grind (arith, found_there, both_true, sum-filter_without, is_same, blocks_changed)

-- and so do fragmented blocks
times_from-starts : (c : Setup) (counts : ℕ → Bool) (page : ℕ) (blocks : List Block) → times_from counts page (block_spans c (map (λ (b : Block). b.start) blocks)) ≡ sum_by (of_block c counts page) blocks
times_from-starts c counts page blocks = grind (arith, sum-map)

pub blocks_leave : (c : Setup) (counts : ℕ → Bool) (page cpu : ℕ) (blocks : List Block)
    → sum_by (of_block c counts page) (filter (λ (b : Block). not ((b.cpu == cpu) && is_among (fragmented c cpu blocks) b.start)) blocks) + times_from counts page (block_spans c (fragmented c cpu blocks))
    ≤ sum_by (of_block c counts page) blocks
blocks_leave c counts page cpu blocks =
    let own : Block → Bool = λ b. b.cpu == cpu in
    let queued : Block → Bool = λ b. nat_lt 0 (free_of c b) in
    let is : filter (is_fragmented c) (queue_of c cpu blocks) ≡ filter (λ b. (own b && queued b) && is_fragmented c b) blocks =
    ap (filter (is_fragmented c)) (filter-filter own queued blocks) ∙ filter-filter (λ b. own b && queued b) (is_fragmented c) blocks in
    omega (
      arith,
      times_from-starts c counts page (filter (is_fragmented c) (queue_of c cpu blocks)),
      ap (sum_by (of_block c counts page)) is,
      sum-filter_parts (of_block c counts page) (λ (b : Block). not ((b.cpu == cpu) && is_among (fragmented c cpu blocks) b.start)) (λ b. (own b && queued b) && is_fragmented c b) blocks
          (λ i b there stays. goes_not (own b) (queued b) (is_fragmented c b) _ stays (λ passes.
          let w = filter_keeps (λ b. (own b && queued b) && is_fragmented c b) blocks i b there passes in
          among_map (λ (b : Block). b.start) (filter (is_fragmented c) (queue_of c cpu blocks)) w.0 b (ap (λ bs. slice_get bs w.0) is ∙ w.1))),
    )
  where
    goes_not : (a q f g : Bool) → not (a && g) ≡ true → (((a && q) && f) ≡ true → g ≡ true) → ((a && q) && f) ≡ false
    goes_not true true true g h e = let x = e refl in absurd cc
    goes_not true true false g h e = refl
    goes_not true false f g h e = refl
    goes_not false q f g h e = refl

-- Chunks.

pub chunks_changed : (c : Setup) (counts : ℕ → Bool) (page number : ℕ) (change : Chunk → Chunk) (chunks : List Chunk) → ((h : Chunk) → (change h).base ≡ h.base)
    → sum_by (of_chunk c counts page) (change_chunk number change chunks) ≡ sum_by (of_chunk c counts page) chunks
chunks_changed c counts page number change chunks keeps = grind (arith, sum-map, sum-same)

-- a spare chunk passes to its caller
pub chunk_spared : (c : Setup) (counts : ℕ → Bool) (page : ℕ) (chunks : List Chunk) (h : Chunk) → spare_chunk chunks ≡ Some h
    → sum_by (of_chunk c counts page) (filter (λ (other : Chunk). not (other.number == h.number)) chunks) + times_from counts page (groups_at c h.base) ≤ sum_by (of_chunk c counts page) chunks
chunk_spared c counts page chunks h e = grind (arith, filter_within, sum-filter_without, is_equal)

-- Areas.

sum-put_if : {X : Type 0} (f : X → ℕ) (x y : X) (ys put : List X) (b : Bool) → sum_by f put ≡ f x + sum_by f ys → sum_by f (if b then x ∷ y ∷ ys else y ∷ put) ≡ f x + sum_by f (y ∷ ys)
sum-put_if f x y ys put true e = sum_by-cons f x (y ∷ ys)
sum-put_if f x y ys put false e = omega (arith, sum_by-cons f y put, sum_by-cons f y ys, e)

sum-put : {X : Type 0} (f : X → ℕ) (key : X → ℕ) (x : X) (ys : List X) → sum_by f (put_by key x ys) ≡ f x + sum_by f ys
sum-put f key x [] = sum_by-cons f x []
sum-put f key x (y ∷ ys) = sum-put_if f x y ys (put_by key x ys) (nat_lt (key x) (key y)) (sum-put f key x ys)

pub areas_added : (f : Area → ℕ) (new areas : List Area) → sum_by f (with_areas new areas) ≡ sum_by f new + sum_by f areas
areas_added f [] areas = omega arith
areas_added f (a ∷ new) areas =
    omega (arith, areas_added f new (put_by (λ (b : Area). b.span.start) a areas), sum-put f (λ (b : Area). b.span.start) a areas, sum_by-cons f a new)

-- which areas there are then
put_if_member : {X : Type 0} (x y : X) (ys put : List X) (b : Bool) (i : ℕ) (z : X) → ((j : ℕ) → slice_get put j ≡ Some z → (z ≡ x) ⊎ ((n : ℕ) × (slice_get ys n ≡ Some z)))
    → slice_get (if b then x ∷ y ∷ ys else y ∷ put) i ≡ Some z → (z ≡ x) ⊎ ((n : ℕ) × (slice_get (y ∷ ys) n ≡ Some z))
put_if_member x y ys put true zero z rest h = inl (let e : z ≡ x = cc in e)
put_if_member x y ys put true (suc i) z rest h = inr (i, h)
put_if_member x y ys put false zero z rest h = inr (0, h)
put_if_member x y ys put false (suc i) z rest h = elim (rest i h) [ inl e ↦ inl e | inr w ↦ inr (suc w.0, w.1) ]

put_member : {X : Type 0} (key : X → ℕ) (x : X) (ys : List X) (i : ℕ) (z : X) → slice_get (put_by key x ys) i ≡ Some z → (z ≡ x) ⊎ ((n : ℕ) × (slice_get ys n ≡ Some z))
put_member key x [] zero z h = inl (let e : z ≡ x = cc in e)
put_member key x [] (suc i) z h = absurd cc
put_member key x (y ∷ ys) i z h = put_if_member x y ys (put_by key x ys) (nat_lt (key x) (key y)) i z (λ j e. put_member key x ys j z e) h

pub areas_then : (new areas : List Area) (i : ℕ) (a : Area) → slice_get (with_areas new areas) i ≡ Some a → ((n : ℕ) × (slice_get new n ≡ Some a)) ⊎ ((n : ℕ) × (slice_get areas n ≡ Some a))
areas_then [] areas i a h = inr (i, h)
areas_then (b ∷ new) areas i a h = elim (areas_then new (put_by (λ (b : Area). b.span.start) b areas) i a h) [
  | inl w ↦ inl (suc w.0, w.1)
  | inr w ↦ elim (put_member (λ (b : Area). b.span.start) b areas w.0 a w.1) [
    | inl e ↦ inl (0, ap (λ a. Some a) (sym e))
    | inr v ↦ inr v
  ]
]

-- the areas of a chunk are not plain
pub groups_not_plain : (page caller serial chunk group : ℕ) (spans : List Span) → sum_by (of_area page) (areas_of caller serial (group_kinds chunk group spans)) ≡ 0
groups_not_plain page caller serial chunk group [] = refl
groups_not_plain page caller serial chunk group (s ∷ spans) = grind (arith, groups_not_plain page caller (suc serial) chunk (suc group) spans, sum_by-cons)

-- each new area has one of the spans
pub areas_of_were : (caller serial : ℕ) (ps : List (Span × AreaKind)) (i : ℕ) (a : Area) → slice_get (areas_of caller serial ps) i ≡ Some a → (p : Span × AreaKind) × (slice_get ps i ≡ Some p) × (a.span ≡ p.0) × (a.kind ≡ p.1) × (serial ≤ a.serial) × (a.serial < serial + length ps)
areas_of_were caller serial [] i a h = absurd cc
areas_of_were caller serial (p ∷ ps) zero a h =
    let same : record { span = p.0; kind = p.1; caller = caller; serial = serial } ≡ a = same_Some (record { span = p.0; kind = p.1; caller = caller; serial = serial }) a h in
    (p, refl, ap (λ (a : Area). a.span) (sym same), ap (λ (a : Area). a.kind) (sym same), omega (arith, ap (λ (a : Area). a.serial) same), omega (arith, ap (λ (a : Area). a.serial) same))
areas_of_were caller serial (p ∷ ps) (suc i) a h = let w = areas_of_were caller (suc serial) ps i a h in (w.0, w.1, w.2, w.3, omega (arith, w.4), omega (arith, w.5))

pub group_kinds_were : (chunk group : ℕ) (spans : List Span) (i : ℕ) (p : Span × AreaKind) → slice_get (group_kinds chunk group spans) i ≡ Some p → slice_get spans i ≡ Some p.0
group_kinds_were chunk group [] i p h = absurd cc
group_kinds_were chunk group (s ∷ spans) zero p h = grind arith
group_kinds_were chunk group (s ∷ spans) (suc i) p h = group_kinds_were chunk (suc group) spans i p h

-- a plain area that is removed passes to its caller
pub area_removed : (page start serial : ℕ) (areas : List Area) (a : Area) (rest : List Area) → named_areas start serial areas ≡ a ∷ rest → is_plain a.kind ≡ true
    → sum_by (of_area page) (without_area start serial areas) + times page (a.span ∷ []) ≤ sum_by (of_area page) areas
area_removed page start serial areas a rest e plain =
    let first : slice_get (named_areas start serial areas) 0 ≡ Some a = ap (λ l. slice_get l 0) e in
    let w = filter_within (is_area start serial) areas 0 a first in
    omega (
      arith,
      sum-filter_without (of_area page) (λ a. not (is_area start serial a)) areas w.0 a w.1 (ap not (filter_passes (is_area start serial) areas 0 a first)),
      ap (λ b. one_if (b && holds a.span page)) plain,
    )

-- Spans by their starts.

count_here : (a b : Bool) → a ≡ true → one_if b ≤ one_if (a && b)
count_here true b h = omega arith
count_here false b h = absurd cc

pub times_from-all : (counts : ℕ → Bool) (page : ℕ) (spans : List Span) → ((i : ℕ) (s : Span) → slice_get spans i ≡ Some s → counts s.start ≡ true) → times page spans ≤ times_from counts page spans
times_from-all counts page [] h = omega arith
times_from-all counts page (s ∷ spans) h =
    omega (
      arith,
      sum_by-cons (λ (s : Span). one_if (holds s page)) s spans,
      sum_by-cons (λ (s : Span). one_if (counts s.start && holds s page)) s spans,
      count_here (counts s.start) (holds s page) (h 0 s refl),
      times_from-all counts page spans (λ i t at. h (suc i) t at),
    )

-- a span that has the page doesn't count where its start doesn't
pub times_from-other : (page : ℕ) (spans : List Span) (i : ℕ) (s : Span) → slice_get spans i ≡ Some s → holds s page ≡ true → times_from (other_than s.start) page spans + 1 ≤ times page spans
times_from-other page [] i s h on = absurd cc
times_from-other page (t ∷ spans) zero s h on =
    let same : t ≡ s = cc in
    let out : one_if (other_than s.start t.start && holds t page) ≡ 0 = ap (λ (t : Span). one_if (other_than s.start t.start && holds t page)) same ∙ ap (λ b. one_if (not b && holds s page)) (is_equal s.start s.start refl) in
    let one : one_if (holds t page) ≡ 1 = ap (λ (t : Span). one_if (holds t page)) same ∙ ap one_if on in
    omega (
      arith,
      sum_by-cons (λ (s : Span). one_if (holds s page)) t spans,
      sum_by-cons (λ (u : Span). one_if (other_than s.start u.start && holds u page)) t spans,
      out,
      one,
      sum-le (λ (u : Span). one_if (other_than s.start u.start && holds u page)) (λ (u : Span). one_if (holds u page)) spans (λ u. and_less (other_than s.start u.start) (holds u page)),
    )
times_from-other page (t ∷ spans) (suc i) s h on =
    omega (
      arith,
      sum_by-cons (λ (s : Span). one_if (holds s page)) t spans,
      sum_by-cons (λ (u : Span). one_if (other_than s.start u.start && holds u page)) t spans,
      and_less (other_than s.start t.start) (holds t page),
      times_from-other page spans i s h on,
    )
