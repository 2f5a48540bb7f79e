-- What each kind of section does to the owners of pages.
use Rattle.std.proofs.Common.{◌≡◌, ℕ, ◌+◌, ◌≤◌, inl, inr, Bool, true, false, not, ◌&&◌, ◌||◌, List, [], ◌∷◌, slice_get, sum_by, Some, refl, ap, sym, ◌∙◌, subst, arith}
use Rattle.vm_model.specs.declared.areas.Span.{Span}
use Rattle.vm_model.specs.declared.areas.Area.{Area}
use Rattle.vm_model.specs.declared.areas.AreaKind.{AreaKind}
use Rattle.vm_model.specs.Space.{span, holds, covers, times, one_if, is_among, lowest}
use Rattle.vm_model.specs.Setup.{Setup, groups_at, highest}
use Rattle.vm_model.specs.PlainMap.{PlainMap, Held, Flushing, Block, Chunk, taken}
use Rattle.vm_model.specs.Areas.{is_area, named_areas, areas_of}
use Rattle.vm_model.specs.Events.{Carve, CarveGroups, Drop, Return, Settle, Remove, Unlink, Wait, TakeWaiting}
use Rattle.vm_model.specs.Effects.{effect_as}
use Rattle.vm_model.specs.Rules.{IsSetup}
use Rattle.map_parts.specs.Owners.{is_plain, pool_of, every, other_than, of_area, of_block, of_chunk}
use Rattle.map_parts.proofs.Filters.{single, filter_passes, filter_within}
use Rattle.map_parts.proofs.Sums.{sum-filter-le}
use Rattle.map_parts.proofs.PoolMoves.{MovesApart, IsBalanced, moves_balanced, of_block-le, of_chunk-le, free-painted, free-freed, free-mark_live, covers-le-times, times-append}
use Rattle.map_parts.proofs.PoolParts.{areas_added, areas_then, areas_of_were, area_removed}
use Rattle.map_parts.proofs.SearchedPages.{found_free, groups_free, groups_once, carved_balance, one_span_once}
use Rattle.map_parts.proofs.Tests.{is_same, not_true}

module _ (c : Setup) (m : PlainMap) (k : ℕ) (own own' : (ℕ → Bool) → ℕ → ℕ) where
  same_areas : (i : ℕ) (a : Area) → slice_get m.areas i ≡ Some a → (j : ℕ) × (slice_get m.areas j ≡ Some a)
  same_areas i a at = (i, at)

  -- Free pages.

  or_false : (b : Bool) → b ≡ (b || false)
  or_false true = refl
  or_false false = refl

  pub carve_moves : (pages align start : ℕ) → lowest (taken m) pages align ≡ Some start
      → ((counts : ℕ → Bool) (page : ℕ) → own' counts page ≤ own counts page + times page (span start pages ∷ []))
      → MovesApart c (pool_of m) (pool_of (effect_as c m k (Carve (span start pages) align))) own own'
  carve_moves pages align start h less =
      moves_balanced c _ _ own own' same_areas (λ counts page. omega (
        arith,
        less counts page,
        carved_balance (holds (span start pages)) (Held k) m.marks (span start pages ∷ []) page refl (or_false (holds (span start pages) page)) (one_span_once (span start pages) page)
            (λ on. found_free m pages align start page h (or_false (holds (span start pages) page) ∙ on)),
      ))

  pub carve_groups_moves : (base : ℕ) → IsSetup c → highest c (taken m) ≡ Some base
      → ((counts : ℕ → Bool) (page : ℕ) → own' counts page ≤ own counts page + times page (groups_at c base))
      → MovesApart c (pool_of m) (pool_of (effect_as c m k (CarveGroups base))) own own'
  carve_groups_moves base is h less = grind (arith, moves_balanced, same_areas, carved_balance, groups_once, groups_free)

  pub drop_moves : (s : Span) → ((counts : ℕ → Bool) (page : ℕ) → own' counts page + times page (s ∷ []) ≤ own counts page)
      → MovesApart c (pool_of m) (pool_of (effect_as c m k (Drop s))) own own'
  drop_moves s less = moves_balanced c _ _ own own' same_areas (λ counts page. omega (arith, less counts page, free-freed (holds s) m.marks page))

  pub return_moves : (spans : List Span) → ((counts : ℕ → Bool) (page : ℕ) → own' counts page + times page spans ≤ own counts page)
      → MovesApart c (pool_of m) (pool_of (effect_as c m k (Return spans))) own own'
  return_moves spans less = grind (arith, moves_balanced, same_areas, free-freed, covers-le-times)

  -- Waiting spans.

  pub wait_moves : (spans : List Span) (waiting : ℕ) → ((counts : ℕ → Bool) (page : ℕ) → own' counts page + times page spans ≤ own counts page)
      → MovesApart c (pool_of m) (pool_of (effect_as c m k (Wait spans waiting))) own own'
  wait_moves spans waiting less = grind (arith, moves_balanced, same_areas, free-painted, times-append)

  pub take_waiting_moves : ((counts : ℕ → Bool) (page : ℕ) → own' counts page ≤ own counts page + times page m.waiting)
      → MovesApart c (pool_of m) (pool_of (effect_as c m k (TakeWaiting m.waiting))) own own'
  take_waiting_moves less = moves_balanced c _ _ own own' same_areas (λ counts page. omega (arith, less counts page, free-painted (covers m.waiting) (Flushing k) m.marks page refl))

  -- Areas.

  pub settle_plain_moves : (s : Span) (kd : AreaKind) (first : ℕ) → is_plain kd ≡ true → ((counts : ℕ → Bool) (page : ℕ) → own' counts page + times page (s ∷ []) ≤ own counts page)
      → MovesApart c (pool_of m) (pool_of (effect_as c m k (Settle ((s, kd) ∷ []) first))) own own'
  settle_plain_moves s kd first plain less =
      let balanced : (counts : ℕ → Bool) (page : ℕ) → IsBalanced c (pool_of m) (pool_of (effect_as c m k (Settle ((s, kd) ∷ []) first))) own own' counts page =
      λ counts page. omega (arith, less counts page, areas_added (of_area page) (areas_of k first ((s, kd) ∷ [])) m.areas, ap (λ b. one_if (b && holds s page)) plain, free-mark_live (areas_of k first ((s, kd) ∷ [])) m.marks page) in
      record {
        once = balanced every;
        areas = λ i a at isnt page on. elim (areas_then (areas_of k first ((s, kd) ∷ [])) m.areas i a at) [
          | inl w ↦
              let is = areas_of_were k first ((s, kd) ∷ []) w.0 a w.1 in
              let same : is.0 ≡ (s, kd) = single (s, kd) w.0 is.0 is.1 in
              let is_so : is_plain a.kind ≡ true = ap is_plain (is.3 ∙ ap (λ (p : Span × AreaKind). p.1) same) ∙ plain in
              absurd cc
          | inr w ↦ inl (w.0, w.1, balanced (other_than a.span.start) page)
        ];
      }

  -- areas of a block or a chunk, whose pages are now that block's or chunk's
  pub settle_out_moves : (ps : List (Span × AreaKind)) (first : ℕ) (spans : List Span) → ((page : ℕ) → sum_by (of_area page) (areas_of k first ps) ≡ 0)
      → ((i : ℕ) (p : Span × AreaKind) → slice_get ps i ≡ Some p → (s : Span) × (slice_get spans i ≡ Some s) × (s ≡ p.0))
      → ((counts : ℕ → Bool) (page : ℕ) → own' counts page ≤ own counts page)
      → ((i : ℕ) (s : Span) → slice_get spans i ≡ Some s → (page : ℕ) → holds s page ≡ true → own' (other_than s.start) page + 1 ≤ own every page)
      → MovesApart c (pool_of m) (pool_of (effect_as c m k (Settle ps first))) own own'
  settle_out_moves ps first spans none were less apart =
      let balanced : (counts : ℕ → Bool) (page : ℕ) → IsBalanced c (pool_of m) (pool_of (effect_as c m k (Settle ps first))) own own' counts page =
      λ counts page. omega (arith, less counts page, none page, areas_added (of_area page) (areas_of k first ps) m.areas, free-mark_live (areas_of k first ps) m.marks page) in
      record {
        once = balanced every;
        areas = λ i a at isnt page on. elim (areas_then (areas_of k first ps) m.areas i a at) [
          | inl w ↦
              let is = areas_of_were k first ps w.0 a w.1 in
              let of = were w.0 is.0 is.1 in
              let same : of.0 ≡ a.span = of.2 ∙ sym is.2 in
              let one_less : own' (other_than a.span.start) page + 1 ≤ own every page =
              subst (λ (s : Span). own' (other_than s.start) page + 1 ≤ own every page) same (apart w.0 of.0 of.1 page (ap (λ (s : Span). holds s page) same ∙ on)) in
              inr (omega (
                arith,
                one_less,
                none page,
                areas_added (of_area page) (areas_of k first ps) m.areas,
                free-mark_live (areas_of k first ps) m.marks page,
                of_block-le c (other_than a.span.start) page m.blocks,
                of_chunk-le c (other_than a.span.start) page m.chunks,
              ))
          | inr w ↦ inl (w.0, w.1, balanced (other_than a.span.start) page)
        ];
      }

  pub remove_moves : (start serial : ℕ) (a : Area) (rest : List Area) → named_areas start serial m.areas ≡ a ∷ rest → is_plain a.kind ≡ true
      → ((counts : ℕ → Bool) (page : ℕ) → own' counts page ≤ own counts page + times page (a.span ∷ []))
      → MovesApart c (pool_of m) (pool_of (effect_as c m k (Remove start serial a))) own own'
  remove_moves start serial a rest e plain less =
      moves_balanced c _ _ own own' (λ i b at. filter_within (λ b. not (is_area start serial b)) m.areas i b at)
      (λ counts page. omega (arith, less counts page, area_removed page start serial m.areas a rest e plain, free-painted (holds a.span) (Held k) m.marks page refl))

  pub unlink_moves : (starts : List ℕ) → ((counts : ℕ → Bool) (page : ℕ) → ((start : ℕ) → is_among starts start ≡ true → counts start ≡ true) → own' counts page ≤ own counts page)
      → MovesApart c (pool_of m) (pool_of (effect_as c m k (Unlink starts))) own own'
  unlink_moves starts less = grind (arith, sum-filter-le, free-painted, filter_within, not_true, filter_passes, is_same)

  -- Blocks and chunks.

  pub blocks_move : (blocks : List Block) → ((counts : ℕ → Bool) (page : ℕ) → sum_by (of_block c counts page) blocks + own' counts page ≤ sum_by (of_block c counts page) m.blocks + own counts page)
      → MovesApart c (pool_of m) (record (pool_of m) { blocks = blocks }) own own'
  blocks_move blocks less = moves_balanced c _ _ own own' same_areas (λ counts page. omega (arith, less counts page))

  pub chunks_move : (chunks : List Chunk) → ((counts : ℕ → Bool) (page : ℕ) → sum_by (of_chunk c counts page) chunks + own' counts page ≤ sum_by (of_chunk c counts page) m.chunks + own counts page)
      → MovesApart c (pool_of m) (record (pool_of m) { chunks = chunks }) own own'
  chunks_move chunks less = moves_balanced c _ _ own own' same_areas (λ counts page. omega (arith, less counts page))
