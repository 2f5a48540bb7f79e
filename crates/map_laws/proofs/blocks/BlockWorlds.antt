-- Each section at its place, as to blocks and parts.
use Rattle.std.proofs.Common.{◌≡◌, ℕ, zero, suc, ◌+◌, ◌<◌, ◌≤◌, ◌⊎◌, inl, inr, Bool, true, false, nat_lt, if◌then◌else◌, List, [], ◌∷◌, ◌++◌, length, Option, Some, None, refl, ap, ◌∙◌, arith, slice_get, slice_set, subst, sum_by, sym, ◌-◌, ◌==◌, ◌||◌, ◌≢◌}
use Rattle.vm_model.specs.declared.areas.Span.{Span}
use Rattle.vm_model.specs.declared.areas.Area.{Area}
use Rattle.vm_model.specs.declared.areas.AreaKind.{AreaKind}
use Rattle.vm_model.specs.declared.calls.Reply.{Reply}
use Rattle.vm_model.specs.Space.{count_from, holds, is_among, times, pages_of, covers, one_if, span}
use Rattle.vm_model.specs.Setup.{Setup, cpus, pages_in_units, groups_at}
use Rattle.vm_model.specs.PlainMap.{PlainMap, Block}
use Rattle.vm_model.specs.Areas.{spans_of, named_areas, mapped_part, group_areas, areas_starting}
use Rattle.vm_model.specs.Frames.{free_frames}
use Rattle.vm_model.specs.Blocks.{PartAt, first_page, mapped_pages, rounded}
use Rattle.vm_model.specs.Legal.{IsMapped, IsBare, IsLegalAs, OnPages}
use Rattle.vm_model.specs.Events.{Section, TakePurge, Settle, Remove, Unlink, MapPages, NoFrames, Unmap, CutPart, NoPart, AddBlock, SettlePart, BeginUnmap, PartNotLive, Retire, Fragment, Depopulate, Fill, Populate, Event}
use Rattle.vm_model.specs.Effects.{effect_as}
use Rattle.vm_model.specs.Places.{Place, Finding, FindingAgain, MappingArea, SettlingArea, Removing, UnmappingArea, PurgeTaking, PurgeFragmenting, PurgeUnlinking, CuttingPart, SettlingBlock, AddingBlock, MappingPart, SettlingPart, BeginningUnmap, UnmappingPart, Retiring, UnlinkingBlock, Then, ask, Depopulating, Filling, Populating, SettlingGroups, UnlinkingGroups, group_starts, Made, block_spans}
use Rattle.vm_model.specs.Next.{Go, next, after_fragments, Answer, Next}
use Rattle.vm_model.specs.Carried.{count_of}
use Rattle.vm_model.specs.LegalHistory.{Meets}
use Rattle.map_laws.proofs.TestsAndFilters.{IsIn, filter_in, sum_has, or_false, or_right, covers_one, holds_from, InSpans, holds_to, in_spans, times-cons}
use Rattle.map_laws.proofs.ProperPlaces.{IsPlainKind, IsProper, HaveBeginnings, AtOver, OnNext, answers_call, begins_with}
use Rattle.vm_model.proofs.RoundedPages.{rounded_high}
use Rattle.map_laws.proofs.areas.AreaFacts.{painted, unpainted, ungiven, outside_row, IsHolding, IsMapFine, own_uses, mapped_within}
use Rattle.map_laws.proofs.PlaceMoves.{given_all, held_in_row}
use Rattle.map_laws.proofs.blocks.BlockFacts.{OnRow, IsBlockFine, IsPartIn, IsOut, IsBlockAt, block_starts, block_out, IsBlockArea, IsStill, Stays, among_count, count_among, count_cons, out_stays, same_test, still_bare, still_mapped, still_unmapped, to_same}
use Rattle.map_laws.proofs.blocks.BlockMoves.{part_within, row_of, IsBlockMoved, outer_moved, inner_moved, area_holds, area_start, next_out, same_start}
use Rattle.map_laws.proofs.blocks.PartMoves.{cut_moved, add_moved, settle_part_moved, retire_moved}
use Rattle.map_laws.proofs.blocks.FragmentMoves.{begin_moved, fragment_moved, to_next, to_unlink}
use Rattle.map_laws.proofs.blocks.BlockPlaces.{HasParts, is_still, still_b, plain_b, unblocky_next, hand_same, not_held, quiet_b, settle_b, held_b, remove_b, unlink_b, as_b, block_settled, framed_b, IsInChunk, groups_b, IsUnblocky, unblocky_at, unblocky_out}
use Rattle.map_laws.proofs.areas.AreaMoves.{AreGroupsFree, IsOutside}
use Rattle.map_laws.proofs.OutMoves.{IsUnlinked, IsInside, sum_two}
use Rattle.vm_model.specs.declared.areas.AreaKind.TheVariants as kind
use Rattle.std.proofs.lemmas.List.Sums.{sum_by-cons, sum_by-set}
use Rattle.std.proofs.lemmas.Option.{get_or_from_slice_get, slice_get_within}
use Rattle.vm_model.specs.History.{Local, World, moved_to}
use Rattle.map_laws.proofs.areas.AreaWorlds.{moved_caller}
use Rattle.map_laws.proofs.KeptThroughSteps.{set_cases}
use Rattle.map_laws.proofs.Quiet.{area_times}

-- of the area that is removed at a place
abbrev pub IsRemovedPlain : PlainMap → Place → Type 0
IsRemovedPlain m (Removing start serial) = (area : Area) → named_areas start serial m.areas ≡ area ∷ [] → IsPlainKind area.kind
IsRemovedPlain m _ = Unit {0}

-- what a place promises of chunks
abbrev pub IsChunkSided : Setup → PlainMap → Place → Type 0
IsChunkSided c m (Finding search aim) = AreGroupsFree c m search
IsChunkSided c m (FindingAgain search aim) = AreGroupsFree c m search
IsChunkSided c m (Populating at missing) = OnPages (pages_in_units c at.base missing) (IsInChunk m)
IsChunkSided c m (Filling chunk base page filled) = OnPages (pages_in_units c base (page ∷ [])) (IsInChunk m)
IsChunkSided c m (Depopulating base populated) = OnPages (pages_in_units c base populated) (IsInChunk m)
IsChunkSided c m (UnlinkingGroups base) =
    ((a : Area) (cpu : ℕ) → IsIn a m.areas → a.kind ≡ kind.Block cpu → is_among (group_starts c base) a.span.start ≡ false) × IsUnlinked c m (group_starts c base) (groups_at c base)
IsChunkSided c m _ = Unit {0}

module _ (c : Setup) (m : PlainMap) (k : ℕ) (fine : IsMapFine m) (has : HasParts c) (all : (b : Block) → IsIn b m.blocks → IsBlockFine c m b) where
  module _ (at : PartAt) (hand : IsPartIn m k at) (areas_once : (page : ℕ) → times page (spans_of m.areas) ≤ 1)
      (named : (start : ℕ) → count_of start (block_starts m.blocks) + 0 ≤ 1) where
    row_out : (page : ℕ) → (page < first_page at) ⊎ (first_page at + at.pages ≤ page) → holds (mapped_pages at) page ≡ false
    row_out page out = not_held (mapped_pages at) page out

    length_row : (n first : ℕ) → length (count_from n first) ≡ n
    length_row zero first = refl
    length_row (suc n) first = ap suc (length_row n (suc first))

    pub map_part : OnRow (first_page at) (rounded at.pages) (IsBare m) → at.pages ≤ rounded at.pages → IsLegalAs c m k (MapPages (mapped_pages at))
        → IsBlockMoved c m k (MappingPart at) (MapPages (mapped_pages at)) (Go (SettlingPart at))
    map_part bare less legal = inner_moved c m k (MappingPart at) (MapPages (mapped_pages at)) (Go (SettlingPart at)) all named at hand areas_once refl refl
        (λ page out. record { frame = ungiven (pages_of (mapped_pages at)) (free_frames c m.frames) m.frames page (outside_row (mapped_pages at) page (row_out page out)); clean = λ h. h })
        (λ start. omega arith) (
          hand_same m (effect_as c m k (MapPages (mapped_pages at))) k at refl hand,
          (λ page low high. given_all (pages_of (mapped_pages at)) (free_frames c m.frames) m.frames page None (held_in_row (mapped_pages at) page (holds_from (mapped_pages at) page low high))
              (let l = legal.1 in omega (arith, length_row at.pages (first_page at))) (bare page low (omega arith)).unmapped),
        )

    pub unmap_part : (r : Reply) → OnRow (first_page at) at.pages (IsMapped m) → IsBlockMoved c m k (UnmappingPart at) (Unmap (mapped_pages at)) (Go (Retiring at r))
    unmap_part r mapped = inner_moved c m k (UnmappingPart at) (Unmap (mapped_pages at)) (Go (Retiring at r)) all named at hand areas_once refl refl
        (λ page out. record {
          frame = unpainted (holds (mapped_pages at)) None m.frames page (row_out page out);
          clean = λ h. unpainted (holds (mapped_pages at)) true m.stale page
              (row_out page out) ∙ h;
        })
        (λ start. omega arith) (
          hand_same m (effect_as c m k (Unmap (mapped_pages at))) k at refl hand,
          (λ page low high. (let was = mapped page low high in painted (holds (mapped_pages at)) None (Some was.0) m.frames page (holds_from (mapped_pages at) page low high) was.1)),
        )

    pub no_frames_part : (asked : ℕ) (r : Reply) → OnRow (first_page at) (rounded at.pages) (IsBare m) → at.pages ≤ rounded at.pages
        → IsBlockMoved c m k (MappingPart at) (NoFrames asked) (Go (Retiring at r))
    no_frames_part asked r bare less = outer_moved c m k (MappingPart at) (NoFrames asked) (Go (Retiring at r)) all named refl (λ a cpu there kd z. there)
        (λ page start area a b. record { frame = refl; clean = λ h. h }) (λ start. omega arith)
        (hand_same m (effect_as c m k (NoFrames asked)) k at refl hand, (λ page low high. (bare page low (omega arith)).unmapped))

  not_among_pages : (pages : List ℕ) (page : ℕ) → (is_among pages page ≡ true → ⊥) → is_among pages page ≡ false
  not_among_pages pages page never = grind arith

  not_mapped : (kd : AreaKind) (place : Span) (page : ℕ) → (holds place page ≡ true → ⊥) → holds (mapped_part kd place) page ≡ false
  not_mapped kd place page never = grind (arith, mapped_within)

  purge_begins : (extra : Option Span) (after : Then) (named : (start : ℕ) → count_of start (block_starts m.blocks) + 0 ≤ 1)
      → IsBlockMoved c m k (PurgeTaking extra after) TakePurge (Go (PurgeFragmenting 0 [] extra after))
  purge_begins extra after named = outer_moved c m k (PurgeTaking extra after) TakePurge (Go (PurgeFragmenting 0 [] extra after)) all named refl (λ a cpu there kd z. there)
      (λ page start area a b. record { frame = refl; clean = λ h. h }) (λ start. omega arith) (λ start h. cc)

  fragment_by : (cpu : ℕ) (gone g : List ℕ) (extra : Option Span) (after : Then) (once : (start : ℕ) → count_of start (block_starts m.blocks) ≤ 1) → IsLegalAs c m k (Fragment cpu g)
      → ((start : ℕ) → is_among gone start ≡ true → IsOut c m start)
      → (t : Bool) → IsBlockMoved c m k (PurgeFragmenting cpu gone extra after) (Fragment cpu g)
      (if t then Go (PurgeFragmenting (suc cpu) (gone ++ g) extra after) else Go (after_fragments (gone ++ g) extra after))
  fragment_by cpu gone g extra after once legal outs true = fragment_moved c m k all once cpu gone g extra after legal outs _ (to_next c m k all once cpu gone g extra after legal outs)
  fragment_by cpu gone g extra after once legal outs false =
      fragment_moved c m k all once cpu gone g extra after legal outs _ (to_unlink c m k all once cpu gone g extra after legal outs (gone ++ g) refl)

  module _ (p : Place) where
    less_one : (once : (page : ℕ) → own_uses c m p page ≤ 1) (page : ℕ) → times page (spans_of m.areas) ≤ 1
    less_one once page = let o = once page in omega arith

    starts_one : ((start : ℕ) → count_of start (block_starts m.blocks) + count_of start (block_out p) ≤ 1) → (start : ℕ) → count_of start (block_starts m.blocks) ≤ 1
    starts_one named start = let n = named start in omega arith

  size_low : (at : PartAt) → IsPartIn m k at → at.pages ≤ rounded at.pages
  size_low at hand = let w = (part_within c m hand.block hand.part (all hand.block hand.there) hand.part_there).1 in let r = row_of m k at hand in omega (arith, r.1, r.2)

  pub block_by : (p : Place) (s : Section) → IsChunkSided c m p → IsProper c p → IsHolding c m k p → IsRemovedPlain m p → (once : (page : ℕ) → own_uses c m p page ≤ 1)
      → (named : (start : ℕ) → count_of start (block_starts m.blocks) + count_of start (block_out p) ≤ 1) → IsBlockAt c m k p → Meets c (ask c p) s → IsLegalAs c m k s
      → IsBlockMoved c m k p s (next c p s)
  block_by (MappingArea place kd) s is proper own plain once named at (inl w) legal =
      as_b c m k fine has all (MappingArea place kd) once named s (MapPages (mapped_part kd place)) w legal
      (λ l. held_b c m k fine has all (MappingArea place kd) once named (MapPages (mapped_part kd place)) _ refl refl refl
      (λ page free. record {
        frame = ungiven (pages_of (mapped_part kd place)) (free_frames c m.frames) m.frames page
            (outside_row (mapped_part kd place) page (not_mapped kd place page (λ t. free (own.held page (covers_one place page ∙ t)))));
        clean = λ h. h;
      }))
  block_by (MappingArea place kd) s is proper own plain once named at (inr w) legal =
      still_b c m k fine has all (MappingArea place kd) once named s _ (ap is_still w) (unblocky_next c (MappingArea place kd) s refl)
  block_by (SettlingArea place kd) s is proper own plain once named at w legal =
      as_b c m k fine has all (SettlingArea place kd) once named s (Settle ((place, kd) ∷ []) w.0) w.1 legal
      (λ l. settle_b c m k fine has all (SettlingArea place kd) once named ((place, kd) ∷ []) w.0 _ (λ start. omega arith) tt)
  block_by (Removing start serial) s is proper own plain once named at (inl w) legal =
      as_b c m k fine has all (Removing start serial) once named s (Remove start serial w.0) w.1 legal
      (λ l. remove_b c m k fine has all (Removing start serial) once named start serial w.0 _ refl l (plain w.0 l))
  block_by (Removing start serial) s is proper own plain once named at (inr w) legal =
      still_b c m k fine has all (Removing start serial) once named s _ (ap is_still w) (unblocky_next c (Removing start serial) s refl)
  block_by (UnmappingArea area) s is proper own plain once named at w legal =
      as_b c m k fine has all (UnmappingArea area) once named s (Unmap (mapped_part area.kind area.span)) w legal
      (λ l. held_b c m k fine has all (UnmappingArea area) once named (Unmap (mapped_part area.kind area.span)) _ refl refl refl
      (λ page free. (let out = not_mapped area.kind area.span page (λ t. free (own.held page (covers_one area.span page ∙ t))) in
      record { frame = unpainted (holds (mapped_part area.kind area.span)) None m.frames page out; clean = λ h. unpainted (holds (mapped_part area.kind area.span)) true m.stale page out ∙ h })))
  block_by (PurgeTaking extra after) s is proper own plain once named at w legal =
      as_b c m k fine has all (PurgeTaking extra after) once named s TakePurge w legal
      (λ l. purge_begins extra after named)
  block_by (PurgeFragmenting cpu gone extra after) s is proper own plain once named at w legal =
      as_b c m k fine has all (PurgeFragmenting cpu gone extra after) once named s (Fragment cpu w.0) w.1 legal
      (λ l. fragment_by cpu gone w.0 extra after (starts_one (PurgeFragmenting cpu gone extra after) named) l at (nat_lt (suc cpu) (cpus c)))
  block_by (PurgeUnlinking gone extra after) s is proper own plain once named at w legal =
      as_b c m k fine has all (PurgeUnlinking gone extra after) once named s (Unlink gone) w legal
      (λ l. unlink_b c m k fine has all (PurgeUnlinking gone extra after) once named gone _ refl refl)
  block_by (CuttingPart cpu pages) s is proper own plain once named at (inl w) legal =
      as_b c m k fine has all (CuttingPart cpu pages) once named s (CutPart w.0) w.3 legal
      (λ l. cut_moved c m k all cpu pages w.0 named (let few = proper.1 in let small = has.small in omega (arith, w.2)) l)
  block_by (CuttingPart cpu pages) s is proper own plain once named at (inr w) legal =
      as_b c m k fine has all (CuttingPart cpu pages) once named s (NoPart cpu pages) w legal
      (λ l. quiet_b c m k fine has all (CuttingPart cpu pages) once named (NoPart cpu pages) _ refl refl refl refl (λ page h. h))
  block_by (SettlingBlock place cpu pages) s is proper own plain once named at w legal =
      as_b c m k fine has all (SettlingBlock place cpu pages) once named s (Settle ((place, kind.Block cpu) ∷ []) w.0) w.1 legal
      (λ l. block_settled c m k fine has all place cpu pages w.0 once named own proper.0)
  block_by (AddingBlock part) s is proper own plain once named at w legal =
      as_b c m k fine has all (AddingBlock part) once named s (AddBlock part) w legal
      (λ l. (let high = rounded_high part.pages c.part_limit has.power proper.2 in add_moved c m k all part at.0 at.2 proper.0 (let f = has.fits in omega arith)
      (let f = has.small in let g = proper.2 in omega arith)))
  block_by (MappingPart part) s is proper own plain once named at (inl w) legal =
      as_b c m k fine has all (MappingPart part) once named s (MapPages (mapped_pages part)) w legal
      (λ l. map_part part at.0 (less_one (MappingPart part) once) named at.1 (size_low part at.0) l)
  block_by (MappingPart part) s is proper own plain once named at (inr w) legal =
      as_b c m k fine has all (MappingPart part) once named s (NoFrames part.pages) w legal
      (λ l. no_frames_part part at.0 (less_one (MappingPart part) once) named part.pages _ at.1 (size_low part at.0))
  block_by (SettlingPart part) s is proper own plain once named at w legal =
      as_b c m k fine has all (SettlingPart part) once named s (SettlePart part w.0) w.1 legal
      (λ l. settle_part_moved c m k all part at.0 (starts_one (SettlingPart part) named) w.0 _ _ at.1)
  block_by (BeginningUnmap cpu page serial) s is proper own plain once named at (inl w) legal =
      as_b c m k fine has all (BeginningUnmap cpu page serial) once named s (BeginUnmap w.0 serial) w.3 legal
      (λ l. begin_moved c m k all (starts_one (BeginningUnmap cpu page serial) named) cpu page serial w.0 l)
  block_by (BeginningUnmap cpu page serial) s is proper own plain once named at (inr w) legal =
      as_b c m k fine has all (BeginningUnmap cpu page serial) once named s (PartNotLive cpu page serial) w legal
      (λ l. quiet_b c m k fine has all (BeginningUnmap cpu page serial) once named (PartNotLive cpu page serial) _ tt refl refl refl (λ page h. h))
  block_by (UnmappingPart part) s is proper own plain once named at w legal =
      as_b c m k fine has all (UnmappingPart part) once named s (Unmap (mapped_pages part)) w legal
      (λ l. unmap_part part at.0 (less_one (UnmappingPart part) once) named _ at.1)
  block_by (Retiring part r) s is proper own plain once named at w legal =
      as_b c m k fine has all (Retiring part r) once named s (Retire part w.0) w.1 legal
      (λ l. retire_moved c m k all part at.0 (starts_one (Retiring part r) named) at.1 r w.0 l.1)
  block_by (UnlinkingBlock start r) s is proper own plain once named at w legal =
      as_b c m k fine has all (UnlinkingBlock start r) once named s (Unlink (start ∷ [])) w legal
      (λ l. unlink_b c m k fine has all (UnlinkingBlock start r) once named (start ∷ []) _ refl refl)
  block_by (SettlingGroups base chunk bytes align) s is proper own plain once named at w legal =
      as_b c m k fine has all (SettlingGroups base chunk bytes align) once named s (Settle (group_areas c chunk base) w.0) w.1 legal
      (λ l. settle_b c m k fine has all (SettlingGroups base chunk bytes align) once named (group_areas c chunk base) w.0 _ (λ start. omega arith) tt)
  block_by (Populating object missing) s is proper own plain once named at (inl w) legal =
      as_b c m k fine has all (Populating object missing) once named s (Populate object missing) w legal
      (λ l. framed_b c m k fine has all (Populating object missing) once named (Populate object missing) _ refl refl refl
      (λ page out. record {
        frame = ungiven (pages_in_units c object.base missing) (free_frames c m.frames) m.frames page
            (not_among_pages (pages_in_units c object.base missing) page (λ h. out (is page h)));
        clean = λ h. h;
      }))
  block_by (Populating object missing) s is proper own plain once named at (inr w) legal =
      still_b c m k fine has all (Populating object missing) once named s _ (ap is_still w) (unblocky_next c (Populating object missing) s refl)
  block_by (Filling chunk base own_page filled) s is proper own plain once named at (inl w) legal =
      as_b c m k fine has all (Filling chunk base own_page filled) once named s (Fill base own_page) w legal
      (λ l. framed_b c m k fine has all (Filling chunk base own_page filled) once named (Fill base own_page) _ refl refl refl
      (λ page out. record {
        frame = ungiven (pages_in_units c base (own_page ∷ [])) (free_frames c m.frames) m.frames page
            (not_among_pages (pages_in_units c base (own_page ∷ [])) page (λ h. out (is page h)));
        clean = λ h. h;
      }))
  block_by (Filling chunk base own_page filled) s is proper own plain once named at (inr w) legal =
      still_b c m k fine has all (Filling chunk base own_page filled) once named s _ (ap is_still w) (unblocky_next c (Filling chunk base own_page filled) s refl)
  block_by (Depopulating base populated) s is proper own plain once named at w legal =
      as_b c m k fine has all (Depopulating base populated) once named s (Depopulate base populated) w legal
      (λ l. framed_b c m k fine has all (Depopulating base populated) once named (Depopulate base populated) _ refl refl refl
      (λ page out. (let off = not_among_pages (pages_in_units c base populated) page (λ h. out (is page h)) in
      record { frame = unpainted (is_among (pages_in_units c base populated)) None m.frames page off; clean = λ h. unpainted (is_among (pages_in_units c base populated)) true m.stale page off ∙ h })))
  block_by (UnlinkingGroups base) s is proper own plain once named at w legal =
      as_b c m k fine has all (UnlinkingGroups base) once named s (Unlink (group_starts c base)) w legal
      (λ l. groups_b c m k fine has all (UnlinkingGroups base) once named (group_starts c base) _ refl is.0)
  block_by p s is proper own plain once named at w legal = plain_b c m k fine has all p once named s refl refl w

-- What is kept of blocks is kept by each legal section, and gives what areas need of blocks.

pub record IsBlockWorld (c : Setup) (w : World) : Type 0 where
  pub blocks : (b : Block) → IsIn b w.map.blocks → IsBlockFine c w.map b
  pub named : (start : ℕ) → count_of start (block_starts w.map.blocks) + sum_by (λ (l : Local). count_of start (block_out l.place)) w.locals ≤ 1
  pub each : (k : ℕ) (l : Local) → slice_get w.locals k ≡ Some l → IsBlockAt c w.map l.caller l.place

pub unblocky_begins : (c : Setup) → HaveBeginnings IsUnblocky c
unblocky_begins c _ AtOver = refl
unblocky_begins c _ _ = refl

sum_by_first : {X : Type 0} (f : X → ℕ) (x : X) (xs : List X) (n : ℕ) → f x ≡ n → 1 ≤ sum_by f (x ∷ xs) → (1 ≤ sum_by f xs → (i : ℕ) × (y : X) × (slice_get xs i ≡ Some y) × (1 ≤ f y)) → (i : ℕ) × (y : X) × (slice_get (x ∷ xs) i ≡ Some y) × (1 ≤ f y)
sum_by_first f x xs zero e h more = let is = more (omega (arith, sum_by-cons f x xs)) in (suc is.0, is.1, is.2, is.3)
sum_by_first f x xs (suc n) e h more = (0, x, refl, (omega arith))

pub sum_some : {X : Type 0} (f : X → ℕ) (xs : List X) → 1 ≤ sum_by f xs → (i : ℕ) × (x : X) × (slice_get xs i ≡ Some x) × (1 ≤ f x)
sum_some f [] h = absurd (omega arith)
sum_some f (x ∷ xs) h = sum_by_first f x xs (f x) refl h (sum_some f xs)

pub only_one : (s start : ℕ) → is_among (s ∷ []) start ≡ true → s ≡ start
only_one s start h = to_same s start (sym (or_false (s == start)) ∙ h)

-- the area of a start that a caller has out
pub out_area : (c : Setup) (m : PlainMap) (j : ℕ) (p : Place) (start : ℕ) → IsBlockAt c m j p → is_among (block_out p) start ≡ true → IsBlockArea c m start
out_area c m j p start at h = grind (arith, only_one)

first_among : (s : ℕ) → is_among (s ∷ []) s ≡ true
first_among s = ap (λ b. b || false) (same_test s)

-- what another caller keeps
at_stays : (c : Setup) (m m' : PlainMap) (j : ℕ) (p : Place) → ((start : ℕ) → is_among (block_out p) start ≡ true → IsBlockArea c m start → Stays c m m' start)
    → ((at : PartAt) → IsPartIn m j at → IsPartIn m' j at × OnRow (first_page at) (rounded at.pages) (IsStill m m')) → ((at : PartAt) → IsPartIn m j at → at.pages ≤ rounded at.pages) → IsBlockAt c m j p → IsBlockAt c m' j p
at_stays c m m' j (PurgeFragmenting cpu gone extra after) stays hands low at = λ start h. out_stays c m m' start (stays start h (at start h).area) (at start h)
at_stays c m m' j (PurgeUnlinking gone extra after) stays hands low at = λ start h. out_stays c m m' start (stays start h (at start h).area) (at start h)
at_stays c m m' j (UnlinkingBlock s r) stays hands low at = out_stays c m m' s (stays s (first_among s) at.area) at
at_stays c m m' j (AddingBlock part) stays hands low at = let st = stays part.block (first_among part.block) at.0 in (st.area at.0, st.cpu at.0 ∙ at.1, (λ page a b. still_bare m m' page (st.pages page a b) (at.2 page a b)))
at_stays c m m' j (MappingPart part) stays hands low at = let h = hands part at.0 in (h.0, (λ page a b. still_bare m m' page (h.1 page a b) (at.1 page a b)))
at_stays c m m' j (SettlingPart part) stays hands low at = let h = hands part at.0 in let l = low part at.0 in (h.0, (λ page a b. still_mapped m m' page (h.1 page a (omega arith)) (at.1 page a b)))
at_stays c m m' j (UnmappingPart part) stays hands low at = let h = hands part at.0 in let l = low part at.0 in (h.0, (λ page a b. still_mapped m m' page (h.1 page a (omega arith)) (at.1 page a b)))
at_stays c m m' j (Retiring part r) stays hands low at = let h = hands part at.0 in let l = low part at.0 in (h.0, (λ page a b. still_unmapped m m' page (h.1 page a (omega arith)) (at.1 page a b)))
at_stays c m m' j _ stays hands low at = tt

module _ (c : Setup) (w : World) (l : Local) (s : Section) (kept : IsBlockWorld c w) (here : slice_get w.locals l.caller ≡ Some l) (callers : (j : ℕ) (x : Local) → slice_get w.locals j ≡ Some x → x.caller ≡ j)
    (call : length l.answers < length l.calls) (moved : IsBlockMoved c w.map l.caller l.place s (next c l.place s)) (setup : l.setup ≡ c) where
  abbrev outs : ℕ → Local → ℕ
  outs start x = count_of start (block_out x.place)

  abbrev after_local : Local
  after_local = moved_to l (next c l.place s)

  answer_un : (r : Reply) (made : Made) → IsUnblocky (moved_to l (Answer r made)).place
  answer_un r made = let e = answers_call l r made call in
      subst (λ (x : Local). IsUnblocky x.place) (sym e.2) (begins_with IsUnblocky l.setup (unblocky_begins l.setup) l.opening _ (slice_get l.calls (suc (length l.answers))))

  moved_out : (n : Next) (start : ℕ) → count_of start (block_out (moved_to l n).place) ≡ next_out n start
  moved_out (Go p) start = refl
  moved_out (Answer r made) start = unblocky_out (moved_to l (Answer r made)).place start (answer_un r made)

  moved_at : (n : Next) → OnNext (IsBlockAt c (effect_as c w.map l.caller s) l.caller) n → IsBlockAt c (effect_as c w.map l.caller s) l.caller (moved_to l n).place
  moved_at n h = grind (arith, unblocky_at, answer_un)

  out_sum : (start : ℕ) → sum_by (λ (x : Local). count_of start (block_out x.place)) (slice_set w.locals l.caller after_local) + count_of start (block_out l.place)
      ≡ sum_by (λ (x : Local). count_of start (block_out x.place)) w.locals + count_of start (block_out after_local.place)
  out_sum start = ap (λ n. sum_by (outs start) (slice_set w.locals l.caller after_local) + n) (sym (ap (outs start) (get_or_from_slice_get w.locals l.caller l l here)))
      ∙ sum_by-set (outs start) w.locals l.caller after_local l (slice_get_within w.locals l.caller l here)

  own_le : (start : ℕ) → count_of start (block_out l.place) ≤ sum_by (λ (x : Local). count_of start (block_out x.place)) w.locals
  own_le start = sum_has (outs start) w.locals l l.caller here

  -- what the others have out has its area
  others_area : (start : ℕ) → 1 ≤ sum_by (λ (x : Local). count_of start (block_out x.place)) w.locals - count_of start (block_out l.place) → IsBlockArea c w.map start
  others_area start h = grind (arith, sum_some, out_area, count_among, block_out)

  step_named : (start : ℕ) → count_of start (block_starts (effect_as c w.map l.caller s).blocks) + sum_by (λ (x : Local). count_of start (block_out x.place)) (slice_set w.locals l.caller after_local) ≤ 1
  step_named start =
      let before = kept.named start in let own = own_le start in
      let after = moved.names start (sum_by (λ (x : Local). count_of start (block_out x.place)) w.locals - count_of start (block_out l.place)) (omega arith) (others_area start) in
      omega (arith, out_sum start, moved_out (next c l.place s) start)

  low_hand : (j : ℕ) (at : PartAt) → IsPartIn w.map j at → at.pages ≤ rounded at.pages
  low_hand j at hand = let z = (part_within c w.map hand.block hand.part (kept.blocks hand.block hand.there) hand.part_there).1 in let r = row_of w.map j at hand in omega (arith, r.1, r.2)

  other_at : (j : ℕ) (x : Local) → slice_get w.locals j ≡ Some x → j ≢ l.caller → IsBlockAt c (effect_as c w.map l.caller s) x.caller x.place
  other_at j x at n = at_stays c w.map (effect_as c w.map l.caller s) x.caller x.place
      (λ start h area. (let one = among_count start (block_out x.place) h in let total = kept.named start in let apart : l.caller ≢ j = (λ e. n (sym e)) in let two = sum_two (outs start) w.locals l.caller j l x here at apart in
      moved.stays start (omega arith) (omega arith) area))
      (λ part hand. moved.hands x.caller part (λ e. n (sym (callers j x at) ∙ e)) hand) (low_hand x.caller) (kept.each j x at)

  pub block_step : (m' : PlainMap) → m' ≡ effect_as c w.map l.caller s → (locals : List Local) → locals ≡ slice_set w.locals l.caller after_local → (events : List Event) → IsBlockWorld c (record { map = m'; locals = locals; events = events })
  block_step m' e locals f events = subst (λ m. IsBlockWorld c (record { map = m; locals = locals; events = events })) (sym e) (subst (λ ls. IsBlockWorld c (record { map = effect_as c w.map l.caller s; locals = ls; events = events })) (sym f) (record {
    blocks = moved.blocks;
    named = step_named;
    each = λ j x at. elim (set_cases w.locals l.caller j after_local x at) [
      | inl g ↦ subst (λ (y : Local). IsBlockAt c (effect_as c w.map l.caller s) y.caller y.place) (sym g.1)
          (subst (λ i. IsBlockAt c (effect_as c w.map l.caller s) i after_local.place) (sym (moved_caller l (next c l.place s) call)) (moved_at (next c l.place s) moved.own))
      | inr g ↦ other_at j x g.1 g.0
    ];
  }))

-- What areas need of blocks.

module _ (c : Setup) (m : PlainMap) (once : (page : ℕ) → times page (spans_of m.areas) ≤ 1) where
  pub row_covers : (s page : ℕ) → holds (span s c.block_pages) page ≡ true → (s ≤ page) × (page < s + c.block_pages)
  row_covers s page h = holds_to (span s c.block_pages) page h

  -- a page of the blocks' spans is in one of the blocks
  pub covered_start : (xs : List ℕ) (page : ℕ) → covers (block_spans c xs) page ≡ true → (s : ℕ) × (is_among xs s ≡ true) × (holds (span s c.block_pages) page ≡ true)
  covered_start [] page h = cc
  covered_start (x ∷ xs) page h = grind (arith, covered_start xs page, same_test, or_right)

  times_by : (s page x : ℕ) (xs : List ℕ) (t : Bool) → holds (span x c.block_pages) page ≡ t → (holds (span x c.block_pages) page ≡ true → x ≡ s) → times page (block_spans c xs) ≤ count_of s xs → times page (block_spans c (x ∷ xs)) ≤ count_of s (x ∷ xs)
  times_by s page x xs true e same less = omega (arith, times-cons page (span x c.block_pages) (block_spans c xs), count_cons s x xs, ap one_if e, ap (λ n. one_if (n == s)) (same e), ap one_if (same_test s))
  times_by s page x xs false e same less = omega (arith, times-cons page (span x c.block_pages) (block_spans c xs), count_cons s x xs, ap one_if e)

  pub times_count : (s page : ℕ) (xs : List ℕ) → ((x : ℕ) → is_among xs x ≡ true → holds (span x c.block_pages) page ≡ true → x ≡ s) → times page (block_spans c xs) ≤ count_of s xs
  times_count s page [] same = omega arith
  times_count s page (x ∷ xs) same = times_by s page x xs _ refl (same x (ap (λ b. b || is_among xs x) (same_test x))) (times_count s page xs (λ y h. same y (or_right (x == y) (is_among xs y) h)))

  module _ (starts : List ℕ) (outs : (start : ℕ) → is_among starts start ≡ true → IsOut c m start) (few : (start : ℕ) → count_of start starts ≤ 1) where
    one_area : (page s : ℕ) → is_among starts s ≡ true → holds (span s c.block_pages) page ≡ true → times page (block_spans c starts) ≤ times page (spans_of (areas_starting starts m.areas))
    one_area page s h e =
        let area = (outs s h).area in let r = row_covers s page e in
        let kept = filter_in (λ (a : Area). is_among starts a.span.start) m.areas area.area area.there.place area.there.at (ap (is_among starts) (area_start c m s area) ∙ h) in
        let there = area_times page (areas_starting starts m.areas) kept.place area.area kept.at (covers_one area.area.span page ∙ area_holds c m s area page r.0 r.1) in
        let low = times_count s page starts (λ x g f. (let q = row_covers x page f in same_start c m page x s (once page) (outs x g).area area q.0 q.1 r.0 r.1)) in
        let one = few s in omega arith

    less_by : (page : ℕ) → InSpans page (block_spans c starts) → times page (block_spans c starts) ≤ times page (spans_of (areas_starting starts m.areas))
    less_by page x1 = grind (arith, covered_start, one_area)

    pub unlinked : IsUnlinked c m starts (block_spans c starts)
    unlinked = record {
      less = λ page. less_by page (in_spans page (block_spans c starts));
      unmapped = λ page e. (let is = covered_start starts page e in let r = row_covers is.0 page is.2 in (outs is.0 is.1).unmapped page r.0 r.1);
    }

  module _ (k : ℕ) (at : PartAt) (all : (b : Block) → IsIn b m.blocks → IsBlockFine c m b) (hand : IsPartIn m k at) where
    pub part_inside : (page : ℕ) → covers (mapped_pages at ∷ []) page ≡ true → IsInside m page
    part_inside page e =
        let h = holds_to (mapped_pages at) page (sym (covers_one (mapped_pages at) page) ∙ e) in
        let fine = all hand.block hand.there in let v = part_within c m hand.block hand.part fine hand.part_there in let r = row_of m k at hand in record {
          area = fine.area.area;
          there = fine.area.there;
          holds = area_holds c m hand.block.start fine.area page (let a = r.0 in let b = h.0 in omega arith) (let a = r.0 in let b = h.1 in let f = r.2 in let g = v.0 in let i = v.1 in omega arith);
          inner = λ plain. (let block : IsPlainKind (kind.Block fine.area.cpu) = subst IsPlainKind fine.area.kind plain in absurd block);
        }

chunk_inside : (m : PlainMap) (page : ℕ) → IsInChunk m page → IsInside m page
chunk_inside m page is = grind arith

module _ (c : Setup) (m : PlainMap) (k : ℕ) (once : (page : ℕ) → times page (spans_of m.areas) ≤ 1) (all : (b : Block) → IsIn b m.blocks → IsBlockFine c m b) where
  pub block_outside : (p : Place) → IsChunkSided c m p → IsRemovedPlain m p → IsBlockAt c m k p → ((start : ℕ) → count_of start (block_out p) ≤ 1) → IsOutside c m p
  block_outside (Finding search aim) side plain at few = side
  block_outside (FindingAgain search aim) side plain at few = side
  block_outside (Removing start serial) side plain at few = plain
  block_outside (PurgeUnlinking gone extra after) side plain at few = unlinked c m once gone at few
  block_outside (UnlinkingBlock start r) side plain at few = unlinked c m once (start ∷ []) (λ s h. subst (IsOut c m) (only_one start s h) at) few
  block_outside (UnlinkingGroups base) side plain at few = side.1
  block_outside (MappingPart part) side plain at few = part_inside c m once k part all at.0
  block_outside (UnmappingPart part) side plain at few = part_inside c m once k part all at.0
  block_outside (Populating object missing) side plain at few = λ page h. chunk_inside m page (side page h)
  block_outside (Filling chunk base page filled) side plain at few = λ own h. chunk_inside m own (side own h)
  block_outside (Depopulating base populated) side plain at few = λ page h. chunk_inside m page (side page h)
  block_outside _ side plain at few = tt
