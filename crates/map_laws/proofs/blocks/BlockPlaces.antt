-- What each section does to blocks and parts at its place.
use Rattle.std.proofs.Common.{Bool, List, Some, [], ap, arith, false, not, refl, slice_get, subst, suc, sym, true, zero, ℕ, ◌+◌, ◌<◌, ◌==◌, ◌∙◌, ◌∷◌, ◌≡◌, ◌≤◌, ◌⊎◌}
use Rattle.vm_model.specs.Areas.{areas_of, is_area, named_areas, spans_of, with_areas}
use Rattle.vm_model.specs.Blocks.{PartAt}
use Rattle.vm_model.specs.Carried.{count_of}
use Rattle.vm_model.specs.Effects.{effect_as}
use Rattle.vm_model.specs.Events.{Remove, Section, Settle, Unlink, MapPages, Populate, Fill, Unmap, Depopulate, CutPart, AddBlock, SettlePart, BeginUnmap, Retire, Fragment, Flush}
use Rattle.vm_model.specs.Legal.{IsLegalAs, IsMarked}
use Rattle.vm_model.specs.Next.{Answer, Go, Next, next}
use Rattle.vm_model.specs.Places.{AddingBlock, MadeNothing, MappingPart, Place, PurgeFragmenting, PurgeUnlinking, Retiring, SettlingBlock, SettlingPart, UnlinkingBlock, UnmappingPart, AskSettle, AskRemove, AskUnlink, AskMap, AskPopulate, AskFill, AskUnmap, AskDepopulate, AskPart, AskAddBlock, AskSettlePart, AskBegin, AskRetire, AskFragment, Ask, ask, PurgeTaking, CuttingPart, BeginningUnmap}
use Rattle.vm_model.specs.PlainMap.{Block, Held, PlainMap}
use Rattle.vm_model.specs.Rules.{IsPower}
use Rattle.vm_model.specs.Setup.{Setup}
use Rattle.vm_model.specs.Space.{holds, is_among, one_if, put_by, span, times}
use Rattle.vm_model.specs.declared.areas.Area.{Area}
use Rattle.vm_model.specs.declared.areas.AreaKind.{AreaKind}
use Rattle.vm_model.specs.declared.areas.Span.{Span}
use Rattle.vm_model.specs.LegalHistory.{Meets}
use Rattle.map_laws.proofs.AskRows.{AskRow, Refused, ask_row}
use Rattle.map_laws.proofs.PlaceRows.{place_row}
use Rattle.map_laws.proofs.areas.AreaFacts.{painted_still, IsHolding, IsMapFine, own_uses}
use Rattle.map_laws.proofs.blocks.BlockFacts.{IsBlockArea, IsBlockAt, IsBlockFine, IsPartIn, IsStill, block_out, block_starts, count_cons, counted_block, not_among, to_same}
use Rattle.map_laws.proofs.blocks.BlockMoves.{IsBlockMoved, area_holds, next_out, outer_moved}
use Rattle.map_laws.proofs.TestsAndFilters.{IsIn, filter_in, put_keeps, put_new, covers_one, holds_from, holds_to, times-one}
use Rattle.map_laws.proofs.KeptThroughSteps.{there}
use Rattle.map_laws.proofs.Quiet.{area_times}
use Rattle.map_laws.proofs.OutMoves.{same_area}
use Rattle.map_laws.proofs.ProperPlaces.{IsPlainKind, OnNext}
use Rattle.vm_model.specs.declared.areas.AreaKind.TheVariants as kind
use Rattle.vm_model.specs.declared.calls.Reply.TheVariants as reply

-- places of which nothing is said as to blocks
abbrev pub is_blocky : Place → Bool
is_blocky (PurgeFragmenting cpu gone extra after) = true
is_blocky (PurgeUnlinking gone extra after) = true
is_blocky (UnlinkingBlock start reply) = true
is_blocky (AddingBlock at) = true
is_blocky (MappingPart at) = true
is_blocky (SettlingPart at) = true
is_blocky (UnmappingPart at) = true
is_blocky (Retiring at reply) = true
is_blocky _ = false

abbrev pub IsUnblocky : Place → Type 0
IsUnblocky p = is_blocky p ≡ false

pub unblocky_out : (p : Place) (start : ℕ) → IsUnblocky p → count_of start (block_out p) ≡ 0
unblocky_out p start h = grind arith

pub unblocky_at : (c : Setup) (m : PlainMap) (k : ℕ) (p : Place) → IsUnblocky p → IsBlockAt c m k p
unblocky_at c m k p h = grind arith

no_next_out : (n : Next) (start : ℕ) → OnNext IsUnblocky n → next_out n start ≡ 0
no_next_out n start h = grind (arith, unblocky_out)

no_next_at : (c : Setup) (m : PlainMap) (k : ℕ) (n : Next) → OnNext IsUnblocky n → OnNext (IsBlockAt c m k) n
no_next_at c m k n h = grind (arith, unblocky_at)

-- places from which a section can lead to one of these
abbrev pub leads_blocky : Place → Bool
leads_blocky (PurgeTaking extra after) = true
leads_blocky (PurgeFragmenting cpu gone extra after) = true
leads_blocky (CuttingPart cpu pages) = true
leads_blocky (SettlingBlock place cpu pages) = true
leads_blocky (AddingBlock at) = true
leads_blocky (MappingPart at) = true
leads_blocky (BeginningUnmap cpu page serial) = true
leads_blocky (UnmappingPart at) = true
leads_blocky (Retiring at reply) = true
leads_blocky _ = false

pub unblocky_next : (c : Setup) (p : Place) (s : Section) → leads_blocky p ≡ false → OnNext IsUnblocky (next c p s)
unblocky_next c p s h = grind (arith, place_row)

-- sections that leave blocks, areas and frames
abbrev pub is_still : Section → Bool
is_still (Settle areas first) = false
is_still (Remove start serial area) = false
is_still (Unlink starts) = false
is_still (MapPages p) = false
is_still (Populate at missing) = false
is_still (Fill base page) = false
is_still (Unmap p) = false
is_still (Depopulate base pages) = false
is_still (CutPart at) = false
is_still (AddBlock at) = false
is_still (SettlePart at serial) = false
is_still (BeginUnmap at serial) = false
is_still (Retire at spent) = false
is_still (Fragment cpu gone) = false
is_still _ = true

abbrev pub asks_still : Ask → Bool
asks_still (AskSettle areas) = false
asks_still (AskRemove start serial) = false
asks_still (AskUnlink starts) = false
asks_still (AskMap p) = false
asks_still (AskPopulate at missing) = false
asks_still (AskFill base page) = false
asks_still (AskUnmap p) = false
asks_still (AskDepopulate base pages) = false
asks_still (AskPart cpu pages) = false
asks_still (AskAddBlock at) = false
asks_still (AskSettlePart at) = false
asks_still (AskBegin cpu page serial) = false
asks_still (AskRetire at) = false
asks_still (AskFragment cpu) = false
asks_still _ = true

still_row : (c : Setup) (a : Ask) (s : Section) → AskRow c a s → asks_still a ≡ true → is_still s ≡ true
still_row c _ _ Refused h = refl
still_row c _ _ _ h = cc

pub record LeavesBlocks (m m' : PlainMap) : Type 0 where
  pub blocks : m'.blocks ≡ m.blocks
  pub areas : m'.areas ≡ m.areas
  pub frames : m'.frames ≡ m.frames
  pub clean : (page : ℕ) → slice_get m.stale page ≡ Some false → slice_get m'.stale page ≡ Some false

leaves_blocks : (c : Setup) (m : PlainMap) (k : ℕ) (s : Section) → is_still s ≡ true → LeavesBlocks m (effect_as c m k s)
leaves_blocks c m k (Settle areas first) h = cc
leaves_blocks c m k (Remove start serial area) h = cc
leaves_blocks c m k (Unlink starts) h = cc
leaves_blocks c m k (MapPages p) h = cc
leaves_blocks c m k (Populate at missing) h = cc
leaves_blocks c m k (Fill base page) h = cc
leaves_blocks c m k (Unmap p) h = cc
leaves_blocks c m k (Depopulate base pages) h = cc
leaves_blocks c m k (CutPart at) h = cc
leaves_blocks c m k (AddBlock at) h = cc
leaves_blocks c m k (SettlePart at serial) h = cc
leaves_blocks c m k (BeginUnmap at serial) h = cc
leaves_blocks c m k (Retire at spent) h = cc
leaves_blocks c m k (Fragment cpu gone) h = cc
leaves_blocks c m k (Flush p) h = record { blocks = refl; areas = refl; frames = refl; clean = λ page e. painted_still (holds p) false m.stale page e }
leaves_blocks c m k _ h = record { blocks = refl; areas = refl; frames = refl; clean = λ page e. e }

-- Areas that stay among others.

pub with_keeps : (xs areas : List Area) (a : Area) → IsIn a areas → IsIn a (with_areas xs areas)
with_keeps [] areas a h = h
with_keeps (x ∷ xs) areas a h = with_keeps xs (put_by (λ (b : Area). b.span.start) x areas) a (put_keeps (λ (b : Area). b.span.start) x areas a h)

-- a part in hand where the blocks are the same
pub hand_same : (m m' : PlainMap) (k : ℕ) (at : PartAt) → m'.blocks ≡ m.blocks → IsPartIn m k at → IsPartIn m' k at
hand_same m m' k at e is = record { block = is.block; there = subst (IsIn is.block) (sym e) is.there; start = is.start; part = is.part; part_there = is.part_there; offset = is.offset; pages = is.pages; life = is.life }

pub not_held : (s : Span) (page : ℕ) → (page < s.start) ⊎ (s.start + s.pages ≤ page) → holds s page ≡ false
not_held s page out = grind (arith, holds_to)

-- a page of a live area of a chunk
pub record IsInChunk (m : PlainMap) (page : ℕ) : Type 0 where
  pub area : Area
  pub there : IsIn area m.areas
  pub holds : holds area.span page ≡ true
  pub chunk : ℕ
  pub group : ℕ
  pub kind : area.kind ≡ kind.Chunk chunk group

-- it is in no block's area
pub in_one_kind : (m : PlainMap) (page : ℕ) → ((page : ℕ) → times page (spans_of m.areas) ≤ 1) → IsInChunk m page → (a : Area) → IsIn a m.areas → holds a.span page ≡ true → (cpu : ℕ) → a.kind ≡ kind.Block cpu → ⊥
in_one_kind m page once is a there h cpu block =
    let i = same_area page m.areas is.there.place there.place is.area a (once page) is.there.at there.at is.holds h in
    let one : is.area ≡ a = (let g = there.at in let f : slice_get m.areas there.place ≡ Some is.area = ap (slice_get m.areas) (sym i) ∙ is.there.at in cc) in
    let clash : kind.Block cpu ≡ kind.Chunk is.chunk is.group = sym block ∙ sym (ap (λ (x : Area). x.kind) one) ∙ is.kind in cc

-- what the numbers of a header say of parts
pub record HasParts (c : Setup) : Type 0 where
  pub power : IsPower c.part_limit
  pub fits : c.part_limit ≤ c.block_pages
  pub small : c.part_limit ≤ 1048576
  pub some : 1 ≤ c.block_pages

module _ (c : Setup) (m : PlainMap) (k : ℕ) (fine : IsMapFine m) (has : HasParts c) (all : (b : Block) → IsIn b m.blocks → IsBlockFine c m b) where
  module _ (p : Place) (once : (page : ℕ) → own_uses c m p page ≤ 1) (named : (start : ℕ) → count_of start (block_starts m.blocks) + count_of start (block_out p) ≤ 1) where
    -- a section that leaves blocks, block areas and frames
    pub quiet_b : (s : Section) (n : Next) → OnNext IsUnblocky n → (effect_as c m k s).blocks ≡ m.blocks → (effect_as c m k s).areas ≡ m.areas → (effect_as c m k s).frames ≡ m.frames
        → ((page : ℕ) → slice_get m.stale page ≡ Some false → slice_get (effect_as c m k s).stale page ≡ Some false) → IsBlockMoved c m k p s n
    quiet_b s n un blocks areas frames clean = outer_moved c m k p s n all named blocks (λ a cpu there kd z. subst (IsIn a) (sym areas) there)
        (λ page start area a b. record { frame = ap (λ l. slice_get l page) frames; clean = clean page }) (λ start. omega (arith, no_next_out n start un)) (no_next_at c (effect_as c m k s) k n un)

    pub still_b : (s : Section) (n : Next) → is_still s ≡ true → OnNext IsUnblocky n → IsBlockMoved c m k p s n
    still_b s n h un = let is = leaves_blocks c m k s h in quiet_b s n un is.blocks is.areas is.frames is.clean

    pub plain_b : (s : Section) → asks_still (ask c p) ≡ true → leads_blocky p ≡ false → Meets c (ask c p) s → IsBlockMoved c m k p s (next c p s)
    plain_b s asks leads w = still_b s (next c p s) (still_row c (ask c p) s (ask_row c (ask c p) s w) asks) (unblocky_next c p s leads)

    pub settle_b : (areas : List (Span × AreaKind)) (first : ℕ) (n : Next) → ((start : ℕ) → next_out n start ≤ count_of start (block_out p)) → OnNext (IsBlockAt c (effect_as c m k (Settle areas first)) k) n → IsBlockMoved c m k p (Settle areas first) n
    settle_b areas first n outs own = outer_moved c m k p (Settle areas first) n all named refl (λ a cpu there kd z. with_keeps (areas_of k first areas) m.areas a there)
        (λ page start area a b. record { frame = refl; clean = λ h. h }) outs own

    -- frames of pages that the caller holds
    pub held_b : (s : Section) (n : Next) → OnNext IsUnblocky n → (effect_as c m k s).blocks ≡ m.blocks → (effect_as c m k s).areas ≡ m.areas
        → ((page : ℕ) → (IsMarked m (Held k) page → ⊥) → IsStill m (effect_as c m k s) page) → IsBlockMoved c m k p s n
    held_b s n un blocks areas still = outer_moved c m k p s n all named blocks (λ a cpu there kd z. subst (IsIn a) (sym areas) there)
        (λ page start area a b. still page (λ h. (let live = (fine.areas area.there.place area.area area.there.at).marked page (covers_one area.area.span page ∙ area_holds c m start area page a b) in cc)))
        (λ start. omega (arith, no_next_out n start un)) (no_next_at c (effect_as c m k s) k n un)

    -- frames of pages of areas of chunks
    pub framed_b : (s : Section) (n : Next) → OnNext IsUnblocky n → (effect_as c m k s).blocks ≡ m.blocks → (effect_as c m k s).areas ≡ m.areas
        → ((page : ℕ) → (IsInChunk m page → ⊥) → IsStill m (effect_as c m k s) page) → IsBlockMoved c m k p s n
    framed_b s n un blocks areas still = outer_moved c m k p s n all named blocks (λ a cpu there kd z. subst (IsIn a) (sym areas) there)
        (λ page start area a b. still page (λ is. (let here = in_block start area page a b in in_one_kind m page (λ q. less_areas q) is area.area area.there here area.cpu area.kind)))
        (λ start. omega (arith, no_next_out n start un)) (no_next_at c (effect_as c m k s) k n un)
      where
        less_areas : (page : ℕ) → times page (spans_of m.areas) ≤ 1
        less_areas page = let o = once page in omega arith

        in_block : (start : ℕ) (area : IsBlockArea c m start) (page : ℕ) → start ≤ page → page < start + c.block_pages → holds area.area.span page ≡ true
        in_block start area page a b = area_holds c m start area page a b

    -- areas are unlinked that are no block's
    pub groups_b : (starts : List ℕ) (n : Next) → OnNext IsUnblocky n → ((a : Area) (cpu : ℕ) → IsIn a m.areas → a.kind ≡ kind.Block cpu → is_among starts a.span.start ≡ false) → IsBlockMoved c m k p (Unlink starts) n
    groups_b starts n un apart = outer_moved c m k p (Unlink starts) n all named refl
        (λ a cpu there kd z. filter_in (λ (x : Area). not (is_among starts x.span.start)) m.areas a there.place there.at (ap not (apart a cpu there kd)))
        (λ page start area a b. record { frame = refl; clean = λ h. h }) (λ start. omega (arith, no_next_out n start un)) (no_next_at c (effect_as c m k (Unlink starts)) k n un)

    pub remove_b : (start serial : ℕ) (area : Area) (n : Next) → OnNext IsUnblocky n → named_areas start serial m.areas ≡ area ∷ [] → IsPlainKind area.kind → IsBlockMoved c m k p (Remove start serial area) n
    remove_b start serial area n un legal plain = outer_moved c m k p (Remove start serial area) n all named refl
        (λ a cpu there kd z. filter_in (λ x. not (is_area start serial x)) m.areas a there.place there.at (unnamed a cpu there kd (is_area start serial a) refl))
        (λ page start area a b. record { frame = refl; clean = λ h. h }) (λ start. omega (arith, no_next_out n start un)) (no_next_at c (effect_as c m k (Remove start serial area)) k n un)
      where
        only : (a : Area) → IsIn a (area ∷ []) → a ≡ area
        only a there = by_place there.place there.at
          where
            by_place : (i : ℕ) → slice_get (area ∷ []) i ≡ Some a → a ≡ area
            by_place zero e = (let same : area ≡ a = cc in sym same)
            by_place (suc i) e = cc

        unnamed : (a : Area) (cpu : ℕ) → IsIn a m.areas → a.kind ≡ kind.Block cpu → (t : Bool) → is_area start serial a ≡ t → not (is_area start serial a) ≡ true
        unnamed a cpu there kd true e =
            let same = only a (subst (IsIn a) legal (filter_in (is_area start serial) m.areas a there.place there.at e)) in
            let block : IsPlainKind (kind.Block cpu) = subst IsPlainKind kd (subst (λ (x : Area). IsPlainKind x.kind) (sym same) plain) in absurd block
        unnamed a cpu there kd false e = ap not e

    pub unlink_b : (starts : List ℕ) (n : Next) → block_out p ≡ starts → OnNext IsUnblocky n → IsBlockMoved c m k p (Unlink starts) n
    unlink_b starts n e un = outer_moved c m k p (Unlink starts) n all named refl
        (λ a cpu there kd z. filter_in (λ (x : Area). not (is_among starts x.span.start)) m.areas a there.place there.at (ap not (not_among a.span.start starts (sym (ap (count_of a.span.start) e) ∙ z))))
        (λ page start area a b. record { frame = refl; clean = λ h. h }) (λ start. omega (arith, no_next_out n start un)) (no_next_at c (effect_as c m k (Unlink starts)) k n un)

    pub as_b : (s t : Section) → s ≡ t → IsLegalAs c m k s → (IsLegalAs c m k t → IsBlockMoved c m k p t (next c p t)) → IsBlockMoved c m k p s (next c p s)
    as_b s t e legal f = subst (λ (x : Section). IsBlockMoved c m k p x (next c p x)) (sym e) (f (subst (IsLegalAs c m k) e legal))

  -- A block that is settled.

  module _ (place : Span) (cpu pages first : ℕ) (once : (page : ℕ) → own_uses c m (SettlingBlock place cpu pages) page ≤ 1)
      (named : (start : ℕ) → count_of start (block_starts m.blocks) + count_of start (block_out (SettlingBlock place cpu pages)) ≤ 1)
      (own : IsHolding c m k (SettlingBlock place cpu pages)) (size : place.pages ≡ c.block_pages) where
    -- no other block area has its start
    never : IsBlockArea c m place.start → ⊥
    never area =
        let here : one_if (holds place place.start) ≡ 1 = ap one_if (holds_from place place.start (omega arith) (let s = has.some in omega arith)) in
        let there = area_times place.start m.areas area.there.place area.area area.there.at (covers_one area.area.span place.start ∙ area_holds c m place.start area place.start (omega arith) (let s = has.some in omega arith)) in
        let o = once place.start in omega (arith, times-one place.start place)

    fresh_names : (start others : ℕ) → count_of start (block_starts m.blocks) + others + 0 ≤ 1 → (1 ≤ others → IsBlockArea c m start) → (t : Bool) → (place.start == start) ≡ t
        → count_of start (block_starts m.blocks) + others + count_of start (place.start ∷ []) ≤ 1
    fresh_names start others o known true e =
        let same = to_same place.start start e in
        let none : count_of start (block_starts m.blocks) + others ≡ 0 = no_names (count_of start (block_starts m.blocks)) others refl refl in
        omega (arith, count_cons start place.start [], ap one_if e)
      where
        no_names : (a b : ℕ) → count_of start (block_starts m.blocks) ≡ a → others ≡ b → a + b ≡ 0
        no_names zero zero f g = refl
        no_names zero (suc b) f g = absurd (never (subst (IsBlockArea c m) (sym (to_same place.start start e)) (known (omega arith))))
        no_names (suc a) b f g = absurd (let is = counted_block start m.blocks (omega arith) in never (subst (IsBlockArea c m) (is.2 ∙ sym (to_same place.start start e)) (all is.0 is.1).area))
    fresh_names start others o known false e = omega (arith, count_cons start place.start [], ap one_if e)

    abbrev new_area : IsBlockArea c (effect_as c m k (Settle ((place, kind.Block cpu) ∷ []) first)) place.start
    new_area = record {
      area = record { span = place; kind = kind.Block cpu; caller = k; serial = first };
      cpu = cpu;
      there = put_new (λ (b : Area). b.span.start) (record { span = place; kind = kind.Block cpu; caller = k; serial = first }) m.areas;
      span = ap (λ n. span place.start n) size;
      kind = refl;
    }

    pub block_settled : IsBlockMoved c m k (SettlingBlock place cpu pages) (Settle ((place, kind.Block cpu) ∷ []) first) (Go (AddingBlock (record { cpu = cpu; block = place.start; offset = 0; pages = pages })))
    block_settled =
        let base = settle_b (SettlingBlock place cpu pages) once named ((place, kind.Block cpu) ∷ []) first (Answer reply.Done MadeNothing) (λ start. omega arith) tt in record {
          names = λ start others o known. fresh_names start others o known _ refl;
          blocks = base.blocks;
          own = (new_area, refl, (λ page a b. (let was = own.bare page (covers_one place page ∙ holds_from place page a (omega arith)) in record { unmapped = was.unmapped; not_stale = was.not_stale })));
          stays = base.stays;
          hands = base.hands;
        }
