-- The tables of the processors' blocks and live parts, sorted together, are those of the world.
use Rattle.std.proofs.Common.{◌≡◌, ℕ, ◌+◌, ◌<◌, ◌≤◌, ◌==◌, inl, inr, Bool, true, false, cond, if◌then◌else◌, All, List, [], ◌∷◌, length, map, filter, flat_map, drop, refl, ap, sym, ◌∙◌, subst, arith}
use Rattle.std.proofs.lemmas.Bool.{cases_lt}
use Rattle.std.proofs.lemmas.Bool.Decides.{nat_tests}
use Rattle.std.proofs.lemmas.List.Concat.{flat_map_single}
use Rattle.std.proofs.lemmas.List.Elements.{All-nil, All-push, All-filter, All-map, All-weaker}
use Rattle.std.proofs.lemmas.List.Folds.{flat_map-map}
use Rattle.std.specs.List.Sorted.{IsSortedByKey, IsStableByKey}
use Rattle.std.specs.Fn.{ComputesKey}
use Rattle.std.specs.Ordering.{nat_cmp}
use Rattle.vm_model.specs.declared.calls.Call.{Call}
use Rattle.vm_model.specs.declared.rows.BlockRow.{BlockRow}
use Rattle.vm_model.specs.declared.rows.PartRow.{PartRow}
use Rattle.vm_model.specs.Space.{count_from, sort_by, one_if}
use Rattle.vm_model.specs.Setup.{Setup, cpus}
use Rattle.vm_model.specs.PlainMap.{PlainMap, Block, Part, InHand, Lives, Ended, is_live}
use Rattle.vm_model.specs.Blocks.{PartAt, blocks_of, change_block, parts_size, set_life, size_of, with_life, with_part}
use Rattle.vm_model.specs.Carried.{count_of}
use Rattle.vm_model.specs.Events.{Section, ForPages, ForGroups, CutPart, AddBlock, SettlePart, BeginUnmap, Retire, Fragment}
use Rattle.vm_model.specs.Effects.{effect_as}
use Rattle.vm_model.specs.Places.{Ask, AskSearch, AskAddBlock, ask}
use Rattle.vm_model.specs.History.{World, Local, made_by, made_if, opening_world, step, step_of}
use Rattle.vm_model.specs.LegalHistory.{IsReached, Meets}
use Rattle.vm_model.specs.Rules.{IsTrace}
use Rattle.vm_model.specs.Parts.{Region, cpu_blocks, regions_of}
use Rattle.vm_model.specs.Tables.{block_row, part_row, part_rows, tables_of}
use Rattle.map_parts.specs.KeptByEvents.{KeepsApart}
use Rattle.map_parts.specs.Locality.{StaysWithin}
use Rattle.map_parts.proofs.KeptApart.{kept_callers_stay_within}
use Rattle.map_parts.proofs.ReachedKept.{callers_keep, opening_keeps}
use Rattle.map_parts.proofs.StepKeeps.{steps_keep_apart}
use Rattle.map_laws.proofs.areas.AreaWorlds.{IsLegalStep, IsLegallyLasting, legally_lasts}
use Rattle.map_laws.proofs.blocks.BlockFacts.{AreStacked, IsBlockFine, block_count, block_starts, count_cons, same_test, size_cons}
use Rattle.map_laws.proofs.blocks.BlockMoves.{same_start}
use Rattle.map_laws.proofs.TestsAndFilters.{IsIn, in_more}
use Rattle.map_laws.proofs.KeptThroughSteps.{IsFramed}
use Rattle.vm_model.proofs.RoundedPages.{rounded_some}
use Rattle.map_laws.proofs.TraceWorlds.{IsTraceWorld, trace_reached}
use Rattle.kernel_steps.specs.Kernels.{block_table_of, part_table_of}
use Rattle.section_laws.specs.Lawful.{IsRunning}
use Rattle.kernel_steps.proofs.RowsByProcessor.{flat_map_alike, gathered, gathered_by_key_is, more_rows, sorted_gathered}
use Rattle.kernel_steps.proofs.StableSort.{same, same_key}
use denote.Ref.{Bor}
use denote.Param.Members.{Mut, Called}

-- each block is of a processor that is there
abbrev pub AreOfCpus : Setup → List Block → Type 0
AreOfCpus c blocks = All (λ (b : Block). b.cpu < cpus c) blocks

-- and so is one that is added
abbrev AddsOfCpu : Setup → Section → Type 0
AddsOfCpu c (AddBlock at) = at.cpu < cpus c
AddsOfCpu c _ = Unit {0}

added_cpu : (c : Setup) (m : PlainMap) (a : Ask) (at : PartAt) → StaysWithin c m a → Meets c a (AddBlock at) → at.cpu < cpus c
added_cpu c m (AskAddBlock own) at within is = let same : at ≡ own = cc in subst (λ (x : PartAt). x.cpu < cpus c) (sym same) within
added_cpu c m (AskSearch (ForPages pages align)) at within is = grind arith
added_cpu c m (AskSearch ForGroups) at within is = grind arith
added_cpu c m _ at within is = grind arith

section_cpu : (c : Setup) (m : PlainMap) (a : Ask) (s : Section) → StaysWithin c m a → Meets c a s → AddsOfCpu c s
section_cpu c m a (AddBlock at) within is = added_cpu c m a at within is
section_cpu c m a _ within is = tt

changed_by : (start : ℕ) (change : Block → Block) → ((b : Block) → (change b).cpu ≡ b.cpu) → (b : Block) (t : Bool) → (if t then change b else b).cpu ≡ b.cpu
changed_by start change same b true = same b
changed_by start change same b false = refl

changed_cpus : (c : Setup) (start : ℕ) (change : Block → Block) (blocks : List Block) → ((b : Block) → (change b).cpu ≡ b.cpu) → AreOfCpus c blocks → AreOfCpus c (change_block start change blocks)
changed_cpus c start change blocks same below =
    All-map (λ (b : Block). b.cpu < cpus c) (λ (b : Block). if b.start == start then change b else b) blocks
    (All-weaker (λ (b : Block). b.cpu < cpus c) (λ (b : Block). (if b.start == start then change b else b).cpu < cpus c) (λ b low. omega (arith, changed_by start change same b (b.start == start))) blocks below)

cpus_after : (c : Setup) (m : PlainMap) (k : ℕ) (s : Section) → AddsOfCpu c s → AreOfCpus c m.blocks → AreOfCpus c (effect_as c m k s).blocks
cpus_after c m k (CutPart at) added below = changed_cpus c at.block (with_part k at) m.blocks (λ b. refl) below
cpus_after c m k (AddBlock at) added below = All-push (λ (b : Block). b.cpu < cpus c) m.blocks (with_part k at (record { start = at.block; cpu = at.cpu; parts = [] })) below added
cpus_after c m k (SettlePart at serial) added below = changed_cpus c at.block (with_life at (Lives serial)) m.blocks (λ b. refl) below
cpus_after c m k (BeginUnmap at serial) added below = changed_cpus c at.block (with_life at (InHand k)) m.blocks (λ b. refl) below
cpus_after c m k (Retire at spent) added below =
    All-filter _ (λ (b : Block). b.cpu < cpus c) (set_life at Ended m.blocks) (changed_cpus c at.block (with_life at Ended) m.blocks (λ b. refl) below)
cpus_after c m k (Fragment cpu gone) added below = All-filter _ (λ (b : Block). b.cpu < cpus c) m.blocks below
cpus_after c m k _ added below = below

-- a world's parts keep apart, and its blocks' processors are there
record KeepsCpus (c : Setup) (w : World) : Type 0 where
  kept : KeepsApart c w
  below : AreOfCpus c w.map.blocks

module _ (c : Setup) (opening : List Call) (calls : List (List Call)) (trace : IsTrace c opening calls) where
  cpus_step : (w : World) (k : ℕ) (l : Local) (s : Section) → IsFramed c w → KeepsCpus c w → IsLegalStep w k l s → KeepsCpus c (made_by w l s)
  cpus_step w k l s framed is legal =
      let made : step w k ≡ made_by w l s = ap (step_of w) legal.step.here ∙ ap (made_if w l) legal.step.gives in
      let own : l.setup ≡ c = (framed.own k l legal.step.here).setup in
      let within = kept_callers_stay_within c w k l trace.setup is.kept legal.step.here in
      let added = section_cpu l.setup w.map (ask l.setup l.place) s (subst (λ d. StaysWithin d w.map (ask l.setup l.place)) (sym own) within) legal.meets in
      record {
        kept = subst (KeepsApart c) made (steps_keep_apart c w k trace.setup is.kept);
        below = subst (λ d. AreOfCpus d (made_by w l s).map.blocks) own (cpus_after l.setup w.map l.caller s added (subst (λ d. AreOfCpus d w.map.blocks) (sym own) is.below));
      }

  cpus_last : IsLegallyLasting c calls (KeepsCpus c)
  cpus_last = record {
    steps = cpus_step;
    joins = λ w framed one is over. record { kept = callers_keep c opening calls w trace is.kept one; below = is.below };
  }

  cpus_first : KeepsCpus c (opening_world c opening calls)
  cpus_first = record { kept = opening_keeps c opening calls trace; below = All-nil (λ (b : Block). b.cpu < cpus c) }

  pub cpus_there : (w : World) → IsReached c opening calls w → AreOfCpus c w.map.blocks
  cpus_there w reached = ((legally_lasts c calls (KeepsCpus c) cpus_last opening cpus_first w reached).1).below

-- Of the rows of blocks with different starts at most one passes a test, where one of a block does and blocks with one have one start.

module _ {R : Type 0} (passes : R → Bool) (rows : Block → List R) where
  abbrev passing : Block → ℕ
  passing b = length (filter passes (rows b))

  some_passes : (bs : List Block) → 1 ≤ length (filter passes (flat_map rows bs)) → (b : Block) × IsIn b bs × (1 ≤ passing b)
  some_passes [] some = absurd (omega arith)
  some_passes (b ∷ bs) some = elim (cases_lt 0 (passing b)) [
    | inl here ↦ (b, record { place = 0; at = refl }, omega arith)
    | inr none ↦ let later = some_passes bs (omega (arith, more_rows passes rows b bs)) in (later.0, in_more later.0 b bs later.1, later.2)
  ]

  once_in_all : (bs : List Block) → ((b : Block) → IsIn b bs → passing b ≤ 1) → ((b other : Block) → IsIn b bs → IsIn other bs → 1 ≤ passing b → 1 ≤ passing other → b.start ≡ other.start)
      → ((start : ℕ) → count_of start (block_starts bs) ≤ 1) → length (filter passes (flat_map rows bs)) ≤ 1
  once_in_all [] each one named = omega arith
  once_in_all (b ∷ bs) each one named =
      let first : IsIn b (b ∷ bs) = record { place = 0; at = refl } in
      elim (cases_lt (passing b) 1) [
        | inl none ↦
            let rest = once_in_all bs (λ x there. each x (in_more x b bs there)) (λ x y there other. one x y (in_more x b bs there) (in_more y b bs other)) (λ start. (let n = named start in omega (arith, count_cons start b.start (block_starts bs)))) in
            omega (arith, more_rows passes rows b bs)
        | inr some ↦ elim (cases_lt (length (filter passes (flat_map rows bs))) 1) [
          | inl none ↦ let own = each b first in omega (arith, more_rows passes rows b bs)
          | inr more ↦
              let later = some_passes bs more in
              let same_one : b.start ≡ later.0.start = one b later.0 first (in_more later.0 b bs later.1) some later.2 in
              absurd (let n = block_count later.0 bs later.1 in let high = named b.start in
              omega (arith, count_cons b.start b.start (block_starts bs), ap one_if (same_test b.start), ap (λ start. count_of start (block_starts bs)) same_one))
        ]
      ]

-- Rows of blocks.

abbrev block_key : BlockRow → ℕ
block_key row = row.start

abbrev part_key : PartRow → ℕ
part_key row = row.span.start

single_few : {R : Type 0} (row : R) (t : Bool) → length (cond t (row ∷ []) []) ≤ 1
single_few row true = omega arith
single_few row false = omega arith

single_passes : {R : Type 0} (row : R) (t : Bool) → 1 ≤ length (cond t (row ∷ []) []) → t ≡ true
single_passes row true some = refl
single_passes row false some = absurd (omega arith)

-- Rows of the live parts of a block, which lie one behind the other.

apart_below : (a b : ℕ) → a < b → one_if (a == b) ≡ 0
apart_below a b low = let e : (a == b) ≡ false = grind (arith, nat_tests) in ap one_if e

apart_above : (a b : ℕ) → b < a → one_if (a == b) ≡ 0
apart_above a b high = let e : (a == b) ≡ false = grind (arith, nat_tests) in ap one_if e

module _ (x : PartRow) (b : Block) where
  abbrev live_rows : List Part → ℕ
  live_rows parts = length (filter (same part_key x) (map (part_row b) (filter (λ (p : Part). is_live p.life) parts)))

  by_test : (t : Bool) (row : PartRow) (rest : List PartRow) → length (cond t (row ∷ rest) rest) ≤ one_if t + length rest
  by_test true row rest = omega arith
  by_test false row rest = omega arith

  by_live : (t : Bool) (p : Part) (parts : List Part) → length (filter (same part_key x) (map (part_row b) (cond t (p ∷ parts) parts)))
      ≤ one_if (x.span.start == b.start + p.offset) + length (filter (same part_key x) (map (part_row b) parts))
  by_live true p parts = by_test (x.span.start == b.start + p.offset) (part_row b p) (filter (same part_key x) (map (part_row b) parts))
  by_live false p parts = omega arith

  one_more : (p : Part) (parts : List Part) → live_rows (p ∷ parts) ≤ one_if (x.span.start == b.start + p.offset) + live_rows parts
  one_more p parts = by_live (is_live p.life) p (filter (λ (q : Part). is_live q.life) parts)

  none_before : (off : ℕ) (parts : List Part) → AreStacked off parts → x.span.start < b.start + off → live_rows parts ≤ 0
  none_before off [] stacked low = omega arith
  none_before off (p ∷ parts) stacked low =
      let at = stacked.0 in
      omega (arith, one_more p parts, apart_below x.span.start (b.start + p.offset) (omega arith), none_before (off + size_of p) parts stacked.2 (omega arith))

  none_behind : (off : ℕ) (parts : List Part) → AreStacked off parts → b.start + off + parts_size parts ≤ x.span.start → live_rows parts ≤ 0
  none_behind off [] stacked high = omega arith
  none_behind off (p ∷ parts) stacked high =
      let at = stacked.0 in let some = rounded_some p.pages in let size = size_cons p parts in
      omega (arith, one_more p parts, apart_above x.span.start (b.start + p.offset) (omega arith), none_behind (off + size_of p) parts stacked.2 (omega arith))

  part_by : (t : Bool) (off : ℕ) (p : Part) (parts : List Part) → (x.span.start == b.start + p.offset) ≡ t → AreStacked off (p ∷ parts) → (live_rows parts ≤ 1) → live_rows (p ∷ parts) ≤ 1
  part_by true off p parts e stacked more =
      let here : x.span.start ≡ b.start + p.offset = grind (arith, nat_tests) in
      let at = stacked.0 in let some = rounded_some p.pages in
      omega (arith, one_more p parts, ap one_if e, none_before (off + size_of p) parts stacked.2 (omega arith))
  part_by false off p parts e stacked more = omega (arith, one_more p parts, ap one_if e)

  part_once : (off : ℕ) (parts : List Part) → AreStacked off parts → live_rows parts ≤ 1
  part_once off [] stacked = omega arith
  part_once off (p ∷ parts) stacked = part_by (x.span.start == b.start + p.offset) off p parts refl stacked (part_once (off + size_of p) parts stacked.2)

  -- where one has this first page, the page is the block's
  part_there : (c : Setup) (m : PlainMap) → IsBlockFine c m b → 1 ≤ live_rows b.parts → (b.start ≤ x.span.start) × (x.span.start < b.start + c.block_pages)
  part_there c m fine some = (
    elim (cases_lt x.span.start (b.start + 0)) [ inl low ↦ absurd (omega (arith, none_before 0 b.parts fine.stacked low)) | inr from ↦ omega arith ],
    elim (cases_lt x.span.start (b.start + 0 + parts_size b.parts)) [
      | inl below ↦ let within = fine.within in omega arith
      | inr past ↦ absurd (omega (arith, none_behind 0 b.parts fine.stacked past))
    ],
  )

-- the regions behind the first eight are those of the processors
pub behind_eight : (c : Setup) (m : PlainMap) → drop 8 (regions_of c m) ≡ map (cpu_blocks m c.block_pages) (count_from (cpus c) 0)
behind_eight c m = refl

-- In a world of a run.

module _ (c : Setup) (opening : List Call) (calls : List (List Call)) (w : World) (is : IsRunning c opening calls w) where
  world : IsTraceWorld c w
  world = (trace_reached c opening calls is.trace w is.reached).1

  below : AreOfCpus c w.map.blocks
  below = cpus_there c opening calls is.trace w is.reached

  names_once : (start : ℕ) → count_of start (block_starts w.map.blocks) ≤ 1
  names_once start = let n = world.blocks.named start in omega arith

  block_rows_once : (x : BlockRow) → length (filter (same block_key x) (flat_map (λ b. block_row c b ∷ []) w.map.blocks)) ≤ 1
  block_rows_once x =
      once_in_all (same block_key x) (λ b. block_row c b ∷ []) w.map.blocks (λ b there. single_few (block_row c b) (same block_key x (block_row c b)))
      (λ b other there also some more. sym (same_key block_key x (block_row c b) (single_passes (block_row c b) (same block_key x (block_row c b)) some)) ∙ same_key block_key x (block_row c other) (single_passes (block_row c other) (same block_key x (block_row c other)) more))
      names_once

  part_rows_once : (x : PartRow) → length (filter (same part_key x) (flat_map part_rows w.map.blocks)) ≤ 1
  part_rows_once x =
      once_in_all (same part_key x) part_rows w.map.blocks (λ b there. part_once x b 0 b.parts (world.blocks.blocks b there).stacked)
      (λ b other there also some more.
      let fine = world.blocks.blocks b there in let fine_too = world.blocks.blocks other also in
      let on = part_there x b c w.map fine some in let on_too = part_there x other c w.map fine_too more in
      same_start c w.map x.span.start b.start other.start (let o = world.area.once x.span.start in omega arith) fine.area fine_too.area on.0 on.1 on_too.0 on_too.1)
      names_once

  -- the processors' tables, one behind the other
  blocks_gathered : flat_map block_table_of (map (cpu_blocks w.map c.block_pages) (count_from (cpus c) 0)) ≡ gathered block_key (λ b. block_row c b ∷ []) (λ (b : Block). b.cpu) (cpus c) w.map.blocks
  blocks_gathered =
      flat_map-map block_table_of (cpu_blocks w.map c.block_pages) (count_from (cpus c) 0)
      ∙ flat_map_alike (λ k. block_table_of (cpu_blocks w.map c.block_pages k)) (λ k. sort_by block_key (flat_map (λ b. block_row c b ∷ []) (blocks_of k w.map.blocks)))
      (λ k. ap (sort_by block_key) (sym (flat_map_single (block_row c) (blocks_of k w.map.blocks)))) (count_from (cpus c) 0)

  parts_gathered : flat_map part_table_of (map (cpu_blocks w.map c.block_pages) (count_from (cpus c) 0)) ≡ gathered part_key part_rows (λ (b : Block). b.cpu) (cpus c) w.map.blocks
  parts_gathered = flat_map-map part_table_of (cpu_blocks w.map c.block_pages) (count_from (cpus c) 0)

  blocks_are : sort_by block_key (flat_map (λ b. block_row c b ∷ []) w.map.blocks) ≡ (tables_of c w).blocks
  blocks_are = ap (sort_by block_key) (flat_map_single (block_row c) w.map.blocks)

  module _ (regions : List Region) (here : regions ≡ drop 8 (regions_of c w.map)) where
    regions_are : regions ≡ map (cpu_blocks w.map c.block_pages) (count_from (cpus c) 0)
    regions_are = here ∙ behind_eight c w.map

    -- the definition's sort of the regions' tables is the world's table
    pub sorted_block_tables : sort_by (λ (b : BlockRow). b.start) (flat_map block_table_of regions) ≡ (tables_of c w).blocks
    sorted_block_tables =
        ap (λ rs. sort_by block_key (flat_map block_table_of rs)) regions_are ∙ ap (sort_by block_key) blocks_gathered
        ∙ sorted_gathered block_key (λ b. block_row c b ∷ []) (λ (b : Block). b.cpu) (cpus c) w.map.blocks below block_rows_once ∙ blocks_are

    pub sorted_part_tables : sort_by (λ (p : PartRow). p.span.start) (flat_map part_table_of regions) ≡ (tables_of c w).parts
    sorted_part_tables =
        ap (λ rs. sort_by part_key (flat_map part_table_of rs)) regions_are ∙ ap (sort_by part_key) parts_gathered
        ∙ sorted_gathered part_key part_rows (λ (b : Block). b.cpu) (cpus c) w.map.blocks below part_rows_once

    -- and so is a stable sort of them by start
    pub block_tables_told : {F : Type 0} {g : Mut F (Bor BlockRow × Unit {0}) ℕ} {f : F} (mid ys : List BlockRow) → mid ≡ flat_map block_table_of regions
        → ((k : BlockRow → ℕ) → ComputesKey g k f → IsSortedByKey k nat_cmp ys) → ((k : BlockRow → ℕ) → ComputesKey g k f → IsStableByKey k nat_cmp mid ys)
        → ((a : Bor BlockRow × Unit {0}) (r : ℕ) (f' : F) → Called g f a r f' → (r ≡ a.0.now.start) × (f' ≡ f)) → ys ≡ (tables_of c w).blocks
    block_tables_told mid ys told up stable h =
        gathered_by_key_is block_key (λ b. block_row c b ∷ []) (λ (b : Block). b.cpu) (cpus c) w.map.blocks below block_rows_once mid ys
        (told ∙ ap (flat_map block_table_of) regions_are ∙ blocks_gathered) up stable h ∙ blocks_are

    pub part_tables_told : {F : Type 0} {g : Mut F (Bor PartRow × Unit {0}) ℕ} {f : F} (mid ys : List PartRow) → mid ≡ flat_map part_table_of regions
        → ((k : PartRow → ℕ) → ComputesKey g k f → IsSortedByKey k nat_cmp ys) → ((k : PartRow → ℕ) → ComputesKey g k f → IsStableByKey k nat_cmp mid ys)
        → ((a : Bor PartRow × Unit {0}) (r : ℕ) (f' : F) → Called g f a r f' → (r ≡ a.0.now.span.start) × (f' ≡ f)) → ys ≡ (tables_of c w).parts
    part_tables_told mid ys told up stable h =
        gathered_by_key_is part_key part_rows (λ (b : Block). b.cpu) (cpus c) w.map.blocks below part_rows_once mid ys
        (told ∙ ap (flat_map part_table_of) regions_are ∙ parts_gathered) up stable h
