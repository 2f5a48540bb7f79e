-- The counters of a trace after its count lines: one pass adds them, and where they stand makes no difference.
use Rattle.std.proofs.Common.{All, ◌≡◌, ℕ, suc, ◌+◌, ◌<◌, ◌≤◌, ◌==◌, Bool, List, [], ◌∷◌, ◌++◌, map, take, length, get_or, refl, sym, ap, subst, ◌∙◌, arith}
use Rattle.std.specs.Prelude.{ℤ, pos, ◌+ℤ◌}
use Rattle.std.specs.List.{range_with_len}
use Rattle.std.proofs.Math.Seq.{take-suc}
use Rattle.std.proofs.lemmas.List.{map-append, length-map, take_all}
use Rattle.vm_model.specs.declared.calls.CountLine.{CountLine}
use Rattle.unit_layout.specs.declared.config.Config.{Config}
use Rattle.unit_layout.specs.LayoutRule.{division_of}
use Rattle.unit_layout.proofs.GroupPlaces.{units_in_all}
use Rattle.trace_text.specs.Reading.{Reading, cpus_of, groups_of}
use Rattle.trace_text.specs.ToldTraces.{config_of, layout_spec}
use Rattle.trace_rules.specs.RuledTraces.{IsCount, IsRuledTrace}
use Rattle.vm_model.specs.declared.rows.CounterRow.{CounterRow}
use Rattle.report_text.specs.CounterTotals.{Cells, lines_of, total, added, after_lines, no_amounts, counter_row, counter_rows}
use Rattle.percpu_counters.specs.Passes.{line_of}
use Rattle.count_lines.specs.LinesOfCaller.{added_by}
use Rattle.count_lines.proofs.SharedLines.{lines_of-added, total-added}

after-added : (batch : ℕ) (c : Cells) (lines : List CountLine) → after_lines batch c (map added_by lines) ≡ after_lines batch c lines
after-added batch c [] = refl
after-added batch c (l ∷ lines) = after-added batch (added batch c l) lines

abbrev row_of : ℕ → ℤ → Cells → CounterRow
row_of cpus sum after = record { total = sum; count = after.count; cells = after.cells }

row-added : (cpus batch k : ℕ) (lines : List CountLine) → counter_row cpus batch (lines_of k (map added_by lines)) ≡ counter_row cpus batch (lines_of k lines)
row-added cpus batch k lines =
    ap (counter_row cpus batch) (lines_of-added k lines)
    ∙ ap (λ (z : ℤ). row_of cpus z (after_lines batch (no_amounts cpus) (map added_by (lines_of k lines)))) (total-added (lines_of k lines))
    ∙ ap (λ (c : Cells). row_of cpus (total (lines_of k lines)) c) (after-added batch (no_amounts cpus) (lines_of k lines))

rows_at : (cpus batch : ℕ) (lines : List CountLine) (ks : List ℕ) → map (λ k. counter_row cpus batch (lines_of k (map added_by lines))) ks ≡ map (λ k. counter_row cpus batch (lines_of k lines)) ks
rows_at cpus batch lines [] = refl
rows_at cpus batch lines (k ∷ ks) = ap (λ (r : CounterRow). r ∷ map (λ k. counter_row cpus batch (lines_of k (map added_by lines))) ks) (row-added cpus batch k lines)
    ∙ ap (λ (rs : List CounterRow). counter_row cpus batch (lines_of k lines) ∷ rs) (rows_at cpus batch lines ks)

pub rows-added : (counters cpus batch : ℕ) (lines : List CountLine) → counter_rows counters cpus batch (map added_by lines) ≡ counter_rows counters cpus batch lines
rows-added counters cpus batch lines = rows_at cpus batch lines (range_with_len 0 counters)

-- one line more
abbrev pub line_at : List CountLine → ℕ → CountLine
line_at lines i = get_or lines i (record { caller = 0; after = 0; counter = 0; cpu = 0; amount = pos 0 })

pub one_more : (adds new lines : List CountLine) (i : ℕ) (amount : ℤ) → i < length lines → adds ≡ map added_by (take i lines) → amount ≡ (line_at lines i).amount → new ≡ adds ++ line_of (line_at lines i).counter (line_at lines i).cpu amount ∷ []
    → new ≡ map added_by (take (i + 1) lines)
one_more adds new lines i amount low so_far same more =
    let e : suc i ≡ i + 1 = omega arith in
    more ∙ ap (λ (z : ℤ). adds ++ line_of (line_at lines i).counter (line_at lines i).cpu z ∷ []) same ∙ ap (λ (ls : List CountLine). ls ++ added_by (line_at lines i) ∷ []) so_far
    ∙ sym (map-append added_by (take i lines) (line_at lines i ∷ [])) ∙ ap (map added_by) (sym (take-suc lines i _ low)) ∙ ap (λ n. map added_by (take n lines)) e

-- and all of them
pub all_added : (adds lines : List CountLine) (i : ℕ) → adds ≡ map added_by (take i lines) → length lines ≤ i → adds ≡ map added_by lines
all_added adds lines i so_far over = so_far ∙ ap (map added_by) (take_all i lines over)

pub count_of-added : (lines : List CountLine) → length (map added_by lines) ≡ length lines
count_of-added lines = length-map lines added_by

-- the layout of a trace has a unit for each processor of its header
pub units_told : (config : Config) (r : Reading) → config ≡ config_of r.header → length config.layout.units ≡ cpus_of r.header
units_told config r same = ap (λ (c : Config). length c.layout.units) same ∙ units_in_all (division_of (layout_spec r.header)) (groups_of r.header.groups)

-- so many counters and cpus are those of the trace
module _ (counters cpus batch : ℕ) (lines : List CountLine) (r : Reading) (number : counters ≡ r.header.counters) (units : cpus ≡ cpus_of r.header) (counts : lines ≡ r.counts) where
  pub lines_within : IsRuledTrace r → All (IsCount counters cpus) lines
  lines_within is = subst (λ n. All (IsCount n cpus) lines) (sym number) (subst (λ n. All (IsCount r.header.counters n) lines) (sym units) (subst (All (IsCount r.header.counters (cpus_of r.header))) (sym counts) is.counts))

  pub rows_told : batch ≡ r.header.batch → counter_rows counters cpus batch lines ≡ counter_rows r.header.counters (cpus_of r.header) r.header.batch r.counts
  rows_told size = ap (λ n. counter_rows n cpus batch lines) number ∙ ap (λ n. counter_rows r.header.counters n batch lines) units ∙ ap (λ n. counter_rows r.header.counters (cpus_of r.header) n lines) size
      ∙ ap (counter_rows r.header.counters (cpus_of r.header) r.header.batch) counts
