-- The totals of a live run's counters are those of its count lines, and its report tells nothing else of them.
use Rattle.std.proofs.Common.{All, ◌≡◌, ℕ, suc, ◌+◌, ◌<◌, ◌≤◌, ℤ, List, [], ◌∷◌, ◌++◌, map, length, flat_map, false, refl, sym, ap, ◌∙◌, subst, arith, length-append}
use Rattle.std.specs.List.{range_with_len}
use Rattle.std.proofs.lemmas.List.{map-append, length-map}
use Rattle.std.proofs.lemmas.List.FromFn.{length-map-range_with_len}
use Rattle.kernel_steps.specs.Kernels.{callers_of}
use Rattle.vm_model.specs.declared.calls.Call.{Call}
use Rattle.vm_model.specs.declared.calls.CountLine.{CountLine}
use Rattle.vm_model.specs.declared.rows.CounterRow.{CounterRow}
use Rattle.vm_model.specs.declared.tables.Tables.{Tables}
use Rattle.std.specs.Prelude.{codes, decimal}
use Rattle.std.specs.Fmt.{signed_decimal}
use Rattle.vm_model.specs.Words.{line, numbered}
use Rattle.report_text.specs.CounterTotals.{total, lines_of, counter_row, counter_rows}
use Rattle.report_text.specs.TableLines.{counter_line, counter_lines}
use Rattle.report_text.specs.Report.{report, call_lines, space_lines, row_lines}
use Rattle.trace_text.specs.Reading.{Reading, calls_of, cpus_of}
use Rattle.trace_text.specs.ToldTraces.{all_calls}
use Rattle.trace_rules.specs.RuledTraces.{IsCount, IsCountOf, IsRuledTrace}
use Rattle.percpu_counters.specs.declared.table.Shape.{Shape}
use Rattle.percpu_counters.specs.declared.counters.Counters.{Counters}
use Rattle.percpu_counters.specs.declared.counters.CountPass.{CountPass}
use Rattle.percpu_counters.specs.Passes.{shape_of, adds_of, spare_of}
use Rattle.percpu_counters.specs.RowsFromWords.{totals_of}
use Rattle.count_lines.specs.declared.share.Share.{Share}
use Rattle.count_lines.specs.LinesOfCaller.{added_by, lines_by}
use Rattle.count_lines.specs.Shares.{caller_of, lines_in, IsLineOf, HaveFinished}
use Rattle.count_lines.specs.Sharing.{shared_lines}
use Rattle.count_lines.proofs.SharedLines.{each_line_is_shared, sharing_keeps_the_totals}
use Rattle.trace_replay.specs.LiveCounts.{counters_of, IsCountingFor, totals_in, totals_of_trace}

-- The report.

abbrev total_line : ℕ → ℤ → List ℕ
total_line k total = line (codes "counter" ∷ decimal k ∷ codes "total" ∷ signed_decimal total ∷ [])

lines_of_totals : (xs ys : List CounterRow) (first : ℕ) → totals_in xs ≡ totals_in ys → numbered counter_line first xs ≡ numbered counter_line first ys
lines_of_totals [] [] first same = refl
lines_of_totals [] (y ∷ ys) first same = absurd (let e : 0 ≡ suc (length (totals_in ys)) = ap length same in omega arith)
lines_of_totals (x ∷ xs) [] first same = absurd (let e : suc (length (totals_in xs)) ≡ 0 = ap length same in omega arith)
lines_of_totals (x ∷ xs) (y ∷ ys) first same =
    let head : x.total ≡ y.total = cc in
    let tail : totals_in xs ≡ totals_in ys = cc in
    ap (λ (z : ℤ). total_line first z ++ numbered counter_line (suc first) xs) head ∙ ap (λ (ls : List ℕ). total_line first y.total ++ ls) (lines_of_totals xs ys (suc first) tail)

pub report_of_totals : (t : Tables) (xs ys : List CounterRow) → totals_in xs ≡ totals_in ys → report t xs false ≡ report t ys false
report_of_totals t xs ys same =
    ap (λ (ls : List ℕ). line (codes "vmreport" ∷ codes "1" ∷ []) ++ call_lines t ++ space_lines t ++ row_lines t ++ (ls ++ []) ++ line (codes "end" ∷ [])) (lines_of_totals xs ys 0 same)

abbrev shape_with : (cpus counters batch adds : ℕ) → Shape
shape_with cpus counters batch adds = record { cpus = cpus; counters = counters; batch = batch; adds = adds }

-- The numbers of the counters are those of the header.
pub shape_told : (s : Shape) (cpus counters batch adds : ℕ) (r : Reading) → s ≡ record { cpus = cpus; counters = counters; batch = batch; adds = adds } → cpus ≡ cpus_of r.header → counters ≡ r.header.counters → batch ≡ r.header.batch
    → adds ≡ length r.counts → s ≡ counters_of r
shape_told s cpus counters batch adds r is units number size many =
    is
    ∙ ap (λ n. shape_with n counters batch adds) units
    ∙ ap (λ n. shape_with (cpus_of r.header) n batch adds) number
    ∙ ap (λ n. shape_with (cpus_of r.header) r.header.counters n adds) size
    ∙ ap (λ n. shape_with (cpus_of r.header) r.header.counters r.header.batch n) many

-- The count lines are lines of its counters and callers.
pub lines_within : (r : Reading) (s : Shape) (callers : ℕ) (lines : List CountLine) → IsRuledTrace r → s ≡ counters_of r → callers ≡ r.header.callers → lines ≡ r.counts → All (IsLineOf s callers) lines
lines_within r s callers lines ruled shape many same =
    subst (λ (s : Shape). All (IsLineOf s callers) lines) (sym shape)
    (subst (λ n. All (IsLineOf (counters_of r) n) lines) (sym many)
    (subst (All (IsLineOf (counters_of r) r.header.callers)) (sym same)
    (λ k d low. let is = ruled.counts k d low in record { counter = is.counter; cpu = is.cpu; caller = ruled.counting k d low })))

-- The totals.

totals_one_by_one : (cpus batch : ℕ) (lines : List CountLine) (ks : List ℕ) → totals_in (map (λ k. counter_row cpus batch (lines_of k lines)) ks) ≡ map (λ k. total (lines_of k lines)) ks
totals_one_by_one cpus batch lines [] = refl
totals_one_by_one cpus batch lines (k ∷ ks) = ap (λ (zs : List ℤ). total (lines_of k lines) ∷ zs) (totals_one_by_one cpus batch lines ks)

totals_agree : (adds lines : List CountLine) → ((k : ℕ) → total (lines_of k adds) ≡ total (lines_of k lines)) → (ks : List ℕ) → map (λ k. total (lines_of k adds)) ks ≡ map (λ k. total (lines_of k lines)) ks
totals_agree adds lines same [] = refl
totals_agree adds lines same (k ∷ ks) =
    ap (λ (z : ℤ). z ∷ map (λ k. total (lines_of k adds)) ks) (same k) ∙ ap (λ (zs : List ℤ). total (lines_of k lines) ∷ zs) (totals_agree adds lines same ks)

-- there is a share for each caller with a list of calls
pub callers_have : (r : Reading) (calls : List (List Call)) (shares : List Share) → calls ≡ all_calls r → map caller_of shares ≡ range_with_len 1 r.header.callers → map caller_of shares ≡ range_with_len 1 (length (callers_of calls))
callers_have r calls shares same named =
    let many : length (callers_of calls) ≡ r.header.callers = ap (λ s. length (callers_of s)) same ∙ length-map-range_with_len (λ k. calls_of k r.calls) 1 r.header.callers in
    named ∙ ap (range_with_len 1) (sym many)

module _ (r : Reading) (ruled : IsRuledTrace r) (c : Counters) (p : CountPass) (given left : List Share) (begun : IsCountingFor r c p given) (ended : HaveFinished c given left) where
  lines_left : flat_map lines_in left ≡ flat_map (λ k. lines_by k r.counts) (range_with_len 1 r.header.callers)
  lines_left = ended.lines ∙ begun.shared.own

  all_lines : lines_by 0 r.counts ++ flat_map lines_in left ≡ shared_lines r.header.callers r.counts
  all_lines = ap (λ ls. lines_by 0 r.counts ++ ls) lines_left

  all_adds : adds_of p ++ map added_by (flat_map lines_in left) ≡ map added_by (shared_lines r.header.callers r.counts)
  all_adds = ap (λ done. done ++ map added_by (flat_map lines_in left)) begun.adds ∙ sym (map-append added_by (lines_by 0 r.counts) (flat_map lines_in left)) ∙ ap (map added_by) all_lines

  pub as_many : length (adds_of p) + spare_of p + length (flat_map lines_in left) ≡ (shape_of c).adds
  as_many =
      let first : length (adds_of p) ≡ length (lines_by 0 r.counts) = ap length begun.adds ∙ length-map (lines_by 0 r.counts) added_by in
      let all : length (lines_by 0 r.counts) + length (flat_map lines_in left) ≡ length r.counts =
      sym (length-append (lines_by 0 r.counts) (flat_map lines_in left)) ∙ ap length all_lines ∙ each_line_is_shared r.header.callers r.counts ruled.counting in
      let room : (shape_of c).adds ≡ length r.counts = ap (λ (s : Shape). s.adds) begun.shape in
      let spare = begun.spare in
      omega arith

  pub totals_told : (rows : List CounterRow) → totals_in rows ≡ totals_of (shape_of c) (adds_of p ++ map added_by (flat_map lines_in left)) → totals_in rows ≡ totals_of_trace r
  totals_told rows are =
      are
      ∙ ap (λ (s : Shape). totals_of s (adds_of p ++ map added_by (flat_map lines_in left))) begun.shape
      ∙ ap (totals_of (counters_of r)) all_adds
      ∙ totals_agree (map added_by (shared_lines r.header.callers r.counts)) r.counts (λ k. sharing_keeps_the_totals r.header.callers k r.counts ruled.counting) (range_with_len 0 r.header.counters)
      ∙ sym (totals_one_by_one (cpus_of r.header) r.header.batch r.counts (range_with_len 0 r.header.counters))
