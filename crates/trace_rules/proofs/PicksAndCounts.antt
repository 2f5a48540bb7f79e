-- Picks are callers of the header, and count lines of these and of the opening give small amounts to its counters by its processors; there is room for all lines of calls and counts.
use Rattle.std.proofs.Common.{All, ◌≡◌, ℕ, ◌+◌, ◌<◌, ◌≤◌, true, not, ◌&&◌, nat_lt, nat_le, List, [], ◌∷◌, ◌++◌, length, refl, sym, subst, arith, length-append}
use Rattle.std.specs.Prelude.{ℤ}
use Rattle.std.specs.List.{list_all}
use Rattle.std.proofs.lemmas.Bool.{and_parts, ltb-true, leb-true}
use Rattle.std.proofs.lemmas.List.Elements.{All-nil, All-cons, All-append}
use Rattle.std.proofs.lemmas.List.Sums.{AllPass-from_list_all}
use Rattle.vm_model.specs.declared.calls.CountLine.{CountLine}
use Rattle.vm_model.specs.Words.{within, is_number, is_amount}
use Rattle.trace_text.specs.SpelledLines.{Line, GroupOf, Callers, Counters, Caller, Vmalloc, Vfree, MapRam, UnmapRam, UnmapAliases, AllocPercpu, AllocAtomic, FreePercpu, Add, Sum, Balance, Count, Order}
use Rattle.trace_text.specs.Reading.{Reading, Made, calls_before, cpus_of, unread}
use Rattle.trace_text.specs.Grammar.{may_stand, read, is_new, is_cpu, has_room, aims, is_vmalloc, is_map_ram, is_object, has_word}
use Rattle.trace_text.proofs.HeaderLines.{in_range}
use Rattle.trace_rules.specs.RuledTraces.{IsPick, IsCount, IsCountOf}
use Rattle.trace_rules.proofs.TraceLines.{place, spelling, rule}

-- the room for lines of calls and counts
abbrev pub HasFewLines : Reading → Type 0
HasFewLines r = length r.calls + length r.counts ≤ 100000

one_call_more : (r : Reading) (m : Made) → has_room r ≡ true → length (r.calls ++ m ∷ []) + length r.counts ≤ 100000
one_call_more r m h = let low : length r.calls + length r.counts < 100000 = ltb-true (length r.calls + length r.counts) 100000 h in omega (arith, length-append r.calls (m ∷ []))

one_count_more : (r : Reading) (line : CountLine) → has_room r ≡ true → length r.calls + length (r.counts ++ line ∷ []) ≤ 100000
one_count_more r line h = let low : length r.calls + length r.counts < 100000 = ltb-true (length r.calls + length r.counts) 100000 h in omega (arith, length-append r.counts (line ∷ []))

pub few_kept : (r : Reading) (l : Line) → may_stand r l ≡ true → HasFewLines r → HasFewLines (read r l)
few_kept r (Vmalloc name bytes align) h is = one_call_more r _ (and_parts (is_new r name) (has_room r) (rule r (Vmalloc name bytes align) h)).1
few_kept r (Vfree target) h is = one_call_more r _ (and_parts (aims r is_vmalloc target) (has_room r) (rule r (Vfree target) h)).1
few_kept r (MapRam name cpu pages) h is = one_call_more r _ (and_parts (is_new r name && is_cpu r cpu) (has_room r) (rule r (MapRam name cpu pages) h)).1
few_kept r (UnmapRam target) h is = one_call_more r _ (and_parts (aims r is_map_ram target) (has_room r) (rule r (UnmapRam target) h)).1
few_kept r UnmapAliases h is = one_call_more r _ (rule r UnmapAliases h)
few_kept r (AllocPercpu name bytes align) h is = one_call_more r _ (and_parts (is_new r name) (has_room r) (rule r (AllocPercpu name bytes align) h)).1
few_kept r (AllocAtomic name bytes align) h is = one_call_more r _ (and_parts (is_new r name) (has_room r) (rule r (AllocAtomic name bytes align) h)).1
few_kept r (FreePercpu target) h is = one_call_more r _ (and_parts (not target.opening && aims r is_object target) (has_room r) (rule r (FreePercpu target) h)).1
few_kept r (Add target cpu index amount) h is = one_call_more r _ (and_parts (aims r (has_word index) target && is_cpu r cpu) (has_room r) (rule r (Add target cpu index amount) h)).1
few_kept r (Sum target index) h is = one_call_more r _ (and_parts (aims r (has_word index) target) (has_room r) (rule r (Sum target index) h)).1
few_kept r Balance h is = one_call_more r _ (rule r Balance h)
few_kept r (Count counter cpu amount) h is = one_count_more r _ (and_parts (nat_lt counter r.header.counters && is_cpu r cpu) (has_room r) (rule r (Count counter cpu amount) h)).1
few_kept r l h is = is

-- before the order lines there are no picks
pub record ArePicked (r : Reading) : Type 0 where
  pub unpicked : r.rank < 11 → r.picks ≡ []
  pub picks : All (IsPick r.header.callers) r.picks

are_picks : (callers : ℕ) (picks : List ℕ) → list_all (within 1 callers) picks ≡ true → All (IsPick callers) picks
are_picks callers picks h = λ k d low. let range = in_range 1 callers _ (AllPass-from_list_all (within 1 callers) picks h k d low) in record { low = range.0; high = range.1 }

no_picks : (callers : ℕ) (picks : List ℕ) → picks ≡ [] → All (IsPick callers) picks
no_picks callers picks none = subst (All (IsPick callers)) (sym none) (All-nil (IsPick callers))

pub picked_first : ArePicked unread
picked_first = record { unpicked = λ early. refl; picks = no_picks 1 [] refl }

pub picks_kept : (r : Reading) (l : Line) → may_stand r l ≡ true → ArePicked r → ArePicked (read r l)
picks_kept r (Callers callers) h is =
    let none = is.unpicked (let at = place r (Callers callers) h in omega arith) in
    record { unpicked = λ early. none; picks = no_picks callers r.picks none }
picks_kept r (Order picks) h is =
    let each = and_parts (within 1 64 (length picks)) (list_all (within 1 r.header.callers) picks) (rule r (Order picks) h) in
    record { unpicked = λ early. absurd (omega arith); picks = All-append (IsPick r.header.callers) r.picks picks is.picks (are_picks r.header.callers picks each.1) }
picks_kept r l h is = record { unpicked = λ early. is.unpicked (let at = place r l h in omega arith); picks = is.picks }

-- before the lines of calls and counts there are no counts
pub record AreCounted (r : Reading) : Type 0 where
  pub uncounted : r.rank < 10 → r.counts ≡ []
  pub counters : r.header.counters ≤ 256
  pub batch_low : 1 ≤ r.header.batch
  pub batch_high : r.header.batch ≤ 1000000
  pub counts : All (IsCount r.header.counters (cpus_of r.header)) r.counts

no_counts : (counters cpus : ℕ) (counts : List CountLine) → counts ≡ [] → All (IsCount counters cpus) counts
no_counts counters cpus counts none = subst (All (IsCount counters cpus)) (sym none) (All-nil (IsCount counters cpus))

pub counted_first : AreCounted unread
counted_first = record { uncounted = λ early. refl; counters = omega arith; batch_low = omega arith; batch_high = omega arith; counts = no_counts 0 1 [] refl }

-- the line of a count, as it is kept
abbrev line_of_count : Reading → (counter cpu : ℕ) → ℤ → CountLine
line_of_count r counter cpu amount = record { caller = r.caller; after = calls_before r; counter = counter; cpu = cpu; amount = amount }

is_count : (r : Reading) (counter cpu : ℕ) (amount : ℤ) → may_stand r (Count counter cpu amount) ≡ true → IsCount r.header.counters (cpus_of r.header) (line_of_count r counter cpu amount)
is_count r counter cpu amount h =
    let asked = and_parts (nat_lt counter r.header.counters) (is_cpu r cpu) (and_parts (nat_lt counter r.header.counters && is_cpu r cpu) (has_room r) (rule r (Count counter cpu amount) h)).0 in
    record {
      counter = ltb-true counter r.header.counters asked.0;
      cpu = ltb-true cpu (cpus_of r.header) asked.1;
      amount = (and_parts (is_number counter && is_number cpu) (is_amount amount) (spelling r (Count counter cpu amount) h)).1;
    }

pub counts_kept : (r : Reading) (l : Line) → may_stand r l ≡ true → AreCounted r → AreCounted (read r l)
counts_kept r (GroupOf cpus offset) h is =
    let none = is.uncounted (let at = place r (GroupOf cpus offset) h in omega arith) in
    record { uncounted = λ early. none; counters = is.counters; batch_low = is.batch_low; batch_high = is.batch_high; counts = no_counts _ _ r.counts none }
counts_kept r (Counters counters batch) h is =
    let none = is.uncounted (let at = place r (Counters counters batch) h in omega arith) in
    let ranges = and_parts (within 0 256 counters) (within 1 1000000 batch) (rule r (Counters counters batch) h) in
    let batches = in_range 1 1000000 batch ranges.1 in
    record { uncounted = λ early. none; counters = (in_range 0 256 counters ranges.0).1; batch_low = batches.0; batch_high = batches.1; counts = no_counts _ _ r.counts none }
counts_kept r (Count counter cpu amount) h is = record {
  uncounted = λ early. absurd (omega arith);
  counters = is.counters;
  batch_low = is.batch_low;
  batch_high = is.batch_high;
  counts = All-append (IsCount r.header.counters (cpus_of r.header)) r.counts (line_of_count r counter cpu amount ∷ []) is.counts (All-cons (IsCount r.header.counters (cpus_of r.header)) _ [] (is_count r counter cpu amount h) (All-nil _));
}
counts_kept r l h is = record { uncounted = λ early. is.uncounted (let at = place r l h in omega arith); counters = is.counters; batch_low = is.batch_low; batch_high = is.batch_high; counts = is.counts }

-- the open section and those of the count lines are the opening's or a caller's; before the lines of calls and counts there is none but the opening's
pub record AreOfCallers (r : Reading) : Type 0 where
  pub unopened : r.rank < 10 → (r.counts ≡ []) × (r.caller ≡ 0)
  pub section : r.caller ≤ r.header.callers
  pub counting : All (IsCountOf r.header.callers) r.counts

none_of : (callers : ℕ) (counts : List CountLine) → counts ≡ [] → All (IsCountOf callers) counts
none_of callers counts none = subst (All (IsCountOf callers)) (sym none) (All-nil (IsCountOf callers))

pub of_callers_first : AreOfCallers unread
of_callers_first = record { unopened = λ early. (refl, refl); section = omega arith; counting = none_of 1 [] refl }

pub of_callers_kept : (r : Reading) (l : Line) → may_stand r l ≡ true → AreOfCallers r → AreOfCallers (read r l)
of_callers_kept r (Callers callers) h is =
    let none = is.unopened (let at = place r (Callers callers) h in omega arith) in
    record { unopened = λ early. none; section = (let first = none.1 in omega arith); counting = none_of callers r.counts none.0 }
of_callers_kept r (Caller caller) h is =
    let within = and_parts (nat_lt r.caller caller) (nat_le caller r.header.callers) (rule r (Caller caller) h) in
    record { unopened = λ early. absurd (omega arith); section = leb-true caller r.header.callers within.1; counting = is.counting }
of_callers_kept r (Count counter cpu amount) h is = record {
  unopened = λ early. absurd (omega arith);
  section = is.section;
  counting = All-append (IsCountOf r.header.callers) r.counts (line_of_count r counter cpu amount ∷ []) is.counting (All-cons (IsCountOf r.header.callers) _ [] is.section (All-nil _));
}
of_callers_kept r l h is = record { unopened = λ early. is.unopened (let at = place r l h in omega arith); section = is.section; counting = is.counting }
