-- The side stays kept as one of its chunks changes, or one comes or goes.
use Rattle.std.proofs.Common.{◌≡◌, ◌≢◌, ℕ, zero, suc, ◌+◌, ◌*◌, ◌<◌, ◌≤◌, inl, inr, Bool, false, not, ◌==◌, List, [], ◌∷◌, ◌++◌, length, replicate, filter, slice_get, slice_set, Option, Some, sum_by, refl, ap, sym, ◌∙◌, subst, arith}
use Rattle.std.proofs.lemmas.Bool.{cases_eq}
use Rattle.std.proofs.lemmas.Bool.Decides.{nat_tests}
use Rattle.std.proofs.lemmas.List.Sums.{sum_by-cons}
use Rattle.vm_model.specs.Space.{put_by}
use Rattle.chunk_slots.specs.declared.holders.Holder.{Holder}
use Rattle.chunk_slots.specs.declared.slots.InSlot.{InSlot}
use Rattle.chunk_slots.specs.Rising.{IsRisingFrom, IsRising}
use Rattle.chunk_slots.specs.KeptChunks.{KeptRow, fresh_row, slot_in, empty_in, populated_in, page_is_free, has_populated}
use Rattle.chunk_slots.specs.KeptChunkSides.{number_of, Each, IsKeptRow, IsKeptSpan, AreKept}
use Rattle.chunk_slots.specs.ChunksBySlot.{key_of_slot, slot_key, in_slot_of, slots_of, moved}
use Rattle.chunk_slots.specs.SlotOrder.{AreNumbered}
use Rattle.chunk_slots.proofs.RisingLists.{filter_rises}
use Rattle.vm_model.proofs.Finds.{count_few}
use Rattle.chunk_bitmaps.specs.ChunkMap.{empty_chunk}
use Rattle.chunk_slots.proofs.FreeBits.{nothing_empty, nothing_populated}
use Rattle.chunk_slots.proofs.SlotLists.{AreLow, some_same, slots_rising, slots_moved, slots_added, slots_removed, drop_one, keep_one}
use Rattle.chunk_slots.proofs.ObjectViews.{each_map, each_filter, length_filter}
use Rattle.chunk_slots.proofs.RowLists.{each_at, each_changed, rises_changed, rises_added, each_added, few_rows, numbered}

abbrev pub empty_of : KeptRow → ℕ
empty_of row = length (empty_in row)

abbrev pub objects_of : KeptRow → ℕ
objects_of row = length row.bits.objects

pub sum_changed : (f : KeptRow → ℕ) (i : ℕ) (rows : List KeptRow) (row new : KeptRow) → slice_get rows i ≡ Some row → sum_by f (slice_set rows i new) + f row ≡ sum_by f rows + f new
sum_changed f i [] row new there = cc
sum_changed f zero (x ∷ xs) row new there = omega (arith, sum_by-cons f new xs, sum_by-cons f x xs, ap f (some_same x row there))
sum_changed f (suc i) (x ∷ xs) row new there = omega (arith, sum_by-cons f x (slice_set xs i new), sum_by-cons f x xs, sum_changed f i xs row new there)

pub sum_added : (f : KeptRow → ℕ) (rows : List KeptRow) (new : KeptRow) → sum_by f (rows ++ new ∷ []) ≡ sum_by f rows + f new
sum_added f [] new = omega (arith, sum_by-cons f new [])
sum_added f (x ∷ xs) new = omega (arith, sum_by-cons f x (xs ++ new ∷ []), sum_by-cons f x xs, sum_added f xs new)

pub sum_removed : (f : KeptRow → ℕ) (low i : ℕ) (rows : List KeptRow) (row : KeptRow) → IsRisingFrom number_of low rows → slice_get rows i ≡ Some row
    → sum_by f (filter (λ (other : KeptRow). not (other.number == row.number)) rows) + f row ≡ sum_by f rows
sum_removed f low i [] row rise there = cc
sum_removed f low zero (x ∷ xs) row rise there =
    let this : x ≡ row = some_same x row there in
    let rest = all_kept row.number (suc x.number) xs (omega (arith, ap number_of this)) rise.1 in
    omega (arith, sum_by-cons f x xs, ap f this, ap (sum_by f) (drop_one number_of (λ (other : KeptRow). not (other.number == row.number)) x xs (let same : x.number ≡ row.number = ap number_of this in grind (arith, nat_tests)) ∙ rest))
  where
    all_kept : (n from : ℕ) (ys : List KeptRow) → n < from → IsRisingFrom number_of from ys → filter (λ (other : KeptRow). not (other.number == n)) ys ≡ ys
    all_kept n from [] less rise' = refl
    all_kept n from (y ∷ ys) less rise' = let first = rise'.0 in
        keep_one number_of (λ (other : KeptRow). not (other.number == n)) y ys (let apart : y.number ≢ n = (λ e. absurd (omega (arith, e))) in grind (arith, nat_tests))
        ∙ ap (λ zs. y ∷ zs) (all_kept n (suc y.number) ys (omega arith) rise'.1)
sum_removed f low (suc i) (x ∷ xs) row rise there = elim (cases_eq x.number row.number) [
  | inl same ↦ absurd (let above = later (suc x.number) i xs row rise.1 there in omega arith)
  | inr apart ↦ omega (
    arith,
    sum_by-cons f x xs,
    ap (sum_by f) (keep_one number_of (λ (other : KeptRow). not (other.number == row.number)) x xs (grind (arith, nat_tests))),
    sum_by-cons f x (filter (λ (other : KeptRow). not (other.number == row.number)) xs),
    sum_removed f (suc x.number) i xs row rise.1 there,
  )
]
  where
    later : (from j : ℕ) (ys : List KeptRow) (r : KeptRow) → IsRisingFrom number_of from ys → slice_get ys j ≡ Some r → from ≤ r.number
    later from j [] r rise' there' = cc
    later from zero (y ∷ ys) r rise' there' = let first = rise'.0 in omega (arith, ap number_of (some_same y r there'))
    later from (suc j) (y ∷ ys) r rise' there' = let first = rise'.0 in omega (arith, later (suc y.number) j ys r rise'.1 there')

-- a chunk has at most 64 empty pages
pub few_empty : (pages next : ℕ) (h : ℕ → Option Holder) (row : KeptRow) → pages ≤ 64 → IsKeptRow pages next h row → empty_of row ≤ 64
few_empty pages next h row most kept = omega (arith, length_filter (page_is_free row.bits) (populated_in row), count_few (has_populated row) (length row.populated) 0, kept.pages_are)

pub sum_few : (f : KeptRow → ℕ) (most : ℕ) (rows : List KeptRow) → Each (λ row. f row ≤ most) rows → sum_by f rows ≤ most * length rows
sum_few f most [] e = omega arith
sum_few f most (x ∷ xs) e = let first = e.0 in omega (arith, sum_by-cons f x xs, sum_few f most xs e.1)

module _ {pages : ℕ} {rows : List KeptRow} {slots : List InSlot} {holders : ℕ → Option Holder} {empty next_object next_chunk spare capacity room : ℕ} where
  pub lows_of : AreKept pages rows slots holders empty next_object next_chunk spare capacity room → Each (λ (row : KeptRow). row.number < next_chunk) rows
  lows_of kept = each_map (IsKeptRow pages next_chunk holders) (λ (row : KeptRow). row.number < next_chunk) rows (λ row k. k.given) kept.rows_are

  pub are_low : AreKept pages rows slots holders empty next_object next_chunk spare capacity room → AreLow rows
  are_low kept = each_map (IsKeptRow pages next_chunk holders) (λ (row : KeptRow). row.number < 4294967296) rows (λ row k. let given = k.given in let few = kept.given in omega arith) kept.rows_are

  pub are_numbered : AreKept pages rows slots holders empty next_object next_chunk spare capacity room → AreNumbered rows
  are_numbered kept = numbered next_chunk rows kept.numbers (let few = kept.given in omega arith) (lows_of kept)

  -- there are fewer chunks than numbers, and so the empty pages can be counted
  pub rows_few : AreKept pages rows slots holders empty next_object next_chunk spare capacity room → length rows ≤ next_chunk
  rows_few kept = omega (arith, few_rows next_chunk 0 rows kept.numbers (lows_of kept) (omega arith))

  pub empty_few : AreKept pages rows slots holders empty next_object next_chunk spare capacity room → empty ≤ 64 * next_chunk
  empty_few kept =
      let few = sum_few empty_of 64 rows (each_map (IsKeptRow pages next_chunk holders) (λ row. empty_of row ≤ 64) rows (λ row k. few_empty pages next_chunk holders row kept.most k) kept.rows_are) in
      let is = kept.empty_is in omega (arith, rows_few kept)

  pub empty_within : (i : ℕ) (row : KeptRow) → AreKept pages rows slots holders empty next_object next_chunk spare capacity room → slice_get rows i ≡ Some row → empty_of row ≤ empty
  empty_within i row kept there = let is = kept.empty_is in omega (arith, sum_changed empty_of i rows row row there, within i rows row there)
    where
      within : (j : ℕ) (ys : List KeptRow) (r : KeptRow) → slice_get ys j ≡ Some r → empty_of r ≤ sum_by empty_of ys
      within j [] r there' = cc
      within zero (y ∷ ys) r there' = omega (arith, sum_by-cons empty_of y ys, ap empty_of (some_same y r there'))
      within (suc j) (y ∷ ys) r there' = omega (arith, sum_by-cons empty_of y ys, within j ys r there')

  -- one chunk changed
  pub kept_changed : (i : ℕ) (row new : KeptRow) (slots' : List InSlot) (holders' : ℕ → Option Holder) (empty' next_object' spare' capacity' room' : ℕ)
      → AreKept pages rows slots holders empty next_object next_chunk spare capacity room → slice_get rows i ≡ Some row → new.number ≡ row.number → IsKeptRow pages next_chunk holders' new
      → ((other : KeptRow) → other.number ≢ row.number → IsKeptRow pages next_chunk holders other → IsKeptRow pages next_chunk holders' other)
      → slots' ≡ moved row.number (slot_in row) (slot_in new) slots → length slots' ≤ capacity' → empty' + empty_of row ≡ empty + empty_of new
      → objects_of new + spare' ≤ objects_of row + spare → spare' ≤ room' → 1 ≤ next_object'
      → AreKept pages (slice_set rows i new) slots' holders' empty' next_object' next_chunk spare' capacity' room'
  kept_changed i row new slots' holders' empty' next_object' spare' capacity' room' kept there same new_kept others slots_new within empties fewer roomy serials =
      let lows : AreLow (slice_set rows i new) = each_changed (λ (r : KeptRow). r.number < 4294967296) (λ (r : KeptRow). r.number < 4294967296) 0 i rows row new kept.numbers there
      (let low = each_at (λ (r : KeptRow). r.number < 4294967296) i rows row (are_low kept) there in omega arith) (λ other apart l. l) (are_low kept) in
      let rise : IsRising number_of (slice_set rows i new) = rises_changed 0 i rows row new kept.numbers there same in
      let slots_are : slots' ≡ slots_of (slice_set rows i new) = slots_new ∙ ap (moved row.number (slot_in row) (slot_in new)) kept.slots_are ∙ sym (slots_moved 0 i rows row new kept.numbers (are_low kept) there same) in
      record {
        least = kept.least;
        most = kept.most;
        numbers = rise;
        rows_are = each_changed (IsKeptRow pages next_chunk holders) (IsKeptRow pages next_chunk holders') 0 i rows row new kept.numbers there new_kept others kept.rows_are;
        slots_are = slots_are;
        slots_rise = subst (IsRising key_of_slot) (sym slots_are) (slots_rising 0 (slice_set rows i new) rise lows);
        slots_room = within;
        empty_is = let is = kept.empty_is in omega (arith, sum_changed empty_of i rows row new there);
        few = let few = kept.few in omega (arith, sum_changed objects_of i rows row new there);
        room = roomy;
        serials = serials;
        given = kept.given;
      }

  -- one chunk more
  pub kept_added : (new : KeptRow) (slots' : List InSlot) (next_chunk' capacity' : ℕ)
      → AreKept pages rows slots holders empty next_object next_chunk spare capacity room → new.number ≡ next_chunk → next_chunk' ≡ next_chunk + 1 → next_chunk' < 4294967296
      → length new.populated ≡ pages → new.bits.bits ≡ 1024 * pages → new.bits.objects ≡ [] → empty_of new ≡ 0
      → slots' ≡ put_by key_of_slot (in_slot_of new) slots → length slots' ≤ capacity'
      → AreKept pages (rows ++ new ∷ []) slots' holders empty next_object next_chunk' spare capacity' room
  kept_added new slots' next_chunk' capacity' kept number next small populated bits objects none_empty slots_new within =
      let above : Each (λ (row : KeptRow). row.number < new.number) rows = each_map (λ (row : KeptRow). row.number < next_chunk) (λ (row : KeptRow). row.number < new.number) rows (λ row low. omega arith) (lows_of kept) in
      let lows : AreLow (rows ++ new ∷ []) = each_added (λ (row : KeptRow). row.number < 4294967296) rows new (are_low kept) (omega arith) in
      let rise : IsRising number_of (rows ++ new ∷ []) = rises_added 0 rows new (omega arith) kept.numbers above in
      let slots_are : slots' ≡ slots_of (rows ++ new ∷ []) = slots_new ∙ ap (put_by key_of_slot (in_slot_of new)) kept.slots_are ∙ sym (slots_added 0 rows new kept.numbers (are_low kept) (omega arith) above) in
      record {
        least = kept.least;
        most = kept.most;
        numbers = rise;
        rows_are = each_added (IsKeptRow pages next_chunk' holders) rows new
            (each_map (IsKeptRow pages next_chunk holders) (IsKeptRow pages next_chunk' holders) rows (λ row k. record { given = (let low = k.given in omega arith); pages_are = k.pages_are; bits_are = k.bits_are; spans_are = k.spans_are }) kept.rows_are)
            (record { given = omega arith; pages_are = populated; bits_are = bits; spans_are = subst (Each (IsKeptSpan holders new.number (1024 * pages))) (sym objects) tt });
        slots_are = slots_are;
        slots_rise = subst (IsRising key_of_slot) (sym slots_are) (slots_rising 0 (rows ++ new ∷ []) rise lows);
        slots_room = within;
        empty_is = let is = kept.empty_is in omega (arith, sum_added empty_of rows new);
        few = let few = kept.few in omega (arith, sum_added objects_of rows new, ap length objects);
        room = kept.room;
        serials = kept.serials;
        given = small;
      }

  -- one chunk less
  pub kept_removed : (i : ℕ) (row : KeptRow) (slots' : List InSlot) (empty' capacity' : ℕ)
      → AreKept pages rows slots holders empty next_object next_chunk spare capacity room → slice_get rows i ≡ Some row
      → slots' ≡ filter (λ (s : InSlot). not (key_of_slot s == slot_key (slot_in row) row.number)) slots → length slots' ≤ capacity' → empty' + empty_of row ≡ empty
      → AreKept pages (filter (λ (other : KeptRow). not (other.number == row.number)) rows) slots' holders empty' next_object next_chunk spare capacity' room
  kept_removed i row slots' empty' capacity' kept there slots_new within empties =
      let others : KeptRow → Bool = λ other. not (other.number == row.number) in
      let lows : AreLow (filter others rows) = each_filter (λ (r : KeptRow). r.number < 4294967296) (λ (r : KeptRow). r.number < 4294967296) others rows (λ r passes low. low) (are_low kept) in
      let rise : IsRising number_of (filter others rows) = filter_rises number_of others 0 rows kept.numbers in
      let slots_are : slots' ≡ slots_of (filter others rows) = slots_new ∙ ap (filter (λ (s : InSlot). not (key_of_slot s == slot_key (slot_in row) row.number))) kept.slots_are ∙ sym (slots_removed 0 i rows row kept.numbers (are_low kept) there) in
      record {
        least = kept.least;
        most = kept.most;
        numbers = rise;
        rows_are = each_filter (IsKeptRow pages next_chunk holders) (IsKeptRow pages next_chunk holders) others rows (λ r passes k. k) kept.rows_are;
        slots_are = slots_are;
        slots_rise = subst (IsRising key_of_slot) (sym slots_are) (slots_rising 0 (filter others rows) rise lows);
        slots_room = within;
        empty_is = let is = kept.empty_is in omega (arith, sum_removed empty_of 0 i rows row kept.numbers there);
        few = let few = kept.few in omega (arith, sum_removed objects_of 0 i rows row kept.numbers there);
        room = kept.room;
        serials = kept.serials;
        given = kept.given;
      }

-- a new chunk has no empty page, since nothing of it is populated
pub fresh_empty : (number base pages : ℕ) → empty_of (fresh_row number base pages) ≡ 0
fresh_empty number base pages =
    ap (λ ps. length (empty_in (record (fresh_row number base pages) { populated = ps }))) (sym (nothing_populated pages))
    ∙ sym (nothing_empty pages number base (empty_chunk (1024 * pages)))

pub fresh_long : (pages : ℕ) → length (replicate pages false) ≡ pages
fresh_long zero = refl
fresh_long (suc n) = ap suc (fresh_long n)
