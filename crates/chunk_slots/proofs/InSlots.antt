-- The chunks of one slot stand in a row, by number.
use Rattle.std.proofs.Common.{◌≡◌, ◌≢◌, ℕ, zero, suc, ◌+◌, ◌*◌, ◌<◌, ◌≤◌, inl, inr, Bool, true, false, if◌then◌else◌, ◌==◌, nat_lt, List, [], ◌∷◌, length, map, filter, slice_get, Option, Some, None, option_map, refl, ap, sym, ◌∙◌, arith}
use Rattle.std.proofs.lemmas.Bool.{cases_lt, cases_eq, cases_Bool}
use Rattle.std.proofs.lemmas.Bool.Decides.{nat_tests}
use Rattle.std.proofs.lemmas.List.{length-map}
use Rattle.vm_model.specs.PlainMap.{Chunk}
use Rattle.vm_model.specs.Space.{put_by, sort_by}
use Rattle.vm_model.specs.Chunks.{slot}
use Rattle.chunk_slots.specs.declared.holders.Holder.{Holder}
use Rattle.chunk_slots.specs.declared.slots.InSlot.{InSlot}
use Rattle.chunk_slots.specs.Rising.{IsRisingFrom, IsRising, rank_by}
use Rattle.chunk_slots.specs.KeptChunks.{KeptRow, slot_in}
use Rattle.chunk_slots.specs.KeptChunkSides.{number_of, chunk_in, chunks_in, Each, IsKeptRow}
use Rattle.chunk_slots.specs.ChunksBySlot.{slot_key, key_of_slot, in_slot_of, slots_of}
use Rattle.chunk_slots.specs.ChunkRegion.{unit_of}
use Rattle.chunk_slots.proofs.Choosing.{sort_sorted, map_sorted}
use Rattle.chunk_slots.proofs.SlotLists.{AreLow, before, drop_one, keep_one, put_passing, put_failing}
use Rattle.chunk_slots.proofs.ObjectViews.{each_map, each_put, each_filter, length_put}
use Rattle.chunk_slots.proofs.ChunkViews.{slot_in_view}
use Rattle.chunk_slots.proofs.RowLists.{filter_in_view, IsSeen}

abbrev in_it : ℕ → InSlot → Bool
in_it n s = s.slot == n

abbrev pub chunk_of : InSlot → ℕ
chunk_of s = s.chunk

abbrev pub of_one_slot : ℕ → List InSlot → List ℕ
of_one_slot n ss = map chunk_of (filter (in_it n) ss)

-- the element, where it is of the slot
pick : ℕ → Option InSlot → Option InSlot
pick n None = None
pick n (Some s) = if s.slot == n then Some s else None

pick_here : (n : ℕ) (s : InSlot) → s.slot ≡ n → pick n (Some s) ≡ Some s
unfolding pick
pick_here n s e = let test : (s.slot == n) ≡ true = grind (arith, nat_tests) in ap (λ b. if b then Some s else None) test

pick_not : (n : ℕ) (s : InSlot) → s.slot ≢ n → pick n (Some s) ≡ None
unfolding pick
pick_not n s e = let test : (s.slot == n) ≡ false = grind (arith, nat_tests) in ap (λ b. if b then Some s else None) test

pick_none : (n : ℕ) (i : ℕ) (ss : List InSlot) → Each (λ (s : InSlot). s.slot ≢ n) ss → pick n (slice_get ss i) ≡ None
unfolding pick
pick_none n i [] e = refl
pick_none n zero (s ∷ ss) e = pick_not n s e.0
pick_none n (suc i) (s ∷ ss) e = pick_none n i ss e.1

none_kept : (n : ℕ) (ss : List InSlot) → Each (λ (s : InSlot). s.slot ≢ n) ss → filter (in_it n) ss ≡ []
none_kept n [] e = refl
none_kept n (s ∷ ss) e = let apart = e.0 in drop_one chunk_of (in_it n) s ss (grind (arith, nat_tests)) ∙ none_kept n ss e.1

abbrev pub AreSmall : List InSlot → Type 0
AreSmall ss = Each (λ (s : InSlot). s.chunk < 4294967296) ss

all_above : (n low : ℕ) (ss : List InSlot) → 4294967296 * n + 4294967296 ≤ low → IsRisingFrom key_of_slot low ss → AreSmall ss → Each (λ (s : InSlot). s.slot ≢ n) ss
all_above n low [] above rise small = tt
all_above n low (s ∷ ss) above rise small =
    let first = rise.0 in let own = small.0 in
    ((λ same. absurd (omega (arith, same))), all_above n (suc (key_of_slot s)) ss (omega arith) rise.1 small.1)

from_slot : (n low i : ℕ) (ss : List InSlot) → 4294967296 * n ≤ low → IsRisingFrom key_of_slot low ss → AreSmall ss → slice_get (filter (in_it n) ss) i ≡ pick n (slice_get ss i)
unfolding pick
from_slot n low i [] from rise small = refl
from_slot n low i (s ∷ ss) from rise small = elim (cases_eq s.slot n) [
  | inl same ↦
      ap (λ ts. slice_get ts i) (keep_one chunk_of (in_it n) s ss (grind (arith, nat_tests)))
      ∙ by same i (λ j. let first = rise.0 in from_slot n (suc (key_of_slot s)) j ss (omega arith) rise.1 small.1)
  | inr apart ↦
      let first = rise.0 in let own = small.0 in
      let others : Each (λ (t : InSlot). t.slot ≢ n) ss = all_above n (suc (key_of_slot s)) ss (omega arith) rise.1 small.1 in
      ap (λ ts. slice_get ts i) (none_kept n (s ∷ ss) (apart, others)) ∙ sym (pick_none n i (s ∷ ss) (apart, others))
]
  where
    by : s.slot ≡ n → (j : ℕ) → ((k : ℕ) → slice_get (filter (in_it n) ss) k ≡ pick n (slice_get ss k)) → slice_get (s ∷ filter (in_it n) ss) j ≡ pick n (slice_get (s ∷ ss) j)
    by same zero rest = sym (pick_here n s same)
    by same (suc j) rest = rest j

at_rank : (n low i : ℕ) (ss : List InSlot) → IsRisingFrom key_of_slot low ss → AreSmall ss → slice_get (filter (in_it n) ss) i ≡ pick n (slice_get ss (rank_by key_of_slot (slot_key n 0) ss + i))
unfolding pick
at_rank n low i [] rise small = refl
at_rank n low i (s ∷ ss) rise small = elim (cases_lt (key_of_slot s) (slot_key n 0)) [
  | inl less ↦
      let test : nat_lt (key_of_slot s) (slot_key n 0) ≡ true = grind (arith, nat_tests) in
      let apart : s.slot ≢ n = (λ same. absurd (omega (arith, same))) in
      let rank : ℕ = rank_by key_of_slot (slot_key n 0) ss in
      let next : suc rank + i ≡ suc (rank + i) = omega arith in
      ap (λ ts. slice_get ts i) (drop_one chunk_of (in_it n) s ss (grind (arith, nat_tests)))
      ∙ at_rank n (suc (key_of_slot s)) i ss rise.1 small.1
      ∙ ap (λ j. pick n (slice_get (s ∷ ss) j)) (sym next)
      ∙ sym (ap (λ b. pick n (slice_get (s ∷ ss) ((if b then suc rank else 0) + i))) test)
  | inr le ↦
      let test : nat_lt (key_of_slot s) (slot_key n 0) ≡ false = grind (arith, nat_tests) in
      let none : 0 + i ≡ i = omega arith in
      from_slot n (key_of_slot s) i (s ∷ ss) (omega arith) ((let same : key_of_slot s ≤ key_of_slot s = omega arith in same), rise.1) small
      ∙ ap (λ j. pick n (slice_get (s ∷ ss) j)) (sym none)
      ∙ sym (ap (λ b. pick n (slice_get (s ∷ ss) ((if b then suc (rank_by key_of_slot (slot_key n 0) ss) else 0) + i))) test)
]

pub get_chunk : (i : ℕ) (ss : List InSlot) → slice_get (map chunk_of ss) i ≡ option_map chunk_of (slice_get ss i)
get_chunk i [] = refl
get_chunk zero (s ∷ ss) = refl
get_chunk (suc i) (s ∷ ss) = get_chunk i ss

pub found_in_slot : (n i place : ℕ) (ss : List InSlot) (s : InSlot) → IsRising key_of_slot ss → AreSmall ss → place ≡ rank_by key_of_slot (slot_key n 0) ss + i → slice_get ss place ≡ Some s → s.slot ≡ n
    → slice_get (map chunk_of (filter (in_it n) ss)) i ≡ Some s.chunk
found_in_slot n i place ss s rise small is there same =
    get_chunk i (filter (in_it n) ss) ∙ ap (option_map chunk_of) (at_rank n 0 i ss rise small ∙ ap (λ p. pick n (slice_get ss p)) (sym is) ∙ ap (pick n) there ∙ pick_here n s same)

pub not_in_slot : (n i place : ℕ) (ss : List InSlot) (s : InSlot) → IsRising key_of_slot ss → AreSmall ss → place ≡ rank_by key_of_slot (slot_key n 0) ss + i → slice_get ss place ≡ Some s → s.slot ≢ n
    → slice_get (map chunk_of (filter (in_it n) ss)) i ≡ None
not_in_slot n i place ss s rise small is there apart =
    get_chunk i (filter (in_it n) ss) ∙ ap (option_map chunk_of) (at_rank n 0 i ss rise small ∙ ap (λ p. pick n (slice_get ss p)) (sym is) ∙ ap (pick n) there ∙ pick_not n s apart)

get_past : {X : Type 0} (i : ℕ) (xs : List X) → length xs ≤ i → slice_get xs i ≡ None
get_past i [] past = refl
get_past zero (x ∷ xs) past = absurd (omega arith)
get_past (suc i) (x ∷ xs) past = get_past i xs (omega arith)

pub past_slots : (n i place : ℕ) (ss : List InSlot) → IsRising key_of_slot ss → AreSmall ss → place ≡ rank_by key_of_slot (slot_key n 0) ss + i → length ss ≤ place
    → slice_get (map chunk_of (filter (in_it n) ss)) i ≡ None
unfolding pick
past_slots n i place ss rise small is past =
    get_chunk i (filter (in_it n) ss) ∙ ap (option_map chunk_of) (at_rank n 0 i ss rise small ∙ ap (λ p. pick n (slice_get ss p)) (sym is) ∙ ap (pick n) (get_past place ss past))

-- The slots of the chunks, one slot at a time.

slots_above : (low : ℕ) (rows : List KeptRow) → IsRisingFrom number_of low rows → Each (λ (s : InSlot). low ≤ s.chunk) (slots_of rows)
slots_above low [] rise = tt
slots_above low (x ∷ xs) rise =
    let first = rise.0 in
    each_put (λ (s : InSlot). low ≤ s.chunk) key_of_slot (in_slot_of x) (slots_of xs) first
    (each_map (λ (s : InSlot). suc x.number ≤ s.chunk) (λ (s : InSlot). low ≤ s.chunk) (slots_of xs) (λ s above. omega arith) (slots_above (suc x.number) xs rise.1))

pub slots_small : (rows : List KeptRow) → AreLow rows → Each (λ (s : InSlot). s.chunk < 4294967296) (slots_of rows)
slots_small [] lows = tt
slots_small (x ∷ xs) lows = each_put (λ (s : InSlot). s.chunk < 4294967296) key_of_slot (in_slot_of x) (slots_of xs) lows.0 (slots_small xs lows.1)

put_front : (s : InSlot) (ss : List InSlot) → Each (λ (t : InSlot). key_of_slot s < key_of_slot t) ss → put_by key_of_slot s ss ≡ s ∷ ss
put_front s [] e = refl
put_front s (t ∷ ts) e = before key_of_slot s t ts e.0

abbrev of_slot : ℕ → KeptRow → Bool
of_slot n row = slot_in row == n

is_in_it : (n : ℕ) (s : InSlot) → in_it n s ≡ true → s.slot ≡ n
is_in_it n s e = grind (arith, nat_tests)

numbers_of_slot : (n low : ℕ) (rows : List KeptRow) → IsRisingFrom number_of low rows → map chunk_of (filter (in_it n) (slots_of rows)) ≡ map number_of (filter (of_slot n) rows)
numbers_of_slot n low [] rise = refl
numbers_of_slot n low (x ∷ xs) rise = elim (cases_Bool (of_slot n x)) [
  | inl here ↦
      let slot : slot_in x ≡ n = is_in_it n (in_slot_of x) here in
      let above = each_filter (λ (t : InSlot). suc x.number ≤ t.chunk) (λ (t : InSlot). key_of_slot (in_slot_of x) < key_of_slot t) (in_it n) (slots_of xs)
      (λ t passes more. let same = is_in_it n t passes in omega arith) (slots_above (suc x.number) xs rise.1) in
      ap (map chunk_of) (put_passing key_of_slot (in_it n) (in_slot_of x) 0 (slots_of xs) here (sort_sorted key_of_slot (map in_slot_of xs)) ∙ put_front (in_slot_of x) (filter (in_it n) (slots_of xs)) above)
      ∙ ap (λ ns. x.number ∷ ns) (numbers_of_slot n (suc x.number) xs rise.1)
      ∙ ap (map number_of) (sym (keep_one number_of (of_slot n) x xs here))
  | inr not_here ↦
      ap (map chunk_of) (put_failing key_of_slot (in_it n) (in_slot_of x) (slots_of xs) not_here)
      ∙ numbers_of_slot n (suc x.number) xs rise.1
      ∙ ap (map number_of) (sym (drop_one number_of (of_slot n) x xs not_here))
]

same_numbers : (h : ℕ → Option Holder) (rows : List KeptRow) → map (λ (c : Chunk). c.number) (map (chunk_in h) rows) ≡ map number_of rows
same_numbers h [] = refl
same_numbers h (x ∷ xs) = ap (λ ns. x.number ∷ ns) (same_numbers h xs)

pub numbers_in_view : (n pages next : ℕ) (h : ℕ → Option Holder) (rows : List KeptRow) → IsRising number_of rows → Each (IsKeptRow pages next h) rows
    → map chunk_of (filter (in_it n) (slots_of rows)) ≡ map (λ (c : Chunk). c.number) (filter (λ c. slot (unit_of pages) c == n) (chunks_in h rows))
numbers_in_view n pages next h rows rise kept =
    numbers_of_slot n 0 rows rise
    ∙ sym (same_numbers h (filter (of_slot n) rows))
    ∙ ap (map (λ (c : Chunk). c.number)) (sym (filter_in_view (chunk_in h) (λ (c : Chunk). c.number) (λ c. slot (unit_of pages) c == n) number_of (of_slot n) rows
    (each_map (IsKeptRow pages next h) (IsSeen (chunk_in h) (λ (c : Chunk). c.number) (λ c. slot (unit_of pages) c == n) number_of (of_slot n)) rows (λ row k. (refl, ap (λ s. s == n) (slot_in_view pages h row k.bits_are))) kept)))

-- All slots in a row.

in_slot_by : (pages : ℕ) → Chunk → InSlot
in_slot_by pages c = record { slot = slot (unit_of pages) c; chunk = c.number }

same_slots : (pages next : ℕ) (h : ℕ → Option Holder) (rows : List KeptRow) → Each (IsKeptRow pages next h) rows → map in_slot_of rows ≡ map (in_slot_by pages) (chunks_in h rows)
unfolding in_slot_by
same_slots pages next h [] kept = refl
same_slots pages next h (x ∷ xs) kept =
    ap (λ s. in_slot s x.number ∷ map in_slot_of xs) (sym (slot_in_view pages h x kept.0.bits_are)) ∙ ap (λ ss. in_slot_by pages (chunk_in h x) ∷ ss) (same_slots pages next h xs kept.1)
  where
    in_slot : ℕ → ℕ → InSlot
    in_slot s n = record { slot = s; chunk = n }

chunks_of : (pages : ℕ) (cs : List Chunk) → map chunk_of (map (in_slot_by pages) cs) ≡ map (λ (c : Chunk). c.number) cs
unfolding in_slot_by
chunks_of pages [] = refl
chunks_of pages (c ∷ cs) = ap (λ ns. c.number ∷ ns) (chunks_of pages cs)

pub order_in_view : (pages next : ℕ) (h : ℕ → Option Holder) (rows : List KeptRow) → Each (IsKeptRow pages next h) rows
    → map chunk_of (slots_of rows) ≡ map (λ (c : Chunk). c.number) (sort_by (λ c. slot_key (slot (unit_of pages) c) c.number) (chunks_in h rows))
unfolding in_slot_by
order_in_view pages next h rows kept =
    ap (λ ss. map chunk_of (sort_by key_of_slot ss)) (same_slots pages next h rows kept)
    ∙ ap (map chunk_of) (sym (map_sorted (in_slot_by pages) key_of_slot (chunks_in h rows)))
    ∙ chunks_of pages (sort_by (λ c. slot_key (slot (unit_of pages) c) c.number) (chunks_in h rows))

pub length_sorted : {X : Type 0} (key : X → ℕ) (xs : List X) → length (sort_by key xs) ≡ length xs
length_sorted key [] = refl
length_sorted key (x ∷ xs) = length_put key x (sort_by key xs) ∙ ap suc (length_sorted key xs)

-- each chunk has its place
pub length_slots : (rows : List KeptRow) → length (slots_of rows) ≡ length rows
length_slots rows = length_sorted key_of_slot (map in_slot_of rows) ∙ length-map rows in_slot_of
