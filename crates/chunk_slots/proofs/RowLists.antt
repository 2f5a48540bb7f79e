-- Chunks by number: one of them changed, found, or left out, in the rows and in the value.
use Rattle.std.proofs.Common.{◌≡◌, ◌≢◌, ℕ, zero, suc, ◌+◌, ◌<◌, ◌≤◌, inl, inr, Bool, true, false, cond, if◌then◌else◌, ◌==◌, nat_le, List, [], ◌∷◌, ◌++◌, length, map, filter, slice_get, slice_set, Option, Some, None, option_map, All, refl, ap, sym, ◌∙◌, subst, arith}
use Rattle.std.proofs.lemmas.Bool.{cases_eq}
use Rattle.std.proofs.lemmas.Bool.Decides.{nat_tests}
use Rattle.std.proofs.lemmas.List.Elements.{All-cons, All-nil}
use Rattle.vm_model.specs.Space.{least_by, smaller_by}
use Rattle.vm_model.specs.PlainMap.{Chunk}
use Rattle.vm_model.specs.Chunks.{change_chunk, chunks_numbered}
use Rattle.chunk_slots.specs.declared.holders.Holder.{Holder}
use Rattle.chunk_slots.specs.Rising.{IsRisingFrom, IsRising, index_by}
use Rattle.chunk_slots.specs.KeptChunks.{KeptRow}
use Rattle.chunk_slots.specs.KeptChunkSides.{number_of, chunk_in, chunks_in, Each}
use Rattle.chunk_slots.specs.SlotOrder.{AreNumbered}
use Rattle.chunk_slots.proofs.RisingLists.{index-here, index-later}
use Rattle.chunk_slots.proofs.SlotLists.{some_same, below_number, drop_one, keep_one}

pub each_at : (P : KeptRow → Type 0) (i : ℕ) (rows : List KeptRow) (row : KeptRow) → Each P rows → slice_get rows i ≡ Some row → P row
each_at P i [] row e there = cc
each_at P zero (x ∷ xs) row e there = subst P (some_same x row there) e.0
each_at P (suc i) (x ∷ xs) row e there = each_at P i xs row e.1 there

-- the rows above a number, each changed in what does not concern them
above_weaken : (P Q : KeptRow → Type 0) (n low : ℕ) (rows : List KeptRow) → n < low → IsRisingFrom number_of low rows → ((other : KeptRow) → other.number ≢ n → P other → Q other) → Each P rows → Each Q rows
above_weaken P Q n low [] less rise f e = tt
above_weaken P Q n low (x ∷ xs) less rise f e = let first = rise.0 in (f x (λ same. absurd (omega (arith, same))) e.0, above_weaken P Q n (suc x.number) xs (omega arith) rise.1 f e.1)

pub each_changed : (P Q : KeptRow → Type 0) (low i : ℕ) (rows : List KeptRow) (row new : KeptRow) → IsRisingFrom number_of low rows → slice_get rows i ≡ Some row → Q new → ((other : KeptRow) → other.number ≢ row.number → P other → Q other) → Each P rows → Each Q (slice_set rows i new)
each_changed P Q low i [] row new rise there q f e = tt
each_changed P Q low zero (x ∷ xs) row new rise there q f e = (q, above_weaken P Q row.number (suc x.number) xs (omega (arith, ap number_of (some_same x row there))) rise.1 f e.1)
each_changed P Q low (suc i) (x ∷ xs) row new rise there q f e =
    let above = below_number (suc x.number) i xs row rise.1 there in
    (f x (λ same. absurd (omega (arith, same))) e.0, each_changed P Q (suc x.number) i xs row new rise.1 there q f e.1)

pub rises_changed : (low i : ℕ) (rows : List KeptRow) (row new : KeptRow) → IsRisingFrom number_of low rows → slice_get rows i ≡ Some row → new.number ≡ row.number → IsRisingFrom number_of low (slice_set rows i new)
rises_changed low i [] row new rise there same = tt
rises_changed low zero (x ∷ xs) row new rise there same =
    let number : x.number ≡ new.number = ap number_of (some_same x row there) ∙ sym same in
    let first = rise.0 in ((omega arith), subst (λ n. IsRisingFrom number_of (suc n) xs) number rise.1)
rises_changed low (suc i) (x ∷ xs) row new rise there same = (rise.0, rises_changed (suc x.number) i xs row new rise.1 there same)

pub rises_added : (low : ℕ) (rows : List KeptRow) (new : KeptRow) → low ≤ new.number → IsRisingFrom number_of low rows → Each (λ (row : KeptRow). row.number < new.number) rows → IsRisingFrom number_of low (rows ++ new ∷ [])
rises_added low [] new le rise above = (le, tt)
rises_added low (x ∷ xs) new le rise above = let first = above.0 in (rise.0, rises_added (suc x.number) xs new (omega arith) rise.1 above.1)

pub each_added : {X : Type 0} (P : X → Type 0) (xs : List X) (x : X) → Each P xs → P x → Each P (xs ++ x ∷ [])
each_added P [] x e h = (h, tt)
each_added P (y ∷ ys) x e h = (e.0, each_added P ys x e.1 h)

-- the value with one chunk changed
unchanged : (g h : ℕ → Option Holder) (P : KeptRow → Type 0) (n low : ℕ) (change : Chunk → Chunk) (rows : List KeptRow) → n < low → IsRisingFrom number_of low rows → ((other : KeptRow) → other.number ≢ n → P other → chunk_in g other ≡ chunk_in h other) → Each P rows
    → chunks_in g rows ≡ change_chunk n change (chunks_in h rows)
unchanged g h P n low change [] less rise f e = refl
unchanged g h P n low change (x ∷ xs) less rise f e =
    let first = rise.0 in
    let other : (x.number == n) ≡ false = let apart : x.number ≢ n = (λ same. absurd (omega (arith, same))) in grind (arith, nat_tests) in
    ap (λ c. c ∷ chunks_in g xs) (f x (λ same. absurd (omega (arith, same))) e.0 ∙ sym (ap (λ b. if b then change (chunk_in h x) else chunk_in h x) other))
    ∙ ap (λ cs. (if x.number == n then change (chunk_in h x) else chunk_in h x) ∷ cs) (unchanged g h P n (suc x.number) change xs (omega arith) rise.1 f e.1)

pub chunks_changed : (g h : ℕ → Option Holder) (P : KeptRow → Type 0) (change : Chunk → Chunk) (low i : ℕ) (rows : List KeptRow) (row new : KeptRow) → IsRisingFrom number_of low rows → slice_get rows i ≡ Some row
    → chunk_in g new ≡ change (chunk_in h row) → ((other : KeptRow) → other.number ≢ row.number → P other → chunk_in g other ≡ chunk_in h other) → Each P rows
    → chunks_in g (slice_set rows i new) ≡ change_chunk row.number change (chunks_in h rows)
chunks_changed g h P change low i [] row new rise there made f e = refl
chunks_changed g h P change low zero (x ∷ xs) row new rise there made f e =
    let this : x ≡ row = some_same x row there in
    let it : (x.number == row.number) ≡ true = let same : x.number ≡ row.number = ap number_of this in grind (arith, nat_tests) in
    ap (λ c. c ∷ chunks_in g xs) (made ∙ ap (λ r. change (chunk_in h r)) (sym this) ∙ sym (ap (λ b. if b then change (chunk_in h x) else chunk_in h x) it))
    ∙ ap (λ cs. (if x.number == row.number then change (chunk_in h x) else chunk_in h x) ∷ cs) (unchanged g h P row.number (suc x.number) change xs (omega (arith, ap number_of this)) rise.1 f e.1)
chunks_changed g h P change low (suc i) (x ∷ xs) row new rise there made f e =
    let above = below_number (suc x.number) i xs row rise.1 there in
    let other : (x.number == row.number) ≡ false = let apart : x.number ≢ row.number = (λ same. absurd (omega (arith, same))) in grind (arith, nat_tests) in
    ap (λ c. c ∷ chunks_in g (slice_set xs i new)) (f x (λ same. absurd (omega (arith, same))) e.0 ∙ sym (ap (λ b. if b then change (chunk_in h x) else chunk_in h x) other))
    ∙ ap (λ cs. (if x.number == row.number then change (chunk_in h x) else chunk_in h x) ∷ cs) (chunks_changed g h P change (suc x.number) i xs row new rise.1 there made f e.1)

pub chunks_added : (h : ℕ → Option Holder) (rows : List KeptRow) (new : KeptRow) → chunks_in h (rows ++ new ∷ []) ≡ chunks_in h rows ++ chunk_in h new ∷ []
chunks_added h [] new = refl
chunks_added h (x ∷ xs) new = ap (λ cs. chunk_in h x ∷ cs) (chunks_added h xs new)

abbrev has_number : ℕ → Chunk → Bool
has_number n h = h.number == n

-- the chunk with a number, and none
none_above : (h : ℕ → Option Holder) (n low : ℕ) (rows : List KeptRow) → n < low → IsRisingFrom number_of low rows → chunks_numbered n (chunks_in h rows) ≡ []
none_above h n low [] less rise = refl
none_above h n low (x ∷ xs) less rise =
    let first = rise.0 in
    drop_one (λ (c : Chunk). c.number) (has_number n) (chunk_in h x) (chunks_in h xs) (let apart : x.number ≢ n = (λ same. absurd (omega (arith, same))) in grind (arith, nat_tests))
    ∙ none_above h n (suc x.number) xs (omega arith) rise.1

pub numbered_found : (h : ℕ → Option Holder) (low i : ℕ) (rows : List KeptRow) (row : KeptRow) → IsRisingFrom number_of low rows → slice_get rows i ≡ Some row → chunks_numbered row.number (chunks_in h rows) ≡ chunk_in h row ∷ []
numbered_found h low i [] row rise there = cc
numbered_found h low zero (x ∷ xs) row rise there =
    let this : x ≡ row = some_same x row there in
    keep_one (λ (c : Chunk). c.number) (has_number row.number) (chunk_in h x) (chunks_in h xs) (let same : x.number ≡ row.number = ap number_of this in grind (arith, nat_tests))
    ∙ ap (λ cs. chunk_in h x ∷ cs) (none_above h row.number (suc x.number) xs (omega (arith, ap number_of this)) rise.1)
    ∙ ap (λ r. chunk_in h r ∷ []) this
numbered_found h low (suc i) (x ∷ xs) row rise there =
    let above = below_number (suc x.number) i xs row rise.1 there in
    drop_one (λ (c : Chunk). c.number) (has_number row.number) (chunk_in h x) (chunks_in h xs) (let apart : x.number ≢ row.number = (λ same. absurd (omega (arith, same))) in grind (arith, nat_tests))
    ∙ numbered_found h (suc x.number) i xs row rise.1 there

pub numbered_none : (h : ℕ → Option Holder) (n : ℕ) (rows : List KeptRow) → index_by number_of n rows ≡ None → chunks_numbered n (chunks_in h rows) ≡ []
numbered_none h n [] none = refl
numbered_none h n (x ∷ xs) none = elim (cases_eq x.number n) [
  | inl same ↦ absurd (let clash : None ≡ Some 0 = sym none ∙ index-here number_of n x xs same in cc)
  | inr apart ↦ drop_one (λ (c : Chunk). c.number) (has_number n) (chunk_in h x) (chunks_in h xs) (grind (arith, nat_tests))
      ∙ numbered_none h n xs (later_none (index_by number_of n xs) (sym (index-later number_of n x xs apart) ∙ none))
]
  where
    later_none : (o : Option ℕ) → option_map suc o ≡ None → o ≡ None
    later_none None e = refl
    later_none (Some i) e = cc

pub index_in_view : (h : ℕ → Option Holder) (n : ℕ) (rows : List KeptRow) → index_by (λ (c : Chunk). c.number) n (chunks_in h rows) ≡ index_by number_of n rows
index_in_view h n [] = refl
index_in_view h n (x ∷ xs) = ap (λ o. if x.number == n then Some 0 else option_map suc o) (index_in_view h n xs)

pub get_in_view : (h : ℕ → Option Holder) (i : ℕ) (rows : List KeptRow) → slice_get (chunks_in h rows) i ≡ option_map (chunk_in h) (slice_get rows i)
get_in_view h i [] = refl
get_in_view h zero (x ∷ xs) = refl
get_in_view h (suc i) (x ∷ xs) = get_in_view h i xs

pub length_in_view : (h : ℕ → Option Holder) (rows : List KeptRow) → length (chunks_in h rows) ≡ length rows
length_in_view h [] = refl
length_in_view h (x ∷ xs) = ap suc (length_in_view h xs)

pub numbered : (bound : ℕ) (rows : List KeptRow) → IsRising number_of rows → bound ≤ 4294967296 → Each (λ (row : KeptRow). row.number < bound) rows → AreNumbered rows
numbered bound rows rise small lows = (rise, all rows lows)
  where
    all : (xs : List KeptRow) → Each (λ (row : KeptRow). row.number < bound) xs → All (λ (row : KeptRow). row.number < 4294967296) xs
    all [] e = All-nil (λ (row : KeptRow). row.number < 4294967296)
    all (x ∷ xs) e = let first = e.0 in All-cons (λ (row : KeptRow). row.number < 4294967296) x xs (omega arith) (all xs e.1)

-- there are no more chunks than numbers
pub few_rows : (bound low : ℕ) (rows : List KeptRow) → IsRisingFrom number_of low rows → Each (λ (row : KeptRow). row.number < bound) rows → low ≤ bound → low + length rows ≤ bound
few_rows bound low [] rise lows le = omega arith
few_rows bound low (x ∷ xs) rise lows le = let first = rise.0 in let own = lows.0 in omega (arith, few_rows bound (suc x.number) xs rise.1 lows.1 (omega arith))

-- The chunks of the value rise by number, as the rows do.

pub rises_in_view : (h : ℕ → Option Holder) (low : ℕ) (rows : List KeptRow) → IsRisingFrom number_of low rows → IsRisingFrom (λ (c : Chunk). c.number) low (chunks_in h rows)
rises_in_view h low [] rise = tt
rises_in_view h low (x ∷ xs) rise = (rise.0, rises_in_view h (suc x.number) xs rise.1)

pub small_in_view : (h : ℕ → Option Holder) (rows : List KeptRow) → Each (λ (row : KeptRow). row.number < 4294967296) rows → All (λ (c : Chunk). c.number < 4294967296) (chunks_in h rows)
small_in_view h [] lows = All-nil (λ (c : Chunk). c.number < 4294967296)
small_in_view h (x ∷ xs) lows = All-cons (λ (c : Chunk). c.number < 4294967296) (chunk_in h x) (chunks_in h xs) lows.0 (small_in_view h xs lows.1)

-- The choice over the value is that over the rows.

smaller_has : (P : KeptRow → Type 0) (key : KeptRow → ℕ) (x : KeptRow) (o : Option KeptRow) (z : KeptRow) → P x → ((y : KeptRow) → o ≡ Some y → P y) → smaller_by key x o ≡ Some z → P z
smaller_has P key x None z px po e = subst P (some_same x z e) px
smaller_has P key x (Some y) z px po e = by (nat_le (key x) (key y)) e
  where
    by : (b : Bool) → (if b then Some x else Some y) ≡ Some z → P z
    by true h = subst P (some_same x z h) px
    by false h = subst P (some_same y z h) (po y refl)

least_has : (P : KeptRow → Type 0) (key : KeptRow → ℕ) (xs : List KeptRow) (z : KeptRow) → Each P xs → least_by key xs ≡ Some z → P z
least_has P key [] z e h = cc
least_has P key (x ∷ xs) z e h = smaller_has P key x (least_by key xs) z e.0 (λ y is. least_has P key xs y e.1 is) h

module _ (f : KeptRow → Chunk) (key : Chunk → ℕ) (test : Chunk → Bool) (key' : KeptRow → ℕ) (test' : KeptRow → Bool) where
  abbrev pub IsSeen : KeptRow → Type 0
  IsSeen row = (key (f row) ≡ key' row) × (test (f row) ≡ test' row)

  filtered_by : (b : Bool) (x : KeptRow) (xs : List KeptRow) → filter test (map f xs) ≡ map f (filter test' xs) → cond b (f x ∷ filter test (map f xs)) (filter test (map f xs)) ≡ map f (cond b (x ∷ filter test' xs) (filter test' xs))
  filtered_by true x xs rest = ap (λ cs. f x ∷ cs) rest
  filtered_by false x xs rest = rest

  pub filter_in_view : (xs : List KeptRow) → Each IsSeen xs → filter test (map f xs) ≡ map f (filter test' xs)
  filter_in_view [] g = refl
  filter_in_view (y ∷ ys) g = ap (λ b. cond b (f y ∷ filter test (map f ys)) (filter test (map f ys))) g.0.1 ∙ filtered_by (test' y) y ys (filter_in_view ys g.1)

  seen_by : (b : Bool) (x : KeptRow) (xs : List KeptRow) → IsSeen x → Each IsSeen (filter test' xs) → Each IsSeen (cond b (x ∷ filter test' xs) (filter test' xs))
  seen_by true x xs s rest = (s, rest)
  seen_by false x xs s rest = rest

  seen : (xs : List KeptRow) → Each IsSeen xs → Each IsSeen (filter test' xs)
  seen [] g = tt
  seen (x ∷ xs) g = seen_by (test' x) x xs g.0 (seen xs g.1)

  pick : (b : Bool) (x y : KeptRow) → (if b then Some (f x) else Some (f y)) ≡ option_map f (if b then Some x else Some y)
  pick true x y = refl
  pick false x y = refl

  smaller : (x : KeptRow) (o : Option KeptRow) → key (f x) ≡ key' x → ((y : KeptRow) → o ≡ Some y → key (f y) ≡ key' y) → smaller_by key (f x) (option_map f o) ≡ option_map f (smaller_by key' x o)
  smaller x None s g = refl
  smaller x (Some y) s g =
      ap (λ m. if nat_le m (key (f y)) then Some (f x) else Some (f y)) s
      ∙ ap (λ m. if nat_le (key' x) m then Some (f x) else Some (f y)) (g y refl)
      ∙ pick (nat_le (key' x) (key' y)) x y

  least : (xs : List KeptRow) → Each IsSeen xs → least_by key (map f xs) ≡ option_map f (least_by key' xs)
  least [] g = refl
  least (x ∷ xs) g = ap (smaller_by key (f x)) (least xs g.1) ∙ smaller x (least_by key' xs) g.0.0 (λ y is. (least_has IsSeen key' xs y g.1 is).0)

  pub least_in_view : (rows : List KeptRow) → Each IsSeen rows → least_by key (filter test (map f rows)) ≡ option_map f (least_by key' (filter test' rows))
  least_in_view rows e = ap (least_by key) (filter_in_view rows e) ∙ least (filter test' rows) (seen rows e)
