-- The objects of a chunk's value, as its bits and the holders change.
use Rattle.std.proofs.Common.{◌≡◌, ◌≢◌, ℕ, suc, ◌+◌, ◌*◌, ◌%◌, ◌<◌, ◌≤◌, ◌⊎◌, inl, inr, Bool, true, false, not, ◌&&◌, ◌||◌, cond, rules, if◌then◌else◌, ◌==◌, nat_lt, List, [], ◌∷◌, ◌++◌, length, map, filter, find, drop, Option, Some, None, refl, ap, sym, ◌∙◌, subst, arith}
use Rattle.std.specs.Prelude.{nat_eq, IsSome}
use Rattle.std.specs.Map.{update}
use Rattle.std.proofs.lemmas.Bool.{cases_lt, cases_eq, cases_Bool}
use Rattle.std.proofs.lemmas.Bool.Decides.{nat_tests}
use Rattle.vm_model.specs.declared.areas.Span.{Span}
use Rattle.vm_model.specs.Space.{span, holds, covers, count_from, put_by, taken_by, lowest, fits, begins_free}
use Rattle.vm_model.specs.PlainMap.{Object, Life, InHand, Lives}
use Rattle.vm_model.proofs.Search.{the_lowest_fits}
use Rattle.vm_model.proofs.Tabulated.{length-tabulated, slice_get-tabulated}
use Rattle.vm_model.proofs.FreePlaces.{AreFree, are_free}
use Rattle.block_hints.proofs.Blocked.{covers-append}
use Rattle.chunk_slots.specs.declared.holders.Holder.{Holder}
use Rattle.chunk_slots.specs.KeptObjects.{object_key, object_by, objects_by, caller_by, life_by}
use Rattle.chunk_slots.specs.KeptChunks.{KeptRow, unpopulated_in}
use Rattle.chunk_slots.specs.KeptChunkSides.{Each, IsKeptSpan}
use Rattle.chunk_slots.specs.ChunksBySlot.{fit_in}
use Rattle.chunk_slots.proofs.SlotLists.{drop_one, keep_one, before, behind}

abbrev pub start_of : Span → ℕ
start_of s = s.start

abbrev pub off_of : Object → ℕ
off_of o = o.off

pub each_map : {X : Type 0} (P Q : X → Type 0) (xs : List X) → ((x : X) → P x → Q x) → Each P xs → Each Q xs
each_map P Q [] f e = tt
each_map P Q (x ∷ xs) f e = (f x e.0, each_map P Q xs f e.1)

pub each_put : {X : Type 0} (P : X → Type 0) (key : X → ℕ) (x : X) (xs : List X) → P x → Each P xs → Each P (put_by key x xs)
each_put P key x [] h e = (h, tt)
each_put P key x (y ∷ ys) h e = by (nat_lt (key x) (key y)) (each_put P key x ys h e.1)
  where
    by : (b : Bool) → Each P (put_by key x ys) → Each P (if b then x ∷ y ∷ ys else y ∷ put_by key x ys)
    by true rest = (h, e)
    by false rest = (e.0, rest)

-- what is kept passes too
pub each_filter : {X : Type 0} (P Q : X → Type 0) (p : X → Bool) (xs : List X) → ((x : X) → p x ≡ true → P x → Q x) → Each P xs → Each Q (filter p xs)
each_filter P Q p [] f e = tt
each_filter P Q p (x ∷ xs) f e = elim (cases_Bool (p x)) [
  | inl keeps ↦ subst (Each Q) (sym (keep_one (λ (y : _). 0) p x xs keeps)) (f x keeps e.0, each_filter P Q p xs f e.1)
  | inr drops ↦ subst (Each Q) (sym (drop_one (λ (y : _). 0) p x xs drops)) (each_filter P Q p xs f e.1)
]

pub length_put : {X : Type 0} (key : X → ℕ) (x : X) (xs : List X) → length (put_by key x xs) ≡ suc (length xs)
length_put key x [] = refl
length_put key x (y ∷ ys) = by (nat_lt (key x) (key y)) (length_put key x ys)
  where
    by : (b : Bool) → length (put_by key x ys) ≡ suc (length ys) → length (if b then x ∷ y ∷ ys else y ∷ put_by key x ys) ≡ suc (suc (length ys))
    by true rest = refl
    by false rest = ap suc rest

pub length_filter : {X : Type 0} (p : X → Bool) (xs : List X) → length (filter p xs) ≤ length xs
length_filter p [] = omega arith
length_filter p (x ∷ xs) = by (p x) (length_filter p xs)
  where
    by : (b : Bool) → length (filter p xs) ≤ length xs → length (cond b (x ∷ filter p xs) (filter p xs)) ≤ suc (length xs)
    by true rest = omega arith
    by false rest = omega arith

-- an object with a holder
abbrev object_with : Option Holder → Span → Object
object_with holder s = record { off = 4 * s.start; bytes = 4 * s.pages; caller = caller_by holder; life = life_by holder }

abbrev key_in : ℕ → Span → ℕ
key_in n s = object_key n (4 * s.start)

pub same_objects : (g h : ℕ → Option Holder) (n : ℕ) (spans : List Span) → Each (λ (s : Span). g (object_key n (4 * s.start)) ≡ h (object_key n (4 * s.start))) spans → objects_by g n spans ≡ objects_by h n spans
same_objects g h n [] e = refl
same_objects g h n (s ∷ spans) e =
    ap (λ holder. object_with holder s ∷ objects_by g n spans) e.0 ∙ ap (λ os. object_by h n s ∷ os) (same_objects g h n spans e.1)

put_mapped : (h : ℕ → Option Holder) (n : ℕ) (s : Span) (spans : List Span) → objects_by h n (put_by start_of s spans) ≡ put_by off_of (object_by h n s) (objects_by h n spans)
put_mapped h n s [] = refl
put_mapped h n s (t ∷ ts) = elim (cases_lt s.start t.start) [
  | inl less ↦ ap (objects_by h n) (before start_of s t ts less) ∙ sym (before off_of (object_by h n s) (object_by h n t) (objects_by h n ts) (omega arith))
  | inr le ↦ ap (objects_by h n) (behind start_of s t ts le) ∙ ap (λ os. object_by h n t ∷ os) (put_mapped h n s ts) ∙ sym (behind off_of (object_by h n s) (object_by h n t) (objects_by h n ts) (omega arith))
]

pub at_key : (h : ℕ → Option Holder) (k : ℕ) (w : Option Holder) → update nat_eq h k w k ≡ w
at_key h k w = let e : (k == k) ≡ true = grind (arith, nat_tests) in ap (λ b. cond b w (h k)) e

pub off_key : (h : ℕ → Option Holder) (k q : ℕ) (w : Option Holder) → q ≢ k → update nat_eq h k w q ≡ h q
off_key h k q w apart = let e : (k == q) ≡ false = grind (arith, nat_tests) in ap (λ b. cond b w (h q)) e

-- the lookups differ at one object's place alone
abbrev pub IsUpdate : (g h : ℕ → Option Holder) → (k : ℕ) → Option Holder → Type 0
IsUpdate g h k w = (key : ℕ) → g key ≡ update nat_eq h k w key

abbrev pub AreSpans : (ℕ → Option Holder) → (chunk bits : ℕ) → List Span → Type 0
AreSpans h chunk bits spans = Each (IsKeptSpan h chunk bits) spans

-- an object elsewhere keeps its holder
elsewhere : (g h : ℕ → Option Holder) (n m at start bits : ℕ) (w : Option Holder) → IsUpdate g h (object_key m (4 * at)) w → bits ≤ 65536 → at < 65536 → start < 65536 → (n ≡ m → start ≢ at) → g (object_key n (4 * start)) ≡ h (object_key n (4 * start))
elsewhere g h n m at start bits w new few low low' apart =
    new (object_key n (4 * start)) ∙ off_key h (object_key m (4 * at)) (object_key n (4 * start)) w (λ same. clash same)
  where
    clash : 4294967296 * n + 4 * start ≡ 4294967296 * m + 4 * at → ⊥
    clash same = let number : n ≡ m = omega arith in apart number (omega arith)

span_elsewhere : (g h : ℕ → Option Holder) (n m at bits : ℕ) (w : Option Holder) (s : Span) → IsUpdate g h (object_key m (4 * at)) w → bits ≤ 65536 → at < 65536 → (n ≡ m → s.start ≢ at) → IsKeptSpan h n bits s → g (object_key n (4 * s.start)) ≡ h (object_key n (4 * s.start))
span_elsewhere g h n m at bits w s new few low apart kept =
    let some = kept.some in let within = kept.within in
    elsewhere g h n m at s.start bits w new few low (omega arith) apart

-- the objects of another chunk stay
pub other_chunk : (g h : ℕ → Option Holder) (n m at bits : ℕ) (w : Option Holder) (spans : List Span) → IsUpdate g h (object_key m (4 * at)) w → bits ≤ 65536 → at < 65536 → n ≢ m → AreSpans h n bits spans → objects_by g n spans ≡ objects_by h n spans
other_chunk g h n m at bits w spans new few low apart kept =
    same_objects g h n spans (each_map (IsKeptSpan h n bits) (λ (s : Span). g (object_key n (4 * s.start)) ≡ h (object_key n (4 * s.start))) spans (λ s k. span_elsewhere g h n m at bits w s new few low (λ same. absurd (apart same)) k) kept)

pub other_spans : (g h : ℕ → Option Holder) (n m at bits : ℕ) (w : Option Holder) (spans : List Span) → IsUpdate g h (object_key m (4 * at)) w → bits ≤ 65536 → at < 65536 → n ≢ m → AreSpans h n bits spans → AreSpans g n bits spans
other_spans g h n m at bits w spans new few low apart kept =
    each_map (IsKeptSpan h n bits) (IsKeptSpan g n bits) spans (λ s k. record {
      some = k.some;
      within = k.within;
      held = subst IsSome (sym (span_elsewhere g h n m at bits w s new few low (λ same. absurd (apart same)) k)) k.held;
    }) kept

-- A fit.

find_true : (p : ℕ → Bool) (xs : List ℕ) (x : ℕ) → find p xs ≡ Some x → p x ≡ true
find_true p [] x e = cc
find_true p (y ∷ ys) x e = elim (cases_Bool (p y)) [
  | inl here ↦ let same : Some y ≡ Some x = sym (ap (λ b. cond b (Some y) (find p ys)) here) ∙ e in let eq : y ≡ x = cc in ap p (sym eq) ∙ here
  | inr not_here ↦ find_true p ys x (sym (ap (λ b. cond b (Some y) (find p ys)) not_here) ∙ e)
]

and_right : (a b : Bool) → (a && b) ≡ true → b ≡ true
and_right true b e = e
and_right false b e = cc

some_equal : (a b : Bool) → Some a ≡ Some b → a ≡ b
some_equal a b e = cc

or_both : (a b : Bool) → (a || b) ≡ false → a ≡ false
or_both true b e = cc
or_both false b e = refl

fit_free : (spans : List Span) (bits n k at : ℕ) → 1 ≤ n → lowest (taken_by spans bits) n k ≡ Some at → (at + n ≤ bits) × (covers spans at ≡ false)
fit_free spans bits n k at some fit =
    let taken : List Bool = taken_by spans bits in
    let first : find (fits taken n k) (count_from (length taken) 0) ≡ Some at = sym (the_lowest_fits taken n k) ∙ fit in
    let free : AreFree taken at n = are_free taken at n some (and_right (at % k == 0) (begins_free n (drop at taken)) (find_true (fits taken n k) (count_from (length taken) 0) at first)) in
    let within = free.within in let long = length-tabulated (covers spans) bits 0 in
    ((omega arith), some_equal (covers spans at) false (sym (slice_get-tabulated (covers spans) bits at (omega arith)) ∙ free.free at (omega arith) (omega arith)))

pub fit_is_free : (atomic : Bool) (n k at : ℕ) (row : KeptRow) → 1 ≤ n → fit_in atomic n k row ≡ Some at → (at + n ≤ row.bits.bits) × (covers row.bits.objects at ≡ false)
fit_is_free true n k at row some fit =
    let more : List Span = map (λ page. span (1024 * page) 1024) (unpopulated_in row) in
    let free = fit_free (row.bits.objects ++ more) row.bits.bits n k at some fit in
    (free.0, or_both (covers row.bits.objects at) (covers more at) (sym (covers-append row.bits.objects more at) ∙ free.1))
fit_is_free false n k at row some fit = fit_free row.bits.objects row.bits.bits n k at some fit

pub none_starts : (spans : List Span) (at : ℕ) → Each (λ (s : Span). 1 ≤ s.pages) spans → covers spans at ≡ false → Each (λ (s : Span). s.start ≢ at) spans
none_starts [] at long free = tt
none_starts (s ∷ spans) at long free = elim (cases_eq s.start at) [
  | inl same ↦ absurd (let own = long.0 in let here : holds s at ≡ true = grind (arith, nat_tests) in let some : false ≡ true = sym free ∙ ap (λ b. b || covers spans at) here in cc)
  | inr apart ↦ (apart, none_starts spans at long.1 (let outside : holds s at ≡ false = or_both (holds s at) (covers spans at) free in sym (ap (λ b. b || covers spans at) outside) ∙ free))
]

each_both : {X : Type 0} (P Q : X → Type 0) (xs : List X) → Each P xs → Each Q xs → Each (λ x. P x × Q x) xs
each_both P Q [] e f = tt
each_both P Q (x ∷ xs) e f = ((e.0, f.0), each_both P Q xs e.1 f.1)

abbrev IsApart : ℕ → Span → Type 0
IsApart at s = s.start ≢ at

long_spans : (h : ℕ → Option Holder) (n bits : ℕ) (spans : List Span) → AreSpans h n bits spans → Each (λ (s : Span). 1 ≤ s.pages) spans
long_spans h n bits spans kept = each_map (IsKeptSpan h n bits) (λ (s : Span). 1 ≤ s.pages) spans (λ s k. k.some) kept

-- an object is placed
pub objects_placed : (g h : ℕ → Option Holder) (n at count bits caller : ℕ) (holder : Holder) (spans : List Span) → IsUpdate g h (object_key n (4 * at)) (Some holder) → holder.caller ≡ caller → holder.serial ≡ 0 → bits ≤ 65536 → at < 65536
    → AreSpans h n bits spans → covers spans at ≡ false
    → objects_by g n (put_by start_of (span at count) spans) ≡ put_by off_of (record { off = 4 * at; bytes = 4 * count; caller = caller; life = InHand caller }) (objects_by h n spans)
objects_placed g h n at count bits caller holder spans new who serial few low kept free =
    let apart : Each (IsApart at) spans = none_starts spans at (long_spans h n bits spans kept) free in
    put_mapped g n (span at count) spans
    ∙ ap (λ o. put_by off_of (object_with o (span at count)) (objects_by g n spans)) (new (object_key n (4 * at)) ∙ at_key h (object_key n (4 * at)) (Some holder))
    ∙ ap (λ b. put_by off_of (record { off = 4 * at; bytes = 4 * count; caller = holder.caller; life = if b then InHand holder.caller else Lives holder.serial }) (objects_by g n spans)) (let e : (holder.serial == 0) ≡ true = grind (arith, nat_tests) in e)
    ∙ ap (λ c. put_by off_of (record { off = 4 * at; bytes = 4 * count; caller = c; life = InHand c }) (objects_by g n spans)) who
    ∙ ap (put_by off_of (record { off = 4 * at; bytes = 4 * count; caller = caller; life = InHand caller }))
    (same_objects g h n spans (each_map (λ (s : Span). IsKeptSpan h n bits s × IsApart at s) (λ (s : Span). g (object_key n (4 * s.start)) ≡ h (object_key n (4 * s.start))) spans
    (λ s both. span_elsewhere g h n n at bits (Some holder) s new few low (λ same. both.1) both.0) (each_both (IsKeptSpan h n bits) (IsApart at) spans kept apart)))

pub spans_placed : (g h : ℕ → Option Holder) (n at count bits : ℕ) (holder : Holder) (spans : List Span) → IsUpdate g h (object_key n (4 * at)) (Some holder) → bits ≤ 65536 → at < 65536 → 1 ≤ count → at + count ≤ bits
    → AreSpans h n bits spans → covers spans at ≡ false → AreSpans g n bits (put_by start_of (span at count) spans)
spans_placed g h n at count bits holder spans new few low some within kept free =
    let apart : Each (IsApart at) spans = none_starts spans at (long_spans h n bits spans kept) free in
    each_put (IsKeptSpan g n bits) start_of (span at count) spans
    (record { some = some; within = within; held = subst IsSome (sym (new (object_key n (4 * at)) ∙ at_key h (object_key n (4 * at)) (Some holder))) is_there })
    (each_map (λ (s : Span). IsKeptSpan h n bits s × IsApart at s) (IsKeptSpan g n bits) spans
    (λ s both. record { some = both.0.some; within = both.0.within; held = subst IsSome (sym (span_elsewhere g h n n at bits (Some holder) s new few low (λ same. both.1) both.0)) both.0.held })
    (each_both (IsKeptSpan h n bits) (IsApart at) spans kept apart))
  where
    is_there : IsSome (Some holder)
    is_there = search rules

abbrev not_at : ℕ → Span → Bool
not_at at s = not (s.start == at)

abbrev not_off : ℕ → Object → Bool
not_off off o = not (o.off == off)

apart_of : (at : ℕ) (s : Span) → not_at at s ≡ true → s.start ≢ at
apart_of at s e same = let here : not_at at s ≡ false = grind (arith, nat_tests) in let clash : true ≡ false = sym e ∙ here in cc

filter_mapped : (h : ℕ → Option Holder) (n at : ℕ) (spans : List Span) → objects_by h n (filter (not_at at) spans) ≡ filter (not_off (4 * at)) (objects_by h n spans)
filter_mapped h n at [] = refl
filter_mapped h n at (s ∷ spans) = elim (cases_eq s.start at) [
  | inl same ↦ ap (objects_by h n) (drop_one start_of (not_at at) s spans (grind (arith, nat_tests))) ∙ filter_mapped h n at spans ∙ sym (drop_one off_of (not_off (4 * at)) (object_by h n s) (objects_by h n spans) (let e : 4 * s.start ≡ 4 * at = omega arith in grind (arith, nat_tests)))
  | inr apart ↦ ap (objects_by h n) (keep_one start_of (not_at at) s spans (grind (arith, nat_tests))) ∙ ap (λ os. object_by h n s ∷ os) (filter_mapped h n at spans)
      ∙ sym (keep_one off_of (not_off (4 * at)) (object_by h n s) (objects_by h n spans) (let e : 4 * s.start ≢ 4 * at = (λ x. apart (omega arith)) in grind (arith, nat_tests)))
]

-- an object is gone
pub objects_freed : (g h : ℕ → Option Holder) (n at bits : ℕ) (spans : List Span) → IsUpdate g h (object_key n (4 * at)) None → bits ≤ 65536 → at < 65536 → AreSpans h n bits spans
    → objects_by g n (filter (not_at at) spans) ≡ filter (not_off (4 * at)) (objects_by h n spans)
objects_freed g h n at bits spans new few low kept =
    same_objects g h n (filter (not_at at) spans)
    (each_filter (IsKeptSpan h n bits) (λ (s : Span). g (object_key n (4 * s.start)) ≡ h (object_key n (4 * s.start))) (not_at at) spans (λ s keeps k. span_elsewhere g h n n at bits None s new few low (λ same. apart_of at s keeps) k) kept)
    ∙ filter_mapped h n at spans

pub spans_freed : (g h : ℕ → Option Holder) (n at bits : ℕ) (spans : List Span) → IsUpdate g h (object_key n (4 * at)) None → bits ≤ 65536 → at < 65536 → AreSpans h n bits spans → AreSpans g n bits (filter (not_at at) spans)
spans_freed g h n at bits spans new few low kept =
    each_filter (IsKeptSpan h n bits) (IsKeptSpan g n bits) (not_at at) spans (λ s keeps k. record { some = k.some; within = k.within; held = subst IsSome (sym (span_elsewhere g h n n at bits None s new few low (λ same. apart_of at s keeps) k)) k.held }) kept

abbrev live_at : (off : ℕ) → Life → Object → Object
live_at off life o = if o.off == off then record o { life = life } else o

abbrev made : Span → (caller own : ℕ) (b : Bool) → Object
made s caller own b = record { off = 4 * s.start; bytes = 4 * s.pages; caller = caller; life = if b then InHand caller else Lives own }

-- an object gets its serial
pub objects_settled : (g h : ℕ → Option Holder) (n at bits serial : ℕ) (old new : Holder) (spans : List Span) → IsUpdate g h (object_key n (4 * at)) (Some new) → h (object_key n (4 * at)) ≡ Some old → new.caller ≡ old.caller → new.serial ≡ serial → 1 ≤ serial
    → bits ≤ 65536 → at < 65536 → AreSpans h n bits spans → objects_by g n spans ≡ map (live_at (4 * at) (Lives serial)) (objects_by h n spans)
objects_settled g h n at bits serial old new [] changed had who which some few low kept = refl
objects_settled g h n at bits serial old new (s ∷ spans) changed had who which some few low kept =
    ap (λ os. object_by g n s ∷ os) (objects_settled g h n at bits serial old new spans changed had who which some few low kept.1)
    ∙ ap (λ o. o ∷ map (live_at (4 * at) (Lives serial)) (objects_by h n spans)) here
  where
    here : object_by g n s ≡ live_at (4 * at) (Lives serial) (object_by h n s)
    here = elim (cases_eq s.start at) [
      | inl same ↦
          let at_it : (4 * s.start == 4 * at) ≡ true = let e : 4 * s.start ≡ 4 * at = omega arith in grind (arith, nat_tests) in
          let key : object_key n (4 * s.start) ≡ object_key n (4 * at) = ap (λ p. object_key n (4 * p)) same in
          ap (λ holder. object_with holder s) (ap g key ∙ changed (object_key n (4 * at)) ∙ at_key h (object_key n (4 * at)) (Some new))
          ∙ ap (made s new.caller new.serial) (let e : (new.serial == 0) ≡ false = grind (arith, nat_tests) in e)
          ∙ ap (λ c. made s c new.serial false) who ∙ ap (λ own. made s old.caller own false) which
          ∙ ap (λ holder. record (object_with holder s) { life = Lives serial }) (sym (ap h key ∙ had))
          ∙ ap (λ b. if b then record (object_by h n s) { life = Lives serial } else object_by h n s) (sym at_it)
      | inr apart ↦
          let not_it : (4 * s.start == 4 * at) ≡ false = let e : 4 * s.start ≢ 4 * at = (λ x. apart (omega arith)) in grind (arith, nat_tests) in
          ap (λ holder. object_with holder s) (span_elsewhere g h n n at bits (Some new) s changed few low (λ same. apart) kept.0)
          ∙ ap (λ b. if b then record (object_by h n s) { life = Lives serial } else object_by h n s) (sym not_it)
    ]

pub spans_settled : (g h : ℕ → Option Holder) (n at bits : ℕ) (new : Holder) (spans : List Span) → IsUpdate g h (object_key n (4 * at)) (Some new) → AreSpans h n bits spans → AreSpans g n bits spans
spans_settled g h n at bits new spans changed kept = each_map (IsKeptSpan h n bits) (IsKeptSpan g n bits) spans (λ s k. record { some = k.some; within = k.within; held = still s k.held }) kept
  where
    is_there : IsSome (Some new)
    is_there = search rules

    still_by : (k q : ℕ) → (k ≡ q → ⊥) ⊎ (k ≡ q) → IsSome (h q) → IsSome (update nat_eq h k (Some new) q)
    still_by k q (inl apart) there = subst IsSome (sym (off_key h k q (Some new) (λ e. apart (sym e)))) there
    still_by k q (inr same) there = subst IsSome (sym (ap (λ x. update nat_eq h k (Some new) x) (sym same) ∙ at_key h k (Some new))) is_there

    decide : (k q : ℕ) → (k ≡ q → ⊥) ⊎ (k ≡ q)
    decide k q = elim (cases_eq k q) [ inl same ↦ inr same | inr apart ↦ inl apart ]

    still : (s : Span) → IsSome (h (object_key n (4 * s.start))) → IsSome (g (object_key n (4 * s.start)))
    still s there = subst IsSome (sym (changed (object_key n (4 * s.start)))) (still_by (object_key n (4 * at)) (object_key n (4 * s.start)) (decide (object_key n (4 * at)) (object_key n (4 * s.start))) there)
