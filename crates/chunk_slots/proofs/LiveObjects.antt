-- The live objects of a chunk from a bit on, and what is found among them.
use Rattle.std.proofs.Common.{◌≡◌, ◌≢◌, ℕ, zero, suc, ◌+◌, ◌-◌, ◌*◌, ◌<◌, ◌≤◌, Bool, true, false, cond, if◌then◌else◌, ◌==◌, nat_le, List, [], ◌∷◌, ◌++◌, length, map, filter, flat_map, drop, get_or, slice_get, Option, Some, None, sum_by, refl, ap, sym, ◌∙◌, arith}
use Rattle.std.proofs.lemmas.Bool.Decides.{nat_tests}
use Rattle.std.proofs.lemmas.List.Sums.{sum_by-cons}
use Rattle.vm_model.specs.declared.areas.Span.{Span}
use Rattle.vm_model.specs.declared.rows.ObjectRow.{ObjectRow}
use Rattle.vm_model.specs.PlainMap.{Object, InHand, Lives, is_live, serial_of}
use Rattle.vm_model.specs.Tables.{object_row, object_rows}
use Rattle.chunk_bitmaps.specs.ChunkMap.{objects_from}
use Rattle.chunk_slots.specs.declared.holders.Holder.{Holder}
use Rattle.chunk_slots.specs.declared.object_rows.Sought.{Sought}
use Rattle.chunk_slots.specs.declared.object_rows.Sought.TheVariants.{Found, Past}
use Rattle.chunk_slots.specs.KeptObjects.{object_key, objects_by, life_by, caller_by}
use Rattle.chunk_slots.specs.KeptChunks.{KeptRow}
use Rattle.chunk_slots.specs.KeptChunkSides.{chunk_in, chunks_in}
use Rattle.chunk_slots.specs.LiveObjectRows.{live_with, live_of, live_rows, seek}
use Rattle.chunk_slots.proofs.SlotLists.{keep_one}

abbrev lives : Object → Bool
lives o = is_live o.life

-- the live objects among these
abbrev pub live_among : (ℕ → Option Holder) → KeptRow → List Span → List ObjectRow
live_among h row spans = map (object_row (chunk_in h row)) (filter lives (objects_by h row.number spans))

or_nothing : Option ObjectRow → List ObjectRow → List ObjectRow
or_nothing None rows = rows
or_nothing (Some row) rows = row ∷ rows

row_made : (chunk : ℕ) → Span → Option Holder → Object
row_made chunk s holder = record { off = 4 * s.start; bytes = 4 * s.pages; caller = caller_by holder; life = life_by holder }

abbrev told : ℕ → Object → ObjectRow
told chunk o = record { chunk = chunk; off = o.off; bytes = o.bytes; caller = o.caller; serial = serial_of o.life }

one_more_by : (chunk : ℕ) (s : Span) (holder : Option Holder) (rest : List Object)
    → map (told chunk) (cond (is_live (life_by holder)) (row_made chunk s holder ∷ rest) rest) ≡ or_nothing (live_with chunk s holder) (map (told chunk) rest)
unfolding or_nothing row_made
one_more_by chunk s None rest = refl
one_more_by chunk s (Some holder) rest = by (holder.serial == 0)
  where
    by : (b : Bool)
        → map (told chunk) (cond (is_live (if b then InHand holder.caller else Lives holder.serial)) (record { off = 4 * s.start; bytes = 4 * s.pages; caller = holder.caller; life = if b then InHand holder.caller else Lives holder.serial } ∷ rest) rest)
        ≡ or_nothing (if b then None else Some (record { chunk = chunk; off = 4 * s.start; bytes = 4 * s.pages; caller = holder.caller; serial = holder.serial })) (map (told chunk) rest)
    by true = refl
    by false = refl

one_more : (h : ℕ → Option Holder) (row : KeptRow) (s : Span) (spans : List Span) → live_among h row (s ∷ spans) ≡ or_nothing (live_of h row.number s) (live_among h row spans)
unfolding row_made
one_more h row s spans = one_more_by row.number s (h (object_key row.number (4 * s.start))) (filter lives (objects_by h row.number spans))

pub live_none : (h : ℕ → Option Holder) (row : KeptRow) (s : Span) (spans : List Span) → live_of h row.number s ≡ None → live_among h row (s ∷ spans) ≡ live_among h row spans
unfolding or_nothing
live_none h row s spans e = one_more h row s spans ∙ ap (λ o. or_nothing o (live_among h row spans)) e

pub live_some : (h : ℕ → Option Holder) (row : KeptRow) (s : Span) (spans : List Span) (r : ObjectRow) → live_of h row.number s ≡ Some r → live_among h row (s ∷ spans) ≡ r ∷ live_among h row spans
unfolding or_nothing
live_some h row s spans r e = one_more h row s spans ∙ ap (λ o. or_nothing o (live_among h row spans)) e

all_from_first : (spans : List Span) → filter (λ (s : Span). nat_le 0 s.start) spans ≡ spans
all_from_first [] = refl
all_from_first (s ∷ spans) = keep_one (λ (t : Span). t.start) (λ (t : Span). nat_le 0 t.start) s spans (grind (arith, nat_tests)) ∙ ap (λ ss. s ∷ ss) (all_from_first spans)

pub live_from_first : (h : ℕ → Option Holder) (row : KeptRow) → live_among h row (objects_from 0 row.bits) ≡ live_rows h row
live_from_first h row = ap (live_among h row) (all_from_first row.bits.objects)

-- What is sought.

pub then_seek : List ObjectRow → Sought → Sought
then_seek rows (Found row) = Found row
then_seek rows (Past left) = seek rows left

pub seek_append : (xs ys : List ObjectRow) (skip : ℕ) → seek (xs ++ ys) skip ≡ then_seek ys (seek xs skip)
unfolding then_seek
seek_append [] ys skip = refl
seek_append (x ∷ xs) ys zero = refl
seek_append (x ∷ xs) ys (suc skip) = seek_append xs ys skip

pub seek_found : (xs ys : List ObjectRow) (skip : ℕ) (row : ObjectRow) → seek xs skip ≡ Found row → seek (xs ++ ys) skip ≡ Found row
unfolding then_seek
seek_found xs ys skip row e = seek_append xs ys skip ∙ ap (then_seek ys) e

pub seek_on : (xs ys : List ObjectRow) (skip left : ℕ) → seek xs skip ≡ Past left → seek (xs ++ ys) skip ≡ seek ys left
unfolding then_seek
seek_on xs ys skip left e = seek_append xs ys skip ∙ ap (then_seek ys) e

pub seek_past : (xs : List ObjectRow) (skip : ℕ) → length xs ≤ skip → seek xs skip ≡ Past (skip - length xs)
seek_past [] skip h = ap Past (omega arith)
seek_past (x ∷ xs) zero h = absurd (omega arith)
seek_past (x ∷ xs) (suc skip) h = seek_past xs skip (omega arith) ∙ ap Past (omega arith)

pub seek_get : (xs : List ObjectRow) (skip : ℕ) (row : ObjectRow) → seek xs skip ≡ Found row → slice_get xs skip ≡ Some row
seek_get [] skip row e = cc
seek_get (x ∷ xs) zero row e = ap Some (let same : Found x ≡ Found row = e in cc)
seek_get (x ∷ xs) (suc skip) row e = seek_get xs skip row e

pub seek_within : (xs : List ObjectRow) (skip left : ℕ) → skip < length xs → seek xs skip ≡ Past left → ⊥
seek_within [] skip left h e = absurd (omega arith)
seek_within (x ∷ xs) zero left h e = cc
seek_within (x ∷ xs) (suc skip) left h e = seek_within xs skip left (omega arith) e

-- one object more
pub seek_this : (rows : List ObjectRow) (all : List ObjectRow) (r : ObjectRow) (skip left : ℕ) → seek all skip ≡ seek (r ∷ rows) left → left ≡ 0 → seek all skip ≡ Found r
seek_this rows all r skip left e none = e ∙ ap (seek (r ∷ rows)) none

pub seek_next : (rows : List ObjectRow) (all : List ObjectRow) (r : ObjectRow) (skip left : ℕ) → seek all skip ≡ seek (r ∷ rows) left → left ≢ 0 → seek all skip ≡ seek rows (left - 1)
seek_next rows all r skip zero e some = absurd (some refl)
seek_next rows all r skip (suc left) e some = e ∙ (let same : left ≡ suc left - 1 = omega arith in ap (seek rows) same)

-- Few objects live.

few_live_by : (o : Option ObjectRow) (rows : List ObjectRow) → length (or_nothing o rows) ≤ suc (length rows)
unfolding or_nothing
few_live_by None rows = omega arith
few_live_by (Some row) rows = omega arith

few_live : (h : ℕ → Option Holder) (row : KeptRow) (spans : List Span) → length (live_among h row spans) ≤ length spans
few_live h row [] = omega arith
few_live h row (s ∷ spans) = omega (arith, ap length (one_more h row s spans), few_live_by (live_of h row.number s) (live_among h row spans), few_live h row spans)

length_both : (xs ys : List ObjectRow) → length (xs ++ ys) ≡ length xs + length ys
length_both [] ys = omega arith
length_both (x ∷ xs) ys = omega (arith, length_both xs ys)

pub table_few : (h : ℕ → Option Holder) (rows : List KeptRow) → length (flat_map object_rows (chunks_in h rows)) ≤ sum_by (λ (row : KeptRow). length row.bits.objects) rows
table_few h [] = omega arith
table_few h (row ∷ rows) =
    omega (arith, length_both (live_rows h row) (flat_map object_rows (chunks_in h rows)), few_live h row row.bits.objects, sum_by-cons (λ (r : KeptRow). length r.bits.objects) row rows, table_few h rows)

pub rest_of_rows : (h : ℕ → Option Holder) (rows : List KeptRow) (i : ℕ) (row : KeptRow) → i < length rows → row ≡ get_or rows i row
    → flat_map object_rows (chunks_in h (drop i rows)) ≡ live_rows h row ++ flat_map object_rows (chunks_in h (drop (i + 1) rows))
rest_of_rows h rows i row low is = ap (λ rs. flat_map object_rows (chunks_in h rs)) (next rows i low is ∙ (let one : suc i ≡ i + 1 = omega arith in ap (λ n. row ∷ drop n rows) one))
  where
    next : (xs : List KeptRow) (j : ℕ) → j < length xs → row ≡ get_or xs j row → drop j xs ≡ row ∷ drop (suc j) xs
    next [] j low' is' = absurd (omega arith)
    next (x ∷ xs) zero low' is' = ap (λ r. r ∷ xs) (sym is')
    next (x ∷ xs) (suc j) low' is' = next xs j (omega arith) is'
