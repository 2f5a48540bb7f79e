-- The count and the cells hold the total.
use Rattle.std.proofs.Common.{◌≡◌, ◌∙◌, ℕ, zero, suc, ◌<◌, Bool, true, false, List, [], ◌∷◌, length, slice_set, slice_index_or, replicate, refl, arith, if◌then◌else◌, nat_le}
use Rattle.std.specs.Prelude.{ℤ, pos, ◌+ℤ◌, nat_abs}
use Rattle.std.proofs.lemmas.Int.{ints}
use Rattle.std.proofs.Math.ListN.{length-set, length-replicate}
use Rattle.vm_model.specs.declared.calls.CountLine.{CountLine}
use Rattle.report_text.specs.CounterTotals.{Cells, sum_of, held, placed, added, after_lines, total, no_amounts, AreInRange, HoldTotal}

sum_of-set : (zs : List ℤ) (i : ℕ) (z : ℤ) → i < length zs → sum_of (slice_set zs i z) +ℤ slice_index_or zs i (pos 0) ≡ sum_of zs +ℤ z
sum_of-set [] i z l = absurd (omega arith)
sum_of-set (y ∷ zs) zero z l = omega (arith, ints)
sum_of-set (y ∷ zs) (suc i) z l = let more = sum_of-set zs i z (omega arith) in omega (arith, ints)

held-placed : (batch cpu : ℕ) (amount : ℤ) (c : Cells) → cpu < length c.cells → held (placed batch cpu (slice_index_or c.cells cpu (pos 0) +ℤ amount) c) ≡ held c +ℤ amount
held-placed batch cpu amount c l = by_test (nat_le batch (nat_abs (slice_index_or c.cells cpu (pos 0) +ℤ amount)))
  where
    by_test : (b : Bool) → held (if b then record { count = c.count +ℤ (slice_index_or c.cells cpu (pos 0) +ℤ amount); cells = slice_set c.cells cpu (pos 0) } else record c { cells = slice_set c.cells cpu (slice_index_or c.cells cpu (pos 0) +ℤ amount) }) ≡ held c +ℤ amount
    by_test true = let more = sum_of-set c.cells cpu (pos 0) l in omega (arith, ints)
    by_test false = let more = sum_of-set c.cells cpu (slice_index_or c.cells cpu (pos 0) +ℤ amount) l in omega (arith, ints)

length-placed : (batch cpu : ℕ) (value : ℤ) (c : Cells) → length (placed batch cpu value c).cells ≡ length c.cells
length-placed batch cpu value c = by_test (nat_le batch (nat_abs value))
  where
    by_test : (b : Bool) → length (if b then record { count = c.count +ℤ value; cells = slice_set c.cells cpu (pos 0) } else record c { cells = slice_set c.cells cpu value }).cells ≡ length c.cells
    by_test true = length-set c.cells cpu (pos 0)
    by_test false = length-set c.cells cpu value

held-after_lines : (cpus batch : ℕ) (c : Cells) (lines : List CountLine) → length c.cells ≡ cpus → AreInRange cpus lines → held (after_lines batch c lines) ≡ held c +ℤ total lines
held-after_lines cpus batch c [] size ranges = omega (arith, ints)
held-after_lines cpus batch c (l ∷ lines) size (here, ranges) =
    let rest = held-after_lines cpus batch (added batch c l) lines (length-placed batch l.cpu (slice_index_or c.cells l.cpu (pos 0) +ℤ l.amount) c ∙ size) ranges in
    let one = held-placed batch l.cpu l.amount c (omega arith) in
    omega (arith, ints)

sum_of-none : (n : ℕ) → sum_of (replicate n (pos 0)) ≡ pos 0
sum_of-none zero = refl
sum_of-none (suc n) = let more = sum_of-none n in omega (arith, ints)

pub hold_total : HoldTotal
hold_total cpus batch lines ranges =
    let all = held-after_lines cpus batch (no_amounts cpus) lines (length-replicate cpus (pos 0)) ranges in
    let none = sum_of-none cpus in
    omega (arith, ints)
