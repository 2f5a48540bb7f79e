-- Words that are added up unit by unit.
use Rattle.std.proofs.Common.{◌≡◌, ℕ, zero, suc, ◌+◌, ◌*◌, ◌<◌, List, [], ◌∷◌, length, take, get_or, Some, pos, ◌+ℤ◌, ap, ◌∙◌, arith}
use Rattle.std.proofs.lemmas.Int.{ints}
use Rattle.vm_model.specs.Frames.{cell_of, read_cell, word_at}
use Rattle.page_pool.specs.PageMap.{Pages}
use Rattle.page_pool.specs.Units.{bytes_at, sum_of}

-- the word of one more unit
pub sum_more : (p : Pages) (base : ℕ) (units : List ℕ) (off index cell : ℕ) → index < length units → cell_of p.frames (4096 * (base + get_or units index 0) + off) ≡ Some cell
    → sum_of p (bytes_at base (take (index + 1) units) off) ≡ sum_of p (bytes_at base (take index units) off) +ℤ get_or p.cells cell (pos 0)
sum_more p base [] off index cell within at = absurd (omega arith)
sum_more p base (unit ∷ units) off zero cell within at =
    let word : word_at p.frames p.cells (4096 * (base + unit) + off) ≡ get_or p.cells cell (pos 0) = ap (read_cell p.cells) at in
    omega (arith, ints)
sum_more p base (unit ∷ units) off (suc index) cell within at =
    let more = sum_more p base units off index cell (omega arith) at in
    ap (λ n. sum_of p (bytes_at base (take n (unit ∷ units)) off)) (let e : suc index + 1 ≡ suc (index + 1) = omega arith in e)
    ∙ (let e : word_at p.frames p.cells (4096 * (base + unit) + off) +ℤ sum_of p (bytes_at base (take (index + 1) units) off)
    ≡ (word_at p.frames p.cells (4096 * (base + unit) + off) +ℤ sum_of p (bytes_at base (take index units) off)) +ℤ get_or p.cells cell (pos 0) = omega (arith, ints) in e)
