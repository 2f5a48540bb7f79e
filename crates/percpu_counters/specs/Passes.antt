-- What a pass added, and what the words are while it is alone.
use Rattle.std.specs.Prelude.{◌≡◌, ℕ, ◌+◌, ◌*◌, ◌-◌, ◌<◌, ◌≤◌, Bool, true, List, [], ◌∷◌, ◌++◌, length, slice_index, slice_index_or, None, ℤ, pos, nat_abs}
use Rattle.std.specs.Int.{cast_signed, w64}
use Rattle.atomic_table.specs.Table.{Me}
use Rattle.vm_model.specs.declared.calls.CountLine.{CountLine}
use Rattle.report_text.specs.CounterTotals.{Cells, lines_of, no_amounts, after_lines}
use Rattle.percpu_counters.specs.declared.table.Shape.{Shape}
use Rattle.percpu_counters.specs.declared.table.Tally.{Tally}
use Rattle.percpu_counters.specs.declared.counters.Counters.{Counters}
use Rattle.percpu_counters.specs.declared.counters.CountPass.{CountPass}
use Rattle.percpu_counters.specs.CounterRule.{row_of, cell_of}

-- the numbers of the start
abbrev pub shape_of : Counters → Shape
shape_of c = c.shape

-- what a pass added, how many more adds it may make, and whether no other may make any
abbrev pub adds_of : CountPass → List CountLine
adds_of p = p.place.me.0.adds

abbrev pub spare_of : CountPass → ℕ
spare_of p = p.spare

abbrev pub is_alone : CountPass → Bool
is_alone p = p.place.me.0.alone

-- an add, as a line of no caller
abbrev pub line_of : (counter cpu : ℕ) → ℤ → CountLine
line_of counter cpu amount = record { caller = 0; after = 0; counter = counter; cpu = cpu; amount = amount }

-- a counter's count and cells after these adds, by one pass in their order
abbrev pub cells_after : Shape → (counter : ℕ) → List CountLine → Cells
cells_after s counter adds = after_lines s.batch (no_amounts s.cpus) (lines_of counter adds)

-- the words of a counter are these, and they are small
pub record IsRowOf (s : Shape) (counter : ℕ) (words : List ℕ) (most : ℕ) (c : Cells) : Type 0 where
  pub count : cast_signed w64 (slice_index words (row_of s counter)) ≡ c.count
  pub cells : (cpu : ℕ) → cpu < s.cpus → cast_signed w64 (slice_index words (cell_of s counter cpu)) ≡ slice_index_or c.cells cpu (pos 0)
  pub wide : length c.cells ≡ s.cpus
  pub small_count : nat_abs c.count ≤ 8589934592 * most
  pub small_cells : (cpu : ℕ) → nat_abs (slice_index_or c.cells cpu (pos 0)) ≤ 4294967296

-- the words are what one pass over the adds makes them
abbrev pub AreExact : Shape → List CountLine → List ℕ → Type 0
AreExact s adds words = (counter : ℕ) → counter < s.counters → IsRowOf s counter words (length adds) (cells_after s counter adds)

-- a pass of these counters
pub record IsPassOf (c : Counters) (p : CountPass) : Type 0 where
  pub table : p.place.table_id ≡ c.table.shared.table_id
  pub few : is_alone p ≡ true → length (adds_of p) + spare_of p ≤ 100000
  pub exact : is_alone p ≡ true → (length p.place.me.0.words ≡ c.table.shared.table_id.words) × AreExact (shape_of c) (adds_of p) p.place.me.0.words

-- the first pass: it is alone, and may make all adds
pub record IsStarted (s : Shape) (c : Counters) (p : CountPass) : Type 0 where
  pub shape : shape_of c ≡ s
  pub pass : IsPassOf c p
  pub adds : adds_of p ≡ []
  pub spare : spare_of p ≡ s.adds
  pub alone : is_alone p ≡ true

-- a view after an add and its fold
pub record HasAdded (s : Shape) (a : CountLine) (old new : Me (Unit {0}) Tally) : Type 0 where
  pub adds : new.0.adds ≡ old.0.adds ++ a ∷ []
  pub room : new.0.room ≡ old.0.room - 1
  pub alone : new.0.alone ≡ old.0.alone
  pub hand : new.0.hand ≡ None
  pub slots : new.1 ≡ old.1
  pub exact : old.0.alone ≡ true → length old.0.adds < 100000 → length old.0.words ≡ s.counters * (s.cpus + 1) + 1 → AreExact s old.0.adds old.0.words
      → (length new.0.words ≡ length old.0.words) × AreExact s new.0.adds new.0.words
