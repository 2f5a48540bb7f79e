-- What holds of the words between any two steps.
use Rattle.std.specs.Prelude.{◌≡◌, ◌≢◌, ℕ, zero, suc, ◌+◌, ◌*◌, ◌-◌, ◌%◌, ◌^◌, ◌<◌, ◌≤◌, true, false, List, [], ◌∷◌, ◌++◌, length, slice_index, slice_set, replicate, Option, Some, None, ◌==◌, if◌then◌else◌, FitsSigned}
use Rattle.std.specs.Int.{cast_unsigned, w32, w64}
use mathlib.Core.Option.{some}
use lib.ListN.{get_elem?}
use Rattle.atomic_table.specs.Table.{State}
use Rattle.vm_model.specs.declared.calls.CountLine.{CountLine}
use Rattle.percpu_counters.specs.declared.table.Shape.{Shape}
use Rattle.percpu_counters.specs.declared.table.Tally.{Tally}

-- f of each, added up
abbrev pub sum_over : {V : Type 0} → (V → ℕ) → List V → ℕ
sum_over f [] = 0
sum_over f (v ∷ vs) = f v + sum_over f vs

-- the n words from i on, added up
abbrev pub row_sum : List ℕ → ℕ → ℕ → ℕ
row_sum words i zero = 0
row_sum words i (suc n) = slice_index words i + row_sum words (i + 1) n

-- where the words of a counter begin, and the cell of a processor
abbrev pub row_of : Shape → (counter : ℕ) → ℕ
row_of s counter = counter * (s.cpus + 1)

abbrev pub cell_of : Shape → (counter cpu : ℕ) → ℕ
cell_of s counter cpu = counter * (s.cpus + 1) + 1 + cpu

abbrev pub word_count : Shape → ℕ
word_count s = s.counters * (s.cpus + 1) + 1

-- an amount as it is added to a word
abbrev pub bits_of : CountLine → ℕ
bits_of a = cast_unsigned w64 a.amount

-- what a counter was given by an add, by a pass, and what of it is in a pass's hand
abbrev pub given_to : ℕ → CountLine → ℕ
given_to k a = if a.counter == k then bits_of a else 0

abbrev pub recorded : ℕ → Tally → ℕ
recorded k v = sum_over (given_to k) v.adds

abbrev pub hand_to : ℕ → Option (ℕ × ℕ) → ℕ
hand_to k (Some (c, x)) = if c == k then x else 0
hand_to k None = 0

abbrev pub in_hand : ℕ → Tally → ℕ
in_hand k v = hand_to k v.hand

-- the first pass: nothing was added, and it may make all adds
abbrev pub starting : Shape → Tally
starting s = record { adds = []; room = s.adds; alone = true; hand = None; words = replicate (word_count s) 0 }

-- the same up to a multiple of 2 ^ 64
abbrev pub IsAlike : ℕ → ℕ → Type 0
IsAlike a b = (p q : ℕ) × (a + 18446744073709551616 * p ≡ b + 18446744073709551616 * q)

-- each amount is a signed number of 32 bits
abbrev pub AmountsFit : List CountLine → Type 0
AmountsFit [] = Unit {0}
AmountsFit (a ∷ adds) = FitsSigned w32 a.amount × AmountsFit adds

-- it added nothing, and may add nothing
pub record IsIdle (v : Tally) : Type 0 where
  pub adds : v.adds ≡ []
  pub room : v.room ≡ 0

-- a pass that is alone knows the words, and all others are idle
pub record IsAlone (t : State (Unit {0}) Tally) (j : ℕ) (v : Tally) : Type 0 where
  pub words : t.words ≡ v.words
  pub others : (i : ℕ) (w : Tally) → get_elem? t.views i ≡ some w → i ≢ j → IsIdle w

pub record Kept (s : Shape) (t : State (Unit {0}) Tally) : Type 0 where
  pub wide : length t.words ≡ word_count s
  pub sums : (k : ℕ) → k < s.counters → IsAlike (row_sum t.words (row_of s k) (s.cpus + 1) + sum_over (in_hand k) t.views) (sum_over (recorded k) t.views)
  pub rooms : sum_over (λ (v : Tally). length v.adds + v.room) t.views ≡ s.adds
  pub few : s.adds ≤ 100000
  pub hands : (j : ℕ) (v : Tally) → get_elem? t.views j ≡ some v → v.adds ≡ [] → v.hand ≡ None
  pub small : (j : ℕ) (v : Tally) → get_elem? t.views j ≡ some v → AmountsFit v.adds
  pub alone : (j : ℕ) (v : Tally) → get_elem? t.views j ≡ some v → v.alone ≡ true → IsAlone t j v

-- a pass that is alone finds the word that it knows
abbrev pub IsFound : Tally → (word found : ℕ) → Type 0
IsFound v word found = v.alone ≡ true → found ≡ slice_index v.words word

-- after an add to a cell that had so much
abbrev pub put_at : (word found : ℕ) → CountLine → Tally → Tally
put_at word found a v = record v { adds = v.adds ++ a ∷ []; room = v.room - 1; words = slice_set v.words word ((found + bits_of a) % 2 ^ 64) }

-- after all was taken out of a cell
abbrev pub lifted_at : (word found counter : ℕ) → Tally → Tally
lifted_at word found counter v = record v { hand = Some (counter, found); words = slice_set v.words word 0 }

-- after it went into the count
abbrev pub amount_in : Option (ℕ × ℕ) → ℕ
amount_in (Some (c, x)) = x
amount_in None = 0

abbrev pub settled_at : (word found : ℕ) → Tally → Tally
settled_at word found v = record v { hand = None; words = slice_set v.words word ((found + amount_in v.hand) % 2 ^ 64) }

-- a pass that gave room to another, and the other
abbrev pub with_less : (room : ℕ) → Tally → Tally
with_less room v = record v { room = v.room - room; alone = false; words = [] }

abbrev pub with_room : (room : ℕ) → Tally
with_room room = record { adds = []; room = room; alone = false; hand = None; words = [] }

-- a pass with what another added, and with its room
abbrev pub with_both : Tally → Tally → Tally
with_both v w = record { adds = v.adds ++ w.adds; room = v.room + w.room; alone = false; hand = None; words = [] }

-- what a look at all tells: how many adds a pass made and may make
abbrev pub IsFew : Tally → Type 0
IsFew v = length v.adds + v.room ≤ 100000
