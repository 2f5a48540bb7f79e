-- Free runs that come about where bits are freed.
use Rattle.std.specs.Prelude.{◌≡◌, ℕ, ◌-◌, ◌<◌, ◌≤◌, min, max, nat_lt, ◌==◌, ◌||◌, ◌&&◌, if◌then◌else◌, Bool, true, false, List}
use Rattle.vm_model.specs.declared.rows.Hint.{Hint}
use Rattle.vm_model.specs.Space.{span, holds, paint, is_free_at}
use Rattle.vm_model.specs.Hints.{IsHintIn}
use Rattle.block_hints.specs.declared.block_scan.Block.{Block}
use Rattle.block_hints.specs.KeptHints.{AreHints}

-- the free run between two places in which some places lie: it ends where a place is taken
pub record IsRunAround (bits : List Bool) (low high at end start stop : ℕ) : Type 0 where
  pub after : low ≤ start
  pub before : start ≤ at
  pub behind : end ≤ stop
  pub within : stop ≤ high
  pub free : (place : ℕ) → start ≤ place → place < stop → is_free_at bits place ≡ true
  pub left : low < start → is_free_at bits (start - 1) ≡ false
  pub right : stop < high → is_free_at bits stop ≡ false

-- a run that takes the place of the longest one: it is longer, or as long and further left
abbrev pub is_longer : (start count : ℕ) → Hint → Bool
is_longer start count h = nat_lt h.run count || (count == h.run && nat_lt start h.run_start)

-- the hint of so many bits once those from a place on are free, and the run in which they lie
abbrev pub hint_with_run : (bits at start stop : ℕ) → Hint → Hint
hint_with_run bits at start stop h = record {
  run_start = if is_longer start (stop - start) h then start else h.run_start;
  run = max (stop - start) h.run;
  left = if start == 0 then stop - start else h.left;
  right = if stop == bits then stop - start else h.right;
  first = min h.first at;
}

-- how long the runs before the longest one are at most then
abbrev pub before_with_run : (start stop : ℕ) → Block → ℕ
before_with_run start stop b =
    if is_longer start (stop - start) b.hint then (if nat_lt b.hint.run_start start then b.hint.run else b.before) else (if nat_lt start b.hint.run_start then max (stop - start) b.before else b.before)

-- and those behind it
abbrev pub behind_with_run : (start stop : ℕ) → Block → ℕ
behind_with_run start stop b =
    if is_longer start (stop - start) b.hint then (if nat_lt stop b.hint.run_start then b.hint.run else b.behind) else (if nat_lt start b.hint.run_start then b.behind else max (stop - start) b.behind)

-- what is kept of so many bits then
abbrev pub block_with : (bits at start stop : ℕ) → Block → Block
block_with bits at start stop b = record { hint = hint_with_run bits at start stop b.hint; before = before_with_run start stop b; behind = behind_with_run start stop b }

-- before so many places were freed these were the hints of the blocks and of all so many bits
pub record AreHintsBefore (now : List Bool) (bits : ℕ) (blocks : List Block) (chunk : Hint) (at count : ℕ) : Type 0 where
  pub old : List Bool
  pub freed : now ≡ paint (holds (span at count)) false old
  pub kept : AreHints old blocks
  pub whole : IsHintIn old 0 bits chunk
