-- Hints of the blocks of a chunk.
use Rattle.std.proofs.Common.{◌≡◌, ℕ, ◌+◌, ◌-◌, ◌*◌, ◌<◌, ◌≤◌, Bool, List, length, get_or, sym, subst, arith}
use Rattle.std.proofs.lemmas.Option.{slice_get-get_or}
use Rattle.vm_model.specs.declared.rows.Hint.{Hint}
use Rattle.vm_model.specs.Hints.{IsHintIn}
use Rattle.block_hints.specs.declared.block_scan.Block.{Block}
use Rattle.block_hints.specs.KeptHints.{AreHints, IsBlockIn, joined_hint}
use Rattle.block_hints.proofs.Borders.{joined_is_hint}

-- the hint of a block that is there
pub hint_at : (bits : List Bool) (blocks : List Block) (block : ℕ) (default : Block) → AreHints bits blocks → block < length blocks → IsBlockIn bits (1024 * block) (1024 * block + 1024) (get_or blocks block default)
hint_at bits blocks block default are h = are block (get_or blocks block default) (slice_get-get_or blocks block default h)

-- where no block is
abbrev pub no_block : Block
no_block = record { hint = record { run_start = 0; run = 0; left = 0; right = 0; first = 0 }; before = 0; behind = 0 }

pub hint_at_first : (bits : List Bool) (blocks : List Block) (default : Block) → AreHints bits blocks → 1 ≤ length blocks → IsHintIn bits 0 (1024 * 1) (get_or blocks 0 default).hint
hint_at_first bits blocks default are h = (hint_at bits blocks 0 default are h).hint

-- each number of a block's hint is at most the block's
pub record IsInBlock (h : Hint) : Type 0 where
  pub run : h.run_start + h.run ≤ 1024
  pub left : h.left ≤ 1024
  pub right : h.right ≤ 1024
  pub first : h.first ≤ 1024

pub in_block : (bits : List Bool) (block : ℕ) (h : Hint) → IsHintIn bits (1024 * block) (1024 * block + 1024) h → IsInBlock h
in_block bits block h is =
    let run = is.run.within in let left = is.left_within in let right = is.right_within in let first = is.first_within in
    record { run = omega arith; left = omega arith; right = omega arith; first = omega arith }

-- one more block
pub joined_block : (bits : List Bool) (block : ℕ) (front back now : Hint) → IsHintIn bits 0 (1024 * block) front → IsHintIn bits (1024 * block) (1024 * block + 1024) back → now ≡ joined_hint (1024 * block) front 1024 back
    → IsHintIn bits 0 (1024 * (block + 1)) now
joined_block bits block front back now f b is =
    let joined = joined_is_hint bits 0 (1024 * block) (1024 * block + 1024) front back (omega arith) (omega arith) f b in
    let front_bits : 1024 * block - 0 ≡ 1024 * block = omega arith in
    let back_bits : 1024 * block + 1024 - 1024 * block ≡ 1024 = omega arith in
    let end : 1024 * block + 1024 ≡ 1024 * (block + 1) = omega arith in
    subst (IsHintIn bits 0 (1024 * (block + 1))) (sym is)
    (subst (λ n. IsHintIn bits 0 n (joined_hint (1024 * block) front 1024 back)) end
    (subst (λ n. IsHintIn bits 0 (1024 * block + 1024) (joined_hint (1024 * block) front n back)) back_bits
    (subst (λ n. IsHintIn bits 0 (1024 * block + 1024) (joined_hint n front (1024 * block + 1024 - 1024 * block) back)) front_bits joined)))
