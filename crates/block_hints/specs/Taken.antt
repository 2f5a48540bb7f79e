-- What was kept of bits before some of them were taken.
use Rattle.std.specs.Prelude.{◌≡◌, ℕ, ◌+◌, ◌-◌, ◌*◌, min, max, Bool, true, List, drop}
use Rattle.vm_model.specs.Space.{span, holds, paint, begins_free}
use Rattle.block_hints.specs.declared.block_scan.Block.{Block}
use Rattle.block_hints.specs.KeptHints.{AreHints, IsBlockIn}

-- before so many free places were taken that was kept of the bits between two places
pub record WasBlockIn (now : List Bool) (low high at count : ℕ) (b : Block) : Type 0 where
  pub old : List Bool
  pub taken : now ≡ paint (holds (span at count)) true old
  pub free : begins_free count (drop at old) ≡ true
  pub kept : IsBlockIn old low high b

-- and of a block, of which those between two places were taken
abbrev pub WasPartIn : List Bool → (block at end : ℕ) → Block → Type 0
WasPartIn now block at end b = WasBlockIn now (1024 * block) (1024 * block + 1024) (max at (1024 * block)) (min end (1024 * block + 1024) - max at (1024 * block)) b

-- before so many free places were taken these were the hints of the blocks
pub record WereHints (now : List Bool) (blocks : List Block) (at count : ℕ) : Type 0 where
  pub old : List Bool
  pub taken : now ≡ paint (holds (span at count)) true old
  pub free : begins_free count (drop at old) ≡ true
  pub kept : AreHints old blocks
