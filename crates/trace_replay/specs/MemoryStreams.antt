-- What a source and a sink over memory hold, each call of which moves one piece or fails.
use Rattle.std.specs.Prelude.{ℕ, List, min, length}
use Rattle.trace_replay.specs.FailingCalls.{Calls}

-- the bytes that are left, and the most that one read gives
pub record Supply : Type 0 where
  pub left : List ℕ
  pub piece : ℕ
  pub calls : Calls

-- the bytes that were taken, how many more fit, and the most that one write takes
pub record Intake : Type 0 where
  pub taken : List ℕ
  pub room : ℕ
  pub piece : ℕ
  pub calls : Calls

-- how many bytes the next read gives, into a buffer of this length
abbrev pub next_given : Supply → ℕ → ℕ
next_given supply room = min supply.piece (min room (length supply.left))

-- how many bytes the next write takes, of a text of this length
abbrev pub next_taken : Intake → ℕ → ℕ
next_taken intake offered = min intake.piece (min offered intake.room)
