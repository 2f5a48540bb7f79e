-- What a sink over memory holds: the bytes that it has taken, and how many more it can take.
use Rattle.std.specs.Prelude.{ℕ, List}

pub record Held : Type 0 where
  pub taken : List ℕ
  pub room : ℕ
