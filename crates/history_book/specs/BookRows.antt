-- What a book keeps.
use Rattle.std.specs.Prelude.{ℕ, ◌+◌, ◌^◌, ◌<◌, ◌≤◌, List, length, All}
use Rattle.history_book.specs.declared.noted.Noted.{Noted}

-- a caller, what was noted of its calls, and how many more calls find room
pub record BookRows : Type 0 where
  pub caller : ℕ
  pub rows : List Noted
  pub spare : ℕ

-- there is room for the calls that are still to come, all calls have numbers, and each noted one has an event
pub record HasRoom (rows : List Noted) (capacity spare : ℕ) : Type 0 where
  pub room : length rows + spare ≤ capacity
  pub numbers : length rows + spare < 2 ^ 32
  pub events : All (λ (n : Noted). 1 ≤ n.own_event) rows
