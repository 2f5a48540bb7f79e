-- What a read and a write do to the bytes and the counts that a source and a sink tell.
use Rattle.std.specs.Prelude.{◌≡◌, ℕ, ◌+◌, ◌-◌, ◌<◌, ◌≤◌, min, List, [], ◌++◌, length, take, drop, Option, Some, Result, Ok, Err}

-- the last value of a count, at which it stays
abbrev pub last_count : ℕ
last_count = 18446744073709551615

-- the count after one more
abbrev pub one_more : ℕ → ℕ
one_more count = min (count + 1) last_count

-- a count rose by one, or stays at its last value
abbrev pub RoseByOne : ℕ → ℕ → Type 0
RoseByOne before after = after ≡ one_more before

-- after a read: the bytes that were left begin with those that it gave, and the others are left
abbrev pub Gives : {E : Type 0} → List ℕ → Option (List ℕ) → List ℕ → Result ℕ E → Type 0
Gives bytes left buffer (Ok n) = (n ≤ length bytes) × (take n buffer ≡ take n bytes) × (left ≡ Some (drop n bytes))
Gives bytes left buffer (Err e) = left ≡ Some bytes

-- a read of no byte into a buffer with room is the end
abbrev pub IsEndAt : {E : Type 0} → List ℕ → List ℕ → Result ℕ E → Type 0
IsEndAt bytes buffer (Ok n) = n ≡ 0 → 0 < length buffer → bytes ≡ []
IsEndAt bytes buffer (Err e) = Unit {0}

-- after a write: the bytes that were taken, and the room that is left
abbrev pub Takes : {E : Type 0} → List ℕ → Option (List ℕ) → List ℕ → Result ℕ E → Type 0
Takes bytes taken piece (Ok n) = taken ≡ Some (bytes ++ take n piece)
Takes bytes taken piece (Err e) = taken ≡ Some bytes

abbrev pub Fills : {E : Type 0} → ℕ → Option ℕ → Result ℕ E → Type 0
Fills room left (Ok n) = (n ≤ room) × (left ≡ Some (room - n))
Fills room left (Err e) = left ≡ Some room

-- a source of these bytes was read in part, by no more than so many of them
pub record IsReadInPart (most : ℕ) (bytes : List ℕ) (left : Option (List ℕ)) : Type 0 where
  pub front : List ℕ
  pub rest : List ℕ
  pub whole : bytes ≡ front ++ rest
  pub is_left : left ≡ Some rest
  pub within : length front ≤ most
