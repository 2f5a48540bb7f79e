-- Looking for an offset by halving.
use Rattle.std.proofs.Common.{◌≡◌, ℕ, zero, suc, ◌-◌, ◌<◌, ◌≤◌, Bool, true, false, nat_lt, ◌==◌, List, [], ◌∷◌, length, find, slice_get, get_or, Option, Some, None, IsSome, refl, sym, ap, ◌∙◌, arith}
use Rattle.std.proofs.lemmas.Bool.Decides.{nat_tests}
use Rattle.vm_model.specs.PlainMap.{Part}
use Rattle.map_blocks.specs.KeptBlocks.{ArePacked}
use Rattle.map_blocks.proofs.PartsInRow.{rising, found_at}

-- a part at the offset is from a place on, and before another
pub record IsBetween (offset : ℕ) (ps : List Part) (low high : ℕ) : Type 0 where
  pub order : low < high
  pub most : high ≤ length ps
  pub holds : (i : ℕ) (p : Part) → slice_get ps i ≡ Some p → p.offset ≡ offset → (low ≤ i) × (i < high)

in_list : {X : Type 0} (xs : List X) (i : ℕ) (x : X) → slice_get xs i ≡ Some x → i < length xs
in_list [] i x h = cc
in_list (y ∷ xs) zero x h = omega arith
in_list (y ∷ xs) (suc i) x h = omega (arith, in_list xs i x h)

-- what is read at a place stands there
pub read_at : {X : Type 0} (xs : List X) (i : ℕ) (x : X) → i < length xs → x ≡ get_or xs i x → slice_get xs i ≡ Some x
read_at [] i x l e = absurd (omega arith)
read_at (y ∷ xs) zero x l e = ap (λ z. Some z) (sym e)
read_at (y ∷ xs) (suc i) x l e = read_at xs i x (omega arith) e

-- reads of one place are the same
pub same_read : {X : Type 0} (xs : List X) (i : ℕ) (x y : X) → i < length xs → x ≡ get_or xs i x → y ≡ get_or xs i y → x ≡ y
same_read xs i x y inside e f = (let one : Some x ≡ Some y = sym (read_at xs i x inside e) ∙ read_at xs i y inside f in cc)

pub between_first : (offset : ℕ) (ps : List Part) (n : ℕ) → n ≡ length ps → 1 ≤ n → IsBetween offset ps 0 n
between_first offset ps n e some = record { order = omega arith; most = omega arith; holds = λ i p h same. (omega arith, omega (arith, in_list ps i p h)) }

pub between_up : (offset : ℕ) (ps : List Part) (low high middle : ℕ) (m : Part) → IsBetween offset ps low high → ArePacked 0 ps → slice_get ps middle ≡ Some m → middle < high → m.offset ≤ offset → IsBetween offset ps middle high
between_up offset ps low high middle m b packed at below e = record {
  order = below;
  most = b.most;
  holds = λ i p h same. (at_least i p h same (nat_lt i middle) refl, (b.holds i p h same).1);
}
  where
    at_least : (i : ℕ) (p : Part) → slice_get ps i ≡ Some p → p.offset ≡ offset → (t : Bool) → nat_lt i middle ≡ t → middle ≤ i
    at_least i p h same true t = absurd (let l : i < middle = grind (arith, nat_tests) in omega (arith, rising 0 ps i middle p m packed l h at))
    at_least i p h same false t = grind (arith, nat_tests)

pub between_down : (offset : ℕ) (ps : List Part) (low high middle : ℕ) (m : Part) → IsBetween offset ps low high → ArePacked 0 ps → slice_get ps middle ≡ Some m → low < middle → middle ≤ length ps → offset < m.offset → IsBetween offset ps low middle
between_down offset ps low high middle m b packed at above inside e = record {
  order = above;
  most = inside;
  holds = λ i p h same. ((b.holds i p h same).0, at_most i p h same (nat_lt middle i) refl (i == middle) refl);
}
  where
    at_most : (i : ℕ) (p : Part) → slice_get ps i ≡ Some p → p.offset ≡ offset → (t : Bool) → nat_lt middle i ≡ t → (u : Bool) → (i == middle) ≡ u → i < middle
    at_most i p h same true t u f = absurd (let l : middle < i = grind (arith, nat_tests) in omega (arith, rising 0 ps middle i m p packed l at h))
    at_most i p h same false t true f = absurd (
        let here : i ≡ middle = grind (arith, nat_tests) in
        let one : Some p ≡ Some m = sym h ∙ ap (slice_get ps) here ∙ at in
        let is : p ≡ m = cc in omega (arith, ap (λ (x : Part). x.offset) is)
        )
    at_most i p h same false t false f = grind (arith, nat_tests)

pub between_last : (offset : ℕ) (ps : List Part) (low high : ℕ) → IsBetween offset ps low high → high - low ≤ 1 → IsSome (find (λ (p : Part). p.offset == offset) ps) → slice_get ps low ≡ find (λ (p : Part). p.offset == offset) ps
between_last offset ps low high b close some = by_found (find (λ (p : Part). p.offset == offset) ps) refl some
  where
    by_found : (o : Option Part) → find (λ (p : Part). p.offset == offset) ps ≡ o → IsSome o → slice_get ps low ≡ o
    by_found None e s = cc
    by_found (Some p) e s =
        let is = found_at offset ps p e in
        let place = b.holds is.0 p is.1 is.2 in
        let here : low ≡ is.0 = omega (arith, place.0, place.1, b.order) in
        ap (slice_get ps) here ∙ is.1
