-- Blocks by their starts.
use Rattle.std.proofs.Common.{◌≡◌, ◌≢◌, ℕ, ◌+◌, ◌<◌, ◌≤◌, Bool, true, false, ◌==◌, cond, if◌then◌else◌, List, [], ◌∷◌, map, Some, refl, sym, ap, ◌∙◌, subst, arith}
use Rattle.std.proofs.lemmas.Bool.Decides.{nat_tests}
use Rattle.std.specs.Ordering.{nat_cmp}
use Rattle.std.specs.Map.{values_of, set_value}
use Rattle.std.specs.BTreeMap.{is_at}
use Rattle.map_blocks.specs.KeptBlocks.{KeptRow}
use Rattle.map_blocks.specs.KeptBlockSides.{IsOwn, AreApartFrom, block_at}
use Rattle.map_blocks.proofs.PartsInRow.{same_test, other_test, to_same}
use Rattle.map_blocks.proofs.SortedByNumber.{Holds, holds_of}

abbrev pub at_key : ℕ → ℕ → Bool
at_key k = is_at (nat_cmp k)

abbrev pub starts_at : ℕ → KeptRow → Bool
starts_at k r = r.block.start == k

pub at_same : (k n : ℕ) → k ≡ n → at_key k n ≡ true
at_same k n e = grind (arith, nat_tests)

pub at_other : (k n : ℕ) → k ≢ n → at_key k n ≡ false
at_other k n e = grind (arith, nat_tests)

pub at_tests : (k n : ℕ) (b : Bool) → at_key k n ≡ b → (n == k) ≡ b
at_tests k n true e = grind (arith, nat_tests)
at_tests k n false e = grind (arith, nat_tests)

module _ (cpu pages added : ℕ) where
  pub all_own : (low : ℕ) (es : List (ℕ × KeptRow)) → AreApartFrom cpu pages added low es → Holds (IsOwn cpu pages added) (values_of es)
  all_own low [] apart = tt
  all_own low (e ∷ es) apart = (apart.3, all_own (e.0 + pages) es apart.4)

-- Each block stands at its start.

module _ (cpu pages added : ℕ) where
  -- a block at its start, from low on
  pub record IsAt (es : List (ℕ × KeptRow)) (low : ℕ) (r : KeptRow) : Type 0 where
    pub from : low ≤ r.block.start
    pub found : block_at es r.block.start ≡ Some r

  more_at : (low : ℕ) (e : ℕ × KeptRow) (es : List (ℕ × KeptRow)) → 0 < pages → AreApartFrom cpu pages added low (e ∷ es) → (r : KeptRow) → IsAt es (e.0 + pages) r → IsAt (e ∷ es) low r
  more_at low e es some apart r at =
      let a = apart.1 in
      let b = at.from in
      let other : at_key r.block.start e.0 ≡ false = at_other r.block.start e.0 (λ h. omega arith) in
      record { from = omega arith; found = ap (λ t. cond t (Some e.1) (block_at es r.block.start)) other ∙ at.found }

  pub all_at : (low : ℕ) (es : List (ℕ × KeptRow)) → 0 < pages → AreApartFrom cpu pages added low es → Holds (IsAt es low) (values_of es)
  all_at low [] some apart = tt
  all_at low (e ∷ es) some apart = (
    record { from = omega (arith, apart.0, apart.1); found = ap (λ t. cond t (Some e.1) (block_at es e.1.block.start)) (at_same e.1.block.start e.0 (sym apart.0)) },
    holds_of (IsAt es (e.0 + pages)) (IsAt (e ∷ es) low) (values_of es) (more_at low e es some apart) (all_at (e.0 + pages) es some apart.4),
  )

  -- where there is a block at a key, it begins there and is one of them
  pub record IsFound (low k : ℕ) (r : KeptRow) : Type 0 where
    pub start : r.block.start ≡ k
    pub own : IsOwn cpu pages added r
    pub from : low ≤ k
    pub end : k + pages ≤ 1048576

  found_by : (low k : ℕ) (e : ℕ × KeptRow) (es : List (ℕ × KeptRow)) (r : KeptRow) (t : Bool) → at_key k e.0 ≡ t → AreApartFrom cpu pages added low (e ∷ es) → cond t (Some e.1) (block_at es k) ≡ Some r
      → (block_at es k ≡ Some r → IsFound (e.0 + pages) k r) → IsFound low k r
  found_by low k e es r true at apart h more =
      let same : e.1 ≡ r = cc in
      let key : e.0 ≡ k = to_same e.0 k (at_tests k e.0 true at) in
      let a = apart.0 in
      record { start = ap (λ (x : KeptRow). x.block.start) (sym same) ∙ sym apart.0 ∙ key; own = subst (IsOwn cpu pages added) same apart.3; from = omega (arith, apart.1); end = omega (arith, apart.2) }
  found_by low k e es r false at apart h more = let is = more h in record { start = is.start; own = is.own; from = omega (arith, apart.1, is.from); end = is.end }

  pub found : (low k : ℕ) (es : List (ℕ × KeptRow)) (r : KeptRow) → AreApartFrom cpu pages added low es → block_at es k ≡ Some r → IsFound low k r
  found low k [] r apart h = cc
  found low k (e ∷ es) r apart h = found_by low k e es r (at_key k e.0) refl apart h (found (e.0 + pages) k es r apart.4)

  -- Behind a key no block begins there.
  same_behind : (f : KeptRow → KeptRow) (low k : ℕ) (es : List (ℕ × KeptRow)) → AreApartFrom cpu pages added low es → k < low → map (λ (x : KeptRow). if x.block.start == k then f x else x) (values_of es) ≡ values_of es
  same_behind f low k [] apart l = refl
  same_behind f low k (e ∷ es) apart l =
      let a = apart.0 in
      let b = apart.1 in
      let other : (e.1.block.start == k) ≡ false = other_test e.1.block.start k (λ h. omega arith) in
      ap (λ t. (if t then f e.1 else e.1) ∷ map (λ (x : KeptRow). if x.block.start == k then f x else x) (values_of es)) other ∙ ap (λ xs. e.1 ∷ xs) (same_behind f (e.0 + pages) k es apart.4 (omega arith))

  set_by : (f : KeptRow → KeptRow) (low k : ℕ) (e : ℕ × KeptRow) (es : List (ℕ × KeptRow)) (r : KeptRow) (t : Bool) → 0 < pages → at_key k e.0 ≡ t → AreApartFrom cpu pages added low (e ∷ es) → cond t (Some e.1) (block_at es k) ≡ Some r
      → (block_at es k ≡ Some r → values_of (set_value (at_key k) es (f r)) ≡ map (λ (x : KeptRow). if x.block.start == k then f x else x) (values_of es))
      → values_of (cond t ((e.0, f r) ∷ es) (e ∷ set_value (at_key k) es (f r))) ≡ map (λ (x : KeptRow). if x.block.start == k then f x else x) (values_of (e ∷ es))
  set_by f low k e es r true some at apart h more =
      let same : e.1 ≡ r = cc in
      let key : e.0 ≡ k = to_same e.0 k (at_tests k e.0 true at) in
      let here : (e.1.block.start == k) ≡ true = ap (λ n. n == k) (sym apart.0 ∙ key) ∙ same_test k in
      ap (λ x. f x ∷ values_of es) (sym same)
      ∙ sym (ap (λ t. (if t then f e.1 else e.1) ∷ map (λ (x : KeptRow). if x.block.start == k then f x else x) (values_of es)) here ∙ ap (λ xs. f e.1 ∷ xs) (same_behind f (e.0 + pages) k es apart.4 (omega arith)))
  set_by f low k e es r false some at apart h more =
      let other : (e.1.block.start == k) ≡ false = ap (λ n. n == k) (sym apart.0) ∙ at_tests k e.0 false at in
      ap (λ xs. e.1 ∷ xs) (more h) ∙ sym (ap (λ t. (if t then f e.1 else e.1) ∷ map (λ (x : KeptRow). if x.block.start == k then f x else x) (values_of es)) other)

  -- the block at a key is changed
  pub values_set : (f : KeptRow → KeptRow) (low k : ℕ) (es : List (ℕ × KeptRow)) (r : KeptRow) → 0 < pages → AreApartFrom cpu pages added low es → block_at es k ≡ Some r
      → values_of (set_value (at_key k) es (f r)) ≡ map (λ (x : KeptRow). if x.block.start == k then f x else x) (values_of es)
  values_set f low k [] r some apart h = cc
  values_set f low k (e ∷ es) r some apart h = set_by f low k e es r (at_key k e.0) some refl apart h (values_set f (e.0 + pages) k es r some apart.4)

  apart_by : (low k : ℕ) (e : ℕ × KeptRow) (es : List (ℕ × KeptRow)) (w : KeptRow) (t : Bool) → at_key k e.0 ≡ t → w.block.start ≡ k → IsOwn cpu pages added w → AreApartFrom cpu pages added low (e ∷ es)
      → AreApartFrom cpu pages added (e.0 + pages) (set_value (at_key k) es w) → AreApartFrom cpu pages added low (cond t ((e.0, w) ∷ es) (e ∷ set_value (at_key k) es w))
  apart_by low k e es w true at start own apart more = (to_same e.0 k (at_tests k e.0 true at) ∙ sym start, apart.1, apart.2, own, apart.4)
  apart_by low k e es w false at start own apart more = (apart.0, apart.1, apart.2, apart.3, more)

  pub apart_set : (low k : ℕ) (es : List (ℕ × KeptRow)) (w : KeptRow) → w.block.start ≡ k → IsOwn cpu pages added w → AreApartFrom cpu pages added low es → AreApartFrom cpu pages added low (set_value (at_key k) es w)
  apart_set low k [] w start own apart = tt
  apart_set low k (e ∷ es) w start own apart = apart_by low k e es w (at_key k e.0) refl start own apart (apart_set (e.0 + pages) k es w start own apart.4)
