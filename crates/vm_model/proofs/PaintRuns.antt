-- Painting twice, painting what is painted, and the places that a search finds.
use Rattle.std.proofs.Common.{◌≡◌, ℕ, zero, suc, ◌+◌, ◌-◌, ◌%◌, ◌<◌, ◌≤◌, Bool, true, false, cond, ◌&&◌, ◌==◌, if◌then◌else◌, List, [], ◌∷◌, map, length, drop, find, slice_get, Some, refl, ap, sym, ◌∙◌, arith}
use Rattle.std.proofs.lemmas.List.{length-drop}
use Rattle.std.proofs.lemmas.Bool.Decides.{nat_tests}
use Rattle.vm_model.specs.Space.{count_from, paint_from, paint, begins_free, fits, lowest}
use Rattle.vm_model.proofs.Elements.{slice_get-drop}
use Rattle.vm_model.proofs.FreePlaces.{begins_free-at, begins_free-length}
use Rattle.vm_model.proofs.Paint.{length-paint_from}
use Rattle.vm_model.proofs.Search.{the_lowest_fits}

pub length-paint : {X : Type 0} (test : ℕ → Bool) (x : X) (ys : List X) → length (paint test x ys) ≡ length ys
length-paint test x ys = length-paint_from test x ys 0

-- A function of each place.

map_if : {X Y : Type 0} (f : X → Y) (b : Bool) (x y : X) → f (if b then x else y) ≡ (if b then f x else f y)
map_if f true x y = refl
map_if f false x y = refl

map-paint_from : {X Y : Type 0} (f : X → Y) (test : ℕ → Bool) (x : X) (ys : List X) (p : ℕ) → map f (paint_from p test x ys) ≡ paint_from p test (f x) (map f ys)
map-paint_from f test x [] p = refl
map-paint_from f test x (y ∷ ys) p =
    ap (λ z. z ∷ map f (paint_from (suc p) test x ys)) (map_if f (test p) x y) ∙ ap (λ zs. (if test p then f x else f y) ∷ zs) (map-paint_from f test x ys (suc p))

pub map-paint : {X Y : Type 0} (f : X → Y) (test : ℕ → Bool) (x : X) (ys : List X) → map f (paint test x ys) ≡ paint test (f x) (map f ys)
map-paint f test x ys = map-paint_from f test x ys 0

-- Painting twice with one test: the last stays.

if_twice : {X : Type 0} (b : Bool) (x y z : X) → (if b then x else (if b then y else z)) ≡ (if b then x else z)
if_twice true x y z = refl
if_twice false x y z = refl

paint_twice_from : {X : Type 0} (test : ℕ → Bool) (x y : X) (zs : List X) (p : ℕ) → paint_from p test x (paint_from p test y zs) ≡ paint_from p test x zs
paint_twice_from test x y [] p = refl
paint_twice_from test x y (z ∷ zs) p =
    ap (λ w. w ∷ paint_from (suc p) test x (paint_from (suc p) test y zs)) (if_twice (test p) x y z) ∙ ap (λ ws. (if test p then x else z) ∷ ws) (paint_twice_from test x y zs (suc p))

pub paint_twice : {X : Type 0} (test : ℕ → Bool) (x y : X) (zs : List X) → paint test x (paint test y zs) ≡ paint test x zs
paint_twice test x y zs = paint_twice_from test x y zs 0

-- Tests that agree at each place of the list.

same_paint_from : {X : Type 0} (test other : ℕ → Bool) (x : X) (ys : List X) (p : ℕ) → ((place : ℕ) → p ≤ place → place < p + length ys → test place ≡ other place)
    → paint_from p test x ys ≡ paint_from p other x ys
same_paint_from test other x [] p h = refl
same_paint_from test other x (y ∷ ys) p h =
    ap (λ b. (if b then x else y) ∷ paint_from (suc p) test x ys) (h p (omega arith) (omega arith))
    ∙ ap (λ zs. (if other p then x else y) ∷ zs) (same_paint_from test other x ys (suc p) (λ place a b. h place (omega arith) (omega arith)))

pub same_paint : {X : Type 0} (test other : ℕ → Bool) (x : X) (ys : List X) → ((place : ℕ) → place < length ys → test place ≡ other place) → paint test x ys ≡ paint other x ys
same_paint test other x ys h = same_paint_from test other x ys 0 (λ place a b. h place (omega arith))

-- Painting what has that value already changes nothing.

if_there : {X : Type 0} (b : Bool) (x y : X) → (b ≡ true → y ≡ x) → (if b then x else y) ≡ y
if_there true x y h = sym (h refl)
if_there false x y h = refl

paint_there_from : {X : Type 0} (test : ℕ → Bool) (x : X) (ys : List X) (p : ℕ) → ((k : ℕ) (y : X) → slice_get ys k ≡ Some y → test (p + k) ≡ true → y ≡ x) → paint_from p test x ys ≡ ys
paint_there_from test x [] p h = refl
paint_there_from test x (y ∷ ys) p h =
    let here : p + 0 ≡ p = omega arith in
    ap (λ z. z ∷ paint_from (suc p) test x ys) (if_there (test p) x y (λ e. h 0 y refl (ap test here ∙ e)))
    ∙ ap (λ zs. y ∷ zs) (paint_there_from test x ys (suc p) (λ k z a e. let next : p + suc k ≡ suc p + k = omega arith in h (suc k) z a (ap test next ∙ e)))

pub paint_there : {X : Type 0} (test : ℕ → Bool) (x : X) (ys : List X) → ((place : ℕ) (y : X) → slice_get ys place ≡ Some y → test place ≡ true → y ≡ x) → paint test x ys ≡ ys
paint_there test x ys h = paint_there_from test x ys 0 (λ k y a e. let same : k ≡ 0 + k = omega arith in h k y a (ap test same ∙ e))

-- and so does a test that nothing passes
pub paint_nowhere : {X : Type 0} (test : ℕ → Bool) (x : X) (ys : List X) → ((place : ℕ) → test place ≡ false) → paint test x ys ≡ ys
paint_nowhere test x ys h = paint_there test x ys (λ place y a e. let no = h place in cc)

-- What a search finds.

found_by : (p : ℕ → Bool) (n first x : ℕ) (b : Bool) → p first ≡ b → cond b (Some first) (find p (count_from n (suc first))) ≡ Some x
    → (find p (count_from n (suc first)) ≡ Some x → (p x ≡ true) × (suc first ≤ x) × (x < suc first + n)) → (p x ≡ true) × (first ≤ x) × (x < first + suc n)
found_by p n first x true e h more = let same : first ≡ x = cc in (ap p (sym same) ∙ e, omega arith, omega arith)
found_by p n first x false e h more = let later = more h in (later.0, omega arith, omega arith)

-- a number that is found passes, and is one of those that were looked at
pub found_passes : (p : ℕ → Bool) (n first x : ℕ) → find p (count_from n first) ≡ Some x → (p x ≡ true) × (first ≤ x) × (x < first + n)
found_passes p zero first x h = cc
found_passes p (suc n) first x h = found_by p n first x _ refl h (found_passes p n (suc first) x)

both : (a b : Bool) → (a && b) ≡ true → (a ≡ true) × (b ≡ true)
both true b h = (refl, h)
both false b h = cc

is_same : (a b : ℕ) → (a == b) ≡ true → a ≡ b
is_same a b h = grind (arith, nat_tests)

-- n places from the start on that lie in the list and are free, the start being a multiple of k
pub record AreFreePlaces (taken : List Bool) (n k start : ℕ) : Type 0 where
  pub within : start + n ≤ length taken
  pub aligned : start % k ≡ 0
  pub free : (place : ℕ) → start ≤ place → place < start + n → slice_get taken place ≡ Some false

pub lowest_is_free : (taken : List Bool) (n k start : ℕ) → lowest taken n k ≡ Some start → AreFreePlaces taken n k start
lowest_is_free taken n k start h =
    let is = found_passes (fits taken n k) (length taken) 0 start (sym (the_lowest_fits taken n k) ∙ h) in
    let fit = both (start % k == 0) (begins_free n (drop start taken)) is.0 in
    record {
      within = omega (arith, begins_free-length n (drop start taken) fit.1, length-drop start taken);
      aligned = is_same (start % k) 0 fit.0;
      free = λ place a b.
          let i : start + (place - start) ≡ place = omega arith in
          ap (slice_get taken) (sym i) ∙ sym (slice_get-drop start taken (place - start)) ∙ begins_free-at n (drop start taken) (place - start) fit.1 (omega arith);
    }
