-- Elements in the order of a number of each.
use Rattle.std.proofs.Common.{◌≡◌, ℕ, ◌<◌, ◌≤◌, Bool, true, false, cond, nat_lt, if◌then◌else◌, List, [], ◌∷◌, ◌++◌, map, filter, refl, sym, ap, ◌∙◌, arith}
use Rattle.std.proofs.lemmas.Bool.Decides.{nat_tests}
use Rattle.vm_model.specs.Space.{put_by, sort_by}

module _ {X : Type 0} where
  -- something is true of each
  abbrev pub Holds : (X → Type 0) → List X → Type 0
  Holds P [] = Unit {0}
  Holds P (x ∷ xs) = P x × Holds P xs

  pub holds_filter : (P : X → Type 0) (p : X → Bool) (xs : List X) → Holds P xs → Holds P (filter p xs)
  holds_filter P p [] h = tt
  holds_filter P p (x ∷ xs) h = by_test (p x) (holds_filter P p xs h.1)
    where
      by_test : (b : Bool) → Holds P (filter p xs) → Holds P (cond b (x ∷ filter p xs) (filter p xs))
      by_test true more = (h.0, more)
      by_test false more = more

  pub holds_of : (P Q : X → Type 0) (xs : List X) → ((x : X) → P x → Q x) → Holds P xs → Holds Q xs
  holds_of P Q [] f h = tt
  holds_of P Q (x ∷ xs) f h = (f x h.0, holds_of P Q xs f h.1)

  module _ (key : X → ℕ) where
    -- each number is at least another
    abbrev pub AtLeast : ℕ → List X → Type 0
    AtLeast n xs = Holds (λ x. n ≤ key x) xs

    abbrev pub IsRising : List X → Type 0
    IsRising [] = Unit {0}
    IsRising (x ∷ xs) = AtLeast (key x) xs × IsRising xs

    abbrev pub IsStrict : List X → Type 0
    IsStrict [] = Unit {0}
    IsStrict (x ∷ xs) = Holds (λ z. key x < key z) xs × IsStrict xs

    put_holds_by : (P : X → Type 0) (x y : X) (ys : List X) (b : Bool) → P x → P y → Holds P ys → Holds P (put_by key x ys) → Holds P (if b then x ∷ y ∷ ys else y ∷ put_by key x ys)
    put_holds_by P x y ys true a b more rest = (a, (b, more))
    put_holds_by P x y ys false a b more rest = (b, rest)

    pub put_holds : (P : X → Type 0) (x : X) (ys : List X) → P x → Holds P ys → Holds P (put_by key x ys)
    put_holds P x [] a h = (a, tt)
    put_holds P x (y ∷ ys) a h = put_holds_by P x y ys (nat_lt (key x) (key y)) a h.0 h.1 (put_holds P x ys a h.1)

    pub sort_holds : (P : X → Type 0) (xs : List X) → Holds P xs → Holds P (sort_by key xs)
    sort_holds P [] h = tt
    sort_holds P (x ∷ xs) h = put_holds P x (sort_by key xs) h.0 (sort_holds P xs h.1)

    put_held_by : (P : X → Type 0) (x y : X) (ys : List X) (b : Bool) → (Holds P (put_by key x ys) → P x × Holds P ys) → Holds P (if b then x ∷ y ∷ ys else y ∷ put_by key x ys) → P x × (P y × Holds P ys)
    put_held_by P x y ys true more h = h
    put_held_by P x y ys false more h = let m = more h.1 in (m.0, (h.0, m.1))

    put_held : (P : X → Type 0) (x : X) (ys : List X) → Holds P (put_by key x ys) → P x × Holds P ys
    put_held P x [] h = h
    put_held P x (y ∷ ys) h = put_held_by P x y ys (nat_lt (key x) (key y)) (put_held P x ys) h

    -- and back
    pub sort_held : (P : X → Type 0) (xs : List X) → Holds P (sort_by key xs) → Holds P xs
    sort_held P [] h = tt
    sort_held P (x ∷ xs) h = let m = put_held P x (sort_by key xs) h in (m.0, sort_held P xs m.1)

    at_least_by : (x y : X) (ys : List X) (b : Bool) → nat_lt (key x) (key y) ≡ b → AtLeast (key y) ys → (key y ≤ key x → AtLeast (key y) (put_by key x ys)) → IsRising ys → IsRising (put_by key x ys) → IsRising (if b then x ∷ y ∷ ys else y ∷ put_by key x ys)
    at_least_by x y ys true e from more rest put = let l : key x < key y = grind (arith, nat_tests) in ((omega arith, holds_of (λ z. key y ≤ key z) (λ z. key x ≤ key z) ys (λ z h. omega arith) from), (from, rest))
    at_least_by x y ys false e from more rest put = let l : key y ≤ key x = grind (arith, nat_tests) in (more l, put)

    pub put_rising : (x : X) (ys : List X) → IsRising ys → IsRising (put_by key x ys)
    put_rising x [] h = (tt, tt)
    put_rising x (y ∷ ys) h = at_least_by x y ys (nat_lt (key x) (key y)) refl h.0 (λ l. put_holds (λ z. key y ≤ key z) x ys l h.0) h.1 (put_rising x ys h.1)

    pub sort_rising : (xs : List X) → IsRising (sort_by key xs)
    sort_rising [] = tt
    sort_rising (x ∷ xs) = put_rising x (sort_by key xs) (sort_rising xs)

    -- before all others
    pub put_first : (x : X) (ys : List X) → Holds (λ z. key x < key z) ys → put_by key x ys ≡ x ∷ ys
    put_first x [] h = refl
    put_first x (y ∷ ys) h = ap (λ b. if b then x ∷ y ∷ ys else y ∷ put_by key x ys) (let l = h.0 in let t : nat_lt (key x) (key y) ≡ true = grind (arith, nat_tests) in t)

    -- a list that rises is in its order
    pub sort_same : (xs : List X) → IsStrict xs → sort_by key xs ≡ xs
    sort_same [] h = refl
    sort_same (x ∷ xs) h = ap (put_by key x) (sort_same xs h.1) ∙ put_first x xs h.0

    -- behind all others
    put_last_by : (x y e : X) (ys : List X) (b : Bool) → put_by key x (ys ++ e ∷ []) ≡ put_by key x ys ++ e ∷ []
        → (if b then x ∷ y ∷ (ys ++ e ∷ []) else y ∷ put_by key x (ys ++ e ∷ [])) ≡ (if b then x ∷ y ∷ ys else y ∷ put_by key x ys) ++ e ∷ []
    put_last_by x y e ys true more = refl
    put_last_by x y e ys false more = ap (λ zs. y ∷ zs) more

    pub put_last : (x e : X) (ys : List X) → key x < key e → put_by key x (ys ++ e ∷ []) ≡ put_by key x ys ++ e ∷ []
    put_last x e [] l = ap (λ b. if b then x ∷ e ∷ [] else e ∷ x ∷ []) (let t : nat_lt (key x) (key e) ≡ true = grind (arith, nat_tests) in t)
    put_last x e (y ∷ ys) l = put_last_by x y e ys (nat_lt (key x) (key y)) (put_last x e ys l)

    put_end_by : (e y : X) (ys : List X) → key y < key e → put_by key e ys ≡ ys ++ e ∷ [] → put_by key e (y ∷ ys) ≡ y ∷ (ys ++ e ∷ [])
    put_end_by e y ys l more = ap (λ b. if b then e ∷ y ∷ ys else y ∷ put_by key e ys) (let t : nat_lt (key e) (key y) ≡ false = grind (arith, nat_tests) in t) ∙ ap (λ zs. y ∷ zs) more

    pub put_end : (e : X) (ys : List X) → Holds (λ z. key z < key e) ys → put_by key e ys ≡ ys ++ e ∷ []
    put_end e [] h = refl
    put_end e (y ∷ ys) h = put_end_by e y ys h.0 (put_end e ys h.1)

    -- a change that keeps the numbers
    put_map_by : (f : X → X) (x y : X) (ys : List X) (b : Bool) → map f (put_by key x ys) ≡ put_by key (f x) (map f ys)
        → map f (if b then x ∷ y ∷ ys else y ∷ put_by key x ys) ≡ (if b then f x ∷ f y ∷ map f ys else f y ∷ put_by key (f x) (map f ys))
    put_map_by f x y ys true e = refl
    put_map_by f x y ys false e = ap (λ zs. f y ∷ zs) e

    pub put_map : (f : X → X) → ((x : X) → key (f x) ≡ key x) → (x : X) (ys : List X) → map f (put_by key x ys) ≡ put_by key (f x) (map f ys)
    put_map f same x [] = refl
    put_map f same x (y ∷ ys) = put_map_by f x y ys (nat_lt (key x) (key y)) (put_map f same x ys)
        ∙ ap (λ n. if nat_lt n (key y) then f x ∷ f y ∷ map f ys else f y ∷ put_by key (f x) (map f ys)) (sym (same x))
        ∙ ap (λ n. if nat_lt (key (f x)) n then f x ∷ f y ∷ map f ys else f y ∷ put_by key (f x) (map f ys)) (sym (same y))

    pub sort_map : (f : X → X) → ((x : X) → key (f x) ≡ key x) → (xs : List X) → map f (sort_by key xs) ≡ sort_by key (map f xs)
    sort_map f same [] = refl
    sort_map f same (x ∷ xs) = put_map f same x (sort_by key xs) ∙ ap (put_by key (f x)) (sort_map f same xs)

    -- a choice of some
    put_filter_by : (p : X → Bool) (x y : X) (ys : List X) (b t u : Bool) → nat_lt (key x) (key y) ≡ b → p x ≡ t → p y ≡ u → AtLeast (key y) ys → filter p (put_by key x ys) ≡ (if t then put_by key x (filter p ys) else filter p ys)
        → filter p (if b then x ∷ y ∷ ys else y ∷ put_by key x ys) ≡ (if t then put_by key x (cond u (y ∷ filter p ys) (filter p ys)) else cond u (y ∷ filter p ys) (filter p ys))
    put_filter_by p x y ys true true true l e f from more =
        ap (λ c. cond c (x ∷ filter p (y ∷ ys)) (filter p (y ∷ ys))) e ∙ ap (λ c. x ∷ cond c (y ∷ filter p ys) (filter p ys)) f
        ∙ sym (ap (λ c. if c then x ∷ y ∷ filter p ys else y ∷ put_by key x (filter p ys)) l)
    put_filter_by p x y ys true true false l e f from more =
        ap (λ c. cond c (x ∷ filter p (y ∷ ys)) (filter p (y ∷ ys))) e ∙ ap (λ c. x ∷ cond c (y ∷ filter p ys) (filter p ys)) f
        ∙ sym (put_first x (filter p ys) (holds_filter (λ z. key x < key z) p ys (holds_of (λ z. key y ≤ key z) (λ z. key x < key z) ys (λ z h. (let low : key x < key y = grind (arith, nat_tests) in omega arith)) from)))
    put_filter_by p x y ys true false u l e f from more = ap (λ c. cond c (x ∷ filter p (y ∷ ys)) (filter p (y ∷ ys))) e ∙ ap (λ c. cond c (y ∷ filter p ys) (filter p ys)) f
    put_filter_by p x y ys false true true l e f from more = ap (λ c. cond c (y ∷ filter p (put_by key x ys)) (filter p (put_by key x ys))) f ∙ ap (λ zs. y ∷ zs) more
        ∙ sym (ap (λ c. if c then x ∷ y ∷ filter p ys else y ∷ put_by key x (filter p ys)) l)
    put_filter_by p x y ys false true false l e f from more = ap (λ c. cond c (y ∷ filter p (put_by key x ys)) (filter p (put_by key x ys))) f ∙ more
    put_filter_by p x y ys false false u l e f from more = ap (λ c. cond c (y ∷ filter p (put_by key x ys)) (filter p (put_by key x ys))) f ∙ ap (λ zs. cond u (y ∷ zs) zs) more

    pub put_filter : (p : X → Bool) (x : X) (ys : List X) → IsRising ys → filter p (put_by key x ys) ≡ (if p x then put_by key x (filter p ys) else filter p ys)
    put_filter p x [] h = by_test (p x)
      where
        by_test : (b : Bool) → cond b (x ∷ []) [] ≡ (if b then x ∷ [] else [])
        by_test true = refl
        by_test false = refl
    put_filter p x (y ∷ ys) h = put_filter_by p x y ys (nat_lt (key x) (key y)) (p x) (p y) refl refl refl h.0 (put_filter p x ys h.1)

    sort_filter_by : (p : X → Bool) (x : X) (xs : List X) (b : Bool) → (if b then put_by key x (filter p (sort_by key xs)) else filter p (sort_by key xs)) ≡ (if b then put_by key x (sort_by key (filter p xs)) else sort_by key (filter p xs))
        → (if b then put_by key x (filter p (sort_by key xs)) else filter p (sort_by key xs)) ≡ sort_by key (cond b (x ∷ filter p xs) (filter p xs))
    sort_filter_by p x xs true e = e
    sort_filter_by p x xs false e = e

    pub sort_filter : (p : X → Bool) (xs : List X) → filter p (sort_by key xs) ≡ sort_by key (filter p xs)
    sort_filter p [] = refl
    sort_filter p (x ∷ xs) = put_filter p x (sort_by key xs) (sort_rising xs) ∙ sort_filter_by p x xs (p x) (ap (λ zs. if p x then put_by key x zs else zs) (sort_filter p xs))
