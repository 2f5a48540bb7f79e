-- The callers written at their stamps are the log, and the locals by caller are those after it.
use Rattle.std.proofs.Common.{◌≡◌, ◌≢◌, ℕ, zero, suc, ◌+◌, ◌<◌, ◌≤◌, ◌⊎◌, inl, inr, ⊎_elim, eqb, Bool, true, false, List, [], ◌∷◌, ◌++◌, length, map, replicate, set, take, get_or, refl, sym, ap, ◌∙◌, subst, arith, Option, Some, None, slice_get, length-set, eq-eqb, ne_eqb, if◌then◌else◌}
use mathlib.Core.Logic.{dite}
use native.Mathlib.Decide.{ℕ_discrete}
use Rattle.vm_model.proofs.Elements.{same_by_get, slice_get-set_same, slice_get-set_other}
use Rattle.section_table.specs.declared.views.Held.{Held}
use Rattle.section_table.specs.declared.caller.Caller.{Caller}
use Rattle.section_table.specs.Shown.{shown_of}
use Rattle.section_table.specs.CallerPlaces.{places_from, places, AreBelow}
use Rattle.section_table.specs.WrittenLists.{written, all_written, locals_of, HasStampsBelow}
use Rattle.section_table.proofs.ElementsByPlace.{some_is, none≢some, within}

pub written_more : (picks : List ℕ) (c : ℕ) (xs : List ℕ) (x : ℕ) → written picks c (xs ++ x ∷ []) ≡ set (written picks c xs) x c
written_more picks c [] x = refl
written_more picks c (y ∷ ys) x = written_more (set picks y c) c ys x

pub below_at : (n : ℕ) (xs : List ℕ) (i : ℕ) → AreBelow n xs → i < length xs → get_or xs i 0 < n
below_at n [] i all inside = absurd (omega arith)
below_at n (x ∷ xs) zero all inside = all.0
below_at n (x ∷ xs) (suc i) all inside = below_at n xs i all.1 (omega arith)

take_more : (xs : List ℕ) (i : ℕ) → i < length xs → take (suc i) xs ≡ take i xs ++ get_or xs i 0 ∷ []
take_more [] i inside = absurd (omega arith)
take_more (x ∷ xs) zero inside = refl
take_more (x ∷ xs) (suc i) inside = ap (λ l. x ∷ l) (take_more xs i (omega arith))

pub written_take : (picks : List ℕ) (c : ℕ) (xs : List ℕ) (i : ℕ) → i < length xs → written picks c (take (i + 1) xs) ≡ set (written picks c (take i xs)) (get_or xs i 0) c
written_take picks c xs i inside = ap (λ (n : ℕ). written picks c (take n xs)) (let e : i + 1 ≡ suc i = omega arith in e) ∙ (ap (written picks c) (take_more xs i inside) ∙ written_more picks c (take i xs) (get_or xs i 0))

pub written_length : (picks : List ℕ) (c : ℕ) (xs : List ℕ) → length (written picks c xs) ≡ length picks
written_length picks c [] = refl
written_length picks c (x ∷ xs) = written_length (set picks x c) c xs ∙ length-set picks x c

-- k is one of the numbers
abbrev Among : ℕ → List ℕ → Type 0
Among k [] = ⊥
Among k (x ∷ xs) = (x ≡ k) ⊎ Among k xs

among_places : (f c : ℕ) (log : List ℕ) (k : ℕ) → slice_get log k ≡ Some c → Among (f + k) (places_from f c log)
among_places f c [] k e = absurd (none≢some c e)
among_places f c (x ∷ xs) zero e = subst (λ (b : Bool). Among (f + 0) (if b then f ∷ places_from (1 + f) c xs else places_from (1 + f) c xs)) (sym (eq-eqb x c (some_is x c e))) (inl (let z : f ≡ f + 0 = omega arith in z))
among_places f c (x ∷ xs) (suc k) e = either_way (eqb x c) (subst (λ (n : ℕ). Among n (places_from (1 + f) c xs)) (let z : 1 + f + k ≡ f + suc k = omega arith in z) (among_places (1 + f) c xs k e))
  where
    either_way : (b : Bool) → Among (f + suc k) (places_from (1 + f) c xs) → Among (f + suc k) (if b then f ∷ places_from (1 + f) c xs else places_from (1 + f) c xs)
    either_way true a = inr a
    either_way false a = a

eqb_is : (x c : ℕ) → eqb x c ≡ true → x ≡ c
eqb_is x c e = dite (ℕ_discrete x c) (λ z. z) (λ ne. absurd (let off : false ≡ true = sym (ne_eqb x c ne) ∙ e in cc))

-- j is such a place of the list, whose first place is f
abbrev IsPlaceOf : (f c : ℕ) → List ℕ → ℕ → Type 0
IsPlaceOf f c log j = (k : ℕ) × (j ≡ f + k) × (slice_get log k ≡ Some c)

by_test : (f c x : ℕ) (xs : List ℕ) (j : ℕ) (b : Bool) → (b ≡ true → x ≡ c) → (Among j (places_from (1 + f) c xs) → IsPlaceOf (1 + f) c xs j)
    → Among j (if b then f ∷ places_from (1 + f) c xs else places_from (1 + f) c xs) → IsPlaceOf f c (x ∷ xs) j
by_test f c x xs j true is later a = ⊎_elim (λ (e : f ≡ j). (0, (omega arith), ap (λ (z : ℕ). Some z) (is refl))) (λ (a : Among j (places_from (1 + f) c xs)). let t = later a in (suc t.0, (let s = t.1 in omega arith), t.2)) a
by_test f c x xs j false is later a = let t = later a in (suc t.0, (let s = t.1 in omega arith), t.2)

places_among : (f c : ℕ) (log : List ℕ) (j : ℕ) → Among j (places_from f c log) → IsPlaceOf f c log j
places_among f c [] j a = elim a [ ]
places_among f c (x ∷ xs) j a = by_test f c x xs j (eqb x c) (eqb_is x c) (λ b. places_among (1 + f) c xs j b) a

written_keeps : (picks : List ℕ) (c : ℕ) (xs : List ℕ) (k : ℕ) → slice_get picks k ≡ Some c → slice_get (written picks c xs) k ≡ Some c
written_keeps picks c [] k e = e
written_keeps picks c (x ∷ xs) k e = written_keeps (set picks x c) c xs k (dite (ℕ_discrete x k)
    (λ same. subst (λ (z : ℕ). slice_get (set picks z c) k ≡ Some c) (sym same) (slice_get-set_same picks k c c e))
    (λ ne. slice_get-set_other picks x k c ne ∙ e))

got_within : (xs : List ℕ) (k : ℕ) → k < length xs → (x : ℕ) × (slice_get xs k ≡ Some x)
got_within [] k h = absurd (omega arith)
got_within (x ∷ xs) zero h = (x, refl)
got_within (x ∷ xs) (suc k) h = got_within xs k (omega arith)

written_here : (picks : List ℕ) (c : ℕ) (xs : List ℕ) (k : ℕ) → k < length picks → Among k xs → slice_get (written picks c xs) k ≡ Some c
written_here picks c [] k inside a = elim a [ ]
written_here picks c (x ∷ xs) k inside a = ⊎_elim
    (λ (e : x ≡ k). written_keeps (set picks x c) c xs k (subst (λ (z : ℕ). slice_get (set picks z c) k ≡ Some c) (sym e) (let y = got_within picks k inside in slice_get-set_same picks k c y.0 y.1)))
    (λ (later : Among k xs). written_here (set picks x c) c xs k (let s = length-set picks x c in omega arith) later) a

written_else : (picks : List ℕ) (c : ℕ) (xs : List ℕ) (k : ℕ) → (Among k xs → ⊥) → slice_get (written picks c xs) k ≡ slice_get picks k
written_else picks c [] k none = refl
written_else picks c (x ∷ xs) k none = written_else (set picks x c) c xs k (λ a. none (inr a)) ∙ slice_get-set_other picks x k c (λ e. none (inl e))

-- the picks are as many as the log's callers, and those of callers below n are written
abbrev AreWritten : ℕ → List ℕ → List ℕ → Type 0
AreWritten n log picks = (length picks ≡ length log) × ((k x : ℕ) → slice_get log k ≡ Some x → x < n → slice_get picks k ≡ Some x)

one_written : (n : ℕ) (log picks : List ℕ) → AreWritten n log picks → AreWritten (suc n) log (written picks n (places n log))
one_written n log picks w = (
  written_length picks n (places n log) ∙ w.0,
  λ k x at below. dite (ℕ_discrete x n)
      (λ e. subst (λ (z : ℕ). slice_get (written picks n (places n log)) k ≡ Some z) (sym e) (written_here picks n (places n log) k (let a = w.0 in let b = within log k x at in omega arith)
      (subst (λ (z : ℕ). Among z (places n log)) (let z : 0 + k ≡ k = omega arith in z) (among_places 0 n log k (at ∙ ap (λ (z : ℕ). Some z) e)))))
      (λ ne. written_else picks n (places n log) k (λ a. let t = places_among 0 n log k a in ne (some_is x n (sym at ∙ (ap (slice_get log) (let s = t.1 in let z : k ≡ t.0 = omega arith in z) ∙ t.2)))) ∙ w.1 k x at (omega arith)),
)

none_written : (n : ℕ) (log picks : List ℕ) → ((k : ℕ) → slice_get log k ≡ Some n → ⊥) → AreWritten n log picks → AreWritten (suc n) log picks
none_written n log picks none w = (w.0, λ k x at below. dite (ℕ_discrete x n) (λ e. absurd (none k (at ∙ ap (λ (z : ℕ). Some z) e))) (λ ne. w.1 k x at (omega arith)))

below_got : (n : ℕ) (log : List ℕ) (k x : ℕ) → AreBelow n log → slice_get log k ≡ Some x → x < n
below_got n [] k x b e = absurd (none≢some x e)
below_got n (y ∷ ys) zero x b e = subst (λ (z : ℕ). z < n) (some_is y x e) b.0
below_got n (y ∷ ys) (suc k) x b e = below_got n ys k x b.1 e

past : (xs : List ℕ) (k : ℕ) → length xs ≤ k → slice_get xs k ≡ None
past [] k le = refl
past (x ∷ xs) zero le = absurd (omega arith)
past (x ∷ xs) (suc k) le = past xs k (omega arith)

missing : (xs : List ℕ) (k : ℕ) → slice_get xs k ≡ None → length xs ≤ k
missing [] k e = omega arith
missing (x ∷ xs) zero e = absurd (none≢some x (sym e))
missing (x ∷ xs) (suc k) e = let h = missing xs k e in omega arith

same_at : (log picks : List ℕ) (n : ℕ) → AreWritten n log picks → AreBelow n log → (k : ℕ) (o : Option ℕ) → slice_get log k ≡ o → slice_get picks k ≡ slice_get log k
same_at log picks n w below k None e = past picks k (let a = missing log k e in let b = w.0 in omega arith) ∙ sym e
same_at log picks n w below k (Some x) e = w.1 k x e (below_got n log k x below e) ∙ sym e

same_lists : (log picks : List ℕ) (n : ℕ) → AreWritten n log picks → AreBelow n log → picks ≡ log
same_lists log picks n w below = same_by_get picks log (λ k. same_at log picks n w below k (slice_get log k) refl)

long : (n x : ℕ) → length (replicate n x) ≡ n
long zero x = refl
long (suc n) x = ap suc (long n x)

widened : (n m : ℕ) (log : List ℕ) → ((x : ℕ) → x < n → x < m) → AreBelow n log → AreBelow m log
widened n m [] wide b = tt
widened n m (x ∷ xs) wide b = (wide x b.0, widened n m xs wide b.1)

module _ {L : Type 0} where
  all_are_written : (n : ℕ) (log picks : List ℕ) (held : List (Option (Held L))) → AreWritten n log picks
      → ((i : ℕ) (h : Held L) → slice_get held i ≡ Some (Some h) → h.stamps ≡ places (n + i) log)
      → ((i k : ℕ) → i < length held → slice_get log k ≡ Some (n + i) → (h : Held L) × (slice_get held i ≡ Some (Some h)))
      → AreWritten (n + length held) log (all_written picks n held)
  all_are_written n log picks [] w stamps there = subst (λ (z : ℕ). AreWritten z log picks) (let e : n ≡ n + 0 = omega arith in e) w
  all_are_written n log picks (None ∷ held) w stamps there = subst (λ (z : ℕ). AreWritten z log (all_written picks (suc n) held)) (let e : suc n + length held ≡ n + suc (length held) = omega arith in e)
      (all_are_written (suc n) log picks held (none_written n log picks (λ k e. let y = there 0 k (omega arith) (e ∙ ap (λ (z : ℕ). Some z) (let s : n ≡ n + 0 = omega arith in s)) in none≢some y.0 (some_is None (Some y.0) y.1)) w)
      (λ i h e. stamps (suc i) h e ∙ ap (λ (z : ℕ). places z log) (let s : n + suc i ≡ suc n + i = omega arith in s))
      (λ i k below e. there (suc i) k (omega arith) (e ∙ ap (λ (z : ℕ). Some z) (let s : suc n + i ≡ n + suc i = omega arith in s))))
  all_are_written n log picks (Some h ∷ held) w stamps there = subst (λ (z : ℕ). AreWritten z log (all_written (written picks n h.stamps) (suc n) held)) (let e : suc n + length held ≡ n + suc (length held) = omega arith in e)
      (all_are_written (suc n) log (written picks n h.stamps) held
      (subst (λ (xs : List ℕ). AreWritten (suc n) log (written picks n xs)) (sym (stamps 0 h refl ∙ ap (λ (z : ℕ). places z log) (let s : n + 0 ≡ n = omega arith in s))) (one_written n log picks w))
      (λ i h e. stamps (suc i) h e ∙ ap (λ (z : ℕ). places z log) (let s : n + suc i ≡ suc n + i = omega arith in s))
      (λ i k below e. there (suc i) k (omega arith) (e ∙ ap (λ (z : ℕ). Some z) (let s : suc n + i ≡ n + suc i = omega arith in s))))

  -- the callers of a log of n callers, of whom each is in the list with the places at which it stands
  pub picks_are : (log : List ℕ) (held : List (Option (Held L))) (n : ℕ) → AreBelow n log → ((i : ℕ) (h : Held L) → slice_get held i ≡ Some (Some h) → h.stamps ≡ places i log)
      → ((i : ℕ) → i < n → (h : Held L) × (slice_get held i ≡ Some (Some h))) → all_written (replicate (length log) 0) 0 held ≡ log
  picks_are log held n below stamps there = same_lists log _ (0 + length held)
      (all_are_written 0 log (replicate (length log) 0) held (long (length log) 0, λ k x at less. absurd (omega arith))
      (λ i h e. stamps i h e ∙ ap (λ (z : ℕ). places z log) (let z : i ≡ 0 + i = omega arith in z))
      (λ i k inside at. there i (let b = below_got n log k (0 + i) below at in omega arith)))
      (widened n (0 + length held) log (λ x less. let y = there x less in let z = within held x (Some y.0) y.1 in omega arith) below)

  -- the locals of a list that has just the callers of ls are ls
  pub locals_are : (held : List (Option (Held L))) (ls : List L) → ((i : ℕ) → i < length ls → (h : Held L) × (slice_get held i ≡ Some (Some h))) → ((i : ℕ) (h : Held L) → slice_get held i ≡ Some (Some h) → slice_get ls i ≡ Some h.local)
      → locals_of held ≡ ls
  locals_are [] [] there is = refl
  locals_are [] (y ∷ ys) there is = let x = there 0 (omega arith) in absurd (none≢some (Some x.0) x.1)
  locals_are (None ∷ held) [] there is = locals_are held [] (λ i less. absurd (omega arith)) (λ i h e. is (suc i) h e)
  locals_are (None ∷ held) (y ∷ ys) there is = let x = there 0 (omega arith) in absurd (none≢some x.0 (some_is None (Some x.0) x.1))
  locals_are (Some h ∷ held) [] there is = absurd (none≢some h.local (is 0 h refl))
  locals_are (Some h ∷ held) (y ∷ ys) there is = let same : h.local ≡ y = sym (some_is y h.local (is 0 h refl)) in
      let rest : locals_of held ≡ ys = locals_are held ys (λ i less. there (suc i) (omega arith)) (λ i h e. is (suc i) h e) in λ k. same k ∷ rest k

module _ {L : Type 0} where
  pub locals_append : (xs : List (Option (Caller L))) (o : Option (Caller L)) (m : Caller L) → o ≡ Some m → locals_of (map shown_of (xs ++ o ∷ [])) ≡ locals_of (map shown_of xs) ++ m.local ∷ []
  locals_append [] o m e = ap (λ (z : Option (Caller L)). locals_of (map shown_of (z ∷ []))) e
  locals_append (None ∷ xs) o m e = locals_append xs o m e
  locals_append (Some x ∷ xs) o m e = ap (λ l. x.local ∷ l) (locals_append xs o m e)

  pub locals_stay : (xs : List (Option (Caller L))) (o : Option (Caller L)) → o ≡ None → locals_of (map shown_of (xs ++ o ∷ [])) ≡ locals_of (map shown_of xs)
  locals_stay [] o e = ap (λ (z : Option (Caller L)). locals_of (map shown_of (z ∷ []))) e
  locals_stay (None ∷ xs) o e = locals_stay xs o e
  locals_stay (Some x ∷ xs) o e = ap (λ l. x.local ∷ l) (locals_stay xs o e)

  -- the callers up to one more are written
  pub written_some : (picks : List ℕ) (c : ℕ) (xs : List (Option (Caller L))) (i : ℕ) (m : Caller L) → slice_get xs i ≡ Some (Some m)
      → all_written picks c (map shown_of (take (suc i) xs)) ≡ written (all_written picks c (map shown_of (take i xs))) (c + i) m.stamps.items
  written_some picks c [] i m e = absurd (none≢some (Some m) e)
  written_some picks c (x ∷ xs) zero m e = ap (λ (z : Option (Caller L)). all_written picks c (shown_of z ∷ [])) (some_is x (Some m) e) ∙ ap (λ (n : ℕ). written picks n m.stamps.items) (let z : c ≡ c + 0 = omega arith in z)
  written_some picks c (None ∷ xs) (suc i) m e = written_some picks (suc c) xs i m e ∙ ap (λ (n : ℕ). written (all_written picks (suc c) (map shown_of (take i xs))) n m.stamps.items) (let z : suc c + i ≡ c + suc i = omega arith in z)
  written_some picks c (Some y ∷ xs) (suc i) m e = written_some (written picks c y.stamps.items) (suc c) xs i m e
      ∙ ap (λ (n : ℕ). written (all_written (written picks c y.stamps.items) (suc c) (map shown_of (take i xs))) n m.stamps.items) (let z : suc c + i ≡ c + suc i = omega arith in z)

  pub written_none : (picks : List ℕ) (c : ℕ) (xs : List (Option (Caller L))) (i : ℕ) → slice_get xs i ≡ Some None
      → all_written picks c (map shown_of (take (suc i) xs)) ≡ all_written picks c (map shown_of (take i xs))
  written_none picks c [] i e = absurd (none≢some None e)
  written_none picks c (x ∷ xs) zero e = ap (λ (z : Option (Caller L)). all_written picks c (shown_of z ∷ [])) (some_is x None e)
  written_none picks c (None ∷ xs) (suc i) e = written_none picks (suc c) xs i e
  written_none picks c (Some y ∷ xs) (suc i) e = written_none (written picks c y.stamps.items) (suc c) xs i e

pub got_at : {X : Type 0} (xs : List X) (i : ℕ) (x : X) → i < length xs → x ≡ get_or xs i x → slice_get xs i ≡ Some x
got_at [] i x inside is = absurd (omega arith)
got_at (y ∷ ys) zero x inside is = ap (λ z. Some z) (sym is)
got_at (y ∷ ys) (suc i) x inside is = got_at ys i x (omega arith) is
