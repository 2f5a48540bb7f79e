-- Runs are the one normal list of spans with their pages.
use Rattle.std.proofs.Common.{◌≡◌, ◌≢◌, ℕ, zero, suc, ◌+◌, ◌<◌, ◌≤◌, ◌⊎◌, inl, inr, Bool, true, false, ◌||◌, if◌then◌else◌, ◌==◌, List, [], ◌∷◌, refl, ap, sym, ◌∙◌, subst, arith}
use Rattle.std.proofs.lemmas.Bool.Decides.{nat_tests}
use Rattle.vm_model.specs.declared.areas.Span.{Span}
use Rattle.vm_model.specs.Space.{span, end_of, holds, covers, runs_from, joined, runs, AreSeparateFrom, is_free_at, FreeRunsAreTheOnlyOnes}

pub holds-in : (s : Span) (p : ℕ) → s.start ≤ p → p < s.start + s.pages → holds s p ≡ true
holds-in s p a b = grind (arith, nat_tests)

pub holds-below : (s : Span) (p : ℕ) → p < s.start → holds s p ≡ false
holds-below s p h = grind (arith, nat_tests)

pub holds-above : (s : Span) (p : ℕ) → s.start + s.pages ≤ p → holds s p ≡ false
holds-above s p h = grind (arith, nat_tests)

or_false : (a b : Bool) → a ≡ false → b ≡ false → (a || b) ≡ false
or_false a b p q = grind arith

or_true : (a b : Bool) → a ≡ true → (a || b) ≡ true
or_true a b p = grind arith

-- below its start a normal list covers nothing
pub covers-below : (low : ℕ) (spans : List Span) (p : ℕ) → AreSeparateFrom low spans → p < low → covers spans p ≡ false
covers-below low [] p n h = refl
covers-below low (s ∷ spans) p n h = or_false _ _ (holds-below s p (omega arith)) (covers-below (suc (end_of s)) spans p n.2 (omega arith))

pub covers-head : (s : Span) (spans : List Span) (p : ℕ) → s.start ≤ p → p < s.start + s.pages → covers (s ∷ spans) p ≡ true
covers-head s spans p a b = or_true _ _ (holds-in s p a b)

clash : {A : Type 0} (x y : Bool) → x ≡ true → y ≡ false → x ≡ y → A
clash x y p q e = cc

same_span : (s t : Span) → s.start ≡ t.start → s.pages ≡ t.pages → s ≡ t
same_span s t a b = λ i. record { start = a i; pages = b i }

AreAlike : List Span → List Span → Type 0
AreAlike ss ts = (p : ℕ) → covers ss p ≡ covers ts p

-- two normal lists that cover the same pages begin alike
not_earlier : (s t : Span) (ss ts : List Span) (low : ℕ) → AreSeparateFrom low (s ∷ ss) → AreSeparateFrom low (t ∷ ts)
    → ((p : ℕ) → covers (s ∷ ss) p ≡ covers (t ∷ ts) p) → s.start < t.start → ⊥
not_earlier s t ss ts low m n alike h =
    clash _ _ (covers-head s ss s.start (omega arith) (omega arith)) (covers-below t.start (t ∷ ts) s.start (omega arith, n.1, n.2) h) (alike s.start)

not_shorter : (s t : Span) (ss ts : List Span) (low : ℕ) → AreSeparateFrom low (s ∷ ss) → AreSeparateFrom low (t ∷ ts)
    → ((p : ℕ) → covers (s ∷ ss) p ≡ covers (t ∷ ts) p) → s.start ≡ t.start → s.pages < t.pages → ⊥
not_shorter s t ss ts low m n alike e h =
    clash _ _ (covers-head t ts (end_of s) (omega arith) (omega arith))
    (or_false _ _ (holds-above s (end_of s) (omega arith)) (covers-below (suc (end_of s)) ss (end_of s) m.2 (omega arith)))
    (sym (alike (end_of s)))

flip : (ss ts : List Span) → ((p : ℕ) → covers ss p ≡ covers ts p) → (p : ℕ) → covers ts p ≡ covers ss p
flip ss ts alike p = sym (alike p)

same_number : (a b : ℕ) → (a < b → ⊥) → (b < a → ⊥) → a ≡ b
same_number a b f g = omega arith

low_or_high : (a b : ℕ) → (a < b) ⊎ (b ≤ a)
low_or_high a b = grind arith

same_head : (low : ℕ) (s t : Span) (ss ts : List Span) → AreSeparateFrom low (s ∷ ss) → AreSeparateFrom low (t ∷ ts) → ((p : ℕ) → covers (s ∷ ss) p ≡ covers (t ∷ ts) p) → t ≡ s
same_head low s t ss ts m n alike =
    let e : s.start ≡ t.start = same_number _ _ (not_earlier s t ss ts low m n alike) (not_earlier t s ts ss low n m (flip (s ∷ ss) (t ∷ ts) alike)) in
    same_span t s (sym e) (same_number _ _ (not_shorter t s ts ss low n m (flip (s ∷ ss) (t ∷ ts) alike) (sym e)) (not_shorter s t ss ts low m n alike e))

or_cancel : (a b c : Bool) → a ≡ false → (a || b) ≡ (a || c) → b ≡ c
or_cancel true b c p q = cc
or_cancel false b c p q = q

same_tails : (low : ℕ) (s : Span) (ss ts : List Span) → AreSeparateFrom low (s ∷ ss) → AreSeparateFrom low (s ∷ ts)
    → ((p : ℕ) → covers (s ∷ ss) p ≡ covers (s ∷ ts) p) → (p : ℕ) → covers ss p ≡ covers ts p
same_tails low s ss ts m n alike p =
    elim (low_or_high p (suc (end_of s))) [
      | inl h ↦ covers-below (suc (end_of s)) ss p m.2 h ∙ sym (covers-below (suc (end_of s)) ts p n.2 h)
      | inr h ↦ or_cancel (holds s p) _ _ (holds-above s p (omega arith)) (alike p)
    ]

pub same_runs : (low : ℕ) (ss ts : List Span) → AreSeparateFrom low ss → AreSeparateFrom low ts → ((p : ℕ) → covers ss p ≡ covers ts p) → ss ≡ ts
same_runs low [] [] m n alike = refl
same_runs low [] (t ∷ ts) m n alike = clash _ _ (covers-head t ts t.start (omega arith) (omega arith)) refl (sym (alike t.start))
same_runs low (s ∷ ss) [] m n alike = clash _ _ (covers-head s ss s.start (omega arith) (omega arith)) refl (alike s.start)
same_runs low (s ∷ ss) (t ∷ ts) m n alike =
    let e : t ≡ s = same_head low s t ss ts m n alike in
    let n' : AreSeparateFrom low (s ∷ ts) = subst (λ u. AreSeparateFrom low (u ∷ ts)) e n in
    let alike' : (p : ℕ) → covers (s ∷ ss) p ≡ covers (s ∷ ts) p = subst (λ u. (p : ℕ) → covers (s ∷ ss) p ≡ covers (u ∷ ts) p) e alike in
    ap (λ us. s ∷ us) (same_runs (suc (end_of s)) ss ts m.2 n'.2 (same_tails low s ss ts m n' alike')) ∙ ap (λ u. u ∷ ts) (sym e)

same_test : (a b : ℕ) → (a == b) ≡ true → a ≡ b
same_test a b h = grind (arith, nat_tests)

other_test : (a b : ℕ) → (a == b) ≡ false → a ≢ b
other_test a b h = grind (arith, nat_tests)

-- a page put before a normal list
normal-joined_by : (p : ℕ) (s : Span) (spans : List Span) (b : Bool) → (s.start == suc p) ≡ b → AreSeparateFrom (suc p) (s ∷ spans)
    → AreSeparateFrom p (if b then span p (suc s.pages) ∷ spans else span p 1 ∷ s ∷ spans)
normal-joined_by p s spans true e n =
    let is : s.start ≡ suc p = same_test _ _ e in
    let same_end : suc (end_of s) ≡ suc (p + suc s.pages) = omega arith in
    (omega arith, omega arith, subst (λ low. AreSeparateFrom low spans) same_end n.2)
normal-joined_by p s spans false e n =
    let is : s.start ≢ suc p = other_test _ _ e in
    (omega arith, omega arith, (omega arith, n.1, n.2))

normal-joined : (p : ℕ) (spans : List Span) → AreSeparateFrom (suc p) spans → AreSeparateFrom p (joined p spans)
normal-joined p [] n = (omega arith, omega arith, tt)
normal-joined p (s ∷ spans) n = normal-joined_by p s spans _ refl n

-- separate spans begin from any lower number on
pub AreSeparateFrom-weaken : (low low' : ℕ) (spans : List Span) → low ≤ low' → AreSeparateFrom low' spans → AreSeparateFrom low spans
AreSeparateFrom-weaken low low' [] h n = tt
AreSeparateFrom-weaken low low' (s ∷ spans) h n = (omega arith, n.1, n.2)

pub normal-runs_from : (p : ℕ) (taken : List Bool) → AreSeparateFrom p (runs_from p taken)
normal-runs_from p [] = tt
normal-runs_from p (true ∷ taken) = AreSeparateFrom-weaken p (suc p) _ (omega arith) (normal-runs_from (suc p) taken)
normal-runs_from p (false ∷ taken) = normal-joined p _ (normal-runs_from (suc p) taken)

-- it covers that page and what the list covers
holds_one : (p q : ℕ) → holds (span p 1) q ≡ (q == p)
holds_one p q = grind (arith, nat_tests)

holds_more : (p q : ℕ) (s : Span) → s.start ≡ suc p → holds (span p (suc s.pages)) q ≡ ((q == p) || holds s q)
holds_more p q s e = grind (arith, nat_tests)

or_assoc : (a b c : Bool) → ((a || b) || c) ≡ (a || (b || c))
or_assoc true b c = refl
or_assoc false b c = refl

covers-joined_by : (p q : ℕ) (s : Span) (spans : List Span) (b : Bool) → (s.start == suc p) ≡ b
    → covers (if b then span p (suc s.pages) ∷ spans else span p 1 ∷ s ∷ spans) q ≡ ((q == p) || covers (s ∷ spans) q)
covers-joined_by p q s spans true e = ap (λ b. b || covers spans q) (holds_more p q s (same_test _ _ e)) ∙ or_assoc (q == p) (holds s q) (covers spans q)
covers-joined_by p q s spans false e = ap (λ b. b || covers (s ∷ spans) q) (holds_one p q)

covers-joined : (p q : ℕ) (spans : List Span) → covers (joined p spans) q ≡ ((q == p) || covers spans q)
covers-joined p q [] = ap (λ b. b || false) (holds_one p q)
covers-joined p q (s ∷ spans) = covers-joined_by p q s spans _ refl

-- the pages of the runs are those that are not taken
next_place : (p k : ℕ) → p + suc k ≡ suc p + k
next_place p k = omega arith

test_self : (p : ℕ) → (p + 0 == p) ≡ true
test_self p = grind (arith, nat_tests)

test_later : (p k : ℕ) → (p + suc k == p) ≡ false
test_later p k = grind (arith, nat_tests)

pub covers-runs_from : (p : ℕ) (taken : List Bool) (k : ℕ) → covers (runs_from p taken) (p + k) ≡ is_free_at taken k
covers-runs_from p [] k = refl
covers-runs_from p (true ∷ taken) zero = covers-below (suc p) _ _ (normal-runs_from (suc p) taken) (omega arith)
covers-runs_from p (true ∷ taken) (suc k) = ap (covers (runs_from (suc p) taken)) (next_place p k) ∙ covers-runs_from (suc p) taken k
covers-runs_from p (false ∷ taken) zero = covers-joined p (p + 0) _ ∙ ap (λ b. b || covers (runs_from (suc p) taken) (p + 0)) (test_self p)
covers-runs_from p (false ∷ taken) (suc k) =
    covers-joined p (p + suc k) _ ∙ ap (λ b. b || covers (runs_from (suc p) taken) (p + suc k)) (test_later p k)
    ∙ ap (covers (runs_from (suc p) taken)) (next_place p k) ∙ covers-runs_from (suc p) taken k

-- so they are the only such list
is_place : (k : ℕ) → 0 + k ≡ k
is_place k = omega arith

pub covers-runs : (taken : List Bool) (page : ℕ) → covers (runs taken) page ≡ is_free_at taken page
covers-runs taken page = ap (covers (runs taken)) (sym (is_place page)) ∙ covers-runs_from 0 taken page

pub only_runs : (taken : List Bool) (spans : List Span) → AreSeparateFrom 0 spans → ((page : ℕ) → covers spans page ≡ is_free_at taken page) → spans ≡ runs taken
only_runs taken spans separate alike =
    same_runs 0 spans (runs taken) separate (normal-runs_from 0 taken) (λ page. alike page ∙ sym (covers-runs taken page))

pub free_runs_are_the_only_ones : FreeRunsAreTheOnlyOnes
free_runs_are_the_only_ones taken = record {
  separate = normal-runs_from 0 taken;
  cover = covers-runs taken;
  only = only_runs taken;
}
