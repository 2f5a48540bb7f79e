-- A pass keeps its callers through an event; a split shares them out, and a join brings them together.
use Rattle.std.proofs.Common.{◌≡◌, ◌≢◌, ℕ, zero, suc, ◌<◌, List, [], ◌∷◌, set, Option, Some, None, Result, Ok, Err, slice_get, IfOk, refl, sym, ap, ◌∙◌, subst, arith}
use Rattle.vm_model.proofs.Elements.{slice_get-set_other}
use Rattle.section_table.specs.declared.views.View.{View}
use Rattle.section_table.specs.declared.acted.Acted.{Acted}
use Rattle.section_table.specs.declared.acted.Acted.TheVariants.{Moved, Ended, Halted}
use Rattle.section_table.specs.Meanings.{Meanings}
use Rattle.section_table.specs.PassViews.{HasCaller, HasAll, merged, starting, without, alone, both_of}
use Rattle.section_table.specs.Acts.{HasMoved, Acts}
use Rattle.section_table.proofs.ElementsByPlace.{none≢some}
use Rattle.section_table.proofs.SplitPasses.{only_here}
use Rattle.section_table.proofs.JoinedPasses.{in_first}
use Rattle.tests_turns.specs.PassCallers.{KeepsCallers}

module _ {X : Type 0} where
  set_has : (xs : List (Option X)) (place i : ℕ) (x y : X) → slice_get xs i ≡ Some (Some y) → (z : X) × (slice_get (set xs place (Some x)) i ≡ Some (Some z))
  set_has [] place i x y e = absurd (none≢some (Some y) e)
  set_has (a ∷ xs) zero zero x y e = (x, refl)
  set_has (a ∷ xs) zero (suc i) x y e = (y, e)
  set_has (a ∷ xs) (suc place) zero x y e = (y, e)
  set_has (a ∷ xs) (suc place) (suc i) x y e = set_has xs place i x y e

  merged_has : (xs ys : List (Option X)) (i : ℕ) (y : X) → slice_get ys i ≡ Some (Some y) → (z : X) × (slice_get (merged xs ys) i ≡ Some (Some z))
  merged_has [] ys i y e = (y, e)
  merged_has (a ∷ xs) [] i y e = absurd (none≢some (Some y) e)
  merged_has (Some a ∷ xs) (b ∷ ys) zero y e = (a, refl)
  merged_has (None ∷ xs) (b ∷ ys) zero y e = (y, e)
  merged_has (Some a ∷ xs) (b ∷ ys) (suc i) y e = merged_has xs ys i y e
  merged_has (None ∷ xs) (b ∷ ys) (suc i) y e = merged_has xs ys i y e

pub ok_map : {A E : Type 0} {P Q : A → Type 0} (res : Result A E) → ((a : A) → P a → Q a) → IfOk res P → IfOk res Q
ok_map (Ok a) f p = f a p
ok_map (Err e) f p = p

module _ {R L : Type 0} where
  moved_keeps : (m : Meanings R L) (caller : ℕ) (v w : View R L) (stamp : ℕ) → HasMoved m caller v w stamp → KeepsCallers v w
  moved_keeps m caller v w stamp e i has = subst (HasCaller i) (sym e.leaves) (set_has v.held caller i _ has.0 has.1)

  pub acts_keep : {E : Type 0} (m : Meanings R L) (caller : ℕ) (v w : View R L) (res : Result Acted E) → Acts m caller v w res → KeepsCallers v w
  acts_keep m caller v w (Ok (Moved stamp)) e i has = moved_keeps m caller v w stamp e i has
  acts_keep m caller v w (Ok Ended) e i has = subst (HasCaller i) (sym e.same) has
  acts_keep m caller v w (Ok Halted) e i has = subst (HasCaller i) (sym e) has
  acts_keep m caller v w (Err error) e i has = subst (HasCaller i) (sym e.leaves) has

  pub starting_has : (a b : L) (locals : List L) (v : View R L) → locals ≡ a ∷ b ∷ [] → v ≡ starting locals → HasAll 2 v
  starting_has a b locals v two is i below = subst (HasCaller i) (sym (is ∙ ap starting two)) (has i below)
    where
      has : (i : ℕ) → i < 2 → HasCaller i (starting {R = R} (a ∷ b ∷ []))
      has zero below = (record { local = a; stamps = [] }, refl)
      has (suc zero) below = (record { local = b; stamps = [] }, refl)
      has (suc (suc i)) below = absurd (omega arith)

  pub without_has : (v w : View R L) (caller i : ℕ) → caller ≢ i → w ≡ without caller v → HasCaller i v → HasCaller i w
  without_has v w caller i apart is has = subst (HasCaller i) (sym is) (has.0, slice_get-set_other v.held caller i None apart ∙ has.1)

  pub alone_has : (v w : View R L) (caller : ℕ) → w ≡ alone caller v → HasCaller caller v → HasCaller caller w
  alone_has v w caller is has = subst (HasCaller caller) (sym is) (has.0, only_here caller v.held (Some has.0) has.1)

  pub both_have : (v w u : View R L) → u ≡ both_of v w → HasCaller 0 v → HasCaller 1 w → HasAll 2 u
  both_have v w u is first second i below = subst (HasCaller i) (sym is) (has i below)
    where
      has : (i : ℕ) → i < 2 → HasCaller i (both_of v w)
      has zero below = (first.0, in_first v.held w.held 0 first.0 first.1)
      has (suc zero) below = merged_has v.held w.held 1 second.0 second.1
      has (suc (suc i)) below = absurd (omega arith)
