-- What splits, joins and events leave of the callers of a pass.
use Rattle.std.proofs.Common.{◌≡◌, ◌≢◌, ◌⊎◌, inl, inr, ℕ, zero, suc, ◌<◌, ◌≤◌, List, [], ◌∷◌, length, Option, Some, None, Result, Ok, Err, slice_get, slice_set, refl, sym, ap, ◌∙◌, subst, arith}
use Rattle.vm_model.specs.History.{Local}
use Rattle.vm_model.specs.Parts.{Region, wants}
use Rattle.section_table.specs.declared.views.Held.{Held}
use Rattle.section_table.specs.declared.views.View.{View}
use Rattle.section_table.specs.declared.acted.Acted.{Acted}
use Rattle.section_table.specs.declared.acted.Acted.TheVariants.{Moved, Ended, Halted}
use Rattle.section_table.specs.PassViews.{Has, HasCaller, without, alone, both_of, with_event, starting}
use Rattle.section_table.specs.Acts.{Acts}
use Rattle.section_table.proofs.ElementsByPlace.{got_set}
use Rattle.section_table.proofs.SplitPasses.{only_that, only_here}
use Rattle.section_table.proofs.JoinedPasses.{from_one, in_first, in_second}
use Rattle.caller_threads.specs.Core.{core}
use Rattle.caller_threads.specs.Workers.{HasOnly, AllEnded}

abbrev V : Type 0
V = View Region Local

set_else : {X : Type 0} (xs : List X) (i j : ℕ) (x y : X) → i ≢ j → slice_get xs i ≡ Some y → slice_get (slice_set xs j x) i ≡ Some y
set_else [] i j x y other at = cc
set_else (z ∷ xs) zero zero x y other at = absurd (other refl)
set_else (z ∷ xs) zero (suc j) x y other at = at
set_else (z ∷ xs) (suc i) zero x y other at = at
set_else (z ∷ xs) (suc i) (suc j) x y other at = set_else xs i j x y (λ same. other (ap suc same)) at

set_here : {X : Type 0} (xs : List X) (i : ℕ) (x y : X) → slice_get xs i ≡ Some y → slice_get (slice_set xs i x) i ≡ Some x
set_here [] i x y at = cc
set_here (z ∷ xs) zero x y at = refl
set_here (z ∷ xs) (suc i) x y at = set_here xs i x y at

-- a split leaves all others, and gives a pass with one caller
pub still_has : (v : V) (k caller : ℕ) → k ≢ caller → HasCaller k v → HasCaller k (without caller v)
still_has v k caller other has = (has.0, set_else v.held k caller None (Some has.0) other has.1)

pub alone_has : (v : V) (caller : ℕ) → HasCaller caller v → HasOnly caller (alone caller v)
alone_has v caller has = record {
  has = (has.0, only_here caller v.held (Some has.0) has.1);
  only = λ k h at. (only_that caller v.held k h at).0;
}

-- a join has the callers of both
pub has_first : (v w : V) (k : ℕ) → HasCaller k v → HasCaller k (both_of v w)
has_first v w k has = (has.0, in_first v.held w.held k has.0 has.1)

pub has_second : (v w : V) (k : ℕ) → HasCaller k w → HasCaller k (both_of v w)
has_second v w k has = by (slice_get v.held k) refl
  where
    by : (o : Option (Option (Held Local))) → slice_get v.held k ≡ o → HasCaller k (both_of v w)
    by (Some (Some h)) at = has_first v w k (h, at)
    by (Some None) at = (has.0, in_second v.held w.held k has.0 (λ y there. let e : Some (Some y) ≡ Some None = sym there ∙ at in cc) has.1)
    by None at = (has.0, in_second v.held w.held k has.0 (λ y there. let e : Some (Some y) ≡ None = sym there ∙ at in cc) has.1)

-- all callers below one, and this one
pub all_more : (v w : V) (n : ℕ) → ((k : ℕ) → k < n → HasCaller k v) → HasCaller n w → (k : ℕ) → k ≤ n → HasCaller k (both_of v w)
all_more v w n all last k within = by (below_or k n within)
  where
    below_or : (k n : ℕ) → k ≤ n → (k < n) ⊎ (k ≡ n)
    below_or zero zero h = inr refl
    below_or zero (suc n) h = inl (omega arith)
    below_or (suc k) zero h = absurd (omega arith)
    below_or (suc k) (suc n) h = elim (below_or k n (omega arith)) [ inl low ↦ inl (omega arith) | inr same ↦ inr (ap suc same) ]

    by : (k < n) ⊎ (k ≡ n) → HasCaller k (both_of v w)
    by (inl low) = has_first v w k (all k low)
    by (inr same) = subst (λ (m : ℕ). HasCaller m (both_of v w)) (sym same) (has_second v w n last)

-- at the start the pass has all callers
pub starting_has : (locals : List Local) (k : ℕ) → k < length locals → HasCaller {R = Region} k (starting locals)
starting_has [] k low = absurd (omega arith)
starting_has (l ∷ locals) zero low = (_, refl)
starting_has (l ∷ locals) (suc k) low = let rest = starting_has locals k (omega arith) in (rest.0, rest.1)

pub both_ended : (v w : V) → AllEnded v → AllEnded w → AllEnded (both_of v w)
both_ended v w first second k h at = by (from_one v.held w.held k h at)
  where
    by : Has v k h ⊎ Has w k h → wants h.local ≡ None
    by (inl there) = first k h there
    by (inr there) = second k h there

-- an event of the caller
event_only : (v : V) (caller : ℕ) (h : Held Local) (l : Local) (stamp : ℕ) → HasOnly caller v → HasOnly caller (with_event caller h l stamp v)
event_only v caller h l stamp is = record {
  has = (_, set_here v.held caller _ (Some is.has.0) is.has.1);
  only = λ k held at. by k held (got_set v.held caller k _ (Some held) at);
}
  where
    by : (k : ℕ) (held : Held Local) → {X : Type 0} → ((k ≡ caller) × X) ⊎ ((k ≢ caller) × Has v k held) → k ≡ caller
    by k held (inl here) = here.0
    by k held (inr there) = is.only k held there.1

pub acts_only : {E : Type 0} (caller : ℕ) (v w : V) (r : Result Acted E) → Acts core caller v w r → HasOnly caller v → HasOnly caller w
acts_only caller v w (Ok (Moved stamp)) acts is = subst (HasOnly caller) (sym acts.leaves) (event_only v caller acts.held (core.after acts.held.local acts.region).0 stamp is)
acts_only caller v w (Ok Ended) acts is = subst (HasOnly caller) (sym acts.same) is
acts_only caller v w (Ok Halted) acts is = subst (HasOnly caller) (sym acts) (record { has = is.has; only = is.only })
acts_only caller v w (Err error) acts is = subst (HasOnly caller) (sym acts.leaves) (record { has = is.has; only = is.only })

-- a pass whose only caller has ended
pub ended_only : (caller : ℕ) (v w : V) (held : Held Local) → HasOnly caller w → Has v caller held → wants held.local ≡ None → w ≡ v → AllEnded w
ended_only caller v w held is has ended same k h at =
    let here : k ≡ caller = is.only k h at in
    let there : slice_get v.held caller ≡ Some (Some h) = subst (λ (u : V). slice_get u.held caller ≡ Some (Some h)) same (subst (λ n. slice_get w.held n ≡ Some (Some h)) here at) in
    let e : Some (Some h) ≡ Some (Some held) = sym there ∙ has in
    let one : h ≡ held = cc in
    ap (λ (x : Held Local). wants x.local) one ∙ ended
