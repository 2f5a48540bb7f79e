-- One try of a caller, from the seat's view to the pass.
use Rattle.std.proofs.Common.{◌≡◌, ℕ, ◌+◌, ◌<◌, ◌≤◌, Bool, true, false, List, [], ◌∷◌, ◌++◌, zero, suc, length, map, set, get_or, refl, sym, ap, ◌∙◌, subst, arith, Option, Some, None, Ok, Err, Result, slice_get, ◌⊎◌, ⊎_elim, ◌≢◌}
use Rattle.vm_model.specs.Run.{StandTogether}
use Rattle.section_table.specs.declared.views.Held.{Held}
use Rattle.section_table.specs.declared.views.View.{View}
use Rattle.section_table.specs.declared.caller.Caller.{Caller}
use Rattle.section_table.specs.declared.acted.Acted.{Acted}
use Rattle.section_table.specs.declared.acted.Acted.TheVariants.{Moved}
use Rattle.section_table.specs.Meanings.{Meanings}
use Rattle.section_table.specs.Shown.{held_of, shown_of}
use Rattle.section_table.specs.PassViews.{Has, HasCaller, IsWithin, flagged, holding, with_event}
use Rattle.section_table.specs.TableSteps.{Meet}
use Rattle.section_table.specs.Attempts.{IsEvent, MakesSection, IsEventOf, Attempts}
use Rattle.section_table.specs.Acts.{HasMoved, HasRefused}
use Rattle.section_table.proofs.ElementsByPlace.{some_is, none≢some, got_set, map_got, got_map}

module _ {X : Type 0} where
  pub set_twice : (xs : List X) (i : ℕ) (a b : X) → set (set xs i a) i b ≡ set xs i b
  set_twice [] i a b = refl
  set_twice (x ∷ xs) zero a b = refl
  set_twice (x ∷ xs) (suc i) a b = λ k. x ∷ set_twice xs i a b k

  pub set_again : (xs : List X) (i : ℕ) (a : X) → slice_get xs i ≡ Some a → set xs i a ≡ xs
  set_again [] i a e = refl
  set_again (x ∷ xs) zero a e = λ k. sym (some_is x a e) k ∷ xs
  set_again (x ∷ xs) (suc i) a e = λ k. x ∷ set_again xs i a e k

pub found : {X : Type 0} (xs : List X) (i : ℕ) (a b : X) → slice_get xs i ≡ Some b → a ≡ get_or xs i a → a ≡ b
found [] i a b e is = absurd (none≢some b e)
found (x ∷ xs) zero a b e is = is ∙ some_is x b e
found (x ∷ xs) (suc i) a b e is = found xs i a b e is

pub not_seen : (saw found : Bool) → (saw ≡ true → found ≡ true) → found ≡ false → saw ≡ false
not_seen false found again unfound = refl
not_seen true found again unfound = absurd (let e : true ≡ false = sym (again refl) ∙ unfound in cc)

module _ {L : Type 0} where
  shown_some : (o : Option (Caller L)) (h : Held L) → shown_of o ≡ Some h → (x : Caller L) × (o ≡ Some x) × (held_of x ≡ h)
  shown_some None h e = absurd (none≢some h e)
  shown_some (Some x) h e = (x, refl, some_is (held_of x) h e)

  pub caller_of : (cs : List (Option (Caller L))) (c : ℕ) (h : Held L) → slice_get (map shown_of cs) c ≡ Some (Some h) → (x : Caller L) × (slice_get cs c ≡ Some (Some x)) × (held_of x ≡ h)
  caller_of cs c h e = let o = map_got shown_of cs c (Some h) e in let x = shown_some o.0 h o.2 in (x.0, o.1 ∙ ap (λ z. Some z) x.1, x.2)

module _ {R L : Type 0} where
  pub unflagged : (v : View R L) → v.saw_halt ≡ false → flagged false v.made_halt v ≡ v
  unflagged v e = λ i. record v { saw_halt = sym e i }

  pub unheld : (v w : View R L) → v.hand ≡ None → w.hand ≡ None → holding None w ≡ holding None v → w ≡ v
  unheld v w none_v none_w e = (λ i. record w { hand = none_w i }) ∙ e ∙ (λ i. record v { hand = sym none_v i })

  pub has_caller : (v : View R L) (cs : List (Option (Caller L))) → v.held ≡ map shown_of cs → (c : ℕ) → HasCaller c v → (x : Caller L) × (slice_get cs c ≡ Some (Some x)) × Has v c (held_of x)
  has_caller v cs same c has = let x = caller_of cs c has.0 (ap (λ (l : List (Option (Held L))). slice_get l c) (sym same) ∙ has.1) in
      (x.0, x.1, has.1 ∙ ap (λ (h : Held L). Some (Some h)) (sym x.2))

module _ {R L : Type 0} (m : Meanings R L) (c k : ℕ) where
  module _ (v w : View R L) (h h' : Held L) where
    held_moved : (stamp : ℕ) → IsEvent m c k v w h h' stamp → w.held ≡ set v.held c (Some h')
    held_moved stamp e = ap (λ (u : View R L). u.held) e.leaves ∙ ap (λ (z : List ℕ). set v.held c (Some (record { local = h'.local; stamps = z }))) (sym e.stamps)

    held_same : Has v c h → (w ≡ v) × (h' ≡ h) → w.held ≡ set v.held c (Some h')
    held_same has e = ap (λ (u : View R L). u.held) e.0 ∙ sym (set_again v.held c (Some h') (has ∙ ap (λ (z : Held L). Some (Some z)) (sym e.1)))

    -- in each case the caller's place in the view has what the caller has then
    pub held_after : {E : Type 0} (res : Result (Option ℕ) E) → Has v c h → MakesSection m c k v w h h' res → w.held ≡ set v.held c (Some h')
    held_after (Ok (Some stamp)) has e = held_moved stamp e
    held_after (Ok None) has e = held_same has e
    held_after (Err error) has e = held_same has e

    pub attempted : {E : Type 0} (res : Result (Option ℕ) E) → Has v c h → m.wanted h.local ≡ Some k → v.hand ≡ None → w.hand ≡ None → m.reach h'.local ≤ m.reach h.local → MakesSection m c k v w h h' res → Attempts m c k v w res
    attempted (Ok (Some stamp)) has wants none_v none_w reach e = record {
      held = h;
      region = e.region;
      has = has;
      wants = wants;
      together = e.together;
      moves = e.moves;
      leaves = unheld (with_event c h (m.after h.local e.region).0 stamp v) w none_v none_w (e.leaves ∙ ap (λ l. holding None (with_event c h l stamp v)) e.local);
      past = e.past;
      reach = subst (λ l. m.reach l ≤ m.reach h.local) e.local reach;
    }
    attempted (Ok None) has wants none_v none_w reach e = e.0
    attempted (Err error) has wants none_v none_w reach e = e.0

  reaches_moved : (n : ℕ) (v w : View R L) (stamp : ℕ) → IsWithin m.reach n v → IsEventOf m c k v w stamp → IsWithin m.reach n w
  reaches_moved n v w stamp all e = subst (IsWithin m.reach n) (sym e.leaves) (λ i h has. ⊎_elim
      (λ (x : (i ≡ c) × (Some new ≡ Some h)). subst (λ (z : Held L). m.reach z.local ≤ n) (some_is new h x.1) (let a = all c e.held e.has in let b = e.reach in omega arith))
      (λ (x : (i ≢ c) × (slice_get v.held i ≡ Some (Some h))). all i h x.1)
      (got_set v.held c i (Some new) (Some h) has))
    where
      new : Held L
      new = record { local = (m.after e.held.local e.region).0; stamps = e.held.stamps ++ stamp ∷ [] }

  pub reaches_after : {E : Type 0} (n : ℕ) (v w : View R L) (res : Result (Option ℕ) E) → IsWithin m.reach n v → Attempts m c k v w res → IsWithin m.reach n w
  reaches_after n v w (Ok (Some stamp)) all e = reaches_moved n v w stamp all e
  reaches_after n v w (Ok None) all e = subst (IsWithin m.reach n) (sym e) all
  reaches_after n v w (Err error) all e = subst (IsWithin m.reach n) (sym e) all

  pub has_moved : (v w : View R L) (stamp : ℕ) → v.saw_halt ≡ false → IsEventOf m c k v w stamp → HasMoved m c v w stamp
  has_moved v w stamp unhalted e = record {
    held = e.held;
    number = k;
    region = e.region;
    has = e.has;
    wants = e.wants;
    together = e.together;
    moves = e.moves;
    leaves = e.leaves;
    past = e.past;
    unhalted = unhalted;
  }

  pub event_of : {E : Type 0} (v w : View R L) (res : Result (Option ℕ) E) (stamp : ℕ) → res ≡ Ok (Some stamp) → Attempts m c k v w res → IsEventOf m c k v w stamp
  event_of v w res stamp is e = subst (λ z. Attempts m c k v w z) is e
