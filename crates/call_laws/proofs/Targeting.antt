-- What a call names by its target is what the target's own call got.
use Rattle.std.proofs.Common.{◌≡◌, ℕ, zero, suc, ◌-◌, ◌<◌, ◌⊎◌, inl, inr, Bool, true, false, if◌then◌else◌, List, [], ◌∷◌, ◌++◌, length, take, slice_get, Option, Some, None, refl, ap, sym, ◌∙◌, subst, arith, ℤ, append_assoc, append-nil}
use Rattle.std.proofs.lemmas.Option.{slice_get_within, same_Some}
use Rattle.vm_model.specs.declared.calls.Target.{Target}
use Rattle.vm_model.specs.declared.calls.Call.{Call}
use Rattle.vm_model.specs.declared.calls.Call.TheVariants.{Vfree, UnmapRam, FreePercpu, Add, Sum}
use Rattle.vm_model.specs.declared.calls.Reply.{Reply}
use Rattle.vm_model.specs.declared.calls.Reply.TheVariants as reply
use Rattle.vm_model.specs.Setup.{Setup}
use Rattle.vm_model.specs.Events.{Section, Refuse}
use Rattle.vm_model.specs.Places.{Made, MadeNothing}
use Rattle.vm_model.specs.Calls.{Answered, made_in, answers_in, target_of}
use Rattle.vm_model.specs.PlainMap.{at_first}
use Rattle.vm_model.specs.History.{World, Local, placing_calls}
use Rattle.vm_model.specs.LegalHistory.{IsReached}
use Rattle.vm_model.specs.Rules.{IsTrace, IsRuled, AreRuled, IsVmallocCall, IsMapRamCall, IsAllocCall, named_call}
use Rattle.vm_model.specs.Shapes.{IsRefused}
use Rattle.vm_model.specs.ObjectShapes.{HasShape}
use Rattle.map_laws.proofs.KeptThroughSteps.{there}
use Rattle.call_laws.specs.Histories.{OwnSection, own_sections, sections, sections_for, IsNoAddress, IsSettled, IsAnswerOf, HasShapesOfCalls}
use Rattle.call_laws.proofs.Unusable.{IsNoObject, IsUnusable}
use Rattle.call_laws.specs.CallTargets.{target_in, CanMake, Names, IsTargeted, TargetsAreWhatTheirCallsGot}
use Rattle.call_laws.proofs.CallWorlds.{IsOpenedBy, shaped_reached, histories_have_shapes}
use Rattle.call_laws.proofs.Causing.{HasCause, replies_caused}
use Rattle.call_laws.proofs.Exactly.{unusable_comes}
use Rattle.call_laws.proofs.Making.{can_make}

told_nothing : (es : List Section) (r : Reply) (made : Made) → IsSettled es r made → made ≡ MadeNothing → IsNoAddress r
told_nothing es r made is e = subst (IsSettled es r) e is

object_only : (P : ℕ → Type 0) (call : Call) (made : Made) → IsAllocCall P (Some call) → CanMake call made → IsNoObject made → made ≡ MadeNothing
object_only P call made kind can none = grind arith

-- The call that a target names, by the rules of a trace.

-- with nothing made that the call can use, nothing was made
pub record IsNamedCall (c : Setup) (ops before : List Call) (opening own : List Answered) (call : Call) (t : Target) : Type 0 where
  pub named : Call
  pub at : named_call ops before t ≡ Some named
  pub unbound : IsUnusable opening own call → CanMake named (target_of opening own t) → target_of opening own t ≡ MadeNothing
  pub none : target_of opening own t ≡ MadeNothing → IsUnusable opening own call

named_by : (K : Option Call → Type 0) → (K None → ⊥) → (o : Option Call) → K o → (call : Call) × (o ≡ Some call)
named_by K not o k = grind arith

module _ (c : Setup) (ops before : List Call) (opening own : List Answered) where
  vfree_named : (t : Target) → IsVmallocCall (named_call ops before t) → IsNamedCall c ops before opening own (Vfree t) t
  vfree_named t is = grind (arith, named_by)

  unmap_named : (t : Target) → IsMapRamCall (named_call ops before t) → IsNamedCall c ops before opening own (UnmapRam t) t
  unmap_named t is = grind (arith, named_by)

  free_named : (t : Target) → IsAllocCall (λ bytes. Unit {0}) (named_call ops before t) → IsNamedCall c ops before opening own (FreePercpu t) t
  free_named t is = grind (arith, named_by, object_only)

  add_named : (P : ℕ → Type 0) (t : Target) (cpu index : ℕ) (amount : ℤ) → IsAllocCall P (named_call ops before t) → IsNamedCall c ops before opening own (Add t cpu index amount) t
  add_named P t cpu index amount is = grind (arith, named_by, object_only)

  sum_named : (P : ℕ → Type 0) (t : Target) (index : ℕ) → IsAllocCall P (named_call ops before t) → IsNamedCall c ops before opening own (Sum t index) t
  sum_named P t index is = grind (arith, named_by, object_only)

  named_of : (call : Call) (t : Target) → target_in call ≡ Some t → IsRuled c ops before call → IsNamedCall c ops before opening own call t
  named_of (Vfree s) t e is = subst (IsNamedCall c ops before opening own (Vfree s)) (same_Some _ _ e) (vfree_named s is.1)
  named_of (UnmapRam s) t e is = subst (IsNamedCall c ops before opening own (UnmapRam s)) (same_Some _ _ e) (unmap_named s is.1)
  named_of (FreePercpu s) t e is = subst (IsNamedCall c ops before opening own (FreePercpu s)) (same_Some _ _ e) (free_named s is.2)
  named_of (Add s cpu index amount) t e is = subst (IsNamedCall c ops before opening own (Add s cpu index amount)) (same_Some _ _ e) (add_named _ s cpu index amount is.2)
  named_of (Sum s index) t e is = subst (IsNamedCall c ops before opening own (Sum s index)) (same_Some _ _ e) (sum_named _ s index is.1)
  named_of _ t e is = cc

ruled_at : (c : Setup) (ops before calls : List Call) (i : ℕ) (call : Call) → AreRuled c ops before calls → slice_get calls i ≡ Some call → IsRuled c ops (before ++ take i calls) call
ruled_at c ops before [] i call are h = cc
ruled_at c ops before (x ∷ calls) zero call are h = subst (IsRuled c ops (before ++ [])) (same_Some _ _ h) (subst (λ l. IsRuled c ops l x) (sym (append-nil before)) are.0)
ruled_at c ops before (x ∷ calls) (suc i) call are h = subst (λ l. IsRuled c ops l call) (append_assoc before (x ∷ []) (take i calls)) (ruled_at c ops (before ++ x ∷ []) calls i call are.1 h)

get_take : {X : Type 0} (xs : List X) (n i : ℕ) → i < n → slice_get (take n xs) i ≡ slice_get xs i
get_take [] zero i low = refl
get_take [] (suc n) i low = refl
get_take (x ∷ xs) zero i low = absurd (omega arith)
get_take (x ∷ xs) (suc n) zero low = refl
get_take (x ∷ xs) (suc n) (suc i) low = get_take xs n i (omega arith)

take_low : {X : Type 0} (xs : List X) (n i : ℕ) (x : X) → slice_get (take n xs) i ≡ Some x → i < n
take_low [] zero i x h = cc
take_low [] (suc n) i x h = cc
take_low (y ∷ xs) zero i x h = cc
take_low (y ∷ xs) (suc n) zero x h = omega arith
take_low (y ∷ xs) (suc n) (suc i) x h = let low = take_low xs n i x h in omega arith

-- What the first section names.

module _ (c : Setup) (es : List Section) where
  abbrev FirstNames : Made → Type 0
  FirstNames made = (s : Section) → slice_get es 0 ≡ Some s → (s ≡ Refuse) ⊎ Names made s

  first_is : (x : Section) (xs : List Section) (s : Section) → es ≡ x ∷ xs → slice_get es 0 ≡ Some s → x ≡ s
  first_is x xs s e h = same_Some _ _ (sym (ap (λ l. slice_get l 0) e) ∙ h)

  named_first : (made : Made) (x : Section) (xs : List Section) → es ≡ x ∷ xs → Names made x → FirstNames made
  named_first made x xs e is s h = inr (subst (Names made) (first_is x xs s e h) is)

  refused_first : (made : Made) → IsRefused es → FirstNames made
  refused_first made e s h = inl (sym (first_is Refuse [] s e h))

  module _ (opening before : List Answered) where
    abbrev OfTarget : Target → Type 0
    OfTarget t = FirstNames (target_of opening before t)

    shape_names : (call : Call) (t : Target) (r : Reply) → target_in call ≡ Some t → HasShape c opening before call r es → OfTarget t
    shape_names (Vfree s) t r e is = grind (arith, same_Some, named_first, refused_first)
    shape_names (UnmapRam s) t r e is = grind (arith, same_Some, named_first, refused_first)
    shape_names (FreePercpu s) t r e is = grind (arith, same_Some, named_first, refused_first)
    shape_names (Add s cpu index amount) t r e is = grind (arith, same_Some, refused_first, named_first)
    shape_names (Sum s index) t r e is = grind (arith, same_Some, refused_first, named_first)
    shape_names _ t r e is = cc

-- The answer of the target's call.

module _ (c : Setup) (opening : List Call) (calls : List (List Call)) (w : World) (trace : IsTrace c opening calls) (reached : IsReached c opening calls w) where
  shaped : (k : ℕ) (l : Local) → slice_get w.locals k ≡ Some l → HasShapesOfCalls c (opening ∷ calls) w k l
  shaped k l here = histories_have_shapes c opening calls w trace reached k l here

  opened : (k : ℕ) (l : Local) → slice_get w.locals k ≡ Some l → IsOpenedBy w.locals k l
  opened k l here = (shaped_reached c opening calls trace w reached).opened k l here

  -- the opening's calls that a caller can name
  abbrev ops : ℕ → List Call
  ops zero = []
  ops (suc k) = opening

  ruled : (k : ℕ) (own : List Call) → slice_get (opening ∷ calls) k ≡ Some own → AreRuled c (ops k) [] own
  ruled k own h = grind (arith, same_Some)

  pub record IsThere (k : ℕ) (l : Local) (before : List Answered) (named : Call) (t : Target) : Type 0 where
    pub caller : ℕ
    pub other : Local
    pub target : Answered
    pub there : slice_get w.locals caller ≡ Some other
    pub whose : ((t.opening ≡ true) × (caller ≡ 0)) ⊎ ((t.opening ≡ false) × (caller ≡ k))
    pub at : slice_get (answers_in l.opening before t) (t.call - 1) ≡ Some target
    pub is : IsAnswerOf c other.opening other.calls (own_sections caller w.events) (t.call - 1) (take (t.call - 1) other.answers) target
    pub call : target.call ≡ named

  -- an earlier call of the same caller
  of_own : (k i : ℕ) (l : Local) (answer : Answered) (named : Call) (t : Target) → slice_get w.locals k ≡ Some l → slice_get l.answers i ≡ Some answer → t.opening ≡ false
      → slice_get (take i l.calls) (t.call - 1) ≡ Some named → IsThere k l (take i l.answers) named t
  of_own k i l answer named t here at own e =
      let low = take_low l.calls i (t.call - 1) named e in
      let inside = slice_get_within l.answers i answer at in
      let target = there l.answers (t.call - 1) (omega arith) in
      let is = (shaped k l here).answers (t.call - 1) target.0 target.1 in
      let first : slice_get l.calls (t.call - 1) ≡ Some named = sym (get_take l.calls i (t.call - 1) low) ∙ e in record {
        caller = k;
        other = l;
        target = target.0;
        there = here;
        whose = inr (own, refl);
        at = ap (λ b. slice_get (if b then l.opening else take i l.answers) (t.call - 1)) own ∙ get_take l.answers i (t.call - 1) low ∙ target.1;
        is = is;
        call = same_Some _ _ (sym is.call ∙ first);
      }

  -- a call of the opening
  of_opening : (k : ℕ) (l : Local) (before : List Answered) (named : Call) (t : Target) → slice_get w.locals k ≡ Some l → IsOpenedBy w.locals k l → t.opening ≡ true
      → slice_get (ops k) (t.call - 1) ≡ Some named → IsThere k l before named t
  of_opening zero l before named t here opens own e = cc
  of_opening (suc k) l before named t here opens own e =
      let first = opens.0 in
      let is = shaped 0 first opens.1 in
      let list : opening ≡ first.calls = same_Some _ _ is.list in
      let low : t.call - 1 < length first.calls = slice_get_within first.calls (t.call - 1) named (ap (λ l. slice_get l (t.call - 1)) (sym list) ∙ e) in
      let all = is.ended opens.2 in
      let target = there first.answers (t.call - 1) (omega arith) in
      let made = is.answers (t.call - 1) target.0 target.1 in record {
        caller = 0;
        other = first;
        target = target.0;
        there = opens.1;
        whose = inl (own, refl);
        at = ap (λ b. slice_get (if b then l.opening else before) (t.call - 1)) own ∙ ap (λ l. slice_get l (t.call - 1)) opens.3 ∙ target.1;
        is = made;
        call = same_Some _ _ (sym made.call ∙ ap (λ l. slice_get l (t.call - 1)) (sym list) ∙ e);
      }

  there_by : (k i : ℕ) (l : Local) (answer : Answered) (named : Call) (t : Target) (b : Bool) → t.opening ≡ b → slice_get w.locals k ≡ Some l → slice_get l.answers i ≡ Some answer
      → named_call (ops k) (take i l.calls) t ≡ Some named → IsThere k l (take i l.answers) named t
  there_by k i l answer named t true b here at e = of_opening k l (take i l.answers) named t here (opened k l here) b (ap (λ b. slice_get (if b then ops k else take i l.calls) (t.call - 1)) (sym b) ∙ e)
  there_by k i l answer named t false b here at e = of_own k i l answer named t here at b (ap (λ b. slice_get (if b then ops k else take i l.calls) (t.call - 1)) (sym b) ∙ e)

  module _ (k i : ℕ) (l : Local) (answer : Answered) (t : Target) (here : slice_get w.locals k ≡ Some l) (at : slice_get l.answers i ≡ Some answer) (names : target_in answer.call ≡ Some t) where
    abbrev own : List OwnSection
    own = sections_for (own_sections k w.events) (take i l.answers) answer

    is_answer : IsAnswerOf c l.opening l.calls (own_sections k w.events) i (take i l.answers) answer
    is_answer = (shaped k l here).answers i answer at

    of_call : IsNamedCall c (ops k) (take i l.calls) l.opening (take i l.answers) answer.call t
    of_call = named_of c (ops k) (take i l.calls) l.opening (take i l.answers) answer.call t names (ruled_at c (ops k) [] l.calls i answer.call (ruled k l.calls (shaped k l here).list) is_answer.call)

    of_target : IsThere k l (take i l.answers) of_call.named t
    of_target = there_by k i l answer of_call.named t t.opening refl here at of_call.at

    made_is : target_of l.opening (take i l.answers) t ≡ of_target.target.made
    made_is = ap made_in of_target.at

    can : CanMake of_target.target.call of_target.target.made
    can = can_make c _ of_target.other.opening _ of_target.target.call of_target.target.reply of_target.target.made of_target.is.shape of_target.is.settled

    was_unbound : answer.reply ≡ reply.Unbound → IsNoAddress of_target.target.reply
    was_unbound e =
        let caused = subst (λ r. HasCause c (at_first c (placing_calls (opening ∷ calls))) w.events l.opening (take i l.answers) answer.call r own) e (replies_caused c opening calls w trace reached k i l answer here at) in
        told_nothing _ of_target.target.reply of_target.target.made of_target.is.settled
        (sym made_is ∙ of_call.unbound caused.0 (subst (λ x. CanMake x (target_of l.opening (take i l.answers) t)) of_target.call (subst (CanMake of_target.target.call) (sym made_is) can)))

    is_unbound : IsNoAddress of_target.target.reply → answer.reply ≡ reply.Unbound
    is_unbound none = grind (arith, unusable_comes, is_answer, of_call, made_is, of_target)

    targeted : IsTargeted c w k l (take i l.answers) answer own t
    targeted = record {
      caller = of_target.caller;
      other = of_target.other;
      target = of_target.target;
      there = of_target.there;
      whose = of_target.whose;
      at = of_target.at;
      is = of_target.is;
      can = can;
      names = subst (λ n. (s : Section) → slice_get (sections own) 0 ≡ Some s → (s ≡ Refuse) ⊎ Names n s) made_is (shape_names c (sections own) l.opening (take i l.answers) answer.call t answer.reply names is_answer.shape);
      unbound = was_unbound;
      else_bound = is_unbound;
    }

pub targets_are_got : TargetsAreWhatTheirCallsGot
targets_are_got c opening calls w trace reached k i l answer t here at names = targeted c opening calls w trace reached k i l answer t here at names
