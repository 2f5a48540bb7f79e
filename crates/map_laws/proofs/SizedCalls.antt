-- Which sections make an object, and where a call begins that uses one.
-- what a caller is about to answer with
use Rattle.std.proofs.lemmas.Bool.Decides.{nat_tests}
use Rattle.std.proofs.Common.{Bool, List, Option, Some, [], false, length, nat_le, slice_get, suc, true, zero, ℕ, ◌++◌, ◌-◌, ◌∷◌, ◌≡◌, ◌≤◌, arith, ◌*◌, inl, inr, None, refl, sym, ◌∙◌, subst, ◌+◌, ◌<◌, ap, length-append, IsSomeAnd}
use Rattle.vm_model.specs.Calls.{answers_in, begin, begin_call, is_bad_map_size, is_bad_object_align, is_bad_object_size, is_bad_vmalloc_align, is_bad_vmalloc_size, made_in, target_of, was_freed, Answered, words_for}
use Rattle.vm_model.specs.Chunks.{ObjectAt}
use Rattle.vm_model.specs.Events.{FreeObject, Section}
use Rattle.vm_model.specs.History.{Local, World, started, answered, moved_to, opening_world, opening_answers, callers_from}
use Rattle.vm_model.specs.LegalHistory.{Meets}
use Rattle.vm_model.specs.Next.{Answer, Go, Next, next}
use Rattle.vm_model.specs.Places.{Adding, FreeingObject, GivingAlloc, Made, MadeNothing, MadeObject, Place, SettlingAtomic, SettlingObject, Summing, ask, Aim, ForChunk, Then, SearchAgain, Refusing, Finding, FindingAgain, PurgeTaking, PurgeFragmenting, PurgeUnlinking, PurgeWaiting, PurgeCollecting, PurgeFlushing, PurgeReturning, PurgeGiving, TakingAlloc, Choosing, SettlingGroups, AddingChunk, Populating, Unplacing, ChoosingAtomic, Zeroing}
use Rattle.vm_model.specs.Rules.{AreRuled}
use Rattle.vm_model.specs.Setup.{Setup}
use Rattle.vm_model.specs.declared.calls.Call.{Call}
use Rattle.vm_model.specs.declared.calls.Call.TheVariants.{Add, AllocAtomic, AllocPercpu, Balance, FreePercpu, MapRam, Sum, UnmapAliases, UnmapRam, Vfree, Vmalloc}
use Rattle.vm_model.specs.declared.calls.Target.{Target}
use Rattle.map_laws.proofs.PlaceRows.{place_row}
use Rattle.map_laws.proofs.AskRows.{ask_row}
use Rattle.map_laws.proofs.ProperPlaces.{either_place, OnNext, answers_call, all_answered, started_caller, then_of}
use Rattle.std.proofs.lemmas.Option.{same_Some}
use Rattle.map_laws.proofs.KeptThroughSteps.{set_cases, append_cases, not_over, has_call}
use Rattle.map_laws.proofs.areas.AreaWorlds.{IsLegallyLasting}

abbrev pub flight : Place → Made
flight (GivingAlloc r made) = made
flight _ = MadeNothing

-- an answer to be, or one that is given
abbrev pub next_made : Next → Made
next_made (Go p) = flight p
next_made (Answer r made) = made

abbrev pub IsNoObject : Made → Type 0
IsNoObject (MadeObject at serial) = ⊥
IsNoObject _ = Unit {0}

-- places at which a call for an object that is there begins
abbrev pub is_using : Place → Bool
is_using (FreeingObject at serial) = true
is_using (Adding at serial cpu index amount) = true
is_using (Summing at serial index) = true
is_using _ = false

-- a call goes on without an object made, and doesn't begin again
abbrev pub IsMakingNone : Next → Type 0
IsMakingNone (Go p) = (is_using p ≡ false) × IsNoObject (flight p)
IsMakingNone (Answer r made) = IsNoObject made

abbrev pub makes_object : Place → Bool
makes_object (SettlingObject at) = true
makes_object (SettlingAtomic at) = true
makes_object (GivingAlloc r made) = true
makes_object _ = false

module _ (c : Setup) where
  pub making_none : (p : Place) (s : Section) → makes_object p ≡ false → IsMakingNone (next c p s)
  making_none p s h = grind (arith, place_row)

  pub freeing_place : (p : Place) (at : ObjectAt) (serial : ℕ) → Meets c (ask c p) (FreeObject at serial) → p ≡ FreeingObject at serial
  freeing_place p at serial w = grind (arith, ask_row)

-- Where a call begins that uses an object.

-- a call names another one by a number, and frees one of its own section
abbrev pub IsWellNamed : Call → Type 0
IsWellNamed (FreePercpu t) = (1 ≤ t.call) × (t.opening ≡ false)
IsWellNamed (Add t cpu index amount) = 1 ≤ t.call
IsWellNamed (Sum t index) = 1 ≤ t.call
IsWellNamed _ = Unit {0}

abbrev pub AreWellNamed : List Call → Type 0
AreWellNamed calls = (i : ℕ) (call : Call) → slice_get calls i ≡ Some call → IsWellNamed call

-- an object that was made by a named call, and not freed by its section
abbrev pub IsNamedObject : Local → ObjectAt → ℕ → Type 0
IsNamedObject l at serial = (t : Target) × (1 ≤ t.call) × (target_of l.opening l.answers t ≡ MadeObject at serial) × (was_freed (answers_in l.opening l.answers t) t.call ≡ false)

-- the call at hand, at such a place
abbrev pub IsNow : Local → Place → Type 0
IsNow l (FreeingObject at serial) = (t : Target) × (1 ≤ t.call) × (slice_get l.calls (length l.answers) ≡ Some (FreePercpu t)) × (made_in (slice_get l.answers (t.call - 1)) ≡ MadeObject at serial)
IsNow l (Adding at serial cpu index amount) = IsNamedObject l at serial
IsNow l (Summing at serial index) = IsNamedObject l at serial
IsNow l _ = Unit {0}

module _ (l : Local) where
  call_now : (c : Setup) (call : Call) → slice_get l.calls (length l.answers) ≡ Some call → IsWellNamed call → IsNow l (begin_call c l.opening l.answers call)
  call_now c call now is = grind (arith, nat_tests)

  -- a call at its beginning
  pub begun_now : (c : Setup) → AreWellNamed l.calls → (o : Option Call) → slice_get l.calls (length l.answers) ≡ o → IsNow l (begin c l.opening l.answers o)
  begun_now c named o e = grind (arith, call_now)

-- the rules of a trace name calls well
pub ruled_named : (c : Setup) (opening before calls : List Call) → AreRuled c opening before calls → AreWellNamed calls
ruled_named c opening before [] ruled i call e = cc
ruled_named c opening before (x ∷ calls) ruled zero call e = grind arith
ruled_named c opening before (x ∷ calls) ruled (suc i) call e = ruled_named c opening (before ++ x ∷ []) calls ruled.1 i call e

-- Calls for objects have places and answers of their size.

-- An object has the bytes of the call that makes it.

abbrev pub IsAimSized : ℕ → Aim → Type 0
IsAimSized bytes (ForChunk chunk own align) = own ≡ bytes
IsAimSized bytes _ = ⊥

abbrev pub IsThenSized : ℕ → Then → Type 0
IsThenSized bytes (SearchAgain search aim) = IsAimSized bytes aim
IsThenSized bytes _ = ⊥

abbrev pub IsMadeSized : ℕ → Made → Type 0
IsMadeSized bytes (MadeObject at serial) = at.bytes ≡ bytes
IsMadeSized bytes _ = Unit {0}

-- the places of a call for an object of so many bytes
abbrev pub IsSizedAt : ℕ → Place → Type 0
IsSizedAt bytes (Refusing r) = Unit {0}
IsSizedAt bytes (TakingAlloc own align) = own ≡ bytes
IsSizedAt bytes (Choosing own align) = own ≡ bytes
IsSizedAt bytes (Finding search aim) = IsAimSized bytes aim
IsSizedAt bytes (FindingAgain search aim) = IsAimSized bytes aim
IsSizedAt bytes (SettlingGroups base chunk own align) = own ≡ bytes
IsSizedAt bytes (AddingChunk base chunk own align) = own ≡ bytes
IsSizedAt bytes (Populating at missing) = at.bytes ≡ bytes
IsSizedAt bytes (SettlingObject at) = at.bytes ≡ bytes
IsSizedAt bytes (Unplacing at) = Unit {0}
IsSizedAt bytes (GivingAlloc r made) = IsMadeSized bytes made
IsSizedAt bytes (ChoosingAtomic own align) = own ≡ bytes
IsSizedAt bytes (Zeroing at) = at.bytes ≡ bytes
IsSizedAt bytes (SettlingAtomic at) = at.bytes ≡ bytes
IsSizedAt bytes p = IsSomeAnd (then_of p) (IsThenSized bytes)

abbrev pub IsNextSized : ℕ → Next → Type 0
IsNextSized bytes (Go p) = IsSizedAt bytes p
IsNextSized bytes (Answer r made) = IsMadeSized bytes made

module _ (c : Setup) (bytes : ℕ) where
  pub sized_next : (p : Place) (s : Section) → IsSizedAt bytes p → Meets c (ask c p) s → IsNextSized bytes (next c p s)
  sized_next p s is w = grind (arith, place_row)

-- a call for an object, and its bytes
abbrev pub call_bytes : Call → Option ℕ
call_bytes (AllocPercpu bytes align) = Some (4 * words_for bytes)
call_bytes (AllocAtomic bytes align) = Some (4 * words_for bytes)
call_bytes _ = None

pub begins_sized : (c : Setup) (opening own : List Answered) (call : Call) (bytes : ℕ) → call_bytes call ≡ Some bytes → IsSizedAt bytes (begin_call c opening own call)
begins_sized c opening own call bytes e = grind (arith, nat_tests)

-- What each caller's answers say of its calls, and which call an add and a sum are made for.

-- the call that a caller adds or sums for, and the object that its target names
abbrev pub IsUse : Local → Place → Type 0
IsUse l (Adding at serial cpu index amount) = (t : Target) × (slice_get l.calls (length l.answers) ≡ Some (Add t cpu index amount)) × (target_of l.opening l.answers t ≡ MadeObject at serial)
IsUse l (Summing at serial index) = (t : Target) × (slice_get l.calls (length l.answers) ≡ Some (Sum t index)) × (target_of l.opening l.answers t ≡ MadeObject at serial)
IsUse l _ = Unit {0}

unused : (l : Local) (p : Place) → is_using p ≡ false → IsUse l p
unused l p h = grind arith

module _ (l : Local) where
  begin_use : (c : Setup) (o : Option Call) → slice_get l.calls (length l.answers) ≡ o → IsUse l (begin c l.opening l.answers o)
  begin_use c o h = grind (arith, nat_tests)

begin_sized : (c : Setup) (opening own : List Answered) (o : Option Call) (call : Call) (bytes : ℕ) → o ≡ Some call → call_bytes call ≡ Some bytes → IsSizedAt bytes (begin c opening own o)
begin_sized c opening own o call bytes e f = subst (λ x. IsSizedAt bytes (begin c opening own x)) (sym e) (begins_sized c opening own call bytes f)

-- no section begins an add or a sum
unused_next : (c : Setup) (p : Place) (s : Section) (b : Bool) → makes_object p ≡ b → OnNext (λ q. is_using q ≡ false) (next c p s)
unused_next c p s b e = grind arith

-- of a caller with these calls
pub record IsLocalSized (own : List Call) (l : Local) : Type 0 where
  pub calls : l.calls ≡ own
  pub ordered : (i : ℕ) (a : Answered) → slice_get l.answers i ≡ Some a → slice_get l.calls i ≡ Some a.call
  pub sized : (i : ℕ) (a : Answered) (bytes : ℕ) → slice_get l.answers i ≡ Some a → call_bytes a.call ≡ Some bytes → IsMadeSized bytes a.made
  pub now : (call : Call) (bytes : ℕ) → slice_get l.calls (length l.answers) ≡ Some call → call_bytes call ≡ Some bytes → IsSizedAt bytes l.place
  pub used : IsUse l l.place

module _ (own : List Call) (l : Local) (a : Answered) (is : IsLocalSized own l) (here : slice_get l.calls (length l.answers) ≡ Some a.call) (made : (bytes : ℕ) → call_bytes a.call ≡ Some bytes → IsMadeSized bytes a.made) where
  one_more : suc (length l.answers) ≡ length (l.answers ++ a ∷ [])
  one_more = omega (arith, length-append l.answers (a ∷ []))

  answered_sized : IsLocalSized own (answered l a)
  answered_sized = record {
    calls = is.calls;
    ordered = λ i b h. elim (append_cases l.answers (a ∷ []) i b h) [ inl e ↦ is.ordered i b e | inr e ↦ ordered_last i e.0 b e.1 e.2 ];
    sized = λ i b bytes h f. all_answered (λ x. (n : ℕ) → call_bytes x.call ≡ Some n → IsMadeSized n x.made) l.answers a (λ j x g n. is.sized j x n g) made i b h bytes f;
    now = λ call bytes h f. begin_sized l.setup l.opening (l.answers ++ a ∷ []) (slice_get l.calls (suc (length l.answers))) call bytes (ap (slice_get l.calls) one_more ∙ h) f;
    used = begin_use (answered l a) l.setup (slice_get l.calls (suc (length l.answers))) (ap (slice_get l.calls) (sym one_more));
  }
    where
      ordered_last : (i j : ℕ) (b : Answered) → i ≡ length l.answers + j → slice_get (a ∷ []) j ≡ Some b → slice_get l.calls i ≡ Some b.call
      ordered_last i zero b e h = let same : a ≡ b = same_Some a b h in let n : i ≡ length l.answers = omega arith in ap (slice_get l.calls) n ∙ here ∙ ap (λ (x : Answered). Some x.call) same
      ordered_last i (suc j) b e h = cc

module _ (own : List Call) (l : Local) (s : Section) (is : IsLocalSized own l) (call : length l.answers < length l.calls) (meets : Meets l.setup (ask l.setup l.place) s) where
  moved_sized : (n : Next) → next l.setup l.place s ≡ n → IsLocalSized own (moved_to l n)
  moved_sized (Go p) e = record {
    calls = is.calls;
    ordered = is.ordered;
    sized = is.sized;
    now = λ own_call bytes h f. subst (IsNextSized bytes) e (sized_next l.setup bytes l.place s (is.now own_call bytes h f) meets);
    used = unused (moved_to l (Go p)) p (subst (OnNext (λ q. is_using q ≡ false)) e (unused_next l.setup l.place s (makes_object l.place) refl));
  }
  moved_sized (Answer r made) e =
      let at = answers_call l r made call in
      subst (IsLocalSized own) (sym at.2) (answered_sized own l (record { call = at.0; reply = r; made = made; own_event = suc l.events }) is at.1
      (λ bytes f. subst (IsNextSized bytes) e (sized_next l.setup bytes l.place s (is.now at.0 bytes at.1 f) meets)))

-- a caller at its start
started_sized : (c : Setup) (opening : List Answered) (k : ℕ) (own : List Call) → IsLocalSized own (started c opening k own)
started_sized c opening k own = record {
  calls = refl;
  ordered = λ i a h. cc;
  sized = λ i a bytes h f. cc;
  now = λ call bytes h f. begin_sized c opening [] (slice_get own 0) call bytes h f;
  used = begin_use (started c opening k own) c (slice_get own 0) refl;
}

-- the calls of the opening, and of each caller
abbrev pub calls_at : List Call → List (List Call) → ℕ → Option (List Call)
calls_at opening calls zero = Some opening
calls_at opening calls (suc k) = slice_get calls k

pub record AreSized (opening : List Call) (calls : List (List Call)) (w : World) : Type 0 where
  pub each : (k : ℕ) (l : Local) → slice_get w.locals k ≡ Some l → (own : List Call) × (calls_at opening calls k ≡ Some own) × IsLocalSized own l

module _ (c : Setup) (opening : List Call) (calls : List (List Call)) where
  pub sized_lasts : IsLegallyLasting c calls (AreSized opening calls)
  sized_lasts = record {
    steps = λ w k l s framed all step. record {
      each = λ j x h. (let own = framed.own k l step.step.here in
          elim (set_cases w.locals l.caller j (moved_to l (next l.setup l.place s)) x h) [
            | inl e ↦ (let was = all.each k l step.step.here in (
              was.0,
              ap (calls_at opening calls) (e.0 ∙ own.caller) ∙ was.1,
              subst (IsLocalSized was.0) (sym e.1)
                  (moved_sized was.0 l s was.2 (has_call c k l own (not_over l.setup w.map l.place s step.step.gives)) step.meets (next l.setup l.place s) refl),
            ))
            | inr e ↦ all.each j x e.1
          ]);
    };
    joins = λ w framed one all over. record {
      each = λ k l h. elim (append_cases w.locals (callers_from c (opening_answers w.locals) 1 calls) k l h) [
        | inl e ↦ all.each k l e
        | inr e ↦ (let is = started_caller c (opening_answers w.locals) 1 calls e.0 l e.2 in let n : k ≡ suc e.0 = omega (arith, one, e.1) in
            (is.0, ap (calls_at opening calls) n ∙ is.1, subst (IsLocalSized is.0) (sym is.2) (started_sized c (opening_answers w.locals) (1 + e.0) is.0)))
      ];
    };
  }

  pub sized_first : AreSized opening calls (opening_world c opening calls)
  sized_first = record { each = by_number }
    where
      by_number : (k : ℕ) (l : Local) → slice_get (opening_world c opening calls).locals k ≡ Some l → (own : List Call) × (calls_at opening calls k ≡ Some own) × IsLocalSized own l
      by_number zero l h = let e = same_Some (started c [] 0 opening) l h in (opening, refl, subst (IsLocalSized opening) e (started_sized c [] 0 opening))
      by_number (suc k) l h = cc
