-- Objects that were made and not freed by their section are live.
use Rattle.std.proofs.Common.{Bool, List, Option, Some, [], ap, arith, false, inl, inr, length, length-append, nat_lt, refl, slice_get, slice_set, subst, suc, sum_by, sym, true, zero, ℕ, ◌&&◌, ◌++◌, ◌+◌, ◌-◌, ◌<◌, ◌==◌, ◌||◌, ◌∙◌, ◌∷◌, ◌≡◌, ◌≢◌, ◌≤◌, ◌⊎◌}
use Rattle.std.proofs.lemmas.Bool.Decides.{nat_tests}
use Rattle.std.proofs.lemmas.List.Sums.{sum_by-append, sum_by-cons, sum_by-set}
use Rattle.std.proofs.lemmas.Option.{get_or_from_slice_get, slice_get_within}
use Rattle.vm_model.specs.Calls.{Answered, is_done, is_free_of, made_in, was_freed}
use Rattle.vm_model.specs.Chunks.{ObjectAt}
use Rattle.vm_model.specs.Effects.{effect_as}
use Rattle.vm_model.specs.Events.{Event, FreeObject, Section, SettleObject}
use Rattle.vm_model.specs.History.{Local, World, answered, callers_from, moved_to, opening_answers, opening_world, started, with_callers}
use Rattle.vm_model.specs.Legal.{IsLegalAs}
use Rattle.vm_model.specs.LegalHistory.{AllOver, Meets}
use Rattle.vm_model.specs.Next.{Answer, Go, Next, next}
use Rattle.vm_model.specs.Places.{FreeingObject, GivingAlloc, Made, MadeNothing, MadeObject, Over, Place, SettlingAtomic, SettlingObject, ask}
use Rattle.vm_model.specs.PlainMap.{Life, Lives, PlainMap}
use Rattle.vm_model.specs.Setup.{Setup}
use Rattle.vm_model.specs.Space.{one_if}
use Rattle.vm_model.specs.declared.calls.Call.{Call}
use Rattle.vm_model.specs.declared.calls.Call.TheVariants.{FreePercpu}
use Rattle.vm_model.specs.declared.calls.Reply.{Reply}
use Rattle.vm_model.specs.declared.calls.Target.{Target}
use Rattle.map_laws.proofs.blocks.BlockFacts.{same_test, to_same}
use Rattle.map_laws.proofs.TestsAndFilters.{sum_has, one_if_le, or_assoc, or_false, or_none}
use Rattle.map_laws.proofs.KeptThroughSteps.{append_cases, append_first, set_other, there}
use Rattle.map_laws.proofs.SizedCalls.{AreWellNamed, IsMakingNone, IsNoObject, IsNow, begun_now, flight, freeing_place, is_using, makes_object, making_none, next_made}
use Rattle.map_laws.proofs.objects.ObjectChanges.{lived_object}
use Rattle.map_laws.proofs.objects.ObjectFacts.{AreChunksFine, IsObject, IsObjectAt, same_place}
use Rattle.map_laws.proofs.objects.ObjectMoves.{Kills}
use Rattle.map_laws.proofs.OutMoves.{sum_two}
use Rattle.map_laws.proofs.ProperPlaces.{HaveBeginnings, AtOver, OnNext, all_moved, answers_call, begins_with, started_caller, none_started}
use Rattle.vm_model.specs.declared.calls.Reply.TheVariants as reply

abbrev pub is_made : ℕ → Made → ℕ
is_made serial (MadeObject at own) = one_if (own == serial)
is_made serial _ = 0

-- how often a caller has made the object with a serial
abbrev pub answers_made : ℕ → List Answered → ℕ
answers_made serial answers = sum_by (λ (a : Answered). is_made serial a.made) answers

abbrev pub made_count : ℕ → Local → ℕ
made_count serial l = answers_made serial l.answers + is_made serial (flight l.place)

abbrev pub IsMadeLive : PlainMap → Made → Type 0
IsMadeLive m (MadeObject at serial) = IsObject m.chunks at (Lives serial)
IsMadeLive m _ = Unit {0}

-- the opening's answers are those of the first caller, which has ended
abbrev pub IsOpened : World → List Answered → Type 0
IsOpened w opening = (opening ≡ []) ⊎ ((first : Local) × (slice_get w.locals 0 ≡ Some first) × (first.place ≡ Over) × (opening ≡ first.answers))

pub record AreObjectsMade (w : World) : Type 0 where
  pub few : (serial : ℕ) → sum_by (made_count serial) w.locals ≤ one_if (nat_lt serial w.map.next_object)
  pub live : (k i : ℕ) (l : Local) (a : Answered) → slice_get w.locals k ≡ Some l → slice_get l.answers i ≡ Some a → was_freed l.answers (suc i) ≡ false → IsMadeLive w.map a.made
  pub flying : (k : ℕ) (l : Local) → slice_get w.locals k ≡ Some l → IsMadeLive w.map (flight l.place)
  pub opening : (k : ℕ) (l : Local) → slice_get w.locals k ≡ Some l → IsOpened w l.opening
  pub calls : (k : ℕ) (l : Local) → slice_get w.locals k ≡ Some l → AreWellNamed l.calls
  pub now : (k : ℕ) (l : Local) → slice_get w.locals k ≡ Some l → IsNow l l.place

-- What is made.

no_count : (serial : ℕ) (made : Made) → IsNoObject made → is_made serial made ≡ 0
no_count serial made is = grind (arith, nat_tests)

none_made : (n : Next) → IsMakingNone n → IsNoObject (next_made n)
none_made n is = grind (arith, nat_tests)

unusing_now : (l : Local) (p : Place) → is_using p ≡ false → IsNow l p
unusing_now l p e = grind (arith, nat_tests)

abbrev IsGrounded : Place → Type 0
IsGrounded p = flight p ≡ MadeNothing

grounded_begins : (c : Setup) → HaveBeginnings IsGrounded c
grounded_begins c p opens = grind arith

-- the serial that a section gives
abbrev gives : ℕ → Section → ℕ
gives serial (SettleObject at own) = one_if (own == serial)
gives serial _ = 0

made_one : (at : ObjectAt) (serial : ℕ) (made : Made) → made ≡ MadeObject at serial → is_made serial made ≡ 1
made_one at serial made e = ap (is_made serial) e ∙ ap one_if (same_test serial)

answer_counts : (at : ObjectAt) (serial i : ℕ) (answers : List Answered) (a : Answered) → slice_get answers i ≡ Some a → a.made ≡ MadeObject at serial → 1 ≤ answers_made serial answers
answer_counts at serial i answers a h e = omega (arith, sum_has (λ (a : Answered). is_made serial a.made) answers a i h, made_one at serial a.made e)

freed_append : (answers : List Answered) (a : Answered) (n : ℕ) → was_freed (answers ++ a ∷ []) n ≡ (was_freed answers n || (is_free_of n a.call && is_done a.reply))
freed_append [] a n = or_false (is_free_of n a.call && is_done a.reply)
freed_append (x ∷ answers) a n = ap (λ b. (is_free_of n x.call && is_done x.reply) || b) (freed_append answers a n) ∙ or_assoc (is_free_of n x.call && is_done x.reply) (was_freed answers n) (is_free_of n a.call && is_done a.reply)

pub made_some : (o : Option Answered) (at : ObjectAt) (serial : ℕ) → made_in o ≡ MadeObject at serial → (a : Answered) × (o ≡ Some a) × (a.made ≡ MadeObject at serial)
made_some o at serial e = grind (arith, nat_tests)

-- a caller that frees an object which it made
pub record IsFreeing (l : Local) (s : Section) (serial : ℕ) : Type 0 where
  pub at : ObjectAt
  pub target : Target
  pub some : 1 ≤ target.call
  pub call : slice_get l.calls (length l.answers) ≡ Some (FreePercpu target)
  pub answer : Answered
  pub there : slice_get l.answers (target.call - 1) ≡ Some answer
  pub made : answer.made ≡ MadeObject at serial
  pub section : s ≡ FreeObject at serial
  pub place : l.place ≡ FreeingObject at serial

module _ (c : Setup) (w : World) (l : Local) (s : Section) (kept : AreObjectsMade w) (here : slice_get w.locals l.caller ≡ Some l) (call : length l.answers < length l.calls) (moves : l.place ≢ Over) (meets : Meets c (ask c l.place) s) (legal : IsLegalAs c w.map l.caller s)
    (placing : ℕ → ℕ → Type 0) (fine : AreChunksFine c placing w.map.chunks) (hand : IsObjectAt w.map l.caller l.place)
    (keeps : (at : ObjectAt) (life : Life) → IsObject w.map.chunks at life → (Kills l.caller s life → ⊥) → IsObject (effect_as c w.map l.caller s).chunks at life) where
  abbrev after_map : PlainMap
  after_map = effect_as c w.map l.caller s

  -- Serials.

  next_count : (serial : ℕ) (p : Place) (b : Bool) → makes_object p ≡ b → Meets c (ask c p) s → is_made serial (next_made (next c p s)) ≤ is_made serial (flight p) + gives serial s
  next_count serial p b e v = grind (arith, no_count, none_made)

  given_more : (serial : ℕ) (x : Section) → IsLegalAs c w.map l.caller x → one_if (nat_lt serial w.map.next_object) + gives serial x ≤ one_if (nat_lt serial (effect_as c w.map l.caller x).next_object)
  given_more serial x legal = grind (arith, to_same, nat_tests)

  abbrev after_answer : Call → Reply → Made → Answered
  after_answer own r made = record { call = own; reply = r; made = made; own_event = suc l.events }

  moved_count : (serial : ℕ) (n : Next) → made_count serial (moved_to l n) ≡ answers_made serial l.answers + is_made serial (next_made n)
  moved_count serial (Go p) = refl
  moved_count serial (Answer r made) = let e = answers_call l r made call in
      ap (made_count serial) e.2 ∙ ap (λ f. answers_made serial (l.answers ++ after_answer e.0 r made ∷ []) + is_made serial f) (begins_with IsGrounded l.setup (grounded_begins l.setup) l.opening _ (slice_get l.calls (suc (length l.answers))))
      ∙ omega (arith, sum_by-append (λ (a : Answered). is_made serial a.made) l.answers (after_answer e.0 r made ∷ []), sum_by-cons (λ (a : Answered). is_made serial a.made) (after_answer e.0 r made) [])

  abbrev after_local : Local
  after_local = moved_to l (next c l.place s)

  few_after : (serial : ℕ) → sum_by (made_count serial) (slice_set w.locals l.caller after_local) ≤ one_if (nat_lt serial after_map.next_object)
  few_after serial =
      let before = kept.few serial in let more = given_more serial s legal in let one = next_count serial l.place (makes_object l.place) refl meets in let moved = moved_count serial (next c l.place s) in
      let sums : sum_by (made_count serial) (slice_set w.locals l.caller after_local) + made_count serial l ≡ sum_by (made_count serial) w.locals + made_count serial after_local =
      (ap (λ n. sum_by (made_count serial) (slice_set w.locals l.caller after_local) + n) (sym (ap (made_count serial) (get_or_from_slice_get w.locals l.caller l l here)))
      ∙ sum_by-set (made_count serial) w.locals l.caller after_local l (slice_get_within w.locals l.caller l here)) in omega arith

  -- What stays live.

  freeing : (serial : ℕ) → Kills l.caller s (Lives serial) → IsFreeing l s serial
  freeing serial kill = grind (arith, freeing_place, made_some, there, nat_tests)

  keep_made : (made : Made) → IsMadeLive w.map made → ((at : ObjectAt) (serial : ℕ) → made ≡ MadeObject at serial → Kills l.caller s (Lives serial) → ⊥) → IsMadeLive after_map made
  keep_made made is never = grind (arith, nat_tests)

  -- another caller made another object
  other_apart : (j : ℕ) (x : Local) (serial : ℕ) → slice_get w.locals j ≡ Some x → j ≢ l.caller → 1 ≤ made_count serial x → Kills l.caller s (Lives serial) → ⊥
  other_apart j x serial there apart n kill =
      let is = freeing serial kill in let mine = answer_counts is.at serial (is.target.call - 1) l.answers is.answer is.there is.made in
      let two = sum_two (made_count serial) w.locals l.caller j l x here there (λ e. apart (sym e)) in
      let few = kept.few serial in let one = one_if_le (nat_lt serial w.map.next_object) in omega arith

  other_live : (j i : ℕ) (x : Local) (a : Answered) → slice_get w.locals j ≡ Some x → j ≢ l.caller → slice_get x.answers i ≡ Some a → was_freed x.answers (suc i) ≡ false → IsMadeLive after_map a.made
  other_live j i x a there apart at free = keep_made a.made (kept.live j i x a there at free) (λ o serial e kill. other_apart j x serial there apart (let n = answer_counts o serial i x.answers a at e in omega arith) kill)

  other_flying : (j : ℕ) (x : Local) → slice_get w.locals j ≡ Some x → j ≢ l.caller → IsMadeLive after_map (flight x.place)
  other_flying j x there apart = keep_made (flight x.place) (kept.flying j x there) (λ o serial e kill. other_apart j x serial there apart (let n = made_one o serial (flight x.place) e in omega arith) kill)

  -- the caller frees the object of one answer only
  own_apart : (i serial : ℕ) (a : Answered) (o : ObjectAt) → slice_get l.answers i ≡ Some a → a.made ≡ MadeObject o serial → (is : IsFreeing l s serial) → suc i ≡ is.target.call
  own_apart i serial a o at e is =
      let few = kept.few serial in let one = one_if_le (nat_lt serial w.map.next_object) in let mine = sum_has (made_count serial) w.locals l l.caller here in
      grind (arith, same_place)

  freed_next : (serial : ℕ) → IsFreeing l s serial → next c l.place s ≡ Answer reply.Done MadeNothing
  freed_next serial is = ap (λ p. next c p s) is.place ∙ ap (next c (FreeingObject is.at serial)) is.section

  -- the object that a section makes is live
  made_live : (p : Place) (b : Bool) → makes_object p ≡ b → Meets c (ask c p) s → IsObjectAt w.map l.caller p → IsMadeLive w.map (flight p) → IsMadeLive after_map (next_made (next c p s))
  made_live p false e v at is = grind (arith, next_made, none_made, making_none, nat_tests)
  made_live (SettlingObject object) true e v at is = subst (λ (x : Section). IsMadeLive (effect_as c w.map l.caller x) (next_made (next c (SettlingObject object) x))) (sym v.1) (lived_object c placing placing l.caller object v.0 w.map.chunks fine at)
  made_live (SettlingAtomic object) true e v at is = subst (λ (x : Section). IsMadeLive (effect_as c w.map l.caller x) (next_made (next c (SettlingAtomic object) x))) (sym v.1) (lived_object c placing placing l.caller object v.0 w.map.chunks fine at)
  made_live (GivingAlloc r made) true e v at is = grind (arith, nat_tests)
  made_live _ true e v at is = cc

  next_live : (n : Next) → next c l.place s ≡ n → IsMadeLive after_map (next_made n)
  next_live n e = subst (λ x. IsMadeLive after_map (next_made x)) e (made_live l.place (makes_object l.place) refl meets hand (kept.flying l.caller l here))

  answered_live : (own : Call) (r : Reply) (made : Made) → slice_get l.calls (length l.answers) ≡ Some own → next c l.place s ≡ Answer r made → (i : ℕ) (a : Answered) → slice_get (l.answers ++ after_answer own r made ∷ []) i ≡ Some a
      → was_freed (l.answers ++ after_answer own r made ∷ []) (suc i) ≡ false → IsMadeLive after_map a.made
  answered_live own r made at e i a there free = elim (append_cases l.answers (after_answer own r made ∷ []) i a there) [
    | inl old ↦ (let both = or_none _ _ (sym (freed_append l.answers (after_answer own r made) (suc i)) ∙ free) in
        keep_made a.made (kept.live l.caller i l a here old both.0) (λ o serial f kill. by_freeing i a o serial old f both.1 (freeing serial kill)))
    | inr new ↦ new_live a new.0 new.2
  ]
    where
      by_freeing : (i : ℕ) (a : Answered) (o : ObjectAt) (serial : ℕ) → slice_get l.answers i ≡ Some a → a.made ≡ MadeObject o serial → (is_free_of (suc i) own && is_done r) ≡ false → IsFreeing l s serial → ⊥
      by_freeing i a o serial old f none is =
          let number = own_apart i serial a o old f is in
          let called : own ≡ FreePercpu is.target = (let g = is.call in cc) in
          let reply_done : r ≡ reply.Done = cc in
          let yes : (is_free_of (suc i) own && is_done r) ≡ true = ap (λ x. is_free_of (suc i) x && is_done r) called ∙ ap (λ x. (is.target.call == suc i) && is_done x) reply_done ∙ ap (λ n. (is.target.call == n) && true) number ∙ ap (λ b. b && true) (same_test is.target.call) in cc

      new_live : (a : Answered) (j : ℕ) → slice_get (after_answer own r made ∷ []) j ≡ Some a → IsMadeLive after_map a.made
      new_live a zero f = let same : after_answer own r made ≡ a = cc in subst (λ (x : Answered). IsMadeLive after_map x.made) same (next_live (Answer r made) e)
      new_live a (suc j) f = cc

  own_live : (n : Next) → next c l.place s ≡ n → (i : ℕ) (a : Answered) → slice_get (moved_to l n).answers i ≡ Some a → was_freed (moved_to l n).answers (suc i) ≡ false → IsMadeLive after_map a.made
  own_live (Go p) e i a at free = keep_made a.made (kept.live l.caller i l a here at free) (λ o serial f kill. (let is = freed_next serial (freeing serial kill) in cc))
  own_live (Answer r made) e i a at free = let g = answers_call l r made call in
      answered_live g.0 r made g.1 e i a (ap (λ (x : Local). slice_get x.answers i) (sym g.2) ∙ at) (ap (λ (x : Local). was_freed x.answers (suc i)) (sym g.2) ∙ free)

  own_flying : (n : Next) → next c l.place s ≡ n → IsMadeLive after_map (flight (moved_to l n).place)
  own_flying (Go p) e = next_live (Go p) e
  own_flying (Answer r made) e = let g = answers_call l r made call in
      subst (IsMadeLive after_map) (sym (ap (λ (x : Local). flight x.place) g.2 ∙ begins_with IsGrounded l.setup (grounded_begins l.setup) l.opening _ (slice_get l.calls (suc (length l.answers))))) tt

  -- What stays of the caller.

  next_unusing : (p : Place) (b : Bool) → makes_object p ≡ b → OnNext (λ q. is_using q ≡ false) (next c p s)
  next_unusing p b e = grind (arith, nat_tests)

  own_calls : (n : Next) → (moved_to l n).calls ≡ l.calls
  own_calls n = grind (arith, answers_call, nat_tests)

  own_opening : (n : Next) → (moved_to l n).opening ≡ l.opening
  own_opening n = grind (arith, answers_call, nat_tests)

  own_now : (n : Next) → next c l.place s ≡ n → IsNow (moved_to l n) (moved_to l n).place
  own_now (Go p) e = unusing_now (moved_to l (Go p)) p (subst (OnNext (λ q. is_using q ≡ false)) e (next_unusing l.place (makes_object l.place) refl))
  own_now (Answer r made) e = let g = answers_call l r made call in
      subst (λ (x : Local). IsNow x x.place) (sym g.2)
      (begun_now (answered l (after_answer g.0 r made)) l.setup (kept.calls l.caller l here) (slice_get l.calls (suc (length l.answers))) (ap (slice_get l.calls) (let n : length (l.answers ++ after_answer g.0 r made ∷ []) ≡ suc (length l.answers) = omega (arith, length-append l.answers (after_answer g.0 r made ∷ [])) in n)))

  abbrev after_world : List Event → World
  after_world events = record { map = after_map; locals = slice_set w.locals l.caller after_local; events = events }

  -- the first caller has ended, and so isn't this one
  opened_stays : (events : List Event) (answers : List Answered) → IsOpened w answers → IsOpened (after_world events) answers
  opened_stays events answers was = grind (arith, set_other, nat_tests)

  pub made_step : (events : List Event) → AreObjectsMade (after_world events)
  made_step events = record {
    few = few_after;
    live = λ j i x a at. all_moved (λ y. (i : ℕ) (a : Answered) → slice_get y.answers i ≡ Some a → was_freed y.answers (suc i) ≡ false → IsMadeLive after_map a.made) w.locals l.caller after_local
        (own_live (next c l.place s) refl) (λ j x at apart i a. other_live j i x a at apart) j x at i a;
    flying = all_moved (λ y. IsMadeLive after_map (flight y.place)) w.locals l.caller after_local (own_flying (next c l.place s) refl) other_flying;
    opening = all_moved (λ y. IsOpened (after_world events) y.opening) w.locals l.caller after_local
        (subst (IsOpened (after_world events)) (sym (own_opening (next c l.place s))) (opened_stays events l.opening (kept.opening l.caller l here))) (λ j x at apart. opened_stays events x.opening (kept.opening j x at));
    calls = all_moved (λ y. AreWellNamed y.calls) w.locals l.caller after_local (subst AreWellNamed (sym (own_calls (next c l.place s))) (kept.calls l.caller l here)) (λ j x at apart. kept.calls j x at);
    now = all_moved (λ y. IsNow y y.place) w.locals l.caller after_local (own_now (next c l.place s) refl) (λ j x at apart. kept.now j x at);
  }

-- Callers at their start.

module _ (c : Setup) (answers : List Answered) where
  grounded : (k : ℕ) (own : List Call) → flight (started c answers k own).place ≡ MadeNothing
  grounded k own = begins_with IsGrounded c (grounded_begins c) answers [] (slice_get own 0)

  started_few : (serial first : ℕ) (more : List (List Call)) → sum_by (made_count serial) (callers_from c answers first more) ≡ 0
  started_few serial first more = none_started (made_count serial) c answers (λ k own. omega (arith, ap (is_made serial) (grounded k own))) first more

  -- what is made by callers at their start
  pub record AreStarted (m : PlainMap) (l : Local) : Type 0 where
    pub none : l.answers ≡ []
    pub flying : IsMadeLive m (flight l.place)
    pub opening : l.opening ≡ answers
    pub calls : AreWellNamed l.calls
    pub now : IsNow l l.place

  started_is : (m : PlainMap) (k : ℕ) (own : List Call) → AreWellNamed own → AreStarted m (started c answers k own)
  started_is m k own named = record {
    none = refl;
    flying = subst (IsMadeLive m) (sym (grounded k own)) tt;
    opening = refl;
    calls = named;
    now = begun_now (started c answers k own) c named (slice_get own 0) refl;
  }

module _ (c : Setup) (opening : List Call) (calls : List (List Call)) (named : (k : ℕ) (own : List Call) → slice_get calls k ≡ Some own → AreWellNamed own) where
  first_opened : (w : World) → length w.locals ≡ 1 → AllOver w.locals → IsOpened (with_callers c calls w) (opening_answers w.locals)
  first_opened w one over = grind (arith, append_first, nat_tests)

  pub made_joins : (w : World) → length w.locals ≡ 1 → AreObjectsMade w → AllOver w.locals → AreObjectsMade (with_callers c calls w)
  made_joins w one is over = record {
    few = λ serial. (let few = is.few serial in omega (arith, sum_by-append (made_count serial) w.locals (callers_from c (opening_answers w.locals) 1 calls), started_few c (opening_answers w.locals) serial 1 calls));
    live = λ k i l a h at free. elim (cases k l h) [ inl old ↦ is.live k i l a old at free | inr new ↦ (let none = ap (λ answers. slice_get answers i) (sym new.none) ∙ at in cc) ];
    flying = λ k l h. elim (cases k l h) [ inl old ↦ is.flying k l old | inr new ↦ new.flying ];
    opening = λ k l h. elim (cases k l h) [ inl old ↦ older l.opening (is.opening k l old) | inr new ↦ subst (IsOpened (with_callers c calls w)) (sym new.opening) (first_opened w one over) ];
    calls = λ k l h. elim (cases k l h) [ inl old ↦ is.calls k l old | inr new ↦ new.calls ];
    now = λ k l h. elim (cases k l h) [ inl old ↦ is.now k l old | inr new ↦ new.now ];
  }
    where
      cases : (k : ℕ) (l : Local) → slice_get (with_callers c calls w).locals k ≡ Some l → (slice_get w.locals k ≡ Some l) ⊎ AreStarted c (opening_answers w.locals) w.map l
      cases k l h = elim (append_cases w.locals (callers_from c (opening_answers w.locals) 1 calls) k l h) [
        | inl e ↦ inl e
        | inr e ↦ let own = started_caller c (opening_answers w.locals) 1 calls e.0 l e.2 in
            inr (subst (AreStarted c (opening_answers w.locals) w.map) (sym own.2) (started_is c (opening_answers w.locals) w.map (1 + e.0) own.0 (named e.0 own.0 own.1)))
      ]

      older : (answers : List Answered) → IsOpened w answers → IsOpened (with_callers c calls w) answers
      older answers (inl none) = inl none
      older answers (inr was) = inr (was.0, append_first w.locals (callers_from c (opening_answers w.locals) 1 calls) 0 was.0 was.1, was.2, was.3)

pub made_first : (c : Setup) (opening : List Call) (calls : List (List Call)) → AreWellNamed opening → AreObjectsMade (opening_world c opening calls)
made_first c opening calls named = record {
  few = λ serial. omega (arith, started_few c [] serial 0 (opening ∷ []));
  live = λ k i l a h at free. (let none = ap (λ answers. slice_get answers i) (sym (start k l h).none) ∙ at in cc);
  flying = λ k l h. (start k l h).flying;
  opening = λ k l h. inl (start k l h).opening;
  calls = λ k l h. (start k l h).calls;
  now = λ k l h. (start k l h).now;
}
  where
    only : (k : ℕ) (own : List Call) → slice_get (opening ∷ []) k ≡ Some own → AreWellNamed own
    only zero own e = let same : opening ≡ own = cc in subst AreWellNamed same named
    only (suc k) own e = cc

    start : (k : ℕ) (l : Local) → slice_get (opening_world c opening calls).locals k ≡ Some l → AreStarted c [] (opening_world c opening calls).map l
    start k l h = let own = started_caller c [] 0 (opening ∷ []) k l h in
        subst (AreStarted c [] (opening_world c opening calls).map) (sym own.2) (started_is c [] (opening_world c opening calls).map (0 + k) own.0 (only k own.0 own.1))
