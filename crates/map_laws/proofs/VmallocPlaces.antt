-- A vmalloc call makes an area at a multiple of its alignment.
use Rattle.std.proofs.Common.{◌≡◌, ℕ, zero, suc, ◌%◌, ◌<◌, inl, inr, List, [], ◌∷◌, ◌++◌, length, slice_get, Option, Some, None, refl, ap, sym, ◌∙◌, subst, arith, length-append, IsSomeAnd}
use Rattle.vm_model.specs.declared.areas.AreaKind.{AreaKind}
use Rattle.vm_model.specs.declared.calls.Call.{Call}
use Rattle.vm_model.specs.declared.calls.Call.TheVariants.{Vmalloc}
use Rattle.vm_model.specs.Space.{lowest}
use Rattle.vm_model.specs.Setup.{Setup}
use Rattle.vm_model.specs.PlainMap.{PlainMap, taken}
use Rattle.vm_model.specs.Events.{Section, Search, ForPages}
use Rattle.vm_model.specs.Told.{carved, carved_base}
use Rattle.vm_model.specs.Places.{Place, Refusing, Finding, FindingAgain, MappingArea, Dropping, SettlingArea, PurgeTaking, PurgeFragmenting, PurgeUnlinking, PurgeWaiting, PurgeCollecting, PurgeFlushing, PurgeReturning, PurgeGiving, Made, MadeArea, Aim, ForArea, Then, SearchAgain, AskSearch, ask}
use Rattle.vm_model.specs.Next.{Next, Go, Answer, next, found, without_space}
use Rattle.vm_model.specs.Calls.{Answered, begin, begin_call, align_pages, is_bad_vmalloc_size, is_bad_vmalloc_align}
use Rattle.vm_model.specs.Given.{given, carving}
use Rattle.vm_model.specs.History.{World, Local, started, answered, moved_to, opening_world, opening_answers}
use Rattle.vm_model.specs.Laws.{IsMadeAligned}
use Rattle.map_laws.proofs.PlaceRows.{PlaceRow, Refused, place_row}
use Rattle.map_laws.proofs.KeptThroughSteps.{IsLasting, not_over, has_call}
use Rattle.map_laws.proofs.SearchEnds.{is_zero, lowest_fit}
use Rattle.map_laws.proofs.ProperPlaces.{answers_call, either_place, all_answered, all_joined, all_moved, then_of}

abbrev pub IsSearchAt : ℕ → Search → Aim → Type 0
IsSearchAt k (ForPages pages align) (ForArea kd) = align ≡ k
IsSearchAt k _ _ = ⊥

abbrev pub IsThenAt : ℕ → Then → Type 0
IsThenAt k (SearchAgain search aim) = IsSearchAt k search aim
IsThenAt k _ = ⊥

-- the places of a vmalloc call with this alignment in pages
abbrev pub IsVmallocAt : ℕ → Place → Type 0
IsVmallocAt k (Refusing r) = Unit {0}
IsVmallocAt k (Finding search aim) = IsSearchAt k search aim
IsVmallocAt k (FindingAgain search aim) = IsSearchAt k search aim
IsVmallocAt k (MappingArea s kd) = s.start % k ≡ 0
IsVmallocAt k (Dropping s) = Unit {0}
IsVmallocAt k (SettlingArea s kd) = s.start % k ≡ 0
IsVmallocAt k p = IsSomeAnd (then_of p) (IsThenAt k)

-- what it made starts at such a multiple
abbrev pub IsMadeAt : ℕ → Made → Type 0
IsMadeAt k (MadeArea start serial) = start % k ≡ 0
IsMadeAt k _ = Unit {0}

abbrev pub IsNextAt : ℕ → Next → Type 0
IsNextAt k (Go p) = IsVmallocAt k p
IsNextAt k (Answer r made) = IsMadeAt k made

module _ (c : Setup) (m : PlainMap) (k : ℕ) where
  found_at : (pages align : ℕ) (kd : AreaKind) (otherwise : Next) (o : Option ℕ) → lowest (taken m) pages align ≡ o → align ≡ k → IsNextAt k otherwise
      → IsNextAt k (found (ForArea kd) (carved (carving pages align o)) (carved_base (carving pages align o)) otherwise)
  found_at pages align kd otherwise None e is q = q
  found_at pages align kd otherwise (Some start) e is q = ap (λ n. start % n) (sym is) ∙ is_zero (start % align) (lowest_fit (taken m) pages align start e).0

  search_at : (search : Search) (aim : Aim) (otherwise : Next) (s : Section) → IsSearchAt k search aim → IsNextAt k otherwise → given c m (AskSearch search) ≡ Some s → IsNextAt k (found aim (carved s) (carved_base s) otherwise)
  search_at search aim otherwise s is q e = grind (arith, found_at)

  no_space_at : (search : Search) (aim : Aim) → IsSearchAt k search aim → IsNextAt k (without_space aim)
  no_space_at search aim is = grind arith

  at_row : (s : Section) (p : Place) (n : Next) → PlaceRow c s p n → IsVmallocAt k p → given c m (ask c p) ≡ Some s → n ≡ next c p s → IsNextAt k n
  at_row s (Finding search aim) n row is e f = subst (IsNextAt k) (sym f) (search_at search aim _ s is is e)
  at_row s (FindingAgain search aim) n row is e f = subst (IsNextAt k) (sym f) (search_at search aim _ s is (no_space_at search aim is) e)
  at_row s _ n (Refused r) is e f = tt
  at_row s _ n _ is e f = search

  pub next_at : (p : Place) (s : Section) → IsVmallocAt k p → given c m (ask c p) ≡ Some s → IsNextAt k (next c p s)
  next_at p s is e = at_row s p (next c p s) (place_row c s p) is e refl

-- of a caller: its answers, and its call at hand
pub record IsLocalAligned (l : Local) : Type 0 where
  pub answers : (i : ℕ) (a : Answered) → slice_get l.answers i ≡ Some a → IsMadeAligned a.call a.made
  pub now : (bytes align : ℕ) → slice_get l.calls (length l.answers) ≡ Some (Vmalloc bytes align) → IsVmallocAt (align_pages align) l.place

pub record AreAligned (w : World) : Type 0 where
  pub each : (k : ℕ) (l : Local) → slice_get w.locals k ≡ Some l → IsLocalAligned l

begins_at : (c : Setup) (opening own : List Answered) (bytes align : ℕ) → IsVmallocAt (align_pages align) (begin_call c opening own (Vmalloc bytes align))
begins_at c opening own bytes align = either_place (IsVmallocAt (align_pages align)) (is_bad_vmalloc_size c bytes) _ _ (λ e. tt) (λ e. either_place (IsVmallocAt (align_pages align)) (is_bad_vmalloc_align align) _ _ (λ f. tt) (λ f. refl))

starts_at : (c : Setup) (opening own : List Answered) (o : Option Call) (bytes align : ℕ) → o ≡ Some (Vmalloc bytes align) → IsVmallocAt (align_pages align) (begin c opening own o)
starts_at c opening own o bytes align e = subst (λ x. IsVmallocAt (align_pages align) (begin c opening own x)) (sym e) (begins_at c opening own bytes align)

made_at : (call : Call) (made : Made) → ((bytes align : ℕ) → call ≡ Vmalloc bytes align → IsMadeAt (align_pages align) made) → IsMadeAligned call made
made_at (Vmalloc bytes align) (MadeArea start serial) h = h bytes align refl
made_at _ _ h = tt

answered_aligned : (l : Local) (a : Answered) → IsLocalAligned l → IsMadeAligned a.call a.made → IsLocalAligned (answered l a)
answered_aligned l a is made = record {
  answers = all_answered (λ x. IsMadeAligned x.call x.made) l.answers a is.answers made;
  now = λ bytes align h. starts_at l.setup l.opening (l.answers ++ a ∷ []) (slice_get l.calls (suc (length l.answers))) bytes align
      ((let n : suc (length l.answers) ≡ length (l.answers ++ a ∷ []) = omega (arith, length-append l.answers (a ∷ [])) in ap (slice_get l.calls) n) ∙ h);
}

moved_aligned : (l : Local) (m : PlainMap) (s : Section) → length l.answers < length l.calls → given l.setup m (ask l.setup l.place) ≡ Some s → IsLocalAligned l → (n : Next) → next l.setup l.place s ≡ n → IsLocalAligned (moved_to l n)
moved_aligned l m s call gives is (Go p) e = record { answers = is.answers; now = λ bytes align h. subst (IsNextAt (align_pages align)) e (next_at l.setup m (align_pages align) l.place s (is.now bytes align h) gives) }
moved_aligned l m s call gives is (Answer r made) e =
    let at = answers_call l r made call in
    subst IsLocalAligned (sym at.2) (grind (arith, answered_aligned, made_at))

started_aligned : (c : Setup) (opening : List Answered) (k : ℕ) (own : List Call) → IsLocalAligned (started c opening k own)
started_aligned c opening k own = record { answers = λ i a h. cc; now = λ bytes align h. starts_at c opening [] (slice_get own 0) bytes align h }

pub aligned_lasts : (c : Setup) (calls : List (List Call)) → IsLasting c calls AreAligned
aligned_lasts c calls = record {
  steps = λ w k l s framed all step. record {
    each = all_moved IsLocalAligned w.locals l.caller _
        (moved_aligned l w.map s (has_call c k l (framed.own k l step.here) (not_over l.setup w.map l.place s step.gives)) step.gives (all.each k l step.here) (next l.setup l.place s) refl) (λ j x h apart. all.each j x h);
  };
  joins = λ w framed one all over. record { each = all_joined IsLocalAligned c calls w all.each (started_aligned c (opening_answers w.locals)) };
}

pub aligned_first : (c : Setup) (opening : List Call) (calls : List (List Call)) → AreAligned (opening_world c opening calls)
aligned_first c opening calls = grind (arith, started_aligned)
