-- What a call names as an area that it made is a plain one, as long as it lives.
use Rattle.std.proofs.Common.{◌≡◌, ℕ, zero, suc, ◌+◌, ◌<◌, ◌≤◌, ◌⊎◌, inl, inr, Bool, true, false, ◌==◌, List, [], ◌∷◌, ◌++◌, length, slice_get, Option, Some, None, refl, ap, sym, ◌∙◌, subst, arith}
use Rattle.vm_model.specs.declared.areas.Span.{Span}
use Rattle.vm_model.specs.declared.areas.Area.{Area}
use Rattle.vm_model.specs.declared.areas.AreaKind.{AreaKind}
use Rattle.std.proofs.lemmas.Bool.Decides.{nat_tests}
use Rattle.vm_model.specs.declared.calls.Call.{Call}
use Rattle.std.proofs.lemmas.Option.{slice_get_within}
use Rattle.vm_model.specs.Setup.{Setup}
use Rattle.vm_model.specs.PlainMap.{PlainMap}
use Rattle.vm_model.specs.Areas.{named_areas, is_area, areas_of}
use Rattle.vm_model.specs.Legal.{IsLegalAs}
use Rattle.vm_model.specs.Events.{Section, Settle, Remove, Unlink}
use Rattle.vm_model.specs.Effects.{effect_as}
use Rattle.vm_model.specs.Places.{Place, Made, MadeArea, GivingAlloc, SettlingArea, Removing, ask}
use Rattle.vm_model.specs.Next.{Next, Go, Answer, next}
use Rattle.vm_model.specs.Told.{serial_given}
use Rattle.vm_model.specs.Calls.{Answered, begin}
use Rattle.vm_model.specs.History.{World, Local, started, moved_to, made_by, opening_world, opening_answers, with_callers}
use Rattle.vm_model.specs.LegalHistory.{Meets}
use Rattle.map_laws.proofs.PlaceRows.{place_row}
use Rattle.map_laws.proofs.KeptThroughSteps.{IsFramed, not_over, has_call}
use Rattle.map_laws.proofs.TestsAndFilters.{IsIn, filter_has}
use Rattle.map_laws.proofs.SearchEnds.{and_both}
use Rattle.map_laws.proofs.ProperPlaces.{IsPlainKind, IsProper, AllStand, either_place, answers_call, all_answered, all_joined, all_moved, all_started}
use Rattle.map_laws.proofs.OutMoves.{with_in}
use Rattle.map_laws.proofs.areas.AreaStarts.{areas_after}
use Rattle.map_laws.proofs.areas.AreaWorlds.{IsLegalStep}

-- the serials of areas that live are given
pub record AreGiven (m : PlainMap) : Type 0 where
  pub below : (a : Area) → IsIn a m.areas → a.serial < m.next_area

-- a serial that is given, and is no block's and no chunk's
pub record IsPlainSerial (m : PlainMap) (serial : ℕ) : Type 0 where
  pub given : serial < m.next_area
  pub plain : (a : Area) → IsIn a m.areas → a.serial ≡ serial → IsPlainKind a.kind

abbrev pub IsPlainMade : PlainMap → Made → Type 0
IsPlainMade m (MadeArea start serial) = IsPlainSerial m serial
IsPlainMade m _ = Unit {0}

abbrev pub IsPlainPlace : PlainMap → Place → Type 0
IsPlainPlace m (Removing start serial) = IsPlainSerial m serial
IsPlainPlace m (GivingAlloc r made) = IsPlainMade m made
IsPlainPlace m _ = Unit {0}

-- the serials of settled areas
settled_serial : (k first : ℕ) (areas : List (Span × AreaKind)) (i : ℕ) (a : Area) → slice_get (areas_of k first areas) i ≡ Some a → a.serial ≡ first + i
settled_serial k first [] i a h = cc
settled_serial k first (p ∷ areas) i a h = grind (arith, settled_serial k (suc first) areas)

length-areas_of : (k first : ℕ) (areas : List (Span × AreaKind)) → length (areas_of k first areas) ≡ length areas
length-areas_of k first [] = refl
length-areas_of k first (p ∷ areas) = ap suc (length-areas_of k (suc first) areas)

-- an area behind a section was there, or has a serial from the next one on
pub data IsOldOrNew (m m' : PlainMap) (a : Area) : Type 0 where
  IsOld : IsIn a m.areas → IsOldOrNew m m' a
  IsNew : m.next_area ≤ a.serial → a.serial < m'.next_area → IsOldOrNew m m' a

module _ (c : Setup) (m : PlainMap) (k : ℕ) where
  new_area : (areas : List (Span × AreaKind)) (first : ℕ) (a : Area) → first ≡ m.next_area → IsIn a (areas_of k first areas) ⊎ IsIn a m.areas → IsOldOrNew m (effect_as c m k (Settle areas first)) a
  new_area areas first a e either = grind (arith, slice_get_within, settled_serial, length-areas_of, nat_tests)

  pub old_or_new : (s : Section) → IsLegalAs c m k s → (a : Area) → IsIn a (effect_as c m k s).areas → IsOldOrNew m (effect_as c m k s) a
  old_or_new (Settle areas first) legal a there = new_area areas first a legal.1 (with_in (areas_of k first areas) m.areas a there)
  old_or_new (Remove start serial area) legal a there = IsOld (areas_after c m k (Remove start serial area) refl a there)
  old_or_new (Unlink starts) legal a there = IsOld (areas_after c m k (Unlink starts) refl a there)
  old_or_new _ legal a there = IsOld there

  pub next_grows : (s : Section) → IsLegalAs c m k s → m.next_area ≤ (effect_as c m k s).next_area
  next_grows s legal = grind (arith, nat_tests)

  serial_by : (s : Section) → IsLegalAs c m k s → AreGiven m → (a : Area) → IsOldOrNew m (effect_as c m k s) a → a.serial < (effect_as c m k s).next_area
  serial_by s legal is a (IsOld old) = let low = is.below a old in let more = next_grows s legal in omega arith
  serial_by s legal is a (IsNew low high) = high

  pub given_after : (s : Section) → IsLegalAs c m k s → AreGiven m → AreGiven (effect_as c m k s)
  given_after s legal is = record { below = λ a there. serial_by s legal is a (old_or_new s legal a there) }

  pub plain_stays : (s : Section) → IsLegalAs c m k s → (serial : ℕ) → IsPlainSerial m serial → IsPlainSerial (effect_as c m k s) serial
  plain_stays s legal serial is = grind (arith, next_grows, old_or_new, nat_tests)

  pub made_stays : (s : Section) → IsLegalAs c m k s → (made : Made) → IsPlainMade m made → IsPlainMade (effect_as c m k s) made
  made_stays s legal made is = grind (arith, old_or_new)

  pub place_stays : (s : Section) → IsLegalAs c m k s → (p : Place) → IsPlainPlace m p → IsPlainPlace (effect_as c m k s) p
  place_stays s legal p is = grind (arith, old_or_new)

  -- an area that a caller settles is plain, and has the serial that it is told
  settled_plain : (place : Span) (kd : AreaKind) (first : ℕ) (a : Area) → IsPlainKind kd → AreGiven m → first ≡ m.next_area → a.serial ≡ first → IsIn a (areas_of k first ((place, kd) ∷ [])) ⊎ IsIn a m.areas → IsPlainKind a.kind
  settled_plain place kd first a plain is e f (inr old) = absurd (let low = is.below a old in omega arith)
  settled_plain place kd first a plain is e f (inl new) = grind (arith, nat_tests)

  pub settles_plain : (place : Span) (kd : AreaKind) (first : ℕ) (s : Section) → s ≡ Settle ((place, kd) ∷ []) first → IsLegalAs c m k s → IsPlainKind kd → AreGiven m → IsPlainSerial (effect_as c m k s) (serial_given s)
  settles_plain place kd first s e legal plain is = subst (λ (x : Section). IsPlainSerial (effect_as c m k x) (serial_given x)) (sym e) (record {
    given = omega arith;
    plain = λ a there f. settled_plain place kd first a plain is (subst (IsLegalAs c m k) e legal).1 f (with_in (areas_of k first ((place, kd) ∷ [])) m.areas a there);
  })

-- where a caller goes, with what it made
abbrev pub IsPlainNext : PlainMap → Next → Type 0
IsPlainNext m (Go p) = IsPlainPlace m p
IsPlainNext m (Answer r made) = IsPlainMade m made

abbrev pub makes_area : Place → Bool
makes_area (SettlingArea s k) = true
makes_area (GivingAlloc r made) = true
makes_area _ = false

module _ (c : Setup) (m : PlainMap) where
  pub plain_next : (p : Place) (s : Section) → makes_area p ≡ false → IsPlainNext m (next c p s)
  plain_next p s h = grind (arith, place_row, nat_tests)

module _ (c : Setup) (m : PlainMap) (k : ℕ) where
  pub plain_after : (p : Place) (s : Section) → IsProper c p → AreGiven m → IsPlainPlace m p → Meets c (ask c p) s → IsLegalAs c m k s → IsPlainNext (effect_as c m k s) (next c p s)
  plain_after p s proper is plain w legal = grind (arith, plain_next, settles_plain, made_stays, nat_tests)

-- of a caller: what its answers made, and those of the opening, and its place
pub record IsPlainCaller (m : PlainMap) (l : Local) : Type 0 where
  pub answers : (i : ℕ) (a : Answered) → slice_get l.answers i ≡ Some a → IsPlainMade m a.made
  pub opening : (i : ℕ) (a : Answered) → slice_get l.opening i ≡ Some a → IsPlainMade m a.made
  pub place : IsPlainPlace m l.place

pub record IsPlainWorld (w : World) : Type 0 where
  pub given : AreGiven w.map
  pub each : (k : ℕ) (l : Local) → slice_get w.locals k ≡ Some l → IsPlainCaller w.map l

module _ (m : PlainMap) (c : Setup) (opening own : List Answered) (p : (i : ℕ) (a : Answered) → slice_get opening i ≡ Some a → IsPlainMade m a.made) (q : (i : ℕ) (a : Answered) → slice_get own i ≡ Some a → IsPlainMade m a.made) where
  begin_plain : (o : Option Call) → IsPlainPlace m (begin c opening own o)
  begin_plain o = grind (arith, nat_tests)

moved_plain : (m : PlainMap) (l : Local) (n : Next) → length l.answers < length l.calls → IsPlainCaller m l → IsPlainNext m n → IsPlainCaller m (moved_to l n)
moved_plain m l (Go p) call is to = record { answers = is.answers; opening = is.opening; place = to }
moved_plain m l (Answer r made) call is to =
    let e = answers_call l r made call in
    let more = all_answered (λ x. IsPlainMade m x.made) l.answers (record { call = e.0; reply = r; made = made; own_event = suc l.events }) is.answers to in
    subst (IsPlainCaller m) (sym e.2) (record { answers = more; opening = is.opening; place = begin_plain m l.setup l.opening _ is.opening more (slice_get l.calls (suc (length l.answers))) })

caller_stays : (c : Setup) (m : PlainMap) (k : ℕ) (s : Section) → IsLegalAs c m k s → (l : Local) → IsPlainCaller m l → IsPlainCaller (effect_as c m k s) l
caller_stays c m k s legal l is = record {
  answers = λ i a h. made_stays c m k s legal a.made (is.answers i a h);
  opening = λ i a h. made_stays c m k s legal a.made (is.opening i a h);
  place = place_stays c m k s legal l.place is.place;
}

pub plain_step : (c : Setup) (w : World) (k : ℕ) (l : Local) (s : Section) → IsFramed c w → AllStand IsProper w → IsPlainWorld w → IsLegalStep w k l s → IsPlainWorld (made_by w l s)
plain_step c w k l s framed proper is step =
    let own = framed.own k l step.step.here in
    let legal : IsLegalAs l.setup w.map l.caller s = subst (λ i. IsLegalAs l.setup w.map i s) (sym own.caller) step.legal in
    let caller = is.each k l step.step.here in record {
      given = given_after l.setup w.map l.caller s legal is.given;
      each = all_moved (IsPlainCaller (effect_as l.setup w.map l.caller s)) w.locals l.caller _
          (moved_plain (effect_as l.setup w.map l.caller s) l (next l.setup l.place s) (has_call c k l own (not_over l.setup w.map l.place s step.step.gives)) (caller_stays l.setup w.map l.caller s legal l caller)
          (plain_after l.setup w.map l.caller l.place s (proper.each k l step.step.here) is.given caller.place step.meets legal))
          (λ j x h apart. caller_stays l.setup w.map l.caller s legal x (is.each j x h));
    }

started_plain : (c : Setup) (m : PlainMap) (answers : List Answered) → ((i : ℕ) (a : Answered) → slice_get answers i ≡ Some a → IsPlainMade m a.made) → (k : ℕ) (own : List Call) → IsPlainCaller m (started c answers k own)
started_plain c m answers all k own = record { answers = λ i a f. cc; opening = all; place = begin_plain m c answers [] all (λ i a f. cc) (slice_get own 0) }

pub plain_first : (c : Setup) (opening : List Call) (calls : List (List Call)) → IsPlainWorld (opening_world c opening calls)
plain_first c opening calls = record {
  given = record { below = λ a there. (let at = there.at in cc) };
  each = all_started (IsPlainCaller (opening_world c opening calls).map) c [] 0 (opening ∷ []) (started_plain c (opening_world c opening calls).map [] (λ i a f. cc));
}

opening_plain : (m : PlainMap) (locals : List Local) → ((k : ℕ) (l : Local) → slice_get locals k ≡ Some l → IsPlainCaller m l) → (i : ℕ) (a : Answered) → slice_get (opening_answers locals) i ≡ Some a → IsPlainMade m a.made
opening_plain m [] all i a h = cc
opening_plain m (l ∷ locals) all i a h = (all 0 l refl).answers i a h

pub plain_joins : (c : Setup) (calls : List (List Call)) (w : World) → IsPlainWorld w → IsPlainWorld (with_callers c calls w)
plain_joins c calls w is = record {
  given = is.given;
  each = all_joined (IsPlainCaller w.map) c calls w is.each (started_plain c w.map (opening_answers w.locals) (opening_plain w.map w.locals is.each));
}

-- the area that is removed is a plain one
pub removed_plain : (m : PlainMap) (start serial : ℕ) → IsPlainSerial m serial → (area : Area) → named_areas start serial m.areas ≡ area ∷ [] → IsPlainKind area.kind
removed_plain m start serial is area e =
    let kept = filter_has (is_area start serial) m.areas 0 area (ap (λ l. slice_get l 0) e) in
    is.plain area kept.there (let same : area.serial ≡ serial = same_number area.serial serial (and_both (area.span.start == start) (area.serial == serial) kept.passes).1 in same)
  where
    same_number : (a b : ℕ) → (a == b) ≡ true → a ≡ b
    same_number a b h = grind (arith, nat_tests)
