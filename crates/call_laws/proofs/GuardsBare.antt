-- The guards of live areas, and of those that callers have in hand, are unmapped and not stale.
use Rattle.std.proofs.Common.{◌≡◌, ℕ, zero, suc, ◌≤◌, inl, inr, Bool, true, false, List, [], ◌∷◌, length, slice_get, Some, refl, ap, sym, ◌∙◌, subst, arith}
use Rattle.std.proofs.lemmas.Option.{same_Some}
use Rattle.vm_model.specs.declared.calls.Call.{Call}
use Rattle.vm_model.specs.declared.areas.Span.{Span}
use Rattle.vm_model.specs.declared.areas.Area.{Area}
use Rattle.vm_model.specs.declared.areas.AreaKind.{AreaKind}
use Rattle.vm_model.specs.Space.{holds, covers}
use Rattle.vm_model.specs.Setup.{Setup, groups_at}
use Rattle.vm_model.specs.PlainMap.{PlainMap}
use Rattle.vm_model.specs.Areas.{areas_of, group_kinds, group_areas, is_area, named_areas}
use Rattle.vm_model.specs.Events.{Section, Settle, Unmap, Depopulate, Flush}
use Rattle.vm_model.specs.Legal.{IsLegalAs, IsBare, IsUnmapped}
use Rattle.vm_model.specs.Effects.{effect_as}
use Rattle.vm_model.specs.Told.{removed}
use Rattle.vm_model.specs.Given.{given, removal}
use Rattle.vm_model.specs.Places.{Place, MappingArea, SettlingArea, UnmappingArea, SettlingBlock, SettlingGroups, ask}
use Rattle.vm_model.specs.Next.{Next, Go, Answer, next}
use Rattle.vm_model.specs.Calls.{Answered}
use Rattle.vm_model.specs.History.{World, Local, started, moved_to, made_by, opening_world, opening_answers, callers_from}
use Rattle.vm_model.specs.LegalHistory.{Meets}
use Rattle.vm_model.specs.Rules.{IsSetup, IsTrace}
use Rattle.map_laws.proofs.areas.AreaFacts.{IsHolding, guard_part, unpainted, painted_still}
use Rattle.map_laws.proofs.areas.AreaStarts.{asks_settle, no_settle, areas_after}
use Rattle.map_laws.proofs.areas.AreaWorlds.{IsLegalStep, IsLegallyLasting}
use Rattle.map_laws.proofs.TestsAndFilters.{IsIn, filter_has, covers_one, holds_from}
use Rattle.map_laws.proofs.KeptThroughSteps.{IsFramed, has_call, not_over, set_cases, append_cases}
use Rattle.map_laws.proofs.OutMoves.{with_in}
use Rattle.map_laws.proofs.ProperPlaces.{IsPlainKind, IsProper, OnNext, HaveBeginnings, AtOver, begins_with, answers_call}
use Rattle.map_laws.proofs.PlaceRows.{PlaceRow, Mapped, Removed, place_row}
use Rattle.map_laws.proofs.TraceWorlds.{IsTraceWorld, trace_first, trace_lasts, holding_here, proper_here}
use Rattle.call_laws.specs.Guards.{OnGuard, OnGuardInHand}
use Rattle.vm_model.specs.declared.areas.AreaKind.TheVariants as kind

abbrev pub IsClean : PlainMap → ℕ → Type 0
IsClean m page = slice_get m.stale page ≡ Some false

pub clean_kept : (c : Setup) (m : PlainMap) (k : ℕ) (s : Section) (page : ℕ) → IsLegalAs c m k s → IsUnmapped m page → IsClean m page → IsClean (effect_as c m k s) page
clean_kept c m k (Unmap s) page legal none clean = grind (arith, unpainted, covers_one)
clean_kept c m k (Depopulate base pages) page legal none clean = grind (arith, unpainted)
clean_kept c m k (Flush s) page legal none clean = painted_still (holds s) false m.stale page clean
clean_kept c m k _ page legal none clean = clean

pub both_guards : (P Q R : ℕ → Type 0) (k : AreaKind) (s : Span) → ((page : ℕ) → P page → Q page → R page) → OnGuard k s P → OnGuard k s Q → OnGuard k s R
both_guards P Q R k s f is also = grind arith

-- the last page is the guard's part, and one of the span
guard_unmapped : (P : ℕ → Type 0) (k : AreaKind) (s : Span) → 1 ≤ s.pages → ((page : ℕ) → covers (guard_part k s ∷ []) page ≡ true → P page) → OnGuard k s P
guard_unmapped P k s some on = grind (arith, covers_one, guard_part, holds_from)

span_guard : (P : ℕ → Type 0) (k : AreaKind) (s : Span) → 1 ≤ s.pages → ((page : ℕ) → covers (s ∷ []) page ≡ true → P page) → OnGuard k s P
span_guard P k s some on = grind (arith, covers_one, holds_from)

-- of what a caller is settling or unmapping
abbrev pub HandClean : PlainMap → Place → Type 0
HandClean m (SettlingArea s k) = OnGuard k s (IsClean m)
HandClean m (UnmappingArea area) = OnGuard area.kind area.span (IsClean m) × (1 ≤ area.span.pages)
HandClean m _ = Unit {0}

clean_begins : (c : Setup) (m : PlainMap) → HaveBeginnings (HandClean m) c
clean_begins c m _ AtOver = tt
clean_begins c m _ _ = tt

-- Where a section leads.

clean_row : (n : PlainMap) (c : Setup) (m : PlainMap) (s : Section) (p : Place) (to : Next) → PlaceRow c s p to → given c m (ask c p) ≡ Some s
    → ((place : Span) (k : AreaKind) → p ≡ MappingArea place k → OnGuard k place (IsClean n))
    → ((area : Area) → IsIn area m.areas → OnGuard area.kind area.span (IsClean n) × (1 ≤ area.span.pages)) → OnNext (HandClean n) to
clean_row n c m s _ _ (Mapped place k had) e mapping live = mapping place k refl
clean_row n c m s _ _ (Removed start serial area told) e mapping live = live area (by_list (named_areas start serial m.areas) refl (ap removed (same_Some _ _ e) ∙ told))
  where
    by_list : (list : List Area) → named_areas start serial m.areas ≡ list → removed (removal start serial list) ≡ Some area → IsIn area m.areas
    by_list [] f h = cc
    by_list (a ∷ list) f h = (filter_has (is_area start serial) m.areas 0 area (ap (λ l. slice_get l 0) f ∙ h)).there
clean_row n c m s _ _ _ e mapping live = cc

clean_next : (n : PlainMap) (c : Setup) (m : PlainMap) (p : Place) (s : Section) → given c m (ask c p) ≡ Some s
    → ((place : Span) (k : AreaKind) → p ≡ MappingArea place k → OnGuard k place (IsClean n))
    → ((area : Area) → IsIn area m.areas → OnGuard area.kind area.span (IsClean n) × (1 ≤ area.span.pages)) → OnNext (HandClean n) (next c p s)
clean_next n c m p s e mapping live = clean_row n c m s p (next c p s) (place_row c s p) e mapping live

-- In every world.

pub record IsGuardedWorld (c : Setup) (w : World) : Type 0 where
  pub trace : IsTraceWorld c w
  pub areas : (a : Area) → IsIn a w.map.areas → OnGuard a.kind a.span (IsClean w.map)
  pub hands : (k : ℕ) (l : Local) → slice_get w.locals k ≡ Some l → HandClean w.map l.place

-- the guard of an area is unmapped
pub area_unmapped : (c : Setup) (w : World) → IsTraceWorld c w → (a : Area) → IsIn a w.map.areas → OnGuard a.kind a.span (IsUnmapped w.map)
area_unmapped c w is a there = by_kind a.kind refl
  where
    by_kind : (k : AreaKind) → a.kind ≡ k → OnGuard k a.span (IsUnmapped w.map)
    by_kind kind.Vmalloc e = guard_unmapped (IsUnmapped w.map) kind.Vmalloc a.span (is.full.each a there)
        (λ page h. (is.area.fine.areas there.place a there.at).guard (subst IsPlainKind (sym e) tt) page (ap (λ k. covers (guard_part k a.span ∷ []) page) e ∙ h))
    by_kind kind.MapRam e = tt
    by_kind (kind.Block cpu) e = tt
    by_kind (kind.Chunk chunk group) e = tt

pub hand_unmapped : (c : Setup) (m : PlainMap) (k : ℕ) (p : Place) → IsProper c p → IsHolding c m k p → HandClean m p → OnGuardInHand p (IsUnmapped m)
hand_unmapped c m k p proper is clean = grind (arith, span_guard, guard_unmapped)

module _ (c : Setup) (opening : List Call) (calls : List (List Call)) (trace : IsTrace c opening calls) where
  module _ (w : World) (framed : IsFramed c w) (is : IsGuardedWorld c w) where
    -- of a caller that unmaps or settles an area: its guard is still clean after any legal section
    module _ (k : ℕ) (s : Section) (legal : IsLegalAs c w.map k s) where
      abbrev after : PlainMap
      after = effect_as c w.map k s

      area_still : (a : Area) → IsIn a w.map.areas → OnGuard a.kind a.span (IsClean after)
      area_still a there = grind (arith, both_guards, clean_kept, area_unmapped)

      hand_by : (p : Place) → HandClean w.map p → OnGuardInHand p (IsUnmapped w.map) → HandClean after p
      hand_by (SettlingArea place kd) clean none = both_guards (IsUnmapped w.map) (IsClean w.map) (IsClean after) kd place (λ page n c'. clean_kept c w.map k s page legal n c') none clean
      hand_by (UnmappingArea area) clean none = grind (arith, both_guards, clean_kept)
      hand_by _ clean none = tt

      hand_still : (j : ℕ) (x : Local) → slice_get w.locals j ≡ Some x → HandClean after x.place
      hand_still j x at = hand_by x.place (is.hands j x at)
          (hand_unmapped c w.map x.caller x.place (proper_here c trace.setup w framed is.trace j x at) (holding_here c trace.setup w framed is.trace j x at) (is.hands j x at))

    module _ (k : ℕ) (l : Local) (s : Section) (step : IsLegalStep w k l s) where
      own_setup : l.setup ≡ c
      own_setup = (framed.own k l step.step.here).setup

      legal_here : IsLegalAs c w.map l.caller s
      legal_here = subst (λ d. IsLegalAs d w.map l.caller s) own_setup (subst (λ i. IsLegalAs l.setup w.map i s) (sym (framed.own k l step.step.here).caller) step.legal)

      gives_here : given c w.map (ask c l.place) ≡ Some s
      gives_here = subst (λ d. given d w.map (ask d l.place) ≡ Some s) own_setup step.step.gives

      meets_here : Meets c (ask c l.place) s
      meets_here = subst (λ d. Meets d (ask d l.place) s) own_setup step.meets

      proper : IsProper c l.place
      proper = proper_here c trace.setup w framed is.trace k l step.step.here

      -- what was carved is bare
      mapping_still : (place : Span) (kd : AreaKind) → l.place ≡ MappingArea place kd → OnGuard kd place (IsClean (after l.caller s legal_here))
      mapping_still place kd e = grind (arith, span_guard, legal_here, proper, clean_kept, holding_here)

      own_next : OnNext (HandClean (after l.caller s legal_here)) (next c l.place s)
      own_next = clean_next (after l.caller s legal_here) c w.map l.place s gives_here mapping_still (λ area there. (area_still l.caller s legal_here area there, is.trace.full.each area there))

      one_settled : (place : Span) (kd : AreaKind) (first : ℕ) → OnGuard kd place (IsClean (after l.caller s legal_here)) → (i : ℕ) (a : Area)
          → slice_get (areas_of l.caller first ((place, kd) ∷ [])) i ≡ Some a
          → OnGuard a.kind a.span (IsClean (after l.caller s legal_here))
      one_settled place kd first clean i a e = grind (arith, legal_here, same_Some)

      settled_alone : (place : Span) (kd : AreaKind) (first : ℕ) → s ≡ Settle ((place, kd) ∷ []) first → OnGuard kd place (IsClean (after l.caller s legal_here)) → (a : Area)
          → IsIn a (after l.caller s legal_here).areas
          → OnGuard a.kind a.span (IsClean (after l.caller s legal_here))
      settled_alone place kd first e clean a ia =
          elim (with_in (areas_of l.caller first ((place, kd) ∷ [])) w.map.areas a (subst (λ (x : Section). IsIn a (effect_as c w.map l.caller x).areas) e ia)) [
            | inl new ↦ one_settled place kd first clean new.place a new.at
            | inr was ↦ area_still l.caller s legal_here a was
          ]

      groups_plain : (k' first chunk group : ℕ) (spans : List Span) (i : ℕ) (a : Area) → slice_get (areas_of k' first (group_kinds chunk group spans)) i ≡ Some a
          → OnGuard a.kind a.span (IsClean (after l.caller s legal_here))
      groups_plain k' first chunk group [] i a e = cc
      groups_plain k' first chunk group (x ∷ spans) zero a e = subst (λ (y : Area). OnGuard y.kind y.span (IsClean (after l.caller s legal_here))) (same_Some _ _ e) tt
      groups_plain k' first chunk group (x ∷ spans) (suc i) a e = groups_plain k' (suc first) chunk (suc group) spans i a e

      areas_by : (p : Place) → l.place ≡ p → (b : Bool) → asks_settle (ask c p) ≡ b → Meets c (ask c p) s → HandClean (after l.caller s legal_here) p → (a : Area)
          → IsIn a (after l.caller s legal_here).areas → OnGuard a.kind a.span (IsClean (after l.caller s legal_here))
      areas_by p at false e w' clean a ia = area_still l.caller s legal_here a (areas_after c w.map l.caller s (no_settle c (ask c p) s e w') a ia)
      areas_by (SettlingArea place kd) at true e w' clean a ia = settled_alone place kd w'.0 w'.1 clean a ia
      areas_by (SettlingBlock place cpu pages) at true e w' clean a ia = settled_alone place (kind.Block cpu) w'.0 w'.1 tt a ia
      areas_by (SettlingGroups base chunk bytes align) at true e w' clean a ia =
          elim (with_in (areas_of l.caller w'.0 (group_areas c chunk base)) w.map.areas a (subst (λ (x : Section). IsIn a (effect_as c w.map l.caller x).areas) w'.1 ia)) [
            | inl new ↦ groups_plain l.caller w'.0 chunk 0 (groups_at c base) new.place a new.at
            | inr was ↦ area_still l.caller s legal_here a was
          ]
      areas_by _ at true e w' clean a ia = cc

      guarded_step : IsGuardedWorld c (made_by w l s)
      guarded_step = record {
        trace = (trace_lasts c opening calls trace).steps w k l s framed is.trace step;
        areas = subst (λ d. (a : Area) → IsIn a (effect_as d w.map l.caller s).areas → OnGuard a.kind a.span (IsClean (effect_as d w.map l.caller s))) (sym own_setup)
            (areas_by l.place refl (asks_settle (ask c l.place)) refl meets_here (hand_still l.caller s legal_here k l step.step.here));
        hands = λ j x h. elim (set_cases w.locals l.caller j (moved_to l (next l.setup l.place s)) x h) [
          | inl e ↦ subst (λ (y : Local). HandClean (effect_as l.setup w.map l.caller s) y.place) (sym e.1)
              (moved_clean (effect_as l.setup w.map l.caller s) (next l.setup l.place s) (subst (λ d. OnNext (HandClean (effect_as d w.map l.caller s)) (next d l.place s)) (sym own_setup) own_next))
          | inr e ↦ subst (λ d. HandClean (effect_as d w.map l.caller s) x.place) (sym own_setup) (hand_still l.caller s legal_here j x e.1)
        ];
      }
        where
          moved_clean : (n : PlainMap) (to : Next) → OnNext (HandClean n) to → HandClean n (moved_to l to).place
          moved_clean n (Go p) clean = clean
          moved_clean n (Answer r made) clean =
              let e = answers_call l r made (has_call c k l (framed.own k l step.step.here) (not_over l.setup w.map l.place s step.step.gives)) in
              subst (λ (x : Local). HandClean n x.place) (sym e.2) (begins_with (HandClean n) l.setup (clean_begins l.setup n) l.opening _ (slice_get l.calls (suc (length l.answers))))

  started_clean : (m : PlainMap) (answers : List Answered) (first : ℕ) (more : List (List Call)) (j : ℕ) (l : Local) → slice_get (callers_from c answers first more) j ≡ Some l → HandClean m l.place
  started_clean m answers first [] j l h = cc
  started_clean m answers first (own ∷ more) zero l h = subst (λ (x : Local). HandClean m x.place) (same_Some _ _ h) (begins_with (HandClean m) c (clean_begins c m) answers [] (slice_get own 0))
  started_clean m answers first (own ∷ more) (suc j) l h = started_clean m answers (suc first) more j l h

  first_clean : (k : ℕ) (l : Local) → slice_get (started c [] 0 opening ∷ []) k ≡ Some l → HandClean (opening_world c opening calls).map l.place
  first_clean zero l h = subst (λ (x : Local). HandClean (opening_world c opening calls).map x.place) (same_Some _ _ h)
      (begins_with (HandClean (opening_world c opening calls).map) c (clean_begins c (opening_world c opening calls).map) [] [] (slice_get opening 0))
  first_clean (suc k) l h = cc

  pub guarded_lasts : IsLegallyLasting c calls (IsGuardedWorld c)
  guarded_lasts = record {
    steps = λ v k l s framed is step. guarded_step v framed is k l s step;
    joins = λ v framed one is over. record {
      trace = (trace_lasts c opening calls trace).joins v framed one is.trace over;
      areas = is.areas;
      hands = λ k l h. elim (append_cases v.locals (callers_from c (opening_answers v.locals) 1 calls) k l h) [
        | inl e ↦ is.hands k l e
        | inr e ↦ started_clean v.map (opening_answers v.locals) 1 calls e.0 l e.2
      ];
    };
  }

  pub guarded_first : IsGuardedWorld c (opening_world c opening calls)
  guarded_first = record {
    trace = trace_first c opening calls trace;
    areas = λ a there. (let at = there.at in cc);
    hands = first_clean;
  }

-- unmapped, and not stale
pub bare : (m : PlainMap) (page : ℕ) → IsUnmapped m page → IsClean m page → IsBare m page
bare m page none clean = record { unmapped = none; not_stale = clean }

-- in each such world
pub areas_bare : (c : Setup) (w : World) → IsGuardedWorld c w → (a : Area) → IsIn a w.map.areas → OnGuard a.kind a.span (IsBare w.map)
areas_bare c w is a there = both_guards (IsUnmapped w.map) (IsClean w.map) (IsBare w.map) a.kind a.span (bare w.map) (area_unmapped c w is.trace a there) (is.areas a there)

pub hands_bare : (c : Setup) (setup : IsSetup c) (w : World) → IsFramed c w → IsGuardedWorld c w → (k : ℕ) (l : Local) → slice_get w.locals k ≡ Some l → OnGuardInHand l.place (IsBare w.map)
hands_bare c setup w framed is k l at = grind (arith, proper_here, holding_here, proper, span_guard, bare, both_guards, hand_unmapped)
