-- All areas of a chunk stand at one base.
use Rattle.std.proofs.Common.{◌≡◌, ℕ, zero, suc, ◌+◌, ◌%◌, ◌<◌, ◌⊎◌, inl, inr, Bool, true, false, List, [], ◌∷◌, map, slice_get, slice_set, Option, Some, None, refl, ap, sym, ◌∙◌, subst, arith}
use Rattle.std.proofs.lemmas.Option.{same_Some}
use Rattle.vm_model.specs.declared.calls.Call.{Call}
use Rattle.vm_model.specs.declared.areas.Span.{Span}
use Rattle.vm_model.specs.declared.areas.Area.{Area}
use Rattle.vm_model.specs.declared.areas.AreaKind.{AreaKind}
use Rattle.vm_model.specs.Space.{span}
use Rattle.vm_model.specs.Setup.{Setup}
use Rattle.vm_model.specs.PlainMap.{PlainMap}
use Rattle.vm_model.specs.Areas.{areas_of, group_kinds, group_areas}
use Rattle.vm_model.specs.Carried.{has_alloc}
use Rattle.vm_model.specs.Events.{Section, Settle}
use Rattle.vm_model.specs.Effects.{effect_as}
use Rattle.vm_model.specs.Places.{Place, SettlingArea, SettlingBlock, SettlingGroups, AddingChunk, ask}
use Rattle.vm_model.specs.Next.{next}
use Rattle.vm_model.specs.History.{World, Local, moved_to, made_by, opening_answers, callers_from}
use Rattle.vm_model.specs.LegalHistory.{Meets, IsReached}
use Rattle.vm_model.specs.Laws.{IsAligned}
use Rattle.vm_model.specs.Rules.{IsTrace}
use Rattle.map_laws.proofs.areas.AreaStarts.{asks_settle, no_settle, areas_after}
use Rattle.map_laws.proofs.areas.AreaWorlds.{IsLegalStep, legally_lasts}
use Rattle.map_laws.proofs.TestsAndFilters.{IsIn}
use Rattle.map_laws.proofs.chunks.ChunkAdded.{chunk_number}
use Rattle.map_laws.proofs.chunks.ChunkWorlds.{alone}
use Rattle.map_laws.proofs.KeptThroughSteps.{IsFramed, there, same_or, set_same, set_other, append_first}
use Rattle.map_laws.proofs.OutMoves.{with_in}
use Rattle.map_laws.proofs.ProperPlaces.{IsPlainKind, IsProper}
use Rattle.map_laws.proofs.TraceWorlds.{IsTraceWorld, trace_first, trace_lasts, proper_here}
use Rattle.call_laws.specs.ChunkAreas.{IsGroupAt, ChunksHaveOneBase, UnitsBeyondProcessorsAreUnmapped}
use Rattle.vm_model.specs.declared.areas.AreaKind.TheVariants as kind

-- the chunk whose areas are live and that is to be added
abbrev adds : Place → Option ℕ
adds (AddingChunk base chunk bytes align) = Some chunk
adds _ = None

abbrev SomeoneAdds : List Local → (number : ℕ) → Type 0
SomeoneAdds locals number = (k : ℕ) × (l : Local) × (slice_get locals k ≡ Some l) × (adds l.place ≡ Some number)

adds_alloc : (p : Place) (number : ℕ) → adds p ≡ Some number → has_alloc p ≡ true
adds_alloc p number e = grind arith

-- two areas of one chunk stand at one base
pub record HaveOneBase (c : Setup) (areas : List Area) : Type 0 where
  pub same : (a b : Area) (number ga gb : ℕ) → IsIn a areas → IsIn b areas → a.kind ≡ kind.Chunk number ga → b.kind ≡ kind.Chunk number gb → (base : ℕ) × IsGroupAt c base ga a.span × IsGroupAt c base gb b.span

-- an area's chunk has a number that was given, or is about to be added
abbrev AreOld : PlainMap → List Local → Type 0
AreOld m locals = (a : Area) (number group : ℕ) → IsIn a m.areas → a.kind ≡ kind.Chunk number group → (number < m.next_chunk) ⊎ SomeoneAdds locals number

pub record IsBasedWorld (c : Setup) (w : World) : Type 0 where
  pub trace : IsTraceWorld c w
  pub bases : HaveOneBase c w.map.areas
  pub old : AreOld w.map w.locals

-- New areas.

pub record IsNewGroup (c : Setup) (base chunk : ℕ) (a : Area) : Type 0 where
  pub group : ℕ
  pub kind : a.kind ≡ kind.Chunk chunk group
  pub at : IsGroupAt c base group a.span

new_group : (c : Setup) (k first base chunk done : ℕ) (groups : List Span) → ((i : ℕ) (g : Span) → slice_get groups i ≡ Some g → slice_get c.groups (done + i) ≡ Some g) → (i : ℕ) (a : Area)
    → slice_get (areas_of k first (group_kinds chunk done (map (λ (g : Span). span (base + g.start) g.pages) groups))) i ≡ Some a → IsNewGroup c base chunk a
new_group c k first base chunk done [] all i a e = cc
new_group c k first base chunk done (g ∷ groups) all zero a e =
    let same : (record { span = span (base + g.start) g.pages; kind = kind.Chunk chunk done; caller = k; serial = first }) ≡ a = same_Some _ _ e in
    record { group = done; kind = ap (λ (x : Area). x.kind) (sym same); at = (g, subst (λ n. slice_get c.groups n ≡ Some g) (let f : done + 0 ≡ done = omega arith in f) (all 0 g refl), ap (λ (x : Area). x.span) (sym same)) }
new_group c k first base chunk done (g ∷ groups) all (suc i) a e =
    new_group c k (suc first) base chunk (suc done) groups (λ j x f. subst (λ n. slice_get c.groups n ≡ Some x) (let f : done + suc j ≡ suc done + j = omega arith in f) (all (suc j) x f)) i a e

not_chunk : (kd : AreaKind) (number group : ℕ) → IsPlainKind kd → kd ≡ kind.Chunk number group → ⊥
not_chunk kd number group plain e = grind arith

-- one area that is no chunk's
one_other : (k first : ℕ) (s : Span) (kd : AreaKind) (number group : ℕ) → (kd ≡ kind.Chunk number group → ⊥) → (i : ℕ) (a : Area) → slice_get (areas_of k first ((s, kd) ∷ [])) i ≡ Some a → a.kind ≡ kind.Chunk number group → ⊥
one_other k first s kd number group other i a e h = grind (arith, same_Some)

-- The next number.

adds_done : (c : Setup) (m : PlainMap) (k number : ℕ) (p : Place) (s : Section) → adds p ≡ Some number → Meets c (ask c p) s → number < (effect_as c m k s).next_chunk
adds_done c m k number p s e meets = grind (arith, same_Some)

module _ (c : Setup) (opening : List Call) (calls : List (List Call)) (trace : IsTrace c opening calls) (w : World) (k : ℕ) (l : Local) (s : Section) (framed : IsFramed c w) (is : IsBasedWorld c w) (step : IsLegalStep w k l s) where
  here : slice_get w.locals l.caller ≡ Some l
  here = subst (λ i. slice_get w.locals i ≡ Some l) (sym (framed.own k l step.step.here).caller) step.step.here

  setup : l.setup ≡ c
  setup = (framed.own k l step.step.here).setup

  meets : Meets c (ask c l.place) s
  meets = subst (λ d. Meets d (ask d l.place) s) setup step.meets

  abbrev after : PlainMap
  after = effect_as c w.map l.caller s

  abbrev locals : List Local
  locals = slice_set w.locals l.caller (moved_to l (next c l.place s))

  -- what was old stays so
  old_still : (number : ℕ) → (number < w.map.next_chunk) ⊎ SomeoneAdds w.locals number → (number < after.next_chunk) ⊎ SomeoneAdds locals number
  old_still number (inl low) = grind (arith, setup, here)
  old_still number (inr (j, x, at, e)) = elim (same_or j l.caller) [
    | inl same ↦ inl (adds_done c w.map l.caller number l.place s (ap (λ (y : Local). adds y.place) (sym (same_Some x l (sym (subst (λ i. slice_get w.locals i ≡ Some x) same at) ∙ here))) ∙ e) meets)
    | inr other ↦ inr (j, x, set_other w.locals l.caller j (moved_to l (next c l.place s)) other ∙ at, e)
  ]

  pub record IsBasedAfter : Type 0 where
    pub bases : HaveOneBase c after.areas
    pub old : AreOld after locals

  -- where no area of a chunk is new
  none_new : ((a : Area) (number group : ℕ) → IsIn a after.areas → a.kind ≡ kind.Chunk number group → IsIn a w.map.areas) → IsBasedAfter
  none_new back = record {
    bases = record { same = λ a b number ga gb ia ib ka kb. is.bases.same a b number ga gb (back a number ga ia ka) (back b number gb ib kb) ka kb };
    old = λ a number group ia ka. old_still number (is.old a number group (back a number group ia ka) ka);
  }

  -- an area that is settled alone
  settles_one : (place : Span) (kd : AreaKind) (first : ℕ) → s ≡ Settle ((place, kd) ∷ []) first → ((number group : ℕ) → kd ≡ kind.Chunk number group → ⊥) → IsBasedAfter
  settles_one place kd first e other = none_new (λ a number group ia ka. elim (with_in (areas_of l.caller first ((place, kd) ∷ [])) w.map.areas a (subst (λ (x : Section). IsIn a (effect_as c w.map l.caller x).areas) e ia)) [
    | inl new ↦ absurd (one_other l.caller first place kd number group (other number group) new.place a new.at ka)
    | inr was ↦ was
  ])

  -- the areas of a new chunk
  module _ (base chunk bytes align first : ℕ) (at : l.place ≡ SettlingGroups base chunk bytes align) (e : s ≡ Settle (group_areas c chunk base) first) where
    fresh : chunk ≡ w.map.next_chunk
    fresh = is.trace.objects.numbers l.caller l here chunk (ap chunk_number at)

    -- none of its areas was there
    not_old : (a : Area) (group : ℕ) → IsIn a w.map.areas → a.kind ≡ kind.Chunk chunk group → ⊥
    not_old a group ia ka = elim (is.old a chunk group ia ka) [
      | inl low ↦ (let f = fresh in omega arith)
      | inr (j, x, there, adding) ↦ elim (same_or j l.caller) [
        | inl same ↦ (let mine : x ≡ l = same_Some _ _ (sym (subst (λ i. slice_get w.locals i ≡ Some x) same there) ∙ here) in let none : None ≡ Some chunk = sym (ap adds at) ∙ ap (λ (y : Local). adds y.place) (sym mine) ∙ adding in cc)
        | inr other ↦ (let free = alone w l.caller l here is.trace.turns.turns j x there other (ap has_alloc at) in let held = adds_alloc x.place chunk adding in cc)
      ]
    ]

    cases : (a : Area) → IsIn a after.areas → IsNewGroup c base chunk a ⊎ IsIn a w.map.areas
    cases a ia = elim (with_in (areas_of l.caller first (group_areas c chunk base)) w.map.areas a (subst (λ (x : Section). IsIn a (effect_as c w.map l.caller x).areas) e ia)) [
      | inl new ↦ inl (new_group c l.caller first base chunk 0 c.groups (λ i g f. subst (λ n. slice_get c.groups n ≡ Some g) (let z : i ≡ 0 + i = omega arith in z) f) new.place a new.at)
      | inr was ↦ inr was
    ]

    of_group : (a : Area) (number group : ℕ) → (new : IsNewGroup c base chunk a) → a.kind ≡ kind.Chunk number group → (number ≡ chunk) × IsGroupAt c base group a.span
    of_group a number group new ka = grind arith

    settles_groups : IsBasedAfter
    settles_groups = record {
      bases = record {
        same = λ a b number ga gb ia ib ka kb. elim (cases a ia) [
          | inl na ↦ (
              let pa = of_group a number ga na ka in
              elim (cases b ib) [
                | inl nb ↦ (base, pa.1, (of_group b number gb nb kb).1)
                | inr was ↦ absurd (not_old b gb was (kb ∙ ap (λ n. kind.Chunk n gb) pa.0))
              ])
          | inr wa ↦ elim (cases b ib) [
            | inl nb ↦ absurd (not_old a ga wa (ka ∙ ap (λ n. kind.Chunk n ga) (of_group b number gb nb kb).0))
            | inr wb ↦ is.bases.same a b number ga gb wa wb ka kb
          ]
        ];
      };
      old = λ a number group ia ka. elim (cases a ia) [
        | inl new ↦ inr (
          l.caller,
          moved_to l (next c l.place s),
          set_same w.locals l.caller l (moved_to l (next c l.place s)) here,
          ap (λ p. adds (moved_to l (next c p s)).place) at ∙ ap Some (sym (of_group a number group new ka).0),
        )
        | inr was ↦ old_still number (is.old a number group was ka)
      ];
    }

  by_place : (p : Place) → l.place ≡ p → (b : Bool) → asks_settle (ask c p) ≡ b → IsProper c p → Meets c (ask c p) s → IsBasedAfter
  by_place p at false e proper w' = none_new (λ a number group ia ka. areas_after c w.map l.caller s (no_settle c (ask c p) s e w') a ia)
  by_place (SettlingArea place kd) at true e proper w' = settles_one place kd w'.0 w'.1 (λ number group f. not_chunk kd number group proper.0 f)
  by_place (SettlingBlock place cpu pages) at true e proper w' = settles_one place (kind.Block cpu) w'.0 w'.1 (λ number group f. cc)
  by_place (SettlingGroups base chunk bytes align) at true e proper w' = settles_groups base chunk bytes align w'.0 at w'.1
  by_place _ at true e proper w' = cc

  pub based_after : IsBasedAfter
  based_after = by_place l.place refl (asks_settle (ask c l.place)) refl (proper_here c trace.setup w framed is.trace k l step.step.here) meets

module _ (c : Setup) (opening : List Call) (calls : List (List Call)) (trace : IsTrace c opening calls) where
  based_step : (w : World) (k : ℕ) (l : Local) (s : Section) → IsFramed c w → IsBasedWorld c w → IsLegalStep w k l s → IsBasedWorld c (made_by w l s)
  based_step w k l s framed is step =
      let after = based_after c opening calls trace w k l s framed is step in
      let setup = (framed.own k l step.step.here).setup in record {
        trace = (trace_lasts c opening calls trace).steps w k l s framed is.trace step;
        bases = subst (λ d. HaveOneBase c (effect_as d w.map l.caller s).areas) (sym setup) after.bases;
        old = subst (λ d. AreOld (effect_as d w.map l.caller s) (slice_set w.locals l.caller (moved_to l (next d l.place s)))) (sym setup) after.old;
      }

  pub based_reached : (w : World) → IsReached c opening calls w → IsBasedWorld c w
  based_reached w reached = (legally_lasts c calls (IsBasedWorld c) (record {
    steps = based_step;
    joins = λ v framed one is over. record {
      trace = (trace_lasts c opening calls trace).joins v framed one is.trace over;
      bases = is.bases;
      old = λ a number group ia ka. elim (is.old a number group ia ka) [
        | inl low ↦ inl low
        | inr adding ↦ inr (adding.0, adding.1, append_first v.locals (callers_from c (opening_answers v.locals) 1 calls) adding.0 adding.1 adding.2, adding.3)
      ];
    };
  }) opening (record {
    trace = trace_first c opening calls trace;
    bases = record { same = λ a b number ga gb ia. (let at = ia.at in cc) };
    old = λ a number group ia. (let at = ia.at in cc);
  }) w reached).1

pub chunks_have_one_base : ChunksHaveOneBase
chunks_have_one_base c opening calls w trace reached i h at =
    let is = based_reached c opening calls trace w reached in
    let fine = is.trace.chunks.chunks h (record { place = i; at = at }) in
    let first = there c.groups 0 (let some = trace.setup.groups.some in omega arith) in
    let area = fine.live 0 first.0 first.1 in
    let made = subst (λ k. IsAligned c area.area.span k) area.kind (is.trace.made.each area.area area.there).aligned in
    let same_group : made.1 ≡ first.0 = same_Some _ _ (sym made.3 ∙ first.1) in
    let base : h.base ≡ made.0 = (let start = ap (λ (x : Span). x.start) area.span in let own = made.4 in let g = ap (λ (x : Span). x.start) same_group in omega arith) in record {
      aligned = ap (λ n. n % c.atom) base ∙ made.2;
      each = λ group g e. (let own = fine.live group g e in (own.there.place, own.area, own.there.at, own.kind, own.span));
      others = λ j group a here ka. (
          let both = is.bases.same area.area a h.number 0 group area.there (record { place = j; at = here }) area.kind ka in
          let g : both.1.0 ≡ first.0 = same_Some _ _ (sym both.1.1 ∙ first.1) in
          let own : h.base ≡ both.0 = (let start = ap (λ (x : Span). x.start) (sym area.span ∙ both.1.2) in let f = ap (λ (x : Span). x.start) g in omega arith) in
          subst (λ n. IsGroupAt c n group a.span) (sym own) both.2);
    }

pub outer_units_unmapped : UnitsBeyondProcessorsAreUnmapped
outer_units_unmapped c opening calls w trace reached i h at page covered beyond = ((based_reached c opening calls trace w reached).trace.chunks.chunks h (record { place = i; at = at })).outer page covered beyond
