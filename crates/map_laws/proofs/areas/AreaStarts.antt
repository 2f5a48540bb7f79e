-- How live areas were made, and what the first world has of them.
use Rattle.std.proofs.Common.{◌≡◌, ℕ, zero, suc, ◌+◌, ◌%◌, ◌≤◌, inl, inr, Bool, true, false, List, [], ◌∷◌, map, slice_get, Some, refl, ap, sym, ◌∙◌, subst, arith, ◌-◌, ◌<◌, replicate, sum_by, Option, None}
use Rattle.vm_model.specs.declared.areas.Span.{Span}
use Rattle.vm_model.specs.declared.areas.Area.{Area}
use Rattle.vm_model.specs.declared.areas.AreaKind.{AreaKind}
use Rattle.vm_model.specs.Space.{span, covers, times, end_of}
use Rattle.vm_model.specs.Setup.{Setup}
use Rattle.vm_model.specs.PlainMap.{PlainMap, Mark, Free, at_first}
use Rattle.vm_model.specs.Areas.{areas_of, group_kinds, group_areas}
use Rattle.vm_model.specs.Events.{Section, Settle}
use Rattle.vm_model.specs.Effects.{effect_as}
use Rattle.vm_model.specs.Places.{Place, SettlingArea, SettlingBlock, SettlingGroups, Ask, AskSettle, ask}
use Rattle.vm_model.specs.LegalHistory.{Meets}
use Rattle.vm_model.specs.Laws.{IsAligned, as_free}
use Rattle.map_laws.proofs.AskRows.{ask_row}
use Rattle.map_laws.proofs.TestsAndFilters.{IsIn, filter_has, covers_one, holds_from}
use Rattle.map_laws.proofs.ProperPlaces.{IsPlainKind, IsProper, begins_with}
use Rattle.map_laws.proofs.OutMoves.{with_in}
use Rattle.std.proofs.lemmas.List.{length-replicate}
use Rattle.std.proofs.lemmas.List.Sums.{sum_by-cons, sum_by-append}
use Rattle.vm_model.specs.declared.calls.Call.{Call}
use Rattle.vm_model.specs.Calls.{Answered}
use Rattle.vm_model.specs.History.{World, Local, started, opening_world, opening_answers, callers_from, with_callers}
use Rattle.vm_model.specs.Carried.{held, flushed}
use Rattle.map_laws.proofs.KeptThroughSteps.{append_cases}
use Rattle.map_laws.proofs.areas.AreaFacts.{IsHolding, IsMapFine, IsUnbearing, nothing_held, nothing_flushed, holds_nothing, guard_part}
use Rattle.map_laws.proofs.areas.AreaWorlds.{IsAreaWorld, unbearing_begins}
use Rattle.vm_model.specs.declared.areas.AreaKind.TheVariants as kind

-- How live areas were made: where they start, and that a plain one has pages.

abbrev pub is_settle : Section → Bool
is_settle (Settle areas first) = true
is_settle _ = false

abbrev pub asks_settle : Ask → Bool
asks_settle (AskSettle areas) = true
asks_settle _ = false

pub no_settle : (c : Setup) (a : Ask) (s : Section) → asks_settle a ≡ false → Meets c a s → is_settle s ≡ false
no_settle c a s h w = grind (arith, ask_row)

-- the areas behind a section are those before it, or those that it settles
pub areas_after : (c : Setup) (m : PlainMap) (k : ℕ) (s : Section) → is_settle s ≡ false → (a : Area) → IsIn a (effect_as c m k s).areas → IsIn a m.areas
areas_after c m k s h a there = grind (arith, filter_has)

-- of an area: where it starts, and that a plain one has pages
pub record IsMadeWell (c : Setup) (a : Area) : Type 0 where
  pub aligned : IsAligned c a.span a.kind
  pub wide : IsPlainKind a.kind → 1 ≤ a.span.pages

pub record AreMadeWell (c : Setup) (areas : List Area) : Type 0 where
  pub each : (a : Area) → IsIn a areas → IsMadeWell c a

plain_aligned : (c : Setup) (s : Span) (k : AreaKind) → IsPlainKind k → IsAligned c s k
plain_aligned c s k plain = grind arith

-- the areas of some groups: each is a group of the setup at the base
group_at : (c : Setup) (k first base chunk : ℕ) (done : ℕ) (groups : List Span) → base % c.atom ≡ 0 → ((i : ℕ) (g : Span) → slice_get groups i ≡ Some g → slice_get c.groups (done + i) ≡ Some g)
    → (a : Area) (i : ℕ) → slice_get (areas_of k first (group_kinds chunk done (map (λ (g : Span). span (base + g.start) g.pages) groups))) i ≡ Some a → IsMadeWell c a
group_at c k first base chunk done [] low all a i h = cc
group_at c k first base chunk done (g ∷ groups) low all a zero h =
    let is : record { span = span (base + g.start) g.pages; kind = kind.Chunk chunk done; caller = k; serial = first } ≡ a = cc in
    subst (IsMadeWell c) is (record { aligned = (base, g, low, (let e : done + 0 ≡ done = omega arith in ap (slice_get c.groups) (sym e) ∙ all 0 g refl), refl); wide = λ plain. absurd plain })
group_at c k first base chunk done (g ∷ groups) low all a (suc i) h =
    group_at c k (suc first) base chunk (suc done) groups low (λ j x e. (let f : suc done + j ≡ done + suc j = omega arith in ap (slice_get c.groups) f ∙ all (suc j) x e)) a i h

module _ (c : Setup) (m : PlainMap) (k : ℕ) where
  one_new : (place : Span) (kd : AreaKind) (first : ℕ) → IsAligned c place kd → (IsPlainKind kd → 1 ≤ place.pages) → (a : Area) (i : ℕ) → slice_get (areas_of k first ((place, kd) ∷ [])) i ≡ Some a → IsMadeWell c a
  one_new place kd first aligned wide a i h = grind arith

  settled : (areas : List (Span × AreaKind)) (first : ℕ) (s : Section) → s ≡ Settle areas first → ((a : Area) (i : ℕ) → slice_get (areas_of k first areas) i ≡ Some a → IsMadeWell c a) → AreMadeWell c m.areas
      → AreMadeWell c (effect_as c m k s).areas
  settled areas first s e news is = subst (λ (x : Section). AreMadeWell c (effect_as c m k x).areas) (sym e) (record {
    each = λ a there. elim (with_in (areas_of k first areas) m.areas a there) [ inl new ↦ news a new.place new.at | inr old ↦ is.each a old ];
  })

  unsettled : (s : Section) → is_settle s ≡ false → AreMadeWell c m.areas → AreMadeWell c (effect_as c m k s).areas
  unsettled s h is = record { each = λ a there. is.each a (areas_after c m k s h a there) }

  made_by_kind : (p : Place) (s : Section) (b : Bool) → asks_settle (ask c p) ≡ b → IsProper c p → Meets c (ask c p) s → AreMadeWell c m.areas → AreMadeWell c (effect_as c m k s).areas
  made_by_kind p s false e is w made = unsettled s (no_settle c (ask c p) s e w) made
  made_by_kind (SettlingArea place kd) s true e is w made = settled ((place, kd) ∷ []) w.0 s w.1 (one_new place kd w.0 (plain_aligned c place kd is.0) (λ plain. is.1)) made
  made_by_kind (SettlingBlock place cpu pages) s true e is w made = settled ((place, kind.Block cpu) ∷ []) w.0 s w.1 (one_new place (kind.Block cpu) w.0 is.1 (λ plain. absurd plain)) made
  made_by_kind (SettlingGroups base chunk bytes align) s true e is w made = settled (group_areas c chunk base) w.0 s w.1
      (λ a i h. group_at c k w.0 base chunk 0 c.groups is.1 (λ j g f. (let n : 0 + j ≡ j = omega arith in ap (slice_get c.groups) n ∙ f)) a i h) made
  made_by_kind _ s true e is w made = cc

  pub made_section : (p : Place) (s : Section) → IsProper c p → Meets c (ask c p) s → AreMadeWell c m.areas → AreMadeWell c (effect_as c m k s).areas
  made_section p s is w made = made_by_kind p s (asks_settle (ask c p)) refl is w made

-- What is kept of areas holds at first, and stays where callers join.

-- The first world, and callers that join.

replicate-in : {X : Type 0} (n : ℕ) (x : X) (i : ℕ) → i < n → slice_get (replicate n x) i ≡ Some x
replicate-in zero x i h = absurd (omega arith)
replicate-in (suc n) x zero h = refl
replicate-in (suc n) x (suc i) h = replicate-in n x i (omega arith)

replicate-is : {X : Type 0} (n : ℕ) (x y : X) (i : ℕ) → slice_get (replicate n x) i ≡ Some y → (i < n) × (x ≡ y)
replicate-is zero x y i h = cc
replicate-is (suc n) x y zero h = ((omega arith), cc)
replicate-is (suc n) x y (suc i) h = let r = replicate-is n x y i h in ((let a = r.0 in omega arith), r.1)

as_free_one : (o : Option Mark) → as_free o ≤ 1
as_free_one o = grind arith

fine_first : (c : Setup) (room : ℕ) → IsMapFine (at_first c room)
fine_first c room = record {
  areas = λ i a h. cc;
  waits = λ page e. cc;
  long = length-replicate c.space false ∙ sym (length-replicate c.space None);
  pages = λ page. record {
    free = λ h. (let r = replicate-is c.space Free Free page h in record { unmapped = replicate-in c.space None page r.0; not_stale = replicate-in c.space false page r.0 });
    waiting = λ h. (let r = replicate-is c.space Free _ page h in let no = r.1 in cc);
    flushing = λ k h. (let r = replicate-is c.space Free _ page h in let no = r.1 in cc);
  };
}

first_unbearing : (c : Setup) (opening : List Call) → IsUnbearing (started c [] 0 opening).place
first_unbearing c opening = begins_with IsUnbearing c (unbearing_begins c) [] [] (slice_get opening 0)

pub area_first : (c : Setup) (opening : List Call) (calls : List (List Call)) → IsAreaWorld (opening_world c opening calls)
area_first c opening calls = record {
  fine = fine_first c _;
  once = λ page. (
      let h : times page (held c (started c [] 0 opening).place) ≡ 0 = ap (times page) (nothing_held c (started c [] 0 opening).place (first_unbearing c opening)) in
      let f : times page (flushed (started c [] 0 opening).place) ≡ 0 = ap (times page) (nothing_flushed (started c [] 0 opening).place (first_unbearing c opening)) in
      omega (
        arith,
        sum_by-cons (λ (x : Local). times page (held x.setup x.place)) (started c [] 0 opening) [],
        sum_by-cons (λ (x : Local). times page (flushed x.place)) (started c [] 0 opening) [],
        as_free_one (slice_get (replicate c.space Free) page),
      ));
  each = first;
}
  where
    first : (k : ℕ) (l : Local) → slice_get (started c [] 0 opening ∷ []) k ≡ Some l → IsHolding l.setup (opening_world c opening calls).map l.caller l.place
    first zero l h = let e : started c [] 0 opening ≡ l = cc in
        subst (λ (x : Local). IsHolding x.setup (opening_world c opening calls).map x.caller x.place) e (holds_nothing c (opening_world c opening calls).map 0 (started c [] 0 opening).place (first_unbearing c opening))
    first (suc k) l h = cc

-- callers at their start hold nothing
callers_hold : (c : Setup) (page first : ℕ) (answers : List Answered) (calls : List (List Call)) → sum_by (λ (x : Local). times page (held x.setup x.place)) (callers_from c answers first calls) ≡ 0
callers_hold c page first answers [] = refl
callers_hold c page first answers (own ∷ calls) =
    let none = begins_with IsUnbearing c (unbearing_begins c) answers [] (slice_get own 0) in
    let h : times page (held c (started c answers first own).place) ≡ 0 = ap (times page) (nothing_held c (started c answers first own).place none) in
    omega (arith, sum_by-cons (λ (x : Local). times page (held x.setup x.place)) (started c answers first own) (callers_from c answers (suc first) calls), callers_hold c page (suc first) answers calls)

callers_flush : (c : Setup) (page first : ℕ) (answers : List Answered) (calls : List (List Call)) → sum_by (λ (x : Local). times page (flushed x.place)) (callers_from c answers first calls) ≡ 0
callers_flush c page first answers [] = refl
callers_flush c page first answers (own ∷ calls) =
    let none = begins_with IsUnbearing c (unbearing_begins c) answers [] (slice_get own 0) in
    let h : times page (flushed (started c answers first own).place) ≡ 0 = ap (times page) (nothing_flushed (started c answers first own).place none) in
    omega (arith, sum_by-cons (λ (x : Local). times page (flushed x.place)) (started c answers first own) (callers_from c answers (suc first) calls), callers_flush c page (suc first) answers calls)

pub area_joins : (c : Setup) (calls : List (List Call)) (w : World) → IsAreaWorld w → IsAreaWorld (with_callers c calls w)
area_joins c calls w kept = record {
  fine = kept.fine;
  once = λ page. (let before = kept.once page in
      omega (
        arith,
        sum_by-append (λ (x : Local). times page (held x.setup x.place)) w.locals (callers_from c (opening_answers w.locals) 1 calls),
        sum_by-append (λ (x : Local). times page (flushed x.place)) w.locals (callers_from c (opening_answers w.locals) 1 calls),
        callers_hold c page 1 (opening_answers w.locals) calls,
        callers_flush c page 1 (opening_answers w.locals) calls,
      ));
  each = λ k l h. elim (append_cases w.locals (callers_from c (opening_answers w.locals) 1 calls) k l h) [ inl e ↦ kept.each k l e | inr e ↦ joined (opening_answers w.locals) 1 calls e.0 l e.2 ];
}
  where
    joined : (answers : List Answered) (first : ℕ) (more : List (List Call)) (j : ℕ) (l : Local) → slice_get (callers_from c answers first more) j ≡ Some l → IsHolding l.setup w.map l.caller l.place
    joined answers first [] j l h = cc
    joined answers first (own ∷ more) zero l h = let e : started c answers first own ≡ l = cc in
        subst (λ (x : Local). IsHolding x.setup w.map x.caller x.place) e (holds_nothing c w.map first (started c answers first own).place (begins_with IsUnbearing c (unbearing_begins c) answers [] (slice_get own 0)))
    joined answers first (own ∷ more) (suc j) l h = joined answers (suc first) more j l h

-- the last page of a vmalloc area is its guard
pub guard_in : (s : Span) → 1 ≤ s.pages → covers (guard_part kind.Vmalloc s ∷ []) (end_of s - 1) ≡ true
guard_in s some = covers_one (guard_part kind.Vmalloc s) (end_of s - 1) ∙ holds_from (guard_part kind.Vmalloc s) (end_of s - 1) (omega arith) (omega arith)
