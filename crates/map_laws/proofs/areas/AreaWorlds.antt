-- What is kept of areas, held pages and free pages is kept by each legal section.
use Rattle.std.proofs.Common.{◌≡◌, ◌≢◌, ℕ, suc, ◌+◌, ◌<◌, ◌≤◌, inl, inr, Bool, true, false, List, [], ◌∷◌, length, slice_get, slice_set, sum_by, Some, refl, ap, sym, ◌∙◌, subst, arith, zero, not, ◌||◌, ◌==◌, cond, filter, replicate, Option, None}
use Rattle.std.proofs.lemmas.List.Sums.{sum_by-set}
use Rattle.std.proofs.lemmas.Option.{slice_get_within, get_or_from_slice_get}
use Rattle.vm_model.specs.declared.calls.Call.{Call}
use Rattle.vm_model.specs.declared.calls.Reply.{Reply}
use Rattle.vm_model.specs.Space.{times, holds, count_from, paint}
use Rattle.vm_model.specs.Setup.{Setup}
use Rattle.vm_model.specs.PlainMap.{PlainMap}
use Rattle.vm_model.specs.Legal.{IsLegalAs, IsUnmapped}
use Rattle.vm_model.specs.Events.{Section, Event, MapPages, Populate, Fill, Unmap, Depopulate, Flush}
use Rattle.vm_model.specs.Effects.{effect_as}
use Rattle.vm_model.specs.Places.{Made, ask}
use Rattle.vm_model.specs.Next.{Next, Go, Answer, next}
use Rattle.vm_model.specs.History.{World, Local, moved_to, made_by, opening_world, with_callers}
use Rattle.vm_model.specs.Carried.{held, flushed}
use Rattle.vm_model.specs.LegalHistory.{Meets, IsNext, IsRun, IsReached, AllOver, after_event, world_after}
use Rattle.vm_model.specs.Laws.{uses}
use Rattle.vm_model.proofs.OneNext.{one_next}
use Rattle.map_laws.proofs.KeptThroughSteps.{set_cases, there, IsFramed, IsStep, IsOpening, IsLasting, framed_opening, framed_callers, framed_step, opening_step, not_over, has_call}
use Rattle.map_laws.proofs.TestsAndFilters.{sum_has, covers_one, holds_from}
use Rattle.map_laws.proofs.ProperPlaces.{IsProper, OnNext, HaveBeginnings, AtOver, begins_with, answers_call, moved_setup}
use Rattle.map_laws.proofs.areas.AreaFacts.{touch, IsSame, untouched, painted, unpainted, ungiven, in_row, IsHolding, IsMapFine, own_uses, next_uses, IsClaimed, holding_stays, holds_nothing, nothing_claimed, IsUnbearing}
use Rattle.map_laws.proofs.PlaceMoves.{IsMoved, length-give_frames}
use Rattle.map_laws.proofs.OutMoves.{sum_two}
use Rattle.map_laws.proofs.areas.AreaMoves.{IsOutside, moved_by}
use Rattle.std.proofs.lemmas.Bool.Decides.{nat_tests}
use Rattle.vm_model.specs.Frames.{is_used, free_frames, give_frames}
use Rattle.vm_model.proofs.Paint.{slice_get-paint, length-paint_from}
use Rattle.std.proofs.lemmas.List.{length-replicate}

-- what is kept of areas, of what callers hold and of free pages
pub record IsAreaWorld (w : World) : Type 0 where
  pub fine : IsMapFine w.map
  pub once : (page : ℕ) → uses w page ≤ 1
  pub each : (k : ℕ) (l : Local) → slice_get w.locals k ≡ Some l → IsHolding l.setup w.map l.caller l.place

-- at the beginning of a call a caller holds nothing
pub unbearing_begins : (c : Setup) → HaveBeginnings IsUnbearing c
unbearing_begins c _ AtOver = refl
unbearing_begins c _ _ = refl

pub moved_caller : (l : Local) (n : Next) → length l.answers < length l.calls → (moved_to l n).caller ≡ l.caller
moved_caller l n h = grind (arith, answers_call)

-- where an answered call leads
answer_unbearing : (l : Local) (r : Reply) (made : Made) → length l.answers < length l.calls → IsUnbearing (moved_to l (Answer r made)).place
answer_unbearing l r made h = let e = answers_call l r made h in
    subst (λ (x : Local). IsUnbearing x.place) (sym e.2) (begins_with IsUnbearing l.setup (unbearing_begins l.setup) l.opening _ (slice_get l.calls (suc (length l.answers))))

module _ (l : Local) (call : length l.answers < length l.calls) where
  pub moved_uses : (c : Setup) (m : PlainMap) (n : Next) (page : ℕ) → own_uses c m (moved_to l n).place page ≡ next_uses c m n page
  moved_uses c m n page = grind (arith, nothing_claimed, answer_unbearing)

  pub moved_holding : (c : Setup) (m : PlainMap) (k : ℕ) (n : Next) → OnNext (IsHolding c m k) n → IsHolding c m k (moved_to l n).place
  moved_holding c m k (Go p) h = h
  moved_holding c m k (Answer r made) h = holds_nothing c m k (moved_to l (Answer r made)).place (answer_unbearing l r made call)

module _ (w : World) (l : Local) (s : Section) (kept : IsAreaWorld w) (here : slice_get w.locals l.caller ≡ Some l) (call : length l.answers < length l.calls)
    (moved : IsMoved l.setup w.map l.caller l.place s (next l.setup l.place s)) where
  abbrev holdings : ℕ → Local → ℕ
  holdings page x = times page (held x.setup x.place)

  abbrev flushings : ℕ → Local → ℕ
  flushings page x = times page (flushed x.place)

  abbrev after_local : Local
  after_local = moved_to l (next l.setup l.place s)

  held_sum : (page : ℕ) → sum_by (λ (x : Local). times page (held x.setup x.place)) (slice_set w.locals l.caller after_local) + times page (held l.setup l.place)
      ≡ sum_by (λ (x : Local). times page (held x.setup x.place)) w.locals + times page (held after_local.setup after_local.place)
  held_sum page = ap (λ n. sum_by (holdings page) (slice_set w.locals l.caller after_local) + n) (sym (ap (holdings page) (get_or_from_slice_get w.locals l.caller l l here)))
      ∙ sum_by-set (holdings page) w.locals l.caller after_local l (slice_get_within w.locals l.caller l here)

  flushed_sum : (page : ℕ) → sum_by (λ (x : Local). times page (flushed x.place)) (slice_set w.locals l.caller after_local) + times page (flushed l.place)
      ≡ sum_by (λ (x : Local). times page (flushed x.place)) w.locals + times page (flushed after_local.place)
  flushed_sum page = ap (λ n. sum_by (flushings page) (slice_set w.locals l.caller after_local) + n) (sym (ap (flushings page) (get_or_from_slice_get w.locals l.caller l l here)))
      ∙ sum_by-set (flushings page) w.locals l.caller after_local l (slice_get_within w.locals l.caller l here)

  after_setup : (page : ℕ) → times page (held after_local.setup after_local.place) ≡ times page (held l.setup after_local.place)
  after_setup page = ap (λ d. times page (held d after_local.place)) (moved_setup l (next l.setup l.place s))

  step_once : (page : ℕ) → uses (made_by w l s) page ≤ 1
  step_once page =
      let before = kept.once page in let less = moved.uses page in
      omega (arith, held_sum page, flushed_sum page, after_setup page, moved_uses l call l.setup (effect_as l.setup w.map l.caller s) (next l.setup l.place s) page)

  -- a touched page is no other caller's
  not_others : (j : ℕ) (x : Local) → slice_get w.locals j ≡ Some x → j ≢ l.caller → (page : ℕ) → IsClaimed x.setup x.place page → touch l.setup w.map s page ≡ true → ⊥
  not_others j x at n page claimed t = grind (arith, sum_two)

  other_same : (page : ℕ) (b : Bool) → touch l.setup w.map s page ≡ b → (touch l.setup w.map s page ≡ true → ⊥) → IsSame w.map (effect_as l.setup w.map l.caller s) page
  other_same page true t never = absurd (never t)
  other_same page false t never = untouched l.setup w.map l.caller s page t

  other_holding : (j : ℕ) (x : Local) → slice_get w.locals j ≡ Some x → j ≢ l.caller → IsHolding x.setup (effect_as l.setup w.map l.caller s) x.caller x.place
  other_holding j x at n = holding_stays x.setup w.map (effect_as l.setup w.map l.caller s) x.caller x.place
      (λ page claimed. other_same page _ refl (not_others j x at n page claimed)) (kept.each j x at)

  own_holding : IsHolding after_local.setup (effect_as l.setup w.map l.caller s) after_local.caller after_local.place
  own_holding = grind (arith, moved_setup, moved_caller, moved_holding)

  pub area_step : IsAreaWorld (made_by w l s)
  area_step = record {
    fine = moved.fine;
    once = step_once;
    each = λ j x at. elim (set_cases w.locals l.caller j after_local x at) [
      | inl e ↦ subst (λ (y : Local). IsHolding y.setup (effect_as l.setup w.map l.caller s) y.caller y.place) (sym e.1) own_holding
      | inr e ↦ other_holding j x e.1 e.0
    ];
  }

-- the uses of a page by the caller alone are no more than all
pub own_once : (w : World) (k : ℕ) (l : Local) → IsAreaWorld w → slice_get w.locals k ≡ Some l → (page : ℕ) → own_uses l.setup w.map l.place page ≤ 1
own_once w k l kept here page = grind (arith, sum_has)

-- a legal section of a caller
pub record IsLegalStep (w : World) (k : ℕ) (l : Local) (s : Section) : Type 0 where
  pub step : IsStep w k l s
  pub meets : Meets l.setup (ask l.setup l.place) s
  pub legal : IsLegalAs l.setup w.map k s

pub area_kept : (c : Setup) (w : World) (k : ℕ) (l : Local) (s : Section) → IsFramed c w → IsAreaWorld w → IsProper l.setup l.place → IsOutside l.setup w.map l.place → IsLegalStep w k l s → IsAreaWorld (made_by w l s)
area_kept c w k l s framed kept proper outside step =
    let own = framed.own k l step.step.here in
    let here : slice_get w.locals l.caller ≡ Some l = subst (λ i. slice_get w.locals i ≡ Some l) (sym own.caller) step.step.here in
    area_step w l s kept here (has_call c k l own (not_over l.setup w.map l.place s step.step.gives))
    (moved_by l.setup w.map l.caller kept.fine l.place s proper (kept.each k l step.step.here) (own_once w k l kept step.step.here) outside step.step.gives step.meets
    (subst (λ i. IsLegalAs l.setup w.map i s) (sym own.caller) step.legal))

-- Legal runs.

abbrev pub IsKeptByLegal : Setup → (World → Type 0) → Type 0
IsKeptByLegal c P = (w : World) (k : ℕ) (l : Local) (s : Section) → IsFramed c w → P w → IsLegalStep w k l s → P (made_by w l s)

-- an event that comes next is a legal section
pub event_legal : (w : World) (e : Event) → IsNext w e → (l : Local) × IsLegalStep w e.caller l e.section × (after_event w e ≡ made_by w l e.section)
event_legal w e next = grind (arith, one_next)

-- a fact that the first world has, that each legal section keeps, and that more callers at their start keep too
pub record IsLegallyLasting (c : Setup) (calls : List (List Call)) (P : World → Type 0) : Type 0 where
  pub steps : IsKeptByLegal c P
  pub joins : (w : World) → IsFramed c w → length w.locals ≡ 1 → P w → AllOver w.locals → P (with_callers c calls w)

module _ (c : Setup) (calls : List (List Call)) (P : World → Type 0) (is : IsLegallyLasting c calls P) where
  legal_run : (w : World) (es : List Event) → IsOpening c w → P w → IsRun w es → IsOpening c (world_after w es) × P (world_after w es)
  legal_run w [] alone first run = (alone, first)
  legal_run w (e ∷ es) alone first run = grind (arith, legal_run (after_event w e) es, event_legal, opening_step)

  legal_goes_on : (w : World) (es : List Event) → IsFramed c w → P w → IsRun w es → IsFramed c (world_after w es) × P (world_after w es)
  legal_goes_on w [] framed first run = (framed, first)
  legal_goes_on w (e ∷ es) framed first run = grind (arith, legal_goes_on (after_event w e) es, event_legal, framed_step)

  pub legally_lasts : (opening : List Call) → P (opening_world c opening calls) → (w : World) → IsReached c opening calls w → IsFramed c w × P w
  legally_lasts opening first w x3 = grind (arith, legal_run, framed_opening, legal_goes_on, framed_callers)

-- A frame is one page's, and a stale page has none.

-- numbers that rise from a low one on
abbrev pub AreRising : ℕ → List ℕ → Type 0
AreRising low [] = Unit {0}
AreRising low (x ∷ xs) = (low ≤ x) × AreRising (suc x) xs

rising_low : (low high : ℕ) (xs : List ℕ) → low ≤ high → AreRising high xs → AreRising low xs
rising_low low high [] h r = tt
rising_low low high (x ∷ xs) h r = let a = r.0 in ((omega arith), r.1)

rising_filter : (p : ℕ → Bool) (low : ℕ) (xs : List ℕ) → AreRising low xs → AreRising low (filter p xs)
rising_filter p low [] r = tt
rising_filter p low (x ∷ xs) r = grind (arith, rising_filter p (suc x) xs r.1, rising_low, nat_tests)

rising_row : (n first : ℕ) → AreRising first (count_from n first)
rising_row zero first = tt
rising_row (suc n) first = ((omega arith), rising_row n (suc first))

-- each of the frames is no page's
abbrev pub AreUnused : List ℕ → List (Option ℕ) → Type 0
AreUnused [] frames = Unit {0}
AreUnused (f ∷ free) frames = ((page : ℕ) → slice_get frames page ≡ Some (Some f) → ⊥) × AreUnused free frames

used_by : (f own : ℕ) (frames : List (Option ℕ)) (b : Bool) → (own == f) ≡ b → (b || is_used f frames) ≡ false → (own ≢ f) × (is_used f frames ≡ false)
used_by f own frames true e h = cc
used_by f own frames false e h = ((λ same. (let no : own ≡ f = same in grind (arith, nat_tests))), h)

unused_nowhere : (f : ℕ) (frames : List (Option ℕ)) → is_used f frames ≡ false → (page : ℕ) → slice_get frames page ≡ Some (Some f) → ⊥
unused_nowhere f (None ∷ frames) h (suc page) e = unused_nowhere f frames h page e
unused_nowhere f (Some own ∷ frames) h zero e = let apart = (used_by f own frames _ refl h).0 in apart cc
unused_nowhere f (Some own ∷ frames) h (suc page) e = unused_nowhere f frames (used_by f own frames _ refl h).1 page e
unused_nowhere f _ h _ e = cc

unused_if : (frames : List (Option ℕ)) (x : ℕ) (xs : List ℕ) (b : Bool) → is_used x frames ≡ b → AreUnused xs frames → AreUnused (cond (not b) (x ∷ xs) xs) frames
unused_if frames x xs true e more = more
unused_if frames x xs false e more = (unused_nowhere x frames e, more)

unused_filter : (frames : List (Option ℕ)) (xs : List ℕ) → AreUnused (filter (λ frame. not (is_used frame frames)) xs) frames
unused_filter frames [] = tt
unused_filter frames (x ∷ xs) = unused_if frames x (filter (λ frame. not (is_used frame frames)) xs) _ refl (unused_filter frames xs)

-- no two pages have one frame
pub record AreOwn (frames : List (Option ℕ)) : Type 0 where
  pub own : (page other frame : ℕ) → slice_get frames page ≡ Some (Some frame) → slice_get frames other ≡ Some (Some frame) → page ≡ other

-- a frame that comes later isn't the one that is given now
later_apart : (f : ℕ) (free : List ℕ) (frames : List (Option ℕ)) (p : ℕ) → AreRising (suc f) free → AreUnused free frames → AreUnused free (slice_set frames p (Some f))
later_apart f [] frames p r u = tt
later_apart f (g ∷ free) frames p r u = grind (arith, later_apart f free frames p, set_cases, rising_low, nat_tests)

set_own : (frames : List (Option ℕ)) (p f : ℕ) → ((page : ℕ) → slice_get frames page ≡ Some (Some f) → ⊥) → AreOwn frames → AreOwn (slice_set frames p (Some f))
set_own frames p f unused is = grind (arith, set_cases, there, nat_tests)

give_own : (pages free : List ℕ) (low : ℕ) (frames : List (Option ℕ)) → AreRising low free → AreUnused free frames → AreOwn frames → AreOwn (give_frames pages free frames)
give_own (p ∷ pages) (f ∷ free) low frames r u is = give_own pages free (suc f) (slice_set frames p (Some f)) r.1 (later_apart f free frames p r.1 u.1) (set_own frames p f u.0 is)
give_own _ _ low frames r u is = is

given_own : (c : Setup) (pages : List ℕ) (frames : List (Option ℕ)) → AreOwn frames → AreOwn (give_frames pages (free_frames c frames) frames)
given_own c pages frames is = give_own pages (free_frames c frames) 0 frames (rising_filter (λ frame. not (is_used frame frames)) 0 (count_from c.frames 0) (rising_row c.frames 0)) (unused_filter frames (count_from c.frames 0)) is

-- what is still mapped was mapped
pub still_mapped : (test : ℕ → Bool) (frames : List (Option ℕ)) (page f : ℕ) → slice_get (paint test None frames) page ≡ Some (Some f) → slice_get frames page ≡ Some (Some f)
still_mapped test frames page f h = grind (arith, slice_get-paint, unpainted, nat_tests)

unmapped_own : (test : ℕ → Bool) (frames : List (Option ℕ)) → AreOwn frames → AreOwn (paint test None frames)
unmapped_own test frames is = record { own = λ page other f a b. is.own page other f (still_mapped test frames page f a) (still_mapped test frames other f b) }

pub own_section : (c : Setup) (m : PlainMap) (k : ℕ) (s : Section) → AreOwn m.frames → AreOwn (effect_as c m k s).frames
own_section c m k s is = grind (arith, given_own, unmapped_own, nat_tests)

-- Stale pages.

pub record IsStaleUnmapped (m : PlainMap) : Type 0 where
  pub stale : (page : ℕ) → slice_get m.stale page ≡ Some true → IsUnmapped m page

-- what is stale after a flush was stale
still_stale : (test : ℕ → Bool) (stale : List Bool) (page : ℕ) → slice_get (paint test false stale) page ≡ Some true → (b : Bool) → test page ≡ b → slice_get stale page ≡ Some true
still_stale test stale page h true e =
    let within = slice_get_within (paint test false stale) page true h in
    let was = there stale page (omega (arith, length-paint_from test false stale 0)) in
    let no = painted test false was.0 stale page e was.1 in cc
still_stale test stale page h false e = sym (unpainted test false stale page e) ∙ h

pub stale_section : (c : Setup) (m : PlainMap) (k : ℕ) (s : Section) → length m.stale ≡ length m.frames → IsLegalAs c m k s → IsStaleUnmapped m → IsStaleUnmapped (effect_as c m k s)
stale_section c m k (MapPages s) long legal is = grind (arith, ungiven, in_row, covers_one, holds_from, nat_tests)
stale_section c m k (Populate at missing) long legal is = grind (arith, ungiven, nat_tests)
stale_section c m k (Fill base own) long legal is = grind (arith, ungiven, nat_tests)
stale_section c m k (Unmap s) long legal is = grind (arith, slice_get_within, there, length-paint_from, painted, unpainted, nat_tests)
stale_section c m k (Depopulate base pages) long legal is = grind (arith, slice_get_within, there, length-paint_from, painted, unpainted, nat_tests)
stale_section c m k (Flush s) long legal is = record { stale = λ page h. is.stale page (still_stale (holds s) m.stale page h _ refl) }
stale_section c m k _ long legal is = record { stale = λ page h. is.stale page h }

pub long_section : (c : Setup) (m : PlainMap) (k : ℕ) (s : Section) → length m.stale ≡ length m.frames → length (effect_as c m k s).stale ≡ length (effect_as c m k s).frames
long_section c m k s e = grind (arith, length-give_frames, length-paint_from, nat_tests)

-- of the frames of every reached world
pub record AreFramesClean (m : PlainMap) : Type 0 where
  pub own : AreOwn m.frames
  pub stale : IsStaleUnmapped m
  pub long : length m.stale ≡ length m.frames

pub clean_section : (c : Setup) (m : PlainMap) (k : ℕ) (s : Section) → IsLegalAs c m k s → AreFramesClean m → AreFramesClean (effect_as c m k s)
clean_section c m k s legal is = record { own = own_section c m k s is.own; stale = stale_section c m k s is.long legal is.stale; long = long_section c m k s is.long }

pub replicate-at : {X : Type 0} (n : ℕ) (x y : X) (i : ℕ) → slice_get (replicate n x) i ≡ Some y → y ≡ x
replicate-at (suc n) x y (suc i) h = replicate-at n x y i h
replicate-at _ x y _ h = cc

pub clean_lasts : (c : Setup) (calls : List (List Call)) → IsLegallyLasting c calls (λ w. AreFramesClean w.map)
clean_lasts c calls = grind (arith, clean_section, nat_tests)

pub clean_first : (c : Setup) (opening : List Call) (calls : List (List Call)) → AreFramesClean (opening_world c opening calls).map
clean_first c opening calls = grind (arith, replicate-at, length-replicate, nat_tests)
