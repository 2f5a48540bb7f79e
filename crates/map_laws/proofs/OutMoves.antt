-- What the sections that settle, remove and unlink areas do to pages, and those inside of blocks and chunks.
use Rattle.map_laws.proofs.chunks.ChunkFalls.{mapped_at}
use Rattle.std.proofs.lemmas.Bool.Decides.{nat_tests}
use Rattle.std.proofs.Common.{Bool, List, Some, [], ap, arith, false, filter, if◌then◌else◌, inl, inr, length, map, not, option_map, refl, slice_get, suc, sum_by, sym, true, zero, ℕ, ◌+◌, ◌∙◌, ◌∷◌, ◌≡◌, ◌≢◌, ◌≤◌, ◌⊎◌, Option, subst}
use Rattle.std.proofs.lemmas.List.Sums.{sum_by-cons}
use Rattle.vm_model.proofs.Paint.{slice_get-paint}
use Rattle.vm_model.specs.Areas.{areas_of, areas_starting, mapped_part, mark_live, spans_of, with_areas, is_area, named_areas}
use Rattle.vm_model.specs.Carried.{flushed, held}
use Rattle.vm_model.specs.Effects.{effect_as}
use Rattle.vm_model.specs.Events.{Section, Settle, Remove, Unlink}
use Rattle.vm_model.specs.Laws.{as_free}
use Rattle.vm_model.specs.Legal.{IsMapped, IsMarked, IsUnmapped, OnEach}
use Rattle.vm_model.specs.Next.{Next, Go}
use Rattle.vm_model.specs.Places.{Place, UnmappingArea, Waiting, PurgeWaiting, Then, block_spans}
use Rattle.vm_model.specs.PlainMap.{Held, Live, Mark, PlainMap, Waits}
use Rattle.vm_model.specs.Run.{put}
use Rattle.vm_model.specs.Setup.{Setup}
use Rattle.vm_model.specs.Space.{covers, holds, one_if, paint, put_by, times, is_among}
use Rattle.vm_model.specs.declared.areas.Area.{Area}
use Rattle.vm_model.specs.declared.areas.AreaKind.{AreaKind}
use Rattle.vm_model.specs.declared.areas.Span.{Span}
use Rattle.map_laws.proofs.areas.AreaFacts.{IsAreaFine, IsMapFine, IsUnbearing, area_stays, guard_part, own_uses, IsHolding, mapped_covers, guard_covers, same_mapped, same_unmapped, IsSame, painted, spans_of-areas_of, touch, unmarked_live, untouched}
use Rattle.map_laws.proofs.TestsAndFilters.{not_true, IsIn, filter_has, in_more, sum_has, put_in, put_sum, covers_one, covers_times, in_spans, none_covers, times-cons, times-one, covers_in}
use Rattle.map_laws.proofs.KeptThroughSteps.{same_or, there}
use Rattle.map_laws.proofs.Quiet.{area_times, held_fine, live_fine, page_by, painted_free, times_areas, times_both}
use Rattle.map_laws.proofs.PlaceMoves.{IsMoved, unbearing_own, unbearing_uses}
use Rattle.map_laws.proofs.ProperPlaces.{IsPlainKind, OnNext}

-- What the sections that settle, remove and unlink areas do to the pages that their caller holds, and to the map.

-- Areas put among others.

pub times_in : (page : ℕ) (spans : List Span) → 1 ≤ times page spans → covers spans page ≡ true
times_in page spans h = grind (arith, in_spans)

pub with_in : (xs areas : List Area) (a : Area) → IsIn a (with_areas xs areas) → IsIn a xs ⊎ IsIn a areas
with_in [] areas a h = inr h
with_in (x ∷ xs) areas a h = elim (with_in xs (put_by (λ (b : Area). b.span.start) x areas) a h) [
  | inl there ↦ inl (in_more a x xs there)
  | inr put ↦ elim (put_in (λ (b : Area). b.span.start) x areas a put) [ inl e ↦ inl (record { place = 0; at = ap (λ z. Some z) (sym e) }) | inr is ↦ inr is ]
]

with_sum : (f : Area → ℕ) (xs areas : List Area) → sum_by f (with_areas xs areas) ≡ sum_by f xs + sum_by f areas
with_sum f [] areas = omega arith
with_sum f (x ∷ xs) areas = omega (arith, with_sum f xs (put_by (λ (b : Area). b.span.start) x areas), put_sum f (λ (b : Area). b.span.start) x areas, sum_by-cons f x xs)

pub with_times : (page : ℕ) (xs areas : List Area) → times page (spans_of (with_areas xs areas)) ≡ times page (spans_of xs) + times page (spans_of areas)
with_times page xs areas = omega (arith, times_areas page (with_areas xs areas), times_areas page xs, times_areas page areas, with_sum (λ (a : Area). one_if (holds a.span page)) xs areas)

-- Marks of settled areas.

-- a page of the spans is in one of the areas
pub covering : (page : ℕ) (xs : List Area) → covers (spans_of xs) page ≡ true → (a : Area) × IsIn a xs × (holds a.span page ≡ true)
covering page xs h = let from = covers_in page (spans_of xs) h in let at = mapped_at (λ (a : Area). a.span) xs from.1.place from.0 from.1.at in (at.0, record { place = from.1.place; at = at.1 }, ap (λ s. holds s page) at.2 ∙ from.2)

some_painted : (test : ℕ → Bool) (mark : Mark) (marks : List Mark) (page : ℕ) (old : Mark) → slice_get marks page ≡ Some old → (new : Mark) × (slice_get (paint test mark marks) page ≡ Some new)
some_painted test mark marks page old h = ((if test page then mark else old), slice_get-paint test mark marks page ∙ ap (option_map (λ y. if test page then mark else y)) h)

pub live_in : (xs : List Area) (marks : List Mark) (page : ℕ) (old : Mark) (i : ℕ) (a : Area) → times page (spans_of xs) ≤ 1 → slice_get xs i ≡ Some a → holds a.span page ≡ true → slice_get marks page ≡ Some old
    → slice_get (mark_live xs marks) page ≡ Some (Live a.serial)
live_in [] marks page old i a once h e there = cc
live_in (x ∷ xs) marks page old zero a once h e there = grind (arith, none_covers, times-cons, unmarked_live, painted, there)
live_in (x ∷ xs) marks page old (suc i) a once h e there =
    let new = some_painted (holds x.span) (Live x.serial) marks page old there in
    live_in xs (paint (holds x.span) (Live x.serial) marks) page new.0 i a (omega (arith, times-cons page x.span (spans_of xs))) h e new.1

-- two elements at different places
pub sum_two : {X : Type 0} (f : X → ℕ) (xs : List X) (i j : ℕ) (a b : X) → slice_get xs i ≡ Some a → slice_get xs j ≡ Some b → i ≢ j → f a + f b ≤ sum_by f xs
sum_two f [] i j a b h g n = cc
sum_two f (x ∷ xs) i j a b h g n = grind (arith, sum_two f xs, sum_has, sum_by-cons)

-- two areas with one page are the same
pub same_area : (page : ℕ) (areas : List Area) (i j : ℕ) (a b : Area) → times page (spans_of areas) ≤ 1 → slice_get areas i ≡ Some a → slice_get areas j ≡ Some b → holds a.span page ≡ true → holds b.span page ≡ true → i ≡ j
same_area page areas i j a b once h g e f = grind (arith, same_or, sum_two, times_areas)

-- what is in an area that is neither plain nor about to be
pub record IsInside (m : PlainMap) (page : ℕ) : Type 0 where
  pub area : Area
  pub there : IsIn area m.areas
  pub holds : holds area.span page ≡ true
  pub inner : IsPlainKind area.kind → ⊥

-- of areas that are unlinked: they have at least these pages, which are unmapped
pub record IsUnlinked (c : Setup) (m : PlainMap) (starts : List ℕ) (spans : List Span) : Type 0 where
  pub less : (page : ℕ) → times page spans ≤ times page (spans_of (areas_starting starts m.areas))
  pub unmapped : OnEach spans (IsUnmapped m)

module _ (c : Setup) (m : PlainMap) (k : ℕ) (fine : IsMapFine m) where
  -- Held spans become areas.

  module _ (p : Place) (areas : List (Span × AreaKind)) (first : ℕ) (once : (page : ℕ) → own_uses c m p page ≤ 1) (here : held c p ≡ map (λ a. a.0) areas) (none : flushed p ≡ [])
      (marked : OnEach (held c p) (IsMarked m (Held k)))
      (news : (i : ℕ) (a : Area) → slice_get (areas_of k first areas) i ≡ Some a → IsPlainKind a.kind → OnEach (mapped_part a.kind a.span ∷ []) (IsMapped m) × OnEach (guard_part a.kind a.span ∷ []) (IsUnmapped m)) where
    new_times : (page : ℕ) → times page (spans_of (areas_of k first areas)) ≡ times page (held c p)
    new_times page = ap (times page) (spans_of-areas_of k first areas ∙ sym here)

    new_once : (page : ℕ) → times page (spans_of (areas_of k first areas)) ≤ 1
    new_once page = let o = once page in omega (arith, new_times page)

    touched_held : (page : ℕ) → covers (map (λ a. a.0) areas) page ≡ true → IsMarked m (Held k) page
    touched_held page t = marked page (ap (λ spans. covers spans page) here ∙ t)

    settled_live : (page : ℕ) → covers (map (λ a. a.0) areas) page ≡ true → (serial : ℕ) × IsMarked (effect_as c m k (Settle areas first)) (Live serial) page
    settled_live page t =
        let at = covering page (areas_of k first areas) (ap (λ spans. covers spans page) (spans_of-areas_of k first areas) ∙ t) in
        (at.0.serial, live_in (areas_of k first areas) m.marks page (Held k) at.1.place at.0 (new_once page) at.1.at at.2 (touched_held page t))

    old_same : (page : ℕ) (i : ℕ) (a : Area) → slice_get m.areas i ≡ Some a → covers (a.span ∷ []) page ≡ true → IsSame m (effect_as c m k (Settle areas first)) page
    old_same page i a h e = grind (arith, spans_of-areas_of, unmarked_live)

    waits_same : (page : ℕ) → covers m.waiting page ≡ true → IsSame m (effect_as c m k (Settle areas first)) page
    waits_same page w = grind (arith, spans_of-areas_of, unmarked_live)

    area_in : (a : Area) → IsIn a (areas_of k first areas) ⊎ IsIn a m.areas → IsAreaFine (effect_as c m k (Settle areas first)) a
    area_in a (inl new) = grind (arith, times_in, area_times, live_in, spans_of-areas_of, unmarked_live)
    area_in a (inr old) = area_stays m (effect_as c m k (Settle areas first)) a (λ page e. old_same page old.place a old.at e) (fine.areas old.place a old.at)

    settle_free : (page : ℕ) (b : Bool) → covers (map (λ a. a.0) areas) page ≡ b → as_free (slice_get (effect_as c m k (Settle areas first)).marks page) ≤ as_free (slice_get m.marks page)
    settle_free page b t = grind (arith, settled_live, spans_of-areas_of, unmarked_live)

    pub settle_moved : (n : Next) → OnNext IsUnbearing n → IsMoved c m k p (Settle areas first) n
    settle_moved n none_next = record {
      source = λ page t. (let q = covers_times page (map (λ a. a.0) areas) t in omega (arith, ap (times page) here));
      uses = λ page. (grind (arith, with_times, new_times, settle_free));
      own = unbearing_own c m k fine (effect_as c m k (Settle areas first)) n none_next;
      fine = record {
        areas = λ i a h. area_in a (with_in (areas_of k first areas) m.areas a (record { place = i; at = h }));
        waits = λ page w. (waits_same page w).mark ∙ fine.waits page w;
        long = fine.long;
        pages = λ page. page_by c m k p (Settle areas first) fine once page (λ t. let is = settled_live page t in live_fine _ is.0 page is.1);
      };
    }

  -- An area is taken out.

  -- the areas that stay don't have its pages
  pub stays_apart : (q r : Area → Bool) (other : (a : Area) → r a ≡ not (q a)) (page : ℕ) → times page (spans_of m.areas) ≤ 1 → 1 ≤ times page (spans_of (filter q m.areas)) → times page (spans_of (filter r m.areas)) ≡ 0
  stays_apart q r other page once h = omega (arith, times_both page q r other m.areas)

  module _ (p : Place) (s : Section) (q r : Area → Bool) (other : (a : Area) → r a ≡ not (q a)) (once : (page : ℕ) → own_uses c m p page ≤ 1)
      (rest : (effect_as c m k s).areas ≡ filter r m.areas) (waiting : (effect_as c m k s).waiting ≡ m.waiting) (long : length (effect_as c m k s).stale ≡ length (effect_as c m k s).frames)
      (removed : (page : ℕ) → touch c m s page ≡ true → 1 ≤ times page (spans_of (filter q m.areas))) (touched : (page : ℕ) → touch c m s page ≡ true → IsMarked (effect_as c m k s) (Held k) page) where
    out_same : (page : ℕ) → 1 ≤ times page (spans_of (filter r m.areas)) + times page m.waiting → IsSame m (effect_as c m k s) page
    out_same page h = untouched c m k s page
        (not_true _ (λ t. (let o = once page in let z = stays_apart q r other page (omega arith) (removed page t) in let a = removed page t in omega (arith, times_both page q r other m.areas))))

    pub out_fine : IsMapFine (effect_as c m k s)
    out_fine = record {
      areas = λ i a h. (let kept = ap (λ l. slice_get l i) (sym rest) ∙ h in let was = (filter_has r m.areas i a kept).there in
          area_stays m (effect_as c m k s) a (λ page e. out_same page (let n = area_times page (filter r m.areas) i a kept e in omega arith)) (fine.areas was.place a was.at));
      waits = λ page w. (let was = ap (λ l. covers l page) (sym waiting) ∙ w in (out_same page (let n = covers_times page m.waiting was in omega arith)).mark ∙ fine.waits page was);
      long = long;
      pages = λ page. page_by c m k p s fine once page (λ t. held_fine _ k page (touched page t));
    }

    pub out_source : (page : ℕ) → touch c m s page ≡ true → 1 ≤ times page (spans_of m.areas)
    out_source page t = let a = removed page t in omega (arith, times_both page q r other m.areas)

    pub out_free : (test : ℕ → Bool) → (effect_as c m k s).marks ≡ paint test (Held k) m.marks → (page : ℕ) → as_free (slice_get (effect_as c m k s).marks page) ≤ as_free (slice_get m.marks page)
    out_free test e page = grind (arith, painted_free)

-- What the sections that take areas out, and those inside blocks and chunks, do to the pages that their caller holds, and to the map.

module _ (c : Setup) (m : PlainMap) (k : ℕ) (fine : IsMapFine m) where
  -- An area is removed.

  module _ (p : Place) (start serial : ℕ) (area : Area) (once : (page : ℕ) → own_uses c m p page ≤ 1) (legal : named_areas start serial m.areas ≡ area ∷ []) (plain : IsPlainKind area.kind) where
    named_times : (page : ℕ) → times page (spans_of (filter (is_area start serial) m.areas)) ≡ one_if (holds area.span page)
    named_times page = ap (λ l. times page (spans_of l)) legal ∙ times-one page area.span

    remove_in : IsIn area m.areas
    remove_in = (filter_has (is_area start serial) m.areas 0 area (ap (λ l. slice_get l 0) legal)).there

    remove_marked : (page : ℕ) → holds area.span page ≡ true → IsMarked (effect_as c m k (Remove start serial area)) (Held k) page
    remove_marked page t = painted (holds area.span) (Held k) (Live area.serial) m.marks page t ((fine.areas remove_in.place area remove_in.at).marked page (covers_one area.span page ∙ t))

    remove_touch : (page : ℕ) → holds area.span page ≡ true → 1 ≤ times page (spans_of (filter (is_area start serial) m.areas))
    remove_touch page t = omega (arith, named_times page, ap one_if t)

    pub remove_moved : IsMoved c m k p (Remove start serial area) (Go (UnmappingArea area))
    remove_moved = record {
      source = λ page t. (let n = out_source c m k fine p (Remove start serial area) (is_area start serial) (λ a. not (is_area start serial a)) (λ a. refl) once refl refl fine.long remove_touch remove_marked page t in omega arith);
      uses = λ page. omega (
        arith,
        out_free c m k fine p (Remove start serial area) (is_area start serial) (λ a. not (is_area start serial a)) (λ a. refl) once refl refl fine.long remove_touch remove_marked (holds area.span) refl page,
        times_both page (is_area start serial) (λ a. not (is_area start serial a)) (λ a. refl) m.areas,
        named_times page,
        times-one page area.span,
      );
      own = grind (arith, remove_marked, remove_in);
      fine = out_fine c m k fine p (Remove start serial area) (is_area start serial) (λ a. not (is_area start serial a)) (λ a. refl) once refl refl fine.long remove_touch remove_marked;
    }

  -- Areas are unlinked.

  module _ (p : Place) (starts : List ℕ) (spans : List Span) (once : (page : ℕ) → own_uses c m p page ≤ 1) (is : IsUnlinked c m starts spans) where
    unlink_marked : (page : ℕ) → covers (spans_of (areas_starting starts m.areas)) page ≡ true → IsMarked (effect_as c m k (Unlink starts)) (Held k) page
    unlink_marked page t =
        let at = covering page (areas_starting starts m.areas) t in
        let there = (filter_has (λ (a : Area). is_among starts a.span.start) m.areas at.1.place at.0 at.1.at).there in
        painted (covers (spans_of (areas_starting starts m.areas))) (Held k) (Live at.0.serial) m.marks page t ((fine.areas there.place at.0 there.at).marked page (covers_one at.0.span page ∙ at.2))

    unlink_touch : (page : ℕ) → covers (spans_of (areas_starting starts m.areas)) page ≡ true → 1 ≤ times page (spans_of (filter (λ (a : Area). is_among starts a.span.start) m.areas))
    unlink_touch page t = covers_times page (spans_of (areas_starting starts m.areas)) t

    -- the place behind holds the unlinked pages, and has not mapped them
    pub record IsReceiver (p' : Place) : Type 0 where
      pub held_is : held c p' ≡ spans
      pub flushed_is : flushed p' ≡ []
      pub own : OnEach spans (IsMarked (effect_as c m k (Unlink starts)) (Held k)) → OnEach spans (IsUnmapped m) → IsHolding c (effect_as c m k (Unlink starts)) k p'

    pub unlink_moved : IsUnbearing p → (p' : Place) → IsReceiver p' → IsMoved c m k p (Unlink starts) (Go p')
    unlink_moved none p' to = record {
      source = λ page t. (let n = out_source c m k fine p (Unlink starts) (λ (a : Area). is_among starts a.span.start) (λ (a : Area). not (is_among starts a.span.start)) (λ a. refl) once refl refl fine.long unlink_touch unlink_marked page t in omega arith);
      uses = λ page. (grind (arith, times_both, slice_get-paint, covers_one, covers_times, in_spans));
      own = to.own (λ page e. unlink_marked page (times_in page (spans_of (areas_starting starts m.areas)) (let n = covers_times page spans e in let less = is.less page in omega arith))) is.unmapped;
      fine = out_fine c m k fine p (Unlink starts) (λ (a : Area). is_among starts a.span.start) (λ (a : Area). not (is_among starts a.span.start)) (λ a. refl) once refl refl fine.long unlink_touch unlink_marked;
    }

    pub to_purge : (extra : Option Span) (after : Then) (gone : List ℕ) → spans ≡ block_spans c gone → IsReceiver (PurgeWaiting gone extra after)
    to_purge extra after gone e = grind arith

    pub to_waiting : (after : Then) → IsReceiver (Waiting spans after)
    to_waiting after = grind arith

  -- Frames inside blocks and chunks.

  module _ (p : Place) (s : Section) (once : (page : ℕ) → own_uses c m p page ≤ 1) (marks : (effect_as c m k s).marks ≡ m.marks) (areas : (effect_as c m k s).areas ≡ m.areas)
      (waiting : (effect_as c m k s).waiting ≡ m.waiting) (long : length (effect_as c m k s).stale ≡ length (effect_as c m k s).frames) (inside : (page : ℕ) → touch c m s page ≡ true → IsInside m page) where
    mark_same : (mark : Mark) (page : ℕ) → IsMarked m mark page → IsMarked (effect_as c m k s) mark page
    mark_same mark page h = ap (λ l. slice_get l page) marks ∙ h

    inner_source : (page : ℕ) → touch c m s page ≡ true → 1 ≤ times page (spans_of m.areas)
    inner_source page t = let is = inside page t in area_times page m.areas is.there.place is.area is.there.at (covers_one is.area.span page ∙ is.holds)

    -- a plain area has none of these pages
    plain_same : (i : ℕ) (a : Area) → slice_get m.areas i ≡ Some a → IsPlainKind a.kind → (page : ℕ) → covers (a.span ∷ []) page ≡ true → IsSame m (effect_as c m k s) page
    plain_same i a h plain page e = untouched c m k s page (not_true _ (λ t. (let is = inside page t in let o = once page in grind (arith, same_area, covers_one, nat_tests))))

    pub inner_moved : IsUnbearing p → (n : Next) → OnNext IsUnbearing n → IsMoved c m k p s n
    inner_moved none n none_next = record {
      source = λ page t. (let q = inner_source page t in omega arith);
      uses = λ page. (grind arith);
      own = unbearing_own c m k fine (effect_as c m k s) n none_next;
      fine = record {
        areas = λ i a h. (let was = ap (λ l. slice_get l i) (sym areas) ∙ h in let is = fine.areas i a was in (grind (arith, plain_same, same_unmapped, guard_covers, nat_tests)));
        waits = λ page w. mark_same Waits page (fine.waits page (ap (λ l. covers l page) (sym waiting) ∙ w));
        long = long;
        pages = λ page. page_by c m k p s fine once page
            (λ t. (let is = inside page t in live_fine _ is.area.serial page (mark_same (Live is.area.serial) page ((fine.areas is.there.place is.area is.there.at).marked page (covers_one is.area.span page ∙ is.holds)))));
      };
    }
