-- Each reply without an address comes wherever its cause is.
use Rattle.std.proofs.Common.{◌≡◌, ◌+◌, ◌≤◌, ◌⊎◌, inl, inr, Bool, true, false, ◌||◌, List, [], ◌∷◌, count_by, cond, refl, ap, sym, ◌∙◌, subst, arith}
use Rattle.std.specs.List.{list_any}
use Rattle.std.proofs.lemmas.List.Sums.{sum_by-cons}
use Rattle.vm_model.specs.declared.calls.Call.{Call}
use Rattle.vm_model.specs.declared.calls.Call.TheVariants.{Vmalloc, Vfree, MapRam, UnmapRam, AllocPercpu, AllocAtomic, FreePercpu, Add, Sum}
use Rattle.vm_model.specs.declared.calls.Reply.{Reply}
use Rattle.vm_model.specs.declared.calls.Reply.TheVariants as reply
use Rattle.vm_model.specs.Setup.{Setup}
use Rattle.vm_model.specs.Events.{Section, Search, NoHole}
use Rattle.vm_model.specs.Calls.{Answered}
use Rattle.vm_model.specs.ObjectShapes.{HasShape}
use Rattle.call_laws.specs.Causes.{is_bad_size, is_bad_align, WasUnbound}
use Rattle.call_laws.proofs.Unusable.{IsUnusable}
use Rattle.call_laws.specs.ExactReplies.{decides, is_gone, is_no_hole, is_no_frames, is_no_atomic, IsDecided, IsUseOfFreed, ComesExactly}
use Rattle.call_laws.proofs.Deciding.{deciding, decided}

-- what is among the sections is among the deciding ones
module _ (t : Section → Bool) (only : (s : Section) → decides s ≡ false → t s ≡ false) where
  any_deciding : (es : List Section) → list_any t es ≡ true → list_any t (deciding es) ≡ true
  any_deciding [] h = cc
  any_deciding (s ∷ es) h = grind (arith, any_deciding es, deciding)

  count_deciding : (es : List Section) → count_by t es ≡ count_by t (deciding es)
  count_deciding [] = refl
  count_deciding (s ∷ es) = sum_by-cons (λ x. cond (t x) 1 0) s es ∙ by_test (decides s) refl (count_deciding es)
    where
      by_test : (b : Bool) → decides s ≡ b → count_by t es ≡ count_by t (deciding es) → cond (t s) 1 0 + count_by t es ≡ count_by t (cond b (s ∷ deciding es) (deciding es))
      by_test true e more = ap (λ n. cond (t s) 1 0 + n) more ∙ sym (sum_by-cons (λ x. cond (t x) 1 0) s (deciding es))
      by_test false e more = ap (λ x. cond x 1 0 + count_by t es) (only s e) ∙ (let z : 0 + count_by t es ≡ count_by t (deciding es) = omega (arith, more) in z)

only_frames : (s : Section) → decides s ≡ false → is_no_frames s ≡ false
only_frames s h = grind arith

only_atomic : (s : Section) → decides s ≡ false → is_no_atomic s ≡ false
only_atomic s h = grind arith

only_hole : (s : Section) → decides s ≡ false → is_no_hole s ≡ false
only_hole s h = grind arith

only_gone : (s : Section) → decides s ≡ false → is_gone s ≡ false
only_gone s h = grind arith

-- the lists that decide, one kind of reply each
none_of : (t : Section → Bool) (ds xs : List Section) → ds ≡ xs → list_any t xs ≡ false → list_any t ds ≡ true → ⊥
none_of t ds xs e f h = let g = ap (list_any t) e in cc

gone_none : (t : Section → Bool) (s : Section) → (is_gone s ≡ true → t s ≡ false) → is_gone s ≡ true → list_any t (s ∷ []) ≡ false
gone_none t s only is = ap (λ b. b || false) (only is)

gone_frames : (s : Section) → is_gone s ≡ true → is_no_frames s ≡ false
gone_frames s h = grind arith

gone_atomic : (s : Section) → is_gone s ≡ true → is_no_atomic s ≡ false
gone_atomic s h = grind arith

gone_hole : (s : Section) → is_gone s ≡ true → is_no_hole s ≡ false
gone_hole s h = grind arith

module _ (ds : List Section) where
  at_most_one : {A : Type 0} (t : Section → Bool) → ((search : Search) → t (NoHole search) ≡ false) → (ds ≡ []) ⊎ ((search : Search) × (ds ≡ NoHole search ∷ [])) → list_any t ds ≡ true → A
  at_most_one t not_hole (inl e) h = absurd (none_of t ds [] e refl h)
  at_most_one t not_hole (inr e) h = absurd (none_of t ds (NoHole e.0 ∷ []) e.1 (ap (λ b. b || false) (not_hole e.0)) h)

  frames_come : (r : Reply) → IsDecided r ds → list_any is_no_frames ds ≡ true → r ≡ reply.NoFrames
  frames_come r is h = grind (arith, none_of, gone_none, gone_frames, at_most_one)

  atomic_comes : (r : Reply) → IsDecided r ds → list_any is_no_atomic ds ≡ true → r ≡ reply.NoAtomic
  atomic_comes r is h = grind (arith, none_of, gone_none, gone_atomic, at_most_one)

  gone_comes : (r : Reply) → IsDecided r ds → list_any is_gone ds ≡ true → r ≡ reply.NotLive
  gone_comes r is h = grind (arith, none_of, at_most_one)

  -- a list with one failed search, or none, hasn't two
  few : {A : Type 0} (xs : List Section) → ds ≡ xs → count_by is_no_hole xs ≤ 1 → count_by is_no_hole ds ≡ 2 → A
  few xs e low h = absurd (let f = ap (count_by is_no_hole) e in omega arith)

  few_of : {A : Type 0} → (ds ≡ []) ⊎ ((search : Search) × (ds ≡ NoHole search ∷ [])) → count_by is_no_hole ds ≡ 2 → A
  few_of (inl e) h = few [] e (omega arith) h
  few_of (inr e) h = few (NoHole e.0 ∷ []) e.1 (omega arith) h

  one_other : (s : Section) → is_no_hole s ≡ false → count_by is_no_hole (s ∷ []) ≤ 1
  one_other s e = subst (λ n. n ≤ 1) (sym (sum_by-cons (λ x. cond (is_no_hole x) 1 0) s [])) (subst (λ (b : Bool). cond b 1 0 + 0 ≤ 1) (sym e) (omega arith))

  space_comes : (r : Reply) → IsDecided r ds → count_by is_no_hole ds ≡ 2 → r ≡ reply.NoSpace
  space_comes r is h = grind (arith, few, one_other, gone_hole, few_of)

-- Refusals.

module _ (c : Setup) (es : List Section) where
  module _ (opening before : List Answered) where
    size_comes : (call : Call) (r : Reply) → HasShape c opening before call r es → is_bad_size c call ≡ true → r ≡ reply.BadSize
    size_comes (Vmalloc bytes align) r is bad = grind arith
    size_comes (MapRam cpu pages) r is bad = grind arith
    size_comes (AllocPercpu bytes align) r is bad = grind arith
    size_comes (AllocAtomic bytes align) r is bad = grind arith
    size_comes _ r is bad = cc

    align_comes : (call : Call) (r : Reply) → HasShape c opening before call r es → is_bad_size c call ≡ false → is_bad_align call ≡ true → r ≡ reply.BadAlign
    align_comes (Vmalloc bytes align) r is fine bad = grind arith
    align_comes (AllocPercpu bytes align) r is fine bad = grind arith
    align_comes (AllocAtomic bytes align) r is fine bad = grind arith
    align_comes _ r is fine bad = cc

    pub unusable_comes : (call : Call) (r : Reply) → HasShape c opening before call r es → IsUnusable opening before call → r ≡ reply.Unbound
    unusable_comes (Vfree t) r is none = grind arith
    unusable_comes (UnmapRam t) r is none = grind arith
    unusable_comes (FreePercpu t) r is none = grind arith
    unusable_comes (Add t cpu index amount) r is none = grind arith
    unusable_comes (Sum t index) r is none = grind arith
    unusable_comes _ r is none = absurd none

    freed_comes : (call : Call) (r : Reply) → HasShape c opening before call r es → IsUseOfFreed opening before call → r ≡ reply.NotLive
    freed_comes (Add t cpu index amount) r is freed = grind arith
    freed_comes (Sum t index) r is freed = grind arith
    freed_comes _ r is freed = absurd freed

    pub comes_exactly : (call : Call) (r : Reply) → HasShape c opening before call r es → (WasUnbound opening before call → r ≡ reply.Unbound) → ComesExactly c opening before call r es
    comes_exactly call r is unbound_comes = record {
      no_space = λ two. space_comes (deciding es) r (decided c es opening before call r is) (sym (count_deciding is_no_hole only_hole es) ∙ two);
      no_frames = λ one. frames_come (deciding es) r (decided c es opening before call r is) (any_deciding is_no_frames only_frames es one);
      no_atomic = λ one. atomic_comes (deciding es) r (decided c es opening before call r is) (any_deciding is_no_atomic only_atomic es one);
      not_live = λ one. gone_comes (deciding es) r (decided c es opening before call r is) (any_deciding is_gone only_gone es one);
      use_of_freed = freed_comes call r is;
      unbound = unbound_comes;
      bad_size = size_comes call r is;
      bad_align = align_comes call r is;
    }
