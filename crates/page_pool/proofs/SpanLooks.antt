-- What a look at each page of a span tells of them all.
use Rattle.std.proofs.Common.{◌≡◌, ℕ, ◌+◌, ◌<◌, ◌≤◌, inl, inr, Bool, true, false, List, length, get_or, slice_get, Option, Some, None, is_some, refl, ap, sym, ◌∙◌, subst, arith}
use Rattle.std.proofs.lemmas.Bool.{cases_lt}
use Rattle.std.proofs.lemmas.Bool.Decides.{nat_tests}
use Rattle.std.proofs.lemmas.Option.{slice_get-get_or}
use Rattle.vm_model.specs.declared.areas.Span.{Span}
use Rattle.vm_model.specs.Space.{end_of, holds}
use Rattle.page_pool.specs.StaleList.{is_set}

-- one more page has been looked at
pub looked_more : (P : ℕ → Type 0) (low page : ℕ) → ((p : ℕ) → low ≤ p → p < page → P p) → P page → (p : ℕ) → low ≤ p → p < page + 1 → P p
looked_more P low page before here p above below = elim (cases_lt p page) [
  | inl earlier ↦ before p above earlier
  | inr later ↦ let same : page ≡ p = omega arith in subst P same here
]

pub looked_at : (P : ℕ → Type 0) (s : Span) (page : ℕ) → end_of s ≤ page → ((p : ℕ) → s.start ≤ p → p < page → P p) → (p : ℕ) → holds s p ≡ true → P p
looked_at P s page last each p h = each p (grind (arith, nat_tests)) (grind (arith, nat_tests))

pub unmapped_at : (frames : List (Option ℕ)) (page : ℕ) (o : Option ℕ) → page < length frames → o ≡ get_or frames page o → is_some o ≡ false → slice_get frames page ≡ Some None
unmapped_at frames page o within is h = slice_get-get_or frames page o within ∙ ap Some (sym is ∙ none o h)
  where
    none : (o : Option ℕ) → is_some o ≡ false → o ≡ None
    none None e = refl
    none (Some frame) e = cc

pub mapped_at : (frames : List (Option ℕ)) (page : ℕ) (o : Option ℕ) → page < length frames → o ≡ get_or frames page o → is_some o ≡ true → (frame : ℕ) × (slice_get frames page ≡ Some (Some frame))
mapped_at frames page o within is h = some o h (slice_get-get_or frames page o within ∙ ap Some (sym is))
  where
    some : (o : Option ℕ) → is_some o ≡ true → slice_get frames page ≡ Some o → (frame : ℕ) × (slice_get frames page ≡ Some (Some frame))
    some None e at = cc
    some (Some frame) e at = (frame, at)

pub some_at : (frames : List (Option ℕ)) (page frame : ℕ) (o : Option ℕ) → page < length frames → o ≡ get_or frames page o → slice_get frames page ≡ Some (Some frame) → is_some o ≡ true
some_at frames page frame o within is at =
    let same : Some o ≡ Some (Some frame) = ap Some is ∙ sym (slice_get-get_or frames page o within) ∙ at in
    let one : o ≡ Some frame = cc in
    ap is_some one

pub not_stale_at : (flags : List Bool) (page : ℕ) → page < length flags → is_set (slice_get flags page) ≡ false → slice_get flags page ≡ Some false
not_stale_at flags page within h = let is = slice_get-get_or flags page false within in is ∙ ap Some (ap is_set (sym is) ∙ h)
