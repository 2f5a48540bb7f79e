-- Sections over regions and locals: what each changes, and what stays.
use Rattle.std.proofs.Common.{◌≡◌, ◌≢◌, ℕ, Bool, true, false, if◌then◌else◌, List, [], ◌∷◌, ◌++◌, length, Option, Some, None, slice_get, refl, ap, ◌∙◌, arith}
use Rattle.std.proofs.lemmas.List.{length-set}
use Rattle.std.proofs.lemmas.Bool.Decides.{nat_tests}
use Rattle.vm_model.specs.Space.{is_among}
use Rattle.vm_model.specs.Run.{put, section_over, section_wanted, section_by, state_after}
use Rattle.map_parts.specs.SectionRuns.{KeepsLawful, IsRunOfSections, SectionsRun, StaysLawful, FindsTogether}
use Rattle.vm_model.proofs.Elements.{slice_get-set_other}

module _ {R L : Type 0} (wanted : L → Option ℕ) (moves : L → R → Bool) (after : L → R → L × R) where
  run_more : (s : List R × List L) (callers later : List ℕ) → state_after wanted moves after s (callers ++ later) ≡ state_after wanted moves after (state_after wanted moves after s callers) later
  run_more s [] later = refl
  run_more s (caller ∷ callers) later = run_more (section_by wanted moves after s caller (slice_get s.1 caller)) callers later

  -- a section by its cases
  over-some : (s : List R × List L) (caller region : ℕ) (l : L) (o : Option R) (r : R) (b : Bool) → o ≡ Some r → moves l r ≡ b
      → section_over wanted moves after s caller region l o ≡ (if b then put wanted moves after s caller region (after l r) else s)
  over-some s caller region l o r b e f = grind (arith, nat_tests)

  by-over : (s : List R × List L) (caller region : ℕ) (l : L) → wanted l ≡ Some region → section_by wanted moves after s caller (Some l) ≡ section_over wanted moves after s caller region l (slice_get s.0 region)
  by-over s caller region l e = ap (section_wanted wanted moves after s caller l) e

  by-moved : (s : List R × List L) (caller region : ℕ) (l : L) (r : R) → wanted l ≡ Some region → slice_get s.0 region ≡ Some r → moves l r ≡ true
      → section_by wanted moves after s caller (Some l) ≡ put wanted moves after s caller region (after l r)
  by-moved s caller region l r e f g = by-over s caller region l e ∙ over-some s caller region l (slice_get s.0 region) r true f g

  by-stayed : (s : List R × List L) (caller region : ℕ) (l : L) (r : R) → wanted l ≡ Some region → slice_get s.0 region ≡ Some r → moves l r ≡ false
      → section_by wanted moves after s caller (Some l) ≡ s
  by-stayed s caller region l r e f g = by-over s caller region l e ∙ over-some s caller region l (slice_get s.0 region) r false f g

  by-ended : (s : List R × List L) (caller : ℕ) (l : L) → wanted l ≡ None → section_by wanted moves after s caller (Some l) ≡ s
  by-ended s caller l e = ap (section_wanted wanted moves after s caller l) e

  -- what holds of a state holds after a section, if it holds where the section moves
  module _ (P : List R × List L → Type 0) (s : List R × List L) (caller : ℕ) (here : P s) (l : L)
      (moved : (region : ℕ) (r : R) → wanted l ≡ Some region → slice_get s.0 region ≡ Some r → moves l r ≡ true → P (put wanted moves after s caller region (after l r))) where
    at_wanted : (o : Option ℕ) → wanted l ≡ o → P (section_wanted wanted moves after s caller l o)
    at_wanted None g = here
    at_wanted (Some region) g = grind (arith, nat_tests)

  pub after_section : (P : List R × List L → Type 0) (s : List R × List L) (caller : ℕ) → P s
      → ((l : L) (region : ℕ) (r : R) → slice_get s.1 caller ≡ Some l → wanted l ≡ Some region → slice_get s.0 region ≡ Some r → moves l r ≡ true → P (put wanted moves after s caller region (after l r)))
      → P (section_by wanted moves after s caller (slice_get s.1 caller))
  after_section P s caller here moved = grind (arith, at_wanted, nat_tests)

  -- as many regions and locals
  many_regions : (s : List R × List L) (callers : List ℕ) → length (state_after wanted moves after s callers).0 ≡ length s.0
  many_regions s [] = refl
  many_regions s (caller ∷ callers) = grind (arith, many_regions (section_by wanted moves after s caller (slice_get s.1 caller)) callers, after_section, length-set, nat_tests)

  many_locals : (s : List R × List L) (callers : List ℕ) → length (state_after wanted moves after s callers).1 ≡ length s.1
  many_locals s [] = refl
  many_locals s (caller ∷ callers) = grind (arith, many_locals (section_by wanted moves after s caller (slice_get s.1 caller)) callers, after_section, length-set, nat_tests)

  -- what others have
  regions_stay : (s : List R × List L) (caller : ℕ) (l : L) (region : ℕ) → wanted l ≢ Some region → slice_get (section_by wanted moves after s caller (Some l)).0 region ≡ slice_get s.0 region
  regions_stay s caller l other n = grind (arith, at_wanted, slice_get-set_other, nat_tests)

  locals_stay : (s : List R × List L) (callers : List ℕ) (other : ℕ) → is_among callers other ≡ false → slice_get (state_after wanted moves after s callers).1 other ≡ slice_get s.1 other
  locals_stay s [] other h = refl
  locals_stay s (caller ∷ callers) other h = grind (arith, locals_stay (section_by wanted moves after s caller (slice_get s.1 caller)) callers other, after_section, slice_get-set_other, nat_tests)

  pub stays_lawful : (P : List R → List L → Type 0) → KeepsLawful wanted moves after P → StaysLawful wanted moves after P
  stays_lawful P keeps s [] p = p
  stays_lawful P keeps s (caller ∷ callers) p = grind (arith, stays_lawful P keeps (section_by wanted moves after s caller (slice_get s.1 caller)) callers, after_section, nat_tests)

  pub finds_together : (P : List R → List L → Type 0) → KeepsLawful wanted moves after P → FindsTogether wanted moves after P
  finds_together P keeps s callers caller region l r p f g h =
      let t : List R × List L = state_after wanted moves after s callers in (t.0, t.1, caller, region, stays_lawful P keeps s callers p, f, g, h)

  pub run_of_sections : IsRunOfSections wanted moves after
  run_of_sections = record {
    more = run_more;
    one_more = λ s callers caller. run_more s callers (caller ∷ []);
    moved = by-moved;
    stayed = by-stayed;
    ended = by-ended;
    as_many_regions = many_regions;
    as_many_locals = many_locals;
    other_regions = regions_stay;
    other_locals = locals_stay;
  }

pub sections_run : {R L : Type 0} → SectionsRun R L
sections_run wanted moves after = run_of_sections wanted moves after
