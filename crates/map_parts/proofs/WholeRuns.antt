-- Sections over single regions give the parts of the map that the events over the whole map give.
use Rattle.std.proofs.Common.{◌≡◌, ℕ, List, [], ◌∷◌, slice_get, slice_set, Option, Some, None, IfSome, is_some, refl, ap, sym, ◌∙◌, subst, arith}
use Rattle.vm_model.specs.Setup.{Setup}
use Rattle.vm_model.specs.Events.{Section}
use Rattle.vm_model.specs.Effects.{effect_as}
use Rattle.vm_model.specs.Places.{ask}
use Rattle.vm_model.specs.Next.{next}
use Rattle.vm_model.specs.History.{World, Local, section_of, moved_to, made_if, step, step_of, pick_all}
use Rattle.vm_model.specs.Parts.{Region, regions_of, map_with, region_in, wants, moves, left_by, after, state_of, RunsArePartsOfTheMap}
use Rattle.vm_model.specs.Run.{section_by, state_after}
use Rattle.vm_model.specs.Rules.{IsSetup}
use Rattle.vm_model.proofs.OneNext.{gives}
use Rattle.map_parts.specs.Locality.{IsOverOneRegion}
use Rattle.map_parts.specs.KeptByEvents.{IsSoundLocal, KeepsApart}
use Rattle.map_parts.proofs.SectionRunProofs.{run_of_sections}
use Rattle.map_parts.proofs.LocalityProofs.{over_one_region}
use Rattle.map_parts.proofs.KeptApart.{kept_worlds_fall_apart, kept_callers_stay_within}
use Rattle.map_parts.proofs.StepKeeps.{steps_keep_apart}
use Rattle.map_parts.proofs.ReachedKept.{reached_worlds_keep_apart}

module _ (w : World) (l : Local) (is : IsSetup l.setup) (kept : KeepsApart l.setup w) (here : slice_get w.locals l.caller ≡ Some l) where
  -- where the section is over a region
  module _ (number : ℕ) (wanted : wants l ≡ Some number) where
    over : IsOverOneRegion l.setup w.map l.caller (ask l.setup l.place) number
    over = over_one_region l.setup w.map l.caller (ask l.setup l.place) number (kept_worlds_fall_apart l.setup w is kept) (kept_callers_stay_within l.setup w l.caller l is kept here) wanted

    moves_where : (o : Option Section) → section_of w.map l ≡ o → moves l over.region ≡ is_some o
    moves_where o e = over.moves_alike ∙ sym (gives l.setup w.map (ask l.setup l.place)) ∙ ap is_some e

    left : (s : Section) → section_of w.map l ≡ Some s
        → after l over.region ≡ (moved_to l (next l.setup l.place s), region_in (effect_as l.setup (map_with l.setup over.region) l.caller s) over.region)
    left s e = ap (left_by l over.region) (over.gives_alike ∙ e)

    over_region : (o : Option Section) → section_of w.map l ≡ o → section_by wants moves after (state_of l.setup w) l.caller (Some l) ≡ state_of l.setup (made_if w l o)
    over_region None e = (run_of_sections wants moves after).stayed (state_of l.setup w) l.caller number l over.region wanted over.here (moves_where None e)
    over_region (Some s) e =
        let regions : regions_of l.setup (effect_as l.setup w.map l.caller s) ≡ slice_set (regions_of l.setup w.map) number (region_in (effect_as l.setup (map_with l.setup over.region) l.caller s) over.region) =
        subst (λ o. IfSome o (λ s. regions_of l.setup (effect_as l.setup w.map l.caller s) ≡ slice_set (regions_of l.setup w.map) number (region_in (effect_as l.setup (map_with l.setup over.region) l.caller s) over.region)))
        e over.leaves_alike in
        (run_of_sections wants moves after).moved (state_of l.setup w) l.caller number l over.region wanted over.here (moves_where (Some s) e)
        ∙ ap (λ (p : Local × Region). (slice_set (regions_of l.setup w.map) number p.1, slice_set w.locals l.caller p.0)) (left s e)
        ∙ ap (λ (rs : List Region). (rs, slice_set w.locals l.caller (moved_to l (next l.setup l.place s)))) (sym regions)

  by_wanted : (o : Option ℕ) → wants l ≡ o → section_by wants moves after (state_of l.setup w) l.caller (Some l) ≡ state_of l.setup (made_if w l (section_of w.map l))
  by_wanted None e = grind (arith, run_of_sections)
  by_wanted (Some number) e = over_region number e (section_of w.map l) refl

-- a section of any number
section_at : (c : Setup) (w : World) (k : ℕ) (l : Local) → IsSetup c → KeepsApart c w → slice_get w.locals k ≡ Some l → IsSoundLocal c w.map k l
    → section_by wants moves after (state_of c w) k (Some l) ≡ state_of c (made_if w l (section_of w.map l))
section_at c w k l is kept here sound =
    let mine : section_by wants moves after (state_of l.setup w) l.caller (Some l) ≡ state_of l.setup (made_if w l (section_of w.map l)) =
    by_wanted w l (subst IsSetup (sym sound.setup) is) (subst (λ c. KeepsApart c w) (sym sound.setup) kept) (ap (slice_get w.locals) sound.caller ∙ here) (wants l) refl in
    let numbered : section_by wants moves after (state_of l.setup w) k (Some l) ≡ state_of l.setup (made_if w l (section_of w.map l)) =
    subst (λ k. section_by wants moves after (state_of l.setup w) k (Some l) ≡ state_of l.setup (made_if w l (section_of w.map l))) sound.caller mine in
    subst (λ c. section_by wants moves after (state_of c w) k (Some l) ≡ state_of c (made_if w l (section_of w.map l))) sound.setup numbered

section_is_step : (c : Setup) (w : World) (k : ℕ) → IsSetup c → KeepsApart c w → (o : Option Local) → slice_get w.locals k ≡ o → section_by wants moves after (state_of c w) k o ≡ state_of c (step_of w o)
section_is_step c w k is kept o e = grind (arith, section_at)

runs : (c : Setup) (w : World) (callers : List ℕ) → IsSetup c → KeepsApart c w → state_after wants moves after (state_of c w) callers ≡ state_of c (pick_all w callers)
runs c w [] is kept = refl
runs c w (k ∷ callers) is kept =
    ap (λ s. state_after wants moves after s callers) (section_is_step c w k is kept (slice_get w.locals k) refl) ∙ runs c (step w k) callers is (steps_keep_apart c w k is kept)

pub runs_are_parts : RunsArePartsOfTheMap
runs_are_parts c opening calls w callers trace reached = runs c w callers trace.setup (reached_worlds_keep_apart c opening calls w trace reached)
