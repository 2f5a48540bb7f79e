-- The groups that a caller unlinks lie in the space.
use Rattle.std.proofs.Common.{◌≡◌, ℕ, ◌-◌, ◌≤◌, true, All, List, [], ◌∷◌, slice_get, Some, None, refl, ap, sym, ◌∙◌, subst, arith}
use Rattle.std.proofs.lemmas.Option.{slice_get_within}
use Rattle.std.proofs.lemmas.List.Elements.{All-nil, All-cons, All-head, All-tail, All-weaker}
use Rattle.vm_model.specs.declared.areas.Span.{Span}
use Rattle.vm_model.specs.declared.areas.Area.{Area}
use Rattle.vm_model.specs.declared.calls.Call.{Call}
use Rattle.vm_model.specs.Space.{HasEnd, end_of, covers}
use Rattle.vm_model.specs.Setup.{Setup, groups_at}
use Rattle.vm_model.specs.Carried.{emptied}
use Rattle.vm_model.specs.Places.{Place, UnlinkingGroups}
use Rattle.vm_model.specs.History.{World, Local}
use Rattle.vm_model.specs.Parts.{LiveAreas, wants}
use Rattle.vm_model.specs.Run.{StandTogether}
use Rattle.section_laws.specs.Lawful.{IsRunning, IsLawful}
use Rattle.section_laws.proofs.PlacesListed.{groups_full}
use Rattle.section_core.specs.StandsWell.{AreUnlinkedWell}
use Rattle.section_core.proofs.LawfulCallers as callers
use Rattle.section_core.proofs.LawfulCallers.{in_one_state, holds_last, covers_head, covers_tail}
use Rattle.section_core.proofs.LawfulRegions.{wide_pages}
use Rattle.section_core.proofs.GroupSections.{each}

module _ (c : Setup) (opening : List Call) (calls : List (List Call)) (w : World) (is : IsRunning c opening calls w) (k : ℕ) (l : Local) (here : slice_get w.locals k ≡ Some l) where
  -- pages that are unmapped are pages of the space
  unmapped_within : (spans : List Span) → All (λ (s : Span). 1 ≤ s.pages) spans → ((page : ℕ) → covers spans page ≡ true → slice_get w.map.frames page ≡ Some None) → All (λ (s : Span). end_of s ≤ l.setup.space) spans
  unmapped_within [] some unmapped = All-nil (λ (s : Span). end_of s ≤ l.setup.space)
  unmapped_within (s ∷ spans) some unmapped =
      All-cons (λ (s : Span). end_of s ≤ l.setup.space) s spans
      (let one : 1 ≤ s.pages = All-head (λ (s : Span). 1 ≤ s.pages) s spans some in
      let last = slice_get_within w.map.frames (end_of s - 1) None (unmapped (end_of s - 1) (covers_head s spans (end_of s - 1) (holds_last s one))) in
      omega (arith, wide_pages c opening calls w is k l here))
      (unmapped_within spans (All-tail (λ (s : Span). 1 ≤ s.pages) s spans some) (λ page h. unmapped page (covers_tail s spans page h)))

  unlinked_well : AreUnlinkedWell l.setup l.place
  unlinked_well = by_place l.place refl
    where
      by_place : (p : Place) → l.place ≡ p → AreUnlinkedWell l.setup p
      by_place (UnlinkingGroups base) at =
          let sound = callers.sound c opening calls w is k l here in
          let kept = callers.kept c opening calls w is k l here in
          let space : l.setup.space ≤ 1048576 = subst (λ (d : Setup). d.space ≤ 1048576) (sym sound.setup) is.trace.setup.space_high in
          All-weaker (λ (s : Span). end_of s ≤ l.setup.space) HasEnd (λ s low. omega arith) (groups_at l.setup base)
          (unmapped_within (groups_at l.setup base) (subst (λ d. All (λ (s : Span). 1 ≤ s.pages) (groups_at d base)) (sym sound.setup) (each (λ (s : Span). 1 ≤ s.pages) (groups_at c base) (groups_full c is.trace.setup.groups base)))
          (λ page h. (kept.carried k l here).emptied_unmapped page (ap (λ p. covers (emptied l.setup p) page) at ∙ h)))
      by_place _ at = tt

pub unlinked_there : (l : Local) (areas : List Area) (next : ℕ) → StandTogether wants IsLawful l (LiveAreas areas next) → AreUnlinkedWell l.setup l.place
unlinked_there l areas next st = let s = in_one_state l (LiveAreas areas next) st in unlinked_well s.c s.opening s.calls s.w s.running s.k l s.here
