-- The groups of a machine, as a layout has them.
use Rattle.std.proofs.Common.{◌≡◌, ℕ, ◌+◌, ◌∷◌, ◌<◌, ◌≤◌, List, [], length, map, get_or, slice_get, Some, All, refl, ap, ◌∙◌, subst, arith, option_map}
use Rattle.std.proofs.lemmas.List.{length-map}
use Rattle.std.proofs.lemmas.Option.{slice_get-get_or, slice_get-map}
use Rattle.vm_model.specs.declared.areas.Span.{Span}
use Rattle.vm_model.specs.Space.{span, end_of}
use Rattle.vm_model.specs.Setup.{Setup}
use Rattle.vm_model.specs.Rules.{AreDisjoint}
use Rattle.unit_layout.specs.declared.layout.Group.{Group}
use Rattle.unit_layout.specs.LayoutRule.{layout_of, with_layout}
use Rattle.unit_layout.specs.LayoutLaws.{LayoutsStand}
use Rattle.congruent_areas.specs.GroupsAtBase.{spans_of, span_at, spans_at}
use Rattle.congruent_areas.specs.SearchableGroups.{MachinesHaveSuchGroups, LayoutsHaveSuchGroups, SpansAreTheGroups}

-- the span of a group in its place
pub span_there : (laid : List Group) (k : ℕ) (d : Group) → k < length laid → slice_get (spans_of laid) k ≡ Some (span (get_or laid k d).offset (get_or laid k d).pages)
span_there laid k d h =
    slice_get-map (λ (g : Group). span g.offset g.pages) laid k ∙ ap (option_map (λ (g : Group). span g.offset g.pages)) (slice_get-get_or laid k d h)

-- what holds of each span holds of each group
each : (laid : List Group) (P : Span → Type 0) → ((i : ℕ) (s : Span) → slice_get (spans_of laid) i ≡ Some s → P s) → All (λ (g : Group). P (span g.offset g.pages)) laid
each laid P of = λ k d h. of k (span (get_or laid k d).offset (get_or laid k d).pages) (span_there laid k d h)

pub machines : MachinesHaveSuchGroups
machines c laid align groups has =
    let same : length c.groups ≡ length laid = ap (λ (spans : List Span). length spans) has.groups ∙ length-map laid (λ (g : Group). span g.offset g.pages) in
    let pages = subst (λ spans. (i : ℕ) (s : Span) → slice_get spans i ≡ Some s → 1 ≤ s.pages) has.groups groups.pages in
    let within = subst (λ spans. (i : ℕ) (s : Span) → slice_get spans i ≡ Some s → end_of s ≤ 1048576) has.groups groups.within in
    record {
      some = omega (arith, groups.some);
      few = omega (arith, groups.few);
      pages = each laid (λ s. 1 ≤ s.pages) pages;
      within = each laid (λ s. end_of s ≤ 1048576) within;
      apart = subst AreDisjoint has.groups groups.apart;
    }

-- no machine's numbers but a layout's
abbrev bare : Setup
bare = record { space = 0; frames = 0; lazy = 0; block_pages = 0; part_limit = 0; unit_pages = 0; atom = 0; groups = []; units = [] }

pub layouts : LayoutsStand → LayoutsHaveSuchGroups
layouts stand s range stands =
    machines (with_layout (layout_of s) bare) (layout_of s).groups (layout_of s).atom (stand s bare range stands).groups (record { groups = refl; atom = refl })

spans_there : (base : ℕ) (laid : List Group) → map (λ (g : Span). span (base + g.start) g.pages) (spans_of laid) ≡ spans_at base laid
spans_there base [] = refl
spans_there base (g ∷ laid) = ap (λ spans. span_at base g ∷ spans) (spans_there base laid)

pub spans : SpansAreTheGroups
spans c laid align base has = ap (map (λ (g : Span). span (base + g.start) g.pages)) has.groups ∙ spans_there base laid
