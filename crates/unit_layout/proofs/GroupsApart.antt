-- Groups of which no two share a page are apart.
use Rattle.std.proofs.Common.{◌≡◌, ℕ, zero, suc, if◌then◌else◌, Bool, true, false, List, [], ◌∷◌, map, Option, Some, None, refl, sym, ◌∙◌, ap, arith}
use Rattle.std.specs.List.{slice_get}
use Rattle.std.specs.Option.{option_map}
use Rattle.std.proofs.lemmas.Bool.Decides.{nat_tests}
use Rattle.vm_model.specs.declared.areas.Span.{Span}
use Rattle.vm_model.specs.Space.{span}
use Rattle.vm_model.specs.Rules.{AreApart, AreDisjoint}
use Rattle.unit_layout.specs.declared.request.GroupSpec.{GroupSpec}
use Rattle.unit_layout.specs.declared.division.Division.{Division}
use Rattle.unit_layout.specs.declared.layout.Group.{Group}
use Rattle.unit_layout.specs.declared.errors.LayoutError.TheVariants.{Overlap}
use Rattle.unit_layout.specs.LayoutRule.{span_of, group_of}
use Rattle.unit_layout.specs.Refusals.{first_place, or_else, share_a_page, overlap}

pub or_else-none : {X : Type 0} (a b : Option X) → or_else a b ≡ None → (a ≡ None) × (b ≡ None)
or_else-none None b h = (refl, h)
or_else-none (Some x) b h = cc

pub option_map-none : {X Y : Type 0} (f : X → Y) (o : Option X) → option_map f o ≡ None → o ≡ None
option_map-none f None h = refl
option_map-none f (Some x) h = cc

pub if-none : {X : Type 0} (b : Bool) (x : X) (more : Option X) → (if b then Some x else more) ≡ None → (b ≡ false) × (more ≡ None)
if-none true x more h = cc
if-none false x more h = (refl, h)

-- the spans of the groups as they are laid
abbrev pub laid_spans : Division → List GroupSpec → List Span
laid_spans d groups = map (λ (g : Group). span g.offset g.pages) (map (group_of d) groups)

none_shares : (d : Division) (s : Span) (p : ℕ) (groups : List GroupSpec) → first_place (λ other. share_a_page s (span_of d other)) p groups ≡ None → (j : ℕ) (t : Span) → slice_get (laid_spans d groups) j ≡ Some t → share_a_page s t ≡ false
none_shares d s p [] h j t e = cc
none_shares d s p (g ∷ groups) h zero t e =
    let first = if-none (share_a_page s (span_of d g)) p (first_place (λ other. share_a_page s (span_of d other)) (suc p) groups) h in
    let same : span_of d g ≡ t = cc in
    ap (share_a_page s) (sym same) ∙ first.0
none_shares d s p (g ∷ groups) h (suc j) t e =
    let first = if-none (share_a_page s (span_of d g)) p (first_place (λ other. share_a_page s (span_of d other)) (suc p) groups) h in
    none_shares d s (suc p) groups first.1 j t e

pub apart_from : (s t : Span) → share_a_page s t ≡ false → AreApart s t
apart_from s t h page in_s in_t = grind (arith, nat_tests)

pub groups_apart : (d : Division) (p : ℕ) (groups : List GroupSpec) → overlap d p groups ≡ None → AreDisjoint (laid_spans d groups)
groups_apart d p [] h i j s t less a b = cc
groups_apart d p (g ∷ groups) h zero zero s t less a b = absurd (omega arith)
groups_apart d p (g ∷ groups) h zero (suc j) s t less a b =
    let parts = or_else-none (option_map (Overlap p) (first_place (λ other. share_a_page (span_of d g) (span_of d other)) (suc p) groups)) (overlap d (suc p) groups) h in
    let none = option_map-none (Overlap p) (first_place (λ other. share_a_page (span_of d g) (span_of d other)) (suc p) groups) parts.0 in
    let same : span_of d g ≡ s = cc in
    apart_from s t (ap (λ (x : Span). share_a_page x t) (sym same) ∙ none_shares d (span_of d g) (suc p) groups none j t b)
groups_apart d p (g ∷ groups) h (suc i) zero s t less a b = absurd (omega arith)
groups_apart d p (g ∷ groups) h (suc i) (suc j) s t less a b =
    let parts = or_else-none (option_map (Overlap p) (first_place (λ other. share_a_page (span_of d g) (span_of d other)) (suc p) groups)) (overlap d (suc p) groups) h in
    groups_apart d (suc p) groups parts.1 i j s t (omega arith) a b
