-- Which layouts are refused, and why.
use Rattle.std.specs.Prelude.{ℕ, suc, Bool, nat_lt, ◌&&◌, ◌==◌, max, if◌then◌else◌, List, [], ◌∷◌, length, Option, Some, None}
use Rattle.std.specs.Option.{option_map}
use Rattle.vm_model.specs.declared.areas.Span.{Span}
use Rattle.vm_model.specs.Space.{end_of}
use Rattle.unit_layout.specs.declared.request.GroupSpec.{GroupSpec}
use Rattle.unit_layout.specs.declared.request.LayoutSpec.{LayoutSpec}
use Rattle.unit_layout.specs.declared.division.Division.{Division}
use Rattle.unit_layout.specs.declared.errors.LayoutError.{LayoutError}
use Rattle.unit_layout.specs.declared.errors.LayoutError.TheVariants.{NoCpu, TooManyGroups, Overlap, TooWide}
use Rattle.unit_layout.specs.LayoutRule.{division_of, span_of}

-- the place of the first element that passes a test, the first place being p
abbrev pub first_place : {X : Type 0} → (X → Bool) → ℕ → List X → Option ℕ
first_place test p [] = None
first_place test p (x ∷ xs) = if test x then Some p else first_place test (suc p) xs

-- the first of two answers, where it is there
abbrev pub or_else : {X : Type 0} → Option X → Option X → Option X
or_else None later = later
or_else (Some x) later = Some x

-- whether two spans that each have a page share one
abbrev pub share_a_page : Span → Span → Bool
share_a_page s t = nat_lt s.start (end_of t) && nat_lt t.start (end_of s)

abbrev pub has_no_processor : GroupSpec → Bool
has_no_processor g = g.cpus == 0

abbrev pub too_many : List GroupSpec → Option LayoutError
too_many groups = if nat_lt 8 (length groups) then Some (TooManyGroups (length groups)) else None

-- of the groups whose spans share a page with that of a later one the first, and with it the first later one
abbrev pub overlap : Division → ℕ → List GroupSpec → Option LayoutError
overlap d first [] = None
overlap d first (g ∷ groups) = or_else (option_map (Overlap first) (first_place (λ h. share_a_page (span_of d g) (span_of d h)) (suc first) groups)) (overlap d (suc first) groups)

-- the greatest end of a group
abbrev pub width : Division → List GroupSpec → ℕ
width d [] = 0
width d (g ∷ groups) = max (end_of (span_of d g)) (width d groups)

abbrev pub too_wide : Division → List GroupSpec → Option LayoutError
too_wide d groups = if nat_lt 1048576 (width d groups) then Some (TooWide (width d groups)) else None

-- the first of the four reasons that there is
abbrev pub refusal_of : Division → List GroupSpec → Option LayoutError
refusal_of d groups = or_else (option_map NoCpu (first_place has_no_processor 0 groups)) (or_else (too_many groups) (or_else (overlap d 0 groups) (too_wide d groups)))

abbrev pub refusal : LayoutSpec → Option LayoutError
refusal s = refusal_of (division_of s) s.groups
