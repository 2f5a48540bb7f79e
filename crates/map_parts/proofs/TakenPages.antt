-- Which pages a search may not take, in the map and in the free runs alone, and where marks that aren't free change none.
use Rattle.std.proofs.Common.{◌≡◌, ℕ, suc, Bool, true, false, not, if◌then◌else◌, List, [], ◌∷◌, map, replicate, length, slice_get, Option, refl, ap, sym, ◌∙◌, option_map, arith}
use Rattle.std.proofs.lemmas.Option.{slice_get-map}
use Rattle.std.proofs.lemmas.List.{length-map}
use Rattle.vm_model.specs.declared.areas.Span.{Span}
use Rattle.vm_model.specs.declared.areas.Area.{Area}
use Rattle.vm_model.specs.declared.areas.AreaKind.{AreaKind}
use Rattle.vm_model.specs.Space.{holds, covers, runs, paint, is_open, is_free_at}
use Rattle.vm_model.specs.Setup.{Setup}
use Rattle.vm_model.specs.PlainMap.{PlainMap, Mark, Free, Held, Live, taken, is_free, free_runs}
use Rattle.vm_model.specs.Areas.{areas_of, mark_live, spans_of}
use Rattle.vm_model.specs.Parts.{FreeRuns, map_with}
use Rattle.vm_model.proofs.Elements.{same_by_get}
use Rattle.vm_model.proofs.Paint.{slice_get-paint}
use Rattle.vm_model.proofs.PaintRuns.{map-paint, paint_there}
use Rattle.vm_model.proofs.Runs.{covers-runs}
use Rattle.map_parts.proofs.Tests.{or_first, or_second}

abbrev pub taken_in : List Mark → List Bool
taken_in marks = map (λ mark. not (is_free mark)) marks

-- what a list of free pages has at a place, where another list as long has something
filled : {X Y : Type 0} (x : X) (ys : List Y) (k : ℕ) → slice_get (replicate (length ys) x) k ≡ option_map (λ _. x) (slice_get ys k)
filled x (y ∷ ys) (suc k) = filled x ys k
filled x _ _ = refl

taken_there : (o : Option Bool) → option_map (λ mark. not (is_free mark)) (option_map (λ y. if not (is_open o) then Held 0 else y) (option_map (λ _. Free) o)) ≡ o
taken_there o = grind arith

taken_again_at : (bits : List Bool) (k : ℕ) → slice_get (taken_in (paint (λ page. not (covers (runs bits) page)) (Held 0) (replicate (length bits) Free))) k ≡ slice_get bits k
taken_again_at bits k =
    slice_get-map (λ mark. not (is_free mark)) _ k
    ∙ ap (option_map (λ mark. not (is_free mark))) (slice_get-paint (λ page. not (covers (runs bits) page)) (Held 0) (replicate (length bits) Free) k)
    ∙ ap (λ o. option_map (λ mark. not (is_free mark)) (option_map (λ y. if not (covers (runs bits) k) then Held 0 else y) o)) (filled Free bits k)
    ∙ ap (λ b. option_map (λ mark. not (is_free mark)) (option_map (λ y. if not b then Held 0 else y) (option_map (λ _. Free) (slice_get bits k)))) (covers-runs bits k)
    ∙ taken_there (slice_get bits k)

-- the free runs alone tell which pages are taken
pub taken_of_runs : (c : Setup) (bits : List Bool) → length bits ≡ c.space → taken (map_with c (FreeRuns (runs bits))) ≡ bits
taken_of_runs c bits e = ap (λ n. taken_in (paint (λ page. not (covers (runs bits) page)) (Held 0) (replicate n Free))) (sym e) ∙ same_by_get _ _ (taken_again_at bits)

pub taken_again : (c : Setup) (m : PlainMap) → length m.marks ≡ c.space → taken (map_with c (FreeRuns (free_runs m))) ≡ taken m
taken_again c m e = taken_of_runs c (taken m) (length-map m.marks (λ mark. not (is_free mark)) ∙ e)

pub taken_stays : (test : ℕ → Bool) (mark : Mark) (marks : List Mark) → is_free mark ≡ false → ((page : ℕ) → test page ≡ true → is_free_at (taken_in marks) page ≡ false)
    → taken_in (paint test mark marks) ≡ taken_in marks
taken_stays test mark marks f h = grind (arith, map-paint, paint_there)

-- the same for the pages of areas that are marked live
pub taken_stays-mark_live : (areas : List Area) (marks : List Mark) → ((page : ℕ) → covers (spans_of areas) page ≡ true → is_free_at (taken_in marks) page ≡ false)
    → taken_in (mark_live areas marks) ≡ taken_in marks
taken_stays-mark_live [] marks h = refl
taken_stays-mark_live (a ∷ areas) marks h = grind (arith, taken_stays-mark_live areas (paint (holds a.span) (Live a.serial) marks), taken_stays, or_first, or_second)

pub spans_of-areas_of : (caller serial : ℕ) (areas : List (Span × AreaKind)) → spans_of (areas_of caller serial areas) ≡ map (λ a. a.0) areas
spans_of-areas_of caller serial [] = refl
spans_of-areas_of caller serial (a ∷ areas) = ap (λ spans. a.0 ∷ spans) (spans_of-areas_of caller (suc serial) areas)
