-- The sections over the free blocks, by the pages that are taken.
use Rattle.std.proofs.Common.{zero, suc, All, arith, ◌+◌, ◌≤◌, option_map, ◌≡◌, ℕ, Bool, true, false, not, List, [], ◌∷◌, length, Option, Some, None, refl, ap, sym, subst, IsSome, IsSomeAnd, ◌∙◌}
use Rattle.vm_model.specs.declared.areas.Span.{Span}
use Rattle.vm_model.specs.Space.{end_of, span, holds, covers, paint, lowest, runs}
use Rattle.vm_model.specs.PlainMap.{PlainMap, Mark, Free, Held, is_free, taken}
use Rattle.vm_model.specs.Events.{ForPages, Carve, NoHole, Drop, Return}
use Rattle.vm_model.specs.Places.{Place, Then, MadeNothing, AskSearch, Dropping, PurgeReturning, ask}
use Rattle.vm_model.specs.Given.{given, carving}
use Rattle.vm_model.specs.declared.calls.Reply.TheVariants as reply
use Rattle.vm_model.specs.Next.{Next, Answer, next, without_space}
use Rattle.vm_model.specs.History.{Local, moved_to}
use Rattle.vm_model.specs.Parts.{FreeRuns, map_with}
use Rattle.vm_model.proofs.PaintRuns.{map-paint, lowest_is_free}
use Rattle.map_parts.proofs.TakenPages.{taken_of_runs, taken_in}
use Rattle.callers.specs.declared.place.Aim.{Aim}
use Rattle.callers.specs.declared.place.Aim.TheVariants as aim
use Rattle.callers.specs.CarriedPlaces.{aim_of}
use Rattle.section_core.specs.MadeSections.{IsMoved, MayGrow, TakesMemory}
use Rattle.section_core.proofs.Moved.{moved_as}

module _ (l : Local) (bits : List Bool) (wide : length bits ≡ l.setup.space) where
  here : PlainMap
  here = map_with l.setup (FreeRuns (runs bits))

  pub same : taken (map_with l.setup (FreeRuns (runs bits))) ≡ bits
  same = taken_of_runs l.setup bits wide

  pub painted : (test : ℕ → Bool) (mark : Mark) → runs (taken_in (paint test mark (map_with l.setup (FreeRuns (runs bits))).marks)) ≡ runs (paint test (not (is_free mark)) bits)
  painted test mark = ap runs (map-paint (λ mark. not (is_free mark)) test mark (map_with l.setup (FreeRuns (runs bits))).marks ∙ ap (paint test (not (is_free mark))) same)

  module _ (pages align : ℕ) (p : Place) (at : l.place ≡ p) (asks : ask l.setup p ≡ AskSearch (ForPages pages align)) (n : Next) (l' : Local) (local : l' ≡ moved_to l n) where
    given_here : (o : Option ℕ) → lowest bits pages align ≡ o → given l.setup (map_with l.setup (FreeRuns (runs bits))) (ask l.setup p) ≡ Some (carving pages align o)
    given_here o e = ap (given l.setup (map_with l.setup (FreeRuns (runs bits)))) asks ∙ ap (λ bits. Some (carving pages align (lowest bits pages align))) same ∙ ap (λ o. Some (carving pages align o)) e

    pub finds : (start : ℕ) (blocks : List Span) → lowest bits pages align ≡ Some start → next l.setup p (Carve (span start pages) align) ≡ n → blocks ≡ runs (paint (holds (span start pages)) true bits)
        → IsMoved l (FreeRuns (runs bits)) l' (FreeRuns blocks)
    finds start blocks e on left =
        moved_as l (FreeRuns (runs bits)) p (Carve (span start pages) align) n l' (FreeRuns blocks) at (given_here (Some start) e) on local
        (ap (λ blocks. FreeRuns blocks) (left ∙ sym (painted (holds (span start pages)) (Held l.caller))))

    pub finds_none : lowest bits pages align ≡ None → next l.setup p (NoHole (ForPages pages align)) ≡ n → IsMoved l (FreeRuns (runs bits)) l' (FreeRuns (runs bits))
    finds_none e on =
        moved_as l (FreeRuns (runs bits)) p (NoHole (ForPages pages align)) n l' (FreeRuns (runs bits)) at (given_here None e) on local (ap (λ bits. FreeRuns (runs bits)) (sym same))

  -- a search that finds a place may want memory
  pub finds_with_memory : (pages align : ℕ) → ask l.setup l.place ≡ AskSearch (ForPages pages align) → IsSome (lowest bits pages align) → TakesMemory l (FreeRuns (runs bits))
  finds_with_memory pages align asks some = by (lowest bits pages align) refl some
    where
      by : (o : Option ℕ) → lowest bits pages align ≡ o → IsSome o → TakesMemory l (FreeRuns (runs bits))
      by None e some = let no : false ≡ true = some in cc
      by (Some start) e some =
          subst (λ s. IsSomeAnd s MayGrow) (sym (ap (given l.setup (map_with l.setup (FreeRuns (runs bits)))) asks ∙ ap (λ bits. Some (carving pages align (lowest bits pages align))) same ∙ ap (λ o. Some (carving pages align o)) e)) tt

  pub drops : (s : Span) (n : Next) (l' : Local) (blocks : List Span) → l.place ≡ Dropping s → next l.setup (Dropping s) (Drop s) ≡ n → l' ≡ moved_to l n → blocks ≡ runs (paint (holds s) false bits)
      → IsMoved l (FreeRuns (runs bits)) l' (FreeRuns blocks)
  drops s n l' blocks at on local left =
      moved_as l (FreeRuns (runs bits)) (Dropping s) (Drop s) n l' (FreeRuns blocks) at refl on local (ap (λ blocks. FreeRuns blocks) (left ∙ sym (painted (holds s) Free)))

  pub returns_spans : (waited : List Span) (after : Then) (n : Next) (l' : Local) (blocks : List Span) → l.place ≡ PurgeReturning waited after → next l.setup (PurgeReturning waited after) (Return waited) ≡ n → l' ≡ moved_to l n → blocks ≡ runs (paint (covers waited) false bits)
      → IsMoved l (FreeRuns (runs bits)) l' (FreeRuns blocks)
  returns_spans waited after n l' blocks at on local left =
      moved_as l (FreeRuns (runs bits)) (PurgeReturning waited after) (Return waited) n l' (FreeRuns blocks) at refl on local (ap (λ blocks. FreeRuns blocks) (left ∙ sym (painted (covers waited) Free)))

-- what a search that found a span found
pub chosen : (pages : ℕ) (o : Option ℕ) (found : Option Span) (s : Span) → found ≡ option_map (λ start. span start pages) o → found ≡ Some s → (o ≡ Some s.start) × (s ≡ span s.start pages)
chosen pages None found s e is = let no : None ≡ Some s = sym e ∙ is in cc
chosen pages (Some start) found s e is = let same : span start pages ≡ s = (let both : Some (span start pages) ≡ Some s = sym e ∙ is in cc) in
    (ap (λ (x : Span). Some x.start) same, sym same ∙ ap (λ (x : Span). span x.start pages) same)

pub chosen_none : (pages : ℕ) (o : Option ℕ) (found : Option Span) → found ≡ option_map (λ start. span start pages) o → found ≡ None → o ≡ None
chosen_none pages None found e is = refl
chosen_none pages (Some start) found e is = let no : Some (span start pages) ≡ None = sym e ∙ is in cc

pub found_within : (bits : List Bool) (pages align start : ℕ) → lowest bits pages align ≡ Some start → start + pages ≤ length bits
found_within bits pages align start e = (lowest_is_free bits pages align start e).within

pub all_one : (s : Span) (n : ℕ) → end_of s ≤ n → All (λ (t : Span). end_of t ≤ n) (s ∷ [])
all_one s n h zero d low = h
all_one s n h (suc k) d low = absurd (omega arith)

-- without space a call for pages is answered
pub no_space : (a : Aim) → without_space (aim_of a) ≡ Answer reply.NoSpace MadeNothing
no_space (aim.Area k) = refl
no_space (aim.Block cpu pages) = refl
