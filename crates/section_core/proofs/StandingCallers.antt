-- A caller and its region that stand in one state of a run: the section can be made, and the place stands before the side that it wants.
use Rattle.std.proofs.Common.{◌≡◌, ◌<◌, true, false, length, Result, Ok, Err, OnErr, sym, ap, ◌∙◌, subst, refl}
use Rattle.vm_model.specs.Places.{ask, Adding}
use Rattle.vm_model.specs.Places.{Place as Stood}
use Rattle.vm_model.specs.Given.{can_move}
use Rattle.vm_model.specs.History.{Local}
use Rattle.vm_model.specs.Parts.{Region, FreeRuns, LiveAreas, WaitingSpans, CpuBlocks, map_with, number_of, wants, moves}
use Rattle.vm_model.specs.Parts as parts
use Rattle.vm_model.specs.Run.{StandTogether}
use Rattle.map_blocks.specs.BlockRows.{BlockRows}
use Rattle.page_pool.specs.PageMap as pool
use Rattle.callers.specs.declared.place.Place.{Place}
use Rattle.callers.specs.declared.place.Place.TheVariants as place
use Rattle.callers.specs.CarriedPlaces.{IsWhole}
use Rattle.callers.specs.CallerParts.{IsAt}
use Rattle.section_core.specs.declared.region.Side.{Side}
use Rattle.section_core.specs.RegionSides.{region_of}
use Rattle.section_core.specs.SectionRows.{is_row}
use Rattle.section_core.specs.StandsWell.{IsAmountWell, StandsWell, CanMake}
use Rattle.section_laws.specs.Lawful.{IsLawful}
use Rattle.chunk_slots.proofs.ChunkPages.{of_units}
use Rattle.section_laws.proofs.PagesReady.{pages_ready}
use Rattle.section_laws.proofs.AreasReady.{areas_ready}
use Rattle.section_laws.proofs.PercpuReady.{percpu_ready, numbers_left, units_there}
use Rattle.section_laws.proofs.WordsSmall.{cells_small, amounts_small}
use Rattle.section_core.proofs.LawfulCallers.{few_more}
use Rattle.section_core.proofs.LawfulRegions.{runs_there, dropped_there, returned_there, mapped_there, unmapped_there, flushed_there, memory_there, pages_wide_there, serials_there, settled_there, can_wait_there}
use Rattle.section_core.proofs.LawfulGroups.{unlinked_there}
use Rattle.section_core.proofs.LawfulBlocks.{own_there, processor_there, blocks_well_there}

-- what is added is an amount
amount_there : (l : Local) (r : Region) → StandTogether wants IsLawful l r → IsAmountWell l.place
amount_there l r st = by_place l.place refl
  where
    by_place : (p : Stood) → l.place ≡ p → IsAmountWell p
    by_place (Adding at serial cpu index amount) e = amounts_small l r at serial cpu index amount st e
    by_place _ e = tt

pub stands_well : (l : Local) (r : Region) → StandTogether wants IsLawful l r → IsWhole l.setup l.place → StandsWell l.setup l.caller l.place r
stands_well l (FreeRuns blocks) st whole = record { runs = runs_there l blocks st; dropped = dropped_there l blocks st whole; returned = returned_there l blocks st whole }
stands_well l (LiveAreas areas next) st whole = record { settled = settled_there l areas next st; unlinked = unlinked_there l areas next st; ready = areas_ready l areas next st; serials = serials_there l areas next st }
stands_well l (WaitingSpans spans) st whole = can_wait_there l spans st whole
stands_well l (parts.Pages frames stale cells) st whole =
    let pages : pool.Pages = record { frames = frames; stale = stale; cells = cells } in
    record {
      mapped = mapped_there l pages st whole;
      unmapped = unmapped_there l pages st whole;
      flushed = flushed_there l pages st whole;
      ready = pages_ready l frames stale cells st;
      small = record { words = cells_small l frames stale cells st; amount = amount_there l (parts.Pages frames stale cells) st };
      wide = pages_wide_there l pages st;
      memory = memory_there l pages st;
    }
stands_well l (parts.Percpu chunks object chunk room) st whole = record {
  ready = percpu_ready l chunks object chunk room st;
  units = of_units l.setup.unit_pages chunks (units_there l chunks object chunk room st);
  objects = (numbers_left l chunks object chunk room st).0;
  numbers = (numbers_left l chunks object chunk room st).1;
}
stands_well l (CpuBlocks cpu pages blocks next) st whole =
    let side : BlockRows = record { cpu = cpu; pages = pages; blocks = blocks; next = next } in
    record { own = own_there l side st; cpu = processor_there l side st; well = blocks_well_there l side st }
stands_well l _ st whole = tt

-- who moves has a call at hand
more_there : (p : Place) (l : Local) (r : Region) → IsAt p l → moves l r ≡ true → length l.answers < length l.calls
more_there place.Over l r at m = absurd (let no : false ≡ true = sym (ap (λ q. can_move (map_with l.setup r) (ask l.setup q)) at.place) ∙ m in cc)
more_there _ l r at m = at.at_hand

pub can_make : (l : Local) (r : Region) (p : Place) → StandTogether wants IsLawful l r → moves l r ≡ true → IsAt p l → CanMake p l r
can_make l r p st m at = record {
  at = at;
  at_hand = more_there p l r at m;
  events = few_more l r st;
  moves = m;
  stands = subst (λ q. StandsWell l.setup l.caller q r) at.place (stands_well l r st at.whole);
}

-- a row of the table
pub row : (l : Local) (r : Region) (side side' : Side) (p p' : Place) → IsAt p l → region_of side ≡ r → p ≡ p' → side ≡ side' → StandTogether wants IsLawful l r → moves l r ≡ true → CanMake p' l (region_of side')
row l r side side' p p' at is same there st m =
    let region : r ≡ region_of side' = sym is ∙ ap region_of there in
    can_make l (region_of side') p' (subst (StandTogether wants IsLawful l) region st) (ap (moves l) (sym region) ∙ m) (subst (λ q. IsAt q l) same at)

pub row_as : (side side' : Side) (p : Place) → side ≡ side' → is_row side p ≡ true → is_row side' p ≡ true
row_as side side' p same row = sym (ap (λ s. is_row s p) same) ∙ row

-- a row that wants memory leaves the caller and its region as they were
pub err_kept : {X T E : Type 0} (into : X → Side) (r r' : Result T E) (l l0 l1 : Local) (s s0 : Side) (x0 x1 : X) (region : Region) → r ≡ r' → l ≡ l1 → s ≡ into x1 → s0 ≡ into x0 → region_of s0 ≡ region → OnErr r' ((l1 ≡ l0) × (x1 ≡ x0))
    → OnErr r ((l ≡ l0) × (region_of s ≡ region))
err_kept {T = T} {E = E} into r r' l l0 l1 s s0 x0 x1 region same local here was is err = subst (λ (q : Result T E). OnErr q ((l ≡ l0) × (region_of s ≡ region))) (sym same) (by r' err)
  where
    by : (q : Result T E) → OnErr q ((l1 ≡ l0) × (x1 ≡ x0)) → OnErr q ((l ≡ l0) × (region_of s ≡ region))
    by (Ok x) e = tt
    by (Err x) e = (local ∙ e.0, ap region_of (here ∙ ap into e.1 ∙ sym was) ∙ is)

pub no_err : {T E : Type 0} (P : Type 0) (r : Result T E) (x : T) → r ≡ Ok x → OnErr r P
no_err {T = T} {E = E} P r x same = subst (λ (q : Result T E). OnErr q P) (sym same) tt
