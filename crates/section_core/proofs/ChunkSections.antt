-- The sections over the chunks of per-CPU memory, on a side whose units have the pages of the setup's.
use Rattle.std.proofs.Common.{◌≡◌, ℕ, ◌≤◌, true, false, List, Option, Some, None, option_map, refl, ap, sym, subst, ◌∙◌, IfSome, IfNone, IsSomeAnd, arith}
use Rattle.vm_model.specs.Setup.{Setup}
use Rattle.vm_model.specs.PageSets.{pages_in}
use Rattle.vm_model.specs.Chunks.{ObjectAt, spare_chunk, page_to_fill}
use Rattle.vm_model.specs.Events.{ForGroups, PlaceObject, NoPlace, AddChunk, PlaceAtomic, NoAtomic, Spare, NoSpare, NextPage, Enough}
use Rattle.vm_model.specs.declared.calls.Reply.TheVariants as reply
use Rattle.vm_model.specs.Places.{ForChunk, MadeNothing, Finding, Choosing, AddingChunk, Populating, GivingAlloc, ChoosingAtomic, Zeroing, Sparing, Depopulating, NextFill, Filling, ask}
use Rattle.vm_model.specs.Given.{given, placing, placing_new, placing_atomic, sparing, filling}
use Rattle.vm_model.specs.Next.{Go, Answer}
use Rattle.vm_model.specs.History.{Local, moved_to}
use Rattle.vm_model.specs.Parts.{map_with}
use Rattle.chunk_slots.specs.declared.placed.Placed.{Placed}
use Rattle.chunk_slots.specs.ChunkRegion.{ChunkRegion, setup_of, at_of, told_of, place_for, with_placed, with_new_chunk, without_chunk}
use Rattle.chunk_slots.proofs.NewChunks.{never_full}
use Rattle.populate_balance.specs.declared.fill.UnpopulatedPage.{UnpopulatedPage}
use Rattle.populate_balance.specs.declared.spare.SpareChunk.{SpareChunk}
use Rattle.populate_balance.specs.Balance as balance
use Rattle.populate_balance.specs.Balance.{spare_in, placed_page, told_page}
use Rattle.section_laws.specs.Needs.{CanBeAsked}
use Rattle.section_core.specs.RegionSides.{percpu_region}
use Rattle.section_core.specs.MadeSections.{IsMoved, MayGrow, TakesMemory}
use Rattle.section_core.proofs.Moved.{moved_as}

-- what can be asked for has a word
some_words : (bytes align : ℕ) → CanBeAsked bytes align → 4 ≤ bytes
some_words bytes align asked = let whole = asked.whole in omega arith

-- a side that was given the pages of the setup's units
pub sized : (setup c : Setup) (pages : ℕ) (side ready : ChunkRegion) → pages ≡ c.unit_pages → c ≡ setup → ready ≡ record side { unit_pages = pages } → ready ≡ record side { unit_pages = setup.unit_pages }
sized setup c pages side ready of same is = is ∙ ap (λ n. record side { unit_pages = n }) (of ∙ ap (λ (c : Setup). c.unit_pages) same)

-- what an answer that is told says of what there is
told_some : {A B C : Type 0} (told : A → C) (shown : B → C) (x : A) (o : Option B) → Some (told x) ≡ option_map shown o → (y : B) × (o ≡ Some y) × (told x ≡ shown y)
told_some told shown x None e = let no : Some (told x) ≡ None = e in cc
told_some told shown x (Some y) e = (y, refl, (let same : Some (told x) ≡ Some (shown y) = e in cc))

told_none : {B C : Type 0} (shown : B → C) (o : Option B) → None ≡ option_map shown o → o ≡ None
told_none shown None e = refl
told_none shown (Some y) e = let no : None ≡ Some (shown y) = e in cc

module _ (l : Local) (side : ChunkRegion) where
  -- the side with the pages of the setup's units
  abbrev pub here : ChunkRegion
  here = record side { unit_pages = l.setup.unit_pages }

  -- a new chunk may want memory
  pub adds_with_memory : (base number bytes align : ℕ) → l.place ≡ AddingChunk base number bytes align → number ≡ side.next_chunk → 8 ≤ l.setup.unit_pages → CanBeAsked bytes align → TakesMemory l (percpu_region side)
  adds_with_memory base number bytes align place next least asked = by (place_for false bytes align (with_new_chunk base here)) refl
    where
      by : (o : Option (ObjectAt × List ℕ)) → place_for false bytes align (with_new_chunk base here) ≡ o → TakesMemory l (percpu_region side)
      by None e = absurd (never_full base bytes align here least (some_words bytes align asked) asked.high (sym e))
      by (Some p) e =
          subst (λ s. IsSomeAnd s MayGrow)
          (sym (ap (λ q. given l.setup (map_with l.setup (percpu_region side)) (ask l.setup q)) (place ∙ ap (λ n. AddingChunk base n bytes align) next) ∙ ap (λ o. Some (placing_new side.next_chunk base bytes align o)) e)) tt

  module _ (l' : Local) (left : ChunkRegion) where
    module _ (ready : ChunkRegion) (is : ready ≡ here) where
      -- nothing but the pages of the units is new there
      same_region : left ≡ ready → percpu_region left ≡ percpu_region side
      same_region same = ap percpu_region (same ∙ is)

      module _ (bytes align caller : ℕ) (found : Option Placed) (own : caller ≡ l.caller) where
        held : (change : ℕ → ObjectAt → ChunkRegion) (placed : Placed) → IfSome found (λ placed. left ≡ change caller (at_of placed)) → found ≡ Some placed → left ≡ change l.caller (at_of placed)
        held change placed is some = subst (λ o. IfSome o (λ placed. left ≡ change caller (at_of placed))) some is ∙ ap (λ k. change k (at_of placed)) own

        pub places : (placed : Placed) → l.place ≡ Choosing bytes align → option_map told_of found ≡ place_for false bytes align ready → IfSome found (λ placed. left ≡ with_placed caller (at_of placed) ready) → found ≡ Some placed
            → l' ≡ moved_to l (Go (Populating (at_of placed) (pages_in placed.missing))) → IsMoved l (percpu_region side) l' (percpu_region left)
        places placed place told changed some local =
            moved_as l (percpu_region side) (Choosing bytes align) (PlaceObject (at_of placed) align (pages_in placed.missing)) (Go (Populating (at_of placed) (pages_in placed.missing))) l' (percpu_region left) place
            (ap (λ o. Some (placing bytes align side.next_chunk o)) (sym (ap (place_for false bytes align) is) ∙ sym told ∙ ap (option_map told_of) some)) refl local
            (ap percpu_region (held (λ k at. with_placed k at ready) placed changed some ∙ ap (with_placed l.caller (at_of placed)) is))

        pub places_none : (number : ℕ) → l.place ≡ Choosing bytes align → option_map told_of found ≡ place_for false bytes align ready → IfNone found (left ≡ ready) → found ≡ None → number ≡ left.next_chunk
            → l' ≡ moved_to l (Go (Finding ForGroups (ForChunk number bytes align))) → IsMoved l (percpu_region side) l' (percpu_region left)
        places_none number place told stays none next local =
            let same = subst (λ o. IfNone o (left ≡ ready)) none stays in
            moved_as l (percpu_region side) (Choosing bytes align) (NoPlace bytes align side.next_chunk) (Go (Finding ForGroups (ForChunk number bytes align))) l' (percpu_region left) place
            (ap (λ o. Some (placing bytes align side.next_chunk o)) (sym (ap (place_for false bytes align) is) ∙ sym told ∙ ap (option_map told_of) none))
            (ap (λ n. Go (Finding ForGroups (ForChunk n bytes align))) (sym (next ∙ ap (λ (r : ChunkRegion). r.next_chunk) (same ∙ is)))) local (same_region same)

        pub places_atomic : (placed : Placed) → l.place ≡ ChoosingAtomic bytes align → option_map told_of found ≡ place_for true bytes align ready → IfSome found (λ placed. left ≡ with_placed caller (at_of placed) ready) → found ≡ Some placed
            → l' ≡ moved_to l (Go (Zeroing (at_of placed))) → IsMoved l (percpu_region side) l' (percpu_region left)
        places_atomic placed place told changed some local =
            moved_as l (percpu_region side) (ChoosingAtomic bytes align) (PlaceAtomic (at_of placed) align) (Go (Zeroing (at_of placed))) l' (percpu_region left) place
            (ap (λ o. Some (placing_atomic bytes align o)) (sym (ap (place_for true bytes align) is) ∙ sym told ∙ ap (option_map told_of) some)) refl local
            (ap percpu_region (held (λ k at. with_placed k at ready) placed changed some ∙ ap (with_placed l.caller (at_of placed)) is))

        pub places_no_atomic : l.place ≡ ChoosingAtomic bytes align → option_map told_of found ≡ place_for true bytes align ready → IfNone found (left ≡ ready) → found ≡ None
            → l' ≡ moved_to l (Answer reply.NoAtomic MadeNothing) → IsMoved l (percpu_region side) l' (percpu_region left)
        places_no_atomic place told stays none local =
            moved_as l (percpu_region side) (ChoosingAtomic bytes align) (NoAtomic bytes align) (Answer reply.NoAtomic MadeNothing) l' (percpu_region left) place
            (ap (λ o. Some (placing_atomic bytes align o)) (sym (ap (place_for true bytes align) is) ∙ sym told ∙ ap (option_map told_of) none)) refl local
            (same_region (subst (λ o. IfNone o (left ≡ ready)) none stays))

      pub adds_chunk : (base number bytes align caller : ℕ) (placed : Placed) → l.place ≡ AddingChunk base number bytes align → number ≡ side.next_chunk → caller ≡ l.caller → place_for false bytes align (with_new_chunk base ready) ≡ Some (told_of placed)
          → left ≡ with_placed caller (at_of placed) (with_new_chunk base ready) → l' ≡ moved_to l (Go (Populating (at_of placed) (pages_in placed.missing))) → IsMoved l (percpu_region side) l' (percpu_region left)
      adds_chunk base number bytes align caller placed place next own told changed local =
          moved_as l (percpu_region side) (AddingChunk base side.next_chunk bytes align) (AddChunk side.next_chunk base (at_of placed) align (pages_in placed.missing)) (Go (Populating (at_of placed) (pages_in placed.missing))) l' (percpu_region left)
          (place ∙ ap (λ n. AddingChunk base n bytes align) next)
          (ap (λ o. Some (placing_new side.next_chunk base bytes align o)) (sym (ap (λ r. place_for false bytes align (with_new_chunk base r)) is) ∙ told)) refl local
          (ap percpu_region (changed ∙ ap (λ k. with_placed k (at_of placed) (with_new_chunk base ready)) own ∙ ap (λ r. with_placed l.caller (at_of placed) (with_new_chunk base r)) is))

      pub spares : (found : Option SpareChunk) (spare : SpareChunk) → l.place ≡ Sparing → option_map balance.told_of found ≡ option_map (spare_in (setup_of ready)) (spare_chunk ready.chunks)
          → IfSome found (λ (spare : SpareChunk). left ≡ without_chunk spare.chunk ready) → found ≡ Some spare → l' ≡ moved_to l (Go (Depopulating spare.base (pages_in spare.populated))) → IsMoved l (percpu_region side) l' (percpu_region left)
      spares found spare place told changed some local =
          let gone = subst (λ o. IfSome o (λ (spare : SpareChunk). left ≡ without_chunk spare.chunk ready)) some changed in
          let of = told_some balance.told_of (spare_in l.setup) spare (spare_chunk side.chunks) (sym (ap (option_map balance.told_of) some) ∙ told ∙ ap (λ (r : ChunkRegion). option_map (spare_in (setup_of r)) (spare_chunk r.chunks)) is) in
          moved_as l (percpu_region side) Sparing (Spare spare.chunk spare.base (pages_in spare.populated)) (Go (Depopulating spare.base (pages_in spare.populated))) l' (percpu_region left) place
          (ap (λ o. Some (sparing l.setup o)) of.1 ∙ ap (λ (p : ℕ × ℕ × List ℕ). Some (Spare p.0 p.1 p.2)) (sym of.2)) refl local
          (ap percpu_region (gone ∙ ap (without_chunk spare.chunk) is))

      pub spares_none : (found : Option SpareChunk) → l.place ≡ Sparing → option_map balance.told_of found ≡ option_map (spare_in (setup_of ready)) (spare_chunk ready.chunks) → IfNone found (left ≡ ready) → found ≡ None
          → l' ≡ moved_to l (Go (NextFill 0)) → IsMoved l (percpu_region side) l' (percpu_region left)
      spares_none found place told stays none local =
          moved_as l (percpu_region side) Sparing NoSpare (Go (NextFill 0)) l' (percpu_region left) place
          (ap (λ o. Some (sparing l.setup o)) (told_none (spare_in l.setup) (spare_chunk side.chunks) (sym (ap (option_map balance.told_of) none) ∙ told ∙ ap (λ (r : ChunkRegion). option_map (spare_in (setup_of r)) (spare_chunk r.chunks)) is)))
          refl local (same_region (subst (λ o. IfNone o (left ≡ ready)) none stays))

      module _ (filled : ℕ) (found : Option UnpopulatedPage) (told : option_map told_page found ≡ option_map placed_page (page_to_fill (setup_of ready) ready.chunks)) (place : l.place ≡ NextFill filled) (same : left ≡ ready) where
        told_here : (o : Option UnpopulatedPage) → found ≡ o → option_map told_page o ≡ option_map placed_page (page_to_fill l.setup side.chunks)
        told_here o e = sym (ap (option_map told_page) e) ∙ told ∙ ap (λ (r : ChunkRegion). option_map placed_page (page_to_fill (setup_of r) r.chunks)) is

        pub fills : (page : UnpopulatedPage) → found ≡ Some page → l' ≡ moved_to l (Go (Filling page.chunk page.base page.page filled)) → IsMoved l (percpu_region side) l' (percpu_region left)
        fills page some local =
            let of = told_some told_page placed_page page (page_to_fill l.setup side.chunks) (told_here (Some page) some) in
            moved_as l (percpu_region side) (NextFill filled) (NextPage page.chunk page.base page.page) (Go (Filling page.chunk page.base page.page filled)) l' (percpu_region left) place
            (ap (λ o. Some (filling o)) of.1 ∙ ap (λ (p : ℕ × ℕ × ℕ). Some (NextPage p.0 p.1 p.2)) (sym of.2)) refl local (same_region same)

        pub fills_none : found ≡ None → l' ≡ moved_to l (Go (GivingAlloc (reply.Count filled) MadeNothing)) → IsMoved l (percpu_region side) l' (percpu_region left)
        fills_none none local =
            moved_as l (percpu_region side) (NextFill filled) Enough (Go (GivingAlloc (reply.Count filled) MadeNothing)) l' (percpu_region left) place
            (ap (λ o. Some (filling o)) (told_none placed_page (page_to_fill l.setup side.chunks) (told_here None none))) refl local (same_region same)
