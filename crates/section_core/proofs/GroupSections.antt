-- The sections over the pages and areas of a chunk's groups.
use Rattle.std.proofs.Common.{◌≡◌, ℕ, suc, ◌+◌, ◌≤◌, ◌<◌, ◌^◌, ◌++◌, nat_lt, if◌then◌else◌, All, List, [], ◌∷◌, length, map, slice_get, get_or, Bool, true, false, Option, Some, None, IsSome, IsSomeAnd, IfSome, IfNone, option_map, refl, ap, sym, ◌∙◌, subst, arith}
use Rattle.std.proofs.lemmas.Bool.Decides.{nat_tests}
use Rattle.std.proofs.lemmas.Option.{slice_get-get_or}
use Rattle.std.proofs.lemmas.List.Elements.{All-nil, All-cons, All-head, All-tail}
use Rattle.vm_model.specs.declared.areas.Span.{Span}
use Rattle.vm_model.specs.declared.areas.Area.{Area}
use Rattle.vm_model.specs.declared.areas.AreaKind.{AreaKind}
use Rattle.vm_model.specs.Space.{covers, times, paint, runs, sum_of_pages, HasEnd}
use Rattle.vm_model.specs.Setup.{Setup, highest, groups_at}
use Rattle.vm_model.specs.Rules.{IsSetup}
use Rattle.vm_model.specs.PlainMap.{Held}
use Rattle.vm_model.specs.Areas.{spans_of, areas_elsewhere, group_kinds, group_areas}
use Rattle.vm_model.specs.Events.{ForGroups, CarveGroups, NoHole, Settle, Unlink, Wait}
use Rattle.vm_model.specs.Places.{Place, SpareAgain, AskSearch, SettlingGroups, AddingChunk, UnlinkingGroups, Waiting, PurgeTaking, Sparing, group_starts, ask}
use Rattle.vm_model.specs.Given.{given, carving_groups}
use Rattle.vm_model.specs.Next.{Next, Go, next}
use Rattle.vm_model.specs.History.{Local, moved_to}
use Rattle.vm_model.specs.Parts.{FreeRuns, LiveAreas, WaitingSpans, map_with}
use Rattle.unit_layout.specs.declared.layout.Group.{Group}
use Rattle.unit_layout.specs.declared.config.Config.{Config}
use Rattle.unit_layout.specs.Config.{setup_of}
use Rattle.unit_layout.proofs.Ceilings.{power_pos}
use Rattle.augmented_tree.specs.FreeBlocks.{FreeBlocks, LeavesRunsWithout}
use Rattle.busy_areas.specs.LiveAreaRows.{LiveRows, with_new}
use Rattle.busy_areas.specs.KeptAreas.{asked_spans}
use Rattle.congruent_areas.specs.declared.bundle.Bundle.{Bundle}
use Rattle.congruent_areas.specs.GroupsAtBase.{HasGroups, AreLaidOut, IsBaseOfTheMap, HasBaseOfTheMap, span_at, spans_at}
use Rattle.congruent_areas.specs.GroupsAtBase.{spans_of as groups_of}
use Rattle.congruent_areas.proofs.LaidOut.{machines, spans}
use Rattle.section_laws.specs.Needs.{CanSettle}
use Rattle.section_core.specs.MadeSections.{IsMoved, MayGrow, TakesMemory}
use Rattle.section_core.specs.StandsWell.{AreRunsOf, CanWait}
use Rattle.callers.specs.CarriedPlaces.{carried_at}
use Rattle.section_core.proofs.Moved.{moved_as}
use Rattle.section_core.proofs.FreeSections.{same, painted}

-- A search for groups.

module _ (l : Local) (bits : List Bool) (wide : length bits ≡ l.setup.space) where
  module _ (p : Place) (at : l.place ≡ p) (asks : ask l.setup p ≡ AskSearch ForGroups) (n : Next) (l' : Local) (local : l' ≡ moved_to l n) where
    given_here : (o : Option ℕ) → o ≡ highest l.setup bits → given l.setup (map_with l.setup (FreeRuns (runs bits))) (ask l.setup p) ≡ Some (carving_groups o)
    given_here o e =
        ap (given l.setup (map_with l.setup (FreeRuns (runs bits)))) asks ∙ ap (λ bits. Some (carving_groups (highest l.setup bits))) (same l bits wide)
        ∙ ap (λ o. Some (carving_groups o)) (sym e)

    pub finds_base : (base : ℕ) (blocks : List Span) → Some base ≡ highest l.setup bits → next l.setup p (CarveGroups base) ≡ n → blocks ≡ runs (paint (covers (groups_at l.setup base)) true bits)
        → IsMoved l (FreeRuns (runs bits)) l' (FreeRuns blocks)
    finds_base base blocks e on left =
        moved_as l (FreeRuns (runs bits)) p (CarveGroups base) n l' (FreeRuns blocks) at (given_here (Some base) e) on local
        (ap (λ blocks. FreeRuns blocks) (left ∙ sym (painted l bits wide (covers (groups_at l.setup base)) (Held l.caller))))

    pub finds_no_base : None ≡ highest l.setup bits → next l.setup p (NoHole ForGroups) ≡ n → IsMoved l (FreeRuns (runs bits)) l' (FreeRuns (runs bits))
    finds_no_base e on =
        moved_as l (FreeRuns (runs bits)) p (NoHole ForGroups) n l' (FreeRuns (runs bits)) at (given_here None e) on local (ap (λ bits. FreeRuns (runs bits)) (sym (same l bits wide)))

  -- a search that finds a base may want memory
  pub finds_base_with_memory : ask l.setup l.place ≡ AskSearch ForGroups → IsSome (highest l.setup bits) → TakesMemory l (FreeRuns (runs bits))
  finds_base_with_memory asks some = by (highest l.setup bits) refl some
    where
      by : (o : Option ℕ) → highest l.setup bits ≡ o → IsSome o → TakesMemory l (FreeRuns (runs bits))
      by None e some = let no : false ≡ true = some in cc
      by (Some base) e some =
          subst (λ s. IsSomeAnd s MayGrow)
          (sym (ap (given l.setup (map_with l.setup (FreeRuns (runs bits)))) asks ∙ ap (λ bits. Some (carving_groups (highest l.setup bits))) (same l bits wide) ∙ ap (λ o. Some (carving_groups o)) e)) tt

-- The groups of a caller's machine, by those of its layout.

module _ (c : Setup) (laid : List Group) (align : ℕ) (setup : IsSetup c) (has : HasGroups c laid align) where
  pub laid_out : AreLaidOut laid
  laid_out = machines c laid align setup.groups has

  pub some_align : 1 ≤ align
  some_align = subst (λ n. 1 ≤ n) has.atom (power_pos c.atom setup.atom)

  pub are_spans : (base : ℕ) → groups_at c base ≡ spans_at base laid
  are_spans base = spans c laid align base has

  starts_at : (base : ℕ) (groups : List Group) → map (λ (s : Span). s.start) (spans_at base groups) ≡ map (λ (g : Group). base + g.offset) groups
  starts_at base [] = refl
  starts_at base (g ∷ groups) = ap (λ starts. (base + g.offset) ∷ starts) (starts_at base groups)

  pub are_starts : (base : ℕ) → group_starts c base ≡ map (λ (g : Group). base + g.offset) laid
  are_starts base = ap (map (λ (s : Span). s.start)) (are_spans base) ∙ starts_at base laid

  -- groups that lie in the space begin at numbers of 32 bits
  low_starts : (base : ℕ) (groups : List Group) → All HasEnd (spans_at base groups) → All (λ (g : Group). base + g.offset < 2 ^ 32) groups
  low_starts base [] ends = All-nil (λ (g : Group). base + g.offset < 2 ^ 32)
  low_starts base (g ∷ groups) ends =
      All-cons (λ (g : Group). base + g.offset < 2 ^ 32) g groups (let end = All-head HasEnd (span_at base g) (spans_at base groups) ends in omega arith)
      (low_starts base groups (All-tail HasEnd (span_at base g) (spans_at base groups) ends))

  pub starts_within : (base : ℕ) → All HasEnd (groups_at c base) → All (λ (g : Group). base + g.offset < 2 ^ 32) laid
  starts_within base ends = low_starts base laid (subst (All HasEnd) (are_spans base) ends)

-- the groups and the alignment of a caller's config
pub has_groups : (c : Setup) (config : Config) (laid : List Group) (align : ℕ) → setup_of config ≡ c → laid ≡ config.layout.groups → align ≡ config.layout.atom → HasGroups c laid align
has_groups c config laid align same groups atom = record {
  groups = ap (λ (d : Setup). d.groups) (sym same) ∙ ap groups_of (sym groups);
  atom = ap (λ (d : Setup). d.atom) (sym same) ∙ sym atom;
}

-- What a search for groups leaves.

module _ (l : Local) (laid : List Group) (align : ℕ) (has : HasGroups l.setup laid align) (old new : FreeBlocks) (stands : AreRunsOf l.setup old.blocks) where
  module _ (p : Place) (at : l.place ≡ p) (asks : ask l.setup p ≡ AskSearch ForGroups) (found : Option Bundle) (base : IsBaseOfTheMap old laid align (option_map (λ (b : Bundle). b.base) found)) (n : Next) (l' : Local) (local : l' ≡ moved_to l n) where
    pub carves : (bundle : Bundle) → found ≡ Some bundle → IfSome found (λ (b : Bundle). b.spans ≡ spans_at b.base laid) → IfSome found (λ (b : Bundle). LeavesRunsWithout old new (covers b.spans))
        → next l.setup p (CarveGroups bundle.base) ≡ n → IsMoved l (FreeRuns old.blocks) l' (FreeRuns new.blocks)
    carves bundle is cut carved on =
        let spans : bundle.spans ≡ groups_at l.setup bundle.base = subst (λ o. IfSome o (λ (b : Bundle). b.spans ≡ spans_at b.base laid)) is cut ∙ sym (spans l.setup laid align bundle.base has) in
        let left : new.blocks ≡ runs (paint (covers bundle.spans) true stands.0) = subst (λ o. IfSome o (λ (b : Bundle). LeavesRunsWithout old new (covers b.spans))) is carved stands.0 stands.2 in
        subst (λ blocks. IsMoved l (FreeRuns blocks) l' (FreeRuns new.blocks)) (sym stands.2)
        (finds_base l stands.0 stands.1 p at asks n l' local bundle.base new.blocks (sym (ap (option_map (λ (b : Bundle). b.base)) is) ∙ base l.setup stands.0 has stands.2) on
        (left ∙ ap (λ spans. runs (paint (covers spans) true stands.0)) spans))

    pub carves_none : found ≡ None → IfNone found (new ≡ old) → next l.setup p (NoHole ForGroups) ≡ n → IsMoved l (FreeRuns old.blocks) l' (FreeRuns new.blocks)
    carves_none is kept on =
        let same : new ≡ old = subst (λ o. IfNone o (new ≡ old)) is kept in
        subst (λ blocks. IsMoved l (FreeRuns old.blocks) l' (FreeRuns blocks)) (sym (ap (λ (side : FreeBlocks). side.blocks) same))
        (subst (λ blocks. IsMoved l (FreeRuns blocks) l' (FreeRuns blocks)) (sym stands.2)
        (finds_no_base l stands.0 stands.1 p at asks n l' local (sym (ap (option_map (λ (b : Bundle). b.base)) is) ∙ base l.setup stands.0 has stands.2) on))

  -- a search that finds a base may want memory
  pub carves_with_memory : ask l.setup l.place ≡ AskSearch ForGroups → HasBaseOfTheMap old laid align → TakesMemory l (FreeRuns old.blocks)
  carves_with_memory asks fits = subst (λ blocks. TakesMemory l (FreeRuns blocks)) (sym stands.2) (finds_base_with_memory l stands.0 stands.1 asks (fits l.setup stands.0 has stands.2))

-- what holds of each by its place holds of all
pub each : {X : Type 0} (P : X → Type 0) (xs : List X) → ((i : ℕ) (x : X) → slice_get xs i ≡ Some x → P x) → All P xs
each P xs of = λ k d h. of k (get_or xs k d) (slice_get-get_or xs k d h)

asked_are : (chunk group : ℕ) (groups : List Span) → asked_spans (group_kinds chunk group groups) ≡ groups
asked_are chunk group [] = refl
asked_are chunk group (s ∷ groups) = ap (λ spans. s ∷ spans) (asked_are chunk (suc group) groups)

length-kinds : (chunk group : ℕ) (groups : List Span) → length (group_kinds chunk group groups) ≡ length groups
length-kinds chunk group [] = refl
length-kinds chunk group (s ∷ groups) = ap suc (length-kinds chunk (suc group) groups)

-- The areas of groups that can be settled.

module _ (c : Setup) (laid : List Group) (align : ℕ) (has : HasGroups c laid align) (chunk base : ℕ) (rows : LiveRows) (can : CanSettle c rows.areas rows.next (groups_at c base)) where
  module _ (new : List (Span × AreaKind)) (are : new ≡ group_kinds chunk 0 (spans_at base laid)) where
    pub are_areas : new ≡ group_areas c chunk base
    are_areas = are ∙ ap (group_kinds chunk 0) (sym (spans c laid align base has))

    asked : asked_spans new ≡ groups_at c base
    asked = ap asked_spans are_areas ∙ asked_are chunk 0 (groups_at c base)

    pub settled_pages : All (λ (s : Span). 0 < s.pages) (asked_spans new)
    settled_pages = subst (All (λ (s : Span). 0 < s.pages)) (sym asked) (each (λ (s : Span). 0 < s.pages) (groups_at c base) can.some)

    pub settled_unused : (page : ℕ) → covers (asked_spans new) page ≡ true → covers (spans_of rows.areas) page ≡ false
    settled_unused page h = can.unused page (ap (λ spans. covers spans page) (sym asked) ∙ h)

    pub settled_disjoint : (page : ℕ) → times page (asked_spans new) ≤ 1
    settled_disjoint page = subst (λ n. n ≤ 1) (ap (times page) (sym asked)) (can.disjoint page)

    pub settled_serials : rows.next + length new < 2 ^ 32
    settled_serials = subst (λ n. rows.next + n < 2 ^ 32) (sym (ap (λ (xs : List (Span × AreaKind)). length xs) are_areas ∙ length-kinds chunk 0 (groups_at c base))) can.serials

pub settled_ends : (c : Setup) (areas : List Area) (next base : ℕ) → IsSetup c → CanSettle c areas next (groups_at c base) → All HasEnd (groups_at c base)
settled_ends c areas next base setup can = each HasEnd (groups_at c base) (λ i s e. let low = can.inside i s e in let high = setup.space_high in omega arith)

pub settles_groups : (l : Local) (base chunk bytes align : ℕ) (rows rows' : LiveRows) (l' : Local) → l.place ≡ SettlingGroups base chunk bytes align → l' ≡ moved_to l (Go (AddingChunk base chunk bytes align))
    → rows' ≡ with_new l.caller (group_areas l.setup chunk base) rows → IsMoved l (LiveAreas rows.areas rows.next) l' (LiveAreas rows'.areas rows'.next)
settles_groups l base chunk bytes align rows rows' l' at local left =
    moved_as l (LiveAreas rows.areas rows.next) (SettlingGroups base chunk bytes align) (Settle (group_areas l.setup chunk base) rows.next) (Go (AddingChunk base chunk bytes align)) l' (LiveAreas rows'.areas rows'.next) at refl refl local
    (ap (λ (r : LiveRows). LiveAreas r.areas r.next) left)

pub unlinks_groups : (l : Local) (base : ℕ) (rows rows' : LiveRows) (l' : Local) → l.place ≡ UnlinkingGroups base → l' ≡ moved_to l (Go (Waiting (groups_at l.setup base) SpareAgain))
    → rows' ≡ record rows { areas = areas_elsewhere (group_starts l.setup base) rows.areas } → IsMoved l (LiveAreas rows.areas rows.next) l' (LiveAreas rows'.areas rows'.next)
unlinks_groups l base rows rows' l' at local left =
    moved_as l (LiveAreas rows.areas rows.next) (UnlinkingGroups base) (Unlink (group_starts l.setup base)) (Go (Waiting (groups_at l.setup base) SpareAgain)) l' (LiveAreas rows'.areas rows'.next) at refl refl local
    (ap (λ (r : LiveRows). LiveAreas r.areas r.next) left)

-- Groups that wait.

module _ (l : Local) (groups waiting waiting' : List Span) (limit pages : ℕ) (l' : Local) (at : l.place ≡ Waiting groups SpareAgain) (lazy : limit ≡ l.setup.lazy) (counted : pages ≡ sum_of_pages (waiting ++ groups)) (left : waiting' ≡ waiting ++ groups) where
  waits : (over : Bool) → nat_lt limit pages ≡ over → l' ≡ moved_to l (if over then Go (PurgeTaking None SpareAgain) else Go Sparing) → IsMoved l (WaitingSpans waiting) l' (WaitingSpans waiting')
  waits over is local =
      moved_as l (WaitingSpans waiting) (Waiting groups SpareAgain) (Wait groups (sum_of_pages (waiting ++ groups))) (if over then Go (PurgeTaking None SpareAgain) else Go Sparing) l' (WaitingSpans waiting') at refl
      (ap (λ b. if b then Go (PurgeTaking None SpareAgain) else Go Sparing) (ap (λ n. nat_lt n (sum_of_pages (waiting ++ groups))) (sym lazy) ∙ ap (nat_lt limit) (sym counted) ∙ is)) local (ap WaitingSpans left)

  pub waits_and_purges : limit < pages → l' ≡ moved_to l (Go (PurgeTaking None SpareAgain)) → IsMoved l (WaitingSpans waiting) l' (WaitingSpans waiting')
  waits_and_purges more local = waits true (grind (arith, nat_tests)) local

  pub waits_and_spares : pages ≤ limit → l' ≡ moved_to l (Go Sparing) → IsMoved l (WaitingSpans waiting) l' (WaitingSpans waiting')
  waits_and_spares few local = waits false (grind (arith, nat_tests)) local

-- the groups of a caller that waits for them can wait
pub can_wait : (l : Local) (base : ℕ) (waiting : List Span) → l.place ≡ Waiting (groups_at l.setup base) SpareAgain → CanWait (carried_at l.place).groups waiting → CanWait (groups_at l.setup base) waiting
can_wait l base waiting at can = subst (λ spans. CanWait spans waiting) (ap (λ p. (carried_at p).groups) at) can
