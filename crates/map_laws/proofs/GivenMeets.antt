-- The section that the map gives to an ask meets it.
use Rattle.std.proofs.Common.{◌≡◌, ℕ, ◌+◌, inl, inr, Bool, true, false, ◌&&◌, ◌==◌, nat_lt, nat_le, List, [], ◌∷◌, ◌++◌, map, filter, flat_map, Option, Some, None, option_map, refl, ap, sym, ◌∙◌, arith}
use Rattle.std.proofs.lemmas.Bool.Decides.{nat_tests}
use Rattle.std.proofs.lemmas.Option.{slice_get-map}
use Rattle.vm_model.specs.Setup.{Setup}
use Rattle.vm_model.specs.PlainMap.{PlainMap, Chunk, Block, Part}
use Rattle.vm_model.specs.Blocks.{PartAt, first_page, blocks_of, queue_of, free_of, rounded, first_with_room, cut_from, part_to_cut, is_named, named_in, named_parts}
use Rattle.vm_model.specs.Chunks.{ObjectAt, plain_fit, placement, new_chunk}
use Rattle.vm_model.specs.Events.{Section}
use Rattle.vm_model.specs.Places.{Ask, AskNothing, AskRefuse, AskTakePurge, AskGivePurge, AskTakeAlloc, AskGiveAlloc, AskSearch, AskDrop, AskReturn, AskSettle, AskRemove, AskUnlink, AskWait, AskTakeWaiting, AskMap, AskPopulate, AskFill, AskUnmap, AskDepopulate, AskFlush, AskZero, AskAdd, AskSum, AskPlace, AskAddChunk, AskAtomic, AskSettleObject, AskUnplace, AskFree, AskSpare, AskNextPage, AskFilled, AskPart, AskAddBlock, AskSettlePart, AskBegin, AskRetire, AskFragment, AskDirty}
use Rattle.vm_model.specs.Given.{taking, given, cutting, beginning}
use Rattle.vm_model.specs.LegalHistory.{Meets}
use Rattle.map_laws.proofs.KeptThroughSteps.{append_cases}
use Rattle.map_laws.proofs.TestsAndFilters.{IsIn, in_more, filter_has, find_has}

-- a turn that is taken was nobody's
pub taking_is : (o : Option ℕ) (x s : Section) → taking o x ≡ Some s → (o ≡ None) × (s ≡ x)
taking_is o x s e = grind (arith, nat_tests)

-- where a chunk is added, its first object has room
abbrev pub HasRoom : Setup → PlainMap → Ask → Type 0
HasRoom c m (AskAddChunk chunk base bytes align) = (p : ObjectAt × List ℕ) × (placement c (plain_fit c bytes align) bytes (m.chunks ++ new_chunk c chunk base ∷ []) ≡ Some p)
HasRoom c m _ = Unit {0}

-- The bytes of a placement.

pub placement_bytes : (c : Setup) (fit : Chunk → Option ℕ) (bytes : ℕ) (chunks : List Chunk) (p : ObjectAt × List ℕ) → placement c fit bytes chunks ≡ Some p → p.0.bytes ≡ bytes
placement_bytes c fit bytes chunks p e = grind (arith, nat_tests)

-- The processor and pages of a part.

same_number : (a b : ℕ) → (a == b) ≡ true → a ≡ b
same_number a b h = grind (arith, nat_tests)

cut_is : (c : Setup) (pages : ℕ) (o : Option Block) (at : PartAt) → option_map (cut_from c pages) o ≡ Some at → (b : Block) × (o ≡ Some b) × (cut_from c pages b ≡ at)
cut_is c pages o at e = grind (arith, nat_tests)

pub cut_of : (c : Setup) (cpu pages : ℕ) (blocks : List Block) (at : PartAt) → part_to_cut c cpu pages blocks ≡ Some at → (at.cpu ≡ cpu) × (at.pages ≡ pages)
cut_of c cpu pages blocks at e =
    let is = cut_is c pages (first_with_room c cpu pages blocks) at e in
    let found = (find_has (λ (b : Block). nat_le (rounded pages) (free_of c b)) (queue_of c cpu blocks) is.0 is.1).0 in
    let queued = (filter_has (λ (b : Block). nat_lt 0 (free_of c b)) (blocks_of cpu blocks) found.place is.0 found.at).there in
    let own = (filter_has (λ (b : Block). b.cpu == cpu) blocks queued.place is.0 queued.at).passes in
    (ap (λ (a : PartAt). a.cpu) (sym is.2) ∙ same_number is.0.cpu cpu own, ap (λ (a : PartAt). a.pages) (sym is.2))

pub flat_in : {X Y : Type 0} (f : X → List Y) (xs : List X) (y : Y) → IsIn y (flat_map f xs) → (x : X) × IsIn x xs × IsIn y (f x)
flat_in f [] y h = let at = h.at in cc
flat_in f (x ∷ xs) y h = grind (arith, flat_in f xs y, in_more, append_cases, nat_tests)

pub map_in : {X Y : Type 0} (f : X → Y) (xs : List X) (y : Y) → IsIn y (map f xs) → (x : X) × IsIn x xs × (f x ≡ y)
map_in f xs y h = grind (arith, slice_get-map, nat_tests)

first_both : (a b : Bool) → (a && b) ≡ true → a ≡ true
first_both true b h = refl
first_both false b h = cc

pub begun_of : (cpu page serial : ℕ) (blocks : List Block) (at : PartAt) → IsIn at (named_parts cpu page serial blocks) → (at.cpu ≡ cpu) × (first_page at ≡ page)
begun_of cpu page serial blocks at h =
    let flat = flat_in (named_in page serial) (blocks_of cpu blocks) at h in
    let own = (filter_has (λ (b : Block). b.cpu == cpu) blocks flat.1.place flat.0 flat.1.at).passes in
    let part = map_in (λ (p : Part). record { cpu = flat.0.cpu; block = flat.0.start; offset = p.offset; pages = p.pages }) (filter (is_named page serial flat.0) flat.0.parts) at flat.2 in
    let named = (filter_has (is_named page serial flat.0) flat.0.parts part.1.place part.0 part.1.at).passes in
    let first : flat.0.start + part.0.offset ≡ page = same_number _ page (first_both _ _ named) in
    (ap (λ (a : PartAt). a.cpu) (sym part.2) ∙ same_number flat.0.cpu cpu own, ap (λ (a : PartAt). a.block + a.offset) (sym part.2) ∙ first)

-- Sections by how they end.

module _ (c : Setup) (m : PlainMap) (s : Section) where
  is_section : (t : Section) → Some t ≡ Some s → s ≡ t
  is_section t e = cc

  meets_cutting : (cpu pages : ℕ) (o : Option PartAt) → ((at : PartAt) → o ≡ Some at → (at.cpu ≡ cpu) × (at.pages ≡ pages)) → Some (cutting cpu pages o) ≡ Some s → Meets c (AskPart cpu pages) s
  meets_cutting cpu pages o own e = grind (arith, is_section, nat_tests)

  meets_beginning : (cpu page serial : ℕ) (parts : List PartAt) → ((at : PartAt) → IsIn at parts → (at.cpu ≡ cpu) × (first_page at ≡ page)) → Some (beginning cpu page serial parts) ≡ Some s → Meets c (AskBegin cpu page serial) s
  meets_beginning cpu page serial [] own e = inr (is_section _ e)
  meets_beginning cpu page serial (at ∷ parts) own e = let is = own at (record { place = 0; at = refl }) in inl (at, is.0, is.1, is_section _ e)

  pub given_meets : (a : Ask) → HasRoom c m a → given c m a ≡ Some s → Meets c a s
  given_meets AskNothing r e = cc
  given_meets AskRefuse r e = is_section _ e
  given_meets AskTakePurge r e = (taking_is m.purge_turn _ s e).1
  given_meets AskGivePurge r e = is_section _ e
  given_meets AskTakeAlloc r e = (taking_is m.alloc_turn _ s e).1
  given_meets AskGiveAlloc r e = is_section _ e
  given_meets (AskSearch search) r e = grind (arith, is_section, nat_tests)
  given_meets (AskDrop p) r e = is_section _ e
  given_meets (AskReturn spans) r e = is_section _ e
  given_meets (AskSettle areas) r e = (m.next_area, is_section _ e)
  given_meets (AskRemove start serial) r e = grind (arith, is_section, nat_tests)
  given_meets (AskUnlink starts) r e = is_section _ e
  given_meets (AskWait spans) r e = (_, is_section _ e)
  given_meets AskTakeWaiting r e = (m.waiting, is_section _ e)
  given_meets (AskMap p) r e = grind (arith, is_section, nat_tests)
  given_meets (AskPopulate at missing) r e = grind (arith, is_section, nat_tests)
  given_meets (AskFill base page) r e = grind (arith, is_section, nat_tests)
  given_meets (AskUnmap p) r e = is_section _ e
  given_meets (AskDepopulate base pages) r e = is_section _ e
  given_meets (AskFlush p) r e = is_section _ e
  given_meets (AskZero at) r e = is_section _ e
  given_meets (AskAdd at serial cpu index amount) r e = is_section _ e
  given_meets (AskSum at serial index) r e = (_, is_section _ e)
  given_meets (AskPlace bytes align) r e = grind (arith, placement_bytes, is_section, nat_tests)
  given_meets (AskAddChunk chunk base bytes align) r e = grind (arith, placement_bytes, is_section, nat_tests)
  given_meets (AskAtomic bytes align) r e = grind (arith, placement_bytes, is_section, nat_tests)
  given_meets (AskSettleObject at) r e = (m.next_object, is_section _ e)
  given_meets (AskUnplace at) r e = is_section _ e
  given_meets (AskFree at serial) r e = grind (arith, is_section, nat_tests)
  given_meets AskSpare r e = grind (arith, is_section, nat_tests)
  given_meets AskNextPage r e = grind (arith, is_section, nat_tests)
  given_meets (AskFilled chunk page) r e = is_section _ e
  given_meets (AskPart cpu pages) r e = meets_cutting cpu pages (part_to_cut c cpu pages m.blocks) (cut_of c cpu pages m.blocks) e
  given_meets (AskAddBlock at) r e = is_section _ e
  given_meets (AskSettlePart at) r e = (_, is_section _ e)
  given_meets (AskBegin cpu page serial) r e = meets_beginning cpu page serial (named_parts cpu page serial m.blocks) (begun_of cpu page serial m.blocks) e
  given_meets (AskRetire at) r e = (_, is_section _ e)
  given_meets (AskFragment cpu) r e = (_, is_section _ e)
  given_meets (AskDirty cpu) r e = (_, is_section _ e)
