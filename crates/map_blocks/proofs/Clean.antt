-- Blocks of which no page is in an ended part.
use Rattle.std.proofs.Common.{◌≡◌, ℕ, zero, suc, ◌+◌, List, [], ◌∷◌, map, filter_map, All, ◌↔◌, Option, Some, None, IsNone, option_map, refl, sym, ap, subst, ◌∙◌, arith}
use Rattle.std.specs.Map.{values_of}
use Rattle.vm_model.specs.declared.areas.Span.{Span}
use Rattle.vm_model.specs.Space.{span, hull}
use Rattle.vm_model.specs.PlainMap.{Block, Part}
use Rattle.vm_model.specs.Blocks.{rounded, size_of, parts_size, ended_parts, range_of, dirty_range}
use Rattle.vm_model.specs.Blocks as model
use Rattle.map_blocks.specs.BlockRows.{IsClean}
use Rattle.map_blocks.specs.KeptBlocks.{KeptRow}
use Rattle.map_blocks.specs.KeptBlockSides.{AreApartFrom, blocks_in}
use Rattle.map_blocks.proofs.NamedParts.{own_blocks}
use Rattle.vm_model.proofs.RoundedPages.{rounded_some}
use Rattle.map_blocks.proofs.PartsInRow.{size_cons}
use Rattle.map_blocks.proofs.SortedByNumber.{Holds}
use Rattle.map_blocks.proofs.DirtyHulls.{with_range, listed_hull, pick}

-- what holds of each element
pub to_all : {X : Type 0} (P : X → Type 0) (xs : List X) → Holds P xs → All P xs
to_all P [] each k d l = absurd (omega arith)
to_all P (x ∷ xs) each zero d l = each.0
to_all P (x ∷ xs) each (suc k) d l = to_all P xs each.1 k d (omega arith)

pub of_all : {X : Type 0} (P : X → Type 0) (xs : List X) → All P xs → Holds P xs
of_all P [] all = tt
of_all P (x ∷ xs) all = (all 0 x (omega arith), of_all P xs (λ k d l. all (suc k) d (omega arith)))

-- parts without pages are none
no_parts : (parts : List Part) → parts_size parts ≡ 0 → parts ≡ []
no_parts [] none = refl
no_parts (p ∷ parts) none = absurd (omega (arith, none, size_cons p parts, rounded_some p.pages))

some_first : {X : Type 0} {x : X} → Some x ≡ None → ⊥
some_first e = cc

range_none : (b : Block) (parts : List Part) → ended_parts b ≡ parts → dirty_range b ≡ None → IsClean b
range_none b [] is none = ap parts_size is
range_none b (p ∷ parts) is none = absurd (some_first (ap (λ ps. option_map (λ (s : Span). span (b.start + s.start) s.pages) (hull (map (λ (q : Part). span q.offset (size_of q)) ps))) (sym is) ∙ none))

none_range : (b : Block) → IsClean b → dirty_range b ≡ None
none_range b clean = let is : range_of b ≡ None = ap (λ ps. hull (map (λ (q : Part). span q.offset (size_of q)) ps)) (no_parts (ended_parts b) clean) in rw is refl

one_more : (b : Block) (blocks : List Block) → hull (filter_map dirty_range (b ∷ blocks)) ≡ with_range (dirty_range b) (hull (filter_map dirty_range blocks))
one_more b blocks = ap hull (pick dirty_range b blocks (dirty_range b) refl) ∙ listed_hull (dirty_range b) (filter_map dirty_range blocks)

none_first : (a o : Option Span) → with_range a o ≡ None → a ≡ None
none_first None o e = refl
none_first (Some s) o e = cc

none_rest : (a o : Option Span) → with_range a o ≡ None → o ≡ None
none_rest None o e = e
none_rest (Some s) o e = cc

-- a hull is none exactly where all are clean
pub clean_of : (blocks : List Block) → hull (filter_map dirty_range blocks) ≡ None → Holds IsClean blocks
clean_of [] none = tt
clean_of (b ∷ blocks) none =
    let both = sym (one_more b blocks) ∙ none in
    (range_none b (ended_parts b) refl (none_first (dirty_range b) (hull (filter_map dirty_range blocks)) both), clean_of blocks (none_rest (dirty_range b) (hull (filter_map dirty_range blocks)) both))

pub none_of : (blocks : List Block) → Holds IsClean blocks → hull (filter_map dirty_range blocks) ≡ None
none_of [] clean = refl
none_of (b ∷ blocks) clean = one_more b blocks ∙ ap (λ o. with_range o (hull (filter_map dirty_range blocks))) (none_range b clean.0) ∙ none_of blocks clean.1

pub none_is_clean : (cpu pages added : ℕ) (es : List (ℕ × KeptRow)) (o : Option Span) → AreApartFrom cpu pages added 0 es → o ≡ model.dirty_hull cpu (blocks_in (values_of es)) → IsNone o ↔ All IsClean (blocks_in (values_of es))
none_is_clean cpu pages added es o apart is =
    (λ none. to_all IsClean (blocks_in (values_of es)) (clean_of (blocks_in (values_of es)) (sym own ∙ none_value o none)), λ all. subst (λ (p : Option Span). IsNone p) (sym (own ∙ none_of (blocks_in (values_of es)) (of_all IsClean (blocks_in (values_of es)) all))) refl)
  where
    own : o ≡ hull (filter_map dirty_range (blocks_in (values_of es)))
    own = is ∙ ap (λ bs. hull (filter_map dirty_range bs)) (own_blocks cpu pages added 0 es apart)

    none_value : (p : Option Span) → IsNone p → p ≡ None
    none_value None h = refl
    none_value (Some s) h = cc
