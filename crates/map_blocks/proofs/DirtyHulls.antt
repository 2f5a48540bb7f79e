-- The hull of the dirty ranges, in any order.
use Rattle.std.proofs.Common.{◌≡◌, ℕ, Bool, true, false, nat_lt, if◌then◌else◌, List, [], ◌∷◌, ◌++◌, map, filter_map, Option, Some, None, refl, sym, ap, subst, ◌∙◌}
use Rattle.std.specs.Option.{ForSome}
use Rattle.std.specs.Map.{values_of}
use Rattle.vm_model.specs.declared.areas.Span.{Span}
use Rattle.vm_model.specs.Space.{wider, hull, put_by}
use Rattle.vm_model.specs.Blocks as model
use Rattle.vm_model.specs.Blocks.{dirty_range}
use Rattle.vm_model.specs.Space.{HasEnd}
use Rattle.map_blocks.specs.KeptBlocks.{KeptRow}
use Rattle.map_blocks.specs.KeptBlockSides.{AreApartFrom, by_number, blocks_in}
use Rattle.map_blocks.proofs.EndedHull.{wider_swap}
use Rattle.map_blocks.proofs.BlocksInOrder.{number_of, block_of}
use Rattle.map_blocks.proofs.NamedParts.{own_blocks}

-- with a range, where there is one
abbrev pub with_range : Option Span → Option Span → Option Span
with_range None others = others
with_range (Some s) others = Some (wider s others)

-- the hull of the ranges of blocks, and of them with what came before
abbrev pub hull_of : List KeptRow → Option Span
hull_of [] = None
hull_of (r ∷ rows) = with_range (dirty_range r.block) (hull_of rows)

abbrev pub hull_onto : Option Span → List KeptRow → Option Span
hull_onto before [] = before
hull_onto before (r ∷ rows) = hull_onto (with_range (dirty_range r.block) before) rows

swap_ranges : (a b others : Option Span) → with_range a (with_range b others) ≡ with_range b (with_range a others)
swap_ranges None b others = refl
swap_ranges (Some s) None others = refl
swap_ranges (Some s) (Some t) others = ap (λ w. Some w) (wider_swap s t others)

onto_range : (a before : Option Span) (rows : List KeptRow) → hull_onto (with_range a before) rows ≡ with_range a (hull_onto before rows)
onto_range a before [] = refl
onto_range a before (r ∷ rows) = ap (λ o. hull_onto o rows) (swap_ranges (dirty_range r.block) a before) ∙ onto_range a (with_range (dirty_range r.block) before) rows

pub onto_nothing : (rows : List KeptRow) → hull_onto None rows ≡ hull_of rows
onto_nothing [] = refl
onto_nothing (r ∷ rows) = onto_range (dirty_range r.block) None rows ∙ ap (with_range (dirty_range r.block)) (onto_nothing rows)

-- in any order
put_by_test : (x y : KeptRow) (ys : List KeptRow) (b : Bool) → hull_of (put_by number_of x ys) ≡ with_range (dirty_range x.block) (hull_of ys)
    → hull_of (if b then x ∷ y ∷ ys else y ∷ put_by number_of x ys) ≡ with_range (dirty_range x.block) (with_range (dirty_range y.block) (hull_of ys))
put_by_test x y ys true e = refl
put_by_test x y ys false e = ap (with_range (dirty_range y.block)) e ∙ swap_ranges (dirty_range y.block) (dirty_range x.block) (hull_of ys)

put_hull : (x : KeptRow) (ys : List KeptRow) → hull_of (put_by number_of x ys) ≡ with_range (dirty_range x.block) (hull_of ys)
put_hull x [] = refl
put_hull x (y ∷ ys) = put_by_test x y ys (nat_lt x.number y.number) (put_hull x ys)

sort_hull : (xs : List KeptRow) → hull_of (by_number xs) ≡ hull_of xs
sort_hull [] = refl
sort_hull (x ∷ xs) = put_hull x (by_number xs) ∙ ap (with_range (dirty_range x.block)) (sort_hull xs)

-- the model's
pub pick : {X Y : Type 0} (f : X → Option Y) (x : X) (xs : List X) (o : Option Y) → f x ≡ o → filter_map f (x ∷ xs) ≡ filter_map (λ (p : Option Y). p) (o ∷ []) ++ filter_map f xs
pick f x xs None e = rw e refl
pick f x xs (Some y) e = rw e refl

pub listed_hull : (o : Option Span) (spans : List Span) → hull (filter_map (λ (p : Option Span). p) (o ∷ []) ++ spans) ≡ with_range o (hull spans)
listed_hull None spans = refl
listed_hull (Some s) spans = refl

model_hull : (rows : List KeptRow) → hull (filter_map dirty_range (map block_of rows)) ≡ hull_of rows
model_hull [] = refl
model_hull (r ∷ rows) = ap hull (pick dirty_range r.block (map block_of rows) (dirty_range r.block) refl) ∙ listed_hull (dirty_range r.block) (filter_map dirty_range (map block_of rows)) ∙ ap (with_range (dirty_range r.block)) (model_hull rows)

pub dirty_hull_is : (cpu pages added : ℕ) (es : List (ℕ × KeptRow)) → AreApartFrom cpu pages added 0 es → hull_onto None (values_of es) ≡ model.dirty_hull cpu (blocks_in (values_of es))
dirty_hull_is cpu pages added es apart =
    onto_nothing (values_of es) ∙ sym (ap (λ bs. hull (filter_map dirty_range bs)) (own_blocks cpu pages added 0 es apart) ∙ model_hull (by_number (values_of es)) ∙ sort_hull (values_of es))

-- what the loop keeps
pub record IsHulled (hull_now : Option Span) (rows : List KeptRow) (all : Option Span) : Type 0 where
  pub same : hull_onto hull_now rows ≡ all
  pub end : ForSome hull_now HasEnd

pub hulled_some : (before all o : Option Span) (r : KeptRow) (rest rows : List KeptRow) (s w : Span) → IsHulled before rows all → rows ≡ r ∷ rest → o ≡ dirty_range r.block → o ≡ Some s → w ≡ wider s before → HasEnd w → IsHulled (Some w) rest all
hulled_some before all o r rest rows s w is steps range some wide end = record {
  same = ap (λ v. hull_onto (Some v) rest) wide ∙ ap (λ p. hull_onto (with_range p before) rest) (sym some ∙ range) ∙ ap (hull_onto before) (sym steps) ∙ is.same;
  end = λ x e. (let one : w ≡ x = cc in subst HasEnd one end);
}

pub hulled_none : (before all o : Option Span) (r : KeptRow) (rest rows : List KeptRow) → IsHulled before rows all → rows ≡ r ∷ rest → o ≡ dirty_range r.block → o ≡ None → IsHulled before rest all
hulled_none before all o r rest rows is steps range none = record {
  same = ap (λ p. hull_onto (with_range p before) rest) (sym none ∙ range) ∙ ap (hull_onto before) (sym steps) ∙ is.same;
  end = is.end;
}
