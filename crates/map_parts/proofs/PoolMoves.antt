-- Pages pass from owner to owner: none gets a second one.
use Rattle.std.proofs.Common.{◌≡◌, ℕ, ◌+◌, ◌≤◌, ◌⊎◌, inl, inr, Bool, true, false, ◌&&◌, ◌||◌, List, [], ◌∷◌, ◌++◌, slice_get, sum_by, Some, arith}
use Rattle.std.proofs.lemmas.List.Sums.{sum_by-cons, sum_by-append}
use Rattle.vm_model.specs.declared.areas.Span.{Span}
use Rattle.vm_model.specs.declared.areas.Area.{Area}
use Rattle.vm_model.specs.Space.{span, holds, covers, times, one_if, paint}
use Rattle.vm_model.specs.Setup.{Setup, groups_at}
use Rattle.vm_model.specs.PlainMap.{Mark, Free, Live, Block, Chunk, is_free}
use Rattle.vm_model.specs.Areas.{mark_live}
use Rattle.vm_model.specs.Places.{Place}
use Rattle.vm_model.specs.Next.{Next, Go, Answer}
use Rattle.vm_model.specs.Laws.{as_free}
use Rattle.vm_model.proofs.Paint.{slice_get-paint}
use Rattle.map_parts.specs.Owners.{is_plain, Pool, every, other_than, times_from, of_block, of_chunk, of_pool, of_place, out, HaveOneOwner}
use Rattle.map_parts.proofs.Sums.{sum-le}
use Rattle.map_parts.proofs.Tests.{and_less}

-- what a caller has when it goes on, or answers
abbrev pub of_next : Setup → Next → (ℕ → Bool) → ℕ → ℕ
of_next c (Go place) counts page = of_place c place counts page
of_next c (Answer reply made) counts page = 0

-- no page gets a further owner
abbrev pub IsBalanced : Setup → (p p' : Pool) (own own' : (ℕ → Bool) → ℕ → ℕ) → (ℕ → Bool) → ℕ → Type 0
IsBalanced c p p' own own' counts page = of_pool c p' counts page + own' counts page ≤ of_pool c p counts page + own counts page

-- an area that was there, and one that is new where its pages had an owner
abbrev pub WasThere : Setup → (p p' : Pool) (own own' : (ℕ → Bool) → ℕ → ℕ) → Area → ℕ → Type 0
WasThere c p p' own own' a page = (j : ℕ) × (slice_get p.areas j ≡ Some a) × IsBalanced c p p' own own' (other_than a.span.start) page

abbrev pub IsNewThere : Setup → (p p' : Pool) (own own' : (ℕ → Bool) → ℕ → ℕ) → Area → ℕ → Type 0
IsNewThere c p p' own own' a page = of_pool c p' (other_than a.span.start) page + own' (other_than a.span.start) page + 1 ≤ of_pool c p every page + own every page

pub record MovesApart (c : Setup) (p p' : Pool) (own own' : (ℕ → Bool) → ℕ → ℕ) : Type 0 where
  pub once : (page : ℕ) → IsBalanced c p p' own own' every page
  pub areas : (i : ℕ) (a : Area) → slice_get p'.areas i ≡ Some a → is_plain a.kind ≡ false → (page : ℕ) → holds a.span page ≡ true
      → WasThere c p p' own own' a page ⊎ IsNewThere c p p' own own' a page

module _ (c : Setup) (p p' : Pool) (own own' : (ℕ → Bool) → ℕ → ℕ) where
  pub moves_balanced : ((i : ℕ) (a : Area) → slice_get p'.areas i ≡ Some a → (j : ℕ) × (slice_get p.areas j ≡ Some a))
      → ((counts : ℕ → Bool) (page : ℕ) → IsBalanced c p p' own own' counts page) → MovesApart c p p' own own'
  moves_balanced were balanced = grind arith

  -- beside what other callers have
  pub one_owner_moves : (rest : (ℕ → Bool) → ℕ → ℕ) → ((start page : ℕ) → rest (other_than start) page ≤ rest every page) → MovesApart c p p' own own'
      → HaveOneOwner c p (λ counts page. own counts page + rest counts page) → HaveOneOwner c p' (λ counts page. own' counts page + rest counts page)
  one_owner_moves rest fewer moves have = record {
    once = λ page. let was = have.once page in let now = moves.once page in omega arith;
    areas = λ i a at plain page on. elim (moves.areas i a at plain page on) [
      | inl w ↦ let was = have.areas w.0 a w.1 plain page on in let now = w.2 in omega arith
      | inr w ↦ let was = have.once page in let less = fewer a.span.start page in omega arith
    ];
  }

-- where the map's pages stay with their owners
pub moves_stay : (c : Setup) (p : Pool) (own own' : (ℕ → Bool) → ℕ → ℕ) → ((counts : ℕ → Bool) (page : ℕ) → own' counts page ≤ own counts page) → MovesApart c p p own own'
moves_stay c p own own' less = moves_balanced c p p own own' (λ i a at. (i, at)) (λ counts page. let l = less counts page in omega arith)

-- fewer starts count fewer
pub times_from-le : (counts : ℕ → Bool) (page : ℕ) (spans : List Span) → times_from counts page spans ≤ times page spans
times_from-le counts page spans = sum-le (λ (s : Span). one_if (counts s.start && holds s page)) (λ (s : Span). one_if (holds s page)) spans (λ s. and_less (counts s.start) (holds s page))

pub of_place-le : (c : Setup) (place : Place) (counts : ℕ → Bool) (page : ℕ) → of_place c place counts page ≤ of_place c place every page
of_place-le c place counts page = omega (arith, times_from-le counts page (out c place))

pub of_block-le : (c : Setup) (counts : ℕ → Bool) (page : ℕ) (blocks : List Block) → sum_by (of_block c counts page) blocks ≤ sum_by (of_block c every page) blocks
of_block-le c counts page blocks = sum-le (of_block c counts page) (of_block c every page) blocks (λ b. and_less (counts b.start) (holds (span b.start c.block_pages) page))

pub of_chunk-le : (c : Setup) (counts : ℕ → Bool) (page : ℕ) (chunks : List Chunk) → sum_by (of_chunk c counts page) chunks ≤ sum_by (of_chunk c every page) chunks
of_chunk-le c counts page chunks = sum-le (of_chunk c counts page) (of_chunk c every page) chunks (λ h. times_from-le counts page (groups_at c h.base))

-- Marks.

-- a mark that isn't free makes no page free
pub free-painted : (test : ℕ → Bool) (mark : Mark) (marks : List Mark) (page : ℕ) → is_free mark ≡ false → as_free (slice_get (paint test mark marks) page) ≤ as_free (slice_get marks page)
free-painted test mark marks page f = grind (arith, slice_get-paint)

pub free-painted_here : (test : ℕ → Bool) (mark : Mark) (marks : List Mark) (page : ℕ) → is_free mark ≡ false → test page ≡ true → as_free (slice_get (paint test mark marks) page) ≡ 0
free-painted_here test mark marks page f e = grind (arith, slice_get-paint)

-- pages that are freed
pub free-freed : (test : ℕ → Bool) (marks : List Mark) (page : ℕ) → as_free (slice_get (paint test Free marks) page) ≤ one_if (test page) + as_free (slice_get marks page)
free-freed test marks page = grind (arith, slice_get-paint)

pub free-mark_live : (areas : List Area) (marks : List Mark) (page : ℕ) → as_free (slice_get (mark_live areas marks) page) ≤ as_free (slice_get marks page)
free-mark_live [] marks page = omega arith
free-mark_live (a ∷ areas) marks page = grind (arith, free-mark_live areas (paint (holds a.span) (Live a.serial) marks) page, free-painted)

-- Spans.

or_times : (a b : Bool) (n : ℕ) → one_if b ≤ n → one_if (a || b) ≤ one_if a + n
or_times true b n h = omega arith
or_times false b n h = omega arith

pub covers-le-times : (spans : List Span) (page : ℕ) → one_if (covers spans page) ≤ times page spans
covers-le-times [] page = omega arith
covers-le-times (s ∷ spans) page =
    omega (arith, or_times (holds s page) (covers spans page) (times page spans) (covers-le-times spans page), sum_by-cons (λ (s : Span). one_if (holds s page)) s spans)

pub times-append : (page : ℕ) (ss ts : List Span) → times page (ss ++ ts) ≡ times page ss + times page ts
times-append page ss ts = sum_by-append (λ (s : Span). one_if (holds s page)) ss ts
