-- What is left of separate blocks when a place in one of them goes.
use Rattle.std.proofs.Common.{◌≡◌, ℕ, suc, ◌-◌, ◌<◌, ◌≤◌, Bool, true, false, not, ◌&&◌, ◌||◌, ◌==◌, if◌then◌else◌, List, [], ◌∷◌, ◌++◌, refl, ap, sym, ◌∙◌, subst, arith, append_assoc}
use Rattle.std.proofs.lemmas.Bool.{and_parts}
use Rattle.std.proofs.lemmas.Bool.Decides.{nat_tests}
use Rattle.vm_model.specs.declared.areas.Span.{Span}
use Rattle.vm_model.specs.Space.{span, end_of, holds, covers, AreSeparateFrom}
use Rattle.vm_model.proofs.Runs.{AreSeparateFrom-weaken, covers-below}
use Rattle.augmented_tree.specs.BlockLists.{AreBlocks, IsInside, unless_empty, LeavesOut}
use Rattle.augmented_tree.proofs.SeparateBlocks.{covers-append, separate-tail, covers-before, separate-replace, ends_from_cover, cover_from_ends}

-- the pages of a block before a place in it, and those after it
abbrev pub part_before : (block place : Span) → Span
part_before b place = span b.start (place.start - b.start)

abbrev pub part_after : (block place : Span) → Span
part_after b place = span (end_of place) (end_of b - end_of place)

abbrev pub parts_around : (block place : Span) → List Span
parts_around b place = unless_empty (part_before b place) ++ unless_empty (part_after b place)

-- a span or nothing: its pages, and its room
covers-unless : (s : Span) (page : ℕ) (b : Bool) → (s.pages == 0) ≡ b → covers (if b then [] else s ∷ []) page ≡ holds s page
covers-unless s page true e = grind (arith, nat_tests)
covers-unless s page false e = grind arith

covers-unless_empty : (s : Span) (page : ℕ) → covers (unless_empty s) page ≡ holds s page
covers-unless_empty s page = covers-unless s page _ refl

no_pages : (s : Span) → (s.pages == 0) ≡ true → end_of s ≡ s.start
no_pages s e = grind (arith, nat_tests)

some_pages : (s : Span) → (s.pages == 0) ≡ false → 0 < s.pages
some_pages s e = grind (arith, nat_tests)

separate-unless : (low : ℕ) (s : Span) (tail : List Span) (b : Bool) → (s.pages == 0) ≡ b → low ≤ s.start → AreSeparateFrom (suc (end_of s)) tail
    → AreSeparateFrom low ((if b then [] else s ∷ []) ++ tail)
separate-unless low s tail true e h n = let same : end_of s ≡ s.start = no_pages s e in AreSeparateFrom-weaken low (suc (end_of s)) tail (omega arith) n
separate-unless low s tail false e h n = (h, some_pages s e, n)

separate-unless_empty : (low : ℕ) (s : Span) (tail : List Span) → low ≤ s.start → AreSeparateFrom (suc (end_of s)) tail → AreSeparateFrom low (unless_empty s ++ tail)
separate-unless_empty low s tail h n = separate-unless low s tail _ refl h n

separate-parts : (b place : Span) (ys : List Span) → IsInside place b → 1 ≤ place.pages → AreSeparateFrom (suc (end_of b)) ys → AreSeparateFrom b.start (parts_around b place ++ ys)
separate-parts b place ys inside some n =
    let end : suc (end_of b) ≡ suc (end_of (part_after b place)) = omega arith in
    let after : AreSeparateFrom (suc (end_of (part_before b place))) (unless_empty (part_after b place) ++ ys) =
    separate-unless_empty _ (part_after b place) ys (omega arith) (subst (λ low. AreSeparateFrom low ys) end n) in
    subst (AreSeparateFrom b.start) (sym (append_assoc (unless_empty (part_before b place)) (unless_empty (part_after b place)) ys))
    (separate-unless_empty b.start (part_before b place) _ (omega arith) after)

holds-parts : (b place : Span) (page : ℕ) → IsInside place b → (holds (part_before b place) page || holds (part_after b place) page) ≡ (holds b page && not (holds place page))
holds-parts b place page inside = grind (arith, nat_tests)

covers-parts : (b place : Span) (page : ℕ) → IsInside place b → covers (parts_around b place) page ≡ (holds b page && not (holds place page))
covers-parts b place page inside =
    covers-append (unless_empty (part_before b place)) (unless_empty (part_after b place)) page
    ∙ ap (λ x. x || covers (unless_empty (part_after b place)) page) (covers-unless_empty (part_before b place) page)
    ∙ ap (λ x. holds (part_before b place) page || x) (covers-unless_empty (part_after b place) page)
    ∙ holds-parts b place page inside

without : (before here place after : Bool) → (place ≡ true → before ≡ false) → (place ≡ true → after ≡ false)
    → (before || ((here && not place) || after)) ≡ ((before || (here || after)) && not place)
without before here place after f g = grind arith

holds-inside : (b place : Span) (page : ℕ) → IsInside place b → holds place page ≡ true → (b.start ≤ page) × (page < end_of b)
holds-inside b place page inside h = grind (arith, nat_tests)

covers-cut : (xs : List Span) (b : Span) (ys : List Span) (place : Span) (page : ℕ) → AreSeparateFrom 0 (xs ++ b ∷ ys) → IsInside place b
    → covers (xs ++ (parts_around b place ++ ys)) page ≡ (covers (xs ++ b ∷ ys) page && not (holds place page))
covers-cut xs b ys place page n inside =
    covers-append xs (parts_around b place ++ ys) page
    ∙ ap (λ x. covers xs page || x) (covers-append (parts_around b place) ys page ∙ ap (λ x. x || covers ys page) (covers-parts b place page inside))
    ∙ without (covers xs page) (holds b page) (holds place page) (covers ys page)
    (λ h. covers-before 0 xs b ys page n (holds-inside b place page inside h).0)
    (λ h. covers-below (suc (end_of b)) ys page (separate-tail 0 xs b ys n).2 (let below : page < end_of b = (holds-inside b place page inside h).1 in omega arith))
    ∙ ap (λ x. x && not (holds place page)) (sym (covers-append xs (b ∷ ys) page))

pub cut_leaves_out : (blocks xs : List Span) (b : Span) (ys : List Span) (place : Span) → blocks ≡ xs ++ b ∷ ys → AreSeparateFrom 0 blocks → IsInside place b → 1 ≤ place.pages
    → LeavesOut blocks (xs ++ (parts_around b place ++ ys)) place
cut_leaves_out blocks xs b ys place is n inside some =
    let at : AreSeparateFrom 0 (xs ++ b ∷ ys) = subst (AreSeparateFrom 0) is n in
    record {
      separate = separate-replace 0 xs b (parts_around b place) ys at (separate-parts b place ys inside some (separate-tail 0 xs b ys at).2);
      cover = λ page. covers-cut xs b ys place page at inside ∙ ap (λ spans. covers spans page && not (holds place page)) (sym is);
    }

pub AreBlocks-left : (old new : List Span) (place : Span) → AreBlocks old → LeavesOut old new place → AreBlocks new
AreBlocks-left old new place blocks out = record {
  separate = out.separate;
  ends = ends_from_cover 0 1048576 new out.separate (λ page c. cover_from_ends 1048576 old page blocks.ends (and_parts _ _ (sym (out.cover page) ∙ c)).0);
}

-- a span with no page takes nothing
pub LeavesOut-nothing : (blocks : List Span) (place : Span) → AreSeparateFrom 0 blocks → place.pages ≡ 0 → LeavesOut blocks blocks place
LeavesOut-nothing blocks place n none = record {
  separate = n;
  cover = λ page. let nowhere : holds place page ≡ false = grind (arith, nat_tests) in sym (kept (covers blocks page) (holds place page) nowhere);
}
  where
    kept : (b test : Bool) → test ≡ false → (b && not test) ≡ b
    kept b test e = grind arith
