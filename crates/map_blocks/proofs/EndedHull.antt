-- The hull of the parts that have ended.
use Rattle.std.proofs.Common.{◌≡◌, ℕ, zero, suc, ◌+◌, ◌-◌, ◌≤◌, Bool, true, false, cond, List, [], ◌∷◌, map, slice_get, set, min, max, Option, Some, None, refl, sym, ap, subst, ◌∙◌, arith}
use Rattle.std.specs.Option.{ForSome}
use Rattle.vm_model.specs.declared.areas.Span.{Span}
use Rattle.vm_model.specs.Space.{span, end_of, wider, hull}
use Rattle.vm_model.specs.PlainMap.{Block, Part, Ended, is_ended}
use Rattle.vm_model.specs.Blocks.{size_of, parts_size}
use Rattle.map_blocks.specs.KeptBlocks.{ArePacked, IsKept}
use Rattle.map_blocks.proofs.PartsInRow.{ended_in, ended_spans, size_cons}

-- all of a span lies before an end
abbrev pub IsBefore : ℕ → Span → Type 0
IsBefore most s = end_of s ≤ most

wider_before : (most : ℕ) (s : Span) (o : Option Span) → end_of s ≤ most → ForSome o (IsBefore most) → end_of (wider s o) ≤ most
wider_before most s None h g = h
wider_before most s (Some t) h g = let more : end_of t ≤ most = g t refl in omega arith

-- the hull lies before the end of all parts
hull_by : (off most : ℕ) (p : Part) (ps : List Part) (b : Bool) → p.offset + size_of p ≤ most → ForSome (hull (ended_spans ps)) (IsBefore most) → ForSome (hull (map (λ (p : Part). span p.offset (size_of p)) (cond b (p ∷ ended_in ps) (ended_in ps)))) (IsBefore most)
hull_by off most p ps true h more = λ s e. (let same : wider (span p.offset (size_of p)) (hull (ended_spans ps)) ≡ s = cc in subst (IsBefore most) same (wider_before most (span p.offset (size_of p)) (hull (ended_spans ps)) h more))
hull_by off most p ps false h more = more

pub hull_before : (off most : ℕ) (ps : List Part) → ArePacked off ps → off + parts_size ps ≤ most → ForSome (hull (ended_spans ps)) (IsBefore most)
hull_before off most [] packed h = λ s e. cc
hull_before off most (p ∷ ps) packed h =
    hull_by off most p ps (is_ended p.life) (omega (arith, packed.0, size_cons p ps)) (hull_before (off + size_of p) most ps packed.3 (omega (arith, size_cons p ps)))

same_spans : (a b c d : ℕ) → a ≡ b → c ≡ d → span a c ≡ span b d
same_spans a b c d e f = ap (λ n. span n c) e ∙ ap (λ n. span b n) f

wider_end : (s t : Span) → end_of (wider s (Some t)) ≡ max (end_of s) (end_of t)
wider_end s t = omega arith

widest : (s t r : Span) → wider s (Some (wider t (Some r))) ≡ span (min s.start (min t.start r.start)) (max (end_of s) (max (end_of t) (end_of r)) - min s.start (min t.start r.start))
widest s t r = ap (λ n. span (min s.start (min t.start r.start)) (max (end_of s) n - min s.start (min t.start r.start))) (wider_end t r)

min_swap : (a b c : ℕ) → min a (min b c) ≡ min b (min a c)
min_swap a b c = omega arith

max_swap : (a b c : ℕ) → max a (max b c) ≡ max b (max a c)
max_swap a b c = omega arith

-- two spans widen a hull in either order
pub wider_swap : (s t : Span) (o : Option Span) → wider s (Some (wider t o)) ≡ wider t (Some (wider s o))
wider_swap s t None = same_spans _ _ _ _ (omega arith) (omega arith)
wider_swap s t (Some r) =
    let low = min_swap s.start t.start r.start in
    let high = max_swap (end_of s) (end_of t) (end_of r) in
    widest s t r ∙ same_spans _ _ _ _ low (ap (λ n. n - min s.start (min t.start r.start)) high ∙ ap (λ n. max (end_of t) (max (end_of s) (end_of r)) - n) low) ∙ sym (widest t s r)

-- the part at a place ends
end_by : (q : Part) (ps qs : List Part) (s : Span) (b : Bool) → hull (ended_spans qs) ≡ Some (wider s (hull (ended_spans ps)))
    → hull (map (λ (p : Part). span p.offset (size_of p)) (cond b (q ∷ ended_in qs) (ended_in qs))) ≡ Some (wider s (hull (map (λ (p : Part). span p.offset (size_of p)) (cond b (q ∷ ended_in ps) (ended_in ps)))))
end_by q ps qs s true e = ap (λ o. Some (wider (span q.offset (size_of q)) o)) e ∙ ap (λ (x : Span). Some x) (wider_swap (span q.offset (size_of q)) s (hull (ended_spans ps)))
end_by q ps qs s false e = e

pub hull_ended : (ps : List Part) (i : ℕ) (p : Part) → slice_get ps i ≡ Some p → is_ended p.life ≡ false → hull (ended_spans (set ps i (record p { life = Ended }))) ≡ Some (wider (span p.offset (size_of p)) (hull (ended_spans ps)))
hull_ended [] i p h e = cc
hull_ended (q ∷ ps) zero p h e =
    let same : q ≡ p = cc in
    let was : is_ended q.life ≡ false = ap (λ (x : Part). is_ended x.life) same ∙ e in
    ap (λ b. Some (wider (span p.offset (size_of p)) (hull (map (λ (p : Part). span p.offset (size_of p)) (cond b (q ∷ ended_in ps) (ended_in ps)))))) (sym was)
hull_ended (q ∷ ps) (suc i) p h e = end_by q ps (set ps i (record p { life = Ended })) (span p.offset (size_of p)) (is_ended q.life) (hull_ended ps i p h e)

dirty_by : (q : Part) (ps qs : List Part) (n : ℕ) (b : Bool) → parts_size (ended_in qs) ≡ parts_size (ended_in ps) + n → parts_size (cond b (q ∷ ended_in qs) (ended_in qs)) ≡ parts_size (cond b (q ∷ ended_in ps) (ended_in ps)) + n
dirty_by q ps qs n true e = omega (arith, size_cons q (ended_in ps), size_cons q (ended_in qs))
dirty_by q ps qs n false e = e

pub dirty_ended : (ps : List Part) (i : ℕ) (p : Part) → slice_get ps i ≡ Some p → is_ended p.life ≡ false → parts_size (ended_in (set ps i (record p { life = Ended }))) ≡ parts_size (ended_in ps) + size_of p
dirty_ended [] i p h e = cc
dirty_ended (q ∷ ps) zero p h e =
    let same : q ≡ p = cc in
    let was : is_ended q.life ≡ false = ap (λ (x : Part). is_ended x.life) same ∙ e in
    let before : parts_size (cond (is_ended q.life) (q ∷ ended_in ps) (ended_in ps)) ≡ parts_size (ended_in ps) = ap (λ b. parts_size (cond b (q ∷ ended_in ps) (ended_in ps))) was in
    omega (arith, size_cons (record p { life = Ended }) (ended_in ps))
dirty_ended (q ∷ ps) (suc i) p h e = dirty_by q ps (set ps i (record p { life = Ended })) (size_of p) (is_ended q.life) (dirty_ended ps i p h e)

-- what has ended is among the parts
within_by : (q : Part) (ps : List Part) (b : Bool) → parts_size (ended_in ps) ≤ parts_size ps → parts_size (cond b (q ∷ ended_in ps) (ended_in ps)) ≤ size_of q + parts_size ps
within_by q ps true h = omega (arith, size_cons q (ended_in ps))
within_by q ps false h = omega arith

pub ended_within : (ps : List Part) → parts_size (ended_in ps) ≤ parts_size ps
ended_within [] = omega arith
ended_within (q ∷ ps) = omega (arith, within_by q ps (is_ended q.life) (ended_within ps), size_cons q ps)

pub range_before : (b : Block) (pages free dirty : ℕ) (range : Option Span) (room : ℕ) → IsKept b pages free dirty range room → ForSome range (IsBefore pages)
range_before b pages free dirty range room kept = subst (λ o. ForSome o (IsBefore pages)) (sym kept.hull) (hull_before 0 pages b.parts kept.packed (omega (arith, kept.given)))

pub dirty_within : (b : Block) (pages free dirty : ℕ) (range : Option Span) (room : ℕ) → IsKept b pages free dirty range room → free + dirty ≤ pages
dirty_within b pages free dirty range room kept = omega (arith, kept.given, kept.ended, ended_within b.parts)
