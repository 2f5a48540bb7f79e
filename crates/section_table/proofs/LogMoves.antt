-- Callers that all move: one more, and how many regions, locals and callers there are.
use Rattle.std.proofs.Common.{◌≡◌, ℕ, ◌<◌, true, List, [], ◌∷◌, ◌++◌, length, set, Some, slice_get, refl, ap, ◌∙◌, subst, length-set}
use Rattle.vm_model.specs.Run.{section_by, state_after}
use Rattle.map_parts.proofs.SectionRunProofs.{run_of_sections}
use Rattle.section_laws.specs.MovesInTurn.{Moves, AllMove}
use Rattle.section_table.specs.Meanings.{Meanings}
use Rattle.section_table.specs.CallerPlaces.{AreBelow}
use Rattle.section_table.proofs.ElementsByPlace.{within}

module _ {R L : Type 0} (m : Meanings R L) where
  abbrev one : List R × List L → ℕ → List R × List L
  one s c = section_by m.wanted m.moves m.after s c (slice_get s.1 c)

  abbrev run : List R × List L → List ℕ → List R × List L
  run s log = state_after m.wanted m.moves m.after s log

  pub moved : (s : List R × List L) (c k : ℕ) (l : L) (r : R) → slice_get s.1 c ≡ Some l → m.wanted l ≡ Some k → slice_get s.0 k ≡ Some r → m.moves l r ≡ true
      → one s c ≡ (set s.0 k (m.after l r).1, set s.1 c (m.after l r).0)
  moved s c k l r at wants there may = ap (section_by m.wanted m.moves m.after s c) at ∙ (run_of_sections m.wanted m.moves m.after).moved s c k l r wants there may

  pub run_more : (s : List R × List L) (log : List ℕ) (c : ℕ) → run s (log ++ c ∷ []) ≡ one (run s log) c
  run_more s log c = (run_of_sections m.wanted m.moves m.after).one_more s log c

  pub all_more : (s : List R × List L) (log : List ℕ) (c : ℕ) → AllMove m.wanted m.moves m.after s log → Moves m.wanted m.moves m.after (run s log) c → AllMove m.wanted m.moves m.after s (log ++ c ∷ [])
  all_more s [] c all may = (may, tt)
  all_more s (x ∷ xs) c all may = (all.0, all_more (one s x) xs c all.1 may)

  as_long : (s : List R × List L) (c : ℕ) → Moves m.wanted m.moves m.after s c → (c < length s.1) × (length (one s c).1 ≡ length s.1) × (length (one s c).0 ≡ length s.0)
  as_long s c x = (within s.1 c x.0 x.3, ap (λ z. length z.1) is ∙ length-set s.1 c (m.after x.0 x.2).0, ap (λ z. length z.0) is ∙ length-set s.0 x.1 (m.after x.0 x.2).1)
    where
      is : one s c ≡ (set s.0 x.1 (m.after x.0 x.2).1, set s.1 c (m.after x.0 x.2).0)
      is = moved s c x.1 x.0 x.2 x.3 x.4 x.5 x.6

  pub all_below : (s : List R × List L) (log : List ℕ) (n : ℕ) → length s.1 ≡ n → AllMove m.wanted m.moves m.after s log → AreBelow n log
  all_below s [] n e all = tt
  all_below s (x ∷ xs) n e all = let a = as_long s x all.0 in (subst (λ (z : ℕ). x < z) e a.0, all_below (one s x) xs n (a.1 ∙ e) all.1)

  pub all_lengths : (s : List R × List L) (log : List ℕ) → AllMove m.wanted m.moves m.after s log → (length (run s log).0 ≡ length s.0) × (length (run s log).1 ≡ length s.1)
  all_lengths s [] all = (refl, refl)
  all_lengths s (x ∷ xs) all = let a = as_long s x all.0 in let b = all_lengths (one s x) xs all.1 in (b.0 ∙ a.2, b.1 ∙ a.1)
