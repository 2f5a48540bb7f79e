-- What is left of a table, from the log of its last state.
use Rattle.std.proofs.Common.{◌≡◌, ℕ, ◌<◌, ◌≤◌, List, [], ◌∷◌, Option, Some, length, map, replicate, get_or, slice_get, sym, ap, ◌∙◌, subst, refl, arith}
use mathlib.Core.Option.{some, some-injective, some-ne-none}
use lib.ListN.{get_elem?}
use Rattle.vm_model.specs.Run.{state_after}
use Rattle.section_laws.specs.MovesInTurn.{AllMove}
use Rattle.section_table.specs.declared.views.Held.{Held}
use Rattle.section_table.specs.declared.views.View.{View}
use Rattle.section_table.specs.declared.table.Key.{Key}
use Rattle.section_table.specs.declared.closed.Closed.{Closed}
use Rattle.section_table.specs.Meanings.{Meanings}
use Rattle.section_table.specs.CallerPlaces.{places, AreBelow}
use Rattle.section_table.specs.PassViews.{Has, HasAll}
use Rattle.section_table.specs.Closes.{state_of_key, IsClosed}
use Rattle.section_table.specs.WrittenLists.{all_written, locals_of, HasStampsBelow}
use Rattle.section_table.proofs.LogMoves.{all_below, all_lengths}
use Rattle.section_table.proofs.RuleAtEnds.{IsEndOf}
use Rattle.section_table.proofs.WrittenPicks.{picks_are, locals_are}

pub first_word : (words : List ℕ) (x : ℕ) → get_elem? words 0 ≡ some x → get_or words 0 0 ≡ x
first_word [] x e = absurd (some-ne-none x (sym e))
first_word (w ∷ ws) x e = some-injective w x e

module _ {R L : Type 0} (m : Meanings R L) (key : Key R L) (words : List ℕ) (slots : List R) (v : View R L) (log : List ℕ) (q : IsEndOf m key.regions.value.items key.locals.value.items words slots v log) where
  abbrev left : List R × List L
  left = state_after m.wanted m.moves m.after (state_of_key key) log

  pub stamps_below : (count : ℕ) (held : List (Option (Held L))) → count ≡ length log → v.held ≡ held → HasStampsBelow count held
  stamps_below count held is same caller h e = subst (λ (n : ℕ). AreBelow n h.stamps) (sym is) (q.stamps caller h (ap (λ (l : List (Option (Held L))). slice_get l caller) same ∙ e))

  pub comes_to : (z : Closed R L) (count : ℕ) (held : List (Option (Held L))) → v.held ≡ held → HasAll (length key.locals.value.items) v → count ≡ length log
      → z.regions.items ≡ slots → z.locals.items ≡ locals_of held → z.picks.items ≡ all_written (replicate count 0) 0 held → IsClosed m key v z
  comes_to z count held same all counted regions_is locals_is picks_is = record {
    moving = subst (AllMove m.wanted m.moves m.after (state_of_key key)) (sym picks) q.moving;
    leaves = (λ i. (regions i, locals i)) ∙ ap (state_after m.wanted m.moves m.after (state_of_key key)) (sym picks);
    locals = λ caller h has. ap (λ (l : List L). slice_get l caller) locals ∙ (q.callers caller h has).0;
    told = λ caller h has. (q.callers caller h has).1 ∙ ap (places caller) (sym picks);
  }
    where
      lengths : length left.1 ≡ length key.locals.value.items
      lengths = (all_lengths m (state_of_key key) log q.moving).1

      picks : z.picks.items ≡ log
      picks = picks_is ∙ (ap (λ (n : ℕ). all_written (replicate n 0) 0 held) counted ∙ (ap (all_written (replicate (length log) 0) 0) (sym same)
          ∙ picks_are log v.held (length key.locals.value.items) (all_below m (state_of_key key) log (length key.locals.value.items) refl q.moving) (λ i h e. (q.callers i h e).1) all))

      locals : z.locals.items ≡ left.1
      locals = locals_is ∙ (ap locals_of (sym same) ∙ locals_are v.held left.1 (λ i less. all i (subst (λ (n : ℕ). i < n) lengths less)) (λ i h e. (q.callers i h e).0))

      regions : z.regions.items ≡ left.0
      regions = regions_is ∙ q.regions_are
