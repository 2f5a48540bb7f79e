-- What the callers of split and joined passes may want, and the callers that they have.
use Rattle.std.proofs.Common.{◌≡◌, ◌≢◌, ℕ, ◌≤◌, ◌⊎◌, ⊎_elim, List, [], ◌∷◌, ◌++◌, map, set, replicate, Option, Some, None, slice_get, sym, ap, ◌∙◌}
use lib.Seq.{map-set}
use Rattle.section_table.specs.declared.views.Held.{Held}
use Rattle.section_table.specs.declared.views.View.{View}
use Rattle.section_table.specs.declared.caller.Caller.{Caller}
use Rattle.section_table.specs.Shown.{shown_of}
use Rattle.section_table.specs.PassViews.{Has, IsWithin, only, merged, without, alone, both_of}
use Rattle.section_table.proofs.ElementsByPlace.{none≢some, got_set, got_map}
use Rattle.section_table.proofs.SplitPasses.{only_that}
use Rattle.section_table.proofs.JoinedPasses.{from_one}
use Rattle.section_table.proofs.Placed.{only_is, shown_alone, shown_merged}

module _ {R L : Type 0} (reach : L → ℕ) (n : ℕ) where
  pub within_without : (v : View R L) (c : ℕ) → IsWithin reach n v → IsWithin reach n (without c v)
  within_without v c all i h has = ⊎_elim
      (λ (x : (i ≡ c) × (None ≡ Some h)). absurd (none≢some h x.1))
      (λ (x : (i ≢ c) × (slice_get v.held i ≡ Some (Some h))). all i h x.1) (got_set v.held c i None (Some h) has)

  pub within_alone : (v : View R L) (c : ℕ) → IsWithin reach n v → IsWithin reach n (alone c v)
  within_alone v c all i h has = all i h (only_that c v.held i h has).1

  pub within_both : (v w : View R L) → IsWithin reach n v → IsWithin reach n w → IsWithin reach n (both_of v w)
  within_both v w all_v all_w i h has = ⊎_elim (λ (x : Has v i h). all_v i h x) (λ (x : Has w i h). all_w i h x) (from_one v.held w.held i h has)

module _ {L : Type 0} where
  pub left_shown : (held : List (Option (Held L))) (cs : List (Option (Caller L))) (c : ℕ) → held ≡ map shown_of cs → set held c None ≡ map shown_of (set cs c None)
  left_shown held cs c same = ap (λ (l : List (Option (Held L))). set l c None) same ∙ sym (map-set shown_of cs c None)

  pub alone_shown : (held : List (Option (Held L))) (cs : List (Option (Caller L))) (c : ℕ) (x : Option (Caller L)) → held ≡ map shown_of cs → slice_get cs c ≡ Some x → only c held ≡ map shown_of (replicate c None ++ x ∷ [])
  alone_shown held cs c x same at = ap (only c) same ∙ (only_is c (map shown_of cs) (shown_of x) (got_map shown_of cs c x at) ∙ sym (shown_alone c x))

  pub both_shown : (held held' : List (Option (Held L))) (cs cs' : List (Option (Caller L))) → held ≡ map shown_of cs → held' ≡ map shown_of cs' → merged held held' ≡ map shown_of (merged cs cs')
  both_shown held held' cs cs' same same' = (λ i. merged (same i) (same' i)) ∙ sym (shown_merged cs cs')
