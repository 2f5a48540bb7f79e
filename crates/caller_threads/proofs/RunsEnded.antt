-- What a table over a kernel's parts comes to is a kernel whose callers have ended.
use Rattle.std.proofs.Common.{◌≡◌, ℕ, suc, ◌+◌, ◌<◌, ◌≤◌, Bool, true, false, cond, List, [], ◌∷◌, ◌++◌, length, map, Option, Some, None, slice_get, refl, sym, ap, ◌∙◌, subst, arith, length-set}
use Rattle.std.specs.List.{range_with_len}
use Rattle.std.proofs.lemmas.List.{length-map}
use Rattle.std.proofs.lemmas.List.FromFn.{length-range_with_len}
use Rattle.vm_model.specs.declared.calls.Call.{Call}
use Rattle.vm_model.specs.Setup.{Setup}
use Rattle.vm_model.specs.Places.{ask}
use Rattle.vm_model.specs.History.{World, Local, step, pick_all}
use Rattle.vm_model.specs.LegalHistory.{AllOver}
use Rattle.vm_model.specs.Parts.{Region, regions_of, state_of, wants, moves, after}
use Rattle.vm_model.specs.Run.{section_by, section_wanted, section_over, put, state_after}
use Rattle.section_laws.specs.Lawful.{IsRunning, IsLawful}
use Rattle.section_laws.specs.MovesInTurn.{reach, all_move, AllMove}
use Rattle.section_laws.proofs.KeptLawful.{next_running, reach_is, turns_are_picks}
use Rattle.kernel_steps.specs.Kernels.{KernelState, IsStanding, IsSomewhere, start_of, opening_of, callers_of}
use Rattle.kernel_steps.specs.KernelRuns.{HasEnded}
use Rattle.kernel_steps.proofs.WorldCallers.{few_callers}
use Rattle.kernel_steps.proofs.CallersThere.{all_there}
use Rattle.kernel_steps.proofs.Moves.{movers_picked}
use Rattle.kernel_steps.proofs.SectionsMade.{asks_nothing}
use Rattle.count_lines.specs.declared.share.Share.{Share}
use Rattle.count_lines.specs.Shares.{caller_of}
use Rattle.section_table.specs.declared.closed.Closed.{Closed}
use Rattle.section_table.specs.declared.table.Key.{Key}
use Rattle.section_table.specs.declared.views.View.{View}
use Rattle.section_table.specs.PassViews.{HasAll}
use Rattle.section_table.specs.Closes.{IsClosed, state_of_key}
use Rattle.caller_threads.specs.Core.{core}
use Rattle.caller_threads.specs.Workers.{AllEnded, AreNumbered}

abbrev S : Type 0
S = List Region × List Local

-- sections leave as many callers as there were
kept_if : (s : S) (k region : ℕ) (l : Local) (r : Region) (b : Bool) → length (cond b (put wants moves after s k region (after l r)) s).1 ≡ length s.1
kept_if s k region l r true = length-set s.1 k (after l r).0
kept_if s k region l r false = refl

kept_over : (s : S) (k region : ℕ) (l : Local) (o : Option Region) → length (section_over wants moves after s k region l o).1 ≡ length s.1
kept_over s k region l None = refl
kept_over s k region l (Some r) = kept_if s k region l r (moves l r)

kept_wanted : (s : S) (k : ℕ) (l : Local) (o : Option ℕ) → length (section_wanted wants moves after s k l o).1 ≡ length s.1
kept_wanted s k l None = refl
kept_wanted s k l (Some region) = kept_over s k region l (slice_get s.0 region)

kept_by : (s : S) (k : ℕ) (o : Option Local) → length (section_by wants moves after s k o).1 ≡ length s.1
kept_by s k None = refl
kept_by s k (Some l) = kept_wanted s k l (wants l)

kept_after : (s : S) (picks : List ℕ) → length (state_after wants moves after s picks).1 ≡ length s.1
kept_after s [] = refl
kept_after s (k ∷ picks) = kept_after (section_by wants moves after s k (slice_get s.1 k)) picks ∙ kept_by s k (slice_get s.1 k)

-- callers each of whom wants nothing
pub all_over : (ls : List Local) → ((k : ℕ) → k < length ls → (l : Local) × (slice_get ls k ≡ Some l) × (wants l ≡ None)) → AllOver ls
all_over [] each = tt
all_over (l ∷ ls) each =
    let here = each 0 (omega arith) in
    let same : here.0 ≡ l = cc in (
      asks_nothing (ask l.setup l.place) (ap wants (sym same) ∙ here.2),
      all_over ls (λ k low. each (suc k) (omega arith)),
    )

-- so many shares as callers behind the opening
pub as_many : (shares : List Share) (n : ℕ) → map caller_of shares ≡ range_with_len 1 n → length shares ≡ n
as_many shares n named = sym (length-map shares caller_of) ∙ ap length named ∙ length-range_with_len 1 n

pub numbered : (shares : List Share) (n : ℕ) → map caller_of shares ≡ range_with_len 1 n → AreNumbered 1 shares
numbered shares n named = named ∙ ap (range_with_len 1) (sym (as_many shares n named))

-- A kernel at its start.
module _ (c : Setup) (sections : List (List Call)) (k : KernelState) (st : IsStanding c (opening_of sections) (callers_of sections) (start_of c sections) k) where
  abbrev start : World
  start = start_of c sections

  same : (k.regions, k.locals) ≡ state_of c start
  same = ap (λ (rs : List Region). (rs, k.locals)) st.regions ∙ ap (λ (ls : List Local). (regions_of c start.map, ls)) st.locals

  somewhere : IsSomewhere k
  somewhere = (c, opening_of sections, callers_of sections, start, st)

  pub lawful : IsLawful k.regions k.locals
  lawful = (c, opening_of sections, callers_of sections, start, st.running, same)

  pub few : length k.locals ≤ 32
  few = let low = few_callers k somewhere in omega arith

  pub many : length k.locals ≡ 1 + length (callers_of sections)
  many = ap length st.locals ∙ all_there c sections

  pub within_reach : (i : ℕ) (l : Local) → slice_get k.locals i ≡ Some l → reach l ≤ length k.regions
  within_reach i l at = let all = reach_is k.regions k.locals i l lawful at in omega arith

  running : (w : World) → IsRunning c (opening_of sections) (callers_of sections) w → (picks : List ℕ) → IsRunning c (opening_of sections) (callers_of sections) (pick_all w picks)
  running w is [] = is
  running w is (pick ∷ picks) = running (step w pick) (next_running c (opening_of sections) (callers_of sections) w is pick) picks

  -- the end of a table over its parts
  module _ (key : Key Region Local) (v : View Region Local) (z : Closed Region Local) (rs : key.regions.value.items ≡ k.regions) (ls : key.locals.value.items ≡ k.locals) (is : IsClosed core key v z) where
    abbrev pub end : World
    end = pick_all start z.picks.items

    begun : state_of_key key ≡ state_of c start
    begun = ap (λ (xs : List Region). (xs, key.locals.value.items)) rs ∙ ap (λ (xs : List Local). (k.regions, xs)) ls ∙ same

    told : (all_move start z.picks.items ≡ true) × (state_after wants moves after (state_of c start) z.picks.items ≡ state_of c end)
    told = turns_are_picks c (opening_of sections) (callers_of sections) start z.picks.items st.running (subst (λ (s : S). AllMove wants moves after s z.picks.items) begun is.moving)

    parts : (z.regions.items, z.locals.items) ≡ state_of c end
    parts = is.leaves ∙ ap (λ (s : S). state_after wants moves after s z.picks.items) begun ∙ told.1

    abbrev pub left : List ℕ → KernelState
    left moved = record { regions = z.regions.items; locals = z.locals.items; moved = moved }

    pub stands : (moved : List ℕ) → moved ≡ k.moved ++ z.picks.items → IsStanding c (opening_of sections) (callers_of sections) end (left moved)
    stands moved e = record {
      running = running start st.running z.picks.items;
      regions = ap (λ (s : S). s.0) parts;
      locals = ap (λ (s : S). s.1) parts;
      moved = e ∙ ap (λ (xs : List ℕ). xs ++ z.picks.items) st.moved ∙ sym (movers_picked c (opening_of sections) (callers_of sections) start st.running z.picks.items told.0);
    }

    over : HasAll (1 + length (callers_of sections)) v → AllEnded v → AllOver z.locals.items
    over all ended =
        let kept = ap (λ (s : S). length s.1) is.leaves ∙ kept_after (state_of_key key) z.picks.items ∙ ap length ls ∙ many in
        all_over z.locals.items (λ i low. let has = all i (omega arith) in (has.0.local, is.locals i has.0 has.1, ended i has.0 has.1))

    pub run_ended : HasAll (1 + length (callers_of sections)) v → AllEnded v → (moved : List ℕ) → moved ≡ k.moved ++ z.picks.items → HasEnded c sections z.picks.items (left moved)
    run_ended all ended moved e = record {
      run = record { started = st.running; moving = told.0; stands = stands moved e };
      moved = e ∙ ap (λ (xs : List ℕ). xs ++ z.picks.items) st.moved;
      over = subst AllOver (ap (λ (s : S). s.1) parts) (over all ended);
    }
