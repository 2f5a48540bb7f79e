-- How many callers there are.
use Rattle.std.proofs.Common.{◌≡◌, inl, ℕ, zero, suc, List, [], ◌∷◌, ◌++◌, length, Option, Some, None, refl, ap, ◌∙◌, subst, arith, length-append, length-set, slice_get}
use Rattle.vm_model.specs.declared.calls.Call.{Call}
use Rattle.vm_model.specs.Setup.{Setup}
use Rattle.vm_model.specs.Events.{Section}
use Rattle.vm_model.specs.Calls.{Answered}
use Rattle.vm_model.specs.Next.{next}
use Rattle.vm_model.specs.Places.{ask, AskNothing}
use Rattle.vm_model.specs.LegalHistory.{AllOver}
use Rattle.vm_model.specs.Rules.{IsTrace}
use Rattle.map_laws.proofs.EndProofs.{every_run_ends}
use Rattle.vm_model.specs.History.{World, Local, section_of, made_if, step_of, step, moved_to, first_mover, finish, most_events, opening_world, opening_answers, callers_from}
use Rattle.kernel_steps.specs.Kernels.{start_of, opening_of, callers_of}
use Rattle.kernel_steps.specs.StartLaw.{TheStartHasAllCallers}

kept_made : (w : World) (l : Local) (s : Option Section) → length (made_if w l s).locals ≡ length w.locals
kept_made w l None = refl
kept_made w l (Some s) = length-set w.locals l.caller (moved_to l (next l.setup l.place s))

kept_step : (w : World) (l : Option Local) → length (step_of w l).locals ≡ length w.locals
kept_step w None = refl
kept_step w (Some l) = kept_made w l (section_of w.map l)

kept_by : (w : World) (fuel : ℕ) → ((v : World) → length (finish fuel v).locals ≡ length v.locals) → (o : Option ℕ) → length (elim o as (λ _. World) [ None ↦ w | Some k ↦ finish fuel (step w k) ]).locals ≡ length w.locals
kept_by w fuel kept None = refl
kept_by w fuel kept (Some k) = kept (step w k) ∙ kept_step w (slice_get w.locals k)

kept_finish : (fuel : ℕ) (w : World) → length (finish fuel w).locals ≡ length w.locals
unfolding finish
kept_finish zero w = refl
kept_finish (suc fuel) w = kept_by w fuel (kept_finish fuel) (first_mover w)

length-callers_from : (c : Setup) (answers : List Answered) (k : ℕ) (calls : List (List Call)) → length (callers_from c answers k calls) ≡ length calls
length-callers_from c answers k [] = refl
length-callers_from c answers k (own ∷ calls) = ap suc (length-callers_from c answers (suc k) calls)

pub all_there : TheStartHasAllCallers
all_there c sections =
    let w : World = finish most_events (opening_world c (opening_of sections) (callers_of sections)) in
    omega (
      arith,
      length-append w.locals (callers_from c (opening_answers w.locals) 1 (callers_of sections)),
      kept_finish most_events (opening_world c (opening_of sections) (callers_of sections)),
      length-callers_from c (opening_answers w.locals) 1 (callers_of sections),
    )

first_over : (ls more : List Local) (l : Local) → length ls ≡ 1 → AllOver ls → slice_get (ls ++ more) 0 ≡ Some l → ask l.setup l.place ≡ AskNothing
first_over [] more l many over at = absurd cc
first_over (x ∷ ls) more l many over at = let same : x ≡ l = cc in subst (λ (y : Local). ask y.setup y.place ≡ AskNothing) same over.0

-- the opening has ended at the start
pub opening_ended : (c : Setup) (sections : List (List Call)) (l : Local) → IsTrace c (opening_of sections) (callers_of sections) → slice_get (start_of c sections).locals 0 ≡ Some l → ask l.setup l.place ≡ AskNothing
opening_ended c sections l trace at =
    let first : World = opening_world c (opening_of sections) (callers_of sections) in
    let w : World = finish most_events first in
    first_over w.locals (callers_from c (opening_answers w.locals) 1 (callers_of sections)) l (kept_finish most_events first)
    (every_run_ends c (opening_of sections) (callers_of sections) first trace (inl ([], tt, refl))) at
