-- Where a kernel starts.
use Rattle.std.proofs.Common.{slice_index_or, ◌≡◌, ℕ, zero, suc, ◌+◌, ◌≤◌, inl, List, [], ◌∷◌, ◌++◌, length, slice_get, sum_by, Some, refl, ap, sym, ◌∙◌, arith}
use Rattle.std.proofs.lemmas.Option.{slice_get_read}
use Rattle.std.proofs.lemmas.List.Sums.{sum_by-cons}
use Rattle.vm_model.specs.declared.calls.Call.{Call}
use Rattle.vm_model.specs.Setup.{Setup}
use Rattle.vm_model.specs.PlainMap.{at_first}
use Rattle.vm_model.specs.Calls.{Answered}
use Rattle.vm_model.specs.History.{World, Local, started, opening_world, callers_from, opening_answers, finish, most_events}
use Rattle.vm_model.specs.Parts.{regions_of}
use Rattle.map_laws.proofs.ReachedSteps.{steps_reached}
use Rattle.kernel_steps.specs.Kernels.{KernelState, IsStanding, CanStart, IsBefore, CanJoin, start_of, opening_of, callers_of}

-- before the first call of the opening
pub stands_before : (c : Setup) (opening : List Call) (calls : List (List Call)) (room : ℕ) (k : KernelState) → IsBefore c (opening ∷ calls) room → k.regions ≡ regions_of c (at_first c room) → k.locals ≡ started c [] 0 opening ∷ [] → k.moved ≡ []
    → IsStanding c opening calls (opening_world c opening calls) k
stands_before c opening calls room k is regions locals moved = record {
  running = record { trace = is.can.trace; opening_small = is.can.small 0 opening refl; callers_small = λ i own h. is.can.small (suc i) own h; reached = inl ([], tt, refl) };
  regions = regions ∙ ap (λ n. regions_of c (at_first c n)) is.counted;
  locals = locals;
  moved = moved;
}

sections_are : (sections : List (List Call)) → 1 ≤ length sections → sections ≡ opening_of sections ∷ callers_of sections
sections_are [] h = absurd (omega arith)
sections_are (opening ∷ calls) h = refl

-- where the callers join
pub stands_joined : (c : Setup) (sections : List (List Call)) (old new : KernelState) (callers : List Local) → CanJoin c sections old callers → new.regions ≡ old.regions → new.locals ≡ old.locals ++ callers → new.moved ≡ old.moved
    → IsStanding c (opening_of sections) (callers_of sections) (start_of c sections) new
stands_joined c sections old new callers can regions locals moved =
    let st = can.ended in
    let w : World = finish most_events (opening_world c (opening_of sections) (callers_of sections)) in
    let same : callers ≡ callers_from c (opening_answers w.locals) 1 (callers_of sections) = can.before ∙ ap (λ ls. callers_from c (opening_answers ls) 1 (callers_of sections)) st.locals in
    record {
      running = record {
        trace = can.can.trace;
        opening_small = st.running.opening_small;
        callers_small = st.running.callers_small;
        reached = (steps_reached c (opening_of sections) (callers_of sections) can.can.trace).started;
      };
      regions = regions ∙ st.regions;
      locals = locals ∙ ap (λ ls. ls ++ callers) st.locals ∙ ap (λ xs. w.locals ++ xs) same;
      moved = moved ∙ st.moved;
    }

-- a section is no longer than all together
pub section_short : (calls : List (List Call)) (k : ℕ) (own : List Call) → slice_get calls k ≡ Some own → length own ≤ sum_by length calls
section_short [] k own h = cc
section_short (x ∷ calls) zero own h = let same : x ≡ own = cc in let n = ap length same in omega (arith, sum_by-cons {X = List Call} length x calls)
section_short (x ∷ calls) (suc k) own h = let rest = section_short calls k own h in omega (arith, sum_by-cons {X = List Call} length x calls)

-- the calls of all sections, the opening's among them
pub few_together : (sections : List (List Call)) → 1 ≤ length sections → length (opening_of sections) + sum_by length (callers_of sections) ≤ 100000 → sum_by length sections ≤ 100000
few_together [] some few = absurd (omega arith)
few_together (opening ∷ calls) some few = omega (arith, sum_by-cons {X = List Call} length opening calls)

pub first_answers : (locals : List Local) (l : Local) → slice_get locals 0 ≡ Some l → l.answers ≡ opening_answers locals
first_answers [] l h = cc
first_answers (x ∷ locals) l h = let same : x ≡ l = cc in ap (λ (y : Local). y.answers) (sym same)

-- the callers that were made from the opening's answers can join
pub can_join : (c : Setup) (opening : List Call) (rest : List (List Call)) (first k : KernelState) (held locals : List Local) (l : Local) (answers : List Answered) → CanStart c (opening ∷ rest)
    → IsStanding c opening rest (opening_world c opening rest) first → IsStanding c opening rest (finish most_events (opening_world c opening rest)) k → length k.locals ≡ length first.locals → held ≡ k.locals
    → l ≡ slice_index_or held 0 l → answers ≡ l.answers → locals ≡ callers_from c answers 1 rest → CanJoin c (opening ∷ rest) k locals
can_join c opening rest first k held locals l answers can begun ended many same at told made =
    let one : length first.locals ≡ 1 = ap length begun.locals in
    let wide : length held ≡ length k.locals = ap length same in
    record {
      can = can;
      ended = ended;
      before = made ∙ ap (λ xs. callers_from c xs 1 rest) (told ∙ first_answers held l (slice_get_read held (length held) 0 l refl (omega arith) at) ∙ ap opening_answers same);
    }
