-- No cell holds more than all adds come to, in every world that a legal history leads to.
use Rattle.std.proofs.Common.{◌≡◌, ℕ, zero, suc, ◌+◌, ◌*◌, ◌^◌, ◌<◌, ◌≤◌, inl, inr, Bool, true, false, cond, List, [], ◌∷◌, ◌++◌, length, map, replicate, slice_get, slice_set, slice_index_or, sum_by, count_by, option_map, Option, Some, None, ℤ, pos, negsuc, ◌+ℤ◌, refl, ap, sym, ◌∙◌, subst, arith, length-append, if◌then◌else◌}
use Rattle.std.proofs.lemmas.Bool.Decides.{nat_tests}
use Rattle.std.proofs.lemmas.Int.{ints}
use Rattle.std.proofs.lemmas.List.Sums.{sum_by-cons, sum_by-append, sum_by-set}
use Rattle.std.proofs.lemmas.Option.{slice_get_within, get_or_from_slice_get, same_Some}
use Rattle.vm_model.specs.declared.calls.Call.{Call}
use Rattle.vm_model.specs.declared.calls.Call.TheVariants.{Add}
use Rattle.vm_model.specs.declared.areas.Span.{Span}
use Rattle.vm_model.specs.Space.{one_if, span, holds, paint}
use Rattle.vm_model.specs.Words.{is_amount}
use Rattle.vm_model.specs.Setup.{Setup, pages_in_units}
use Rattle.vm_model.specs.PlainMap.{PlainMap}
use Rattle.vm_model.specs.Frames.{free_frames, give_frames, frame_of, read_cell, write_cell, words_in_page, pages_of_bytes, zero_frame, zero_pages, zero_words}
use Rattle.vm_model.specs.Chunks.{ObjectAt}
use Rattle.vm_model.specs.Effects.{effect_as}
use Rattle.vm_model.specs.Events.{Section, Event, Populate, Zero, AddWord}
use Rattle.vm_model.specs.Places.{MadeNothing, Place, Adding, ask}
use Rattle.vm_model.specs.Calls.{Answered}
use Rattle.vm_model.specs.Next.{Next, Go, Answer, next}
use Rattle.vm_model.specs.History.{World, Local, moved_to, made_by, opening_world, opening_answers, callers_from}
use Rattle.vm_model.specs.LegalHistory.{Meets, IsReached}
use Rattle.vm_model.specs.Parts.{Region, Pages}
use Rattle.vm_model.proofs.Paint.{slice_get-paint}
use Rattle.map_laws.proofs.areas.AreaWorlds.{IsLegalStep, legally_lasts, replicate-at}
use Rattle.map_laws.proofs.Deeds.{adds_at}
use Rattle.map_laws.proofs.KeptThroughSteps.{IsFramed, has_call, not_over, set_cases}
use Rattle.map_laws.proofs.ProperPlaces.{answers_call}
use Rattle.map_laws.proofs.SizedCalls.{IsUse, AreSized, sized_lasts, sized_first, calls_at}
use Rattle.map_laws.proofs.FrameWords.{is_add}
use Rattle.call_laws.proofs.CallWorlds.{histories_have_shapes}
use Rattle.section_laws.specs.Lawful.{AreSmall, IsRunning}
use Rattle.section_laws.specs.WordBounds.{IsWithin, most_amount, most_word, CellsAreSmall, AmountsAreSmall}
use Rattle.section_laws.proofs.OneState.{in_one_state}
use Rattle.vm_model.specs.declared.calls.Reply.TheVariants as reply

-- Numbers within a bound.

pub zero_within : (most : ℕ) → IsWithin most (pos 0)
zero_within most = (omega (arith, ints), omega (arith, ints))

pub wider : (most more : ℕ) (z : ℤ) → most ≤ more → IsWithin most z → IsWithin more z
wider most more z low is = let a = is.0 in let b = is.1 in (omega (arith, ints), omega (arith, ints))

pub both_within : (a b : ℕ) (x y : ℤ) → IsWithin a x → IsWithin b y → IsWithin (a + b) (x +ℤ y)
both_within a b x y p q = let p0 = p.0 in let p1 = p.1 in let q0 = q.0 in let q1 = q.1 in (omega (arith, ints), omega (arith, ints))

amount_within : (z : ℤ) → is_amount z ≡ true → IsWithin most_amount z
amount_within (pos n) e = let low : n < 2 ^ 31 = grind (arith, nat_tests) in (omega (arith, ints), omega (arith, ints))
amount_within (negsuc n) e = let low : n < 2 ^ 31 = grind (arith, nat_tests) in (omega (arith, ints), omega (arith, ints))

-- Cells.

abbrev pub AreWithin : ℕ → List ℤ → Type 0
AreWithin most cells = (i : ℕ) (z : ℤ) → slice_get cells i ≡ Some z → IsWithin most z

read_within : (most : ℕ) (cells : List ℤ) (i : ℕ) → AreWithin most cells → IsWithin most (slice_index_or cells i (pos 0))
read_within most [] i all = zero_within most
read_within most (z ∷ cells) zero all = all 0 z refl
read_within most (z ∷ cells) (suc i) all = read_within most cells i (λ j y e. all (suc j) y e)

pub cell_within : (most : ℕ) (cells : List ℤ) (cell : Option ℕ) → AreWithin most cells → IsWithin most (read_cell cells cell)
cell_within most cells None all = zero_within most
cell_within most cells (Some cell) all = read_within most cells cell all

write_within : (most : ℕ) (cells : List ℤ) (cell : Option ℕ) (value : ℤ) → IsWithin most value → AreWithin most cells → AreWithin most (write_cell cells cell value)
write_within most cells None value fits all = all
write_within most cells (Some cell) value fits all = λ i z e. elim (set_cases cells cell i value z e) [
  | inl same ↦ subst (IsWithin most) (sym same.1) fits
  | inr other ↦ all i z other.1
]

paint_within : (most : ℕ) (test : ℕ → Bool) (cells : List ℤ) → AreWithin most cells → AreWithin most (paint test (pos 0) cells)
paint_within most test cells all i z e = by_old (slice_get cells i) refl (sym (slice_get-paint test (pos 0) cells i) ∙ e)
  where
    by_test : (b : Bool) (y : ℤ) → IsWithin most y → Some (if b then pos 0 else y) ≡ Some z → IsWithin most z
    by_test true y is f = subst (IsWithin most) (same_Some _ _ f) (zero_within most)
    by_test false y is f = subst (IsWithin most) (same_Some _ _ f) is

    by_old : (o : Option ℤ) → slice_get cells i ≡ o → option_map (λ y. if test i then pos 0 else y) o ≡ Some z → IsWithin most z
    by_old None at f = cc
    by_old (Some y) at f = by_test (test i) y (all i y at) f

frame_within : (most : ℕ) (frame : Option ℕ) (words : Span) (cells : List ℤ) → AreWithin most cells → AreWithin most (zero_frame frame words cells)
frame_within most None words cells all = all
frame_within most (Some frame) words cells all = paint_within most (holds (span (1024 * frame + words.start) words.pages)) cells all

pages_within : (most : ℕ) (frames : List (Option ℕ)) (unit off bytes : ℕ) (pages : List ℕ) (cells : List ℤ) → AreWithin most cells → AreWithin most (zero_pages frames unit off bytes pages cells)
pages_within most frames unit off bytes [] cells all = all
pages_within most frames unit off bytes (page ∷ pages) cells all =
    pages_within most frames unit off bytes pages (zero_frame (frame_of frames (unit + page)) (words_in_page off bytes page) cells) (frame_within most (frame_of frames (unit + page)) (words_in_page off bytes page) cells all)

words_within : (most : ℕ) (frames : List (Option ℕ)) (units : List ℕ) (off bytes : ℕ) (cells : List ℤ) → AreWithin most cells → AreWithin most (zero_words frames units off bytes cells)
words_within most frames [] off bytes cells all = all
words_within most frames (unit ∷ units) off bytes cells all =
    words_within most frames units off bytes (zero_pages frames unit off bytes (pages_of_bytes off bytes) cells) (pages_within most frames unit off bytes (pages_of_bytes off bytes) cells all)

-- How many adds there are.

abbrev adds : List Event → ℕ
adds events = count_by (λ (e : Event). is_add e.section) events

add_one : (b : Bool) → cond b 1 0 ≡ one_if b
add_one true = refl
add_one false = refl

adds_more : (events : List Event) (e : Event) → adds (events ++ e ∷ []) ≡ adds events + one_if (is_add e.section)
adds_more events e = omega (
  arith,
  sum_by-append (λ (x : Event). cond (is_add x.section) 1 0) events (e ∷ []),
  sum_by-cons (λ (x : Event). cond (is_add x.section) 1 0) e [],
  add_one (is_add e.section),
)

-- an effect adds no more than one amount to a cell
effect_within : (c : Setup) (m : PlainMap) (k : ℕ) (s : Section) (before : ℕ) → ((at : ObjectAt) (serial cpu index : ℕ) (amount : ℤ) → s ≡ AddWord at serial cpu index amount → IsWithin most_amount amount)
    → AreWithin (most_amount * before) m.cells → AreWithin (most_amount * (before + one_if (is_add s))) (effect_as c m k s).cells
effect_within c m k (Populate at missing) before small all = λ i z e. wider _ _ z (omega arith)
    (words_within (most_amount * before) (give_frames (pages_in_units c at.base missing) (free_frames c m.frames) m.frames) (map (λ unit. at.base + unit) c.units) at.off at.bytes m.cells all i z e)
effect_within c m k (Zero at) before small all = λ i z e. wider _ _ z (omega arith) (words_within (most_amount * before) m.frames (map (λ unit. at.base + unit) c.units) at.off at.bytes m.cells all i z e)
effect_within c m k (AddWord at serial cpu index amount) before small all =
    write_within (most_amount * (before + 1)) m.cells _ _
    (wider (most_amount * before + most_amount) (most_amount * (before + 1)) _ (omega arith) (both_within (most_amount * before) most_amount _ amount (cell_within (most_amount * before) m.cells _ all) (small at serial cpu index amount refl)))
    (λ i z e. wider (most_amount * before) (most_amount * (before + 1)) z (omega arith) (all i z e))
effect_within c m k _ before small all = λ i z e. wider _ _ z (omega arith) (all i z e)

-- an add answers its call
abbrev many : Local → ℕ
many l = length l.answers

answers_more : (l : Local) (n : Next) → length l.answers < length l.calls → many l ≤ many (moved_to l n)
answers_more l (Go p) has = omega arith
answers_more l (Answer r made) has = let e = answers_call l r made has in omega (arith, ap many e.2, length-append l.answers (record { call = e.0; reply = r; made = made; own_event = suc l.events } ∷ []))

answered_more : (l : Local) → length l.answers < length l.calls → many l + 1 ≤ many (moved_to l (Answer reply.Done MadeNothing))
answered_more l has = let e = answers_call l reply.Done MadeNothing has in
    omega (arith, ap many e.2, length-append l.answers (record { call = e.0; reply = reply.Done; made = MadeNothing; own_event = suc l.events } ∷ []))

add_place : (c : Setup) (p : Place) (s : Section) → is_add s ≡ true → Meets c (ask c p) s → (l : Local) → length l.answers < length l.calls → many l + 1 ≤ many (moved_to l (next c p s))
add_place c p (AddWord at serial cpu index amount) e meets l has =
    subst (λ q. many l + 1 ≤ many (moved_to l (next c q (AddWord at serial cpu index amount)))) (sym (adds_at c p at serial cpu index amount meets)) (answered_more l has)
add_place c p _ e meets l has = cc

-- In every world.

pub record AreCellsSmall (opening : List Call) (calls : List (List Call)) (w : World) : Type 0 where
  pub sized : AreSized opening calls w
  pub cells : AreWithin (most_amount * adds w.events) w.map.cells
  pub few : adds w.events ≤ sum_by many w.locals

module _ (c : Setup) (opening : List Call) (calls : List (List Call)) (opening_small : AreSmall opening) (callers_small : (k : ℕ) (own : List Call) → slice_get calls k ≡ Some own → AreSmall own) where
  list_small : (k : ℕ) (own : List Call) → calls_at opening calls k ≡ Some own → AreSmall own
  list_small zero own e = subst AreSmall (same_Some _ _ e) opening_small
  list_small (suc k) own e = callers_small k own e

  -- what a caller is about to add is small
  pub amount_small : (w : World) → AreSized opening calls w → (k : ℕ) (l : Local) → slice_get w.locals k ≡ Some l → (at : ObjectAt) (serial cpu index : ℕ) (amount : ℤ) → l.place ≡ Adding at serial cpu index amount → IsWithin most_amount amount
  amount_small w sized k l here at serial cpu index amount e =
      let own = sized.each k l here in
      let used = subst (IsUse l) e own.2.used in
      let call : slice_get own.0 (length l.answers) ≡ Some (Add used.0 cpu index amount) = ap (λ list. slice_get list (length l.answers)) (sym own.2.calls) ∙ used.1 in
      amount_within amount (list_small k own.0 own.1 (length l.answers) (Add used.0 cpu index amount) call)

  module _ (w : World) (k : ℕ) (l : Local) (s : Section) (framed : IsFramed c w) (is : AreCellsSmall opening calls w) (step : IsLegalStep w k l s) where
    abbrev moved : Local
    moved = moved_to l (next l.setup l.place s)

    here : slice_get w.locals l.caller ≡ Some l
    here = subst (λ i. slice_get w.locals i ≡ Some l) (sym (framed.own k l step.step.here).caller) step.step.here

    has : length l.answers < length l.calls
    has = has_call c k l (framed.own k l step.step.here) (not_over l.setup w.map l.place s step.step.gives)

    more : many l + one_if (is_add s) ≤ many moved
    more = by_test (is_add s) refl
      where
        by_test : (b : Bool) → is_add s ≡ b → many l + one_if b ≤ many moved
        by_test true e = add_place l.setup l.place s e step.meets l has
        by_test false e = let same = answers_more l (next l.setup l.place s) has in omega arith

    sum_moved : sum_by many (made_by w l s).locals + many l ≡ sum_by many w.locals + many moved
    sum_moved = ap (λ n. sum_by many (slice_set w.locals l.caller moved) + n) (sym (ap many (get_or_from_slice_get w.locals l.caller l l here)))
        ∙ sum_by-set many w.locals l.caller moved l (slice_get_within w.locals l.caller l here)

    small_step : AreCellsSmall opening calls (made_by w l s)
    small_step = record {
      sized = (sized_lasts c opening calls).steps w k l s framed is.sized step;
      cells = subst (λ n. AreWithin (most_amount * n) (effect_as l.setup w.map l.caller s).cells) (sym (adds_more w.events (record { caller = l.caller; section = s })))
          (effect_within l.setup w.map l.caller s (adds w.events)
          (λ at serial cpu index amount e. amount_small w is.sized k l step.step.here at serial cpu index amount (adds_at l.setup l.place at serial cpu index amount (subst (Meets l.setup (ask l.setup l.place)) e step.meets))) is.cells);
      few = (let was = is.few in omega (arith, adds_more w.events (record { caller = l.caller; section = s }), sum_moved, more));
    }

  zeros_within : (n : ℕ) → AreWithin 0 (replicate n (pos 0))
  zeros_within n i z e = subst (IsWithin 0) (sym (replicate-at n (pos 0) z i e)) (zero_within 0)

  small_first : AreCellsSmall opening calls (opening_world c opening calls)
  small_first = record { sized = sized_first c opening calls; cells = λ i z e. wider 0 _ z (omega arith) (zeros_within (1024 * c.frames) i z e); few = omega arith }

  pub small_reached : (w : World) → IsReached c opening calls w → AreCellsSmall opening calls w
  small_reached w reached = (legally_lasts c calls (AreCellsSmall opening calls) (record {
    steps = small_step;
    joins = λ v framed one is over. record {
      sized = (sized_lasts c opening calls).joins v framed one is.sized over;
      cells = is.cells;
      few = (let was = is.few in omega (arith, sum_by-append many v.locals (callers_from c (opening_answers v.locals) 1 calls)));
    };
  }) opening small_first w reached).1

-- there are no more answers than calls
answers_few : (xs : List Local) (lists : List (List Call)) → ((k : ℕ) (l : Local) → slice_get xs k ≡ Some l → slice_get lists k ≡ Some l.calls) → ((k : ℕ) (l : Local) → slice_get xs k ≡ Some l → many l ≤ length l.calls)
    → sum_by many xs ≤ sum_by length lists
answers_few [] lists list few = omega arith
answers_few (l ∷ xs) [] list few = let none = list 0 l refl in cc
answers_few (l ∷ xs) (own ∷ lists) list few =
    let same : own ≡ l.calls = same_Some _ _ (list 0 l refl) in
    let first : many l ≤ length own = subst (λ (o : List Call). many l ≤ length o) (sym same) (few 0 l refl) in
    omega (arith, sum_by-cons many l xs, sum_by-cons length own lists, answers_few xs lists (λ k x e. list (suc k) x e) (λ k x e. few (suc k) x e))

answered_within : (own calls : List Call) (answers : List Answered) → ((i : ℕ) (a : Answered) → slice_get answers i ≡ Some a → i < length calls) → length answers ≤ length calls
answered_within own calls [] each = omega arith
answered_within own calls (a ∷ answers) each = by_last (length answers) refl
  where
    last : (n : ℕ) (x : Answered) (xs : List Answered) → length xs ≡ n → (y : Answered) × (slice_get (x ∷ xs) n ≡ Some y)
    last n x [] e = (x, ap (slice_get (x ∷ [])) (sym e))
    last zero x (y ∷ xs) e = absurd (omega arith)
    last (suc n) x (y ∷ xs) e = last n y xs (let f : length xs ≡ n = omega arith in f)

    by_last : (n : ℕ) → length answers ≡ n → suc (length answers) ≤ length calls
    by_last n e = let found = last n a answers e in let low = each n found.0 found.1 in omega arith

module _ (c : Setup) (opening : List Call) (calls : List (List Call)) (w : World) (is : IsRunning c opening calls w) where
  few_adds : adds w.events ≤ 100000
  few_adds =
      let small = small_reached c opening calls is.opening_small is.callers_small w is.reached in
      let shapes = histories_have_shapes c opening calls w is.trace is.reached in
      let all = answers_few w.locals (opening ∷ calls) (λ k l at. (shapes k l at).list)
      (λ k l at. answered_within l.calls l.calls l.answers (λ i a here. slice_get_within l.calls i a.call ((shapes k l at).answers i a here).call)) in
      let few = small.few in let most = is.trace.few in
      omega (arith, sum_by-cons length opening calls)

  pub cells_here : AreWithin most_word w.map.cells
  cells_here i z e =
      let small = small_reached c opening calls is.opening_small is.callers_small w is.reached in
      let few = few_adds in
      wider (most_amount * adds w.events) most_word z (omega arith) (small.cells i z e)

abbrev cells_in : Region → List ℤ
cells_in (Pages frames stale cells) = cells
cells_in _ = []

pub cells_small : CellsAreSmall
cells_small l frames stale cells st i z e =
    let s = in_one_state l (Pages frames stale cells) st in
    let same : cells ≡ s.w.map.cells = ap cells_in s.own in
    cells_here s.c s.opening s.calls s.w s.running i z (ap (λ list. slice_get list i) (sym same) ∙ e)

pub amounts_small : AmountsAreSmall
amounts_small l r at serial cpu index amount st e =
    let s = in_one_state l r st in
    amount_small s.c s.opening s.calls s.running.opening_small s.running.callers_small s.w (small_reached s.c s.opening s.calls s.running.opening_small s.running.callers_small s.w s.running.reached).sized s.k l s.here at serial cpu index amount e
