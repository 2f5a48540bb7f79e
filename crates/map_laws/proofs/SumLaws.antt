-- What is kept of serials, sums and zeroed objects behind a legal section.
use Rattle.std.proofs.lemmas.Bool.Decides.{nat_tests}
use Rattle.std.proofs.Common.{◌≡◌, ◌≢◌, ℕ, ◌*◌, ◌/◌, ◌<◌, ◌≤◌, ◌⊎◌, inl, inr, List, [], ◌∷◌, ◌++◌, take, slice_get, slice_set, Some, refl, ap, sym, ◌∙◌, subst, arith, ℤ, pos, ◌+ℤ◌, zero, suc, true}
use Rattle.std.proofs.lemmas.List.{take-append-le, take_all}
use Rattle.vm_model.specs.Setup.{Setup, pages_in_units}
use Rattle.vm_model.specs.PlainMap.{PlainMap, Chunk, Life, InHand, Lives, Object, is_live, is_in_hand}
use Rattle.vm_model.specs.Frames.{word_at, pages_of_bytes}
use Rattle.vm_model.specs.Chunks.{ObjectAt, object_pages, pages_of_object}
use Rattle.vm_model.specs.Events.{Section, Event, Populate, AddWord, SumWords, SettleObject}
use Rattle.vm_model.specs.Legal.{OnPages, IsMapped, IsLegalAs, sum_of}
use Rattle.vm_model.specs.Effects.{effect_as}
use Rattle.vm_model.specs.Places.{Place, ask, SettlingObject, SettlingAtomic}
use Rattle.vm_model.specs.History.{World, Local, started, made_by, moved_to, opening_world, opening_answers, callers_from}
use Rattle.vm_model.specs.LegalHistory.{Meets, IsReached}
use Rattle.vm_model.specs.Laws.{IsEvent, amount_of, added, SumsAreTheAdds, object_at}
use Rattle.map_laws.proofs.KeptThroughSteps.{set_cases, set_same, append_cases, IsFramed, framed_step, not_over, has_call}
use Rattle.map_laws.proofs.Deeds.{SettlesAt, settles_at, sums_at, adds_at}
use Rattle.map_laws.proofs.waits.WaitStories.{WhichEvent, Before, Last, which_event}
use Rattle.map_laws.proofs.objects.ObjectFacts.{IsObject, IsObjectAt}
use Rattle.map_laws.proofs.TraceWorlds.{SomeonePlaces, IsTraceWorld, by_caller, trace_lasts, trace_first}
use Rattle.map_laws.proofs.objects.ObjectWords.{IsWordOf, word_mapped, zeroed_own, grown, add_within, sum_within}
use Rattle.map_laws.proofs.FrameWords.{sums_zero, added_more, added_same, adds_nothing, HaveCells, have_cells_section, have_cells_first}
use Rattle.map_laws.proofs.objects.ObjectsBefore.{CameFrom, Was, Settled, came_from, one_object}
use Rattle.map_laws.proofs.objects.ObjectsReady.{IsZeroedAt, Zeroes, Populated, Zeroed, IsJustZeroed, zeroed_next, named_live}
use Rattle.map_laws.proofs.SummedWorlds.{AreWordsOwn, IsUsable, wordy_of, AreApartFrames, adding, word_same, add_word_of, IsSummed, byte_in, amount_serial, live_untouched, hand_untouched, sum_same, sum_added}
use Rattle.std.proofs.lemmas.Option.{same_Some}
use Rattle.vm_model.specs.declared.calls.Call.{Call}
use Rattle.vm_model.specs.Space.{is_among}
use Rattle.vm_model.specs.Next.{next}
use Rattle.vm_model.specs.Calls.{Answered}
use Rattle.vm_model.specs.Rules.{IsSetup, IsTrace}
use Rattle.map_laws.proofs.ProperPlaces.{OnNext, HaveBeginnings, AtOver, all_started, begins_with, moved_has}
use Rattle.map_laws.proofs.areas.AreaWorlds.{IsLegalStep, IsLegallyLasting, legally_lasts, event_legal}
use Rattle.map_laws.proofs.chunks.ChunkFacts.{IsChunkAt, unit_page}
use Rattle.map_laws.proofs.MapLaws.{object_done, populated_mapped, copies_once}
use Rattle.map_laws.proofs.SizedCalls.{AreSized, sized_lasts, sized_first}

-- the next serial of an object doesn't fall
next_grows : (c : Setup) (m : PlainMap) (k : ℕ) (s : Section) → IsLegalAs c m k s → m.next_object ≤ (effect_as c m k s).next_object
next_grows c m k s legal = grind arith

settling_zeroed : (at : ObjectAt) (p : Place) → SettlesAt at p → IsZeroedAt p at
settling_zeroed at p settles = grind arith

was_or_settled : (chunks : List Chunk) (at : ObjectAt) (serial : ℕ) (t : Section) → CameFrom chunks at serial t
    → IsObject chunks at (Lives serial) ⊎ ((o : ObjectAt) × (t ≡ SettleObject o serial) × (at.chunk ≡ o.chunk) × (at.off ≡ o.off))
was_or_settled chunks at serial r from = grind arith

module _ (c : Setup) (w : World) (own : AreWordsOwn c w) (kept : IsSummed c w) (k : ℕ) (l : Local) (here : slice_get w.locals k ≡ Some l) (hand : IsObjectAt w.map k l.place) (usable : IsUsable c w.map l.place) where
  module _ (s : Section) (meets : Meets c (ask c l.place) s) (legal : IsLegalAs c w.map k s) (moved : Local) where
    abbrev pub made : World
    made = record { map = effect_as c w.map k s; locals = slice_set w.locals k moved; events = w.events ++ (record { caller = k; section = s }) ∷ [] }

    abbrev event : Event
    event = record { caller = k; section = s }

    -- Serials.

    serial_by : (at : ObjectAt) (serial : ℕ) (t : Section) → IsLegalAs c w.map k t → CameFrom w.map.chunks at serial t → serial < (effect_as c w.map k t).next_object
    serial_by at serial t law x5 = grind (arith, was_or_settled)

    unique_by : (at o : ObjectAt) (serial : ℕ) → CameFrom w.map.chunks at serial s → CameFrom w.map.chunks o serial s → (at.chunk ≡ o.chunk) × (at.off ≡ o.off)
    unique_by at o serial from from' = grind (arith, was_or_settled)

    later_now : (serial index : ℕ) → made.map.next_object ≤ serial → added serial index made.events ≡ pos 0
    later_now serial index high = grind (arith, next_grows, added_same, amount_serial, adding, adds_nothing)

    module _ (own' : AreWordsOwn c made) (zeroes : (at : ObjectAt) → IsZeroedAt moved.place at → Zeroes at s) where
      -- Sums.

      sum_by : (at : ObjectAt) (serial index : ℕ) (t : Section) → Meets c (ask c l.place) t → IsLegalAs c w.map k t → AreApartFrames (effect_as c w.map k t).frames → IsObject w.map.chunks at (Lives serial) → OnPages (object_pages c at) (IsMapped (effect_as c w.map k t)) → 4 * index < at.bytes
          → sum_of c (effect_as c w.map k t) at index ≡ added serial index (w.events ++ (record { caller = k; section = t }) ∷ [])
      sum_by at serial index (AddWord o own_serial cpu at_index amount) asked law apart is mapped' inside = grind (arith, sum_added, added_more, nat_tests)
      sum_by at serial index t asked law apart is mapped' inside =
          sum_same c w own kept k l here hand usable t asked law apart at (Lives serial) index is (own.live at serial is) mapped' inside (λ cpu touched. live_untouched c w own kept k l here hand usable at serial cpu index t refl asked is touched)
          ∙ kept.sums at serial index is inside ∙ sym (added_same serial index w.events (record { caller = k; section = t }) (adds_nothing serial index t refl))

      settled_by : (at o : ObjectAt) (serial index : ℕ) (life : Life) → Meets c (ask c l.place) (SettleObject o serial) → IsLegalAs c w.map k (SettleObject o serial) → IsObject w.map.chunks at life → at.chunk ≡ o.chunk → at.off ≡ o.off → 4 * index < at.bytes
          → sum_of c (effect_as c w.map k (SettleObject o serial)) at index ≡ added serial index (w.events ++ (record { caller = k; section = SettleObject o serial }) ∷ [])
      settled_by at o serial index life asked law is e f inside =
          let at_place = settling_zeroed o l.place (settles_at c l.place o serial asked) in
          let held = own.hand k l o here at_place in
          let same = one_object c (SomeonePlaces w) w.map.chunks own.fine at o life (InHand k) is held.0 e f in
          sums_zero w.map.frames w.map.cells (byte_in at index) c.units
          (λ cpu unit there. kept.zeroed k l o here at_place cpu index (byte_in at index unit) (record { unit = unit; at_unit = there; inside = omega arith; is = omega arith }))
          ∙ sym (added_same serial index w.events (record { caller = k; section = SettleObject o serial }) refl ∙ kept.later serial index (omega arith))

      sums_by : (at : ObjectAt) (serial index : ℕ) (t : Section) → Meets c (ask c l.place) t → IsLegalAs c w.map k t → AreApartFrames (effect_as c w.map k t).frames → CameFrom w.map.chunks at serial t → OnPages (object_pages c at) (IsMapped (effect_as c w.map k t)) → 4 * index < at.bytes
          → sum_of c (effect_as c w.map k t) at index ≡ added serial index (w.events ++ (record { caller = k; section = t }) ∷ [])
      sums_by at serial index r asked law apart (Was t is) mapped' inside = sum_by at serial index t asked law apart is mapped' inside
      sums_by at serial index r asked law apart (Settled o life is e f) mapped' inside = settled_by at o serial index life asked law is e f inside

      sums_now : (at : ObjectAt) (serial index : ℕ) → IsObject made.map.chunks at (Lives serial) → 4 * index < at.bytes → sum_of c made.map at index ≡ added serial index made.events
      sums_now at serial index is inside = sums_by at serial index s meets legal own'.cells.own (came_from c w.map k s at serial is) (own'.live at serial is) inside

      -- Objects that are about to be settled.

      zeroed_by : (at : ObjectAt) (cpu index byte f : ℕ) (t : Section) → s ≡ t → Zeroes at t → IsObject made.map.chunks at (InHand k) → IsWordOf c at cpu index byte → slice_get (effect_as c w.map k t).frames (byte / 4096) ≡ Some (Some f)
          → word_at (effect_as c w.map k t).frames (effect_as c w.map k t).cells byte ≡ pos 0
      zeroed_by at cpu index byte f r e (Populated missing) is word h = zeroed_own c (effect_as c w.map k (Populate at missing)).frames w.map.cells at (wordy_of c made own' at (InHand k) is) cpu index byte f word h
      zeroed_by at cpu index byte f r e Zeroed is word h = zeroed_own c w.map.frames w.map.cells at (wordy_of c made own' at (InHand k) is) cpu index byte f word h

      zeroed_own_now : (at : ObjectAt) → IsZeroedAt moved.place at → (cpu index byte : ℕ) → IsWordOf c at cpu index byte → word_at made.map.frames made.map.cells byte ≡ pos 0
      zeroed_own_now at is cpu index byte word =
          let held = own'.hand k moved at (set_same w.locals k l moved here) is in
          let frame = word_mapped c made.map at cpu index byte (wordy_of c made own' at (InHand k) held.0) word held.1 in
          zeroed_by at cpu index byte frame.0 s refl (zeroes at is) held.0 word frame.1

      zeroed_other_now : (j : ℕ) (x : Local) (at : ObjectAt) → slice_get made.locals j ≡ Some x → slice_get w.locals j ≡ Some x → j ≢ k → IsZeroedAt x.place at → (cpu index byte : ℕ) → IsWordOf c at cpu index byte → word_at made.map.frames made.map.cells byte ≡ pos 0
      zeroed_other_now j x at now was apart is cpu index byte word =
          let held = own.hand j x at was is in
          word_same c w own k l.place hand usable at (InHand j) held.0 held.1 cpu index byte word s meets legal own'.cells.own (own'.hand j x at now is).1 (λ touched. hand_untouched c w own kept k l here hand usable at j cpu index s apart meets held.0 touched)
          ∙ kept.zeroed j x at was is cpu index byte word

      zeroed_now : (j : ℕ) (x : Local) (at : ObjectAt) → slice_get made.locals j ≡ Some x → IsZeroedAt x.place at → (cpu index byte : ℕ) → IsWordOf c at cpu index byte → word_at made.map.frames made.map.cells byte ≡ pos 0
      zeroed_now j x at now is cpu index byte word = elim (set_cases w.locals k j moved x now) [
        | inl e ↦ zeroed_own_now at (subst (λ (y : Local). IsZeroedAt y.place at) e.1 is) cpu index byte word
        | inr e ↦ zeroed_other_now j x at now e.1 e.0 is cpu index byte word
      ]

      -- Sums that were told.

      told_last : (at : ObjectAt) (serial index : ℕ) (total : ℤ) → s ≡ SumWords at serial index total → total ≡ added serial index w.events
      told_last at serial index total e = grind (arith, sums_at)

      told_now : (i caller serial index : ℕ) (at : ObjectAt) (total : ℤ) → IsEvent made.events i caller (SumWords at serial index total) → total ≡ added serial index (take i made.events)
      told_now i caller serial index at total h = by_event (which_event w.events k s i caller (SumWords at serial index total) h)
        where
          by_event : WhichEvent w.events k s i caller (SumWords at serial index total) → total ≡ added serial index (take i made.events)
          by_event (Before low was) = kept.told i caller serial index at total was ∙ ap (added serial index) (sym (take-append-le i w.events (event ∷ []) (omega arith)))
          by_event (Last end mine same) = told_last at serial index total same ∙ ap (added serial index) (sym (take-append-le i w.events (event ∷ []) (omega arith) ∙ take_all i w.events (omega arith)))

      pub summed_section : IsSummed c made
      summed_section = record {
        serials = λ at serial is. serial_by at serial s legal (came_from c w.map k s at serial is);
        unique = λ at o serial is is'. unique_by at o serial (came_from c w.map k s at serial is) (came_from c w.map k s o serial is');
        later = later_now;
        sums = sums_now;
        zeroed = zeroed_now;
        told = told_now;
      }

-- Sums are the adds, in every trace.

-- what the words of objects rest on

module _ (c : Setup) (setup : IsSetup c) (w : World) (framed : IsFramed c w) (is : IsTraceWorld c w) where
  live_mapped : (at : ObjectAt) (serial : ℕ) → IsObject w.map.chunks at (Lives serial) → OnPages (object_pages c at) (IsMapped w.map)
  live_mapped at serial object = subst (λ b. OnPages (pages_in_units c b (pages_of_object at)) (IsMapped w.map)) object.based
      (populated_mapped c w is.chunks is.objects object.chunk object.there (pages_of_object at)
      (λ page e. object_done c w is.chunks is.objects object.chunk object.object object.there object.object_there (ap is_in_hand object.lives) page
      (ap (λ n. is_among (pages_of_bytes n object.object.bytes) page) object.off ∙ ap (λ n. is_among (pages_of_bytes at.off n) page) object.bytes ∙ e)))

  -- an object that is about to be settled
  hand_by : (k : ℕ) (p : Place) (at : ObjectAt) → IsObjectAt w.map k p → IsChunkAt c w.map p → IsZeroedAt p at → IsObject w.map.chunks at (InHand k) × OnPages (object_pages c at) (IsMapped w.map)
  hand_by k (SettlingObject own) at hand chunk e = subst (λ x. IsObject w.map.chunks x (InHand k) × OnPages (object_pages c x) (IsMapped w.map)) e (
    hand,
    (λ x f. (let u = unit_page c own.base x (pages_of_object own) f in subst (IsMapped w.map) (sym u.same) ((chunk.1 u.page u.among).1 u.cpu u.unit u.at))),
  )
  hand_by k (SettlingAtomic own) at hand chunk e = subst (λ x. IsObject w.map.chunks x (InHand k) × OnPages (object_pages c x) (IsMapped w.map)) e (
    hand,
    subst (λ b. OnPages (pages_in_units c b (pages_of_object own)) (IsMapped w.map)) hand.based
        (populated_mapped c w is.chunks is.objects hand.chunk hand.there (pages_of_object own) (λ page f. chunk.populated hand.chunk hand.there hand.numbered page f)),
  )
  hand_by k _ at hand chunk e = absurd e

  own_hand : (k : ℕ) (l : Local) → slice_get w.locals k ≡ Some l → IsObjectAt w.map k l.place
  own_hand k l here = subst (λ i. IsObjectAt w.map i l.place) (framed.own k l here).caller (is.objects.hands k l here)

  words_own : HaveCells c w.map → AreWordsOwn c w
  words_own cells = record {
    fine = is.objects.fine;
    copies = λ byte. copies_once c setup.units w.map (SomeonePlaces w) (λ page. (let o = is.area.once page in omega arith)) (λ h there. (is.chunks.chunks h there).live) is.objects.fine byte;
    cells = record { own = is.clean.own.own; few = cells.few; long = cells.long };
    live = live_mapped;
    hand = λ k l at here zeroed. hand_by k l.place at (own_hand k l here) (is.chunks.each k l here) zeroed;
  }

pub record IsSumWorld (c : Setup) (opening : List Call) (calls : List (List Call)) (w : World) : Type 0 where
  pub trace : IsTraceWorld c w
  pub cells : HaveCells c w.map
  pub sized : AreSized opening calls w
  pub summed : IsSummed c w

just_begins : (P : Place → Type 0) (c : Setup) → ((p : Place) → ((at : ObjectAt) → IsZeroedAt p at → ⊥) → P p) → HaveBeginnings P c
just_begins P c have p opens = grind arith

-- a beginning settles nothing
abbrev IsUnsettling : Place → Type 0
IsUnsettling p = (at : ObjectAt) → IsZeroedAt p at → ⊥

module _ (c : Setup) (opening : List Call) (calls : List (List Call)) (trace : IsTrace c opening calls) where
  usable : (w : World) (framed : IsFramed c w) (is : IsSumWorld c opening calls w) (k : ℕ) (l : Local) (here : slice_get w.locals k ≡ Some l) → IsUsable c w.map l.place
  usable w framed is k l here = grind (arith, add_within, named_live, sum_within)

-- Each legal section keeps it.

module _ (opening : List Call) (calls : List (List Call)) (w : World) (l : Local) (s : Section) (trace : IsTrace l.setup opening calls) (framed : IsFramed l.setup w) (is : IsSumWorld l.setup opening calls w) (step : IsLegalStep w l.caller l s) where
  trace_now : IsTraceWorld l.setup (made_by w l s)
  trace_now = (trace_lasts l.setup opening calls trace).steps w l.caller l s framed is.trace step

  cells_now : HaveCells l.setup (made_by w l s).map
  cells_now = have_cells_section l.setup w.map l.caller s is.cells

  zeroes : (at : ObjectAt) → IsZeroedAt (moved_to l (next l.setup l.place s)).place at → Zeroes at s
  zeroes = moved_has (IsJustZeroed s) l (just_begins (IsJustZeroed s) l.setup (λ p none at is. absurd (none at is)))
      (has_call l.setup l.caller l (framed.own l.caller l step.step.here) (not_over l.setup w.map l.place s step.step.gives)) (next l.setup l.place s) (zeroed_next l.setup l.place s step.meets)

  sum_step : IsSumWorld l.setup opening calls (made_by w l s)
  sum_step = record {
    trace = trace_now;
    cells = cells_now;
    sized = (sized_lasts l.setup opening calls).steps w l.caller l s framed is.sized step;
    summed = summed_section l.setup w (words_own l.setup trace.setup w framed is.trace is.cells) is.summed l.caller l step.step.here (own_hand l.setup trace.setup w framed is.trace l.caller l step.step.here)
        (usable l.setup opening calls trace w framed is l.caller l step.step.here) s step.meets step.legal (moved_to l (next l.setup l.place s))
        (words_own l.setup trace.setup (made_by w l s) (framed_step l.setup w l.caller l s framed step.step) trace_now cells_now) zeroes;
  }

module _ (c : Setup) (opening : List Call) (calls : List (List Call)) (trace : IsTrace c opening calls) where
  started_unsettling : (answers : List Answered) (k : ℕ) (own : List Call) → IsUnsettling (started c answers k own).place
  started_unsettling answers k own = begins_with IsUnsettling c (just_begins IsUnsettling c (λ p none. none)) answers [] (slice_get own 0)

  sum_lasts : IsLegallyLasting c calls (IsSumWorld c opening calls)
  sum_lasts = record {
    steps = λ w k l s framed is step. by_caller (λ d v. IsTrace d opening calls → IsSumWorld d opening calls v) (λ w l s framed is step trace. sum_step opening calls w l s trace framed (is trace) step) c w k l s framed (λ t. is) step trace;
    joins = λ w framed one is over. record {
      trace = (trace_lasts c opening calls trace).joins w framed one is.trace over;
      cells = is.cells;
      sized = (sized_lasts c opening calls).joins w framed one is.sized over;
      summed = record {
        serials = is.summed.serials;
        unique = is.summed.unique;
        later = is.summed.later;
        sums = is.summed.sums;
        zeroed = λ k l at here zeroed cpu index byte word. elim (append_cases w.locals (callers_from c (opening_answers w.locals) 1 calls) k l here) [
          | inl e ↦ is.summed.zeroed k l at e zeroed cpu index byte word
          | inr e ↦ absurd (all_started (λ x. IsUnsettling x.place) c (opening_answers w.locals) 1 calls (started_unsettling (opening_answers w.locals)) e.0 l e.2 at zeroed)
        ];
        told = is.summed.told;
      };
    };
  }

  sum_first : IsSumWorld c opening calls (opening_world c opening calls)
  sum_first = record {
    trace = trace_first c opening calls trace;
    cells = have_cells_first c opening calls;
    sized = sized_first c opening calls;
    summed = record {
      serials = λ at serial is. (let none = is.there.at in cc);
      unique = λ at own serial is is'. (let none = is.there.at in cc);
      later = λ serial index high. refl;
      sums = λ at serial index is inside. (let none = is.there.at in cc);
      zeroed = λ k l at here zeroed cpu index byte word. absurd (all_started (λ x. IsUnsettling x.place) c [] 0 (opening ∷ []) (started_unsettling []) k l here at zeroed);
      told = λ i caller serial index at total h. cc;
    };
  }

  sum_reached : (w : World) → IsReached c opening calls w → IsFramed c w × IsSumWorld c opening calls w
  sum_reached w reached = legally_lasts c calls (IsSumWorld c opening calls) sum_lasts opening sum_first w reached

-- an object of the map
object_here : (w : World) (i j : ℕ) (h : Chunk) (o : Object) → slice_get w.map.chunks i ≡ Some h → slice_get h.objects j ≡ Some o → IsObject w.map.chunks (object_at h o) o.life
object_here w i j h o e f = grind arith

lives_under : (life : Life) → is_live life ≡ true → (serial : ℕ) × (life ≡ Lives serial)
lives_under life e = grind arith

pub sums_are_the_adds : SumsAreTheAdds
sums_are_the_adds c opening calls w trace reached =
    let both = sum_reached c opening calls trace w reached in let framed = both.0 in let is = both.1 in
    let own = words_own c trace.setup w framed is.trace is.cells in record {
      one_word = λ caller serial cpu index at amount event i j cpu' index' h o e f alive low inside. (
          let step = event_legal w (record { caller = caller; section = AddWord at serial cpu index amount }) event in
          let here = step.1.step.here in
          let meets = subst (λ d. Meets d (ask d step.0.place) (AddWord at serial cpu index amount)) (framed.own caller step.0 here).setup step.1.meets in
          let used = subst (IsUsable c w.map) (adds_at c step.0.place at serial cpu index amount meets) (usable c opening calls trace w framed is caller step.0 here) in
          let hand = own_hand c trace.setup w framed is.trace caller step.0 here in
          let word = add_word_of c w own caller step.0.place hand (usable c opening calls trace w framed is caller step.0 here) at cpu index used.1 used.2 in
          let word' = add_word_of c w own caller step.0.place hand (usable c opening calls trace w framed is caller step.0 here) (object_at h o) cpu' index' low inside in
          let object = object_here w i j h o e f in
          let live = lives_under o.life alive in
          let lives = subst (IsObject w.map.chunks (object_at h o)) live.1 object in
          grown c w.map caller own.copies own.cells (SomeonePlaces w) own.fine at (Lives serial) used.0 (wordy_of c w own at (Lives serial) used.0) (own.live at serial used.0) serial cpu index word.0 amount word.1
          (object_at h o) o.life cpu' index' word'.0 object (wordy_of c w own (object_at h o) o.life object) (own.live (object_at h o) live.0 lives) word'.1);
      sums = is.summed.told;
    }
