-- Which places have the two turns, before and after each section, and which sections leave them.
use Rattle.std.proofs.Common.{◌≡◌, ℕ, Bool, true, false, List, slice_get, slice_set, Option, Some, None, ap, ◌∙◌, refl, arith, ◌≢◌, zero, suc, ◌<◌, ◌⊎◌, inl, inr, [], ◌∷◌, length, is_none, sym, subst}
use Rattle.vm_model.specs.Places.{Place, Ask, AskTakePurge, AskGivePurge, AskTakeAlloc, AskGiveAlloc, AskAddChunk, PurgeTaking, PurgeGiving, TakingAlloc, GivingAlloc, TakingToBalance, ask, AskNothing}
use Rattle.vm_model.specs.History.{World, Local, started, moved_to, made_by, opening_world, opening_answers, callers_from, with_callers, moves_in}
use Rattle.vm_model.specs.Carried.{IsTurnKept, has_purge, has_alloc}
use Rattle.map_laws.proofs.KeptThroughSteps.{same_or, set_same, set_cases, set_other, append_cases, append_first, IsFramed, IsStep, IsLasting, lasts, not_over, has_call}
use Rattle.vm_model.specs.Setup.{Setup}
use Rattle.vm_model.specs.PlainMap.{PlainMap}
use Rattle.vm_model.specs.Events.{Section, TakePurge, GivePurge, TakeAlloc, GiveAlloc, ForGroups}
use Rattle.vm_model.specs.Effects.{effect_as}
use Rattle.vm_model.specs.Given.{given, can_move}
use Rattle.map_laws.proofs.AskRows.{ask_row}
use Rattle.map_laws.proofs.GivenMeets.{given_meets, taking_is}
use Rattle.vm_model.specs.Next.{Next, Go, Answer, next}
use Rattle.map_laws.proofs.ProperPlaces.{IsProper, no_span, AllStand, HaveBeginnings, AtOver, begins_with, moved_has, all_started, proper_begins, proper_lasts, stand_first}
use Rattle.map_laws.proofs.PlaceRows.{PlaceRow, FoundNoGroups, AgainNoGroups, place_row}
use Rattle.vm_model.specs.declared.calls.Call.{Call}
use Rattle.vm_model.specs.Calls.{Answered}
use Rattle.vm_model.specs.LegalHistory.{IsReached}
use Rattle.vm_model.specs.Laws.{ThePurgeTurnIsTakenLast}
use Rattle.map_laws.specs.TwoTurns.{AreTurnsKept, TheTurnsAreKept}

-- Each of the two turns is with the one caller whose place has it.

-- a turn stays with its caller or with nobody, or is taken, or is given back
pub data Change (t after : Option ℕ) (k : ℕ) (b now : Bool) : Type 0 where
  Stays : after ≡ t → now ≡ b → Change t after k b now
  Taken : t ≡ None → after ≡ Some k → now ≡ true → Change t after k b now
  Given : b ≡ true → after ≡ None → now ≡ false → Change t after k b now

module _ (has : Place → Bool) (w : World) (k : ℕ) (l : Local) (t after : Option ℕ) (w' : World) (moved : Local)
    (here : slice_get w.locals k ≡ Some l) (set : w'.locals ≡ slice_set w.locals k moved) where
  now_moved : slice_get w'.locals k ≡ Some moved
  now_moved = ap (λ (ls : List Local). slice_get ls k) set ∙ set_same w.locals k l moved here

  pub turn_moves : IsTurnKept w t has → Change t after k (has l.place) (has moved.place) → IsTurnKept w' after has
  turn_moves kept change = grind (arith, set_other, now_moved)

-- Which sections leave the two turns as they are: all that ask for no turn.

abbrev pub is_turn : Section → Bool
is_turn TakePurge = true
is_turn GivePurge = true
is_turn TakeAlloc = true
is_turn GiveAlloc = true
is_turn _ = false

abbrev pub asks_turn : Ask → Bool
asks_turn AskTakePurge = true
asks_turn AskGivePurge = true
asks_turn AskTakeAlloc = true
asks_turn AskGiveAlloc = true
asks_turn _ = false

-- such a section takes and gives no turn
pub purge_stays : (c : Setup) (m : PlainMap) (k : ℕ) (s : Section) → is_turn s ≡ false → (effect_as c m k s).purge_turn ≡ m.purge_turn
purge_stays c m k s e = grind arith

pub alloc_stays : (c : Setup) (m : PlainMap) (k : ℕ) (s : Section) → is_turn s ≡ false → (effect_as c m k s).alloc_turn ≡ m.alloc_turn
alloc_stays c m k s e = grind arith

-- What the map gives to an ask for no turn is no section of a turn.

pub no_turn : (c : Setup) (m : PlainMap) (a : Ask) (s : Section) → asks_turn a ≡ false → given c m a ≡ Some s → is_turn s ≡ false
no_turn c m a s n e = grind arith

-- Which places have the two turns, before and after each section.

-- whether the place behind a section has the turn; an answer's has none
abbrev pub has_next : (Place → Bool) → Next → Bool
has_next has (Go p) = has p
has_next has (Answer reply made) = false

-- that a place has, or hasn't, a turn
abbrev pub Has : (Place → Bool) → Bool → Place → Type 0
Has has v p = has p ≡ v

module _ (c : Setup) (m : PlainMap) where
  alloc_row : (s : Section) (p : Place) (n : Next) → PlaceRow c s p n → IsProper c p → given c m (ask c p) ≡ Some s → asks_turn (ask c p) ≡ false → has_next has_alloc n ≡ has_alloc p
  alloc_row s _ _ (FoundNoGroups ForGroups chunk bytes align place f) is e h = (let none = no_span c m s e in cc)
  alloc_row s _ _ (AgainNoGroups ForGroups chunk bytes align place f) is e h = (let none = no_span c m s e in cc)
  alloc_row s _ _ _ is e h = grind arith

  module _ (k : ℕ) where
    same_section : (x s : Section) → Some x ≡ Some s → s ≡ x
    same_section x s e = cc

    purge_by : (p : Place) (s : Section) (b : Bool) → asks_turn (ask c p) ≡ b → given c m (ask c p) ≡ Some s
        → Change m.purge_turn (effect_as c m k s).purge_turn k (has_purge p) (has_next has_purge (next c p s))
    purge_by p s false n e = grind (arith, purge_stays, no_turn, place_row)
    purge_by (PurgeTaking extra after) s true n e = let is = taking_is m.purge_turn TakePurge s e in Taken is.0 (ap (λ x. (effect_as c m k x).purge_turn) is.1) refl
    purge_by (PurgeGiving after) s true n e = grind (arith, same_section)
    purge_by (TakingAlloc bytes align) s true n e = Stays (ap (λ x. (effect_as c m k x).purge_turn) (taking_is m.alloc_turn TakeAlloc s e).1) refl
    purge_by TakingToBalance s true n e = Stays (ap (λ x. (effect_as c m k x).purge_turn) (taking_is m.alloc_turn TakeAlloc s e).1) refl
    purge_by (GivingAlloc reply made) s true n e = Stays (ap (λ x. (effect_as c m k x).purge_turn) (same_section GiveAlloc s e)) refl
    purge_by _ s true n e = cc

    -- what a section does to the purge turn, and what its place and the next one have of it
    pub purge_change : (p : Place) (s : Section) → given c m (ask c p) ≡ Some s → Change m.purge_turn (effect_as c m k s).purge_turn k (has_purge p) (has_next has_purge (next c p s))
    purge_change p s e = purge_by p s (asks_turn (ask c p)) refl e

    alloc_by : (p : Place) (s : Section) (b : Bool) → asks_turn (ask c p) ≡ b → IsProper c p → given c m (ask c p) ≡ Some s
        → Change m.alloc_turn (effect_as c m k s).alloc_turn k (has_alloc p) (has_next has_alloc (next c p s))
    alloc_by p s false n is e = Stays (alloc_stays c m k s (no_turn c m (ask c p) s n e)) (alloc_row s p (next c p s) (place_row c s p) is e n)
    alloc_by (PurgeTaking extra after) s true n is e = Stays (ap (λ x. (effect_as c m k x).alloc_turn) (taking_is m.purge_turn TakePurge s e).1) refl
    alloc_by (PurgeGiving after) s true n is e = grind (arith, same_section)
    alloc_by (TakingAlloc bytes align) s true n is e = let at = taking_is m.alloc_turn TakeAlloc s e in Taken at.0 (ap (λ x. (effect_as c m k x).alloc_turn) at.1) refl
    alloc_by TakingToBalance s true n is e = let at = taking_is m.alloc_turn TakeAlloc s e in Taken at.0 (ap (λ x. (effect_as c m k x).alloc_turn) at.1) refl
    alloc_by (GivingAlloc reply made) s true n is e = Given refl (ap (λ x. (effect_as c m k x).alloc_turn) (same_section GiveAlloc s e)) refl
    alloc_by _ s true n is e = cc

    -- what a section does to the alloc turn, and what its place and the next one have of it
    pub alloc_change : (p : Place) (s : Section) → IsProper c p → given c m (ask c p) ≡ Some s → Change m.alloc_turn (effect_as c m k s).alloc_turn k (has_alloc p) (has_next has_alloc (next c p s))
    alloc_change p s is e = alloc_by p s (asks_turn (ask c p)) refl is e

-- The turns are kept in each reached world, and the purge turn is taken last.

no_purge_begins : (c : Setup) → HaveBeginnings (Has has_purge false) c
no_purge_begins c p opens = grind arith

no_alloc_begins : (c : Setup) → HaveBeginnings (Has has_alloc false) c
no_alloc_begins c p opens = grind arith

module _ (has : Place → Bool) (none : (c : Setup) → HaveBeginnings (Has has false) c) where
  has_moved : (l : Local) → length l.answers < length l.calls → (n : Next) → has (moved_to l n).place ≡ has_next has n
  has_moved l h (Go p) = refl
  has_moved l h (Answer r made) = moved_has (Has has false) l (none l.setup) h (Answer r made) tt

  -- callers at their start have no turn
  turn_first : (c : Setup) (opening : List Call) (calls : List (List Call)) → IsTurnKept (opening_world c opening calls) None has
  turn_first c opening calls = record {
    mine = λ k l at h. let no : has l.place ≡ false = (stand_first (λ d. Has has false) c opening calls (none c)).each k l at in cc;
    holder = λ k e. cc;
  }

  turn_joins : (c : Setup) (calls : List (List Call)) (w : World) (t : Option ℕ) → IsTurnKept w t has → IsTurnKept (with_callers c calls w) t has
  turn_joins c calls w t kept = record {
    mine = λ k l at h. elim (append_cases w.locals (callers_from c (opening_answers w.locals) 1 calls) k l at) [
      | inl e ↦ kept.mine k l e h
      | inr e ↦ let no = all_started (λ x. has x.place ≡ false) c (opening_answers w.locals) 1 calls (λ i own. begins_with (Has has false) c (none c) (opening_answers w.locals) [] (slice_get own 0)) e.0 l e.2 in cc
    ];
    holder = λ k e. let was = kept.holder k e in (was.0, append_first w.locals _ k was.0 was.1, was.2);
  }

  turn_step : (w : World) (l : Local) (s : Section) (t after : Option ℕ) → slice_get w.locals l.caller ≡ Some l → length l.answers < length l.calls
      → IsTurnKept w t has → Change t after l.caller (has l.place) (has_next has (next l.setup l.place s)) → IsTurnKept (made_by w l s) after has
  turn_step w l s t after here h kept change = search (turn_moves, has_moved, arith) depth 6

-- what is needed beside the turns themselves
pub record AreTurnsProper (w : World) : Type 0 where
  pub proper : AllStand IsProper w
  pub turns : AreTurnsKept w

turns_step : (c : Setup) (w : World) (k : ℕ) (l : Local) (s : Section) → IsFramed c w → AreTurnsKept w → IsProper l.setup l.place → IsStep w k l s → AreTurnsKept (made_by w l s)
turns_step c w k l s framed kept proper step = grind (arith, turn_step, no_purge_begins, purge_change, no_alloc_begins, alloc_change)

pub turns_last : (c : Setup) (calls : List (List Call)) → IsLasting c calls AreTurnsProper
turns_last c calls = record {
  steps = λ w k l s framed kept step. record {
    proper = (proper_lasts c calls).steps w k l s framed kept.proper step;
    turns = turns_step c w k l s framed kept.turns (kept.proper.each k l step.here) step;
  };
  joins = λ w framed one kept over. record {
    proper = (proper_lasts c calls).joins w framed one kept.proper over;
    turns = record { purge = turn_joins has_purge no_purge_begins c calls w _ kept.turns.purge; alloc = turn_joins has_alloc no_alloc_begins c calls w _ kept.turns.alloc };
  };
}

pub turns_first : (c : Setup) (opening : List Call) (calls : List (List Call)) → AreTurnsProper (opening_world c opening calls)
turns_first c opening calls = grind (arith, stand_first, proper_begins, turn_first, no_purge_begins, no_alloc_begins)

pub turns_proper : (c : Setup) (opening : List Call) (calls : List (List Call)) (w : World) → IsReached c opening calls w → IsFramed c w × AreTurnsProper w
turns_proper c opening calls w reached = lasts c opening calls AreTurnsProper (turns_first c opening calls) (turns_last c calls) w reached

pub turns_kept : TheTurnsAreKept
turns_kept c opening calls w trace reached = (turns_proper c opening calls w reached).1.turns

-- Who has a turn can move, or waits for the purge turn.

-- whether an ask waits for no turn
abbrev is_ready : Ask → Bool
is_ready AskNothing = false
is_ready AskTakePurge = false
is_ready AskTakeAlloc = false
is_ready _ = true

ready_moves : (m : PlainMap) (a : Ask) → is_ready a ≡ true → can_move m a ≡ true
ready_moves m a h = grind arith

has_purge_ready : (c : Setup) (p : Place) → has_purge p ≡ true → is_ready (ask c p) ≡ true
has_purge_ready c p h = grind arith

has_alloc_ready : (c : Setup) (p : Place) → has_alloc p ≡ true → (ask c p ≡ AskTakePurge) ⊎ (is_ready (ask c p) ≡ true)
has_alloc_ready c p h = grind arith

module _ (w : World) (kept : AreTurnsKept w) where
  moves_at : (k : ℕ) (l : Local) → slice_get w.locals k ≡ Some l → can_move w.map (ask l.setup l.place) ≡ true → moves_in w (slice_get w.locals k) ≡ true
  moves_at k l here h = ap (moves_in w) here ∙ h

  -- where someone waits for the purge turn, someone moves
  purge_moves : (k : ℕ) (l : Local) → slice_get w.locals k ≡ Some l → ask l.setup l.place ≡ AskTakePurge → (t : Option ℕ) → w.map.purge_turn ≡ t → (j : ℕ) × (moves_in w (slice_get w.locals j) ≡ true)
  purge_moves k l here e None t = (k, moves_at k l here (ap (can_move w.map) e ∙ ap is_none t))
  purge_moves k l here e (Some j) t = let at = kept.purge.holder j t in (j, moves_at j at.0 at.1 (ready_moves w.map (ask at.0.setup at.0.place) (has_purge_ready at.0.setup at.0.place at.2)))

  alloc_moves : (k : ℕ) (l : Local) → slice_get w.locals k ≡ Some l → ask l.setup l.place ≡ AskTakeAlloc → (t : Option ℕ) → w.map.alloc_turn ≡ t → (j : ℕ) × (moves_in w (slice_get w.locals j) ≡ true)
  alloc_moves k l here e None t = (k, moves_at k l here (ap (can_move w.map) e ∙ ap is_none t))
  alloc_moves k l here e (Some j) t = let at = kept.alloc.holder j t in
      elim (has_alloc_ready at.0.setup at.0.place at.2) [
        | inl waits ↦ purge_moves j at.0 at.1 waits w.map.purge_turn refl
        | inr ready ↦ (j, moves_at j at.0 at.1 (ready_moves w.map (ask at.0.setup at.0.place) ready))
      ]

  moves_by : (k : ℕ) (l : Local) → slice_get w.locals k ≡ Some l → (a : Ask) → ask l.setup l.place ≡ a → a ≢ AskNothing → (j : ℕ) × (moves_in w (slice_get w.locals j) ≡ true)
  moves_by k l here AskNothing e n = absurd (n refl)
  moves_by k l here AskTakePurge e n = purge_moves k l here e w.map.purge_turn refl
  moves_by k l here AskTakeAlloc e n = alloc_moves k l here e w.map.alloc_turn refl
  moves_by k l here _ e n = (k, moves_at k l here (ap (can_move w.map) e))

  pub some_moves : (k : ℕ) (l : Local) → slice_get w.locals k ≡ Some l → ask l.setup l.place ≢ AskNothing → (j : ℕ) × (moves_in w (slice_get w.locals j) ≡ true)
  some_moves k l here n = moves_by k l here (ask l.setup l.place) refl n

  holder_takes_none : (k : ℕ) (l : Local) → w.map.purge_turn ≡ Some k → slice_get w.locals k ≡ Some l → (ask l.setup l.place ≢ AskTakePurge) × (ask l.setup l.place ≢ AskTakeAlloc)
  holder_takes_none k l t here = grind arith

pub purge_last : ThePurgeTurnIsTakenLast
purge_last c opening calls w trace reached =
    let kept = turns_kept c opening calls w trace reached in
    record { takes_none = holder_takes_none w kept; some_moves = some_moves w kept }
