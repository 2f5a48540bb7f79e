-- The turns are kept, the purge turn is taken last, and every caller ends: as tests.
use Rattle.std.specs.Prelude.{ℕ, Bool, true, false, not, ◌&&◌, ◌||◌, ◌==◌, Option, Some, None}
use Rattle.std.specs.List.{list_all, list_any}
use Rattle.vm_model.specs.Places.{Place, Ask, AskNothing, AskTakePurge, AskTakeAlloc, ask}
use Rattle.vm_model.specs.Given.{can_move}
use Rattle.vm_model.specs.History.{World, Local}
use Rattle.vm_model.specs.Carried.{has_purge, has_alloc}
use Rattle.law_tests.specs.Same.{same_bool}

abbrev pub is_turn_of : ℕ → Option ℕ → Bool
is_turn_of k None = false
is_turn_of k (Some holder) = holder == k

-- each turn is with the one caller whose place has it
abbrev pub is_turn_kept : World → Option ℕ → (Place → Bool) → Bool
is_turn_kept w turn has = list_all (λ (l : Local). same_bool (has l.place) (is_turn_of l.caller turn)) w.locals

abbrev pub turns_kept : World → Bool
turns_kept w = is_turn_kept w w.map.purge_turn has_purge && is_turn_kept w w.map.alloc_turn has_alloc

abbrev pub takes_turn : Ask → Bool
takes_turn AskTakePurge = true
takes_turn AskTakeAlloc = true
takes_turn _ = false

abbrev pub is_over : Ask → Bool
is_over AskNothing = true
is_over _ = false

-- who has the purge turn takes none, and while someone hasn't ended, someone moves
abbrev pub all_over : World → Bool
all_over w = list_all (λ (l : Local). is_over (ask l.setup l.place)) w.locals

abbrev pub some_moves : World → Bool
some_moves w = list_any (λ (l : Local). can_move w.map (ask l.setup l.place)) w.locals

abbrev pub purge_last : World → Bool
purge_last w = list_all (λ (l : Local). not (is_turn_of l.caller w.map.purge_turn) || not (takes_turn (ask l.setup l.place))) w.locals && (all_over w || some_moves w)
