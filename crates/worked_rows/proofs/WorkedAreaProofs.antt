-- What the worked traces of areas leave, computed.
use Rattle.std.proofs.Common.{refl}
use Rattle.vm_model.specs.History.{history_of, finish}
use Rattle.worked_rows.specs.WorkedAreas.{EmptyTrace, TwoAreasWithGuards, NoSpaceAfterAPurge, FreedPagesWait, APurgeMakesRoom, AlignedAboveAPage, TheFirstFreeWins, TheOtherFreeWins, StaysAtTheTurn, LazyLimitPurges, RefusedCalls, PicksInTurn, AlignedToTheWholeRange, TwoFreeRuns, TwoWithoutSpace}

pub empty_trace : EmptyTrace
unfolding history_of finish
empty_trace = refl

pub two_areas_with_guards : TwoAreasWithGuards
unfolding history_of finish
two_areas_with_guards = refl

pub no_space_after_a_purge : NoSpaceAfterAPurge
unfolding history_of finish
no_space_after_a_purge = refl

pub freed_pages_wait : FreedPagesWait
unfolding history_of finish
freed_pages_wait = refl

pub a_purge_makes_room : APurgeMakesRoom
unfolding history_of finish
a_purge_makes_room = refl

pub aligned_above_a_page : AlignedAboveAPage
unfolding history_of finish
aligned_above_a_page = refl

pub the_first_free_wins : TheFirstFreeWins
unfolding history_of finish
the_first_free_wins = refl

pub the_other_free_wins : TheOtherFreeWins
unfolding history_of finish
the_other_free_wins = refl

pub stays_at_the_turn : StaysAtTheTurn
unfolding history_of finish
stays_at_the_turn = refl

pub lazy_limit_purges : LazyLimitPurges
unfolding history_of finish
lazy_limit_purges = refl

pub refused_calls : RefusedCalls
unfolding history_of finish
refused_calls = refl

pub picks_in_turn : PicksInTurn
unfolding history_of finish
picks_in_turn = refl

pub aligned_to_the_whole_range : AlignedToTheWholeRange
unfolding history_of finish
aligned_to_the_whole_range = refl

pub two_free_runs : TwoFreeRuns
unfolding history_of finish
two_free_runs = refl

pub two_without_space : TwoWithoutSpace
unfolding history_of finish
two_without_space = refl
