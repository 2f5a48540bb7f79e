-- What the tests of the laws show: that each holds on worked traces and on drawn ones, and fails where there is a fault.
use Rattle.std.specs.Prelude.{◌≡◌, ℕ, true, false}
use Rattle.std.specs.List.{list_all}
use Rattle.vm_model.specs.History.{World, step}
use Rattle.law_tests.specs.Machines.{Machine, Trial, model, step_on}
use Rattle.law_tests.specs.LawChecks.{Test, passes, keeps_all, areas_are_apart, areas_are_aligned, guards_are_never_mapped, free_pages_are_clean, no_page_is_lost, pages_wait_before_reuse, objects_are_mapped, adds_change_one_word, sums_are_the_adds, parts_are_apart, turns_are_kept, purge_turn_is_taken_last, what_is_carried_is_kept, every_page_has_one_owner, the_map_falls_apart, every_caller_ends, every_section_is_legal, runs_are_parts}
use Rattle.law_tests.specs.Faults.{with_effect, with_gift, with_way, carve_less, carve_nothing, map_more, unmap_less, free_at_once, drop_nothing, populate_first, add_to_next, add_twice, cut_first, keep_purge, remove_nothing, drop_with_serial, note_nothing, align_nothing, search_higher, flush_first, purge_again}
use Rattle.law_tests.specs.WorkedTrials.{worked_trials, two_areas, aligned_area, freed_pages_wait, a_purge_makes_room, refused_calls, two_frees, lazy_limit, a_spent_block, two_groups, words_of_an_object, atomic_and_balance}
use Rattle.law_tests.specs.DrawnAreas.{first_areas, second_areas}
use Rattle.law_tests.specs.DrawnBlocks.{drawn_blocks}
use Rattle.law_tests.specs.DrawnObjects.{first_objects, second_objects, third_objects, fourth_objects}
use Rattle.law_tests.specs.DrawnCalls.{first_calls, second_calls}

-- the machine without a fault is the model
abbrev pub TheModelIsRun : Type 0
TheModelIsRun = (w : World) (k : ℕ) → step_on model w k ≡ step w k

-- a law holds on each worked trace, and with a fault it fails on one of them
pub record IsTested (test : Test) (fault : Machine) (shown : Trial) : Type 0 where
  pub worked : list_all (passes test model) worked_trials ≡ true
  pub found : passes test fault shown ≡ false

abbrev pub AreasApartTested : Type 0
AreasApartTested = IsTested areas_are_apart (with_effect carve_less) two_areas

abbrev pub AreasAlignedTested : Type 0
AreasAlignedTested = IsTested areas_are_aligned (with_gift align_nothing) aligned_area

abbrev pub GuardsTested : Type 0
GuardsTested = IsTested guards_are_never_mapped (with_effect map_more) two_areas

abbrev pub FreePagesTested : Type 0
FreePagesTested = IsTested free_pages_are_clean (with_way flush_first) a_purge_makes_room

abbrev pub LostPagesTested : Type 0
LostPagesTested = IsTested no_page_is_lost (with_effect drop_nothing) refused_calls

abbrev pub WaitingTested : Type 0
WaitingTested = IsTested pages_wait_before_reuse (with_effect free_at_once) freed_pages_wait

-- also where the spans that wait are not all flushed
abbrev pub FlushingTested : Type 0
FlushingTested = IsTested pages_wait_before_reuse (with_way flush_first) a_purge_makes_room

abbrev pub ObjectsTested : Type 0
ObjectsTested = IsTested objects_are_mapped (with_effect populate_first) two_groups

abbrev pub AddsTested : Type 0
AddsTested = IsTested adds_change_one_word (with_effect add_to_next) words_of_an_object

abbrev pub SumsTested : Type 0
SumsTested = IsTested sums_are_the_adds (with_effect add_twice) words_of_an_object

abbrev pub PartsTested : Type 0
PartsTested = IsTested parts_are_apart (with_effect cut_first) a_spent_block

abbrev pub TurnsTested : Type 0
TurnsTested = IsTested turns_are_kept (with_effect keep_purge) lazy_limit

abbrev pub PurgeTurnTested : Type 0
PurgeTurnTested = IsTested purge_turn_is_taken_last (with_way purge_again) lazy_limit

abbrev pub CarriedTested : Type 0
CarriedTested = IsTested what_is_carried_is_kept (with_effect unmap_less) freed_pages_wait

abbrev pub OwnersTested : Type 0
OwnersTested = IsTested every_page_has_one_owner (with_effect remove_nothing) freed_pages_wait

abbrev pub PartsOfTheMapTested : Type 0
PartsOfTheMapTested = IsTested the_map_falls_apart (with_effect carve_nothing) two_areas

abbrev pub EndsTested : Type 0
EndsTested = IsTested every_caller_ends (with_effect note_nothing) atomic_and_balance

-- also where a turn isn't given back
abbrev pub StaysTested : Type 0
StaysTested = IsTested every_caller_ends (with_effect keep_purge) two_frees

abbrev pub LegalTested : Type 0
LegalTested = IsTested every_section_is_legal (with_gift search_higher) two_areas

abbrev pub RegionsTested : Type 0
RegionsTested = IsTested runs_are_parts (with_effect drop_with_serial) refused_calls

-- all of them hold on the traces that were drawn at random
abbrev pub DrawnAreasKeepTheLaws : Type 0
DrawnAreasKeepTheLaws = (list_all (passes keeps_all model) first_areas ≡ true) × (list_all (passes keeps_all model) second_areas ≡ true)

abbrev pub DrawnBlocksKeepTheLaws : Type 0
DrawnBlocksKeepTheLaws = list_all (passes keeps_all model) drawn_blocks ≡ true

abbrev pub DrawnObjectsKeepTheLaws : Type 0
DrawnObjectsKeepTheLaws = (list_all (passes keeps_all model) first_objects ≡ true) × (list_all (passes keeps_all model) second_objects ≡ true) × (list_all (passes keeps_all model) third_objects ≡ true) × (list_all (passes keeps_all model) fourth_objects ≡ true)

abbrev pub DrawnCallsKeepTheLaws : Type 0
DrawnCallsKeepTheLaws = (list_all (passes keeps_all model) first_calls ≡ true) × (list_all (passes keeps_all model) second_calls ≡ true)
