-- The laws and the links of the model, as tests on the whole run of a trace.
use Rattle.std.specs.Prelude.{List, Bool, ◌&&◌}
use Rattle.std.specs.List.{list_all}
use Rattle.vm_model.specs.Setup.{Setup}
use Rattle.vm_model.specs.History.{World}
use Rattle.law_tests.specs.Machines.{Machine, Trial, worlds, first_of, last_world}
use Rattle.law_tests.specs.AreaChecks as area
use Rattle.law_tests.specs.TurnChecks as turn
use Rattle.law_tests.specs.WaitChecks.{maps_from, are_freed_well}
use Rattle.law_tests.specs.ObjectChecks as object
use Rattle.law_tests.specs.KeptChecks as carried
use Rattle.law_tests.specs.OwnerChecks as owner
use Rattle.law_tests.specs.PartChecks as part
use Rattle.law_tests.specs.LegalChecks as legal

-- a test on the worlds that a machine runs through
abbrev pub Test : Type 0
Test = Machine → Trial → List World → Bool

abbrev pub passes : Test → Machine → Trial → Bool
passes test d t = test d t (worlds d t)

-- a test on each world of a run, and on the last one
abbrev pub always : (Setup → World → Bool) → Test
always test d t run = list_all (test t.setup) run

abbrev pub at_last : (Setup → World → Bool) → Test
at_last test d t run = test t.setup (last_world (first_of t) run)

abbrev pub areas_are_apart : Test
areas_are_apart = always area.areas_apart

abbrev pub areas_are_aligned : Test
areas_are_aligned = always area.areas_aligned

abbrev pub guards_are_never_mapped : Test
guards_are_never_mapped = always area.guards_unmapped

abbrev pub free_pages_are_clean : Test
free_pages_are_clean = always area.free_clean

abbrev pub no_page_is_lost : Test
no_page_is_lost = always area.none_lost

abbrev pub pages_wait_before_reuse : Test
pages_wait_before_reuse d t run = at_last (λ c w. are_freed_well c w.events (maps_from d c (first_of t).map w.events)) d t run

abbrev pub objects_are_mapped : Test
objects_are_mapped = always object.objects_mapped

abbrev pub adds_change_one_word : Test
adds_change_one_word d t run = always (object.adds_right d) d t run

abbrev pub sums_are_the_adds : Test
sums_are_the_adds = at_last (λ c w. object.sums_right w)

abbrev pub parts_are_apart : Test
parts_are_apart = always area.parts_apart

abbrev pub turns_are_kept : Test
turns_are_kept = always (λ c w. turn.turns_kept w)

abbrev pub purge_turn_is_taken_last : Test
purge_turn_is_taken_last = always (λ c w. turn.purge_last w)

abbrev pub what_is_carried_is_kept : Test
what_is_carried_is_kept = always carried.carried_kept

abbrev pub every_page_has_one_owner : Test
every_page_has_one_owner = always owner.keeps_apart

abbrev pub the_map_falls_apart : Test
the_map_falls_apart = always owner.falls_apart

abbrev pub every_caller_ends : Test
every_caller_ends = at_last (λ c w. turn.all_over w)

abbrev pub every_section_is_legal : Test
every_section_is_legal d t run = at_last (λ c w. legal.are_legal d c (first_of t).map w.events) d t run

abbrev pub runs_are_parts : Test
runs_are_parts d t run = part.parts_agree d t.setup run

-- all of them
abbrev pub holds_in : Machine → Setup → World → Bool
holds_in d c w = area.areas_apart c w && area.areas_aligned c w && area.guards_unmapped c w && area.free_clean c w && area.none_lost c w && object.objects_mapped c w && object.adds_right d c w && area.parts_apart c w && turn.purge_last w
    && carried.carried_kept c w && owner.keeps_apart c w && owner.falls_apart c w

abbrev pub keeps_all : Test
keeps_all d t run = always (holds_in d) d t run && pages_wait_before_reuse d t run && sums_are_the_adds d t run && every_caller_ends d t run && every_section_is_legal d t run && runs_are_parts d t run
