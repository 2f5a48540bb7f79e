-- Every world that a legal history leads to keeps the laws.
use Rattle.std.proofs.Common.{◌≡◌, ℕ, zero, suc, List, [], ◌∷◌, length, inr, slice_get, Some, arith}
use Rattle.std.proofs.lemmas.Option.{same_Some}
use Rattle.vm_model.specs.declared.calls.Call.{Call}
use Rattle.vm_model.specs.Setup.{Setup}
use Rattle.vm_model.specs.Places.{Over}
use Rattle.vm_model.specs.LegalHistory.{AllOver}
use Rattle.vm_model.specs.History.{World, Local, history_of}
use Rattle.vm_model.specs.Rules.{IsTrace}
use Rattle.vm_model.specs.Laws.{IsOneLegalHistory}
use Rattle.map_laws.proofs.TurnProofs.{turns_kept, purge_last}
use Rattle.map_laws.proofs.MapLaws.{areas_apart, guard_unmapped, free_clean, parts_disjoint, objects_mapped}
use Rattle.map_laws.proofs.CarriedKept.{carried_kept}
use Rattle.map_laws.proofs.SumLaws.{sums_are_the_adds}
use Rattle.map_laws.proofs.waits.WaitReached.{pages_wait, freed_pages_waited}
use Rattle.call_laws.specs.WorldLaws.{KeepsTheLaws, ReachedWorldsKeepTheLaws}
use Rattle.call_laws.proofs.Openings.{the_opening_first}
use Rattle.call_laws.proofs.CallWorlds.{histories_have_shapes}
use Rattle.call_laws.proofs.LegalEvents.{each_event_legal}
use Rattle.call_laws.proofs.Replying.{replies_have_causes, causes_bring_replies}
use Rattle.call_laws.proofs.Targeting.{targets_are_got}
use Rattle.call_laws.proofs.Numbering.{reports_tell}
use Rattle.call_laws.proofs.Rooms.{room_counts}
use Rattle.call_laws.proofs.OneBase.{chunks_have_one_base}
use Rattle.call_laws.proofs.GuardsUntilFree.{guards_stay_bare}

pub reached_keep : ReachedWorldsKeepTheLaws
reached_keep c opening calls w trace reached = record {
  opening_first = the_opening_first c opening calls w trace reached;
  shapes = histories_have_shapes c opening calls w trace reached;
  targets = targets_are_got c opening calls w trace reached;
  legal = each_event_legal c opening calls w trace reached;
  causes = replies_have_causes c opening calls w trace reached;
  exactly = causes_bring_replies c opening calls w trace reached;
  numbers = reports_tell c opening calls w trace reached;
  no_space = λ k i l answer here at. (replies_have_causes c opening calls w trace reached k i l answer here at).no_space;
  room = room_counts c opening calls w trace reached;
  apart = areas_apart c opening calls w trace reached;
  guard = guard_unmapped c opening calls w trace reached;
  bare_guards = guards_stay_bare c opening calls w trace reached;
  clean = free_clean c opening calls w trace reached;
  waits = pages_wait c opening calls w trace reached;
  waited = freed_pages_waited c opening calls w trace reached;
  parts = parts_disjoint c opening calls w trace reached;
  objects = objects_mapped c opening calls w trace reached;
  bases = chunks_have_one_base c opening calls w trace reached;
  sums = sums_are_the_adds c opening calls w trace reached;
  turns = turns_kept c opening calls w trace reached;
  purge_last = purge_last c opening calls w trace reached;
  carried = carried_kept c opening calls w trace reached;
}

-- the history of a trace is such a world
pub history_keeps : (c : Setup) (opening : List Call) (calls : List (List Call)) (picks : List ℕ) → IsTrace c opening calls → IsOneLegalHistory c opening calls picks → KeepsTheLaws c opening calls (history_of c opening calls picks)
history_keeps c opening calls picks trace is = reached_keep c opening calls (history_of c opening calls picks) trace (inr (is.first, is.events, is.legal, is.led_to))

over_at : (locals : List Local) (k : ℕ) (l : Local) → AllOver locals → slice_get locals k ≡ Some l → l.place ≡ Over
over_at [] k l over h = cc
over_at (x ∷ locals) zero l over h = grind (arith, same_Some)
over_at (x ∷ locals) (suc k) l over h = over_at locals k l over.1 h

pub all_answered : (c : Setup) (opening : List Call) (calls : List (List Call)) (w : World) → KeepsTheLaws c opening calls w → AllOver w.locals → (k : ℕ) (l : Local) → slice_get w.locals k ≡ Some l → length l.answers ≡ length l.calls
all_answered c opening calls w is over k l here = (is.shapes k l here).ended (over_at w.locals k l over here)
