-- The worked traces are traces, their reports compute, and what may be written for them is short.
use Rattle.std.proofs.Common.{◌≡◌, ◌≤◌, List, ℕ, length, refl, ap, ◌∙◌, subst, arith, lit≤}
use lib.Count.{ones}
use Rattle.std.specs.Fmt.{digits}
use Rattle.vm_model.specs.History.{finish, history_of}
use Rattle.trace_text.specs.Reading.{Reading, unread}
use Rattle.trace_text.specs.Grammar.{IsTraceOf}
use Rattle.trace_text.proofs.Outcomes.{Outcome, Whole, Bad, reads, reads-whole}
use Rattle.trace_text.proofs.Exclusive.{one_trace, trace_or_bad}
use Rattle.trace_text.proofs.ReadLayouts.{stands_or_refused}
use Rattle.trace_replay.specs.declared.words.Mode.{Mode}
use Rattle.trace_replay.specs.declared.words.Mode.TheVariants.{Replay, Audit}
use Rattle.trace_replay.specs.declared.status.Status.{Status}
use Rattle.trace_replay.specs.declared.status.Status.TheVariants.{Done, BadTrace, BadLayout, Usage, OutOfMemory, ReadFault, WriteFault, TooLong}
use Rattle.trace_replay.specs.Headline.{HasLayout, IsReport, report_of, Writes, most_bytes}
use Rattle.trace_replay.specs.WorkedReplays.{IsReplayedAs, free_space, free_space_report, OneFreeSpace, free_space_audit, OneFreeSpaceAudited, two_areas, two_areas_report, TwoAreasWithGuards, two_callers, two_callers_report, PlacesAsPicked, two_purges, two_purges_report, APickStays}

abbrev reading_of : Outcome → Reading
reading_of (Whole r) = r
reading_of (Bad number rest) = unread

replayed_as : (mode : Mode) (bytes text : List ℕ) → reads bytes ≡ Whole (reading_of (reads bytes)) → HasLayout (reading_of (reads bytes)) → report_of mode (reading_of (reads bytes)) ≡ text → IsReplayedAs mode bytes text
replayed_as mode bytes text whole stands same =
    let r : Reading = reading_of (reads bytes) in
    let trace : IsTraceOf bytes r = reads-whole bytes r whole in
    record {
      trace = (r, trace);
      stands = λ other is. subst HasLayout (one_trace bytes r other trace is) stands;
      report = λ other is. ap (report_of mode) (one_trace bytes other r is trace) ∙ same;
    }

pub one_free_space : OneFreeSpace
unfolding digits ones history_of finish
one_free_space = replayed_as Replay free_space free_space_report refl refl refl

pub one_free_space_audited : OneFreeSpaceAudited
unfolding digits ones history_of finish
one_free_space_audited = replayed_as Audit free_space free_space_audit refl refl refl

pub two_areas_with_guards : TwoAreasWithGuards
unfolding digits ones history_of finish
two_areas_with_guards = replayed_as Replay two_areas two_areas_report refl refl refl

pub places_as_picked : PlacesAsPicked
unfolding digits ones history_of finish
places_as_picked = replayed_as Replay two_callers two_callers_report refl refl refl

pub a_pick_stays : APickStays
unfolding digits ones history_of finish
a_pick_stays = replayed_as Replay two_purges two_purges_report refl refl refl

-- what may be written for a trace is its report
pub only_report : (mode : Mode) (bytes text : List ℕ) (room : ℕ) → IsReplayedAs mode bytes text → length bytes ≤ most_bytes → length text ≤ room → (status : Status) (written : List ℕ) → Writes (IsReport mode) bytes status written → length written ≤ room
only_report mode bytes text room is short low Done written w = let (r, trace, stands, shown) = w.1 in omega (arith, ap length (shown.1 ∙ is.report r trace))
only_report mode bytes text room is short low (BadTrace line) written w = absurd (trace_or_bad bytes is.trace.0 line is.trace.1 w.1)
only_report mode bytes text room is short low (BadLayout error) written w = absurd (stands_or_refused bytes error is.stands w.1)
only_report mode bytes text room is short low TooLong written w = absurd (omega arith)
only_report mode bytes text room is short low Usage written w = absurd w
only_report mode bytes text room is short low OutOfMemory written w = absurd w
only_report mode bytes text room is short low ReadFault written w = absurd w
only_report mode bytes text room is short low WriteFault written w = absurd w

-- room for 400 bytes is enough for them
pub room_for_free_space : (bytes : List ℕ) (room : ℕ) → bytes ≡ free_space → 400 ≤ room → (status : Status) (written : List ℕ) → Writes (IsReport Replay) bytes status written → length written ≤ room
room_for_free_space bytes room same wide status written w =
    only_report Replay free_space free_space_report room one_free_space (lit≤ tt) (let l : length free_space_report ≤ 400 = lit≤ tt in omega arith) status written (subst (λ b. Writes (IsReport Replay) b status written) same w)

pub room_for_two_areas : (bytes : List ℕ) (room : ℕ) → bytes ≡ two_areas → 400 ≤ room → (status : Status) (written : List ℕ) → Writes (IsReport Replay) bytes status written → length written ≤ room
room_for_two_areas bytes room same wide status written w =
    only_report Replay two_areas two_areas_report room two_areas_with_guards (lit≤ tt) (let l : length two_areas_report ≤ 400 = lit≤ tt in omega arith) status written (subst (λ b. Writes (IsReport Replay) b status written) same w)
