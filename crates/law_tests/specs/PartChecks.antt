-- Sections over single regions give the parts of the map that the events over the whole map give: as a test.
use Rattle.std.specs.Prelude.{[], ◌∷◌, ℕ, Bool, true, false, not, ◌&&◌, ◌==◌, List, map, filter, drop, length, Option, Some, None}
use Rattle.vm_model.specs.Setup.{Setup}
use Rattle.vm_model.specs.Events.{Section, Event}
use Rattle.vm_model.specs.Places.{ask}
use Rattle.vm_model.specs.Calls.{Answered}
use Rattle.vm_model.specs.History.{World, Local, moved_to}
use Rattle.vm_model.specs.Run.{state_after}
use Rattle.vm_model.specs.Parts.{Region, Desk, PurgeTurn, AllocTurn, FreeRuns, LiveAreas, WaitingSpans, Pages, Percpu, CpuBlocks, map_with, region_in, wants, moves, state_of}
use Rattle.law_tests.specs.Machines.{Machine, last_world}
use Rattle.law_tests.specs.Same.{same_list, same_option, same_number, same_bool, same_integer, same_span, same_area, same_block, same_chunk, same_reply}

-- the section of a machine over one region
abbrev pub left_on : Machine → Local → Region → Option Section → Local × Region
left_on d l region None = (l, region)
left_on d l region (Some s) = (moved_to l (d.leads l.setup l.place s), region_in (d.does l.setup (map_with l.setup region) l.caller s) region)

abbrev pub after_on : Machine → Local → Region → Local × Region
after_on d l region = left_on d l region (d.gives l.setup (map_with l.setup region) (ask l.setup l.place))

-- whether two regions are the same
abbrev pub same_region : Region → Region → Bool
same_region Desk Desk = true
same_region (PurgeTurn t) (PurgeTurn u) = same_option same_number t u
same_region (AllocTurn t) (AllocTurn u) = same_option same_number t u
same_region (FreeRuns r) (FreeRuns s) = same_list same_span r s
same_region (LiveAreas a n) (LiveAreas b p) = same_list same_area a b && (n == p)
same_region (WaitingSpans s) (WaitingSpans t) = same_list same_span s t
same_region (Pages f s x) (Pages g t y) = same_list (same_option same_number) f g && same_list same_bool s t && same_list same_integer x y
same_region (Percpu h o n r) (Percpu i p q s) = same_list same_chunk h i && (o == p) && (n == q) && (r == s)
same_region (CpuBlocks k a b n) (CpuBlocks l c d p) = (k == l) && (a == c) && same_list same_block b d && (n == p)
same_region _ _ = false

abbrev pub same_answer : Answered → Answered → Bool
same_answer a b = same_reply a.reply b.reply && (a.own_event == b.own_event)

abbrev pub same_local : Local → Local → Bool
same_local l k = (l.caller == k.caller) && (l.events == k.events) && same_list same_answer l.answers k.answers

abbrev pub same_state : List Region × List Local → List Region × List Local → Bool
same_state s t = same_list same_region s.0 t.0 && same_list same_local s.1 t.1

-- who moved from a world on
abbrev pub movers : World → World → List ℕ
movers v w = map (λ (e : Event). e.caller) (drop (length v.events) w.events)

abbrev pub agrees : Machine → Setup → (first last : World) → Bool
agrees d c first last = same_state (state_after wants moves (after_on d) (state_of c first) (movers first last)) (state_of c last)

-- the worlds of the opening, which has one caller, and those of the callers
abbrev pub is_opening : World → Bool
is_opening w = length w.locals == 1

abbrev pub agrees_over : Machine → Setup → List World → Bool
agrees_over d c [] = true
agrees_over d c (first ∷ run) = agrees d c first (last_world first run)

abbrev pub parts_agree : Machine → Setup → List World → Bool
parts_agree d c run = agrees_over d c (filter is_opening run) && agrees_over d c (filter (λ w. not (is_opening w)) run)
