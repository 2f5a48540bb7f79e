-- What a live run writes: the order that happened, and the report of the trace with this order in place of its own.
use Rattle.std.specs.Prelude.{◌≡◌, ◌++◌, ℕ, true, List}
use Rattle.vm_model.specs.History.{World, finish, most_events, opening_world, with_callers, pick_all}
use Rattle.vm_model.specs.LegalHistory.{AllOver}
use Rattle.report_text.specs.Report.{schedule}
use Rattle.trace_text.specs.Reading.{Reading}
use Rattle.section_laws.specs.MovesInTurn.{all_move}
use Rattle.trace_replay.specs.Headline.{setup, opening_calls, own_calls, report_of, HasLegalHistory}
use Rattle.trace_replay.specs.declared.words.Mode.TheVariants.{Replay}

-- the trace with these picks in place of its own
abbrev pub with_picks : Reading → List ℕ → Reading
with_picks r picks = record r { picks = picks }

-- where the opening of a trace has ended, and the callers stand before their first calls
abbrev pub start_of_trace : Reading → World
start_of_trace r = with_callers (setup r) (own_calls r) (finish most_events (opening_world (setup r) (opening_calls r) (own_calls r)))

-- each of these picks moves, after those before it, and after the last all callers have ended
pub record IsOrderOf (r : Reading) (picks : List ℕ) : Type 0 where
  pub moving : all_move (start_of_trace r) picks ≡ true
  pub over : AllOver (pick_all (start_of_trace r) picks).locals

-- the schedule line of such an order, and what a replay writes of it, whose history is a legal one
pub record IsLiveReport (r : Reading) (text : List ℕ) : Type 0 where
  pub picks : List ℕ
  pub order : IsOrderOf r picks
  pub legal : HasLegalHistory (with_picks r picks)
  pub says : text ≡ schedule picks ++ report_of Replay (with_picks r picks)
