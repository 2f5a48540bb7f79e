-- The history of a trace is one legal history, and keeps the laws, in whatever order its callers are picked.
use Rattle.std.proofs.Common.{ℕ, List}
use Rattle.map_laws.proofs.objects.ObjectsReady.{histories_legal}
use Rattle.call_laws.proofs.Keeping.{reached_keep, history_keeps, all_answered}
use Rattle.trace_text.specs.Reading.{Reading}
use Rattle.trace_rules.specs.RuledTraces.{IsRuledTrace}
use Rattle.trace_replay.specs.Headline.{HasLegalHistory, setup, opening_calls, own_calls, history_of_trace}
use Rattle.trace_replay.specs.LiveReports.{with_picks}

pub legal_with : (r : Reading) (picks : List ℕ) → IsRuledTrace r → HasLegalHistory (with_picks r picks)
legal_with r picks is =
    let one = histories_legal (setup r) (opening_calls r) (own_calls r) picks is.trace in
    let laws = history_keeps (setup r) (opening_calls r) (own_calls r) picks is.trace one in
    record {
      one = one;
      answered = all_answered (setup r) (opening_calls r) (own_calls r) (history_of_trace (with_picks r picks)) laws one.over;
      laws = laws;
      always = λ w reached. reached_keep (setup r) (opening_calls r) (own_calls r) w is.trace reached;
    }

pub legal_history : (r : Reading) → IsRuledTrace r → HasLegalHistory r
legal_history r is = legal_with r r.picks is
