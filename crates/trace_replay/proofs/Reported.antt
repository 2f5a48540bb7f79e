-- A report that was made is what is written under its status.
use Rattle.std.proofs.Common.{◌≤◌, ℕ, sym, subst, List, length}
use Rattle.trace_text.specs.Reading.{Reading}
use Rattle.trace_text.specs.Grammar.{IsTraceOf}
use Rattle.trace_replay.specs.declared.answer.Outcome.{Outcome}
use Rattle.trace_replay.specs.Headline.{HasLayout, Shows, Writes, Reports, most_bytes}

pub done : (shows : Shows) (bytes : List ℕ) (o : Outcome) (r : Reading) → length bytes ≤ most_bytes → IsTraceOf bytes r → HasLayout r → Reports shows r o.status o.text → Writes shows bytes o.status o.text
done shows bytes o r short trace stands is = subst (λ s. Writes shows bytes s o.text) (sym is.0) (short, (r, trace, stands, is.1))
