use Rattle.std.proofs.Common.{◌≡◌, ◌∙◌, rules, Some, ap, sym, length, if◌then◌else◌, not}
use Rattle.std.proofs.lemmas.Bool.{false≢true}
use Rattle.std.specs.Str.{bytes_eq}
use Rattle.trace_text.specs.Names.{place_of}
use Rattle.trace_text.proofs.NamedCalls.{held_with_name, known}
use Rattle.trace_text.proofs.call_lines.add_named_call.Goals as goal

pub returns-then-not-branch-clause-added : goal.returns-then-not-branch-clause-added
returns-then-not-branch-clause-added c = λ r held new. absurd (false≢true (sym c.if-not-branch.true ∙ c.in_ok-insert.ensures.new ∙ ap not (known c.args.progress.now r c.args.name.now held) ∙ new))

pub returns-clause-new : goal.returns-clause-new
returns-clause-new c = λ r held. sym c.if-not-branch.false ∙ c.in_ok-insert.ensures.new ∙ ap not (known c.args.progress.now r c.args.name.now held)

pub returns-clause-added : goal.returns-clause-added
returns-clause-added c = λ r held new.
    let p = c.args.progress.now in
    let adds = c.in_ok-put_call.ensures.adds in
    held_with_name p c.put_call.new.progress r c.args.name.now c.args.call held
    (record { rank = adds.rank; header = adds.header; cpus = adds.cpus; caller = adds.caller; calls = adds.calls; closed = adds.closed; counts = adds.counts; lines = adds.lines; picks = adds.picks; opening_names = adds.opening_names })
    c.requires.size new
    (λ other.
    let length : c.len-place.result ≡ length p.calls.items = search rules in
    ap (λ names. place_of names other) c.in_ok-put_call.ensures.names
    ∙ c.in_ok-insert.ensures.put c.if-not-branch.false other
    ∙ ap (λ place. if bytes_eq c.args.name.now other then Some place else place_of p.names other) length)
