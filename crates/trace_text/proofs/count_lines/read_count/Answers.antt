use Rattle.std.proofs.Common.{◌≡◌, ◌≤◌, ◌<◌, ◌+◌, ◌∙◌, ◌++◌, ◌∷◌, [], ℕ, ℤ, sym, ap, refl, arith, length, subst, rules, FitsSigned, w32}
use Rattle.std.proofs.lemmas.Bool.{lt-ltb}
use Rattle.std.proofs.lemmas.Int.{to_z-of_z}
use Rattle.vm_model.specs.declared.calls.CountLine.{CountLine}
use Rattle.trace_text.specs.Reading.{Header, cpus_of}
use Rattle.trace_text.proofs.CountLines.{count_refused, count_stands, few_calls}
use Rattle.trace_text.proofs.NamedLines.{no_cpu}
use Rattle.trace_text.proofs.count_lines.read_count.Goals as goal

pub returns-then-from-counter : goal.returns-then-from-counter
returns-then-from-counter c = λ r held.
    let is = c.in-Some.ensures.some in
    count_refused c.args.progress.now r c.args.text.now c.in-Some.counter c.in-Some.cpu c.in-Some.amount (record { first = is.0; second = is.1; last = is.2; spells = is.3 }) (λ below known.
    let same : c.from.result ≡ r.header.counters = c.from.ensures ∙ ap (λ (h : Header). h.counters) (sym held.header) in
    no_cpu c.in-Some.counter r.header.counters below (subst (λ count. count ≤ c.in-Some.counter) same c.if-from-counter.true))

pub returns-then-from-cpu : goal.returns-then-from-cpu
returns-then-from-cpu c = λ r held.
    let is = c.in-Some.ensures.some in
    count_refused c.args.progress.now r c.args.text.now c.in-Some.counter c.in-Some.cpu c.in-Some.amount (record { first = is.0; second = is.1; last = is.2; spells = is.3 }) (λ below known.
    let same : c.from-2.result ≡ cpus_of r.header = c.from-2.ensures ∙ c.cpu_count.ensures r held in
    no_cpu c.in-Some.cpu (cpus_of r.header) known (subst (λ count. count ≤ c.in-Some.cpu) same c.if-from-cpu.true))

pub overflow_cast-line : goal.overflow_cast-line
overflow_cast-line c =
    let (r, held) = c.requires.held in
    let few = few_calls c.args.progress.now r held in
    let room = c.has_place.ensures.room c.if-not-has_place.false in
    let calls : c.len.result ≡ length c.args.progress.now.calls.items = search rules in
    omega arith

pub returns : goal.returns
returns c = λ r held.
    let p = c.args.progress.now in
    let is = c.in-Some.ensures.some in
    let counters : c.from.result ≡ r.header.counters = c.from.ensures ∙ ap (λ (h : Header). h.counters) (sym held.header) in
    let cpus : c.from-2.result ≡ cpus_of r.header = c.from-2.ensures ∙ c.cpu_count.ensures r held in
    let calls : c.len.result ≡ length p.calls.items = search rules in
    let line : ℕ → ℤ → CountLine = λ after amount. record { caller = p.caller; after = after; counter = c.in-Some.counter; cpu = c.in-Some.cpu; amount = amount } in
    count_stands p (record p { rank = 10; counts = c.push.new.self; lines = p.lines + 1 }) r c.args.text.now c.in-Some.counter c.in-Some.cpu c.in-Some.amount held (record { first = is.0; second = is.1; last = is.2; spells = is.3 })
    (sym (c.has_place.ensures.place r held) ∙ c.if-not-has_place.false)
    (lt-ltb c.in-Some.counter r.header.counters (subst (λ count. c.in-Some.counter < count) counters c.if-from-counter.false))
    (lt-ltb c.in-Some.cpu (cpus_of r.header) (subst (λ count. c.in-Some.cpu < count) cpus c.if-from-cpu.false))
    (record {
      counts =
          c.in_ok-push.ensures.items
          ∙ ap (λ amount. p.counts.items ++ line c.len.result amount ∷ []) (to_z-of_z w32 c.in-Some.amount (let fits : FitsSigned w32 c.in-Some.amount = search rules in fits))
          ∙ ap (λ after. p.counts.items ++ line after c.in-Some.amount ∷ []) calls;
      same = refl;
    })
