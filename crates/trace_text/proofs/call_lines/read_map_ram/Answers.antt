use Rattle.std.proofs.Common.{◌≡◌, ◌<◌, ◌≤◌, sym, ◌∙◌, codes, true, subst}
use Rattle.std.proofs.lemmas.Bool.{lt-ltb}
use Rattle.vm_model.specs.declared.calls.Call.TheVariants as call
use Rattle.trace_text.specs.Grammar.{is_cpu}
use Rattle.trace_text.specs.Reading.{cpus_of}
use Rattle.trace_text.specs.SpelledLines.{MapRam}
use Rattle.trace_text.proofs.NamedLines.{map_ram_lines, no_cpu, is_named_text, no_named_text, named_refused, named_stands}
use Rattle.trace_text.proofs.call_lines.read_map_ram.Goals as goal

pub returns-in_default : goal.returns-in_default
returns-in_default c = λ r held. no_named_text c.args.progress.now r (codes "map_ram") c.args.text.now MapRam call.MapRam (is_cpu r) (map_ram_lines r) c.in_default.ensures.none

pub returns-then-from-cpu : goal.returns-then-from-cpu
returns-then-from-cpu c = λ r held. named_refused c.args.progress.now r (codes "map_ram") c.args.text.now MapRam call.MapRam (is_cpu r) c.in-Some.name.now c.in-Some.cpu c.in-Some.pages (map_ram_lines r) (is_named_text _ _ _ _ c.in-Some.ensures.some)
    (λ place new rules.
    let same : c.from.result ≡ cpus_of r.header = c.from.ensures ∙ c.cpu_count.ensures r held in
    no_cpu c.in-Some.cpu (cpus_of r.header) rules (subst (λ count. count ≤ c.in-Some.cpu) same c.if-from-cpu.true))

pub returns-then-not-has_place : goal.returns-then-not-has_place
returns-then-not-has_place c = λ r held. named_refused c.args.progress.now r (codes "map_ram") c.args.text.now MapRam call.MapRam (is_cpu r) c.in-Some.name.now c.in-Some.cpu c.in-Some.pages (map_ram_lines r) (is_named_text _ _ _ _ c.in-Some.ensures.some)
    (λ place new rules. let none = sym (c.has_place.ensures.place r held) ∙ c.if-not-has_place.true in cc)

pub returns-then-not-branch : goal.returns-then-not-branch
returns-then-not-branch c = λ r held. named_refused c.args.progress.now r (codes "map_ram") c.args.text.now MapRam call.MapRam (is_cpu r) c.in-Some.name.now c.in-Some.cpu c.in-Some.pages (map_ram_lines r) (is_named_text _ _ _ _ c.in-Some.ensures.some)
    (λ place new rules. let none = sym (c.in_ok-add_named_call.ensures.new r held) ∙ c.if-not-branch.true in cc)

pub returns : goal.returns
returns c = λ r held.
    let place = sym (c.has_place.ensures.place r held) ∙ c.if-not-has_place.false in
    let new = sym (c.in_ok-add_named_call.ensures.new r held) ∙ c.if-not-branch.false in
    let same : c.from.result ≡ cpus_of r.header = c.from.ensures ∙ c.cpu_count.ensures r held in
    let cpu : is_cpu r c.in-Some.cpu ≡ true = lt-ltb c.in-Some.cpu (cpus_of r.header) (subst (λ count. c.in-Some.cpu < count) same c.if-from-cpu.false) in
    named_stands _ r (codes "map_ram") c.args.text.now MapRam call.MapRam (is_cpu r) c.in-Some.name.now c.in-Some.cpu c.in-Some.pages (map_ram_lines r) (is_named_text _ _ _ _ c.in-Some.ensures.some) place new cpu
    (c.in_ok-add_named_call.ensures.added r held new)
