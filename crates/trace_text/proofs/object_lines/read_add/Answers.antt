use Rattle.std.proofs.Common.{◌≡◌, ◌≤◌, ◌<◌, sym, ◌∙◌, true, arith, subst, FitsSigned, w32, rules}
use Rattle.std.proofs.lemmas.Bool.{lt-ltb}
use Rattle.std.proofs.lemmas.Int.{to_z-of_z}
use Rattle.trace_text.specs.Grammar.{is_cpu}
use Rattle.trace_text.specs.HeldLines.{IsHeld}
use Rattle.trace_text.specs.Reading.{cpus_of, with_call}
use Rattle.vm_model.specs.declared.calls.Call.TheVariants as call
use Rattle.trace_text.proofs.NamedLines.{no_cpu}
use Rattle.trace_text.proofs.ObjectLines.{Added, add_lines, add_text, add_word, is_added, no_add_text, small_index}
use Rattle.trace_text.proofs.TargetLines.{target_of_none, target_refused, target_ruled_out, target_stands, target_unplaced}
use Rattle.trace_text.proofs.object_lines.read_add.Goals as goal

pub returns-then-not-has_place : goal.returns-then-not-has_place
returns-then-not-has_place c = λ r held. target_unplaced add_word c.args.progress.now r c.args.text.now (add_lines r) (sym (c.has_place.ensures.place r held) ∙ c.if-not-has_place.true)

pub returns-in_default : goal.returns-in_default
returns-in_default c = λ r held. no_add_text c.args.progress.now r c.args.text.now c.in_default.ensures.none

pub returns-then-from-cpu : goal.returns-then-from-cpu
returns-then-from-cpu c = λ r held.
    let is = c.in-Some.ensures.some in
    let x : Added = record { cpu = c.in-Some.cpu; index = c.in-Some.index; amount = c.in-Some.amount } in
    target_ruled_out add_word c.args.progress.now r c.args.text.now c.in-Some.aim.now x (add_lines r) (add_text c.args.text.now c.in-Some.aim.now x is.0 is.1 is.2 is.3 is.4)
    (λ t named spells below.
    let same : c.from.result ≡ cpus_of r.header = c.from.ensures ∙ c.cpu_count.ensures r held in
    no_cpu c.in-Some.cpu (cpus_of r.header) below (subst (λ count. count ≤ c.in-Some.cpu) same c.if-from-cpu.true))

pub returns-in_default-aimed_at : goal.returns-in_default-aimed_at
returns-in_default-aimed_at c = λ r held.
    let is = c.in-Some.ensures.some in
    let x : Added = record { cpu = c.in-Some.cpu; index = c.in-Some.index; amount = c.in-Some.amount } in
    target_of_none add_word c.args.progress.now r c.args.text.now c.in-Some.aim.now x (add_lines r) (add_text c.args.text.now c.in-Some.aim.now x is.0 is.1 is.2 is.3 is.4) (c.in_default-aimed_at.ensures.none r held)

pub returns-then-not-has_word : goal.returns-then-not-has_word
returns-then-not-has_word c = λ r held.
    let is = c.in-Some.ensures.some in
    let x : Added = record { cpu = c.in-Some.cpu; index = c.in-Some.index; amount = c.in-Some.amount } in
    target_refused add_word c.args.progress.now r c.args.text.now c.in-Some.aim.now x c.in-Some-aimed_at.target c.in-Some-aimed_at.call (add_lines r) (add_text c.args.text.now c.in-Some.aim.now x is.0 is.1 is.2 is.3 is.4)
    (c.in-Some-aimed_at.ensures.some r held) (sym c.has_word.ensures ∙ c.if-not-has_word.true)

pub overflow_cast-add-2 : goal.overflow_cast-add-2
overflow_cast-add-2 c =
    let (r, held) = c.requires.held in
    let names = c.in-Some-aimed_at.ensures.some r held in
    let small = small_index c.in-Some.index c.in-Some-aimed_at.call names.sized (sym c.has_word.ensures ∙ c.if-not-has_word.false) in
    omega arith

pub returns : goal.returns
returns c = λ r held.
    let is = c.in-Some.ensures.some in
    let x : Added = record { cpu = c.in-Some.cpu; index = c.in-Some.index; amount = c.in-Some.amount } in
    let names = c.in-Some-aimed_at.ensures.some r held in
    let same : c.from.result ≡ cpus_of r.header = c.from.ensures ∙ c.cpu_count.ensures r held in
    let below : is_cpu r c.in-Some.cpu ≡ true = lt-ltb c.in-Some.cpu (cpus_of r.header) (subst (λ count. c.in-Some.cpu < count) same c.if-from-cpu.false) in
    target_stands add_word _ r c.args.text.now c.in-Some.aim.now x c.in-Some-aimed_at.target c.in-Some-aimed_at.call (add_lines r) (add_text c.args.text.now c.in-Some.aim.now x is.0 is.1 is.2 is.3 is.4) names
    (sym (c.has_place.ensures.place r held) ∙ c.if-not-has_place.false) (is_added names.aim x names.name is.1 is.2 is.3) below (sym c.has_word.ensures ∙ c.if-not-has_word.false)
    (subst (λ z. IsHeld c.add_call.new.progress (record (with_call r (call.Add c.in-Some-aimed_at.target c.in-Some.cpu c.in-Some.index z)) { rank = 10 })) (to_z-of_z w32 c.in-Some.amount (let fits : FitsSigned w32 c.in-Some.amount = search rules in fits)) (c.in_ok-add_call.ensures r held))
