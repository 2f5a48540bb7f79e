use Rattle.std.proofs.Common.{◌≡◌, ◌∙◌, ap, sym, [], arith, replicate, None, rules}
use Rattle.std.proofs.lemmas.Bool.Decides.{nat_tests}
use Rattle.trace_text.specs.Names.{NameTable, place_of}
use Rattle.trace_text.proofs.NamesKept.{made_slots, table, no_slots}
use Rattle.trace_text.proofs.names.Names.make_slots.Goals as goal

pub returns-in_ok-self-inside-clause-same : goal.returns-in_ok-self-inside-clause-same
returns-in_ok-self-inside-clause-same c = λ name.
    let none : c.self.inside.slots.items ≡ [] = no_slots c.self.inside.slots.items (let wide = c.self.inside.slots.ok.0 in let test = sym c.is_empty.ensures ∙ c.if-is_empty.true in grind (arith, nat_tests)) in
    let made : c.in_ok-self-inside.field-0.items ≡ replicate c.max.result None = search rules in
    made_slots (table c.self.inside.slots.items c.self.inside.rest.entries) c.in_ok-self-inside.field-0.items c.max.result none made name ∙ ap (λ (t : NameTable). place_of t name) c.self.view_is
