use Rattle.std.proofs.Common.{◌≡◌, ◌∙◌, ◌<◌, ◌≤◌, if◌then◌else◌, ℕ, List, not, is_some, length, ap, sym, subst, arith, Option, Some, None}
use Rattle.std.specs.Str.{bytes_eq}
use Rattle.std.specs.BTreeMap.{Updates}
use Rattle.std.specs.Ordering.{nat_cmp}
use Rattle.trace_text.specs.declared.names.Kept.{Kept}
use Rattle.trace_text.specs.Names.{NameTable, number_of, slot_of, place_in_rest, place_by, place_of}
use Rattle.trace_text.proofs.NamesKept.{table, read_slot, told, flipped, put_slot, table_slot, put_in_rest, table_with_rest, at_other, at_own, slot_of-below}
use Rattle.trace_text.proofs.names.Names.insert.Goals as goal

-- the slot of a number lies among those that were made
below : (slots : List (Option Kept)) (t : NameTable) (s len number : ℕ) → length slots ≡ length t.slots → 1 ≤ length t.slots → s ≡ slot_of len number → len ≡ length slots → s < length slots
below slots t s len number same some e l = let in_bound = slot_of-below len number (omega arith) in omega arith

pub index-requires : goal.index-requires
index-requires c =
    let same = ap (λ (t : NameTable). length t.slots) c.self.view_is in
    let bound = below c.self.inside.slots.items c.make_slots.new.self c.slot_of-slot.result c.len.result c.number_of-number.result same c.in_ok-make_slots.ensures.some c.slot_of-slot.ensures (omega (arith, c.len.ensures)) in
    omega arith

pub index_mut-requires : goal.index_mut-requires
index_mut-requires c =
    let same = ap (λ (t : NameTable). length t.slots) c.self.view_is in
    let bound = below c.self.inside.slots.items c.make_slots.new.self c.slot_of-slot.result c.len.result c.number_of-number.result same c.in_ok-make_slots.ensures.some c.slot_of-slot.ensures (omega (arith, c.len.ensures)) in
    omega arith

pub invariant_of-self : goal.invariant_of-self
invariant_of-self c =
    let slots = c.self.inside.slots.items in
    let same = ap (λ (t : NameTable). length t.slots) c.self.view_is in
    let some = c.in_ok-make_slots.ensures.some in
    let read = read_slot slots c.slot_of-slot.result c.len.result c.number_of-number.result (number_of c.args.name.now) c.index.result.now None c.slot_of-slot.ensures (omega (arith, c.len.ensures)) c.number_of-number.ensures (omega arith) c.index.ensures c.in_default.is in
    table_slot slots c.self.inside.rest.entries c.args.name.now c.args.place c.number_of-number.result c.slot_of-slot.result c.self.invariant c.number_of-number.ensures read.0 read.2

pub returns-in_default-clause-new : goal.returns-in_default-clause-new
returns-in_default-clause-new c =
    let slots = c.self.inside.slots.items in
    let rest = c.self.inside.rest.entries in
    let same = ap (λ (t : NameTable). length t.slots) c.self.view_is in
    let some = c.in_ok-make_slots.ensures.some in
    let read = read_slot slots c.slot_of-slot.result c.len.result c.number_of-number.result (number_of c.args.name.now) c.index.result.now None c.slot_of-slot.ensures (omega (arith, c.len.ensures)) c.number_of-number.ensures (omega arith) c.index.ensures c.in_default.is in
    ap not (told (table slots rest) c.args.self.now c.args.name.now None c.requires (ap (λ (t : NameTable). place_of t c.args.name.now) c.self.view_is ∙ c.in_ok-make_slots.ensures.same c.args.name.now) (ap (place_by rest (number_of c.args.name.now)) read.2))

pub returns-in_default-clause-put : goal.returns-in_default-clause-put
returns-in_default-clause-put c = λ is other.
    let slots = c.self.inside.slots.items in
    let same = ap (λ (t : NameTable). length t.slots) c.self.view_is in
    let some = c.in_ok-make_slots.ensures.some in
    let read = read_slot slots c.slot_of-slot.result c.len.result c.number_of-number.result (number_of c.args.name.now) c.index.result.now None c.slot_of-slot.ensures (omega (arith, c.len.ensures)) c.number_of-number.ensures (omega arith) c.index.ensures c.in_default.is in
    put_slot slots c.self.inside.rest.entries c.args.self.now c.args.name.now c.args.place c.number_of-number.result c.slot_of-slot.result c.self.invariant c.requires c.number_of-number.ensures read.0 read.2
    (λ name. ap (λ (t : NameTable). place_of t name) c.self.view_is ∙ c.in_ok-make_slots.ensures.same name) other

pub returns-then-kept-number-clause-new : goal.returns-then-kept-number-clause-new
returns-then-kept-number-clause-new c =
    let slots = c.self.inside.slots.items in
    let rest = c.self.inside.rest.entries in
    let same = ap (λ (t : NameTable). length t.slots) c.self.view_is in
    let some = c.in_ok-make_slots.ensures.some in
    let read = read_slot slots c.slot_of-slot.result c.len.result c.number_of-number.result (number_of c.args.name.now) c.index.result.now (Some c.in-Some.kept) c.slot_of-slot.ensures (omega (arith, c.len.ensures)) c.number_of-number.ensures (omega arith) c.index.ensures c.in-Some.is in
    ap not (told (table slots rest) c.args.self.now c.args.name.now (Some c.in-Some.kept.place) c.requires (ap (λ (t : NameTable). place_of t c.args.name.now) c.self.view_is ∙ c.in_ok-make_slots.ensures.same c.args.name.now)
    (ap (place_by rest (number_of c.args.name.now)) read.2 ∙ at_own rest (number_of c.args.name.now) c.in-Some.kept (c.if-kept-number.true ∙ c.number_of-number.ensures)))

pub invariant_of-self-2 : goal.invariant_of-self-2
invariant_of-self-2 c =
    let slots = c.self.inside.slots.items in
    let same = ap (λ (t : NameTable). length t.slots) c.self.view_is in
    let some = c.in_ok-make_slots.ensures.some in
    let read = read_slot slots c.slot_of-slot.result c.len.result c.number_of-number.result (number_of c.args.name.now) c.index.result.now (Some c.in-Some.kept) c.slot_of-slot.ensures (omega (arith, c.len.ensures)) c.number_of-number.ensures (omega arith) c.index.ensures c.in-Some.is in
    table_with_rest slots c.self.inside.rest c.insert.new.self (number_of c.args.name.now) c.args.place c.in-Some.kept c.self.invariant read.2
    (subst (λ n. Updates nat_cmp c.self.inside.rest c.insert.new.self n (Some c.args.place)) c.number_of-number.ensures c.in_ok-insert.ensures.updates)

pub returns-clause-new : goal.returns-clause-new
returns-clause-new c =
    let slots = c.self.inside.slots.items in
    let rest = c.self.inside.rest.entries in
    let same = ap (λ (t : NameTable). length t.slots) c.self.view_is in
    let some = c.in_ok-make_slots.ensures.some in
    let read = read_slot slots c.slot_of-slot.result c.len.result c.number_of-number.result (number_of c.args.name.now) c.index.result.now (Some c.in-Some.kept) c.slot_of-slot.ensures (omega (arith, c.len.ensures)) c.number_of-number.ensures (omega arith) c.index.ensures c.in-Some.is in
    flipped c.is_none.result (is_some c.in_ok-insert.field-0) c.is_none.ensures
    ∙ ap not (ap is_some (c.in_ok-insert.ensures.old ∙ ap (place_in_rest rest) c.number_of-number.ensures)
    ∙ told (table slots rest) c.args.self.now c.args.name.now (place_in_rest rest (number_of c.args.name.now)) c.requires (ap (λ (t : NameTable). place_of t c.args.name.now) c.self.view_is ∙ c.in_ok-make_slots.ensures.same c.args.name.now)
    (ap (place_by rest (number_of c.args.name.now)) read.2 ∙ at_other rest (number_of c.args.name.now) c.in-Some.kept (λ e. c.if-kept-number.false (e ∙ sym c.number_of-number.ensures))))

pub returns-clause-put : goal.returns-clause-put
returns-clause-put c = λ is other.
    let slots = c.self.inside.slots.items in
    let same = ap (λ (t : NameTable). length t.slots) c.self.view_is in
    let some = c.in_ok-make_slots.ensures.some in
    let read = read_slot slots c.slot_of-slot.result c.len.result c.number_of-number.result (number_of c.args.name.now) c.index.result.now (Some c.in-Some.kept) c.slot_of-slot.ensures (omega (arith, c.len.ensures)) c.number_of-number.ensures (omega arith) c.index.ensures c.in-Some.is in
    put_in_rest slots c.self.inside.rest c.insert.new.self c.args.name.now c.args.place c.in-Some.kept c.requires read.2 (λ e. c.if-kept-number.false (e ∙ sym c.number_of-number.ensures))
    (subst (λ n. Updates nat_cmp c.self.inside.rest c.insert.new.self n (Some c.args.place)) c.number_of-number.ensures c.in_ok-insert.ensures.updates) other
    ∙ ap (λ o. if bytes_eq c.args.name.now other then Some c.args.place else o) (ap (λ (t : NameTable). place_of t other) c.self.view_is ∙ c.in_ok-make_slots.ensures.same other)
