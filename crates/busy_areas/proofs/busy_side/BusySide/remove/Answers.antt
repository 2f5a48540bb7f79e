use Rattle.std.proofs.Common.{◌≡◌, false, ◌==◌, ap, sym, ◌∙◌, arith}
use Rattle.std.proofs.lemmas.Bool.Decides.{nat_tests}
use Rattle.std.specs.Map.{values_of}
use Rattle.busy_areas.proofs.AreaInserted.{rows}
use Rattle.busy_areas.proofs.NamedAreas.{named_found, found_page, named_other, named_none, kept_without}
use Rattle.busy_areas.proofs.busy_side.BusySide.remove.Goals as goal

pub invariant_of-self : goal.invariant_of-self
invariant_of-self c = kept_without c.self.inside.next c.args.start c.self.inside.areas.entries c.remove.new.self.entries c.self.invariant c.remove.ensures.entries

pub returns-in-Some-clause-found : goal.returns-in-Some-clause-found
returns-in-Some-clause-found c =
    rw (c.remove.ensures.value ∙ sym c.in-Some.ensures.value, ← c.self.view_is)
    (named_found 0 c.args.start c.args.serial c.in-Some.area.now c.self.inside.areas.entries c.self.invariant.apart (sym c.in-Some.ensures.value) c.if-area-serial.true).own

pub returns-in-Some-clause-page : goal.returns-in-Some-clause-page
returns-in-Some-clause-page c =
    rw (c.remove.ensures.value ∙ sym c.in-Some.ensures.value)
    (found_page 0 c.args.start c.in-Some.area.now c.self.inside.areas.entries c.self.invariant.apart (sym c.in-Some.ensures.value))

pub returns-in-Some-clause-gone : goal.returns-in-Some-clause-gone
returns-in-Some-clause-gone c =
    let named = named_found 0 c.args.start c.args.serial c.in-Some.area.now c.self.inside.areas.entries c.self.invariant.apart (sym c.in-Some.ensures.value) c.if-area-serial.true in
    rw (c.remove.ensures.value ∙ sym c.in-Some.ensures.value, ← c.self.view_is)
    (ap (λ areas. rows areas c.self.inside.next) (ap values_of c.remove.ensures.entries ∙ sym named.rest))

pub returns-in_default-clause-none : goal.returns-in_default-clause-none
returns-in_default-clause-none c =
    let differs = c.if-area-serial.false in
    let other : (c.in-Some.area.now.serial == c.args.serial) ≡ false = grind (arith, nat_tests) in
    rw (← c.self.view_is) (named_other 0 c.args.start c.args.serial c.in-Some.area.now c.self.inside.areas.entries c.self.invariant.apart (sym c.in-Some.ensures.value) other)

pub returns-in_default-2-clause-none : goal.returns-in_default-2-clause-none
returns-in_default-2-clause-none c =
    let none = rw c.in_default.is at c.get.ensures.value in
    rw (← c.self.view_is) (named_none 0 c.args.start c.args.serial c.self.inside.areas.entries c.self.invariant.apart (sym none))
