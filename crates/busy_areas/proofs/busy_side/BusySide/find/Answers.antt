use Rattle.std.proofs.Common.{sym, ◌∙◌}
use Rattle.std.specs.BTreeMap.{values}
use Rattle.busy_areas.proofs.PagesLookedUp.{told}
use Rattle.busy_areas.proofs.Last.{last_up_to, none_holds, inside_is, outside_is}
use Rattle.busy_areas.proofs.busy_side.BusySide.find.Goals as goal

pub returns-in_err-area : goal.returns-in_err-area
returns-in_err-area c =
    let none = sym (c.range.ensures.between tt) ∙ c.in_err-area.ensures.steps.0 in
    let is_told = told c.args.page (values c.self.inside.areas) _ (c.from_residual.ensures ∙ sym (none_holds 0 c.args.page c.self.inside.areas.entries c.self.invariant.apart none)) in
    rw (← c.self.view_is) (record { kept = is_told.kept; found = is_told.found; none = is_told.none })

pub overflow_sub-page : goal.overflow_sub-page
overflow_sub-page c =
    let is = sym (c.range.ensures.between tt) ∙ c.in_ok-area.ensures.steps in
    (last_up_to 0 c.args.page _ c.self.inside.areas.entries c.next_back.new.self c.self.invariant.apart is).reached

pub returns-then-page-area : goal.returns-then-page-area
returns-then-page-area c =
    let is = sym (c.range.ensures.between tt) ∙ c.in_ok-area.ensures.steps in
    let last = last_up_to 0 c.args.page _ c.self.inside.areas.entries c.next_back.new.self c.self.invariant.apart is in
    let is_told = told c.args.page (values c.self.inside.areas) _ (sym (last.found ∙ inside_is c.args.page c.in_ok-area.area.now last.reached c.if-page-area.true)) in
    rw (← c.self.view_is) (record { kept = is_told.kept; found = is_told.found; none = is_told.none })

pub returns-else-page-area : goal.returns-else-page-area
returns-else-page-area c =
    let is = sym (c.range.ensures.between tt) ∙ c.in_ok-area.ensures.steps in
    let last = last_up_to 0 c.args.page _ c.self.inside.areas.entries c.next_back.new.self c.self.invariant.apart is in
    let is_told = told c.args.page (values c.self.inside.areas) _ (sym (last.found ∙ outside_is c.args.page c.in_ok-area.area.now last.reached c.if-page-area.false)) in
    rw (← c.self.view_is) (record { kept = is_told.kept; found = is_told.found; none = is_told.none })
