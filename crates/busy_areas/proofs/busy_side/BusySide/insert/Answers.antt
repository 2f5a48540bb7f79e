use Rattle.std.proofs.Common.{◌+◌, ◌^◌, ◌<◌, refl, sym, subst}
use Rattle.busy_areas.specs.LiveAreaRows.{LiveRows}
use Rattle.busy_areas.specs.KeptAreas.{IsUnused}
use Rattle.busy_areas.proofs.AreaInserted.{kept_with, rows_with}
use Rattle.busy_areas.proofs.busy_side.BusySide.insert.Goals as goal

pub invariant_of-self-2 : goal.invariant_of-self-2
invariant_of-self-2 c =
    let unused = subst (λ (r : LiveRows). IsUnused r.areas c.args.span) (sym c.self.view_is) c.requires.unused in
    let more = subst (λ (r : LiveRows). r.next + 1 < 2 ^ 32) (sym c.self.view_is) c.requires.serials in
    kept_with c.self.inside.next _ c.self.inside.areas.entries c.put_area.new.areas.entries c.self.invariant refl more c.requires.page unused c.in_ok-put_area.ensures.ok

pub returns-clause-ok : goal.returns-clause-ok
returns-clause-ok c =
    let unused = subst (λ (r : LiveRows). IsUnused r.areas c.args.span) (sym c.self.view_is) c.requires.unused in
    rw (← c.self.view_is) (rows_with c.self.inside.next _ _ c.self.inside.areas.entries c.put_area.new.areas.entries c.self.invariant c.requires.page unused c.in_ok-put_area.ensures.ok refl)
