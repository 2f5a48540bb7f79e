use Rattle.std.proofs.Common.{rules, ◌≡◌, ◌≤◌, ℕ, ◌+◌, List, length, replicate, sym, ap, ◌∙◌, subst}
use Rattle.atomic_table.specs.Table.{opening}
use Rattle.section_table.specs.TableRule.{IsRuled}
use Rattle.section_table.specs.PassViews.{IsWithin, starting}
use Rattle.section_table.proofs.RuleAtEnds.{begins, fresh}
use Rattle.section_table.proofs.sections.Sections.start.Goals as goal

pub new-requires : goal.new-requires
new-requires g c =
    let p = begins g.P.Parts.meaning c.args.regions.items c.args.locals.items c.requires.few c.requires.lawful in
    let words : c.as_slice.result.now ≡ replicate (length c.args.regions.items + 2) 0 = search rules in
    let rs : c.of.result.value.items ≡ c.args.regions.items = search rules in
    let ls : c.of-2.result.value.items ≡ c.args.locals.items = search rules in
    subst (λ (z : List ℕ × (List g.row.P-Region.Denot × List g.row.P-Local.Denot)). IsRuled g.P.Parts.meaning z.1.0 z.1.1 (opening z.0 c.args.regions.items (starting z.1.1)))
    (λ i. (sym words i, (sym rs i, sym ls i))) p

pub invariant_of-result-in-Ok : goal.invariant_of-result-in-Ok
invariant_of-result-in-Ok g c =
    let slots : c.in-Ok.place.table_id.slots ≡ length c.args.regions.items = search rules in
    let view : c.in-Ok.place.me.0 ≡ starting c.args.locals.items = search rules in record {
      rests = search rules;
      same = search rules;
      reaches = subst (IsWithin g.P.Parts.meaning.reach c.in-Ok.place.table_id.slots) (sym view)
          (λ i h e. subst (λ (n : ℕ). g.P.Parts.meaning.reach h.local ≤ n) (sym slots) (c.requires.reach i h.local (fresh c.args.locals.items i h e).0));
    }
