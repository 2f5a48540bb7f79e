use Rattle.std.proofs.Common.{rules, ◌≡◌, ℕ, sym, ap, ◌∙◌, subst}
use Rattle.section_table.specs.PassViews.{IsWithin, both_of}
use Rattle.section_table.proofs.Within.{within_both, both_shown}
use Rattle.section_table.proofs.sections.Sections.join.Goals as goal

pub invariant_of-into-2 : goal.invariant_of-into-2
invariant_of-into-2 g c =
    let a = c.args.into.now in let b = c.args.other in
    let slots : b.place.table_id.slots ≡ a.place.table_id.slots = ap (λ z. z.slots) (c.requires.other ∙ sym c.requires.table) in record {
      rests = search rules;
      same = ap (λ m. m.0.held) c.unite.ensures.view ∙ (both_shown a.place.me.0.held b.place.me.0.held a.callers.items b.callers.items a.same b.same ∙ search rules);
      reaches = subst (λ (n : ℕ). IsWithin g.P.Parts.meaning.reach n c.unite.new.place.me.0) (sym (ap (λ z. z.slots) c.unite.ensures.table.0))
          (subst (IsWithin g.P.Parts.meaning.reach a.place.table_id.slots) (sym (ap (λ m. m.0) c.unite.ensures.view))
          (within_both g.P.Parts.meaning.reach a.place.table_id.slots a.place.me.0 b.place.me.0 a.reaches (subst (λ (n : ℕ). IsWithin g.P.Parts.meaning.reach n b.place.me.0) slots b.reaches)));
    }
