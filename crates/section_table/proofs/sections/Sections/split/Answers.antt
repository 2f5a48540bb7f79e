use Rattle.std.proofs.Common.{rules, ◌≡◌, ◌<◌, ℕ, length, map, set, replicate, [], ◌∷◌, ◌++◌, Some, None, refl, sym, ap, ◌∙◌, subst}
use Rattle.section_table.specs.Shown.{shown_of}
use Rattle.section_table.specs.PassViews.{IsWithin}
use Rattle.section_table.proofs.ElementsByPlace.{within}
use Rattle.section_table.proofs.Tries.{has_caller, found}
use Rattle.section_table.proofs.Within.{within_without, within_alone, left_shown, alone_shown}
use Rattle.section_table.proofs.sections.Sections.split.Goals as goal

pub index_mut-requires : goal.index_mut-requires
index_mut-requires g c = let a = c.args.from.now in let x = has_caller a.place.me.0 a.callers.items a.same c.args.caller c.requires.has in
    let inside : c.args.caller < length a.callers.items = within a.callers.items c.args.caller (Some x.0) x.1 in search rules

pub invariant_of-from : goal.invariant_of-from
invariant_of-from g c = let a = c.args.from.now in let left = c.cut-place.ensures.left in record {
  rests = (ap (λ m. m.0.hand) left ∙ a.rests.0, ap (λ m. m.1) left);
  same = ap (λ m. m.0.held) left ∙ (left_shown a.place.me.0.held a.callers.items c.args.caller a.same ∙ ap (λ o. map shown_of (set a.callers.items c.args.caller o)) (sym c.take.ensures.after));
  reaches = subst (λ (n : ℕ). IsWithin g.P.Parts.meaning.reach n c.cut-place.new.place.me.0) (sym (ap (λ z. z.slots) c.cut-place.ensures.table.0))
      (subst (IsWithin g.P.Parts.meaning.reach a.place.table_id.slots) (sym (ap (λ m. m.0) left)) (within_without g.P.Parts.meaning.reach a.place.table_id.slots a.place.me.0 c.args.caller a.reaches));
}

pub invariant_of-result : goal.invariant_of-result
invariant_of-result g c = let a = c.args.from.now in let right = c.cut-place.ensures.right in
    let x = has_caller a.place.me.0 a.callers.items a.same c.args.caller c.requires.has in
    let taken : c.take.result ≡ Some x.0 = c.take.ensures.value ∙ found a.callers.items c.args.caller _ _ x.1 c.index_mut.ensures.value in record {
      rests = (ap (λ m. m.0.hand) right, ap (λ m. m.1) right);
      same = ap (λ m. m.0.held) right ∙ (alone_shown a.place.me.0.held a.callers.items c.args.caller (Some x.0) a.same x.1
          ∙ (ap (λ o. map shown_of (replicate c.args.caller None ++ o ∷ [])) (sym taken)
          ∙ (ap (λ l. map shown_of (l ++ c.take.result ∷ [])) (sym c.in_ok-callers.ensures.none) ∙ ap (map shown_of) (sym c.push_reserved.ensures.items))));
      reaches = subst (λ (n : ℕ). IsWithin g.P.Parts.meaning.reach n c.cut-place.result.me.0) (sym (ap (λ z. z.slots) c.cut-place.ensures.table.2))
          (subst (IsWithin g.P.Parts.meaning.reach a.place.table_id.slots) (sym (ap (λ m. m.0) right)) (within_alone g.P.Parts.meaning.reach a.place.table_id.slots a.place.me.0 c.args.caller a.reaches));
    }
