use Rattle.std.proofs.Common.{rules, ◌≡◌, [], ◌∷◌, ◌++◌, sym, ap, ◌∙◌}
use Rattle.section_table.proofs.WrittenPicks.{locals_append, locals_stay}
use Rattle.section_table.proofs.close.list_locals.Goals as goal

pub loop-kept-preserved-in-Continue-1 : goal.loop-kept-preserved-in-Continue-1
loop-kept-preserved-in-Continue-1 g c = let local : c.into_local.result ≡ c.in-Some-kept.mine.local = search rules in
    (search rules, search rules, c.in_ok-push.ensures.items ∙ (ap (λ l. c.loop-kept.locals.items ++ l ∷ []) local ∙ (ap (λ l. l ++ c.in-Some-kept.mine.local ∷ []) c.loop-kept.invariant.2 ∙ sym (locals_append c.loop-kept.yielded c.in-Some.kept c.in-Some-kept.mine c.in-Some-kept.is))))

pub loop-kept-preserved : goal.loop-kept-preserved
loop-kept-preserved g c = (search rules, search rules, c.loop-kept.invariant.2 ∙ sym (locals_stay c.loop-kept.yielded c.in-Some.kept c.in_default.is))
