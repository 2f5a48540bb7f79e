use Rattle.std.proofs.Common.{rules, ◌≡◌, ℕ, length, sym, ap, ◌∙◌}
use Rattle.section_table.specs.PassViews.{put_at}
use Rattle.section_table.proofs.Placed.{put_end, put_empty, put_full}
use Rattle.section_table.proofs.callers.put_in.Goals as goal

pub returns-then-place-len-clause-put : goal.returns-then-place-len-clause-put
returns-then-place-len-clause-put g c = let last : length c.args.callers.now.items ≡ c.args.place = search rules in
    c.push_reserved.ensures.items ∙ (sym (put_end c.args.callers.now.items c.args.other) ∙ ap (λ (n : ℕ). put_at c.args.callers.now.items n c.args.other) last)

pub returns-then-is_none-clause-put : goal.returns-then-is_none-clause-put
returns-then-is_none-clause-put g c = put_empty c.args.callers.now.items c.args.place c.args.other c.index.result.now (search rules) c.index.ensures c.if-is_none.ensures

pub returns-else-is_none-clause-put : goal.returns-else-is_none-clause-put
returns-else-is_none-clause-put g c = put_full c.args.callers.now.items c.args.place c.args.other c.index.result.now (search rules) c.index.ensures c.if-is_none.ensures
