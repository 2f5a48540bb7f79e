use Rattle.std.proofs.Common.{◌≡◌, ◌∙◌, ◌+◌, ◌-◌, ◌%◌, ◌++◌, suc, ap, arith, codes, refl, subst, OnOk}
use Rattle.std.proofs.lemmas.Result.{on_ok_weaker}
use Rattle.trace_maker.specs.Generated.{drawn, drawn_picks}
use Rattle.trace_maker.proofs.PickLines.{AreLeft, one_pick, no_pick_left, pick_line}
use Rattle.trace_maker.proofs.picks.put_picks.Goals as goal

pub loop-pick-preserved : goal.loop-pick-preserved
loop-pick-preserved c =
    let n = c.args.count - (c.loop-pick._pick + 1) in
    let one : c.args.count - c.loop-pick._pick ≡ suc n = omega arith in
    let first = c.args.text.now.items ++ codes "order" in
    one_pick n c.loop-pick.draws.state c.args.count c.args.draws.now.state c.loop-pick.text.items c.put_words.new.text.items first c.from.result c.draw_below-caller.new.self.state
    (subst (λ k. AreLeft k c.loop-pick.draws.state c.loop-pick.text.items c.args.count c.args.draws.now.state first) one c.loop-pick.invariant) c.draw_below-caller.ensures.state
    (c.from.ensures ∙ ap (λ k. 1 + k) (c.draw_below-caller.ensures.drawn ∙ ap (λ s. drawn s % 8) c.draw_below-caller.ensures.state)) c.in_ok-put_words.ensures

pub returns-clause-text : goal.returns-clause-text
returns-clause-text c =
    let none : c.args.count - c.loop-pick._pick ≡ 0 = omega arith in
    let first = c.args.text.now.items ++ codes "order" in
    let left = subst (λ k. AreLeft k c.loop-pick.draws.state c.loop-pick.text.items c.args.count c.args.draws.now.state first) none c.loop-pick.invariant in
    subst (λ t. OnOk c.put_field-2.result (c.put_field-2.new.text.items ≡ t))
    (pick_line c.args.text.now.items first c.loop-pick.text.items (drawn_picks c.args.count c.args.draws.now.state) refl (no_pick_left c.loop-pick.draws.state c.args.count c.args.draws.now.state c.loop-pick.text.items first left).0)
    c.put_field-2.ensures

pub returns-clause-state : goal.returns-clause-state
returns-clause-state c =
    let none : c.args.count - c.loop-pick._pick ≡ 0 = omega arith in
    let first = c.args.text.now.items ++ codes "order" in
    let left = subst (λ k. AreLeft k c.loop-pick.draws.state c.loop-pick.text.items c.args.count c.args.draws.now.state first) none c.loop-pick.invariant in
    on_ok_weaker c.put_field-2.result (λ _. (no_pick_left c.loop-pick.draws.state c.args.count c.args.draws.now.state c.loop-pick.text.items first left).1) c.put_field-2.ensures
