use Rattle.std.proofs.Common.{rules, ◌≡◌, ◌≤◌, ℕ, length, map, replicate, sym, ap, ◌∙◌, subst, arith}
use Rattle.std.proofs.lemmas.List.{length-map}
use Rattle.section_table.specs.Shown.{shown_of}
use Rattle.section_table.specs.WrittenLists.{HasStampsBelow, all_written}
use Rattle.section_table.proofs.RuleAtEnds.{closes}
use Rattle.section_table.proofs.ClosedTables.{first_word, stamps_below, comes_to}
use Rattle.section_table.proofs.sections.Sections.close.Goals as goal

pub picks_of-requires-clause-few : goal.picks_of-requires-clause-few
picks_of-requires-clause-few g c =
    let last = closes g.P.Parts.meaning _ _ _ _ _ _ c.args.pass.rests.0 c.requires.all c.close_with-closed.ensures.values.2 in
    let short = last.1.short in
    let many : length c.args.pass.place.me.0.held ≡ length c.args.pass.callers.items = ap length c.args.pass.same ∙ length-map c.args.pass.callers.items shown_of in
    let few : length c.args.pass.callers.items ≤ 32 = omega arith in search rules

pub picks_of-requires-clause-stamps : goal.picks_of-requires-clause-stamps
picks_of-requires-clause-stamps g c =
    let last = closes g.P.Parts.meaning _ _ _ _ _ _ c.args.pass.rests.0 c.requires.all c.close_with-closed.ensures.values.2 in
    let counted : c.word-count.result ≡ length last.0 = sym (first_word _ _ c.word-count.ensures) ∙ last.1.next in
    subst (λ l. HasStampsBelow c.word-count.result (map shown_of l)) (search rules) (stamps_below g.P.Parts.meaning c.args.self.table.shared.key _ _ c.args.pass.place.me.0 last.0 last.1 c.word-count.result _ counted c.args.pass.same)

pub returns : goal.returns
returns g c =
    let last = closes g.P.Parts.meaning _ _ _ _ _ _ c.args.pass.rests.0 c.requires.all c.close_with-closed.ensures.values.2 in
    let counted : c.word-count.result ≡ length last.0 = sym (first_word _ _ c.word-count.ensures) ∙ last.1.next in
    comes_to g.P.Parts.meaning c.args.self.table.shared.key _ _ c.args.pass.place.me.0 last.0 last.1 _ c.word-count.result _ c.args.pass.same c.requires.all counted c.empty_out-regions.ensures c.in_ok-locals.ensures (c.in_ok-picks.ensures ∙ ap (λ l. all_written (replicate c.word-count.result 0) 0 (map shown_of l)) c.as_slice.ensures.value)
