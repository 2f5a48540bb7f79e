use Rattle.std.proofs.Common.{rules, ◌≡◌, ◌+◌, ◌<◌, ℕ, suc, length, map, take, replicate, Some, None, Option, slice_get, sym, ap, ◌∙◌, subst, arith}
use Rattle.section_table.specs.declared.caller.Caller.{Caller}
use Rattle.section_table.specs.Shown.{shown_of, held_of}
use Rattle.section_table.specs.CallerPlaces.{AreBelow}
use Rattle.section_table.specs.WrittenLists.{written, all_written}
use Rattle.section_table.proofs.ElementsByPlace.{got_map}
use Rattle.section_table.proofs.WrittenPicks.{got_at, written_some, written_none, written_length}
use Rattle.section_table.proofs.close.picks_of.Goals as goal
use Rattle.section_table.proofs.close.picks_of.Goals.{in-Some, in_default}

pub write_picks-requires : goal.write_picks-requires
write_picks-requires g c =
    let at : slice_get c.args.callers.now c.loop-caller.caller ≡ Some (Some c.in-Some.mine) = got_at c.args.callers.now c.loop-caller.caller c.index-callers-caller.result c.loop-caller-test.true c.index-callers-caller.is ∙ ap (λ z. Some z) c.in-Some.is in
    let below = c.requires.stamps c.loop-caller.caller (held_of c.in-Some.mine) (got_map shown_of c.args.callers.now c.loop-caller.caller (Some c.in-Some.mine) at) in
    subst (AreBelow (length c.loop-caller.picks.items)) (sym c.as_slice.ensures.value) (subst (λ (n : ℕ). AreBelow n c.in-Some.mine.stamps.items) (sym c.loop-caller.invariant.1) below)

pub loop-caller-preserved : goal.loop-caller-preserved
loop-caller-preserved g c = elim c.match-kept.branch [
  | in-Some w ↦
      (let at : slice_get c.args.callers.now c.loop-caller.caller ≡ Some (Some w.in-Some.mine) = got_at c.args.callers.now c.loop-caller.caller c.index-callers-caller.result c.loop-caller-test.true c.index-callers-caller.is ∙ ap (λ z. Some z) w.in-Some.is in
      let picks : c.match-kept.picks.items ≡ written c.loop-caller.picks.items c.loop-caller.caller w.in-Some.mine.stamps.items = search rules in
      let one : c.loop-caller.caller + 1 ≡ suc c.loop-caller.caller = omega arith in
      let zero_on : 0 + c.loop-caller.caller ≡ c.loop-caller.caller = omega arith in (
        picks ∙ (ap (λ l. written l c.loop-caller.caller w.in-Some.mine.stamps.items) c.loop-caller.invariant.0
            ∙ (ap (λ (n : ℕ). written (all_written (replicate c.args.count 0) 0 (map shown_of (take c.loop-caller.caller c.args.callers.now))) n w.in-Some.mine.stamps.items) (sym zero_on)
            ∙ (sym (written_some (replicate c.args.count 0) 0 c.args.callers.now c.loop-caller.caller w.in-Some.mine at)
            ∙ ap (λ (n : ℕ). all_written (replicate c.args.count 0) 0 (map shown_of (take n c.args.callers.now))) (sym one)))),
        ap length picks ∙ (written_length c.loop-caller.picks.items c.loop-caller.caller w.in-Some.mine.stamps.items ∙ c.loop-caller.invariant.1),
      ))
  | in_default w ↦
      (let at : slice_get c.args.callers.now c.loop-caller.caller ≡ Some None = got_at c.args.callers.now c.loop-caller.caller c.index-callers-caller.result c.loop-caller-test.true c.index-callers-caller.is ∙ ap (λ z. Some z) w.in_default.is in
      let picks : c.match-kept.picks.items ≡ c.loop-caller.picks.items = search rules in
      let one : c.loop-caller.caller + 1 ≡ suc c.loop-caller.caller = omega arith in (
        picks ∙ (c.loop-caller.invariant.0 ∙ (sym (written_none (replicate c.args.count 0) 0 c.args.callers.now c.loop-caller.caller at)
            ∙ ap (λ (n : ℕ). all_written (replicate c.args.count 0) 0 (map shown_of (take n c.args.callers.now))) (sym one))),
        ap length picks ∙ c.loop-caller.invariant.1,
      ))
]
