use Rattle.std.proofs.Common.{rules, ◌≡◌, ℕ, ◌+◌, ◌<◌, ◌≤◌, ◌++◌, [], ◌∷◌, List, Bool, true, false, length, take, set, sym, ap, ◌∙◌, subst, arith}
use mathlib.Core.Option.{some}
use lib.ListN.{get_elem?}
use Rattle.std.specs.Prelude.{slice_index_or}
use Rattle.std.specs.Slots.{slots_items, slots_filled, slots_len, slots_counts}
use Rattle.section_table.proofs.EmptiedSlots.{take_more, still_full, now_empty}
use Rattle.section_table.proofs.close.empty_out.Goals as goal

pub loop-i-preserved : goal.loop-i-preserved
loop-i-preserved g c =
    let inv = c.loop-i.invariant in
    let t = c.take.ensures in
    let below : c.loop-i.i < slots_len c.loop-i.closed.slots = search rules in
    let filled = t.others.1 in
    let counts = (slots_counts c.loop-i.closed.slots).1 in (
      t.others.0 ∙ inv.0,
      t.others.2 ∙ inv.1,
      c.push_reserved.ensures.items ∙ (ap (λ l. l ++ c.take.result ∷ []) inv.2 ∙ sym (take_more (slots_items c.args.closed.slots) c.loop-i.i c.take.result (subst (λ l. get_elem? l c.loop-i.i ≡ some c.take.result) inv.0 t.value))),
      search rules,
      search rules,
      (λ k low high. subst (λ (fs : List Bool). slice_index_or fs k false ≡ true) (sym filled) (still_full (slots_filled c.loop-i.closed.slots) c.loop-i.i (slots_len c.loop-i.closed.slots) inv.5 k low (subst (λ (z : ℕ). k < z) t.others.2 high))),
      (λ k low. subst (λ (fs : List Bool). slice_index_or fs k false ≡ false) (sym filled) (now_empty (slots_filled c.loop-i.closed.slots) c.loop-i.i (subst (λ (z : ℕ). c.loop-i.i < z) counts below) inv.6 k low)),
    )
