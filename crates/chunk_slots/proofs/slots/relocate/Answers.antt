use Rattle.std.proofs.Common.{◌≡◌, ℕ, Bool, true, not, List, Option, ◌==◌, find, if◌then◌else◌, Some, sym, ap, ◌∙◌, subst, arith}
use Rattle.std.specs.Option.{is_some}
use Rattle.chunk_slots.specs.declared.slots.InSlot.{InSlot}
use Rattle.chunk_slots.specs.Rising.{IsRising, index_by}
use Rattle.chunk_slots.specs.ChunksBySlot.{key_of_slot, slot_key, moved}
use Rattle.chunk_slots.proofs.RisingLists.{put_back, filter_rises, filter-index}
use Rattle.chunk_slots.proofs.slots.relocate.Goals as goal

pub returns-then-from-to-clause-slots : goal.returns-then-from-to-clause-slots
returns-then-from-to-clause-slots c =
    let slots = c.args.slots.now.items in
    let this : InSlot = record { slot = c.args.from; chunk = c.args.chunk } in
    sym (ap (λ n. moved c.args.chunk c.args.from n slots) (sym c.if-from-to.true) ∙ put_back key_of_slot this 0 slots c.requires.rising c.requires.there)

pub put-requires-clause-rising : goal.put-requires-clause-rising
put-requires-clause-rising c =
    let others : InSlot → Bool = λ s. not (key_of_slot s == c.key_in_slot.result) in
    subst (IsRising key_of_slot) (sym c.take_out.ensures.items) (filter_rises key_of_slot others 0 c.args.slots.now.items c.requires.rising)

pub put-requires-clause-new : goal.put-requires-clause-new
put-requires-clause-new c =
    let others : InSlot → Bool = λ s. not (key_of_slot s == c.key_in_slot.result) in
    let key : ℕ = slot_key c.args.to c.args.chunk in
    ap (index_by key_of_slot key) c.take_out.ensures.items ∙ filter-index key_of_slot others key c.args.slots.now.items (c.requires.other c.if-from-to.false)

abbrev counted : Bool → ℕ
counted b = if b then 1 else 0

one_if_there : (o : Option InSlot) → is_some o ≡ true → counted (is_some o) ≡ 1
one_if_there o e = ap counted e

there : (o : Option InSlot) (slots : List InSlot) (key k : ℕ) (s : InSlot) → o ≡ find (λ (t : InSlot). key_of_slot t == key) slots → key ≡ k → find (λ (t : InSlot). key_of_slot t == k) slots ≡ Some s → counted (is_some o) ≡ 1
there o slots key k s found same is = one_if_there o (ap is_some (found ∙ ap (λ n. find (λ (t : InSlot). key_of_slot t == n) slots) same ∙ is))

pub put-requires-clause-room : goal.put-requires-clause-room
put-requires-clause-room c =
    omega
    (arith, there c.take_out.result c.args.slots.now.items _ _ _ c.take_out.ensures.item c.key_in_slot.ensures c.requires.there, c.take_out.ensures.len, c.take_out.ensures.capacity, c.requires.room)

pub returns-clause-len : goal.returns-clause-len
returns-clause-len c =
    omega
    (arith, there c.take_out.result c.args.slots.now.items _ _ _ c.take_out.ensures.item c.key_in_slot.ensures c.requires.there, c.take_out.ensures.len, c.put.ensures.len)
