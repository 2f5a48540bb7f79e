use Rattle.std.proofs.Common.{◌≡◌, true, false, nat_le, find, get_or, Option, None, refl, sym, ap, subst, ◌∙◌, arith}
use Rattle.std.specs.Option.{IsSome}
use Rattle.std.proofs.lemmas.Bool.Decides.{nat_tests}
use Rattle.std.proofs.lemmas.List.{drop_all}
use Rattle.map_blocks.specs.KeptBlocks.{KeptRow}
use Rattle.map_blocks.specs.KeptBlockSides.{has_room, gives_room}
use Rattle.map_blocks.proofs.FirstPassing.{find_yes, find_no}
use Rattle.map_blocks.proofs.queues.first_with_room.Goals as goal

pub loop-start-init : goal.loop-start-init
loop-start-init c = refl

pub unreachable-requires : goal.unreachable-requires
unreachable-requires c =
    let none = rw c.in_default.is at c.get.ensures.value in
    let some = c.requires c.loop-start.start-index 0 c.loop-start-test.true in
    let never : IsSome {T = KeptRow} None = subst (λ (o : Option KeptRow). IsSome o) (sym none) some in
    cc

pub returns-then-room-free : goal.returns-then-room-free
returns-then-room-free c =
    let at = rw c.in-Some.is at c.get.ensures.value in
    let fits = c.if-room-free.true in
    let room : nat_le c.args.room c.free.result ≡ true = grind (arith, nat_tests) in
    let passes : has_room c.args.room c.args.blocks.now.entries (get_or c.args.queue.now c.loop-start.start-index 0) ≡ true = ap (gives_room c.args.room) (sym at) ∙ ap (nat_le c.args.room) (sym c.free.ensures) ∙ room in
    sym (find_yes (has_room c.args.room c.args.blocks.now.entries) c.args.queue.now c.loop-start.start-index 0 c.loop-start-test.true passes) ∙ c.loop-start.invariant

pub loop-start-preserved : goal.loop-start-preserved
loop-start-preserved c =
    let at = rw c.in-Some.is at c.get.ensures.value in
    let fits = c.if-room-free.false in
    let room : nat_le c.args.room c.free.result ≡ false = grind (arith, nat_tests) in
    let passes : has_room c.args.room c.args.blocks.now.entries (get_or c.args.queue.now c.loop-start.start-index 0) ≡ false = ap (gives_room c.args.room) (sym at) ∙ ap (nat_le c.args.room) (sym c.free.ensures) ∙ room in
    sym (find_no (has_room c.args.room c.args.blocks.now.entries) c.args.queue.now c.loop-start.start-index 0 c.loop-start-test.true passes) ∙ c.loop-start.invariant

pub returns : goal.returns
returns c = ap (find (has_room c.args.room c.args.blocks.now.entries)) (sym (drop_all c.loop-start.start-index c.args.queue.now c.loop-start-test.false)) ∙ c.loop-start.invariant
