-- The free blocks may go to another thread.
use denote.RattleType.{RattleType}
use denote.Hole.{as_row}
use denote.Struct.Field.{u32-field}
use denote.Param.Send.{IsSend, recorded_send, sendable}
use Rattle.std.proofs.Crossing.{crosses, Box-send}
use Rattle.std.specs.contracts.option.Option as option
use Rattle.std.specs.contracts.boxed.Box as boxed
use Rattle.std.specs.contracts.alloc.Global as global
use Rattle.std.specs.contracts.impls.GlobalAllocator.TheImpl as heap
use Rattle.vm_model.specs.contracts.areas.Span as span
use Rattle.augmented_tree.specs.contracts.free_side.FreeSide as free_side
use Rattle.augmented_tree.specs.contracts.stock.Stock as stock
use Rattle.augmented_tree.specs.contracts.tree.Tree as tree
use Rattle.augmented_tree.specs.contracts.tree.Node as node
use Rattle.augmented_tree.proofs.tree.Tree.TheLaws.TheKnot as knot

root_send : (h : RattleType) → IsSend h → IsSend (option.the_row (boxed.the_row h global.the_row heap.ghosts))
root_send h s = let b = Box-send h s in search sendable depth 20

span_send : IsSend (as_row span.the_field)
span_send = search sendable depth 20

number_send : IsSend (as_row u32-field)
number_send = search sendable depth 20

tree_send : IsSend tree.the_row
tree_send = knot.send-Tree root_send span_send number_send

node_send : IsSend node.the_row
node_send = recorded_send node.the_field.row _ _ node.the_type.to_one (knot.send-Node tree_send (search sendable depth 20) (search sendable depth 20))

stock_send : IsSend stock.the_row
stock_send = search (sendable, crosses, node_send) depth 20

pub free_side_send : IsSend free_side.the_row
free_side_send = search (sendable, crosses, tree_send, stock_send) depth 20
