use Rattle.std.proofs.Common.{sym}
use Rattle.chunk_slots.proofs.RisingLists.{index-at, index-none}
use Rattle.chunk_slots.proofs.rising.index_of.Goals as goal

pub returns-then-is_at : goal.returns-then-is_at
returns-then-is_at g c = sym (index-at g.T.Keyed.key c.args.key 0 c.args.items.now c.args.key c.requires (c.is_at.ensures.0 c.if-is_at.true))

pub returns-then-is_at-2 : goal.returns-then-is_at-2
returns-then-is_at-2 g c = sym (index-at g.T.Keyed.key c.args.key 0 c.args.items.now c.rank-index.result c.requires (c.is_at-2.ensures.0 c.if-is_at-2.true))

pub returns-else-is_at-2 : goal.returns-else-is_at-2
returns-else-is_at-2 g c =
    sym (index-none g.T.Keyed.key c.args.key 0 c.args.items.now c.rank-index.result c.requires c.rank-index.ensures.rank (λ at. let yes = c.is_at-2.ensures.1 at in let no = c.if-is_at-2.false in cc))
