use Rattle.std.proofs.Common.{◌*◌, pos, length, ap, sym, ◌∙◌}
use Rattle.page_pool.proofs.WrittenGroups.{length-with_groups}
use Rattle.page_pool.proofs.cells.Cells.len.Goals as goal

pub returns : goal.returns
returns c = sym (length-with_groups (pos 0) c.self.inside.numbers.items c.self.inside.written.items (1024 * c.self.inside.frames)) ∙ ap length c.self.view_is
