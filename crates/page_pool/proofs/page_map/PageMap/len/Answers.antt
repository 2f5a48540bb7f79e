use Rattle.std.proofs.Common.{None, length, ap, sym, ◌∙◌}
use Rattle.page_pool.proofs.WrittenGroups.{length-with_groups}
use Rattle.page_pool.proofs.page_map.PageMap.len.Goals as goal

pub returns : goal.returns
returns c = sym (length-with_groups None c.self.inside.numbers.items c.self.inside.written.items c.self.inside.pages) ∙ ap length c.self.view_is
