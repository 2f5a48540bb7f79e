use Rattle.std.proofs.Common.{◌≡◌, ◌*◌, pos, vec_capacity, subst, arith}
use Rattle.std.proofs.lemmas.Bool.Decides.{nat_tests}
use Rattle.page_pool.specs.MemoryWords.{AreBlank}
use Rattle.page_pool.proofs.WrittenGroups.{length-with_groups, none_written}
use Rattle.page_pool.proofs.cells.Cells.is_blank.Goals as goal

pub returns : goal.returns
returns c = λ found.
    let few : c.len.result ≡ 128 = grind (arith, nat_tests) in
    subst AreBlank c.self.view_is (λ cell low.
    none_written (pos 0) c.self.inside.numbers.items c.self.inside.written.items (vec_capacity c.self.inside.written) (1024 * c.self.inside.frames) cell c.self.invariant.groups (omega arith)
    (omega (arith, length-with_groups (pos 0) c.self.inside.numbers.items c.self.inside.written.items (1024 * c.self.inside.frames))))
