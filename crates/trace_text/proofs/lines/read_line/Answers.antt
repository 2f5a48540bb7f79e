use Rattle.std.proofs.Common.{◌≡◌, ◌++◌, codes, subst, sym, rules}
use Rattle.std.proofs.lemmas.Slice.Eq.{bytes_eq-Decides}
use Rattle.trace_text.specs.HeldLines.{Steps}
use Rattle.trace_text.proofs.OtherLines.{steps_late_if_ok}
use Rattle.trace_text.proofs.Pairs.{with_front}
use Rattle.trace_text.proofs.ReaderTurns.{steps_if_ok}
use Rattle.trace_text.proofs.lines.read_line.Goals as goal

pub returns-in-Some : goal.returns-in-Some
returns-in-Some c = steps_if_ok (codes "order " ++ c.in-Some.text.now) c.args.line.now c.read_order.result c.args.progress.now c.read_order.new.progress
    (with_front 6 c.args.line.now (codes "order ") c.in-Some.text.now c.in-Some.ensures.cases.0 c.in-Some.ensures.cases.1) c.read_order.ensures

pub returns-in-Some-strip_prefix : goal.returns-in-Some-strip_prefix
returns-in-Some-strip_prefix c = steps_if_ok (codes "vmalloc " ++ c.in-Some-strip_prefix.text.now) c.args.line.now c.read_vmalloc.result c.args.progress.now c.read_vmalloc.new.progress
    (with_front 8 c.args.line.now (codes "vmalloc ") c.in-Some-strip_prefix.text.now c.in-Some-strip_prefix.ensures.cases.0 c.in-Some-strip_prefix.ensures.cases.1) c.read_vmalloc.ensures

pub returns-in-Some-strip_prefix-2 : goal.returns-in-Some-strip_prefix-2
returns-in-Some-strip_prefix-2 c = steps_if_ok (codes "vfree " ++ c.in-Some-strip_prefix-2.text.now) c.args.line.now c.read_vfree.result c.args.progress.now c.read_vfree.new.progress
    (with_front 6 c.args.line.now (codes "vfree ") c.in-Some-strip_prefix-2.text.now c.in-Some-strip_prefix-2.ensures.cases.0 c.in-Some-strip_prefix-2.ensures.cases.1) c.read_vfree.ensures

pub returns-in-Some-strip_prefix-3 : goal.returns-in-Some-strip_prefix-3
returns-in-Some-strip_prefix-3 c = steps_if_ok (codes "map_ram " ++ c.in-Some-strip_prefix-3.text.now) c.args.line.now c.read_map_ram.result c.args.progress.now c.read_map_ram.new.progress
    (with_front 8 c.args.line.now (codes "map_ram ") c.in-Some-strip_prefix-3.text.now c.in-Some-strip_prefix-3.ensures.cases.0 c.in-Some-strip_prefix-3.ensures.cases.1) c.read_map_ram.ensures

pub returns-in-Some-strip_prefix-4 : goal.returns-in-Some-strip_prefix-4
returns-in-Some-strip_prefix-4 c = steps_if_ok (codes "unmap_ram " ++ c.in-Some-strip_prefix-4.text.now) c.args.line.now c.read_unmap_ram.result c.args.progress.now c.read_unmap_ram.new.progress
    (with_front 10 c.args.line.now (codes "unmap_ram ") c.in-Some-strip_prefix-4.text.now c.in-Some-strip_prefix-4.ensures.cases.0 c.in-Some-strip_prefix-4.ensures.cases.1) c.read_unmap_ram.ensures

pub returns-then-eq : goal.returns-then-eq
returns-then-eq c =
    let same : c.args.line.now ≡ codes "unmap_aliases" = (bytes_eq-Decides c.args.line.now (codes "unmap_aliases")).0 (search rules) in
    steps_if_ok (codes "unmap_aliases") c.args.line.now c.read_unmap_aliases.result c.args.progress.now c.read_unmap_aliases.new.progress (sym same) c.read_unmap_aliases.ensures

pub returns-in-Some-strip_prefix-5 : goal.returns-in-Some-strip_prefix-5
returns-in-Some-strip_prefix-5 c = steps_if_ok (codes "caller " ++ c.in-Some-strip_prefix-5.field.now) c.args.line.now c.read_caller.result c.args.progress.now c.read_caller.new.progress
    (with_front 7 c.args.line.now (codes "caller ") c.in-Some-strip_prefix-5.field.now c.in-Some-strip_prefix-5.ensures.cases.0 c.in-Some-strip_prefix-5.ensures.cases.1) c.read_caller.ensures

pub returns-in-Some-strip_prefix-6 : goal.returns-in-Some-strip_prefix-6
returns-in-Some-strip_prefix-6 c = steps_if_ok (codes "group " ++ c.in-Some-strip_prefix-6.text.now) c.args.line.now c.read_group.result c.args.progress.now c.read_group.new.progress
    (with_front 6 c.args.line.now (codes "group ") c.in-Some-strip_prefix-6.text.now c.in-Some-strip_prefix-6.ensures.cases.0 c.in-Some-strip_prefix-6.ensures.cases.1) c.read_group.ensures

pub returns-then-eq-2 : goal.returns-then-eq-2
returns-then-eq-2 c = λ r held.
    let same : c.args.line.now ≡ codes "end" = (bytes_eq-Decides c.args.line.now (codes "end")).0 (search rules) in
    subst (λ t. Steps r t c.read_end.result c.read_end.new.progress) (sym same) (c.read_end.ensures r held)

pub returns : goal.returns
returns c = steps_late_if_ok c.args.line.now c.read_percpu_line.result c.args.progress.now c.read_percpu_line.new.progress
    (record {
      vmalloc = c.in_default-strip_prefix.ensures.cases;
      vfree = c.in_default-strip_prefix-2.ensures.cases;
      map_ram = c.in_default-strip_prefix-3.ensures.cases;
      unmap_ram = c.in_default-strip_prefix-4.ensures.cases;
      unmap_aliases = search rules;
      order = c.in_default.ensures.cases;
      caller = c.in_default-strip_prefix-5.ensures.cases;
      group = c.in_default-strip_prefix-6.ensures.cases;
      end = search rules;
    })
    c.read_percpu_line.ensures
