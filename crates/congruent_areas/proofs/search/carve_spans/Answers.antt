use Rattle.std.proofs.Common.{true, [], ◌∷◌, ◌++◌, take, get_or, ap, sym, ◌∙◌, arith}
use Rattle.std.proofs.lemmas.List.Elements.{All-get_or}
use Rattle.vm_model.specs.Space.{covers, paint, runs}
use Rattle.unit_layout.specs.declared.layout.Group.{Group}
use Rattle.augmented_tree.specs.FreeBlocks.{IsFree}
use Rattle.congruent_areas.specs.GroupsAtBase.{span_at, spans_at}
use Rattle.congruent_areas.proofs.Carving.{spans-more, paint-more, cover-more, still_free, paint-none, and_true}
use Rattle.congruent_areas.proofs.search.carve_spans.Goals as goal

pub loop-group-init : goal.loop-group-init
loop-group-init c = record {
  spans = c.new-spans.ensures;
  cover = λ page. and_true (covers c.args.free.now.blocks page);
  runs = λ taken is. is ∙ ap runs (sym (paint-none taken));
  spare = omega arith;
}

pub carve_at-requires-clause-free : goal.carve_at-requires-clause-free
carve_at-requires-clause-free c =
    let none : Group = record { offset = 0; pages = 0 } in
    still_free c.args.base c.args.groups.now c.loop-group.group-index none c.args.free.now.blocks c.loop-group.free.blocks c.requires.groups.apart c.loop-group-test.true
    (All-get_or (λ (g : Group). IsFree c.args.free.now.blocks (span_at c.args.base g)) c.args.groups.now c.loop-group.group-index none c.loop-group-test.true c.requires.free)
    c.loop-group.invariant.cover

pub loop-group-preserved : goal.loop-group-preserved
loop-group-preserved c =
    let none : Group = record { offset = 0; pages = 0 } in
    let i = c.loop-group.group-index in
    let groups = c.args.groups.now in
    record {
      spans = c.push.ensures ∙ ap (λ spans. spans ++ span_at c.args.base (get_or groups i none) ∷ []) c.loop-group.invariant.spans ∙ sym (spans-more c.args.base groups i none c.loop-group-test.true);
      cover = cover-more c.args.base groups i none c.loop-group-test.true c.args.free.now.blocks c.loop-group.free.blocks c.carve_at.new.self.blocks c.loop-group.invariant.cover c.carve_at.ensures.cover;
      runs = λ taken is.
          c.carve_at.ensures.carved (paint (covers (spans_at c.args.base (take i groups))) true taken) (c.loop-group.invariant.runs taken is)
          ∙ ap runs (paint-more c.args.base groups i none c.loop-group-test.true taken);
      spare = omega (arith, c.carve_at.ensures.spare);
    }
