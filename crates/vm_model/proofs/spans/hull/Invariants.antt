use Rattle.std.proofs.Common.{◌≡◌, drop}
use Rattle.std.specs.Option.{ForSome}
use Rattle.vm_model.specs.Space as model
use Rattle.vm_model.specs.Space.{HasEnd}
use Rattle.vm_model.proofs.spans.hull.Given as goal

-- the hull so far is that of the spans from here on
abbrev pub invariant-loop-index : goal.invariant-loop-index
invariant-loop-index l = record {
  hull : l.hull ≡ model.hull (drop l.index l.spans);
  end : ForSome l.hull HasEnd;
}
