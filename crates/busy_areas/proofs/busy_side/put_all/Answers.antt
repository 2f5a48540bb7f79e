use Rattle.std.proofs.Common.{ap, sym, ◌∙◌, take}
use Rattle.std.specs.Map.{values_of}
use Rattle.vm_model.specs.Areas.{areas_elsewhere}
use Rattle.busy_areas.specs.KeptAreas.{asked_starts}
use Rattle.busy_areas.proofs.JoinedAreas.{put_none, put_more, all_back, where_ok, where_err}
use Rattle.busy_areas.proofs.busy_side.put_all.Goals as goal

pub loop-index-init : goal.loop-index-init
loop-index-init c = put_none c.args.caller c.args.first c.args.new.now c.args.areas.now.entries c.requires.apart c.requires.join

pub returns-then-is_err-clause-err : goal.returns-then-is_err-clause-err
returns-then-is_err-clause-err c =
    let same = where_err _ c.put_area.result c.put_area.ensures.err (sym c.is_err.ensures.value ∙ c.if-is_err.true) in
    let starts = asked_starts (take c.loop-index.index c.args.new.now) in
    all_back c.args.caller c.args.first c.args.new.now c.args.areas.now.entries c.loop-index.areas.entries c.take_back.new.areas.entries c.loop-index.index c.loop-index.invariant c.requires.apart c.take_back.ensures.apart
    (c.take_back.ensures.others ∙ ap (λ es. areas_elsewhere starts (values_of es)) same)

pub loop-index-preserved : goal.loop-index-preserved
loop-index-preserved c =
    let put = where_ok _ c.put_area.result c.put_area.ensures.ok (sym c.is_err.ensures.value ∙ c.if-is_err.false) in
    put_more c.args.caller c.args.first c.args.new.now c.args.areas.now.entries c.loop-index.areas.entries c.put_area.new.areas.entries c.loop-index.index _ c.loop-index.invariant c.loop-index-test.true put
