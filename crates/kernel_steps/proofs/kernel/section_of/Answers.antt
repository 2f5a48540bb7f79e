use Rattle.std.proofs.Common.{◌≡◌, Some, sym, ◌∙◌, ap, slice_get, slice_index_or}
use Rattle.std.proofs.lemmas.List.{set-get_or}
use Rattle.std.proofs.lemmas.Option.{slice_get-get_or}
use Rattle.kernel_steps.proofs.SectionsMade.{put_ended, made_ok, made_as, wanted_within}
use Rattle.kernel_steps.proofs.kernel.section_of.Goals as goal

local_there : (c : goal.In_default) → slice_get c.args.locals.now c.args.caller ≡ Some (slice_index_or c.args.locals.now c.args.caller c.index-locals-caller.result)
local_there c = slice_get-get_or c.args.locals.now c.args.caller c.index-locals-caller.result c.requires.caller

pub returns-in_default-clause-ok : goal.returns-in_default-clause-ok
returns-in_default-clause-ok c =
    ap (λ ls. (c.args.regions.now, ls)) (set-get_or c.args.locals.now c.args.caller c.index-locals-caller.result)
    ∙ put_ended c.args.regions.now c.args.locals.now c.args.caller (slice_index_or c.args.locals.now c.args.caller c.index-locals-caller.result) (local_there c) (sym c.wants.ensures ∙ c.in_default.is)

pub returns-in_default-clause-ended : goal.returns-in_default-clause-ended
returns-in_default-clause-ended c = (slice_index_or c.args.locals.now c.args.caller c.index-locals-caller.result, local_there c, sym c.wants.ensures ∙ c.in_default.is)

pub bounds-regions-number : goal.bounds-regions-number
bounds-regions-number c =
    wanted_within c.args.regions.now c.args.locals.now c.args.caller c.in-Some.number (slice_index_or c.args.locals.now c.args.caller c.index-locals-caller.result) c.requires.lawful
    (slice_get-get_or c.args.locals.now c.args.caller c.index-locals-caller.result c.requires.caller) (sym c.wants.ensures ∙ c.in-Some.is)

pub section-requires : goal.section-requires
section-requires c =
    let here = slice_get-get_or c.args.locals.now c.args.caller c.index-locals-caller.result c.requires.caller in
    let wanted = sym c.wants.ensures ∙ c.in-Some.is in
    let within = wanted_within c.args.regions.now c.args.locals.now c.args.caller c.in-Some.number (slice_index_or c.args.locals.now c.args.caller c.index-locals-caller.result) c.requires.lawful here wanted in
    (c.args.regions.now, c.args.locals.now, c.args.caller, c.in-Some.number, c.requires.lawful, here, wanted, slice_get-get_or c.args.regions.now c.in-Some.number c.index-regions-number.result within)

pub returns-clause-ok : goal.returns-clause-ok
returns-clause-ok c =
    let here = slice_get-get_or c.args.locals.now c.args.caller c.index-locals-caller.result c.requires.caller in
    let wanted = sym c.wants.ensures ∙ c.in-Some.is in
    let within = wanted_within c.args.regions.now c.args.locals.now c.args.caller c.in-Some.number (slice_index_or c.args.locals.now c.args.caller c.index-locals-caller.result) c.requires.lawful here wanted in
    made_ok c.args.regions.now c.args.locals.now c.args.caller c.in-Some.number _ _ here wanted (slice_get-get_or c.args.regions.now c.in-Some.number c.index-regions-number.result within) c.section.new.local c.section.new.region c.section.result c.section.ensures.answer

pub returns-clause-ended : goal.returns-clause-ended
returns-clause-ended c =
    let here = slice_get-get_or c.args.locals.now c.args.caller c.index-locals-caller.result c.requires.caller in
    let wanted = sym c.wants.ensures ∙ c.in-Some.is in
    let within = wanted_within c.args.regions.now c.args.locals.now c.args.caller c.in-Some.number (slice_index_or c.args.locals.now c.args.caller c.index-locals-caller.result) c.requires.lawful here wanted in
    made_as c.args.regions.now c.args.locals.now c.args.caller c.in-Some.number _ _ here wanted (slice_get-get_or c.args.regions.now c.in-Some.number c.index-regions-number.result within) c.section.new.local c.section.new.region c.section.result c.section.ensures.answer
