use Rattle.std.proofs.Common.{FitsSigned, w32, rules, ap, ◌∙◌}
use Rattle.vm_model.specs.Setup.{Setup}
use Rattle.section_core.proofs.WordSections.{word_mapped, added_fits}
use Rattle.section_core.proofs.object_pages.add_word.Goals as goal

pub add_word-requires-clause-mapped : goal.add_word-requires-clause-mapped
add_word-requires-clause-mapped c =
    let ready = c.requires.stands.ready in
    word_mapped c.args.local.now.setup c.args.pages.now.frames _ ready.0 c.args.index ready.2 c.units.result.now c.args.cpu (c.units.ensures ∙ ap (λ (x : Setup). x.units) c.config.ensures) ready.1

pub add_word-requires-clause-fits : goal.add_word-requires-clause-fits
add_word-requires-clause-fits c =
    let fits : FitsSigned w32 c.args.amount = search rules in
    added_fits c.args.pages.now.frames c.args.pages.now.cells _ c.args.amount c.requires.stands.small.words c.requires.stands.small.amount fits
