use Rattle.std.proofs.Common.{FitsSigned, w32, rules, ap, sym, ◌∙◌}
use Rattle.std.proofs.lemmas.Int.{to_z-of_z}
use Rattle.callers.specs.declared.place.Place.TheVariants as place
use Rattle.section_core.proofs.SideRows.{at_place, none_pages}
use Rattle.section_core.proofs.sections.over_pages.Goals as goal

pub map_area-requires : goal.map_area-requires
map_area-requires c = at_place _ _ _ _ c.in-MappingArea.is c.requires.can

pub unmap_area-requires : goal.unmap_area-requires
unmap_area-requires c = at_place _ _ _ _ c.in-UnmappingArea.is c.requires.can

pub flush-requires : goal.flush-requires
flush-requires c = at_place _ _ _ _ c.in-PurgeFlushing.is c.requires.can

pub map_part-requires : goal.map_part-requires
map_part-requires c = at_place _ _ _ _ c.in-MappingPart.is c.requires.can

pub unmap_part-requires : goal.unmap_part-requires
unmap_part-requires c = at_place _ _ _ _ c.in-UnmappingPart.is c.requires.can

pub populate-requires : goal.populate-requires
populate-requires c = at_place _ _ _ _ c.in-Populating.is c.requires.can

pub zero-requires : goal.zero-requires
zero-requires c = at_place _ _ _ _ c.in-Zeroing.is c.requires.can

pub add_word-requires : goal.add_word-requires
add_word-requires c =
    let fits : FitsSigned w32 c.in-Adding.amount = search rules in
    at_place _ _ _ _ (c.in-Adding.is ∙ ap (place.Adding c.in-Adding.object c.in-Adding.serial c.in-Adding.cpu c.in-Adding.index) (sym (to_z-of_z w32 c.in-Adding.amount fits))) c.requires.can

pub sum_words-requires : goal.sum_words-requires
sum_words-requires c = at_place _ _ _ _ c.in-Summing.is c.requires.can

pub depopulate-requires : goal.depopulate-requires
depopulate-requires c = at_place _ _ _ _ c.in-Depopulating.is c.requires.can

pub fill-requires : goal.fill-requires
fill-requires c = at_place _ _ _ _ c.in-Filling.is c.requires.can

pub unreachable-requires : goal.unreachable-requires
unreachable-requires c = none_pages _ c.args.pages.now c.requires.row c.in_default.not-MappingArea c.in_default.not-UnmappingArea c.in_default.not-PurgeFlushing c.in_default.not-MappingPart c.in_default.not-UnmappingPart c.in_default.not-Populating c.in_default.not-Zeroing c.in_default.not-Adding c.in_default.not-Summing c.in_default.not-Depopulating c.in_default.not-Filling
