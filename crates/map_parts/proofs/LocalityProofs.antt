-- A section is over the region that its ask names.
use Rattle.std.proofs.Common.{arith}
use Rattle.std.proofs.lemmas.Option.{same_Some}
use Rattle.vm_model.specs.Places.{AskNothing, AskRefuse, AskTakePurge, AskGivePurge, AskTakeAlloc, AskGiveAlloc, AskSearch, AskDrop, AskReturn, AskSettle, AskRemove, AskUnlink, AskWait, AskTakeWaiting, AskMap, AskPopulate, AskFill, AskUnmap, AskDepopulate, AskFlush, AskZero, AskAdd, AskSum, AskPlace, AskAddChunk, AskAtomic, AskSettleObject, AskUnplace, AskFree, AskSpare, AskNextPage, AskFilled, AskPart, AskAddBlock, AskSettlePart, AskBegin, AskRetire, AskFragment, AskDirty}
use Rattle.map_parts.specs.Locality.{SectionsAreOverOneRegion}
use Rattle.map_parts.proofs.OneRegion.{desk, take_purge, give_purge, take_alloc, give_alloc, search_pages, drop_span, return_spans, settle, remove, unlink, wait, take_waiting, map_span, populate, fill, unmap, depopulate, flush, zero_object, add, sum, place, add_chunk, place_atomic, settle_object, unplace, free_object, spare, next_page, note_filled}
use Rattle.map_parts.proofs.CpuRegion.{cut, add_block, settle_part, begin_unmap, retire, fragment, dirty}

pub over_one_region : SectionsAreOverOneRegion
over_one_region c m k AskNothing number whole within e = absurd cc
over_one_region c m k AskRefuse number whole within e = grind (arith, desk, same_Some)
over_one_region c m k AskTakePurge number whole within e = grind (arith, take_purge, same_Some)
over_one_region c m k AskGivePurge number whole within e = grind (arith, give_purge, same_Some)
over_one_region c m k AskTakeAlloc number whole within e = grind (arith, take_alloc, same_Some)
over_one_region c m k AskGiveAlloc number whole within e = grind (arith, give_alloc, same_Some)
over_one_region c m k (AskSearch search) number whole within e = grind (arith, search_pages, same_Some)
over_one_region c m k (AskDrop s) number whole within e = grind (arith, drop_span, same_Some)
over_one_region c m k (AskReturn spans) number whole within e = grind (arith, return_spans, same_Some)
over_one_region c m k (AskSettle areas) number whole within e = grind (arith, settle, same_Some)
over_one_region c m k (AskRemove start serial) number whole within e = grind (arith, remove, same_Some)
over_one_region c m k (AskUnlink starts) number whole within e = grind (arith, unlink, same_Some)
over_one_region c m k (AskWait spans) number whole within e = grind (arith, wait, same_Some)
over_one_region c m k AskTakeWaiting number whole within e = grind (arith, take_waiting, same_Some)
over_one_region c m k (AskMap s) number whole within e = grind (arith, map_span, same_Some)
over_one_region c m k (AskPopulate at missing) number whole within e = grind (arith, populate, same_Some)
over_one_region c m k (AskFill base page) number whole within e = grind (arith, fill, same_Some)
over_one_region c m k (AskUnmap s) number whole within e = grind (arith, unmap, same_Some)
over_one_region c m k (AskDepopulate base pages) number whole within e = grind (arith, depopulate, same_Some)
over_one_region c m k (AskFlush s) number whole within e = grind (arith, flush, same_Some)
over_one_region c m k (AskZero at) number whole within e = grind (arith, zero_object, same_Some)
over_one_region c m k (AskAdd at serial cpu index amount) number whole within e = grind (arith, add, same_Some)
over_one_region c m k (AskSum at serial index) number whole within e = grind (arith, sum, same_Some)
over_one_region c m k (AskPlace bytes align) number whole within e = grind (arith, place, same_Some)
over_one_region c m k (AskAddChunk chunk base bytes align) number whole within e = grind (arith, add_chunk, same_Some)
over_one_region c m k (AskAtomic bytes align) number whole within e = grind (arith, place_atomic, same_Some)
over_one_region c m k (AskSettleObject at) number whole within e = grind (arith, settle_object, same_Some)
over_one_region c m k (AskUnplace at) number whole within e = grind (arith, unplace, same_Some)
over_one_region c m k (AskFree at serial) number whole within e = grind (arith, free_object, same_Some)
over_one_region c m k AskSpare number whole within e = grind (arith, spare, same_Some)
over_one_region c m k AskNextPage number whole within e = grind (arith, next_page, same_Some)
over_one_region c m k (AskFilled chunk page) number whole within e = grind (arith, note_filled, same_Some)
over_one_region c m k (AskPart cpu pages) number whole within e = grind (arith, cut, same_Some)
over_one_region c m k (AskAddBlock at) number whole within e = grind (arith, add_block, same_Some)
over_one_region c m k (AskSettlePart at) number whole within e = grind (arith, settle_part, same_Some)
over_one_region c m k (AskBegin cpu page serial) number whole within e = grind (arith, begin_unmap, same_Some)
over_one_region c m k (AskRetire at) number whole within e = grind (arith, retire, same_Some)
over_one_region c m k (AskFragment cpu) number whole within e = grind (arith, fragment, same_Some)
over_one_region c m k (AskDirty cpu) number whole within e = grind (arith, dirty, same_Some)
