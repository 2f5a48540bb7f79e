use Rattle.std.proofs.Common.{◌≡◌, ◌+◌, ◌/◌, ◌+ℤ◌, [], ◌∷◌, get_or, pos, to_z, of_z, w64, ap, sym, ◌∙◌, subst, FitsSigned, ℤ, ℕ, rules}
use Rattle.std.proofs.lemmas.Int.{to_z-of_z}
use Rattle.page_pool.specs.PageMap.{Pages}
use Rattle.page_pool.proofs.UnitPageLists.{among_units, among_first}
use Rattle.page_pool.proofs.WordSums.{sum_more}
use Rattle.page_pool.proofs.page_side.PageSide.sum_words.Goals as goal

-- the sum so far and the word, as they are added
summed : (bits : ℕ) (word before more : ℤ) → to_z w64 bits ≡ before → word ≡ more → FitsSigned w64 word → to_z w64 bits +ℤ to_z w64 (of_z w64 word) ≡ before +ℤ more
summed bits word before more sum read fits = ap (λ z. to_z w64 bits +ℤ z) (to_z-of_z w64 word fits ∙ read) ∙ ap (λ z. z +ℤ more) sum

pub cell_at-requires : goal.cell_at-requires
cell_at-requires c =
    let unit = get_or c.args.units.now c.loop-unit.unit-index 0 in
    c.requires.mapped (c.args.base + unit + c.args.off / 4096) (among_units c.args.base c.args.units.now (c.args.off / 4096 ∷ []) c.loop-unit.unit-index (c.args.base + unit + c.args.off / 4096) c.loop-unit-test.true (among_first (c.args.base + unit + c.args.off / 4096) []))

pub overflow_add-sum : goal.overflow_add-sum
overflow_add-sum c =
    let read = c.read-sum.ensures ∙ ap (λ (p : Pages). get_or p.cells c.cell_at.result (pos 0)) c.self.view_is in
    let more = sum_more c.args.self.now c.args.base c.args.units.now c.args.off c.loop-unit.unit-index c.cell_at.result c.loop-unit-test.true c.cell_at.ensures.cell in
    subst (λ z. FitsSigned w64 z) (more ∙ sym (summed c.loop-unit.sum-bits c.read-sum.result _ _ c.loop-unit.invariant read (let f : FitsSigned w64 c.read-sum.result = search rules in f)))
    (c.requires.fit (c.loop-unit.unit-index + 1))

pub loop-unit-preserved : goal.loop-unit-preserved
loop-unit-preserved c =
    let read = c.read-sum.ensures ∙ ap (λ (p : Pages). get_or p.cells c.cell_at.result (pos 0)) c.self.view_is in
    let more = sum_more c.args.self.now c.args.base c.args.units.now c.args.off c.loop-unit.unit-index c.cell_at.result c.loop-unit-test.true c.cell_at.ensures.cell in
    let same = summed c.loop-unit.sum-bits c.read-sum.result _ _ c.loop-unit.invariant read (let f : FitsSigned w64 c.read-sum.result = search rules in f) in
    to_z-of_z w64 _ (subst (λ z. FitsSigned w64 z) (more ∙ sym same) (c.requires.fit (c.loop-unit.unit-index + 1))) ∙ same ∙ sym more
