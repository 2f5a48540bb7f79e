use Rattle.std.proofs.Common.{◌≡◌, ℕ, ℤ, ◌+◌, ◌*◌, ◌/◌, ◌≤◌, true, List, [], ◌∷◌, length, FitsSigned, w64, ap, sym, ◌∙◌, subst, rules}
use Rattle.std.proofs.lemmas.Int.{to_z-of_z}
use Rattle.vm_model.specs.declared.calls.Reply.TheVariants as reply
use Rattle.vm_model.specs.Setup.{Setup}
use Rattle.vm_model.specs.Space.{is_among}
use Rattle.vm_model.specs.Next.{just}
use Rattle.vm_model.specs.History.{moved_to}
use Rattle.page_pool.specs.Units.{pages_at, bytes_at, sum_of}
use Rattle.section_core.proofs.PageSections.{sums}
use Rattle.section_core.proofs.WordSections.{words_mapped, sum_fits}
use Rattle.section_core.proofs.object_pages.sum_words.Goals as goal

pub sum_words-sum-requires-clause-mapped : goal.sum_words-sum-requires-clause-mapped
sum_words-sum-requires-clause-mapped c = λ page h.
    let ready = c.requires.stands.ready in
    let units = c.units-units.ensures ∙ ap (λ (x : Setup). x.units) c.config.ensures in
    words_mapped c.args.local.now.setup c.args.pages.now.frames _ ready.0 c.args.index ready.1 page
    (subst (λ (list : List ℕ). is_among (pages_at c.args.object.base list ((c.args.object.off + 4 * c.args.index) / 4096 ∷ [])) page ≡ true) units h)

pub sum_words-sum-requires-clause-fit : goal.sum_words-sum-requires-clause-fit
sum_words-sum-requires-clause-fit c = λ count.
    let units = c.units-units.ensures ∙ ap (λ (x : Setup). x.units) c.config.ensures in
    sum_fits c.args.pages.now.frames c.args.pages.now.cells (λ unit. 4096 * (c.args.object.base + unit) + (c.args.object.off + 4 * c.args.index)) c.units-units.result.now count
    (subst (λ (list : List ℕ). length list ≤ 64) (sym units) c.requires.at.setup.units.few) c.requires.stands.small.words

pub returns : goal.returns
returns c =
    let units = c.units-units.ensures ∙ ap (λ (x : Setup). x.units) c.config.ensures in
    let fits : FitsSigned w64 c.sum_words-sum.result = search rules in
    sums c.args.local.now c.args.pages.now c.requires.stands.memory _ c.args.serial c.args.index c.sum_words-sum.result c.answer.new.self c.requires.at.place
    (c.sum_words-sum.ensures.sum ∙ ap (λ (list : List ℕ). sum_of c.args.pages.now (bytes_at c.args.object.base list (c.args.object.off + 4 * c.args.index))) units)
    (c.answer.ensures ∙ ap (λ (total : ℤ). moved_to c.args.local.now (just (reply.Sum total))) (to_z-of_z w64 c.sum_words-sum.result fits))
