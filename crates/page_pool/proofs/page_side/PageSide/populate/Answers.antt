use Rattle.std.proofs.Common.{◌≡◌, List, [], ◌∷◌, refl, ℕ, ◌+◌, ◌*◌, length, drop, get_or, ap, sym, ◌∙◌, subst, arith}
use Rattle.std.proofs.lemmas.List.{length-append}
use Rattle.page_pool.specs.declared.page_side.NoFrames.{NoFrames}
use Rattle.page_pool.specs.PageMap.{Pages, free_of}
use Rattle.vm_model.specs.PageSets.{pages_in}
use Rattle.page_pool.specs.Units.{pages_in_unit, pages_at, with_frames_for}
use Rattle.page_pool.proofs.UnitPageLists.{length-pages_at, length-pages_in_unit, units_from, units_end}
use Rattle.page_pool.proofs.KeptBesidePages.{kept_free}
use Rattle.page_pool.proofs.Populating.{IsPopulating, bare_once, bare_front, length-bare, populating_first, populating_some, populating_last}
use Rattle.page_pool.proofs.page_side.PageSide.populate.Goals as goal

pub overflow_mul-asked : goal.overflow_mul-asked
overflow_mul-asked c =
    let set = pages_in c.args.pages in
    let all = pages_at c.args.base c.args.units.now set in
    let few = length-bare all c.args.self.now (bare_once all c.args.self.now c.requires.bare c.requires.distinct) in
    let count = length-pages_at c.args.base c.args.units.now set ∙ ap (λ n. length c.args.units.now * n) (sym c.count_of.ensures) in
    let same = ap (λ (p : Pages). length p.frames) c.self.view_is in
    record { fits = omega (arith, c.self.invariant.space) }

pub overflow_cast-asked-2 : goal.overflow_cast-asked-2
overflow_cast-asked-2 c =
    let set = pages_in c.args.pages in
    let all = pages_at c.args.base c.args.units.now set in
    let few = length-bare all c.args.self.now (bare_once all c.args.self.now c.requires.bare c.requires.distinct) in
    let count = length-pages_at c.args.base c.args.units.now set ∙ ap (λ n. length c.args.units.now * n) (sym c.count_of.ensures) in
    let same = ap (λ (p : Pages). length p.frames) c.self.view_is in
    record { fits = omega (arith, c.self.invariant.space) }

pub returns-then-free-asked-clause-refused : goal.returns-then-free-asked-clause-refused
returns-then-free-asked-clause-refused c =
    let count = length-pages_at c.args.base c.args.units.now (pages_in c.args.pages) ∙ ap (λ n. length c.args.units.now * n) (sym c.count_of.ensures) in
    let free = kept_free (record { frames = c.self.inside.frames; stale = c.self.inside.stale; cells = c.self.inside.cells }) c.self.inside.free c.self.inside.mapped c.self.invariant
    ∙ ap (λ (p : Pages). length (free_of p)) c.self.view_is in
    let refusal : ℕ → ℕ → NoFrames = λ asked free. record { asked = asked; free = free } in
    ap (λ n. refusal n c.len-free.result) (sym count) ∙ ap (refusal (length (pages_at c.args.base c.args.units.now (pages_in c.args.pages)))) (c.len-free.ensures ∙ free)

pub returns-then-free-asked-clause-too_few : goal.returns-then-free-asked-clause-too_few
returns-then-free-asked-clause-too_few c =
    let count = length-pages_at c.args.base c.args.units.now (pages_in c.args.pages) ∙ ap (λ n. length c.args.units.now * n) (sym c.count_of.ensures) in
    let free = kept_free (record { frames = c.self.inside.frames; stale = c.self.inside.stale; cells = c.self.inside.cells }) c.self.inside.free c.self.inside.mapped c.self.invariant
    ∙ ap (λ (p : Pages). length (free_of p)) c.self.view_is in
    omega arith

empty : (pages : List ℕ) → length pages ≡ 0 → pages ≡ []
empty [] e = refl
empty (page ∷ pages) e = absurd (omega arith)

pub returns-then-asked-eq0-clause-mapped : goal.returns-then-asked-eq0-clause-mapped
returns-then-asked-eq0-clause-mapped c =
    let all = pages_at c.args.base c.args.units.now (pages_in c.args.pages) in
    let count = length-pages_at c.args.base c.args.units.now (pages_in c.args.pages) ∙ ap (λ n. length c.args.units.now * n) (sym c.count_of.ensures) in
    ap (λ pages. with_frames_for pages c.args.self.now) (sym (empty all (omega arith)))

pub returns-then-asked-eq0-clause-enough : goal.returns-then-asked-eq0-clause-enough
returns-then-asked-eq0-clause-enough c =
    let count = length-pages_at c.args.base c.args.units.now (pages_in c.args.pages) ∙ ap (λ n. length c.args.units.now * n) (sym c.count_of.ensures) in
    omega arith

pub loop-unit-init : goal.loop-unit-init
loop-unit-init c =
    let set = pages_in c.args.pages in
    let all = pages_at c.args.base c.args.units.now set in
    let count = length-pages_at c.args.base c.args.units.now (pages_in c.args.pages) ∙ ap (λ n. length c.args.units.now * n) (sym c.count_of.ensures) in
    let free = kept_free (record { frames = c.self.inside.frames; stale = c.self.inside.stale; cells = c.self.inside.cells }) c.self.inside.free c.self.inside.mapped c.self.invariant
    ∙ ap (λ (p : Pages). length (free_of p)) c.self.view_is in
    populating_first all c.args.self.now (bare_once all c.args.self.now c.requires.bare c.requires.distinct) (omega arith)

pub map_unit-requires : goal.map_unit-requires
map_unit-requires c =
    let set = pages_in c.args.pages in
    let index = c.loop-unit.unit-index in
    let unit = get_or c.args.units.now index 0 in
    let more = pages_at c.args.base (drop (index + 1) c.args.units.now) set in
    let next = ap (λ units. pages_at c.args.base units set) (units_from c.args.units.now index c.loop-unit-test.true) in
    let here = subst (λ rest. IsPopulating (pages_at c.args.base c.args.units.now set) c.args.self.now rest c.loop-unit.self) next c.loop-unit.invariant in
    record {
      bare = bare_front (pages_in_unit c.args.base unit set) more c.loop-unit.self here.bare;
      enough = let enough = here.enough in omega (arith, length-append (pages_in_unit c.args.base unit set) more, length-pages_in_unit c.args.base unit set);
    }

pub loop-unit-preserved : goal.loop-unit-preserved
loop-unit-preserved c =
    let set = pages_in c.args.pages in
    let index = c.loop-unit.unit-index in
    let all = pages_at c.args.base c.args.units.now set in
    let next = ap (λ units. pages_at c.args.base units set) (units_from c.args.units.now index c.loop-unit-test.true) in
    let here = subst (λ rest. IsPopulating all c.args.self.now rest c.loop-unit.self) next c.loop-unit.invariant in
    populating_some all c.args.self.now (pages_in_unit c.args.base (get_or c.args.units.now index 0) set) (pages_at c.args.base (drop (index + 1) c.args.units.now) set) c.loop-unit.self c.map_unit.new.self here c.map_unit.ensures

pub returns-clause-mapped : goal.returns-clause-mapped
returns-clause-mapped c =
    populating_last _ _ _ _ (ap (λ units. pages_at c.args.base units (pages_in c.args.pages)) (units_end c.args.units.now c.loop-unit.unit-index c.loop-unit-test.false)) c.loop-unit.invariant

pub returns-clause-enough : goal.returns-clause-enough
returns-clause-enough c =
    let count = length-pages_at c.args.base c.args.units.now (pages_in c.args.pages) ∙ ap (λ n. length c.args.units.now * n) (sym c.count_of.ensures) in
    let free = kept_free (record { frames = c.self.inside.frames; stale = c.self.inside.stale; cells = c.self.inside.cells }) c.self.inside.free c.self.inside.mapped c.self.invariant
    ∙ ap (λ (p : Pages). length (free_of p)) c.self.view_is in
    omega arith
