-- Pages that lose their frames one by one.
use Rattle.std.proofs.Common.{◌≡◌, ℕ, ◌<◌, Bool, true, false, ◌==◌, List, [], ◌∷◌, ◌++◌, length, slice_set, Option, None, refl, ap, sym, ◌∙◌, subst, arith}
use Rattle.std.proofs.lemmas.List.{length-set}
use Rattle.vm_model.specs.Space.{is_among, paint}
use Rattle.page_pool.specs.PageMap.{Pages}
use Rattle.page_pool.specs.Units.{without_frame, without_frames_for}
use Rattle.page_pool.proofs.Painting.{paint-none, paint-set, paint-paint}
use Rattle.page_pool.proofs.UnitPageLists.{among_more}

-- the pages that are left lose what all were to lose
pub record IsDepopulating (all : List ℕ) (old : Pages) (rest : List ℕ) (now : Pages) : Type 0 where
  pub same : without_frames_for rest now ≡ without_frames_for all old
  pub inside : (page : ℕ) → is_among rest page ≡ true → page < length now.frames

abbrev pages_with : List (Option ℕ) → List Bool → Pages → Pages
pages_with frames stale p = record p { frames = frames; stale = stale }

-- one place is set, and then others are painted
set_then_paint : {X : Type 0} (page : ℕ) (pages : List ℕ) (x : X) (ys : List X) → paint (is_among pages) x (slice_set ys page x) ≡ paint (is_among (page ∷ pages)) x ys
set_then_paint page pages x ys =
    ap (λ zs. paint (is_among pages) x (slice_set zs page x)) (sym (paint-none (λ i. false) x ys (λ i. refl)))
    ∙ ap (paint (is_among pages) x) (paint-set (λ i. false) (λ i. page == i) x ys page (λ i. refl))
    ∙ paint-paint (λ i. page == i) (is_among pages) (is_among (page ∷ pages)) x ys (λ i. refl)

first_lost : (page : ℕ) (pages : List ℕ) (p : Pages) → without_frames_for pages (without_frame page p) ≡ without_frames_for (page ∷ pages) p
first_lost page pages p =
    ap (λ frames. pages_with frames (paint (is_among pages) true (slice_set p.stale page true)) p) (set_then_paint page pages None p.frames)
    ∙ ap (λ stale. pages_with (paint (is_among (page ∷ pages)) None p.frames) stale p) (set_then_paint page pages true p.stale)

none_lost : (p : Pages) → without_frames_for [] p ≡ p
none_lost p =
    ap (λ frames. pages_with frames (paint (is_among []) true p.stale) p) (paint-none (is_among []) None p.frames (λ i. refl))
    ∙ ap (λ stale. pages_with p.frames stale p) (paint-none (is_among []) true p.stale (λ i. refl))

pub depopulating_next : (all : List ℕ) (old : Pages) (page : ℕ) (rest : List ℕ) (now after : Pages) → IsDepopulating all old (page ∷ rest) now → after ≡ without_frame page now → IsDepopulating all old rest after
depopulating_next all old page rest now after so_far lost = subst (IsDepopulating all old rest) (sym lost) (record {
  same = first_lost page rest now ∙ so_far.same;
  inside = λ other h. omega (arith, length-set now.frames page None, so_far.inside other (among_more page other rest h));
})

pub depopulating_some : (all : List ℕ) (old : Pages) (pages rest : List ℕ) (now after : Pages) → IsDepopulating all old (pages ++ rest) now → after ≡ without_frames_for pages now → IsDepopulating all old rest after
depopulating_some all old [] rest now after so_far lost = subst (IsDepopulating all old rest) (sym (lost ∙ none_lost now)) so_far
depopulating_some all old (page ∷ pages) rest now after so_far lost =
    depopulating_some all old pages rest (without_frame page now) after (depopulating_next all old page (pages ++ rest) now (without_frame page now) so_far refl) (lost ∙ sym (first_lost page pages now))

pub depopulating_first : (all : List ℕ) (p : Pages) → ((page : ℕ) → is_among all page ≡ true → page < length p.frames) → IsDepopulating all p all p
depopulating_first all p inside = record { same = refl; inside = inside }

pub depopulating_last : (all : List ℕ) (old : Pages) (rest : List ℕ) (now : Pages) → rest ≡ [] → IsDepopulating all old rest now → now ≡ without_frames_for all old
depopulating_last all old rest now none so_far = sym (none_lost now) ∙ (subst (λ rs. IsDepopulating all old rs now) none so_far).same
