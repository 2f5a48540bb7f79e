-- Pages that get frames one by one.
use Rattle.std.proofs.Common.{◌≡◌, ◌≢◌, ℕ, ◌≤◌, Bool, true, false, ◌||◌, ◌==◌, List, [], ◌∷◌, ◌++◌, length, drop, Option, is_some, refl, ap, sym, ◌∙◌, subst, arith}
use Rattle.std.proofs.lemmas.Bool.Decides.{nat_tests}
use Rattle.std.proofs.lemmas.List.{length-drop}
use Rattle.std.proofs.lemmas.List.Sums.{count_by-le-length}
use Rattle.vm_model.specs.Space.{is_among}
use Rattle.vm_model.specs.Frames.{give_frames}
use Rattle.vm_model.proofs.FramesGiven.{AreUnmappedOnce, length-give_frames, count-give_frames, slice_get-give_frames_other, free_frames-give_frames}
use Rattle.page_pool.specs.PageMap.{Pages, IsBare, memory, free_of}
use Rattle.page_pool.specs.Units.{AreDistinct, AreBareOnce, with_frames_for}
use Rattle.page_pool.proofs.SharedFrames.{setup}
use Rattle.page_pool.proofs.UnitPageLists.{among_first, among_more, is_among-append}

-- the pages that are left get what all were to get, and can get it
pub record IsPopulating (all : List ℕ) (old : Pages) (rest : List ℕ) (now : Pages) : Type 0 where
  pub same : with_frames_for rest now ≡ with_frames_for all old
  pub bare : AreBareOnce rest now
  pub enough : length rest ≤ length (free_of now)

-- Pages that are bare, none of them twice.

pub bare_once : (pages : List ℕ) (p : Pages) → ((page : ℕ) → is_among pages page ≡ true → IsBare p page) → AreDistinct pages → AreBareOnce pages p
bare_once [] p each distinct = tt
bare_once (page ∷ pages) p each distinct = (each page (among_first page pages), distinct.0, bare_once pages p (λ other h. each other (among_more page other pages h)) distinct.1)

pub bare_front : (pages more : List ℕ) (p : Pages) → AreBareOnce (pages ++ more) p → AreBareOnce pages p
bare_front [] more p bare = tt
bare_front (page ∷ pages) more p bare = (bare.0, front (is_among pages page) (is_among more page) (sym (is_among-append pages more page) ∙ bare.1), bare_front pages more p bare.2)
  where
    front : (a b : Bool) → (a || b) ≡ false → a ≡ false
    front true b e = e
    front false b e = refl

unmapped_once : (pages : List ℕ) (p : Pages) → AreBareOnce pages p → AreUnmappedOnce pages p.frames
unmapped_once [] p bare = tt
unmapped_once (page ∷ pages) p bare = (bare.0.unmapped, bare.1, unmapped_once pages p bare.2)

apart_if : (page other : ℕ) (pages : List ℕ) → is_among (other ∷ pages) page ≡ false → other ≢ page
apart_if page other pages h = λ same. let e : is_among (other ∷ pages) other ≡ false = ap (is_among (other ∷ pages)) same ∙ h in let both = sym (among_first other pages) ∙ e in cc

rest_lacks : (page other : ℕ) (pages : List ℕ) → is_among (other ∷ pages) page ≡ false → is_among pages page ≡ false
rest_lacks page other pages h = behind (other == page) (is_among pages page) h
  where
    behind : (a b : Bool) → (a || b) ≡ false → b ≡ false
    behind true true e = e
    behind true false e = refl
    behind false b e = e

-- the other pages stay bare when one gets a frame
stay_bare : (pages : List ℕ) (page : ℕ) (free : List ℕ) (p : Pages) → is_among pages page ≡ false → AreBareOnce pages p → AreBareOnce pages (record p { frames = give_frames (page ∷ []) free p.frames })
stay_bare [] page free p lacks bare = tt
stay_bare (other ∷ pages) page free p lacks bare = (
  record { unmapped = slice_get-give_frames_other (page ∷ []) free p.frames other (other_among (apart_if page other pages lacks)) ∙ bare.0.unmapped; not_stale = bare.0.not_stale },
  bare.1,
  stay_bare pages page free p (rest_lacks page other pages lacks) bare.2,
)
  where
    other_among : other ≢ page → is_among (page ∷ []) other ≡ false
    other_among apart = let differ : (page == other) ≡ false = grind (arith, nat_tests) in ap (λ b. b || false) differ

-- One page gets a frame.

no_more : (pages : List ℕ) (frames : List (Option ℕ)) → give_frames pages [] frames ≡ frames
no_more [] frames = refl
no_more (page ∷ pages) frames = refl

give_frames-first : (page : ℕ) (pages free : List ℕ) (frames : List (Option ℕ)) → give_frames pages (drop 1 free) (give_frames (page ∷ []) free frames) ≡ give_frames (page ∷ pages) free frames
give_frames-first page pages [] frames = no_more pages frames
give_frames-first page pages (frame ∷ free) frames = refl

free_left : (page : ℕ) (p : Pages) → IsBare p page → free_of (with_frames_for (page ∷ []) p) ≡ drop 1 (free_of p)
free_left page p bare = free_frames-give_frames (setup (memory p)) (page ∷ []) p.frames (bare.unmapped, refl, tt)

first_given : (page : ℕ) (pages : List ℕ) (p : Pages) → IsBare p page → with_frames_for pages (with_frames_for (page ∷ []) p) ≡ with_frames_for (page ∷ pages) p
first_given page pages p bare =
    ap (λ free. framed (give_frames pages free (give_frames (page ∷ []) (free_of p) p.frames))) (free_left page p bare) ∙ ap framed (give_frames-first page pages (free_of p) p.frames)
  where
    framed : List (Option ℕ) → Pages
    framed frames = record p { frames = frames }

pub populating_next : (all : List ℕ) (old : Pages) (page : ℕ) (rest : List ℕ) (now after : Pages) → IsPopulating all old (page ∷ rest) now → after ≡ with_frames_for (page ∷ []) now → IsPopulating all old rest after
populating_next all old page rest now after so_far given = subst (IsPopulating all old rest) (sym given) (record {
  same = first_given page rest now so_far.bare.0 ∙ so_far.same;
  bare = stay_bare rest page (free_of now) now so_far.bare.1 so_far.bare.2;
  enough = omega (arith, so_far.enough, ap length (free_left page now so_far.bare.0), length-drop 1 (free_of now));
})

-- Some pages get frames at once.

pub populating_some : (all : List ℕ) (old : Pages) (pages rest : List ℕ) (now after : Pages) → IsPopulating all old (pages ++ rest) now → after ≡ with_frames_for pages now → IsPopulating all old rest after
populating_some all old [] rest now after so_far given = subst (IsPopulating all old rest) (sym given) so_far
populating_some all old (page ∷ pages) rest now after so_far given =
    populating_some all old pages rest (with_frames_for (page ∷ []) now) after (populating_next all old page (pages ++ rest) now (with_frames_for (page ∷ []) now) so_far refl)
    (given ∙ sym (first_given page pages now so_far.bare.0))

pub populating_first : (all : List ℕ) (p : Pages) → AreBareOnce all p → length all ≤ length (free_of p) → IsPopulating all p all p
populating_first all p bare enough = record { same = refl; bare = bare; enough = enough }

pub populating_last : (all : List ℕ) (old : Pages) (rest : List ℕ) (now : Pages) → rest ≡ [] → IsPopulating all old rest now → now ≡ with_frames_for all old
populating_last all old rest now none so_far = (subst (λ rs. IsPopulating all old rs now) none so_far).same

-- pages that are bare are in the space, and each is one of its own
pub length-bare : (pages : List ℕ) (p : Pages) → AreBareOnce pages p → length pages ≤ length p.frames
length-bare pages p bare =
    omega (arith, count-give_frames pages pages p.frames (unmapped_once pages p bare) (omega arith), count_by-le-length (is_some {T = ℕ}) (give_frames pages pages p.frames), length-give_frames pages pages p.frames)
