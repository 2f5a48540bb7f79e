-- Areas that are put among others one after another, and taken back.
use Rattle.std.proofs.Common.{◌≡◌, ℕ, suc, ◌+◌, ◌<◌, ◌≤◌, inl, inr, Bool, true, false, not, ◌||◌, ◌==◌, cond, nat_lt, length, List, [], ◌∷◌, take, drop, get_or, refl, ap, sym, ◌∙◌, subst, arith}
use Rattle.std.proofs.lemmas.Bool.{cases_Bool}
use Rattle.std.proofs.lemmas.Bool.Decides.{nat_tests}
use Rattle.std.proofs.lemmas.List.{drop_more, drop_all}
use Rattle.std.proofs.lemmas.List.Folds.{list_any_more}
use Rattle.std.proofs.lemmas.List.Elements.{All-head, All-tail}
use Rattle.std.proofs.lemmas.List.Sums.{sum_by-cons}
use Rattle.std.specs.List.{list_any}
use Rattle.std.specs.Ordering.{nat_cmp}
use Rattle.std.proofs.Common.{Result, Ok, Err, OnOk, OnErr, is_err}
use Rattle.std.specs.declared.alloc.AllocError.{AllocError}
use Rattle.std.specs.Map.{values_of}
use Rattle.std.specs.BTreeMap.{insert_entry}
use Rattle.vm_model.specs.declared.areas.Span.{Span}
use Rattle.vm_model.specs.declared.areas.Area.{Area}
use Rattle.vm_model.specs.declared.areas.AreaKind.{AreaKind}
use Rattle.vm_model.specs.Space.{end_of, holds, covers, times, one_if, is_among}
use Rattle.vm_model.specs.Areas.{spans_of, areas_elsewhere, areas_of, with_areas}
use Rattle.busy_areas.specs.KeptAreas.{AreApartFrom, IsUnused, AreBelow, AreJoined, asked_spans, asked_starts, CanJoin}
use Rattle.busy_areas.proofs.Elsewhere.{behind_start, values_without, elsewhere_more, nowhere_else}
use Rattle.busy_areas.proofs.NamedAreas.{without}
use Rattle.busy_areas.proofs.AreaInserted.{put, put_apart, holds-from, unused_first, unused_rest, AreBelow-weaken, AreBelow-insert, length-insert_entry}

abbrev HasPage : Span → Type 0
HasPage s = 0 < s.pages

-- What areas cover, with one more.

covers-placed : (a b : Area) (areas more : List Area) (page : ℕ) (first : Bool) → covers (spans_of more) page ≡ (holds a.span page || covers (spans_of areas) page)
    → covers (spans_of (cond first (a ∷ b ∷ areas) (b ∷ more))) page ≡ (holds a.span page || (holds b.span page || covers (spans_of areas) page))
covers-placed a b areas more page true is = refl
covers-placed a b areas more page false is = ap (λ c. holds b.span page || c) is ∙ swapped (holds b.span page) (holds a.span page) (covers (spans_of areas) page)
  where
    swapped : (x y z : Bool) → (x || (y || z)) ≡ (y || (x || z))
    swapped true true z = refl
    swapped true false z = refl
    swapped false true z = refl
    swapped false false z = refl

covers-put : (a : Area) (areas : List Area) (page : ℕ) → covers (spans_of (put a areas)) page ≡ (holds a.span page || covers (spans_of areas) page)
covers-put a [] page = refl
covers-put a (b ∷ areas) page = covers-placed a b areas (put a areas) page (nat_lt a.span.start b.span.start) (covers-put a areas page)

-- What is left to be put.

times-cons : (page : ℕ) (s : Span) (spans : List Span) → times page (s ∷ spans) ≡ one_if (holds s page) + times page spans
times-cons page s spans = sum_by-cons (λ (s : Span). one_if (holds s page)) s spans

covered-once : (page : ℕ) (spans : List Span) → covers spans page ≡ true → 1 ≤ times page spans
covered-once page [] h = absurd cc
covered-once page (s ∷ spans) h = elim (cases_Bool (holds s page)) [
  | inl within ↦ omega (arith, times-cons page s spans, ap one_if within)
  | inr out ↦ omega (arith, times-cons page s spans, covered-once page spans (sym (ap (λ b. b || covers spans page) out) ∙ h))
]

either : (b c : Bool) → b ≡ true → (b || c) ≡ true
either b c h = rw h refl

or_else : (b c : Bool) → c ≡ true → (b || c) ≡ true
or_else true c h = refl
or_else false c h = h

neither : (b c : Bool) → b ≡ false → c ≡ false → (b || c) ≡ false
neither b c h k = rw (h, k) refl

pub join_first : (areas : List Area) (p : Span × AreaKind) (new : List (Span × AreaKind)) → CanJoin areas (p ∷ new) → IsUnused areas p.0
join_first areas p new can page within = can.unused page (either (holds p.0 page) (covers (asked_spans new) page) within)

join_rest : (areas : List Area) (a : Area) (kind : AreaKind) (new : List (Span × AreaKind)) → CanJoin areas ((a.span, kind) ∷ new) → CanJoin (put a areas) new
join_rest areas a kind new can = record {
  pages = All-tail HasPage a.span (asked_spans new) can.pages;
  unused = λ page within. covers-put a areas page ∙ neither (holds a.span page) (covers (spans_of areas) page)
      (elim (cases_Bool (holds a.span page)) [
        | inl both ↦ absurd (omega (arith, can.apart page, times-cons page a.span (asked_spans new), ap one_if both, covered-once page (asked_spans new) within))
        | inr out ↦ out
      ])
      (can.unused page (or_else (holds a.span page) (covers (asked_spans new) page) within));
  apart = λ page. omega (arith, can.apart page, times-cons page a.span (asked_spans new));
}

-- Areas among which others were put.

is_among-map : (n : ℕ) (new : List (Span × AreaKind)) → is_among (asked_starts new) n ≡ list_any (λ (p : Span × AreaKind). p.0.start == n) new
is_among-map n [] = refl
is_among-map n (p ∷ new) = ap (λ b. (p.0.start == n) || b) (is_among-map n new)

is_among-more : (new : List (Span × AreaKind)) (i n : ℕ) (p : Span × AreaKind) → i < length new → is_among (asked_starts (take (i + 1) new)) n ≡ (is_among (asked_starts (take i new)) n || ((get_or new i p).0.start == n))
is_among-more new i n p h =
    is_among-map n (take (i + 1) new) ∙ list_any_more (λ (p : Span × AreaKind). p.0.start == n) new i p h
    ∙ ap (λ b. b || ((get_or new i p).0.start == n)) (sym (is_among-map n (take i new)))

-- an area that has one of the starts is passed over
elsewhere-placed : (starts : List ℕ) (a b : Area) (areas more : List Area) (first : Bool) → is_among starts a.span.start ≡ true → areas_elsewhere starts more ≡ areas_elsewhere starts areas
    → areas_elsewhere starts (cond first (a ∷ b ∷ areas) (b ∷ more)) ≡ areas_elsewhere starts (b ∷ areas)
elsewhere-placed starts a b areas more true own is = ap (λ (c : Bool). cond (not c) (a ∷ areas_elsewhere starts (b ∷ areas)) (areas_elsewhere starts (b ∷ areas))) own
elsewhere-placed starts a b areas more false own is = ap (λ (rest : List Area). cond (not (is_among starts b.span.start)) (b ∷ rest) rest) is

elsewhere-put : (starts : List ℕ) (a : Area) (areas : List Area) → is_among starts a.span.start ≡ true → areas_elsewhere starts (put a areas) ≡ areas_elsewhere starts areas
elsewhere-put starts a [] own = ap (λ (c : Bool). cond (not c) (a ∷ []) []) own
elsewhere-put starts a (b ∷ areas) own = elsewhere-placed starts a b areas (put a areas) (nat_lt a.span.start b.span.start) own (elsewhere-put starts a areas own)

-- no area starts where one starts that shares no page with it
other_start : (low : ℕ) (e : ℕ × Area) (entries : List (ℕ × Area)) (s : Span) → AreApartFrom low (e ∷ entries) → 0 < s.pages → IsUnused (values_of (e ∷ entries)) s → (s.start == e.1.span.start) ≡ false
other_start low e entries s apart some unused = elim (cases_Bool (s.start == e.1.span.start)) [
  | inl same ↦
      let at : e.1.span.start ≡ s.start = grind (arith, nat_tests) in
      let page = apart.2 in
      absurd (let both = sym (unused_first e.1 (values_of entries) s unused s.start (holds-from s s.start (omega arith) (omega arith))) ∙ holds-from e.1.span s.start (omega arith) (omega arith) in cc)
  | inr other ↦ other
]

elsewhere-kept : (a : Area) (some rest : List Area) (b c : Bool) → b ≡ c → some ≡ rest → cond (not b) (a ∷ some) some ≡ cond (not c) (a ∷ rest) rest
elsewhere-kept a some rest b c is same = cc

or_false : (b c : Bool) → c ≡ false → (b || c) ≡ b
or_false true c h = refl
or_false false c h = h

elsewhere_unused : (low : ℕ) (front all : List ℕ) (s : Span) (entries : List (ℕ × Area)) → AreApartFrom low entries → 0 < s.pages → IsUnused (values_of entries) s
    → ((n : ℕ) → is_among all n ≡ (is_among front n || (s.start == n))) → areas_elsewhere all (values_of entries) ≡ areas_elsewhere front (values_of entries)
elsewhere_unused low front all s [] apart some unused is = refl
elsewhere_unused low front all s (e ∷ entries) apart some unused is =
    elsewhere-kept e.1 (areas_elsewhere all (values_of entries)) (areas_elsewhere front (values_of entries)) (is_among all e.1.span.start) (is_among front e.1.span.start)
    (is e.1.span.start ∙ or_false (is_among front e.1.span.start) (s.start == e.1.span.start) (other_start low e entries s apart some unused))
    (elsewhere_unused (end_of e.1.span) front all s entries apart.3 some (unused_rest e.1 (values_of entries) s unused) is)

-- Entries after so many of the new areas were put.

abbrev entry : ℕ → Area → ℕ × Area
entry key a = (key, a)

same_entries : (e f : ℕ × Area) (entries others : List (ℕ × Area)) → e.0 ≡ f.0 → e.1 ≡ f.1 → entries ≡ others → e ∷ entries ≡ f ∷ others
same_entries e f entries others key area rest =
    ap (λ (n : ℕ). entry n e.1 ∷ entries) key ∙ ap (λ (a : Area). entry f.0 a ∷ entries) area ∙ ap (λ (es : List (ℕ × Area)). f ∷ es) rest

-- entries are their areas, each under its start
keyed_same : (low high : ℕ) (entries others : List (ℕ × Area)) → AreApartFrom low entries → AreApartFrom high others → values_of entries ≡ values_of others → entries ≡ others
keyed_same low high [] [] apart far is = refl
keyed_same low high [] (f ∷ others) apart far is = absurd cc
keyed_same low high (e ∷ entries) [] apart far is = absurd cc
keyed_same low high (e ∷ entries) (f ∷ others) apart far is =
    let first : e.1 ≡ f.1 = cc in
    let rest : values_of entries ≡ values_of others = cc in
    let key : e.0 ≡ f.0 = apart.0 ∙ ap (λ (a : Area). a.span.start) first ∙ sym far.0 in
    same_entries e f entries others key first (keyed_same (end_of e.1.span) (end_of f.1.span) entries others apart.3 far.3 rest)

-- what is known after so many of the new areas were put, and what is left to be put
pub record IsPutUpTo (caller first : ℕ) (new : List (Span × AreaKind)) (old now : List (ℕ × Area)) (i : ℕ) : Type 0 where
  pub told : with_areas (areas_of caller (first + i) (drop i new)) (values_of now) ≡ with_areas (areas_of caller first new) (values_of old)
  pub rest : CanJoin (values_of now) (drop i new)
  pub apart : AreApartFrom 0 now
  pub serials : AreBelow first old → AreBelow (first + i) now
  pub count : length now ≤ length old + i
  pub undone : areas_elsewhere (asked_starts (take i new)) (values_of now) ≡ values_of old

pub put_none : (caller first : ℕ) (new : List (Span × AreaKind)) (old : List (ℕ × Area)) → AreApartFrom 0 old → CanJoin (values_of old) new → IsPutUpTo caller first new old old 0
put_none caller first new old apart can = record {
  told = ap (λ n. with_areas (areas_of caller n new) (values_of old)) (let e : first + 0 ≡ first = omega arith in e);
  rest = can;
  apart = apart;
  serials = λ below. subst (λ (n : ℕ). AreBelow n old) (let e : first ≡ first + 0 = omega arith in e) below;
  count = omega arith;
  undone = nowhere_else (values_of old);
}

abbrev pub area_of : (caller serial : ℕ) → Span × AreaKind → Area
area_of caller serial p = record { span = p.0; kind = p.1; caller = caller; serial = serial }

pub put_more : (caller first : ℕ) (new : List (Span × AreaKind)) (old now next : List (ℕ × Area)) (i : ℕ) (d : Span × AreaKind) → IsPutUpTo caller first new old now i → i < length new
    → next ≡ insert_entry nat_cmp now (get_or new i d).0.start (area_of caller (first + i) (get_or new i d)) → IsPutUpTo caller first new old next (i + 1)
put_more caller first new old now next i d had h is =
    let p = get_or new i d in
    let a = area_of caller (first + i) p in
    let left = drop (i + 1) new in
    let starts = asked_starts (take (i + 1) new) in
    let more = drop_more new i d h in
    let can = subst (CanJoin (values_of now)) more had.rest in
    let some = All-head HasPage p.0 (asked_spans left) can.pages in
    let unused = join_first (values_of now) p left can in
    let placed = put_apart 0 a now had.apart some (omega arith) unused in
    let vals = ap values_of is ∙ placed.areas in
    let this : (p.0.start == p.0.start) ≡ true = grind (arith, nat_tests) in
    let own = is_among-more new i p.0.start d h ∙ or_else (is_among (asked_starts (take i new)) p.0.start) (p.0.start == p.0.start) this in
    record {
      told =
          ap (λ n. with_areas (areas_of caller n left) (values_of next)) (let e : first + (i + 1) ≡ suc (first + i) = omega arith in e)
          ∙ ap (with_areas (areas_of caller (suc (first + i)) left)) vals
          ∙ ap (λ ps. with_areas (areas_of caller (first + i) ps) (values_of now)) (sym more) ∙ had.told;
      rest = subst (λ (areas : List Area). CanJoin areas left) (sym vals) (join_rest (values_of now) a p.1 left can);
      apart = subst (AreApartFrom 0) (sym is) placed.apart;
      serials = λ below.
          subst (AreBelow (first + (i + 1))) (sym is)
          (AreBelow-insert (first + (i + 1)) p.0.start a now (omega arith) (AreBelow-weaken (first + i) (first + (i + 1)) now (omega arith) (had.serials below)));
      count = omega (arith, ap length is, length-insert_entry p.0.start a now, had.count);
      undone = ap (areas_elsewhere starts) vals ∙ elsewhere-put starts a (values_of now) own
          ∙ elsewhere_unused 0 (asked_starts (take i new)) starts p.0 now had.apart some unused (λ n. is_among-more new i n d h) ∙ had.undone;
    }

pub all_put : (caller first : ℕ) (new : List (Span × AreaKind)) (old now : List (ℕ × Area)) → IsPutUpTo caller first new old now (length new) → AreJoined caller first new old now
all_put caller first new old now had = record {
  areas = ap (λ ps. with_areas (areas_of caller (first + length new) ps) (values_of now)) (sym (drop_all (length new) new (omega arith))) ∙ had.told;
  apart = had.apart;
  serials = had.serials;
  count = had.count;
}

-- without the areas that were put, the entries are the old ones
pub all_back : (caller first : ℕ) (new : List (Span × AreaKind)) (old now back : List (ℕ × Area)) (i : ℕ) → IsPutUpTo caller first new old now i → AreApartFrom 0 old → AreApartFrom 0 back
    → values_of back ≡ areas_elsewhere (asked_starts (take i new)) (values_of now) → back ≡ old
all_back caller first new old now back i had apart back_apart is = keyed_same 0 0 back old back_apart apart (is ∙ had.undone)

pub back_more : (new : List (Span × AreaKind)) (old now next : List (ℕ × Area)) (i : ℕ) (d : Span × AreaKind) → i < length new → AreApartFrom 0 now
    → values_of now ≡ areas_elsewhere (asked_starts (take i new)) (values_of old) → next ≡ without (get_or new i d).0.start now
    → values_of next ≡ areas_elsewhere (asked_starts (take (i + 1) new)) (values_of old)
back_more new old now next i d h apart so_far is =
    let start = (get_or new i d).0.start in
    ap values_of is ∙ values_without 0 start now apart ∙ ap (behind_start start) so_far
    ∙ elsewhere_more (asked_starts (take i new)) (asked_starts (take (i + 1) new)) start (values_of old) (λ n. is_among-more new i n d h)

-- what is said of a call that was refused, and of one that was not
pub where_ok : (P : Type 0) (r : Result Unit AllocError) → OnOk r P → is_err r ≡ false → P
where_ok P (Ok x) h is = h
where_ok P (Err e) h is = absurd cc

pub where_err : (P : Type 0) (r : Result Unit AllocError) → OnErr r P → is_err r ≡ true → P
where_err P (Ok x) h is = absurd cc
where_err P (Err e) h is = h
