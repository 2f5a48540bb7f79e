-- An object that is put into the two maps of a chunk, and one that is taken out.
use Rattle.std.proofs.Common.{◌≡◌, ◌≢◌, ℕ, zero, suc, ◌+◌, ◌-◌, ◌<◌, ◌≤◌, ◌⊎◌, inl, inr, Bool, true, false, not, ◌&&◌, ◌||◌, ◌==◌, if◌then◌else◌, List, [], ◌∷◌, length, map, filter, drop, replicate, slice_get, Some, None, option_map, refl, ap, sym, ◌∙◌, arith}
use Rattle.std.proofs.lemmas.Bool.{cases_lt, cases_eq}
use Rattle.std.proofs.lemmas.Bool.Decides.{nat_tests}
use Rattle.std.proofs.lemmas.List.{length-drop, length-replicate}
use Rattle.vm_model.specs.declared.areas.Span.{Span}
use Rattle.vm_model.specs.Space.{span, holds, covers, paint, count_from, put_by, taken_by}
use Rattle.vm_model.specs.Bits.{leading_free}
use Rattle.vm_model.proofs.Elements.{slice_get-drop}
use Rattle.vm_model.proofs.Paint.{slice_get-paint}
use Rattle.vm_model.proofs.PaintRuns.{length-paint}
use Rattle.chunk_bitmaps.specs.Bitmap.{IsNextBit}
use Rattle.vm_model.specs.Bits.{value_at}
use Rattle.chunk_bitmaps.specs.ChunkMap.{ChunkMap, empty_chunk, with_object_at, without_object_at, object_bits_at, begins, up_to_next, object_from, objects_in, chunk_map, AreMaps}
use Rattle.vm_model.proofs.Tabulated.{same_tabulated, slice_get-tabulated, value_at-get, get-value_at}
use Rattle.vm_model.proofs.Tabulated.{paint_from-tabulated, tabulated_same}
use Rattle.vm_model.proofs.FreePlaces.{AreFree}
use Rattle.chunk_bitmaps.proofs.FirstFits.{leading_free-next}
use Rattle.chunk_bitmaps.proofs.ObjectLists.{CoversFrom, map-filter-same, filter-one_more, map-put_by, covers-put_by, filter-both, map-filter, covers-from, covers-to, find_object, find_no_object, filter-none}
use Rattle.vm_model.proofs.Tabulated.{filter-same}

-- Values at places.

value_at-past : (bits : List Bool) (place : ℕ) → length bits ≤ place → value_at bits place ≡ false
value_at-past [] place h = refl
value_at-past (b ∷ bits) zero h = absurd (omega arith)
value_at-past (b ∷ bits) (suc place) h = value_at-past bits place (omega arith)

value_within : (bits : List Bool) (place : ℕ) → value_at bits place ≡ true → place < length bits
value_within bits place e = by_cases (cases_lt place (length bits))
  where
    by_cases : (place < length bits) ⊎ (length bits ≤ place) → place < length bits
    by_cases (inl h) = h
    by_cases (inr h) = let no = value_at-past bits place h in cc

pub value_at-paint : (test : ℕ → Bool) (x : Bool) (bits : List Bool) (place : ℕ) → place < length bits → value_at (paint test x bits) place ≡ (if test place then x else value_at bits place)
value_at-paint test x bits place h =
    value_at-get (paint test x bits) place _ (slice_get-paint test x bits place ∙ ap (option_map (λ y. if test place then x else y)) (get-value_at bits place (value_at bits place) h refl))

if_same : (b : Bool) (x y z : Bool) → (b ≡ true → x ≡ z) → (b ≡ false → y ≡ z) → (if b then x else y) ≡ z
if_same true x y z e f = e refl
if_same false x y z e f = f refl

in_span : (start n place : ℕ) → start ≤ place → place < start + n → holds (span start n) place ≡ true
in_span start n place low high = grind (arith, nat_tests)

not_in_span : (start n place : ℕ) → (place < start) ⊎ (start + n ≤ place) → holds (span start n) place ≡ false
not_in_span start n place (inl h) = grind (arith, nat_tests)
not_in_span start n place (inr h) = grind (arith, nat_tests)

of_span : (start n place : ℕ) → holds (span start n) place ≡ true → (start ≤ place) × (place < start + n)
of_span start n place h = (grind (arith, nat_tests), grind (arith, nat_tests))

painted_in : (start n : ℕ) (x : Bool) (bits : List Bool) (place : ℕ) → place < length bits → start ≤ place → place < start + n → value_at (paint (holds (span start n)) x bits) place ≡ x
painted_in start n x bits place h low high = value_at-paint (holds (span start n)) x bits place h ∙ ap (λ b. if b then x else value_at bits place) (in_span start n place low high)

painted_out : (start n : ℕ) (x : Bool) (bits : List Bool) (place : ℕ) → place < length bits → (place < start) ⊎ (start + n ≤ place) → value_at (paint (holds (span start n)) x bits) place ≡ value_at bits place
painted_out start n x bits place h apart = value_at-paint (holds (span start n)) x bits place h ∙ ap (λ b. if b then x else value_at bits place) (not_in_span start n place apart)

-- The next boundary.

pub record IsNextBoundary (bounds : List Bool) (place n : ℕ) : Type 0 where
  pub some : 1 ≤ n
  pub within : place + n < length bounds
  pub between : (other : ℕ) → place < other → other < place + n → value_at bounds other ≡ false
  pub there : value_at bounds (place + n) ≡ true

pub next_is : (bounds : List Bool) (place n : ℕ) → IsNextBoundary bounds place n → up_to_next bounds place ≡ n
next_is bounds place n is =
    let some = is.some in let within = is.within in
    let next : IsNextBit bounds true (suc place) (length bounds) (place + n) = record {
      after = omega arith;
      within = omega arith;
      others = λ other low high. get-value_at bounds other false (omega arith) (is.between other (omega arith) high);
      here = λ h. get-value_at bounds (place + n) true within is.there;
    } in
    ap suc (leading_free-next bounds (suc place) (place + n) (omega arith) next) ∙ (let e : suc (place + n - suc place) ≡ n = omega arith in e)

leading_free-le : (bits : List Bool) → leading_free bits ≤ length bits
leading_free-le [] = omega arith
leading_free-le (true ∷ bits) = omega arith
leading_free-le (false ∷ bits) = omega (arith, leading_free-le bits)

leading_free-free : (bits : List Bool) (k : ℕ) → k < leading_free bits → slice_get bits k ≡ Some false
leading_free-free [] k h = absurd (omega arith)
leading_free-free (true ∷ bits) k h = absurd (omega arith)
leading_free-free (false ∷ bits) zero h = refl
leading_free-free (false ∷ bits) (suc k) h = leading_free-free bits k (omega arith)

leading_free-end : (bits : List Bool) → leading_free bits < length bits → slice_get bits (leading_free bits) ≡ Some true
leading_free-end [] h = absurd (omega arith)
leading_free-end (true ∷ bits) h = refl
leading_free-end (false ∷ bits) h = leading_free-end bits (omega arith)

pub next_of : (bounds : List Bool) (place : ℕ) → place + up_to_next bounds place < length bounds → IsNextBoundary bounds place (up_to_next bounds place)
next_of bounds place h =
    let rest = drop (suc place) bounds in
    let long : length rest ≡ length bounds - suc place = length-drop (suc place) bounds in
    record {
      some = omega arith;
      within = h;
      between = λ other low high.
          let at : suc place + (other - suc place) ≡ other = omega arith in
          value_at-get bounds other false (ap (slice_get bounds) (sym at) ∙ sym (slice_get-drop (suc place) bounds (other - suc place)) ∙ leading_free-free rest (other - suc place) (omega arith));
      there =
          let at : suc place + leading_free rest ≡ place + suc (leading_free rest) = omega arith in
          value_at-get bounds (place + suc (leading_free rest)) true (ap (slice_get bounds) (sym at) ∙ sym (slice_get-drop (suc place) bounds (leading_free rest)) ∙ leading_free-end rest (omega arith));
    }

-- An object of the maps.

pub record IsObject (taken bounds : List Bool) (place n : ℕ) : Type 0 where
  pub begins : begins taken bounds place ≡ true
  pub size : up_to_next bounds place ≡ n
  pub next : IsNextBoundary bounds place n
  pub within : place + n ≤ length taken

both : (a b : Bool) → (a && b) ≡ true → (a ≡ true) × (b ≡ true)
both true b h = (refl, h)
both false b h = cc

pub object_at : (taken bounds : List Bool) (place : ℕ) → AreMaps taken bounds → begins taken bounds place ≡ true → IsObject taken bounds place (up_to_next bounds place)
object_at taken bounds place maps h =
    let longer = maps.longer in let within = maps.within place h in
    record { begins = h; size = refl; next = next_of bounds place (omega arith); within = within }

-- just the places of objects are taken
pub taken-covers : (taken bounds : List Bool) (place : ℕ) → AreMaps taken bounds → place < length taken → value_at taken place ≡ covers (objects_in taken bounds) place
taken-covers taken bounds place maps h =
    ap (λ bs. value_at bs place) maps.covered ∙ value_at-get _ place _ (slice_get-tabulated (covers (objects_in taken bounds)) (length taken) place h)

-- the object that a taken place is in
pub object_over : (taken bounds : List Bool) (place : ℕ) → AreMaps taken bounds → value_at taken place ≡ true → CoversFrom (object_from bounds) (begins taken bounds) (length taken) 0 place
object_over taken bounds place maps h =
    covers-from (object_from bounds) (begins taken bounds) (length taken) 0 place (sym (taken-covers taken bounds place maps (value_within taken place h)) ∙ h)

pub taken_in : (taken bounds : List Bool) (place other : ℕ) → AreMaps taken bounds → begins taken bounds place ≡ true → place ≤ other → other < place + up_to_next bounds place → value_at taken other ≡ true
taken_in taken bounds place other maps h low high =
    let within = maps.within place h in
    let here = value_within taken place (both _ _ h).0 in
    taken-covers taken bounds other maps (omega arith) ∙ covers-to (object_from bounds) (begins taken bounds) (length taken) 0 other place h (omega arith) (omega arith) (in_span place (up_to_next bounds place) other low high)

-- An object is put into free places.

abbrev pub marked_taken : List Bool → (at n : ℕ) → List Bool
marked_taken taken at n = paint (holds (span at n)) true taken

abbrev pub marked_bounds : List Bool → (at n : ℕ) → List Bool
marked_bounds bounds at n = paint (holds (span (at + n) 1)) true (paint (holds (span at 1)) true (paint (holds (span at n)) false bounds))

-- places for an object
pub record HasPlaces (taken bounds : List Bool) (at n : ℕ) : Type 0 where
  pub maps : AreMaps taken bounds
  pub some : 1 ≤ n
  pub within : at + n ≤ length taken
  pub free : (place : ℕ) → at ≤ place → place < at + n → value_at taken place ≡ false

length-cleared : (bounds : List Bool) (at n : ℕ) → length (paint (holds (span at n)) false bounds) ≡ length bounds
length-cleared bounds at n = length-paint (holds (span at n)) false bounds

length-begun : (bounds : List Bool) (at n : ℕ) → length (paint (holds (span at 1)) true (paint (holds (span at n)) false bounds)) ≡ length bounds
length-begun bounds at n = length-paint (holds (span at 1)) true (paint (holds (span at n)) false bounds) ∙ length-cleared bounds at n

pub length-marked : (bounds : List Bool) (at n : ℕ) → length (marked_bounds bounds at n) ≡ length bounds
length-marked bounds at n = length-paint (holds (span (at + n) 1)) true (paint (holds (span at 1)) true (paint (holds (span at n)) false bounds)) ∙ length-begun bounds at n

bound_at_end : (bounds : List Bool) (at n : ℕ) → at + n < length bounds → value_at (marked_bounds bounds at n) (at + n) ≡ true
bound_at_end bounds at n h = painted_in (at + n) 1 true (paint (holds (span at 1)) true (paint (holds (span at n)) false bounds)) (at + n) (omega (arith, length-begun bounds at n)) (omega arith) (omega arith)

bound_not_at_end : (bounds : List Bool) (at n place : ℕ) → place < length bounds → place ≢ at + n → value_at (marked_bounds bounds at n) place ≡ value_at (paint (holds (span at 1)) true (paint (holds (span at n)) false bounds)) place
bound_not_at_end bounds at n place h apart = painted_out (at + n) 1 true (paint (holds (span at 1)) true (paint (holds (span at n)) false bounds)) place (omega (arith, length-begun bounds at n)) (by_cases (cases_lt place (at + n)))
  where
    by_cases : (place < at + n) ⊎ (at + n ≤ place) → (place < at + n) ⊎ (at + n + 1 ≤ place)
    by_cases (inl l) = inl l
    by_cases (inr g) = inr (omega arith)

bound_at_start : (bounds : List Bool) (at n : ℕ) → 1 ≤ n → at + n < length bounds → value_at (marked_bounds bounds at n) at ≡ true
bound_at_start bounds at n some h =
    bound_not_at_end bounds at n at (omega arith) (omega arith) ∙ painted_in at 1 true (paint (holds (span at n)) false bounds) at (omega (arith, length-cleared bounds at n)) (omega arith) (omega arith)

bound_inside : (bounds : List Bool) (at n place : ℕ) → at + n < length bounds → at < place → place < at + n → value_at (marked_bounds bounds at n) place ≡ false
bound_inside bounds at n place h low high =
    bound_not_at_end bounds at n place (omega arith) (omega arith)
    ∙ painted_out at 1 true (paint (holds (span at n)) false bounds) place (omega (arith, length-cleared bounds at n)) (inr (omega arith))
    ∙ painted_in at n false bounds place (omega arith) (omega arith) high

bound_outside : (bounds : List Bool) (at n place : ℕ) → 1 ≤ n → place < length bounds → (place < at) ⊎ (at + n < place) → value_at (marked_bounds bounds at n) place ≡ value_at bounds place
bound_outside bounds at n place some h (inl below) =
    bound_not_at_end bounds at n place h (omega arith)
    ∙ painted_out at 1 true (paint (holds (span at n)) false bounds) place (omega (arith, length-cleared bounds at n)) (inl below)
    ∙ painted_out at n false bounds place h (inl below)
bound_outside bounds at n place some h (inr above) =
    bound_not_at_end bounds at n place h (omega arith)
    ∙ painted_out at 1 true (paint (holds (span at n)) false bounds) place (omega (arith, length-cleared bounds at n)) (inr (omega arith))
    ∙ painted_out at n false bounds place h (inr (omega arith))

-- the new object goes up to its end
marked_size : (taken bounds : List Bool) (at n : ℕ) → HasPlaces taken bounds at n → up_to_next (marked_bounds bounds at n) at ≡ n
marked_size taken bounds at n p =
    let within = p.within in let longer = p.maps.longer in
    next_is (marked_bounds bounds at n) at n (record {
      some = p.some;
      within = omega (arith, length-marked bounds at n);
      between = λ other low high. bound_inside bounds at n other (omega arith) low high;
      there = bound_at_end bounds at n (omega arith);
    })

-- the other objects end where they did
over_free : (taken bounds : List Bool) (at n place : ℕ) → HasPlaces taken bounds at n → begins taken bounds place ≡ true → at < place + up_to_next bounds place → place < at + n → (at < place) ⊎ (place ≤ at) → ⊥
over_free taken bounds at n place p h over under (inl low) =
    let yes = (both (value_at taken place) (value_at bounds place) h).0 in let none = p.free place (omega arith) under in cc
over_free taken bounds at n place p h over under (inr high) =
    let yes = taken_in taken bounds place at p.maps h high over in let some = p.some in let none = p.free at (omega arith) (omega arith) in cc

object_apart : (taken bounds : List Bool) (at n place : ℕ) → HasPlaces taken bounds at n → begins taken bounds place ≡ true → (place + up_to_next bounds place ≤ at) ⊎ (at + n ≤ place)
object_apart taken bounds at n place p h = by_cases (cases_lt at (place + up_to_next bounds place)) (cases_lt place (at + n))
  where
    by_cases : (at < place + up_to_next bounds place) ⊎ (place + up_to_next bounds place ≤ at) → (place < at + n) ⊎ (at + n ≤ place) → (place + up_to_next bounds place ≤ at) ⊎ (at + n ≤ place)
    by_cases (inr before) more = inl before
    by_cases (inl over) (inr after) = inr after
    by_cases (inl over) (inl under) = absurd (over_free taken bounds at n place p h over under (cases_lt at place))

same_size : (taken bounds : List Bool) (at n place : ℕ) → HasPlaces taken bounds at n → begins taken bounds place ≡ true → up_to_next (marked_bounds bounds at n) place ≡ up_to_next bounds place
same_size taken bounds at n place p h = by_cases (object_apart taken bounds at n place p h)
  where
    by_cases : (place + up_to_next bounds place ≤ at) ⊎ (at + n ≤ place) → up_to_next (marked_bounds bounds at n) place ≡ up_to_next bounds place
    by_cases (inl before) =
        let o = object_at taken bounds place p.maps h in
        let next = o.next in let within = next.within in let longer = p.maps.longer in let inside = p.within in
        next_is (marked_bounds bounds at n) place (up_to_next bounds place) (record {
          some = next.some;
          within = omega (arith, length-marked bounds at n);
          between = λ other low high. bound_outside bounds at n other p.some (omega arith) (inl (omega arith)) ∙ next.between other low high;
          there = ending (cases_eq (place + up_to_next bounds place) at);
        })
      where
        ending : (place + up_to_next bounds place ≡ at) ⊎ (place + up_to_next bounds place ≢ at) → value_at (marked_bounds bounds at n) (place + up_to_next bounds place) ≡ true
        ending (inl same) = let longer = p.maps.longer in let inside = p.within in ap (value_at (marked_bounds bounds at n)) same ∙ bound_at_start bounds at n p.some (omega arith)
        ending (inr other) = let o = object_at taken bounds place p.maps h in let within = o.next.within in bound_outside bounds at n (place + up_to_next bounds place) p.some within (inl (omega arith)) ∙ o.next.there
    by_cases (inr after) =
        let o = object_at taken bounds place p.maps h in
        let next = o.next in let some = next.some in let within = next.within in let longer = p.maps.longer in
        next_is (marked_bounds bounds at n) place (up_to_next bounds place) (record {
          some = next.some;
          within = omega (arith, length-marked bounds at n);
          between = λ other low high. bound_outside bounds at n other p.some (omega arith) (inr (omega arith)) ∙ next.between other low high;
          there = bound_outside bounds at n (place + up_to_next bounds place) p.some within (inr (omega arith)) ∙ next.there;
        })

-- where objects begin then
and_true : (a b : Bool) → a ≡ true → b ≡ true → (a && b) ≡ true
and_true a b e f = grind arith

and_not_left : (a b : Bool) → a ≡ false → (a && b) ≡ false
and_not_left a b e = grind arith

and_not_right : (a b : Bool) → b ≡ false → (a && b) ≡ false
and_not_right true b e = e
and_not_right false b e = refl

or_here : (at place : ℕ) (b : Bool) → place ≡ at → true ≡ ((place == at) || b)
or_here at place b e = grind (arith, nat_tests)

or_there : (at place : ℕ) (b : Bool) → place ≢ at → b ≡ ((place == at) || b)
or_there at place b e = grind (arith, nat_tests)

and_same : (a b c d : Bool) → a ≡ c → b ≡ d → (a && b) ≡ (c && d)
and_same a b c d e f = ap (λ x. x && b) e ∙ ap (λ y. c && y) f

-- a taken place behind a free one has a boundary
behind_free : (taken bounds : List Bool) (place : ℕ) → AreMaps taken bounds → value_at taken place ≡ false → value_at taken (suc place) ≡ true → value_at bounds (suc place) ≡ true
behind_free taken bounds place maps free h =
    let over = object_over taken bounds (suc place) maps h in
    let held = of_span over.place (up_to_next bounds over.place) (suc place) over.held in
    by_cases over (cases_lt over.place (suc place)) held.0 held.1
  where
    by_cases : (over : CoversFrom (object_from bounds) (begins taken bounds) (length taken) 0 (suc place)) → (over.place < suc place) ⊎ (suc place ≤ over.place) → over.place ≤ suc place → suc place < over.place + up_to_next bounds over.place → value_at bounds (suc place) ≡ true
    by_cases over (inl before) low high = let yes = taken_in taken bounds over.place place maps over.passes (omega arith) (omega arith) in cc
    by_cases over (inr here) low high = let same : over.place ≡ suc place = omega arith in ap (value_at bounds) (sym same) ∙ (both _ _ over.passes).1

begins_behind : (taken bounds : List Bool) (at n : ℕ) → HasPlaces taken bounds at n → (b : Bool) → value_at taken (at + n) ≡ b → (b && true) ≡ (b && value_at bounds (at + n))
begins_behind taken bounds at n p false e = refl
begins_behind taken bounds at n p true e =
    let some = p.some in
    let last : suc (at + n - 1) ≡ at + n = omega arith in
    let free = p.free (at + n - 1) (omega arith) (omega arith) in
    sym (ap (value_at bounds) (sym last) ∙ behind_free taken bounds (at + n - 1) p.maps free (ap (value_at taken) last ∙ e))

pub begins_marked : (taken bounds : List Bool) (at n place : ℕ) → HasPlaces taken bounds at n → place < length taken
    → begins (marked_taken taken at n) (marked_bounds bounds at n) place ≡ ((place == at) || begins taken bounds place)
begins_marked taken bounds at n place p h = by_cases (cases_lt place at) (cases_eq place at) (cases_lt place (at + n)) (cases_eq place (at + n))
  where
    by_cases : (place < at) ⊎ (at ≤ place) → (place ≡ at) ⊎ (place ≢ at) → (place < at + n) ⊎ (at + n ≤ place) → (place ≡ at + n) ⊎ (place ≢ at + n)
        → begins (marked_taken taken at n) (marked_bounds bounds at n) place ≡ ((place == at) || begins taken bounds place)
    by_cases (inl below) same under end =
        let longer = p.maps.longer in
        and_same _ _ _ _ (painted_out at n true taken place h (inl below)) (bound_outside bounds at n place p.some (omega arith) (inl below)) ∙ or_there at place _ (omega arith)
    by_cases (inr from) (inl same) under end =
        let longer = p.maps.longer in let some = p.some in let within = p.within in
        and_true _ _ (painted_in at n true taken place h from (omega arith)) (ap (value_at (marked_bounds bounds at n)) same ∙ bound_at_start bounds at n some (omega arith)) ∙ or_here at place _ same
    by_cases (inr from) (inr apart) (inl under) end =
        let longer = p.maps.longer in let within = p.within in
        and_not_right _ _ (bound_inside bounds at n place (omega arith) (omega arith) under) ∙ sym (and_not_left _ _ (p.free place from under)) ∙ or_there at place _ apart
    by_cases (inr from) (inr apart) (inr past) (inl same) =
        let longer = p.maps.longer in let within = p.within in
        and_same _ _ _ _ (painted_out at n true taken place h (inr past)) (ap (value_at (marked_bounds bounds at n)) same ∙ bound_at_end bounds at n (omega arith))
        ∙ ap (λ q. value_at taken q && true) same ∙ begins_behind taken bounds at n p (value_at taken (at + n)) refl ∙ ap (λ q. value_at taken q && value_at bounds q) (sym same) ∙ or_there at place _ apart
    by_cases (inr from) (inr apart) (inr past) (inr other) =
        let longer = p.maps.longer in
        and_same _ _ _ _ (painted_out at n true taken place h (inr past)) (bound_outside bounds at n place p.some (omega arith) (inr (omega arith))) ∙ or_there at place _ apart

-- the objects then
pub objects_marked : (taken bounds : List Bool) (at n : ℕ) → HasPlaces taken bounds at n
    → objects_in (marked_taken taken at n) (marked_bounds bounds at n) ≡ put_by (λ (s : Span). s.start) (span at n) (objects_in taken bounds)
objects_marked taken bounds at n p =
    let within = p.within in let some = p.some in
    let new = object_from (marked_bounds bounds at n) in
    let none : begins taken bounds at ≡ false = and_not_left _ _ (p.free at (omega arith) (omega arith)) in
    ap (λ m. map new (filter (begins (marked_taken taken at n) (marked_bounds bounds at n)) (count_from m 0))) (length-paint (holds (span at n)) true taken)
    ∙ ap (map new) (filter-same (begins (marked_taken taken at n) (marked_bounds bounds at n)) (λ place. (place == at) || begins taken bounds place) (length taken) 0 (λ place low high. begins_marked taken bounds at n place p (omega arith))
    ∙ filter-one_more (begins taken bounds) at (length taken) 0 (omega arith) (omega arith) none)
    ∙ map-put_by new at (filter (begins taken bounds) (count_from (length taken) 0)) (λ place. refl)
    ∙ ap (λ m. put_by (λ (s : Span). s.start) (span at m) (map new (filter (begins taken bounds) (count_from (length taken) 0)))) (marked_size taken bounds at n p)
    ∙ ap (put_by (λ (s : Span). s.start) (span at n)) (map-filter-same new (object_from bounds) (begins taken bounds) (count_from (length taken) 0) (λ place h. ap (span place) (same_size taken bounds at n place p h)))

if_or : (a b : Bool) → (if a then true else b) ≡ (a || b)
if_or true b = refl
if_or false b = refl

covered_marked : (taken bounds : List Bool) (at n : ℕ) → HasPlaces taken bounds at n
    → marked_taken taken at n ≡ taken_by (objects_in (marked_taken taken at n) (marked_bounds bounds at n)) (length (marked_taken taken at n))
covered_marked taken bounds at n p =
    ap (paint (holds (span at n)) true) p.maps.covered
    ∙ paint_from-tabulated (holds (span at n)) true (covers (objects_in taken bounds)) (length taken) 0
    ∙ same_tabulated _ (covers (put_by (λ (s : Span). s.start) (span at n) (objects_in taken bounds))) (length taken) 0
    (λ place low high. if_or (holds (span at n) place) (covers (objects_in taken bounds) place) ∙ sym (covers-put_by (span at n) (objects_in taken bounds) place))
    ∙ ap (λ objects. taken_by objects (length taken)) (sym (objects_marked taken bounds at n p))
    ∙ ap (taken_by (objects_in (marked_taken taken at n) (marked_bounds bounds at n))) (sym (length-paint (holds (span at n)) true taken))

within_marked : (taken bounds : List Bool) (at n place : ℕ) → HasPlaces taken bounds at n → begins (marked_taken taken at n) (marked_bounds bounds at n) place ≡ true
    → (place ≡ at) ⊎ (place ≢ at) → place + up_to_next (marked_bounds bounds at n) place ≤ length (marked_taken taken at n)
within_marked taken bounds at n place p h (inl same) =
    let within = p.within in let size : up_to_next (marked_bounds bounds at n) place ≡ n = ap (up_to_next (marked_bounds bounds at n)) same ∙ marked_size taken bounds at n p in
    omega (arith, length-paint (holds (span at n)) true taken)
within_marked taken bounds at n place p h (inr apart) =
    let here = value_within (marked_taken taken at n) place (both _ _ h).0 in
    let old : begins taken bounds place ≡ true = or_there at place _ apart ∙ sym (begins_marked taken bounds at n place p (omega (arith, length-paint (holds (span at n)) true taken))) ∙ h in
    let size = same_size taken bounds at n place p old in
    let within = p.maps.within place old in
    omega (arith, length-paint (holds (span at n)) true taken)

pub maps_marked : (taken bounds : List Bool) (at n : ℕ) → HasPlaces taken bounds at n → AreMaps (marked_taken taken at n) (marked_bounds bounds at n)
maps_marked taken bounds at n p =
    let longer = p.maps.longer in let small = p.maps.small in
    record {
      longer = omega (arith, length-marked bounds at n, length-paint (holds (span at n)) true taken);
      covered = covered_marked taken bounds at n p;
      within = λ place h. within_marked taken bounds at n place p h (cases_eq place at);
      small = omega (arith, length-paint (holds (span at n)) true taken);
    }

pub chunk_marked : (taken bounds : List Bool) (at n : ℕ) (now : ChunkMap) → HasPlaces taken bounds at n → chunk_map taken bounds ≡ now → chunk_map (marked_taken taken at n) (marked_bounds bounds at n) ≡ with_object_at at n now
chunk_marked taken bounds at n now p is =
    (λ i. record { bits = length-paint (holds (span at n)) true taken i; objects = objects_marked taken bounds at n p i }) ∙ ap (with_object_at at n) is

pub has_places : (taken bounds : List Bool) (at n : ℕ) → AreMaps taken bounds → 1 ≤ n → AreFree taken at n → HasPlaces taken bounds at n
has_places taken bounds at n maps some are = record { maps = maps; some = some; within = are.within; free = λ place low high. value_at-get taken place false (are.free place low high) }

-- An object is taken out.

abbrev pub cleared_taken : List Bool → (at n : ℕ) → List Bool
cleared_taken taken at n = paint (holds (span at n)) false taken

-- no boundary is between an object's ends, so its bits are those up to the next one
pub next_found : (taken bounds : List Bool) (at next : ℕ) → AreMaps taken bounds → begins taken bounds at ≡ true → IsNextBit bounds true (suc at) (length taken) next → next ≡ at + up_to_next bounds at
next_found taken bounds at next maps h is =
    let o = object_at taken bounds at maps h in
    let some = o.next.some in let within = o.within in let longer = maps.longer in let after = is.after in let inside = is.within in
    by_cases (cases_lt next (at + up_to_next bounds at)) (cases_lt (at + up_to_next bounds at) next)
  where
    by_cases : (next < at + up_to_next bounds at) ⊎ (at + up_to_next bounds at ≤ next) → (at + up_to_next bounds at < next) ⊎ (next ≤ at + up_to_next bounds at) → next ≡ at + up_to_next bounds at
    by_cases (inl below) other =
        let o = object_at taken bounds at maps h in let within = o.within in let after = is.after in
        let none = o.next.between next (omega arith) below in let yes = value_at-get bounds next true (is.here (omega arith)) in cc
    by_cases (inr past) (inl above) =
        let o = object_at taken bounds at maps h in let some = o.next.some in
        let yes = o.next.there in let none = value_at-get bounds (at + up_to_next bounds at) false (is.others (at + up_to_next bounds at) (omega arith) above) in cc
    by_cases (inr past) (inr under) = omega arith

begins_cleared : (taken bounds : List Bool) (at place : ℕ) → AreMaps taken bounds → begins taken bounds at ≡ true → place < length taken
    → begins (cleared_taken taken at (up_to_next bounds at)) bounds place ≡ (begins taken bounds place && not (place == at))
begins_cleared taken bounds at place maps h here = by_cases (cases_lt place at) (cases_eq place at) (cases_lt place (at + up_to_next bounds at))
  where
    kept : place ≢ at → (place < at) ⊎ (at + up_to_next bounds at ≤ place) → begins (cleared_taken taken at (up_to_next bounds at)) bounds place ≡ (begins taken bounds place && not (place == at))
    kept apart out =
        let other : true ≡ not (place == at) = grind (arith, nat_tests) in
        ap (λ b. b && value_at bounds place) (painted_out at (up_to_next bounds at) false taken place here out) ∙ and_one (begins taken bounds place) _ other
      where
        and_one : (a b : Bool) → true ≡ b → a ≡ (a && b)
        and_one true b e = e
        and_one false b e = refl

    by_cases : (place < at) ⊎ (at ≤ place) → (place ≡ at) ⊎ (place ≢ at) → (place < at + up_to_next bounds at) ⊎ (at + up_to_next bounds at ≤ place) → begins (cleared_taken taken at (up_to_next bounds at)) bounds place ≡ (begins taken bounds place && not (place == at))
    by_cases (inl below) same under = kept (omega arith) (inl below)
    by_cases (inr from) (inl same) under =
        let gone : not (place == at) ≡ false = grind (arith, nat_tests) in
        and_not_left _ _ (painted_in at (up_to_next bounds at) false taken place here from (omega arith)) ∙ sym (and_not_right (begins taken bounds place) _ gone)
    by_cases (inr from) (inr apart) (inl under) =
        let o = object_at taken bounds at maps h in
        and_not_left _ _ (painted_in at (up_to_next bounds at) false taken place here from under)
        ∙ sym (and_not_left _ _ (and_not_right (value_at taken place) _ (o.next.between place (omega arith) under)))
    by_cases (inr from) (inr apart) (inr past) = kept apart (inr past)

pub objects_cleared : (taken bounds : List Bool) (at : ℕ) → AreMaps taken bounds → begins taken bounds at ≡ true
    → objects_in (cleared_taken taken at (up_to_next bounds at)) bounds ≡ filter (λ (s : Span). not (s.start == at)) (objects_in taken bounds)
objects_cleared taken bounds at maps h =
    let n = up_to_next bounds at in
    ap (λ m. map (object_from bounds) (filter (begins (cleared_taken taken at n) bounds) (count_from m 0))) (length-paint (holds (span at n)) false taken)
    ∙ ap (map (object_from bounds)) (filter-same (begins (cleared_taken taken at n) bounds) (λ place. begins taken bounds place && not (place == at)) (length taken) 0 (λ place low high. begins_cleared taken bounds at place maps h (omega arith))
    ∙ filter-both (begins taken bounds) (λ place. not (place == at)) (count_from (length taken) 0))
    ∙ map-filter (object_from bounds) (λ (s : Span). not (s.start == at)) (filter (begins taken bounds) (count_from (length taken) 0))

-- a place is taken then where another object covers it
taken_cleared : (taken bounds : List Bool) (at place : ℕ) → AreMaps taken bounds → begins taken bounds at ≡ true → place < length taken
    → (if holds (span at (up_to_next bounds at)) place then false else covers (objects_in taken bounds) place) ≡ covers (objects_in (cleared_taken taken at (up_to_next bounds at)) bounds) place
taken_cleared taken bounds at place maps h here =
    if_same (holds (span at (up_to_next bounds at)) place) false (covers (objects_in taken bounds) place) (covers (objects_in (cleared_taken taken at (up_to_next bounds at)) bounds) place)
    (λ inside. same_bool false (covers (objects_in (cleared_taken taken at (up_to_next bounds at)) bounds) place) (λ e. let f : false ≡ true = e in cc) (λ e. absurd (not_twice inside e)))
    (λ outside. same_bool (covers (objects_in taken bounds) place) (covers (objects_in (cleared_taken taken at (up_to_next bounds at)) bounds) place) (to outside) from)
  where
    same_bool : (a b : Bool) → (a ≡ true → b ≡ true) → (b ≡ true → a ≡ true) → a ≡ b
    same_bool true b f g = sym (f refl)
    same_bool false true f g = g refl
    same_bool false false f g = refl

    other_of : (over : CoversFrom (object_from bounds) (begins (cleared_taken taken at (up_to_next bounds at)) bounds) (length (cleared_taken taken at (up_to_next bounds at))) 0 place) → (begins taken bounds over.place && not (over.place == at)) ≡ true
    other_of over =
        let high = over.high in
        sym (begins_cleared taken bounds at over.place maps h (omega (arith, length-paint (holds (span at (up_to_next bounds at))) false taken))) ∙ over.passes

    apart_by : (q : ℕ) → not (q == at) ≡ true → q ≢ at
    apart_by q e = grind (arith, nat_tests)

    twice : (q : ℕ) → begins taken bounds q ≡ true → q ≢ at → at ≤ place → place < at + up_to_next bounds at → q ≤ place → place < q + up_to_next bounds q → (q < at) ⊎ (at ≤ q) → ⊥
    twice q e apart low high q_low q_high (inl before) = let o = object_at taken bounds q maps e in let none = o.next.between at before (omega arith) in let yes = (both (value_at taken at) (value_at bounds at) h).1 in cc
    twice q e apart low high q_low q_high (inr after) = let o = object_at taken bounds at maps h in let none = o.next.between q (omega arith) (omega arith) in let yes = (both (value_at taken q) (value_at bounds q) e).1 in cc

    not_twice : holds (span at (up_to_next bounds at)) place ≡ true → covers (objects_in (cleared_taken taken at (up_to_next bounds at)) bounds) place ≡ true → ⊥
    not_twice inside e =
        let over = covers-from (object_from bounds) (begins (cleared_taken taken at (up_to_next bounds at)) bounds) (length (cleared_taken taken at (up_to_next bounds at))) 0 place e in
        let other = both (begins taken bounds over.place) (not (over.place == at)) (other_of over) in
        let held = of_span over.place (up_to_next bounds over.place) place over.held in
        let at_held = of_span at (up_to_next bounds at) place inside in
        twice over.place other.0 (apart_by over.place other.1) at_held.0 at_held.1 held.0 held.1 (cases_lt over.place at)

    from : covers (objects_in (cleared_taken taken at (up_to_next bounds at)) bounds) place ≡ true → covers (objects_in taken bounds) place ≡ true
    from e =
        let over = covers-from (object_from bounds) (begins (cleared_taken taken at (up_to_next bounds at)) bounds) (length (cleared_taken taken at (up_to_next bounds at))) 0 place e in
        let other = both (begins taken bounds over.place) (not (over.place == at)) (other_of over) in
        let high = over.high in
        covers-to (object_from bounds) (begins taken bounds) (length taken) 0 place over.place other.0 (omega arith) (omega (arith, length-paint (holds (span at (up_to_next bounds at))) false taken)) over.held

    to : holds (span at (up_to_next bounds at)) place ≡ false → covers (objects_in taken bounds) place ≡ true → covers (objects_in (cleared_taken taken at (up_to_next bounds at)) bounds) place ≡ true
    to outside e =
        let over = covers-from (object_from bounds) (begins taken bounds) (length taken) 0 place e in
        let high = over.high in
        let apart : over.place ≢ at = λ same. (let clash : holds (span at (up_to_next bounds at)) place ≡ true = ap (λ q. holds (span q (up_to_next bounds q)) place) (sym same) ∙ over.held in cc) in
        let other : not (over.place == at) ≡ true = grind (arith, nat_tests) in
        covers-to (object_from bounds) (begins (cleared_taken taken at (up_to_next bounds at)) bounds) (length (cleared_taken taken at (up_to_next bounds at))) 0 place over.place
        (begins_cleared taken bounds at over.place maps h (omega arith) ∙ and_true _ _ over.passes other) (omega arith) (omega (arith, length-paint (holds (span at (up_to_next bounds at))) false taken)) over.held

pub maps_cleared : (taken bounds : List Bool) (at : ℕ) → AreMaps taken bounds → begins taken bounds at ≡ true → AreMaps (cleared_taken taken at (up_to_next bounds at)) bounds
maps_cleared taken bounds at maps h =
    let n = up_to_next bounds at in
    let longer = maps.longer in let small = maps.small in
    record {
      longer = omega (arith, length-paint (holds (span at n)) false taken);
      covered =
          ap (paint (holds (span at n)) false) maps.covered
          ∙ paint_from-tabulated (holds (span at n)) false (covers (objects_in taken bounds)) (length taken) 0
          ∙ same_tabulated _ (covers (objects_in (cleared_taken taken at n) bounds)) (length taken) 0 (λ place low high. taken_cleared taken bounds at place maps h (omega arith))
          ∙ ap (taken_by (objects_in (cleared_taken taken at n) bounds)) (sym (length-paint (holds (span at n)) false taken));
      within = λ place e.
          let here = value_within (cleared_taken taken at n) place (both _ _ e).0 in
          let old = (both (begins taken bounds place) (not (place == at)) (sym (begins_cleared taken bounds at place maps h (omega (arith, length-paint (holds (span at n)) false taken))) ∙ e)).0 in
          let within = maps.within place old in
          omega (arith, length-paint (holds (span at n)) false taken);
      small = omega (arith, length-paint (holds (span at n)) false taken);
    }

pub chunk_cleared : (taken bounds : List Bool) (at : ℕ) (now : ChunkMap) → AreMaps taken bounds → begins taken bounds at ≡ true → chunk_map taken bounds ≡ now
    → chunk_map (cleared_taken taken at (up_to_next bounds at)) bounds ≡ without_object_at at now
chunk_cleared taken bounds at now maps h is =
    (λ i. record { bits = length-paint (holds (span at (up_to_next bounds at))) false taken i; objects = objects_cleared taken bounds at maps h i }) ∙ ap (without_object_at at) is

pub bits_found : (taken bounds : List Bool) (at : ℕ) (now : ChunkMap) → at < length taken → begins taken bounds at ≡ true → chunk_map taken bounds ≡ now → Some (up_to_next bounds at) ≡ object_bits_at at now
bits_found taken bounds at now here h is =
    sym (ap (option_map (λ (s : Span). s.pages)) (find_object (object_from bounds) (begins taken bounds) at (length taken) (λ place. refl) here h)) ∙ ap (object_bits_at at) is

-- no object begins past the end
pub begins_past : (taken bounds : List Bool) (at : ℕ) → length taken ≤ at → begins taken bounds at ≡ false
begins_past taken bounds at h = ap (λ b. b && value_at bounds at) (value_at-past taken at h)

pub none_found : (taken bounds : List Bool) (at : ℕ) (now : ChunkMap) → begins taken bounds at ≡ false → chunk_map taken bounds ≡ now → (None ≡ object_bits_at at now) × (now ≡ without_object_at at now)
none_found taken bounds at now h is =
    let none = find_no_object (object_from bounds) (begins taken bounds) at (length taken) 0 (λ place. refl) h in (
      sym (ap (option_map (λ (s : Span). s.pages)) none) ∙ ap (object_bits_at at) is,
      sym is ∙ ap (λ (objects : List Span). record { bits = length taken; objects = objects }) (sym (filter-none (objects_in taken bounds) at none)) ∙ ap (without_object_at at) is,
    )

-- At first there is no object.

value_at-replicate : (n place : ℕ) → value_at (replicate n false) place ≡ false
value_at-replicate zero place = refl
value_at-replicate (suc n) zero = refl
value_at-replicate (suc n) (suc place) = value_at-replicate n place

filter-nothing : (n first : ℕ) → filter (λ (p : ℕ). false) (count_from n first) ≡ []
filter-nothing zero first = refl
filter-nothing (suc n) first = filter-nothing n (suc first)

no_objects : (n m : ℕ) → objects_in (replicate n false) (replicate m false) ≡ []
no_objects n m =
    ap (map (object_from (replicate m false))) (filter-same (begins (replicate n false) (replicate m false)) (λ p. false) (length (replicate n false)) 0 (λ place low high. and_not_left _ _ (value_at-replicate n place))
    ∙ filter-nothing (length (replicate n false)) 0)

pub maps_empty : (n : ℕ) → n ≤ 65536 → AreMaps (replicate n false) (replicate (n + 1) false)
maps_empty n h = record {
  longer = omega (arith, length-replicate {A = Bool} n false, length-replicate {A = Bool} (n + 1) false);
  covered = sym (tabulated_same n 0) ∙ ap (λ m. map (λ (p : ℕ). false) (count_from m 0)) (sym (length-replicate n false)) ∙ ap (λ objects. taken_by objects (length (replicate n false))) (sym (no_objects n (n + 1)));
  within = λ place e. let none = and_not_left (value_at (replicate n false) place) (value_at (replicate (n + 1) false) place) (value_at-replicate n place) in cc;
  small = omega (arith, length-replicate {A = Bool} n false);
}

pub chunk_empty : (n : ℕ) → chunk_map (replicate n false) (replicate (n + 1) false) ≡ empty_chunk n
chunk_empty n = λ i. record { bits = length-replicate n false i; objects = no_objects n (n + 1) i }
