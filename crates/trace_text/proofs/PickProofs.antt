-- The picks of an order line, field by field.
use Rattle.std.proofs.Common.{◌≡◌, ◌≢◌, ◌∙◌, ℕ, ◌+◌, ◌<◌, ◌≤◌, ◌^◌, true, false, ◌==◌, if◌then◌else◌, Bool, List, [], ◌∷◌, ◌++◌, length, map, refl, ap, sym, arith, decimal, length-append, append_assoc}
use Rattle.std.proofs.lemmas.Bool.{and_parts, and_from, eqb-true}
use Rattle.std.proofs.lemmas.Bool.Decides.{nat_tests}
use Rattle.std.proofs.lemmas.List.{map-append, append-nil, length-map}
use Rattle.std.specs.List.{list_all}
use Rattle.vm_model.specs.Words.{fields, within, is_number, lacks}
use Rattle.trace_text.specs.HeldLines.{ArePicks, AddsPicks}
use Rattle.trace_text.proofs.Split.{split_at, onto_first, split_at-fields, split_at-lacks, split_at-whole, lacks-clean}
use Rattle.trace_text.proofs.Outcomes.{split_at-full}
use Rattle.trace_text.proofs.Guess.{clean-decimal, clean-decimals}

-- a text is its fields
fields-onto_first : (b : ℕ) (fs : List (List ℕ)) → fs ≢ [] → fields (onto_first b fs) ≡ b ∷ fields fs
fields-onto_first b [] h = absurd (h refl)
fields-onto_first b (f ∷ []) h = refl
fields-onto_first b (f ∷ g ∷ fs) h = refl

fields-gap : (fs : List (List ℕ)) → fs ≢ [] → fields ([] ∷ fs) ≡ 32 ∷ fields fs
fields-gap [] h = absurd (h refl)
fields-gap (f ∷ fs) h = refl

pub fields-split_at : (text : List ℕ) → fields (split_at 32 text) ≡ text
fields-split_at [] = refl
fields-split_at (b ∷ text) = by_test (b == 32) refl (fields-split_at text)
  where
    by_test : (d : Bool) → (b == 32) ≡ d → fields (split_at 32 text) ≡ text → fields (if d then [] ∷ split_at 32 text else onto_first b (split_at 32 text)) ≡ b ∷ text
    by_test true e h = let same : b ≡ 32 = eqb-true b 32 e in fields-gap (split_at 32 text) (split_at-full 32 text) ∙ ap (λ t. 32 ∷ t) h ∙ ap (λ c. c ∷ text) (sym same)
    by_test false e h = fields-onto_first b (split_at 32 text) (split_at-full 32 text) ∙ ap (λ t. b ∷ t) h

pick_is_number : (callers n : ℕ) → callers < 2 ^ 16 → within 1 callers n ≡ true → is_number n ≡ true
pick_is_number callers n small h = grind (arith, nat_tests)

pub picks_are_numbers : (callers : ℕ) (picks : List ℕ) → callers < 2 ^ 16 → list_all (within 1 callers) picks ≡ true → list_all is_number picks ≡ true
picks_are_numbers callers [] small h = refl
picks_are_numbers callers (n ∷ picks) small h =
    let parts = and_parts (within 1 callers n) (list_all (within 1 callers) picks) h in
    and_from (is_number n) (list_all is_number picks) (pick_is_number callers n small parts.0) (picks_are_numbers callers picks small parts.1)

-- the fields of a text of picks are their numbers
fields_of_picks : (callers : ℕ) (text picks : List ℕ) → callers < 2 ^ 16 → ArePicks callers text picks → split_at 32 text ≡ map decimal picks
fields_of_picks callers text [] small are = absurd (let none : within 1 64 0 ≡ true = are.count in cc)
fields_of_picks callers text (n ∷ picks) small are =
    ap (split_at 32) are.spells ∙ split_at-fields (map decimal (n ∷ picks)) (clean-decimals (n ∷ picks) (picks_are_numbers callers (n ∷ picks) small are.each))

-- each field of picks is one
one_of_picks : (callers : ℕ) (picks : List ℕ) (front back : List (List ℕ)) (field : List ℕ) → list_all (within 1 callers) picks ≡ true → map decimal picks ≡ front ++ field ∷ back
    → ((n : ℕ) → within 1 callers n ≡ true → field ≢ decimal n) → ⊥
one_of_picks callers [] [] back field each e none = cc
one_of_picks callers [] (f ∷ front) back field each e none = cc
one_of_picks callers (n ∷ picks) [] back field each e none =
    let own : field ≡ decimal n = cc in
    none n (and_parts (within 1 callers n) (list_all (within 1 callers) picks) each).0 own
one_of_picks callers (n ∷ picks) (f ∷ front) back field each e none =
    let more : map decimal picks ≡ front ++ field ∷ back = cc in
    one_of_picks callers picks front back field (and_parts (within 1 callers n) (list_all (within 1 callers) picks) each).1 more none

-- so many picks stand behind the old ones, and they are the fields before the rest
pub record IsPicked (callers : ℕ) (text rest : List ℕ) (old new : List ℕ) (count : ℕ) : Type 0 where
  pub picks : List ℕ
  pub put : new ≡ old ++ picks
  pub counted : length picks ≡ count
  pub each : list_all (within 1 callers) picks ≡ true
  pub cuts : split_at 32 text ≡ map decimal picks ++ split_at 32 rest

pub none_picked : (callers : ℕ) (text old : List ℕ) → IsPicked callers text text old old 0
none_picked callers text old = record { picks = []; put = sym (append-nil old); counted = refl; each = refl; cuts = refl }

list_all-push : (callers : ℕ) (picks : List ℕ) (n : ℕ) → list_all (within 1 callers) picks ≡ true → within 1 callers n ≡ true → list_all (within 1 callers) (picks ++ n ∷ []) ≡ true
list_all-push callers [] n h k = and_from (within 1 callers n) true k refl
list_all-push callers (m ∷ picks) n h k =
    let parts = and_parts (within 1 callers m) (list_all (within 1 callers) picks) h in
    and_from (within 1 callers m) (list_all (within 1 callers) (picks ++ n ∷ [])) parts.0 (list_all-push callers picks n parts.1 k)

-- one more
pub one_picked : (callers : ℕ) (text rest field more old new newer : List ℕ) (count n : ℕ) → IsPicked callers text rest old new count → rest ≡ field ++ 32 ∷ more → lacks 32 field ≡ true
    → within 1 callers n ≡ true → field ≡ decimal n → newer ≡ new ++ n ∷ [] → IsPicked callers text more old newer (count + 1)
one_picked callers text rest field more old new newer count n so e clean known spells put = record {
  picks = so.picks ++ n ∷ [];
  put = put ∙ ap (λ t. t ++ n ∷ []) so.put ∙ append_assoc old so.picks (n ∷ []);
  counted = length-append so.picks (n ∷ []) ∙ ap (λ k. k + 1) so.counted;
  each = list_all-push callers so.picks n so.each known;
  cuts = so.cuts ∙ ap (λ fs. map decimal so.picks ++ fs) (ap (split_at 32) e ∙ split_at-lacks 32 field more clean ∙ ap (λ f. f ∷ split_at 32 more) spells)
      ∙ sym (append_assoc (map decimal so.picks) (decimal n ∷ []) (split_at 32 more)) ∙ ap (λ fs. fs ++ split_at 32 more) (sym (map-append decimal so.picks (n ∷ [])));
}

-- the same, where the text of the pick is told
pub picked_before : (callers : ℕ) (text rest more old new newer : List ℕ) (count n : ℕ) → callers < 2 ^ 16 → IsPicked callers text rest old new count → within 1 callers n ≡ true
    → rest ≡ decimal n ++ 32 ∷ more → newer ≡ new ++ n ∷ [] → IsPicked callers text more old newer (count + 1)
picked_before callers text rest more old new newer count n small so known spells put =
    let clean = lacks-clean 32 (decimal n) (omega arith) (clean-decimal n (pick_is_number callers n small known)) in
    one_picked callers text rest (decimal n) more old new newer count n so spells clean known refl put

-- the last of at most 64
pub last_picked : (callers : ℕ) (text rest old new newer : List ℕ) (count n : ℕ) → IsPicked callers text rest old new count → count < 64 → lacks 32 rest ≡ true
    → within 1 callers n ≡ true → rest ≡ decimal n → newer ≡ new ++ n ∷ [] → AddsPicks callers text true old newer
last_picked callers text rest old new newer count n so few clean known spells put =
    let picks = so.picks ++ n ∷ [] in
    let cuts : split_at 32 text ≡ map decimal picks =
    so.cuts ∙ ap (λ fs. map decimal so.picks ++ fs) (split_at-whole 32 rest clean ∙ ap (λ f. f ∷ []) spells) ∙ sym (map-append decimal so.picks (n ∷ [])) in
    let counted : length picks ≡ count + 1 = length-append so.picks (n ∷ []) ∙ ap (λ k. k + 1) so.counted in (
      picks,
      record {
        spells = sym (fields-split_at text) ∙ ap fields cuts;
        count = let size = length picks in grind (arith, nat_tests);
        each = list_all-push callers so.picks n so.each known;
      },
      put ∙ ap (λ t. t ++ n ∷ []) so.put ∙ append_assoc old so.picks (n ∷ []),
    )

-- the same, where the text of the pick is told
pub last_told : (callers : ℕ) (text rest old new newer : List ℕ) (count n : ℕ) → callers < 2 ^ 16 → IsPicked callers text rest old new count → count < 64
    → within 1 callers n ≡ true → rest ≡ decimal n → newer ≡ new ++ n ∷ [] → AddsPicks callers text true old newer
last_told callers text rest old new newer count n small so few known spells put =
    let clean : lacks 32 rest ≡ true = ap (lacks 32) spells ∙ lacks-clean 32 (decimal n) (omega arith) (clean-decimal n (pick_is_number callers n small known)) in
    last_picked callers text rest old new newer count n so few clean known spells put

-- a field that picks nobody
pub not_picked : (callers : ℕ) (text rest field more old new newer : List ℕ) (count : ℕ) → callers < 2 ^ 16 → IsPicked callers text rest old new count → rest ≡ field ++ 32 ∷ more → lacks 32 field ≡ true
    → ((n : ℕ) → within 1 callers n ≡ true → field ≢ decimal n) → AddsPicks callers text false old newer
not_picked callers text rest field more old new newer count small so e clean none = λ picks are.
    one_of_picks callers picks (map decimal so.picks) (split_at 32 more) field are.each
    (sym (fields_of_picks callers text picks small are) ∙ so.cuts ∙ ap (λ fs. map decimal so.picks ++ fs) (ap (split_at 32) e ∙ split_at-lacks 32 field more clean)) none

pub last_not_picked : (callers : ℕ) (text rest old new newer : List ℕ) (count : ℕ) → callers < 2 ^ 16 → IsPicked callers text rest old new count → lacks 32 rest ≡ true
    → ((n : ℕ) → within 1 callers n ≡ true → rest ≢ decimal n) → AddsPicks callers text false old newer
last_not_picked callers text rest old new newer count small so clean none = λ picks are.
    one_of_picks callers picks (map decimal so.picks) [] rest are.each
    (sym (fields_of_picks callers text picks small are) ∙ so.cuts ∙ ap (λ fs. map decimal so.picks ++ fs) (split_at-whole 32 rest clean)) none

some_field : (fs : List (List ℕ)) → fs ≢ [] → 1 ≤ length fs
some_field [] h = absurd (h refl)
some_field (f ∷ fs) h = omega arith

-- more than 64 fields
pub too_many : (callers : ℕ) (text rest old new newer : List ℕ) (count : ℕ) → callers < 2 ^ 16 → IsPicked callers text rest old new count → 64 ≤ count → AddsPicks callers text false old newer
too_many callers text rest old new newer count small so full = λ picks are.
    let all : map decimal picks ≡ map decimal so.picks ++ split_at 32 rest = sym (fields_of_picks callers text picks small are) ∙ so.cuts in
    let counted : length picks ≡ length so.picks + length (split_at 32 rest) =
    sym (length-map picks decimal) ∙ ap length all ∙ length-append (map decimal so.picks) (split_at 32 rest) ∙ ap (λ k. k + length (split_at 32 rest)) (length-map so.picks decimal) in
    let put = so.counted in
    let left = some_field (split_at 32 rest) (split_at-full 32 rest) in
    let most : within 1 64 (length picks) ≡ true = are.count in
    grind (arith, nat_tests)
