-- Pages in a row.
use Rattle.std.proofs.Common.{◌≡◌, ℕ, zero, suc, ◌+◌, ◌<◌, ◌≤◌, ◌⊎◌, inl, inr, Bool, true, false, not, cond, if◌then◌else◌, ◌&&◌, ◌||◌, ◌==◌, nat_le, nat_lt, List, [], ◌∷◌, length, filter, refl, ap, sym, ◌∙◌, arith}
use Rattle.std.proofs.lemmas.Bool.{cases_lt}
use Rattle.std.proofs.lemmas.Bool.Decides.{nat_tests}
use Rattle.vm_model.specs.declared.areas.PageSet.{PageSet}
use Rattle.vm_model.specs.PageSets.{has_page, pages_in}
use Rattle.vm_model.specs.Space.{count_from, is_among, paint_from}
use Rattle.vm_model.proofs.Tabulated.{filter-same}

abbrev pub inside : (first end : ℕ) → ℕ → Bool
inside first end page = nat_le first page && nat_lt page end

keep_page : (first end start n : ℕ) → inside first end start ≡ true → filter (inside first end) (count_from (suc n) start) ≡ start ∷ filter (inside first end) (count_from n (suc start))
keep_page first end start n e = ap (λ b. cond b (start ∷ filter (inside first end) (count_from n (suc start))) (filter (inside first end) (count_from n (suc start)))) e

drop_page : (first end start n : ℕ) → inside first end start ≡ false → filter (inside first end) (count_from (suc n) start) ≡ filter (inside first end) (count_from n (suc start))
drop_page first end start n e = ap (λ b. cond b (start ∷ filter (inside first end) (count_from n (suc start))) (filter (inside first end) (count_from n (suc start)))) e

none_behind : (first end n start : ℕ) → end ≤ start → filter (inside first end) (count_from n start) ≡ []
none_behind first end zero start h = refl
none_behind first end (suc n) start h =
    drop_page first end start n (let e : inside first end start ≡ false = grind (arith, nat_tests) in e) ∙ none_behind first end n (suc start) (omega arith)

from_here : (first end count n start : ℕ) → first ≤ start → end ≡ start + count → count ≤ n → filter (inside first end) (count_from n start) ≡ count_from count start
from_here first end zero n start low e few = none_behind first end n start (omega arith)
from_here first end (suc count) zero start low e few = absurd (omega arith)
from_here first end (suc count) (suc n) start low e few =
    let below : start < end = omega arith in
    keep_page first end start n (let here : inside first end start ≡ true = grind (arith, nat_tests) in here)
    ∙ ap (λ pages. start ∷ pages) (from_here first end count n (suc start) (omega arith) (omega arith) (omega arith))

from_before_at : (first count n start : ℕ) → (first ≡ start) ⊎ (start < first) → start ≤ first → first + count ≤ start + suc n
    → (start < first → filter (inside first (first + count)) (count_from n (suc start)) ≡ count_from count first) → filter (inside first (first + count)) (count_from (suc n) start) ≡ count_from count first
from_before_at first count n start (inl same) low high rest =
    from_here first (first + count) count (suc n) start (omega arith) (omega arith) (omega arith) ∙ ap (count_from count) (sym same)
from_before_at first count n start (inr before) low high rest =
    drop_page first (first + count) start n (let e : inside first (first + count) start ≡ false = grind (arith, nat_tests) in e) ∙ rest before

order_of : (first start : ℕ) → start ≤ first → (first ≡ start) ⊎ (start < first)
order_of first start low = elim (cases_lt start first) [ inl before ↦ inr before | inr same ↦ inl (omega arith) ]

pub from_before : (first count n start : ℕ) → start ≤ first → first + count ≤ start + n → filter (inside first (first + count)) (count_from n start) ≡ count_from count first
from_before first count zero start low high = let none : count ≡ 0 = omega arith in ap (λ n. count_from n first) (sym none)
from_before first count (suc n) start low high =
    from_before_at first count n start (order_of first start low) low high (λ before. from_before first count n (suc start) (omega arith) (omega arith))

among_more : (first n page : ℕ) → ((first == page) || inside (suc first) (suc first + n) page) ≡ inside first (first + suc n) page
among_more first n page = grind (arith, nat_tests)

pub among_pages : (n first page : ℕ) → is_among (count_from n first) page ≡ inside first (first + n) page
among_pages zero first page = let none : inside first (first + 0) page ≡ false = grind (arith, nat_tests) in sym none
among_pages (suc n) first page = ap (λ b. (first == page) || b) (among_pages n (suc first) page) ∙ among_more first n page

pub painted_alike : (f g : ℕ → Bool) (x : Bool) (first : ℕ) (xs : List Bool) → ((page : ℕ) → first ≤ page → page < first + length xs → f page ≡ g page) → paint_from first f x xs ≡ paint_from first g x xs
painted_alike f g x first [] h = refl
painted_alike f g x first (y ∷ ys) h =
    ap (λ b. (if b then x else y) ∷ paint_from (suc first) f x ys) (h first (omega arith) (omega arith))
    ∙ ap (λ zs. (if g first then x else y) ∷ zs) (painted_alike f g x (suc first) ys (λ page low high. h page (omega arith) (omega arith)))

-- The pages of a set below an end.

none_past : (test : ℕ → Bool) (end n first : ℕ) → end ≤ first → filter (λ page. nat_lt page end && test page) (count_from n first) ≡ []
none_past test end zero first past = refl
none_past test end (suc n) first past =
    let fails : nat_lt first end ≡ false = grind (arith, nat_tests) in
    ap (λ b. cond (b && test first) (first ∷ filter (λ page. nat_lt page end && test page) (count_from n (suc first))) (filter (λ page. nat_lt page end && test page) (count_from n (suc first)))) fails
    ∙ none_past test end n (suc first) (omega arith)

pub cut_to : (test : ℕ → Bool) (end n k first : ℕ) → end ≡ first + k → k ≤ n → filter (λ page. nat_lt page end && test page) (count_from n first) ≡ filter test (count_from k first)
cut_to test end n zero first is few = none_past test end n first (omega arith)
cut_to test end zero (suc k) first is few = absurd (omega arith)
cut_to test end (suc n) (suc k) first is few =
    let passes : nat_lt first end ≡ true = grind (arith, nat_tests) in
    ap (λ b. cond (b && test first) (first ∷ filter (λ page. nat_lt page end && test page) (count_from n (suc first))) (filter (λ page. nat_lt page end && test page) (count_from n (suc first)))) passes
    ∙ ap (λ ps. cond (test first) (first ∷ ps) ps) (cut_to test end n k (suc first) (omega arith) (omega arith))

-- of all pages, those that are not missing
pub not_missing : (n : ℕ) (set all missing now : PageSet) → ((page : ℕ) → page < 64 → has_page all page ≡ (nat_le 0 page && nat_lt page (0 + n)))
    → ((page : ℕ) → page < 64 → has_page missing page ≡ (has_page all page && not (has_page set page)))
    → ((page : ℕ) → page < 64 → has_page now page ≡ (has_page all page && not (has_page missing page)))
    → (page : ℕ) → page < 64 → has_page now page ≡ (nat_lt page n && has_page set page)
not_missing n set all missing now all_is missing_is now_is page low =
    now_is page low ∙ ap (λ b. has_page all page && not b) (missing_is page low) ∙ both (has_page all page) (has_page set page) ∙ ap (λ b. b && has_page set page) (all_is page low ∙ inside_all)
  where
    both : (a b : Bool) → (a && not (a && not b)) ≡ (a && b)
    both true true = refl
    both true false = refl
    both false b = refl

    inside_all : (nat_le 0 page && nat_lt page (0 + n)) ≡ nat_lt page n
    inside_all = grind (arith, nat_tests)

pub pages_not_missing : (n : ℕ) (set now : PageSet) → n ≤ 64 → ((page : ℕ) → page < 64 → has_page now page ≡ (nat_lt page n && has_page set page)) → pages_in now ≡ filter (has_page set) (count_from n 0)
unfolding pages_in
pages_not_missing n set now most is =
    filter-same (has_page now) (λ page. nat_lt page n && has_page set page) 64 0 (λ page low high. is page (omega arith)) ∙ cut_to (has_page set) n 64 n 0 (omega arith) most
