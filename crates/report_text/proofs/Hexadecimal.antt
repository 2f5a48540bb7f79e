-- Sixteen hexadecimal digits, the zeros before a number's own among them.
use Rattle.std.proofs.Common.{◌≡◌, ◌∙◌, ℕ, zero, suc, ◌+◌, ◌-◌, ◌/◌, ◌%◌, ◌^◌, ◌<◌, Bool, true, false, ◌==◌, if◌then◌else◌, List, [], ◌∷◌, ◌++◌, length, replicate, drop, set, ◌≤◌, refl, ap, sym, arith}
use Rattle.std.proofs.lemmas.Bool.{eqb-true, eq-eqb}
use Rattle.std.proofs.lemmas.List.{drop-set}
use Rattle.std.proofs.Math.Nat.{pow-succ'}
use Rattle.std.specs.Fmt.{digits, digits_onto, digit_glyph}
use Rattle.report_text.specs.Numerals.{padded}

-- the last k hexadecimal digits of n, before the text that stands
unfoldable pub hex_onto : ℕ → ℕ → List ℕ → List ℕ
hex_onto zero n text = text
hex_onto (suc k) n text = hex_onto k (n / 16) (digit_glyph false (n % 16) ∷ text)

replicate-cons : (k : ℕ) (text : List ℕ) → replicate k 48 ++ 48 ∷ text ≡ 48 ∷ replicate k 48 ++ text
replicate-cons zero text = refl
replicate-cons (suc k) text = ap (λ t. 48 ∷ t) (replicate-cons k text)

hex_onto-zero : (k : ℕ) (text : List ℕ) → hex_onto k 0 text ≡ replicate k 48 ++ text
unfolding hex_onto
hex_onto-zero zero text = refl
hex_onto-zero (suc k) text = hex_onto-zero k (48 ∷ text) ∙ replicate-cons k text

-- the last digit, and zeros before it
one_digit : (k n : ℕ) (text : List ℕ) → n / 16 ≡ 0 → hex_onto k (n / 16) (digit_glyph false (n % 16) ∷ text)
    ≡ replicate (suc k + length text - length (digit_glyph false (n % 16) ∷ text)) 48 ++ digit_glyph false (n % 16) ∷ text
one_digit k n text e =
    let left : ℕ = suc k + length text - length (digit_glyph false (n % 16) ∷ text) in
    let all : k ≡ left = omega arith in
    ap (λ m. hex_onto k m (digit_glyph false (n % 16) ∷ text)) e ∙ hex_onto-zero k (digit_glyph false (n % 16) ∷ text) ∙ ap (λ m. replicate m 48 ++ digit_glyph false (n % 16) ∷ text) all

-- zeros stand before the digits where these are fewer
hex_onto-digits : (k f n : ℕ) (text : List ℕ) → n < 16 ^ suc k → k < f → hex_onto (suc k) n text ≡ replicate (suc k + length text - length (digits_onto f 16 false n text)) 48 ++ digits_onto f 16 false n text
unfolding hex_onto
hex_onto-digits k zero n text small fuel = absurd (omega arith)
hex_onto-digits zero (suc f) n text small fuel =
    let none : n / 16 ≡ 0 = omega arith in
    one_digit 0 n text none ∙ ap (λ (b : Bool). let shown : List ℕ = (if b then digit_glyph false (n % 16) ∷ text else digits_onto f 16 false (n / 16) (digit_glyph false (n % 16) ∷ text)) in replicate (1 + length text - length shown) 48 ++ shown) (sym (eq-eqb (n / 16) 0 none))
hex_onto-digits (suc k) (suc f) n text small fuel =
    by_test (n / 16 == 0) refl (hex_onto-digits k f (n / 16) (digit_glyph false (n % 16) ∷ text) (let step = pow-succ' 16 (suc k) in omega arith) (omega arith))
  where
    by_test : (b : Bool) → (n / 16 == 0) ≡ b
        → hex_onto (suc k) (n / 16) (digit_glyph false (n % 16) ∷ text) ≡ replicate (suc k + length (digit_glyph false (n % 16) ∷ text) - length (digits_onto f 16 false (n / 16) (digit_glyph false (n % 16) ∷ text))) 48 ++ digits_onto f 16 false (n / 16) (digit_glyph false (n % 16) ∷ text)
        → hex_onto (suc k) (n / 16) (digit_glyph false (n % 16) ∷ text)
        ≡ replicate (suc (suc k) + length text - length (if b then digit_glyph false (n % 16) ∷ text else digits_onto f 16 false (n / 16) (digit_glyph false (n % 16) ∷ text))) 48 ++ (if b then digit_glyph false (n % 16) ∷ text else digits_onto f 16 false (n / 16) (digit_glyph false (n % 16) ∷ text))
    by_test true e more = one_digit (suc k) n text (eqb-true (n / 16) 0 e)
    by_test false e more =
        let shown : List ℕ = digits_onto f 16 false (n / 16) (digit_glyph false (n % 16) ∷ text) in
        let left : suc k + length (digit_glyph false (n % 16) ∷ text) - length shown ≡ suc (suc k) + length text - length shown = omega arith in
        more ∙ ap (λ m. replicate m 48 ++ shown) left

pub hex_digits : (n : ℕ) → n < 2 ^ 64 → hex_onto 16 n [] ≡ padded 16 (digits 16 false n)
unfolding digits
hex_digits n small = hex_onto-digits 15 64 n [] small (omega arith)

-- a digit more stands
pub one_more : (k n d : ℕ) (text whole : List ℕ) → 0 < k → k ≤ length text → d ≡ digit_glyph false (n % 16) → hex_onto k n (drop k text) ≡ whole → hex_onto (k - 1) (n / 16) (drop (k - 1) (set text (k - 1) d)) ≡ whole
unfolding hex_onto
one_more zero n d text whole positive low e h = absurd (omega arith)
one_more (suc k) n d text whole positive low e h =
    let front : suc k - 1 ≡ k = omega arith in
    let next : k + 1 ≡ suc k = omega arith in
    let room : k < length text = omega arith in
    ap (λ j. hex_onto j (n / 16) (drop j (set text j d))) front ∙ ap (hex_onto k (n / 16)) (drop-set text k d room ∙ ap (λ j. d ∷ drop j text) next ∙ ap (λ x. x ∷ drop (suc k) text) e) ∙ h

-- and all of them do
pub all_stand : (k n : ℕ) (text whole : List ℕ) → k ≤ 0 → hex_onto k n (drop k text) ≡ whole → text ≡ whole
unfolding hex_onto
all_stand zero n text whole none h = h
all_stand (suc k) n text whole none h = absurd (omega arith)
