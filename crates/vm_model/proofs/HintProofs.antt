-- The hint of bits between two places is the only one.
use Rattle.std.proofs.Common.{◌≡◌, ℕ, zero, suc, ◌+◌, ◌-◌, ◌<◌, ◌≤◌, Bool, true, false, not, List, [], ◌∷◌, length, map, reverse, take, drop, get_or, refl, ap, sym, ◌∙◌, arith}
use Rattle.std.proofs.lemmas.List.{length-drop, length-take, length-reverse, length-map, get_or-reverse}
use Rattle.vm_model.specs.declared.rows.Hint.{Hint}
use Rattle.vm_model.specs.Space.{span, is_free_at}
use Rattle.vm_model.specs.Bits.{leading_free}
use Rattle.vm_model.specs.Hints.{IsLongestIn, IsHintIn, bits_between, TheHintIsTheOnlyOne}
use Rattle.vm_model.proofs.LongestRun.{the_longest_run_is_the_only_one}

-- What is free before the first taken place, by its places.
pub leading_free-is : (bits : List Bool) (n : ℕ) → n ≤ length bits → ((k : ℕ) → k < n → is_free_at bits k ≡ true) → (n < length bits → is_free_at bits n ≡ false) → leading_free bits ≡ n
leading_free-is [] zero h free end = refl
leading_free-is [] (suc n) h free end = absurd (omega arith)
leading_free-is (true ∷ bits) zero h free end = refl
leading_free-is (true ∷ bits) (suc n) h free end = let e = free 0 (omega arith) in cc
leading_free-is (false ∷ bits) zero h free end = let e = end (omega arith) in cc
leading_free-is (false ∷ bits) (suc n) h free end = ap suc (leading_free-is bits n (omega arith) (λ k l. free (suc k) (omega arith)) (λ l. end (omega arith)))

-- The places of a list that was made of another.

is_free-read : (bits : List Bool) (place : ℕ) → is_free_at bits place ≡ not (get_or bits place true)
is_free-read [] place = refl
is_free-read (b ∷ bits) zero = refl
is_free-read (b ∷ bits) (suc place) = is_free-read bits place

is_free-take : (n place : ℕ) (bits : List Bool) → place < n → is_free_at (take n bits) place ≡ is_free_at bits place
is_free-take zero place bits h = absurd (omega arith)
is_free-take (suc n) place [] h = refl
is_free-take (suc n) zero (b ∷ bits) h = refl
is_free-take (suc n) (suc place) (b ∷ bits) h = is_free-take n place bits (omega arith)

pub is_free-between : (bits : List Bool) (low high place : ℕ) → low + place < high → is_free_at (bits_between bits low high) place ≡ is_free_at bits (low + place)
is_free-between bits low high place h =
    is_free-take (high - low) place (drop low bits) (omega arith) ∙ is_free-read (drop low bits) place
    ∙ sym (is_free-read (drop low bits) place) ∙ drop_free low bits place
  where
    drop_free : (low : ℕ) (bits : List Bool) (place : ℕ) → is_free_at (drop low bits) place ≡ is_free_at bits (low + place)
    drop_free zero bits place = ap (is_free_at bits) (let e : place ≡ 0 + place = omega arith in e)
    drop_free (suc low) [] place = refl
    drop_free (suc low) (b ∷ bits) place = drop_free low bits place ∙ ap (is_free_at (b ∷ bits)) (let e : suc (low + place) ≡ suc low + place = omega arith in e)

pub length-between : (bits : List Bool) (low high : ℕ) → high ≤ length bits → length (bits_between bits low high) ≡ high - low
length-between bits low high h = omega (arith, length-take (high - low) (drop low bits), length-drop low bits)

is_free-reverse : (bits : List Bool) (place : ℕ) → place < length bits → is_free_at (reverse bits) place ≡ is_free_at bits (length bits - 1 - place)
is_free-reverse bits place h = is_free-read (reverse bits) place ∙ ap not (get_or-reverse bits place true h) ∙ sym (is_free-read bits (length bits - 1 - place))

is_free-not : (bits : List Bool) (place : ℕ) → place < length bits → is_free_at (map not bits) place ≡ not (is_free_at bits place)
is_free-not [] place h = absurd (omega arith)
is_free-not (true ∷ bits) zero h = refl
is_free-not (false ∷ bits) zero h = refl
is_free-not (b ∷ bits) (suc place) h = is_free-not bits place (omega arith)

-- The parts of the hint.

longest_between : (bits : List Bool) (low high start pages : ℕ) → low ≤ high → high ≤ length bits → IsLongestIn bits low high (span (low + start) pages) → IsLongestIn (bits_between bits low high) 0 (length (bits_between bits low high)) (span start pages)
longest_between bits low high start pages order inside is =
    let within = is.within in
    let long = length-between bits low high inside in
    record {
      free = λ place a b. is_free-between bits low high place (omega arith) ∙ is.free (low + place) (omega arith) (omega arith);
      after = omega arith;
      within = omega arith;
      longest = λ from few low_is high_is some are.
          let l = is.longest (low + from) few (omega arith) (omega arith) some
          (λ place a b. (let i : low + (place - low) ≡ place = omega arith in ap (is_free_at bits) (sym i) ∙ sym (is_free-between bits low high (place - low) (omega arith)) ∙ are (place - low) (omega arith) (omega arith))) in
          (l.0, λ same. omega (arith, l.1 same));
      none = λ e. omega (arith, is.none e);
    }

left_is : (bits : List Bool) (low high : ℕ) (h : Hint) → low ≤ high → high ≤ length bits → IsHintIn bits low high h → leading_free (bits_between bits low high) ≡ h.left
left_is bits low high h order inside is =
    let within = is.left_within in
    let long = length-between bits low high inside in
    leading_free-is (bits_between bits low high) h.left (omega arith)
    (λ k l. is_free-between bits low high k (omega arith) ∙ is.left_free (low + k) (omega arith) (omega arith))
    (λ l. is_free-between bits low high h.left (omega arith) ∙ is.left_end (omega arith))

right_is : (bits : List Bool) (low high : ℕ) (h : Hint) → low ≤ high → high ≤ length bits → IsHintIn bits low high h → leading_free (reverse (bits_between bits low high)) ≡ h.right
right_is bits low high h order inside is =
    let within = is.right_within in
    let part = bits_between bits low high in
    let long : length part ≡ high - low = length-between bits low high inside in
    let back : length (reverse part) ≡ length part = length-reverse part in
    leading_free-is (reverse part) h.right (omega arith)
    (λ k l. is_free-reverse part k (omega arith) ∙ is_free-between bits low high (length part - 1 - k) (omega arith)
    ∙ is.right_free (low + (length part - 1 - k)) (omega arith) (omega arith))
    (λ l. is_free-reverse part h.right (omega arith) ∙ is_free-between bits low high (length part - 1 - h.right) (omega arith)
    ∙ ap (is_free_at bits) (let e : low + (length part - 1 - h.right) ≡ high - suc h.right = omega arith in e) ∙ is.right_end (omega arith))

first_is : (bits : List Bool) (low high : ℕ) (h : Hint) → low ≤ high → high ≤ length bits → IsHintIn bits low high h → leading_free (map not (bits_between bits low high)) ≡ h.first
first_is bits low high h order inside is =
    let within = is.first_within in
    let part = bits_between bits low high in
    let long : length part ≡ high - low = length-between bits low high inside in
    let all : length (map not part) ≡ length part = length-map part not in
    leading_free-is (map not part) h.first (omega arith)
    (λ k l. is_free-not part k (omega arith) ∙ ap not (is_free-between bits low high k (omega arith) ∙ is.first_taken (low + k) (omega arith) (omega arith)))
    (λ l. is_free-not part h.first (omega arith) ∙ ap not (is_free-between bits low high h.first (omega arith) ∙ is.first_free (omega arith)))

pub the_hint_is_the_only_one : TheHintIsTheOnlyOne
the_hint_is_the_only_one bits low high h order inside is =
    let part = bits_between bits low high in
    let run = the_longest_run_is_the_only_one part (span h.run_start h.run) (longest_between bits low high h.run_start h.run order inside is.run) in
    let left = left_is bits low high h order inside is in
    let right = right_is bits low high h order inside is in
    let first = first_is bits low high h order inside is in
    λ i. record { run_start = (run i).start; run = (run i).pages; left = sym left i; right = sym right i; first = sym first i }
