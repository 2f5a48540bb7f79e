-- Picks in lines, as they are drawn.
use Rattle.std.proofs.Common.{◌≡◌, ◌∙◌, ℕ, zero, suc, List, [], ◌∷◌, ◌++◌, ◌<◌, ◌≤◌, ◌+◌, ◌-◌, ◌*◌, ◌%◌, min, ap, sym, subst, refl, arith, codes, decimal, map, take, drop, length, append_assoc}
use Rattle.std.proofs.lemmas.List.{append-nil}
use Rattle.vm_model.specs.Words.{fields}
use Rattle.text_lines.proofs.JoinedFields.{fields-front}
use Rattle.trace_text.specs.SpelledLines.{Order, text_of, text_of_line}
use Rattle.trace_maker.specs.Generated.{next, drawn, drawn_picks, order_lines, state_after}

take_drawn : (k n state : ℕ) → take k (drawn_picks n state) ≡ drawn_picks (min n k) state
unfolding drawn_picks
take_drawn zero n state = let none : min n 0 ≡ 0 = omega arith in ap (λ m. drawn_picks m state) (sym none)
take_drawn (suc k) zero state = let none : min 0 (suc k) ≡ 0 = omega arith in ap (λ m. drawn_picks m state) (sym none)
take_drawn (suc k) (suc n) state =
    let one : suc (min n k) ≡ min (suc n) (suc k) = omega arith in
    ap (λ ps. (1 + drawn (next state) % 8) ∷ ps) (take_drawn k n (next state)) ∙ ap (λ m. drawn_picks m state) one

drop_drawn : (k n state : ℕ) → drop k (drawn_picks n state) ≡ drawn_picks (n - min n k) (state_after (min n k) state)
unfolding drawn_picks state_after
drop_drawn zero n state =
    let none : min n 0 ≡ 0 = omega arith in let all : n - min n 0 ≡ n = omega arith in
    sym (ap (λ m. drawn_picks m (state_after (min n 0) state)) all ∙ ap (λ m. drawn_picks n (state_after m state)) none)
drop_drawn (suc k) zero state =
    let none : min 0 (suc k) ≡ 0 = omega arith in
    sym (ap (λ m. drawn_picks (0 - m) (state_after m state)) none)
drop_drawn (suc k) (suc n) state =
    let one : suc (min n k) ≡ min (suc n) (suc k) = omega arith in
    let same : n - min n k ≡ suc n - suc (min n k) = omega arith in
    drop_drawn k n (next state) ∙ ap (λ m. drawn_picks m (state_after (min n k) (next state))) same ∙ ap (λ m. drawn_picks (suc n - m) (state_after m state)) one

drawn_long : (n state : ℕ) → length (drawn_picks n state) ≡ n
unfolding drawn_picks
drawn_long zero state = refl
drawn_long (suc n) state = ap suc (drawn_long n (next state))

first_line : (n : ℕ) (picks : List ℕ) → 0 < length picks → order_lines (suc n) picks ≡ Order (take 32 picks) ∷ order_lines n (drop 32 picks)
unfolding order_lines
first_line n [] h = absurd (omega arith)
first_line n (p ∷ picks) h = refl

-- the next line of picks, and what is left after it
pub record IsNextLine (lines left state rest : ℕ) : Type 0 where
  pub room : left - min left 32 ≤ 32 * rest
  pub text : text_of (order_lines lines (drawn_picks left state)) ≡ text_of_line (Order (drawn_picks (min left 32) state)) ++ text_of (order_lines rest (drawn_picks (left - min left 32) (state_after (min left 32) state)))

pub next_line : (lines left state : ℕ) → 0 < left → left ≤ 32 * lines → (rest : ℕ) × IsNextLine lines left state rest
next_line zero left state some room = absurd (omega arith)
next_line (suc n) left state some room =
    let long = drawn_long left state in
    let line = first_line n (drawn_picks left state) (omega (arith, long)) in
    (n, record { room = omega arith; text = ap text_of (line ∙ ap (λ ps. Order ps ∷ order_lines n (drop 32 (drawn_picks left state))) (take_drawn 32 left state) ∙ ap (λ ps. Order (drawn_picks (min left 32) state) ∷ order_lines n ps) (drop_drawn 32 left state)) })

-- lines that are to be written behind a text
pub record AreLinesLeft (left now : ℕ) (written : List ℕ) (lines picks start : ℕ) (old : List ℕ) : Type 0 where
  pub rest : ℕ
  pub room : left ≤ 32 * rest
  pub text : written ++ text_of (order_lines rest (drawn_picks left now)) ≡ old ++ text_of (order_lines lines (drawn_picks picks start))

-- a line more is written
pub one_line : {left now lines picks start : ℕ} {written old : List ℕ} (count after : ℕ) (new : List ℕ) → 0 < left → count ≡ min left 32 → after ≡ state_after count now → new ≡ written ++ text_of_line (Order (drawn_picks count now))
    → AreLinesLeft left now written lines picks start old → AreLinesLeft (left - count) after new lines picks start old
one_line {left = left} {now = now} {written = written} count after new some e draw put a =
    let n = next_line a.rest left now some a.room in
    record {
      rest = n.0;
      room = subst (λ m. left - m ≤ 32 * n.0) (sym e) n.1.room;
      text = ap (λ t. t ++ text_of (order_lines n.0 (drawn_picks (left - count) after))) put
          ∙ append_assoc written (text_of_line (Order (drawn_picks count now))) (text_of (order_lines n.0 (drawn_picks (left - count) after)))
          ∙ ap (λ s. written ++ (text_of_line (Order (drawn_picks count now)) ++ text_of (order_lines n.0 (drawn_picks (left - count) s)))) draw
          ∙ ap (λ m. written ++ (text_of_line (Order (drawn_picks m now)) ++ text_of (order_lines n.0 (drawn_picks (left - m) (state_after m now))))) e
          ∙ ap (λ t. written ++ t) (sym n.1.text)
          ∙ a.text;
    }

no_lines_left : (lines now : ℕ) → order_lines lines (drawn_picks 0 now) ≡ []
unfolding order_lines drawn_picks
no_lines_left zero now = refl
no_lines_left (suc n) now = refl

-- all of them are
pub no_line_left : {left now lines picks start : ℕ} {written old : List ℕ} → left ≤ 0 → AreLinesLeft left now written lines picks start old → written ≡ old ++ text_of (order_lines lines (drawn_picks picks start))
no_line_left {left = left} {now = now} {written = written} none a =
    let e : left ≡ 0 = omega arith in
    sym (ap (λ n. written ++ text_of (order_lines a.rest (drawn_picks n now))) e ∙ ap (λ ls. written ++ text_of ls) (no_lines_left a.rest now) ∙ append-nil written) ∙ a.text

-- picks that are to be written behind a text, and the state that they leave
pub record AreLeft (left now : ℕ) (written : List ℕ) (all start : ℕ) (first : List ℕ) : Type 0 where
  pub text : written ++ fields ([] ∷ map decimal (drawn_picks left now)) ≡ first ++ fields ([] ∷ map decimal (drawn_picks all start))
  pub state : state_after left now ≡ state_after all start

-- a pick more is written
pub one_pick : (n state all start : ℕ) (text new first : List ℕ) (pick after : ℕ) → AreLeft (suc n) state text all start first → after ≡ next state → pick ≡ 1 + drawn (next state) % 8 → new ≡ text ++ fields ([] ∷ decimal pick ∷ []) → AreLeft n after new all start first
unfolding drawn_picks state_after
one_pick n state all start text new first pick after left draw is put =
    record {
      text = ap (λ t. t ++ fields ([] ∷ map decimal (drawn_picks n after))) put
          ∙ append_assoc text (32 ∷ decimal pick) (fields ([] ∷ map decimal (drawn_picks n after)))
          ∙ ap (λ t. text ++ 32 ∷ t) (sym (fields-front (decimal pick) (map decimal (drawn_picks n after))))
          ∙ ap (λ p. text ++ 32 ∷ fields (decimal p ∷ map decimal (drawn_picks n after))) is
          ∙ ap (λ s. text ++ 32 ∷ fields (decimal (1 + drawn (next state) % 8) ∷ map decimal (drawn_picks n s))) draw
          ∙ left.text;
      state = ap (state_after n) draw ∙ left.state;
    }

-- all of them are
pub no_pick_left : (state all start : ℕ) (text first : List ℕ) → AreLeft 0 state text all start first → (text ≡ first ++ fields ([] ∷ map decimal (drawn_picks all start))) × (state ≡ state_after all start)
unfolding drawn_picks state_after
no_pick_left state all start text first left = (sym (append-nil text) ∙ left.text, left.state)

-- a line of picks
pub pick_line : (old first text picks : List ℕ) → first ≡ old ++ codes "order" → text ≡ first ++ fields ([] ∷ map decimal picks) → text ++ 10 ∷ [] ≡ old ++ text_of_line (Order picks)
pick_line old first text picks h k =
    ap (λ t. t ++ 10 ∷ []) (k ∙ ap (λ t. t ++ fields ([] ∷ map decimal picks)) h ∙ append_assoc old (codes "order") (fields ([] ∷ map decimal picks)) ∙ ap (λ t. old ++ t) (sym (fields-front (codes "order") (map decimal picks))))
    ∙ append_assoc old (fields (codes "order" ∷ map decimal picks)) (10 ∷ [])
