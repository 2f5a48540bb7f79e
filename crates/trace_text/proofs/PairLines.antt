-- Lines of a word and two numbers: where they stand.
use Rattle.std.proofs.Common.{◌≡◌, ◌∙◌, ℕ, true, false, ◌&&◌, Bool, List, [], ◌∷◌, ◌++◌, refl, ap, sym, arith, codes, decimal, subst}
use Rattle.std.proofs.lemmas.Bool.{and_parts, and_from}
use Rattle.std.proofs.lemmas.Fmt.{decimal_injective}
use Rattle.trace_text.specs.declared.progress.Progress.{Progress}
use Rattle.vm_model.specs.Words.{fields, is_number}
use Rattle.trace_text.specs.SpelledLines.{Line, Blocks, Units, GroupOf, Counters, spelled}
use Rattle.trace_text.specs.Reading.{Reading}
use Rattle.trace_text.specs.Grammar.{may_stand, is_allowed, follows, read}
use Rattle.trace_text.specs.HeldLines.{IsHeld, Steps}
use Rattle.trace_text.proofs.Split.{is_clean, split_at, lacks-clean, same_cut}
use Rattle.trace_text.proofs.Guess.{guess, number, nth, small, clean-decimal}
use Rattle.trace_text.proofs.Exclusive.{spelt_in}
use Rattle.trace_text.proofs.LinesByWord.{line_by_word, behind}

-- lines that are this word and two numbers, and where they may stand
pub record ArePairLines (r : Reading) (word : List ℕ) (make : ℕ → ℕ → Line) (rank : ℕ) (rule : ℕ → ℕ → Bool) : Type 0 where
  pub clean : is_clean word ≡ true
  pub guessed : (fs : List (List ℕ)) → guess (word ∷ fs) ≡ make (number (nth 0 fs)) (number (nth 1 fs))
  pub spells : (a b : ℕ) → spelled (make a b) ≡ word ∷ decimal a ∷ decimal b ∷ []
  pub stands : (a b : ℕ) → may_stand r (make a b) ≡ (is_number a && is_number b && follows r.rank rank && rule a b)

pub block_lines : (r : Reading) → ArePairLines r (codes "block") Blocks 5 (λ a b. is_allowed r (Blocks a b))
block_lines r = record { clean = refl; guessed = λ fs. refl; spells = λ a b. refl; stands = λ a b. refl }

pub unit_lines : (r : Reading) → ArePairLines r (codes "unit") Units 6 (λ a b. is_allowed r (Units a b))
unit_lines r = record { clean = refl; guessed = λ fs. refl; spells = λ a b. refl; stands = λ a b. refl }

pub group_lines : (r : Reading) → ArePairLines r (codes "group") GroupOf 7 (λ a b. is_allowed r (GroupOf a b))
group_lines r = record { clean = refl; guessed = λ fs. refl; spells = λ a b. refl; stands = λ a b. refl }

pub counters_lines : (r : Reading) → ArePairLines r (codes "counters") Counters 9 (λ a b. is_allowed r (Counters a b))
counters_lines r = record { clean = refl; guessed = λ fs. refl; spells = λ a b. refl; stands = λ a b. refl }

-- one text is one pair
pub same_pair : (text : List ℕ) (a b d e : ℕ) → is_number a ≡ true → is_number b ≡ true → is_number d ≡ true → is_number e ≡ true → text ≡ fields (decimal a ∷ decimal b ∷ []) → text ≡ fields (decimal d ∷ decimal e ∷ []) → (a ≡ d) × (b ≡ e)
same_pair text a b d e h k m n f g =
    let parts = same_cut 32 (decimal a) (decimal d) (decimal b) (decimal e) (lacks-clean 32 (decimal a) (omega arith) (clean-decimal a h)) (lacks-clean 32 (decimal d) (omega arith) (clean-decimal d m)) (sym f ∙ g) in
    (decimal_injective a d (small a h) (small d m) parts.0, decimal_injective b e (small b k) (small e n) parts.1)

-- no such line has this text, which is no pair that may stand
pub pair_stuck : (q : Progress) (r : Reading) (word text : List ℕ) (make : ℕ → ℕ → Line) (rank : ℕ) (rule : ℕ → ℕ → Bool) → ArePairLines r word make rank rule
    → ((a b : ℕ) → is_number a ≡ true → is_number b ≡ true → text ≡ fields (decimal a ∷ decimal b ∷ []) → follows r.rank rank ≡ true → rule a b ≡ true → ⊥) → Steps r (word ++ 32 ∷ text) false q
pair_stuck q r word text make rank rule lines none = λ l s e.
    let a = number (nth 0 (split_at 32 text)) in
    let b = number (nth 1 (split_at 32 text)) in
    let made : l ≡ make a b = line_by_word l word text (spelt_in r l s) lines.clean e ∙ lines.guessed (split_at 32 text) in
    let stood : (is_number a && is_number b && follows r.rank rank && rule a b) ≡ true = sym (lines.stands a b) ∙ subst (λ (m : Line). may_stand r m ≡ true) made s in
    let rules = and_parts (is_number a && is_number b && follows r.rank rank) (rule a b) stood in
    let place = and_parts (is_number a && is_number b) (follows r.rank rank) rules.0 in
    let numbers = and_parts (is_number a) (is_number b) place.0 in
    none a b numbers.0 numbers.1 (behind word text (fields (decimal a ∷ decimal b ∷ [])) (e ∙ ap (λ (m : Line). fields (spelled m)) made ∙ ap fields (lines.spells a b))) place.1 rules.1

-- nor has one that is this pair, where it may not stand
pub pair_refused : (q : Progress) (r : Reading) (word text : List ℕ) (make : ℕ → ℕ → Line) (rank : ℕ) (rule : ℕ → ℕ → Bool) (m n : ℕ) → ArePairLines r word make rank rule
    → is_number m ≡ true → is_number n ≡ true → text ≡ fields (decimal m ∷ decimal n ∷ []) → (follows r.rank rank ≡ true → rule m n ≡ true → ⊥) → Steps r (word ++ 32 ∷ text) false q
pair_refused q r word text make rank rule m n lines wide long e none =
    pair_stuck q r word text make rank rule lines (λ a b h k f place rules.
    let same = same_pair text a b m n h k wide long f e in
    none place (subst (λ i. rule m i ≡ true) same.1 (subst (λ i. rule i b ≡ true) same.0 rules)))

-- one that is a pair which may stand does
pub pair_stands : (q : Progress) (r : Reading) (word text : List ℕ) (make : ℕ → ℕ → Line) (rank : ℕ) (rule : ℕ → ℕ → Bool) (a b : ℕ) → ArePairLines r word make rank rule
    → is_number a ≡ true → is_number b ≡ true → text ≡ fields (decimal a ∷ decimal b ∷ []) → follows r.rank rank ≡ true → rule a b ≡ true → IsHeld q (read r (make a b)) → Steps r (word ++ 32 ∷ text) true q
pair_stands q r word text make rank rule a b lines wide long e place rules held = (
  make a b,
  ap (λ t. word ++ 32 ∷ t) e ∙ ap fields (sym (lines.spells a b)),
  lines.stands a b ∙ and_from (is_number a && is_number b && follows r.rank rank) (rule a b) (and_from (is_number a && is_number b) (follows r.rank rank) (and_from (is_number a) (is_number b) wide long) place) rules,
  held,
)
