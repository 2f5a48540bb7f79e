-- Lines of a word and one number: where they stand.
use Rattle.std.proofs.Common.{◌≡◌, ◌∙◌, ℕ, true, false, ◌&&◌, Bool, List, [], ◌∷◌, ◌++◌, refl, ap, sym, codes, decimal, subst, nat_lt, nat_le}
use Rattle.std.proofs.lemmas.Bool.{and_parts, and_from}
use Rattle.std.proofs.lemmas.Fmt.{decimal_injective}
use Rattle.trace_text.specs.declared.progress.Progress.{Progress}
use Rattle.vm_model.specs.Words.{fields, is_number, within}
use Rattle.trace_text.specs.SpelledLines.{Line, Space, Frames, Lazy, Callers, Caller, spelled}
use Rattle.trace_text.specs.Reading.{Reading}
use Rattle.trace_text.specs.Grammar.{may_stand, follows, read}
use Rattle.trace_text.specs.HeldLines.{IsHeld, Steps}
use Rattle.trace_text.proofs.Split.{is_clean, split_at}
use Rattle.trace_text.proofs.Guess.{guess, number, nth, small}
use Rattle.trace_text.proofs.Exclusive.{spelt_in}
use Rattle.trace_text.proofs.LinesByWord.{line_by_word, behind}

-- lines that are this word and a number, and where they may stand
pub record AreNumberLines (r : Reading) (word : List ℕ) (make : ℕ → Line) (rank : ℕ) (rule : ℕ → Bool) : Type 0 where
  pub clean : is_clean word ≡ true
  pub guessed : (fs : List (List ℕ)) → guess (word ∷ fs) ≡ make (number (nth 0 fs))
  pub spells : (n : ℕ) → spelled (make n) ≡ word ∷ decimal n ∷ []
  pub stands : (n : ℕ) → may_stand r (make n) ≡ (is_number n && follows r.rank rank && rule n)

pub space_lines : (r : Reading) → AreNumberLines r (codes "space") Space 2 (within 1 1048576)
space_lines r = record { clean = refl; guessed = λ fs. refl; spells = λ n. refl; stands = λ n. refl }

pub frames_lines : (r : Reading) → AreNumberLines r (codes "frames") Frames 3 (within 0 8192)
frames_lines r = record { clean = refl; guessed = λ fs. refl; spells = λ n. refl; stands = λ n. refl }

pub lazy_lines : (r : Reading) → AreNumberLines r (codes "lazy") Lazy 4 (within 0 1048576)
lazy_lines r = record { clean = refl; guessed = λ fs. refl; spells = λ n. refl; stands = λ n. refl }

pub callers_lines : (r : Reading) → AreNumberLines r (codes "callers") Callers 8 (within 1 16)
callers_lines r = record { clean = refl; guessed = λ fs. refl; spells = λ n. refl; stands = λ n. refl }

pub caller_lines : (r : Reading) → AreNumberLines r (codes "caller") Caller 10 (λ n. nat_lt r.caller n && nat_le n r.header.callers)
caller_lines r = record { clean = refl; guessed = λ fs. refl; spells = λ n. refl; stands = λ n. refl }

-- no such line has this text, which is no number that may stand
number_stuck : (q : Progress) (r : Reading) (word text : List ℕ) (make : ℕ → Line) (rank : ℕ) (rule : ℕ → Bool) → AreNumberLines r word make rank rule
    → ((n : ℕ) → is_number n ≡ true → text ≡ decimal n → follows r.rank rank ≡ true → rule n ≡ true → ⊥) → Steps r (word ++ 32 ∷ text) false q
number_stuck q r word text make rank rule lines none = λ l s e.
    let n = number (nth 0 (split_at 32 text)) in
    let made : l ≡ make n = line_by_word l word text (spelt_in r l s) lines.clean e ∙ lines.guessed (split_at 32 text) in
    let stood : (is_number n && follows r.rank rank && rule n) ≡ true = sym (lines.stands n) ∙ subst (λ (m : Line). may_stand r m ≡ true) made s in
    let a = and_parts (is_number n && follows r.rank rank) (rule n) stood in
    let b = and_parts (is_number n) (follows r.rank rank) a.0 in
    none n b.0 (behind word text (decimal n) (e ∙ ap (λ (m : Line). fields (spelled m)) made ∙ ap fields (lines.spells n))) b.1 a.1

-- no such line has a text that is no number
pub no_number : (q : Progress) (r : Reading) (word text : List ℕ) (make : ℕ → Line) (rank : ℕ) (rule : ℕ → Bool) → AreNumberLines r word make rank rule
    → ((n : ℕ) → is_number n ≡ true → text ≡ decimal n → ⊥) → Steps r (word ++ 32 ∷ text) false q
no_number q r word text make rank rule lines none = number_stuck q r word text make rank rule lines (λ n wide e place rules. none n wide e)

-- nor one that is this number, where it may not stand
pub number_refused : (q : Progress) (r : Reading) (word text : List ℕ) (make : ℕ → Line) (rank : ℕ) (rule : ℕ → Bool) (m : ℕ) → AreNumberLines r word make rank rule
    → is_number m ≡ true → text ≡ decimal m → (follows r.rank rank ≡ true → rule m ≡ true → ⊥) → Steps r (word ++ 32 ∷ text) false q
number_refused q r word text make rank rule m lines wide e none =
    number_stuck q r word text make rank rule lines (λ n h k place rules.
    let same : n ≡ m = decimal_injective n m (small n h) (small m wide) (sym k ∙ e) in
    none place (subst (λ i. rule i ≡ true) same rules))

-- one that is a number which may stand does
pub number_stands : (q : Progress) (r : Reading) (word text : List ℕ) (make : ℕ → Line) (rank : ℕ) (rule : ℕ → Bool) (n : ℕ) → AreNumberLines r word make rank rule
    → is_number n ≡ true → text ≡ decimal n → follows r.rank rank ≡ true → rule n ≡ true → IsHeld q (read r (make n)) → Steps r (word ++ 32 ∷ text) true q
number_stands q r word text make rank rule n lines wide e place rules held = (
  make n,
  ap (λ t. word ++ 32 ∷ t) e ∙ ap fields (sym (lines.spells n)),
  lines.stands n ∙ and_from (is_number n && follows r.rank rank) (rule n) (and_from (is_number n) (follows r.rank rank) wide place) rules,
  held,
)
