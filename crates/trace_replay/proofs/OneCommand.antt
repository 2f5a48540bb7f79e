-- Which words name a command, and that they name one alone.
use Rattle.std.proofs.Common.{◌≡◌, ◌≢◌, ◌<◌, ◌≤◌, ◌^◌, ℕ, List, [], ◌∷◌, length, get_or, codes, decimal, sym, ap, ◌∙◌, subst, arith}
use Rattle.std.proofs.lemmas.Fmt.{decimal_is_IsNumeral}
use Rattle.std.specs.Str.Parse.{digits_value}
use Rattle.trace_replay.specs.declared.words.Command.TheVariants as command
use Rattle.trace_replay.specs.declared.words.Mode.{Mode}
use Rattle.trace_replay.specs.CommandWords.{Name, NameNone, word_of}

-- a list of three is its elements
pub three_words : {X : Type 0} (words : List X) (a b c d e f : X) → 3 ≤ length words → length words < 4 → a ≡ get_or words 0 d → b ≡ get_or words 1 e → c ≡ get_or words 2 f → words ≡ a ∷ b ∷ c ∷ []
three_words [] a b c d e f low high one two three = absurd (omega arith)
three_words (x ∷ []) a b c d e f low high one two three = absurd (omega arith)
three_words (x ∷ y ∷ []) a b c d e f low high one two three = absurd (omega arith)
three_words (x ∷ y ∷ z ∷ []) a b c d e f low high one two three = cc
three_words (x ∷ y ∷ z ∷ w ∷ words) a b c d e f low high one two three = absurd (omega arith)

pub of_three : {X : Type 0} {a b c d e f : X} → a ≡ d → b ≡ e → c ≡ f → a ∷ b ∷ c ∷ [] ≡ d ∷ e ∷ f ∷ []
of_three one two three = cc

same_number : (a b : ℕ) → a < 2 ^ 64 → b < 2 ^ 64 → decimal a ≡ decimal b → a ≡ b
same_number a b low high e = sym (decimal_is_IsNumeral a low).1 ∙ ap (digits_value 10) e ∙ (decimal_is_IsNumeral b high).1

second : (x a b c d : List ℕ) → x ∷ a ∷ b ∷ [] ≡ x ∷ c ∷ d ∷ [] → a ≡ c
second x a b c d e = cc

third : (x a b c d : List ℕ) → x ∷ a ∷ b ∷ [] ≡ x ∷ c ∷ d ∷ [] → b ≡ d
third x a b c d e = cc

-- what holds of two numbers that the words name holds of each two
pub at_numbers : (P : ℕ → ℕ → Type 0) (words : List (List ℕ)) (a b c d : ℕ) → Name (command.Make a b) words → Name (command.Make c d) words → P a b → P c d
at_numbers P words a b c d one other p =
    let both = sym one.0 ∙ other.0 in
    let start : a ≡ c = same_number a c (let low = one.1 in omega arith) (let low = other.1 in omega arith) (second (codes "make") (decimal a) (decimal b) (decimal c) (decimal d) both) in
    let calls : b ≡ d = same_number b d (let low = one.2 in omega arith) (let low = other.2 in omega arith) (third (codes "make") (decimal a) (decimal b) (decimal c) (decimal d) both) in
    subst (λ n. P c n) calls (subst (λ n. P n b) start p)

only_word : (word other : List ℕ) → word ∷ [] ≡ other ∷ [] → word ≡ other
only_word word other e = cc

-- a word that is no command's names none
pub no_word : (word : List ℕ) → word ≢ codes "live" → ((mode : Mode) → word ≢ word_of mode) → NameNone (word ∷ [])
no_word word live modes (command.Replay mode) named = modes mode (only_word word (word_of mode) named)
no_word word live modes command.Live named = live (only_word word (codes "live") named)
no_word word live modes (command.Make start calls) named = let both = ap length named.0 in absurd (omega arith)
