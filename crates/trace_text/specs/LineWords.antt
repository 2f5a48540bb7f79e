-- The words of lines that are told from the other lines together.
use Rattle.std.specs.Prelude.{ℕ, Bool, List, [], ◌∷◌, ◌++◌, codes}
use Rattle.std.specs.List.{list_any}
use Rattle.std.specs.Str.{bytes_eq}

abbrev pub one_of : List (List ℕ) → List ℕ → Bool
one_of words word = list_any (bytes_eq word) words

-- the words of the lines before the calls, but that of the groups
abbrev pub words_of_header : List (List ℕ)
words_of_header = codes "vmtrace" ∷ codes "space" ∷ codes "frames" ∷ codes "lazy" ∷ codes "block" ∷ codes "unit" ∷ codes "callers" ∷ codes "counters" ∷ []

-- the words of per-CPU objects and of counts
abbrev pub words_of_percpu : List (List ℕ)
words_of_percpu = codes "alloc_percpu" ∷ codes "alloc_atomic" ∷ codes "free_percpu" ∷ codes "add" ∷ codes "sum" ∷ codes "count" ∷ codes "balance" ∷ []

abbrev pub is_percpu_or_header : List ℕ → Bool
is_percpu_or_header word = one_of (words_of_percpu ++ words_of_header) word
