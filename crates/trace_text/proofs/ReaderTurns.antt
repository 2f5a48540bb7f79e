-- One turn of the reader, and its end.
use Rattle.std.proofs.Common.{◌≡◌, ◌≢◌, ◌∙◌, ℕ, suc, ◌+◌, Bool, true, false, ◌&&◌, if◌then◌else◌, List, [], ◌∷◌, ◌++◌, refl, ap, sym, arith, subst, IsTrue, Result, Ok, Err, IfOk, None}
use Rattle.std.proofs.lemmas.Bool.{and_parts, and_from, eq-eqb, ne_eqb}
use Rattle.std.proofs.lemmas.Slice.Eq.{bytes_eq-Decides}
use Rattle.std.specs.Str.{bytes_eq}
use Rattle.trace_text.specs.declared.progress.Progress.{Progress}
use Rattle.vm_model.specs.Words.{fields, lacks}
use Rattle.trace_text.specs.SpelledLines.{Line, spelled}
use Rattle.trace_text.specs.Reading.{Reading, unread}
use Rattle.trace_text.specs.Grammar.{may_stand, read, is_ended, IsTraceOf, StopsAt, IsFirstBadLine}
use Rattle.trace_text.specs.Names.{place_of}
use Rattle.trace_text.specs.HeldLines.{IsHeld, Steps, StepsIn}
use Rattle.trace_text.proofs.Split.{split_at, split_at-lacks, split_at-whole}
use Rattle.trace_text.proofs.Outcomes.{Whole, Bad, outcome, reads, is_line, line_of, found, line_of-text, split_at-full, joined, joined-split_at, reads-whole, reads-bad}
use Rattle.trace_text.proofs.Exclusive.{spelt_in}

-- p holds what the lines before the text told, and the rest of the bytes decides
abbrev pub IsSoFar : List ℕ → ℕ → Progress → List ℕ → Type 0
IsSoFar bytes n p rest = (r : Reading) × IsHeld p r × (reads bytes ≡ outcome n r (split_at 10 rest))

outcome_good : (n : ℕ) (r : Reading) (t : List ℕ) (pieces : List (List ℕ)) → pieces ≢ [] → is_line r t (line_of t) ≡ true → outcome n r (t ∷ pieces) ≡ outcome (suc n) (read r (line_of t)) pieces
outcome_good n r t [] full e = absurd (full refl)
outcome_good n r t (u ∷ more) full e = ap (λ (b : Bool). elim b [ true ↦ outcome (suc n) (read r (line_of t)) (u ∷ more) | false ↦ Bad n (joined (t ∷ u ∷ more)) ]) e

outcome_bad : (n : ℕ) (r : Reading) (t : List ℕ) (pieces : List (List ℕ)) → pieces ≢ [] → is_line r t (line_of t) ≡ false → outcome n r (t ∷ pieces) ≡ Bad n (joined (t ∷ pieces))
outcome_bad n r t [] full e = absurd (full refl)
outcome_bad n r t (u ∷ more) full e = ap (λ (b : Bool). elim b [ true ↦ outcome (suc n) (read r (line_of t)) (u ∷ more) | false ↦ Bad n (joined (t ∷ u ∷ more)) ]) e

pub one_line : (bytes : List ℕ) (n next : ℕ) (p q : Progress) (rest text more : List ℕ) → IsSoFar bytes n p rest → rest ≡ text ++ 10 ∷ more → lacks 10 text ≡ true
    → next ≡ n + 1 → ((r : Reading) → IsHeld p r → Steps r text true q) → IsSoFar bytes next q more
one_line bytes n next p q rest text more (r, held, decides) e clean counted steps =
    let (l, spells, stood, holds) = steps r held in
    let same = line_of-text text l (spelt_in r l stood) spells in
    let tried = found r text l stood spells in
    let cuts : split_at 10 rest ≡ text ∷ split_at 10 more = ap (split_at 10) e ∙ split_at-lacks 10 text more clean in
    let number : suc n ≡ next = omega arith in (
      read r l,
      holds,
      decides ∙ ap (outcome n r) cuts ∙ outcome_good n r text (split_at 10 more) (split_at-full 10 more) tried
          ∙ ap (λ (m : Line). outcome (suc n) (read r m) (split_at 10 more)) same ∙ ap (λ k. outcome k (read r l) (split_at 10 more)) number,
    )

untried : (r : Reading) (text : List ℕ) → ((l : Line) → IsTrue (may_stand r l) → text ≢ fields (spelled l)) → (b : Bool) → is_line r text (line_of text) ≡ b → b ≡ false
untried r text none false e = refl
untried r text none true e =
    let parts = and_parts (bytes_eq (fields (spelled (line_of text))) text) (may_stand r (line_of text)) e in
    absurd (none (line_of text) parts.1 (sym ((bytes_eq-Decides (fields (spelled (line_of text))) text).0 parts.0)))

pub bad_here : (bytes : List ℕ) (n : ℕ) (p q : Progress) (rest text more : List ℕ) → IsSoFar bytes n p rest → rest ≡ text ++ 10 ∷ more → lacks 10 text ≡ true
    → ((r : Reading) → IsHeld p r → Steps r text false q) → StopsAt bytes n rest
bad_here bytes n p q rest text more (r, held, decides) e clean steps =
    let cuts : split_at 10 rest ≡ text ∷ split_at 10 more = ap (split_at 10) e ∙ split_at-lacks 10 text more clean in
    let refused = untried r text (steps r held) (is_line r text (line_of text)) refl in
    reads-bad bytes n rest (decides ∙ ap (outcome n r) cuts ∙ outcome_bad n r text (split_at 10 more) (split_at-full 10 more) refused
    ∙ ap (Bad n) (ap joined (sym cuts) ∙ joined-split_at rest))

at_end : (n : ℕ) (r : Reading) (rest : List ℕ) (b : Bool) → (bytes_eq rest [] && is_ended r) ≡ b → lacks 10 rest ≡ true → outcome n r (split_at 10 rest) ≡ (if b then Whole r else Bad n rest)
at_end n r rest b e clean = ap (outcome n r) (split_at-whole 10 rest clean) ∙ ap (λ (c : Bool). if c then Whole r else Bad n rest) e

pub bad_end : (bytes : List ℕ) (n : ℕ) (p : Progress) (rest : List ℕ) → IsSoFar bytes n p rest → lacks 10 rest ≡ true → (rest ≡ [] → p.rank ≢ 12) → StopsAt bytes n rest
bad_end bytes n p rest (r, held, decides) clean unfinished = reads-bad bytes n rest (decides ∙ at_end n r rest false (tested (bytes_eq rest []) refl) clean)
  where
    tested : (b : Bool) → bytes_eq rest [] ≡ b → (b && is_ended r) ≡ false
    tested false e = refl
    tested true e = ne_eqb r.rank 12 (λ ended. unfinished ((bytes_eq-Decides rest []).0 e) (held.rank ∙ ended))

pub whole : (bytes : List ℕ) (n : ℕ) (p : Progress) (rest : List ℕ) → IsSoFar bytes n p rest → rest ≡ [] → p.rank ≡ 12 → (r : Reading) × IsTraceOf bytes r × IsHeld p r
whole bytes n p rest (r, held, decides) e ended =
    let all : (bytes_eq rest [] && is_ended r) ≡ true = and_from (bytes_eq rest []) (is_ended r) ((bytes_eq-Decides rest []).1 e) (eq-eqb r.rank 12 (sym held.rank ∙ ended)) in
    (r, reads-whole bytes r (decides ∙ at_end n r rest true all (subst (λ t. lacks 10 t ≡ true) (sym e) refl)), held)

pub at_start : (bytes : List ℕ) (p : Progress) → IsHeld p unread → IsSoFar bytes 1 p bytes
at_start bytes p held = (unread, held, refl)

-- before the first line
pub record IsAtFirst (p : Progress) : Type 0 where
  pub rank : p.rank ≡ 0
  pub space : p.space ≡ 0
  pub frames : p.frames ≡ 1024
  pub lazy : p.lazy ≡ 8192
  pub block_pages : p.block_pages ≡ 128
  pub part_limit : p.part_limit ≡ 64
  pub unit_pages : p.unit_pages ≡ 8
  pub atom : p.atom ≡ 1
  pub groups : p.groups.items ≡ []
  pub cpus : p.cpus ≡ 0
  pub callers : p.callers ≡ 1
  pub counters : p.counters ≡ 0
  pub batch : p.batch ≡ 32
  pub caller : p.caller ≡ 0
  pub names : (name : List ℕ) → place_of p.names name ≡ None
  pub calls : p.calls.items ≡ []
  pub closed : p.closed.items ≡ []
  pub counts : p.counts.items ≡ []
  pub lines : p.lines ≡ 0
  pub picks : p.picks.items ≡ []

pub held_at_first : (p : Progress) → IsAtFirst p → IsHeld p unread
held_at_first p first = record {
  rank = first.rank;
  header = let space = first.space in let frames = first.frames in let lazy = first.lazy in let block_pages = first.block_pages in let part_limit = first.part_limit in let unit_pages = first.unit_pages in let atom = first.atom in let groups = first.groups in let callers = first.callers in let counters = first.counters in let batch = first.batch in cc;
  cpus = first.cpus;
  caller = first.caller;
  among = omega arith;
  opening = λ early. refl;
  closed = first.closed;
  calls = first.calls;
  uncalled = λ caller above. refl;
  count = first.lines;
  counts = first.counts;
  picks = first.picks;
  names = λ name. rw (first.names name) refl;
  opening_names = λ opened. absurd (omega arith);
  named = tt;
  sized = refl;
  unnamed = λ caller name above. refl;
}

-- a text that stops at a line has it as its first bad one
pub first_bad : (bytes : List ℕ) (n line : ℕ) (rest : List ℕ) → StopsAt bytes n rest → n ≡ line → IsFirstBadLine bytes line
first_bad bytes n line rest stops same = (rest, subst (λ k. StopsAt bytes k rest) same stops)

-- what a reader of one text says holds of a line that is this text, where it may have met no memory
pub steps_if_ok : {E : Type 0} (text line : List ℕ) (result : Result Bool E) (p q : Progress) → text ≡ line
    → IfOk result (λ stood. (r : Reading) → IsHeld p r → Steps r text stood q) → IfOk result (λ stood. (r : Reading) → IsHeld p r → Steps r line stood q)
steps_if_ok {E = E} text line (Ok stood) p q e steps = λ r held. subst (λ t. Steps r t stood q) e (steps r held)
steps_if_ok {E = E} text line (Err failed) p q e steps = steps

-- and where it reads lines with some words alone
pub steps_in : (words : List ℕ → Bool) (r : Reading) (text line : List ℕ) (b : Bool) (p : Progress) → text ≡ line → Steps r text b p → StepsIn words r line b p
steps_in words r text line true p e steps = subst (λ t. Steps r t true p) e steps
steps_in words r text line false p e none = λ l known s f. none l s (e ∙ f)

pub steps_in_if_ok : {E : Type 0} (words : List ℕ → Bool) (text line : List ℕ) (result : Result Bool E) (p q : Progress) → text ≡ line
    → IfOk result (λ stood. (r : Reading) → IsHeld p r → Steps r text stood q) → IfOk result (λ stood. (r : Reading) → IsHeld p r → StepsIn words r line stood q)
steps_in_if_ok {E = E} words text line (Ok stood) p q e steps = λ r held. steps_in words r text line stood q e (steps r held)
steps_in_if_ok {E = E} words text line (Err failed) p q e steps = steps
