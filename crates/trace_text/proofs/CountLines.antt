-- Where a count line stands, and what is held after it.
use Rattle.std.proofs.Common.{◌≡◌, ◌∙◌, ℕ, ◌+◌, ◌≤◌, true, false, ◌&&◌, nat_lt, List, [], ◌∷◌, ◌++◌, length, refl, ap, sym, arith, codes, decimal, ℤ, subst, length-append}
use Rattle.std.proofs.lemmas.Bool.{and_parts, and_from}
use Rattle.std.specs.Fmt.{signed_decimal}
use Rattle.vm_model.specs.declared.calls.CountLine.{CountLine}
use Rattle.vm_model.specs.Words.{fields, is_number, is_amount}
use Rattle.trace_text.specs.declared.progress.Progress.{Progress}
use Rattle.trace_text.specs.SpelledLines.{Line, Count, spelled}
use Rattle.trace_text.specs.Reading.{Reading, calls_before}
use Rattle.trace_text.specs.Grammar.{may_stand, follows, has_room, is_cpu}
use Rattle.trace_text.specs.HeldLines.{IsHeld, Steps, has_place}
use Rattle.trace_text.proofs.Amounts.{same_pair_and_amount}
use Rattle.trace_text.proofs.Exclusive.{spelt_in}
use Rattle.trace_text.proofs.Guess.{amount, nth, number}
use Rattle.trace_text.proofs.Split.{split_at}
use Rattle.trace_text.proofs.LinesByWord.{line_by_word, behind}
use Rattle.trace_text.proofs.TargetCalls.{length-calls_of}

-- a text that is two numbers and an amount
pub record IsCountText (text : List ℕ) (counter cpu : ℕ) (amount : ℤ) : Type 0 where
  pub first : is_number counter ≡ true
  pub second : is_number cpu ≡ true
  pub last : is_amount amount ≡ true
  pub spells : text ≡ fields (decimal counter ∷ decimal cpu ∷ signed_decimal amount ∷ [])

-- no count line has this text, which is none that may stand
pub count_stuck : (q : Progress) (r : Reading) (text : List ℕ)
    → ((counter cpu : ℕ) (amount : ℤ) → IsCountText text counter cpu amount → has_place r ≡ true → nat_lt counter r.header.counters ≡ true → is_cpu r cpu ≡ true → ⊥) → Steps r (codes "count " ++ text) false q
count_stuck q r text none = λ l s e.
    let k = number (nth 0 (split_at 32 text)) in
    let cpu = number (nth 1 (split_at 32 text)) in
    let z = amount (nth 2 (split_at 32 text)) in
    let made : l ≡ Count k cpu z = line_by_word l (codes "count") text (spelt_in r l s) refl e in
    let stood : may_stand r (Count k cpu z) ≡ true = subst (λ (m : Line). may_stand r m ≡ true) made s in
    let rules = and_parts (is_number k && is_number cpu && is_amount z && follows r.rank 10) (nat_lt k r.header.counters && is_cpu r cpu && has_room r) stood in
    let place = and_parts (is_number k && is_number cpu && is_amount z) (follows r.rank 10) rules.0 in
    let spelt = and_parts (is_number k && is_number cpu) (is_amount z) place.0 in
    let numbers = and_parts (is_number k) (is_number cpu) spelt.0 in
    let room = and_parts (nat_lt k r.header.counters && is_cpu r cpu) (has_room r) rules.1 in
    let ranges = and_parts (nat_lt k r.header.counters) (is_cpu r cpu) room.0 in
    none k cpu z
    (record { first = numbers.0; second = numbers.1; last = spelt.1; spells = behind (codes "count") text (fields (decimal k ∷ decimal cpu ∷ signed_decimal z ∷ [])) (e ∙ ap (λ (m : Line). fields (spelled m)) made) })
    (and_from (follows r.rank 10) (has_room r) place.1 room.1) ranges.0 ranges.1

-- nor one with this text, where its counter or processor may not stand
pub count_refused : (q : Progress) (r : Reading) (text : List ℕ) (counter cpu : ℕ) (amount : ℤ) → IsCountText text counter cpu amount
    → (nat_lt counter r.header.counters ≡ true → is_cpu r cpu ≡ true → ⊥) → Steps r (codes "count " ++ text) false q
count_refused q r text counter cpu amount is none =
    count_stuck q r text (λ k n z other place below known.
    let same = same_pair_and_amount k n counter cpu z amount other.first other.second other.last is.first is.second is.last (sym other.spells ∙ is.spells) in
    none (subst (λ i. nat_lt i r.header.counters ≡ true) same.0 below) (subst (λ i. is_cpu r i ≡ true) same.1 known))

-- q has one more count line than p
pub record AddsCount (p q : Progress) (line : CountLine) : Type 0 where
  pub counts : q.counts.items ≡ p.counts.items ++ line ∷ []
  pub same : q ≡ record p { rank = 10; counts = q.counts; lines = p.lines + 1 }

-- what is held after one more count line
held_with_count : (p q : Progress) (r : Reading) (line : CountLine) → IsHeld p r → AddsCount p q line → IsHeld q (record r { rank = 10; counts = r.counts ++ line ∷ [] })
held_with_count p q r line held adds = subst (λ (p : Progress). IsHeld p (record r { rank = 10; counts = r.counts ++ line ∷ [] })) (sym adds.same) (record {
  rank = refl;
  header = held.header;
  cpus = held.cpus;
  caller = held.caller;
  among = held.among;
  opening = λ early. absurd (omega arith);
  closed = held.closed;
  calls = held.calls;
  uncalled = held.uncalled;
  count =
      let before = held.count in
      let more = length-append r.counts (line ∷ []) in
      omega arith;
  counts = adds.counts ∙ ap (λ lines. lines ++ line ∷ []) held.counts;
  picks = held.picks;
  names = held.names;
  opening_names = held.opening_names;
  named = held.named;
  sized = held.sized;
  unnamed = held.unnamed;
})

-- the calls of the open section are few
pub few_calls : (p : Progress) (r : Reading) → IsHeld p r → length p.calls.items ≤ p.lines
few_calls p r held =
    let calls = ap length held.calls in
    let few = length-calls_of r.caller r.calls in
    let count = held.count in
    omega arith

-- one that may stand does
pub count_stands : (p q : Progress) (r : Reading) (text : List ℕ) (counter cpu : ℕ) (amount : ℤ) → IsHeld p r → IsCountText text counter cpu amount → has_place r ≡ true → nat_lt counter r.header.counters ≡ true → is_cpu r cpu ≡ true
    → AddsCount p q (record { caller = p.caller; after = length p.calls.items; counter = counter; cpu = cpu; amount = amount }) → Steps r (codes "count " ++ text) true q
count_stands p q r text counter cpu amount held is place below known adds =
    let parts = and_parts (follows r.rank 10) (has_room r) place in
    let line : ℕ → ℕ → CountLine = λ caller after. record { caller = caller; after = after; counter = counter; cpu = cpu; amount = amount } in
    let told : line p.caller (length p.calls.items) ≡ line r.caller (calls_before r) = ap (λ caller. line caller (length p.calls.items)) held.caller ∙ ap (λ calls. line r.caller (length calls)) held.calls in (
      Count counter cpu amount,
      ap (λ t. codes "count " ++ t) is.spells,
      and_from (is_number counter && is_number cpu && is_amount amount && follows r.rank 10) (nat_lt counter r.header.counters && is_cpu r cpu && has_room r)
          (and_from (is_number counter && is_number cpu && is_amount amount) (follows r.rank 10) (and_from (is_number counter && is_number cpu) (is_amount amount) (and_from (is_number counter) (is_number cpu) is.first is.second) is.last) parts.0)
          (and_from (nat_lt counter r.header.counters && is_cpu r cpu) (has_room r) (and_from (nat_lt counter r.header.counters) (is_cpu r cpu) below known) parts.1),
      subst (λ l. IsHeld q (record r { rank = 10; counts = r.counts ++ l ∷ [] })) told (held_with_count p q r (line p.caller (length p.calls.items)) held adds),
    )
