-- Where an order line stands, and what is held after it.
use Rattle.std.proofs.Common.{◌≡◌, ◌∙◌, ℕ, ◌<◌, ◌≤◌, ◌^◌, true, false, ◌&&◌, List, [], ◌∷◌, ◌++◌, length, map, refl, ap, sym, arith, codes, decimal, subst}
use Rattle.std.proofs.lemmas.Bool.{and_parts, and_from}
use Rattle.std.proofs.lemmas.Bool.Decides.{nat_tests}
use Rattle.std.specs.List.{list_all}
use Rattle.trace_text.specs.declared.progress.Progress.{Progress}
use Rattle.vm_model.specs.Words.{fields, within, is_number}
use Rattle.trace_text.specs.SpelledLines.{Line, Order, spelled}
use Rattle.trace_text.specs.Reading.{Reading, Header}
use Rattle.trace_text.specs.Grammar.{may_stand, follows}
use Rattle.trace_text.specs.HeldLines.{IsHeld, Steps, ArePicks, AddsPicks}
use Rattle.trace_text.proofs.Split.{split_at}
use Rattle.trace_text.proofs.Guess.{number}
use Rattle.trace_text.proofs.Exclusive.{spelt_in}
use Rattle.trace_text.proofs.LinesByWord.{line_by_word, behind}
use Rattle.trace_text.proofs.PickProofs.{picks_are_numbers}

order_at : (rank : ℕ) → follows rank 11 ≡ true → (2 ≤ rank) × (rank ≤ 11)
order_at rank h = grind (arith, nat_tests)

follows_calls : (rank : ℕ) → 2 ≤ rank → rank ≤ 11 → follows rank 11 ≡ true
follows_calls rank low high = grind (arith, nat_tests)

-- the fields behind the word, where there is one
behind_order : (picks text : List ℕ) → codes "order " ++ text ≡ fields (codes "order" ∷ map decimal picks) → text ≡ fields (map decimal picks)
behind_order [] text e = cc
behind_order (n ∷ picks) text e = behind (codes "order") text (fields (map decimal (n ∷ picks))) e

order_text : (picks : List ℕ) → within 1 64 (length picks) ≡ true → codes "order " ++ fields (map decimal picks) ≡ fields (codes "order" ∷ map decimal picks)
order_text [] h = cc
order_text (n ∷ picks) h = refl

pub order_stuck : (p q : Progress) (r : Reading) (text : List ℕ) → IsHeld p r → (2 ≤ p.rank → p.rank ≤ 11 → (picks : List ℕ) → ArePicks p.callers text picks → ⊥) → Steps r (codes "order " ++ text) false q
order_stuck p q r text held none = λ l s e.
    let picks = map number (split_at 32 text) in
    let made : l ≡ Order picks = line_by_word l (codes "order") text (spelt_in r l s) refl e in
    let stood : may_stand r (Order picks) ≡ true = subst (λ (m : Line). may_stand r m ≡ true) made s in
    let a = and_parts (list_all is_number picks && follows r.rank 11) (within 1 64 (length picks) && list_all (within 1 r.header.callers) picks) stood in
    let b = and_parts (list_all is_number picks) (follows r.rank 11) a.0 in
    let rules = and_parts (within 1 64 (length picks)) (list_all (within 1 r.header.callers) picks) a.1 in
    let at = order_at r.rank b.1 in
    let same = held.rank in
    let callers : r.header.callers ≡ p.callers = ap (λ (header : Header). header.callers) held.header in
    none (omega arith) (omega arith) picks
    (record {
      spells = behind_order picks text (e ∙ ap (λ (m : Line). fields (spelled m)) made);
      count = rules.0;
      each = subst (λ k. list_all (within 1 k) picks ≡ true) callers rules.1;
    })

pub order_stands : (p q : Progress) (r : Reading) (text : List ℕ) → IsHeld p r → p.callers < 2 ^ 16 → 2 ≤ p.rank → p.rank ≤ 11 → AddsPicks p.callers text true p.picks.items q.picks.items
    → Steps r (codes "order " ++ text) true (record p { rank = 11; picks = q.picks })
order_stands p q r text held small after before (picks, are, put) =
    let same = held.rank in
    let callers : p.callers ≡ r.header.callers = ap (λ (header : Header). header.callers) (sym held.header) in
    let each : list_all (within 1 r.header.callers) picks ≡ true = subst (λ k. list_all (within 1 k) picks ≡ true) callers are.each in (
      Order picks,
      ap (λ t. codes "order " ++ t) are.spells ∙ order_text picks are.count,
      and_from (list_all is_number picks && follows r.rank 11) (within 1 64 (length picks) && list_all (within 1 r.header.callers) picks)
          (and_from (list_all is_number picks) (follows r.rank 11) (picks_are_numbers p.callers picks small are.each) (follows_calls r.rank (omega arith) (omega arith)))
          (and_from (within 1 64 (length picks)) (list_all (within 1 r.header.callers) picks) are.count each),
      record {
        rank = refl;
        header = held.header;
        cpus = held.cpus;
        caller = held.caller;
        among = held.among;
        opening = λ early. absurd (omega arith);
        closed = held.closed;
        calls = held.calls;
        uncalled = held.uncalled;
        count = held.count;
        counts = held.counts;
        picks = put ∙ ap (λ ps. ps ++ picks) held.picks;
        names = held.names;
        opening_names = held.opening_names;
        named = held.named;
        sized = held.sized;
        unnamed = held.unnamed;
      },
    )
