-- Where a caller line stands, and what is held after it.
use Rattle.std.proofs.Common.{◌≡◌, ◌∙◌, ℕ, suc, None, ◌-◌, ◌<◌, ◌≤◌, true, false, nat_lt, nat_le, ◌&&◌, List, [], ◌∷◌, ◌++◌, replicate, refl, ap, sym, arith, codes, decimal, ◌⊎◌, inl, inr, ◌==◌, if◌then◌else◌}
use Rattle.std.proofs.lemmas.Bool.{eq-eqb, ne_eqb, cases_eq}
use Rattle.std.proofs.lemmas.Bool.Decides.{nat_tests}
use Rattle.std.specs.Option.{option_map}
use Rattle.trace_text.specs.declared.progress.Progress.{Progress}
use Rattle.vm_model.specs.Words.{is_number}
use Rattle.trace_text.specs.SpelledLines.{Caller}
use Rattle.trace_text.specs.Reading.{Reading, Header, Named, find_name}
use Rattle.trace_text.specs.Names.{place_of}
use Rattle.trace_text.specs.HeldLines.{IsHeld, Steps, header_of, sections_below}
use Rattle.trace_text.proofs.NamedCalls.{ranks, follows_held, none_is}
use Rattle.trace_text.proofs.NumberLines.{caller_lines, number_refused, number_stands}
use Rattle.trace_text.proofs.SectionCalls.{held_sections}

is_next : (caller n callers : ℕ) → (nat_lt caller n && nat_le n callers) ≡ true → (caller < n) × (n ≤ callers)
is_next caller n callers h = grind (arith, nat_tests)

next_is : (caller n callers : ℕ) → caller < n → n ≤ callers → (nat_lt caller n && nat_le n callers) ≡ true
next_is caller n callers h k = grind (arith, nat_tests)

pub caller_refused : (p q : Progress) (r : Reading) (text : List ℕ) (n : ℕ) → IsHeld p r → is_number n ≡ true → text ≡ decimal n → (2 ≤ p.rank → p.rank ≤ 10 → p.caller < n → n ≤ p.callers → ⊥) → Steps r (codes "caller " ++ text) false q
caller_refused p q r text n held wide e none =
    number_refused q r (codes "caller") text Caller 10 _ n (caller_lines r) wide e (λ place rules.
    let next = is_next r.caller n r.header.callers rules in
    let at = ranks r.rank place in
    let rank = held.rank in
    let caller = held.caller in
    let callers : r.header.callers ≡ p.callers = ap (λ (header : Header). header.callers) held.header in
    none (omega arith) (omega arith) (omega arith) (omega arith))

-- p with the open section ended, and the section of a caller begun
pub record Opens (p q : Progress) (n : ℕ) : Type 0 where
  pub rank : q.rank ≡ 10
  pub header : header_of q ≡ header_of p
  pub cpus : q.cpus ≡ p.cpus
  pub caller : q.caller ≡ n
  pub names : (name : List ℕ) → place_of q.names name ≡ None
  pub opening_names : q.opening_names ≡ (if p.caller == 0 then p.names else p.opening_names)
  pub calls : q.calls.items ≡ []
  pub closed : q.closed.items ≡ p.closed.items ++ p.calls.items ∷ replicate (n - 1 - p.caller) []
  pub counts : q.counts.items ≡ p.counts.items
  pub lines : q.lines ≡ p.lines
  pub picks : q.picks.items ≡ p.picks.items

-- the names of the opening are those of the section that ends, or were kept before
kept_names : (p : Progress) (r : Reading) → IsHeld p r → (name : List ℕ) → (p.caller ≡ 0) ⊎ (p.caller ≡ 0 → ⊥)
    → option_map (λ place. suc place) (place_of (if p.caller == 0 then p.names else p.opening_names) name) ≡ option_map (λ (n : Named). n.number) (find_name r 0 name)
kept_names p r held name (inl e) = let here : r.caller ≡ 0 = sym held.caller ∙ e in rw (eq-eqb p.caller 0 e) (held.names name ∙ ap (λ k. option_map (λ (n : Named). n.number) (find_name r k name)) here)
kept_names p r held name (inr e) = let same = held.caller in rw (ne_eqb p.caller 0 e) (held.opening_names (omega arith) name)

held_after_caller : (p q : Progress) (r : Reading) (n : ℕ) → IsHeld p r → Opens p q n → r.caller < n → n ≤ r.header.callers → IsHeld q (record r { rank = 10; caller = n })
held_after_caller p q r n held opens above among = record {
  rank = opens.rank;
  header = held.header ∙ sym opens.header;
  cpus = opens.cpus ∙ held.cpus;
  caller = opens.caller;
  among = among;
  opening = λ early. absurd (omega arith);
  closed =
      let place : suc (n - 1) ≡ n = omega arith in
      opens.closed ∙ held_sections p r (n - 1) held (omega arith) ∙ ap (λ k. sections_below k r.calls) place;
  calls = opens.calls ∙ sym (held.uncalled n above);
  uncalled = λ caller beyond. held.uncalled caller (omega arith);
  count = opens.lines ∙ held.count;
  counts = opens.counts ∙ held.counts;
  picks = opens.picks ∙ held.picks;
  names = λ name. rw (opens.names name, none_is (find_name r n name) (held.unnamed n name above)) refl;
  opening_names = λ opened name. ap (λ places. option_map (λ place. suc place) (place_of places name)) opens.opening_names ∙ kept_names p r held name (cases_eq p.caller 0);
  named = held.named;
  sized = held.sized;
  unnamed = λ caller name beyond. held.unnamed caller name (omega arith);
}

pub caller_stands : (p q : Progress) (r : Reading) (text : List ℕ) (n : ℕ) → IsHeld p r → is_number n ≡ true → text ≡ decimal n → 2 ≤ p.rank → p.rank ≤ 10 → p.caller < n → n ≤ p.callers → Opens p q n
    → Steps r (codes "caller " ++ text) true q
caller_stands p q r text n held wide e after before above among opens =
    let caller = held.caller in
    let callers : r.header.callers ≡ p.callers = ap (λ (header : Header). header.callers) held.header in
    number_stands q r (codes "caller") text Caller 10 _ n (caller_lines r) wide e (follows_held p r held after before) (next_is r.caller n r.header.callers (omega arith) (omega arith))
    (held_after_caller p q r n held opens (omega arith) (omega arith))
