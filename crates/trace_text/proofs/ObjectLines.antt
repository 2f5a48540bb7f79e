-- Lines of per-CPU objects that name a target: where they stand.
use Rattle.std.proofs.Common.{◌≡◌, ◌∙◌, ℕ, ◌<◌, ◌^◌, Bool, true, false, not, ◌&&◌, List, [], ◌∷◌, ◌++◌, refl, ap, sym, arith, codes, decimal, ℤ, nat_lt}
use Rattle.std.proofs.lemmas.Bool.{and_parts, and_from}
use Rattle.std.proofs.lemmas.Bool.Decides.{nat_tests}
use Rattle.std.proofs.lemmas.Fmt.{decimal_injective}
use Rattle.std.specs.Fmt.{signed_decimal}
use Rattle.vm_model.specs.declared.calls.Call.{Call}
use Rattle.vm_model.specs.declared.calls.Call.TheVariants as call
use Rattle.vm_model.specs.Words.{fields, lacks, is_name, is_number, is_amount}
use Rattle.trace_text.specs.SpelledLines.{TargetName, FreePercpu, Add, Sum, is_spelt, target_text}
use Rattle.trace_text.specs.Reading.{Reading}
use Rattle.trace_text.specs.Grammar.{aims, follows, has_room, has_word, is_cpu, is_object, words_in}
use Rattle.trace_text.specs.declared.progress.Progress.{Progress}
use Rattle.trace_text.specs.HeldLines.{Steps, has_size}
use Rattle.trace_text.proofs.Split.{lacks-clean, same_cut}
use Rattle.trace_text.proofs.Guess.{amount, clean-target, nth, number, small}
use Rattle.trace_text.proofs.Amounts.{same_pair_and_amount}
use Rattle.trace_text.proofs.NamedLines.{and_assoc}
use Rattle.trace_text.proofs.TargetLines.{TargetWord, AreTargetLines, IsTargetText, no_target_text}

abbrev pub free_percpu_word : TargetWord (Unit {0})
free_percpu_word = record { word = codes "free_percpu"; make = λ t x. FreePercpu t; more = λ x. []; ask = λ to x. call.FreePercpu to; test = λ x. is_object; rule = λ r t x. not t.opening }

pub free_percpu_lines : (r : Reading) → AreTargetLines free_percpu_word r
free_percpu_lines r = record {
  clean = refl;
  from = λ fs. tt;
  guessed = λ fs. refl;
  spells = λ t x. refl;
  named = λ t x h. h;
  stands = λ t x. ap (λ rules. is_name t.name && follows r.rank 10 && rules) (and_assoc (not t.opening) (aims r is_object t) (has_room r));
  reads = λ t x. refl;
}

-- an index, and before it a processor and behind it an amount
pub record Added : Type 0 where
  pub cpu : ℕ
  pub index : ℕ
  pub amount : ℤ

abbrev pub add_word : TargetWord Added
add_word = record {
  word = codes "add";
  make = λ t x. Add t x.cpu x.index x.amount;
  more = λ x. decimal x.cpu ∷ decimal x.index ∷ signed_decimal x.amount ∷ [];
  ask = λ to x. call.Add to x.cpu x.index x.amount;
  test = λ x. has_word x.index;
  rule = λ r t x. is_cpu r x.cpu;
}

three_rules : (a b c : Bool) → (a && b && c) ≡ (b && (a && c))
three_rules true b c = refl
three_rules false true c = refl
three_rules false false c = refl

added_spelt : (t : TargetName) (x : Added) → is_spelt (Add t x.cpu x.index x.amount) ≡ true → (is_name t.name ≡ true) × (is_number x.cpu ≡ true) × (is_number x.index ≡ true) × (is_amount x.amount ≡ true)
added_spelt t x h =
    let a = and_parts (is_name t.name && is_number x.cpu && is_number x.index) (is_amount x.amount) h in
    let b = and_parts (is_name t.name && is_number x.cpu) (is_number x.index) a.0 in
    let d = and_parts (is_name t.name) (is_number x.cpu) b.0 in
    (d.0, d.1, b.1, a.1)

pub is_added : (t : TargetName) (x : Added) → is_name t.name ≡ true → is_number x.cpu ≡ true → is_number x.index ≡ true → is_amount x.amount ≡ true → is_spelt (Add t x.cpu x.index x.amount) ≡ true
is_added t x n h k a = and_from (is_name t.name && is_number x.cpu && is_number x.index) (is_amount x.amount) (and_from (is_name t.name && is_number x.cpu) (is_number x.index) (and_from (is_name t.name) (is_number x.cpu) n h) k) a

pub add_lines : (r : Reading) → AreTargetLines add_word r
add_lines r = record {
  clean = refl;
  from = λ fs. record { cpu = number (nth 1 fs); index = number (nth 2 fs); amount = amount (nth 3 fs) };
  guessed = λ fs. refl;
  spells = λ t x. refl;
  named = λ t x h. (added_spelt t x h).0;
  stands = λ t x. ap (λ rules. is_spelt (Add t x.cpu x.index x.amount) && follows r.rank 10 && rules) (three_rules (aims r (has_word x.index) t) (is_cpu r x.cpu) (has_room r));
  reads = λ t x. refl;
}

-- the fields behind a target are those behind any other text without spaces
behind_target : (aim more rest : List ℕ) (t : TargetName) → lacks 32 aim ≡ true → is_name t.name ≡ true → aim ++ 32 ∷ more ≡ target_text t ++ 32 ∷ rest → (aim ≡ target_text t) × (more ≡ rest)
behind_target aim more rest t clean named e = same_cut 32 aim (target_text t) more rest clean (lacks-clean 32 (target_text t) (omega arith) (clean-target t named)) e

same_added : (y x : Added) → y.cpu ≡ x.cpu → y.index ≡ x.index → y.amount ≡ x.amount → y ≡ x
same_added y x a b d =
    ap (λ k. record { cpu = k; index = y.index; amount = y.amount }) a ∙ ap (λ k. record { cpu = x.cpu; index = k; amount = y.amount }) b ∙ ap (λ z. record { cpu = x.cpu; index = x.index; amount = z }) d

pub add_text : (text aim : List ℕ) (x : Added) → lacks 32 aim ≡ true → is_number x.cpu ≡ true → is_number x.index ≡ true → is_amount x.amount ≡ true
    → text ≡ fields (aim ∷ decimal x.cpu ∷ decimal x.index ∷ signed_decimal x.amount ∷ []) → IsTargetText add_word text aim x
add_text text aim x clean cpu index size e = record {
  spells = e;
  only = λ t y spelt spells.
      let is = added_spelt t y spelt in
      let parts = behind_target aim _ _ t clean is.0 (sym e ∙ spells) in
      let same = same_pair_and_amount y.cpu y.index x.cpu x.index y.amount x.amount is.1 is.2 is.3 cpu index size (sym parts.1) in
      (parts.0, same_added y x same.0 same.1 same.2);
}

-- no line has a text that is no target, numbers and an amount
pub no_add_text : (q : Progress) (r : Reading) (text : List ℕ)
    → ((field : List ℕ) (a b : ℕ) (z : ℤ) → lacks 32 field ≡ true → is_number a ≡ true → is_number b ≡ true → is_amount z ≡ true → text ≡ fields (field ∷ decimal a ∷ decimal b ∷ signed_decimal z ∷ []) → ⊥) → Steps r (codes "add " ++ text) false q
no_add_text q r text none = no_target_text add_word q r text (add_lines r) (λ t x spelt spells.
    let is = added_spelt t x spelt in
    none (target_text t) x.cpu x.index x.amount (lacks-clean 32 (target_text t) (omega arith) (clean-target t is.0)) is.1 is.2 is.3 spells)

abbrev pub sum_word : TargetWord ℕ
sum_word = record { word = codes "sum"; make = Sum; more = λ index. decimal index ∷ []; ask = call.Sum; test = has_word; rule = λ r t index. true }

pub sum_lines : (r : Reading) → AreTargetLines sum_word r
sum_lines r = record {
  clean = refl;
  from = λ fs. number (nth 1 fs);
  guessed = λ fs. refl;
  spells = λ t index. refl;
  named = λ t index h. (and_parts (is_name t.name) (is_number index) h).0;
  stands = λ t index. refl;
  reads = λ t index. refl;
}

pub sum_text : (text aim : List ℕ) (index : ℕ) → lacks 32 aim ≡ true → is_number index ≡ true → text ≡ fields (aim ∷ decimal index ∷ []) → IsTargetText sum_word text aim index
sum_text text aim index clean wide e = record {
  spells = e;
  only = λ t k spelt spells.
      let is = and_parts (is_name t.name) (is_number k) spelt in
      let parts = behind_target aim (decimal index) (decimal k) t clean is.0 (sym e ∙ spells) in
      (parts.0, decimal_injective k index (small k is.1) (small index wide) (sym parts.1));
}

pub no_sum_text : (q : Progress) (r : Reading) (text : List ℕ) → ((field : List ℕ) (n : ℕ) → lacks 32 field ≡ true → is_number n ≡ true → text ≡ fields (field ∷ decimal n ∷ []) → ⊥) → Steps r (codes "sum " ++ text) false q
no_sum_text q r text none = no_target_text sum_word q r text (sum_lines r) (λ t index spelt spells.
    let is = and_parts (is_name t.name) (is_number index) spelt in
    none (target_text t) index (lacks-clean 32 (target_text t) (omega arith) (clean-target t is.0)) is.1 spells)

few : (bytes index : ℕ) → is_number bytes ≡ true → nat_lt index (words_in bytes) ≡ true → index < 2 ^ 32
few bytes index wide h = grind (arith, nat_tests)

-- the words of an object have numbers of 32 bits
pub small_index : (index : ℕ) (c : Call) → has_size c ≡ true → has_word index c ≡ true → index < 2 ^ 32
small_index index (call.AllocPercpu bytes align) size h = few bytes index size h
small_index index (call.AllocAtomic bytes align) size h = few bytes index size h
small_index index _ size h = cc
