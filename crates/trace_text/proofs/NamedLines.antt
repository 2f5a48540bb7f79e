-- Lines of a word, a new name and two numbers: where they stand.
use Rattle.std.proofs.Common.{◌≡◌, ◌≤◌, ◌∙◌, ℕ, nat_lt, Bool, true, false, ◌&&◌, List, [], ◌∷◌, ◌++◌, refl, ap, sym, arith, codes, decimal, subst}
use Rattle.std.proofs.lemmas.Bool.{and_parts, and_from}
use Rattle.std.proofs.lemmas.Bool.Decides.{nat_tests}
use Rattle.vm_model.specs.declared.calls.Call.{Call}
use Rattle.vm_model.specs.declared.calls.Call.TheVariants as call
use Rattle.trace_text.specs.declared.progress.Progress.{Progress}
use Rattle.vm_model.specs.Words.{is_name, is_number, fields}
use Rattle.trace_text.specs.SpelledLines.{Line, Vmalloc, MapRam, AllocPercpu, AllocAtomic, spelled}
use Rattle.trace_text.specs.Reading.{Reading, with_name}
use Rattle.trace_text.specs.Grammar.{may_stand, follows, has_room, is_cpu, is_new, read}
use Rattle.trace_text.specs.HeldLines.{IsHeld, Steps, has_place}
use Rattle.trace_text.proofs.Split.{is_clean, split_at, lacks-clean, same_cut}
use Rattle.trace_text.proofs.Guess.{guess, number, nth, clean-name}
use Rattle.trace_text.proofs.Exclusive.{spelt_in}
use Rattle.trace_text.proofs.PairLines.{same_pair}
use Rattle.trace_text.proofs.LinesByWord.{line_by_word, behind}

abbrev is_spelt_named : List ℕ → ℕ → ℕ → Bool
is_spelt_named name a b = is_name name && is_number a && is_number b

-- lines that are this word, a name and two numbers, where they may stand, and what they ask
pub record AreNamedLines (r : Reading) (word : List ℕ) (make : List ℕ → ℕ → ℕ → Line) (ask : ℕ → ℕ → Call) (rule : ℕ → Bool) : Type 0 where
  pub clean : is_clean word ≡ true
  pub guessed : (fs : List (List ℕ)) → guess (word ∷ fs) ≡ make (nth 0 fs) (number (nth 1 fs)) (number (nth 2 fs))
  pub spells : (name : List ℕ) (a b : ℕ) → spelled (make name a b) ≡ word ∷ name ∷ decimal a ∷ decimal b ∷ []
  pub stands : (name : List ℕ) (a b : ℕ) → may_stand r (make name a b) ≡ (is_spelt_named name a b && follows r.rank 10 && (is_new r name && (rule a && has_room r)))
  pub reads : (name : List ℕ) (a b : ℕ) → read r (make name a b) ≡ record (with_name r name (ask a b)) { rank = 10 }

pub vmalloc_lines : (r : Reading) → AreNamedLines r (codes "vmalloc") Vmalloc call.Vmalloc (λ bytes. true)
vmalloc_lines r = record { clean = refl; guessed = λ fs. refl; spells = λ name a b. refl; stands = λ name a b. refl; reads = λ name a b. refl }

pub and_assoc : (a b c : Bool) → (a && b && c) ≡ (a && (b && c))
and_assoc true b c = refl
and_assoc false b c = refl

pub no_cpu : (cpu count : ℕ) → nat_lt cpu count ≡ true → count ≤ cpu → ⊥
no_cpu cpu count h high = grind (arith, nat_tests)

pub map_ram_lines : (r : Reading) → AreNamedLines r (codes "map_ram") MapRam call.MapRam (is_cpu r)
map_ram_lines r = record {
  clean = refl;
  guessed = λ fs. refl;
  spells = λ name a b. refl;
  stands = λ name a b. ap (λ rules. is_spelt_named name a b && follows r.rank 10 && rules) (and_assoc (is_new r name) (is_cpu r a) (has_room r));
  reads = λ name a b. refl;
}

pub alloc_percpu_lines : (r : Reading) → AreNamedLines r (codes "alloc_percpu") AllocPercpu call.AllocPercpu (λ bytes. true)
alloc_percpu_lines r = record { clean = refl; guessed = λ fs. refl; spells = λ name a b. refl; stands = λ name a b. refl; reads = λ name a b. refl }

pub alloc_atomic_lines : (r : Reading) → AreNamedLines r (codes "alloc_atomic") AllocAtomic call.AllocAtomic (λ bytes. true)
alloc_atomic_lines r = record { clean = refl; guessed = λ fs. refl; spells = λ name a b. refl; stands = λ name a b. refl; reads = λ name a b. refl }

-- a text that is a name and two numbers
pub record IsNamedText (text name : List ℕ) (a b : ℕ) : Type 0 where
  pub named : is_name name ≡ true
  pub first : is_number a ≡ true
  pub second : is_number b ≡ true
  pub spells : text ≡ fields (name ∷ decimal a ∷ decimal b ∷ [])

pub is_named_text : (text name : List ℕ) (a b : ℕ) → (is_name name ≡ true) × (is_number a ≡ true) × (is_number b ≡ true) × (text ≡ fields (name ∷ decimal a ∷ decimal b ∷ [])) → IsNamedText text name a b
is_named_text text name a b h = record { named = h.0; first = h.1; second = h.2; spells = h.3 }

same_name : (text m n : List ℕ) (a b d e : ℕ) → IsNamedText text m a b → IsNamedText text n d e → (m ≡ n) × (a ≡ d)
same_name text m n a b d e f g =
    let parts = same_cut 32 m n (decimal a ++ 32 ∷ decimal b) (decimal d ++ 32 ∷ decimal e) (lacks-clean 32 m (omega arith) (clean-name m f.named)) (lacks-clean 32 n (omega arith) (clean-name n g.named)) (sym f.spells ∙ g.spells) in
    (parts.0, (same_pair (decimal a ++ 32 ∷ decimal b) a b d e f.first f.second g.first g.second refl parts.1).0)

-- no such line has this text, which is no name and numbers that may stand
named_stuck : (q : Progress) (r : Reading) (word text : List ℕ) (make : List ℕ → ℕ → ℕ → Line) (ask : ℕ → ℕ → Call) (rule : ℕ → Bool) → AreNamedLines r word make ask rule
    → ((name : List ℕ) (a b : ℕ) → IsNamedText text name a b → has_place r ≡ true → is_new r name ≡ true → rule a ≡ true → ⊥) → Steps r (word ++ 32 ∷ text) false q
named_stuck q r word text make ask rule lines none = λ l s e.
    let name = nth 0 (split_at 32 text) in
    let a = number (nth 1 (split_at 32 text)) in
    let b = number (nth 2 (split_at 32 text)) in
    let made : l ≡ make name a b = line_by_word l word text (spelt_in r l s) lines.clean e ∙ lines.guessed (split_at 32 text) in
    let stood = sym (lines.stands name a b) ∙ subst (λ (m : Line). may_stand r m ≡ true) made s in
    let rules = and_parts (is_spelt_named name a b && follows r.rank 10) (is_new r name && (rule a && has_room r)) stood in
    let place = and_parts (is_spelt_named name a b) (follows r.rank 10) rules.0 in
    let second = and_parts (is_name name && is_number a) (is_number b) place.0 in
    let first = and_parts (is_name name) (is_number a) second.0 in
    let new = and_parts (is_new r name) (rule a && has_room r) rules.1 in
    let room = and_parts (rule a) (has_room r) new.1 in
    none name a b
    (record { named = first.0; first = first.1; second = second.1; spells = behind word text (fields (name ∷ decimal a ∷ decimal b ∷ [])) (e ∙ ap (λ (m : Line). fields (spelled m)) made ∙ ap fields (lines.spells name a b)) })
    (and_from (follows r.rank 10) (has_room r) place.1 room.1) new.0 room.0

-- nor one that is no name and numbers
pub no_named_text : (q : Progress) (r : Reading) (word text : List ℕ) (make : List ℕ → ℕ → ℕ → Line) (ask : ℕ → ℕ → Call) (rule : ℕ → Bool) → AreNamedLines r word make ask rule
    → ((name : List ℕ) (a b : ℕ) → is_name name ≡ true → is_number a ≡ true → is_number b ≡ true → text ≡ fields (name ∷ decimal a ∷ decimal b ∷ []) → ⊥) → Steps r (word ++ 32 ∷ text) false q
no_named_text q r word text make ask rule lines none = named_stuck q r word text make ask rule lines (λ name a b is place new rules. none name a b is.named is.first is.second is.spells)

-- nor one that is this name and these numbers, where they may not stand
pub named_refused : (q : Progress) (r : Reading) (word text : List ℕ) (make : List ℕ → ℕ → ℕ → Line) (ask : ℕ → ℕ → Call) (rule : ℕ → Bool) (name : List ℕ) (a b : ℕ) → AreNamedLines r word make ask rule → IsNamedText text name a b
    → (has_place r ≡ true → is_new r name ≡ true → rule a ≡ true → ⊥) → Steps r (word ++ 32 ∷ text) false q
named_refused q r word text make ask rule name a b lines is none =
    named_stuck q r word text make ask rule lines (λ other m n named place new rules.
    let same = same_name text other name m n a b named is in
    none place (subst (λ o. is_new r o ≡ true) same.0 new) (subst (λ i. rule i ≡ true) same.1 rules))

-- one that is a name and numbers which may stand does
pub named_stands : (q : Progress) (r : Reading) (word text : List ℕ) (make : List ℕ → ℕ → ℕ → Line) (ask : ℕ → ℕ → Call) (rule : ℕ → Bool) (name : List ℕ) (a b : ℕ) → AreNamedLines r word make ask rule → IsNamedText text name a b
    → has_place r ≡ true → is_new r name ≡ true → rule a ≡ true → IsHeld q (record (with_name r name (ask a b)) { rank = 10 }) → Steps r (word ++ 32 ∷ text) true q
named_stands q r word text make ask rule name a b lines is place new rules held =
    let parts = and_parts (follows r.rank 10) (has_room r) place in (
      make name a b,
      ap (λ t. word ++ 32 ∷ t) is.spells ∙ ap fields (sym (lines.spells name a b)),
      lines.stands name a b
          ∙ and_from (is_spelt_named name a b && follows r.rank 10) (is_new r name && (rule a && has_room r))
          (and_from (is_spelt_named name a b) (follows r.rank 10) (and_from (is_name name && is_number a) (is_number b) (and_from (is_name name) (is_number a) is.named is.first) is.second) parts.0)
          (and_from (is_new r name) (rule a && has_room r) new (and_from (rule a) (has_room r) rules parts.1)),
      subst (λ (s : Reading). IsHeld q s) (sym (lines.reads name a b)) held,
    )
