-- Names as numbers: two names are two numbers of 64 bits, and a map of these numbers is one of names.
use Rattle.std.proofs.Common.{◌≡◌, ◌≢◌, ◌∙◌, ℕ, zero, suc, ◌+◌, ◌-◌, ◌*◌, ◌/◌, ◌%◌, ◌^◌, ◌<◌, ◌≤◌, ◌⊎◌, inl, inr, max, Bool, true, false, ◌||◌, ◌&&◌, ◌==◌, if◌then◌else◌, List, [], ◌∷◌, length, drop, get_or, replicate, slice_get, slice_set, refl, ap, sym, subst, not, is_some, arith, add-one, length-drop, drop-cons, Option, Some, None}
use Rattle.std.specs.List.{list_all}
use Rattle.std.specs.Str.{bytes_eq}
use Rattle.std.specs.BTreeMap.{BTreeMap, Updates, is_at}
use Rattle.std.specs.Ordering.{nat_cmp}
use Rattle.std.proofs.lemmas.Bool.{and_parts, cases_eq, eq-eqb, ne_eqb, false≢true, false_from_ne_true}
use Rattle.std.proofs.lemmas.Bool.Decides.{nat_tests}
use Rattle.std.proofs.lemmas.Grind.{pow_more}
use Rattle.std.proofs.lemmas.List.{length-set}
use Rattle.std.proofs.lemmas.Option.{slice_get-get_or}
use Rattle.std.proofs.Math.Nat.{mod-lt, pow-le-pow_right}
use Rattle.std.proofs.lemmas.Slice.Eq.{bytes_eq-Decides}
use Rattle.vm_model.proofs.Elements.{slice_get-set_same, slice_get-set_other}
use Rattle.vm_model.specs.Words.{is_letter, is_digit, is_name, begins_with_letter}
use Rattle.trace_text.specs.declared.names.Kept.{Kept}
use Rattle.trace_text.specs.Names.{symbol, number_of, slot_of, NameTable, IsTable, has_none, place_in_rest, place_by, place_at, place_of}

abbrev pub is_symbol : ℕ → Bool
is_symbol b = is_letter b || is_digit b

pub symbol_range : (b : ℕ) → is_symbol b ≡ true → (1 ≤ symbol b) × (symbol b ≤ 36)
symbol_range b h = by_test (is_letter b) refl h
  where
    by_test : (letter : Bool) → is_letter b ≡ letter → (letter || is_digit b) ≡ true → (1 ≤ (if letter then b - 96 else b - 21)) × ((if letter then b - 96 else b - 21) ≤ 36)
    by_test true e h = (grind (arith, nat_tests), grind (arith, nat_tests))
    by_test false e h = (grind (arith, nat_tests), grind (arith, nat_tests))

same_symbol : (b c : ℕ) → is_symbol b ≡ true → is_symbol c ≡ true → symbol b ≡ symbol c → b ≡ c
same_symbol b c h k e = by_tests (is_letter b) refl (is_letter c) refl h k e
  where
    by_tests : (x : Bool) → is_letter b ≡ x → (y : Bool) → is_letter c ≡ y → (x || is_digit b) ≡ true → (y || is_digit c) ≡ true
        → (if x then b - 96 else b - 21) ≡ (if y then c - 96 else c - 21) → b ≡ c
    by_tests true p true q h k e = grind (arith, nat_tests)
    by_tests true p false q h k e = grind (arith, nat_tests)
    by_tests false p true q h k e = grind (arith, nat_tests)
    by_tests false p false q h k e = grind (arith, nat_tests)

-- two texts of letters and digits are two numbers
same_number : (a b : List ℕ) → list_all is_symbol a ≡ true → list_all is_symbol b ≡ true → number_of a ≡ number_of b → a ≡ b
same_number [] [] h k e = refl
same_number [] (c ∷ b) h k e = let (low, high) = symbol_range c (and_parts (is_symbol c) (list_all is_symbol b) k).0 in absurd (omega arith)
same_number (c ∷ a) [] h k e = let (low, high) = symbol_range c (and_parts (is_symbol c) (list_all is_symbol a) h).0 in absurd (omega arith)
same_number (c ∷ a) (d ∷ b) h k e =
    let left = and_parts (is_symbol c) (list_all is_symbol a) h in
    let right = and_parts (is_symbol d) (list_all is_symbol b) k in
    let (low, high) = symbol_range c left.0 in
    let (lower, higher) = symbol_range d right.0 in
    let first : symbol c ≡ symbol d = omega arith in
    let rest : number_of a ≡ number_of b = omega arith in
    ap (λ x. x ∷ a) (same_symbol c d left.0 right.0 first) ∙ ap (λ xs. d ∷ xs) (same_number a b left.1 right.1 rest)

pub number_of-below : (name : List ℕ) → list_all is_symbol name ≡ true → number_of name < 37 ^ length name
number_of-below [] h = omega arith
number_of-below (b ∷ name) h =
    let parts = and_parts (is_symbol b) (list_all is_symbol name) h in
    let (low, high) = symbol_range b parts.0 in
    let below = number_of-below name parts.1 in
    let more : 37 ^ suc (length name) ≡ 37 ^ length name * 37 = ap (λ k. 37 ^ k) (sym (add-one (length name))) ∙ pow_more 37 (length name) in
    omega arith

all_dropped : (n : ℕ) (xs : List ℕ) → list_all is_symbol xs ≡ true → list_all is_symbol (drop n xs) ≡ true
all_dropped zero xs h = h
all_dropped (suc n) [] h = h
all_dropped (suc n) (x ∷ xs) h = all_dropped n xs (and_parts (is_symbol x) (list_all is_symbol xs) h).1

all_at : (xs : List ℕ) (i : ℕ) → list_all is_symbol xs ≡ true → i < length xs → is_symbol (get_or xs i 0) ≡ true
all_at [] i h within = absurd (omega arith)
all_at (x ∷ xs) zero h within = (and_parts (is_symbol x) (list_all is_symbol xs) h).0
all_at (x ∷ xs) (suc i) h within = all_at xs i (and_parts (is_symbol x) (list_all is_symbol xs) h).1 (omega arith)

-- what a name is made of
pub symbols_of : (name : List ℕ) → is_name name ≡ true → (list_all is_symbol name ≡ true) × (length name ≤ 12)
symbols_of name h =
    let parts = and_parts (begins_with_letter name && list_all is_symbol name) _ h in
    ((and_parts (begins_with_letter name) (list_all is_symbol name) parts.0).1, grind (arith, nat_tests, parts.1))

-- The number of a name, from its last byte to its first.

pub symbol_at : (name : List ℕ) (left : ℕ) → is_name name ≡ true → left < length name → is_symbol (get_or name left 0) ≡ true
symbol_at name left named within = all_at name left (symbols_of name named).0 within

-- a number of all but the first byte or more has room for one digit more
pub number-fits : (name : List ℕ) (left : ℕ) → is_name name ≡ true → 1 ≤ left → number_of (drop left name) < 177917621779460413
number-fits name left named some =
    let parts = symbols_of name named in
    let below = number_of-below (drop left name) (all_dropped left name parts.0) in
    let few : length (drop left name) ≤ 11 = let long = length-drop left name in let most = parts.1 in omega arith in
    let power : 37 ^ length (drop left name) ≤ 37 ^ 11 = pow-le-pow_right {n = 37} (omega arith) few in
    let whole : 37 ^ 11 ≡ 177917621779460413 = refl in
    omega arith

pub number-next : (name : List ℕ) (left : ℕ) → left < length name → number_of (drop left name) ≡ number_of (drop (left + 1) name) * 37 + symbol (get_or name left 0)
number-next name left within = ap number_of (drop-cons name left 0 within) ∙ ap (λ n. number_of (drop n name) * 37 + symbol (get_or name left 0)) (let e : suc left ≡ left + 1 = omega arith in e)

-- The slot of a number.

pub slot_of-is : (slots number : ℕ) → slot_of slots number ≡ number * 11400714819323198485 % 2 ^ 64 / 2 ^ 32 % max slots 1
unfolding slot_of
slot_of-is slots number = refl

pub slot_of-below : (slots number : ℕ) → 1 ≤ slots → slot_of slots number < slots
slot_of-below slots number some =
    let whole : max slots 1 ≡ slots = omega arith in
    let rest : number * 11400714819323198485 % 2 ^ 64 / 2 ^ 32 % max slots 1 < max slots 1 = mod-lt _ (omega arith) in
    let is = slot_of-is slots number in
    omega arith

abbrev pub table : List (Option Kept) → List (ℕ × ℕ) → NameTable
table slots rest = record { slots = slots; rest = rest }

abbrev pub slot_in : List (Option Kept) → ℕ → Option (Option Kept)
slot_in slots number = slice_get slots (slot_of (length slots) number)

-- names with the same bytes have the same number, and others have other ones
same_or_other : (name other : List ℕ) → is_name name ≡ true → is_name other ≡ true → ((bytes_eq name other ≡ true) × (number_of name ≡ number_of other)) ⊎ ((bytes_eq name other ≡ false) × (number_of name ≢ number_of other))
same_or_other name other named known = by_test (bytes_eq name other) refl
  where
    by_test : (b : Bool) → bytes_eq name other ≡ b → ((bytes_eq name other ≡ true) × (number_of name ≡ number_of other)) ⊎ ((bytes_eq name other ≡ false) × (number_of name ≢ number_of other))
    by_test true e = inl (e, ap number_of ((bytes_eq-Decides name other).0 e))
    by_test false e = inr (e, λ same. let equal = (bytes_eq-Decides name other).1 (same_number name other (symbols_of name named).0 (symbols_of other known).0 same) in false≢true (sym e ∙ equal))

-- what is put under the number of a name is put under the name
under_name : (t u : NameTable) (name : List ℕ) (place : ℕ) → is_name name ≡ true → place_at u (number_of name) ≡ Some place → ((number : ℕ) → number_of name ≢ number → place_at u number ≡ place_at t number) → (other : List ℕ)
    → place_of u other ≡ (if bytes_eq name other then Some place else place_of t other)
under_name t u name place named here others other = by_test (is_name other) refl
  where
    by_test : (b : Bool) → is_name other ≡ b → (if b then place_at u (number_of other) else None) ≡ (if bytes_eq name other then Some place else (if b then place_at t (number_of other) else None))
    by_test true known = elim (same_or_other name other named known) [
      | inl same ↦ ap (place_at u) (sym same.1) ∙ here ∙ sym (ap (λ b. if b then Some place else place_at t (number_of other)) same.0)
      | inr apart ↦ others (number_of other) apart.1 ∙ sym (ap (λ b. if b then Some place else place_at t (number_of other)) apart.0)
    ]
    by_test false unknown =
        let apart : bytes_eq name other ≡ false = false_from_ne_true (bytes_eq name other) (λ e. false≢true (sym unknown ∙ ap is_name (sym ((bytes_eq-Decides name other).0 e)) ∙ named)) in
        sym (ap (λ b. if b then Some place else None) apart)

-- A name that is put into its slot, which is empty.

abbrev with_slot : List (Option Kept) → ℕ → ℕ → List (Option Kept)
with_slot slots number place = slice_set slots (slot_of (length slots) number) (Some (record { number = number; place = place }))

own_slot : (slots : List (Option Kept)) (number place : ℕ) (old : Option Kept) → slot_in slots number ≡ Some old → slot_in (with_slot slots number place) number ≡ Some (Some (record { number = number; place = place }))
own_slot slots number place old e =
    ap (λ n. slice_get (with_slot slots number place) (slot_of n number)) (length-set slots (slot_of (length slots) number) _)
    ∙ slice_get-set_same slots (slot_of (length slots) number) (Some (record { number = number; place = place })) old e

other_slot : (slots : List (Option Kept)) (number place other : ℕ) → slot_of (length slots) number ≢ slot_of (length slots) other → slot_in (with_slot slots number place) other ≡ slot_in slots other
other_slot slots number place other apart =
    ap (λ n. slice_get (with_slot slots number place) (slot_of n other)) (length-set slots (slot_of (length slots) number) _)
    ∙ slice_get-set_other slots (slot_of (length slots) number) (slot_of (length slots) other) _ apart

same_or_apart : (x y : ℕ) → (x ≡ y) ⊎ (x ≢ y)
same_or_apart x y = cases_eq x y

at_here : (rest : List (ℕ × ℕ)) (number place : ℕ) → place_by rest number (Some (Some (record { number = number; place = place }))) ≡ Some place
at_here rest number place = ap (λ b. if b then Some place else place_in_rest rest number) (eq-eqb number number refl)

pub at_other : (rest : List (ℕ × ℕ)) (other : ℕ) (kept : Kept) → kept.number ≢ other → place_by rest other (Some (Some kept)) ≡ place_in_rest rest other
at_other rest other kept apart = ap (λ b. if b then Some kept.place else place_in_rest rest other) (ne_eqb kept.number other apart)

pub at_own : (rest : List (ℕ × ℕ)) (number : ℕ) (kept : Kept) → kept.number ≡ number → place_by rest number (Some (Some kept)) ≡ Some kept.place
at_own rest number kept same = ap (λ b. if b then Some kept.place else place_in_rest rest number) (eq-eqb kept.number number same)

empty_slot : (rest : List (ℕ × ℕ)) (number : ℕ) (o : Option (Option Kept)) → has_none o ≡ true → place_by rest number o ≡ None
empty_slot rest number None e = refl
empty_slot rest number (Some None) e = refl
empty_slot rest number (Some (Some kept)) e = absurd (false≢true e)

pub put_in_slot : (slots : List (Option Kept)) (rest : List (ℕ × ℕ)) (name : List ℕ) (place : ℕ) → IsTable (table slots rest) → is_name name ≡ true → slot_in slots (number_of name) ≡ Some None → (other : List ℕ)
    → place_of (table (with_slot slots (number_of name) place) rest) other ≡ (if bytes_eq name other then Some place else place_of (table slots rest) other)
put_in_slot slots rest name place is named empty =
    let number = number_of name in
    under_name (table slots rest) (table (with_slot slots number place) rest) name place named
    (ap (place_by rest number) (own_slot slots number place None empty) ∙ at_here rest number place)
    (λ other apart. elim (same_or_apart (slot_of (length slots) number) (slot_of (length slots) other)) [
      | inl same ↦
          let vacant : slot_in slots other ≡ Some None = ap (slice_get slots) (sym same) ∙ empty in
          let taken : slot_in (with_slot slots number place) other ≡ Some (Some (record { number = number; place = place })) =
          ap (slice_get (with_slot slots number place)) (ap (λ n. slot_of n other) (length-set slots (slot_of (length slots) number) _) ∙ sym same ∙ sym (ap (λ n. slot_of n number) (length-set slots (slot_of (length slots) number) _)))
          ∙ own_slot slots number place None empty in
          ap (place_by rest other) taken ∙ at_other rest other (record { number = number; place = place }) apart ∙ is other (ap has_none vacant) ∙ sym (ap (place_by rest other) vacant)
      | inr differ ↦ ap (place_by rest other) (other_slot slots number place other differ)
    ])

pub table_with_slot : (slots : List (Option Kept)) (rest : List (ℕ × ℕ)) (number place : ℕ) → IsTable (table slots rest) → slot_in slots number ≡ Some None → IsTable (table (with_slot slots number place) rest)
table_with_slot slots rest number place is empty other vacant = elim (same_or_apart (slot_of (length slots) number) (slot_of (length slots) other)) [
  | inl same ↦ is other (ap has_none (ap (slice_get slots) (sym same) ∙ empty))
  | inr differ ↦ is other (ap has_none (sym (other_slot slots number place other differ)) ∙ vacant)
]

-- A name whose slot another one has taken.

at_same : (n : ℕ) → is_at (nat_cmp n) n ≡ true
at_same n = grind (arith, nat_tests)

at_apart : (m n : ℕ) → m ≢ n → is_at (nat_cmp m) n ≡ false
at_apart m n apart = grind (arith, nat_tests)

pub put_in_rest : (slots : List (Option Kept)) (m n : BTreeMap ℕ ℕ) (name : List ℕ) (place : ℕ) (kept : Kept) → is_name name ≡ true → slot_in slots (number_of name) ≡ Some (Some kept) → kept.number ≢ number_of name
    → Updates nat_cmp m n (number_of name) (Some place) → (other : List ℕ) → place_of (table slots n.entries) other ≡ (if bytes_eq name other then Some place else place_of (table slots m.entries) other)
put_in_rest slots m n name place kept named taken apart updates =
    let number = number_of name in
    under_name (table slots m.entries) (table slots n.entries) name place named
    (ap (place_by n.entries number) taken ∙ at_other n.entries number kept apart ∙ updates.1)
    (λ other differ. by_slot (slot_in slots other) other (updates.2 other (at_apart number other differ)))
  where
    by_slot : (o : Option (Option Kept)) (other : ℕ) → place_in_rest n.entries other ≡ place_in_rest m.entries other → place_by n.entries other o ≡ place_by m.entries other o
    by_slot None other e = refl
    by_slot (Some None) other e = refl
    by_slot (Some (Some k)) other e = ap (λ o. if k.number == other then Some k.place else o) e

pub table_with_rest : (slots : List (Option Kept)) (m n : BTreeMap ℕ ℕ) (number place : ℕ) (kept : Kept) → IsTable (table slots m.entries) → slot_in slots number ≡ Some (Some kept) → Updates nat_cmp m n number (Some place) → IsTable (table slots n.entries)
table_with_rest slots m n number place kept is taken updates other vacant =
    let apart : number ≢ other = λ same. false≢true (sym (ap has_none (ap (slot_in slots) (sym same) ∙ taken)) ∙ vacant) in
    updates.2 other (at_apart number other apart) ∙ is other vacant

-- Slots that are made, and slots that are emptied.

pub all_vacant : (wanted : ℕ) (rest : List (ℕ × ℕ)) (name : List ℕ) → place_of (table (replicate wanted None) rest) name ≡ None
all_vacant wanted rest name = by_test (is_name name)
  where
    vacant : (n k : ℕ) → has_none (slice_get (replicate n None) k) ≡ true
    vacant zero k = refl
    vacant (suc n) zero = refl
    vacant (suc n) (suc k) = vacant n k

    by_test : (b : Bool) → (if b then place_at (table (replicate wanted None) rest) (number_of name) else None) ≡ None
    by_test true = empty_slot rest (number_of name) _ (vacant wanted _)
    by_test false = refl

none_known : (rest : List (ℕ × ℕ)) (name : List ℕ) → place_of (table [] rest) name ≡ None
none_known rest name = by_test (is_name name)
  where
    by_test : (b : Bool) → (if b then place_at (table [] rest) (number_of name) else None) ≡ None
    by_test true = refl
    by_test false = refl

-- slots that are made where there were none
pub made_slots : (old : NameTable) (slots : List (Option Kept)) (wanted : ℕ) → old.slots ≡ [] → slots ≡ replicate wanted None → (name : List ℕ) → place_of (record old { slots = slots }) name ≡ place_of old name
made_slots old slots wanted none made name =
    ap (λ (ss : List (Option Kept)). place_of (table ss old.rest) name) made ∙ all_vacant wanted old.rest name
    ∙ sym (none_known old.rest name) ∙ ap (λ (ss : List (Option Kept)). place_of (table ss old.rest) name) (sym none)

-- where no slot was there, no number was kept
pub none_kept : (rest : List (ℕ × ℕ)) → IsTable (table [] rest) → (number : ℕ) → place_in_rest rest number ≡ None
none_kept rest is number = is number refl

-- What the code reads and writes.

-- the slot that was read
pub read_slot : (slots : List (Option Kept)) (s len number other : ℕ) (read o : Option Kept) → s ≡ slot_of len number → len ≡ length slots → number ≡ other → 1 ≤ length slots → read ≡ get_or slots s read → read ≡ o
    → (s ≡ slot_of (length slots) other) × (s < length slots) × (slot_in slots other ≡ Some o)
read_slot slots s len number other read o e l same some is found =
    let at : s ≡ slot_of (length slots) other = e ∙ ap (λ n. slot_of n number) l ∙ ap (slot_of (length slots)) same in
    let within : s < length slots = let below = slot_of-below (length slots) other some in omega arith in
    (at, within, ap (slice_get slots) (sym at) ∙ slice_get-get_or slots s read within ∙ ap Some (sym is ∙ found))

-- whether the name was known
pub told : (t old : NameTable) (name : List ℕ) (o : Option ℕ) → is_name name ≡ true → place_of t name ≡ place_of old name → place_at t (number_of name) ≡ o → is_some o ≡ is_some (place_of old name)
told t old name o named same at = sym (ap is_some (sym same ∙ ap (λ b. if b then place_at t (number_of name) else None) named ∙ at))

pub flipped : (b s : Bool) → s ≡ not b → b ≡ not s
flipped true s e = sym (ap not e)
flipped false s e = sym (ap not e)

pub put_slot : (slots : List (Option Kept)) (rest : List (ℕ × ℕ)) (old : NameTable) (name : List ℕ) (place number s : ℕ) → IsTable (table slots rest) → is_name name ≡ true → number ≡ number_of name → s ≡ slot_of (length slots) (number_of name)
    → slot_in slots (number_of name) ≡ Some None → ((other : List ℕ) → place_of (table slots rest) other ≡ place_of old other) → (other : List ℕ)
    → place_of (table (slice_set slots s (Some (record { number = number; place = place }))) rest) other ≡ (if bytes_eq name other then Some place else place_of old other)
put_slot slots rest old name place number s is named e at empty same other =
    ap (λ m. place_of (table (slice_set slots s (Some (record { number = m; place = place }))) rest) other) e
    ∙ ap (λ k. place_of (table (slice_set slots k (Some (record { number = number_of name; place = place }))) rest) other) at
    ∙ put_in_slot slots rest name place is named empty other
    ∙ ap (λ o. if bytes_eq name other then Some place else o) (same other)

pub table_slot : (slots : List (Option Kept)) (rest : List (ℕ × ℕ)) (name : List ℕ) (place number s : ℕ) → IsTable (table slots rest) → number ≡ number_of name → s ≡ slot_of (length slots) (number_of name) → slot_in slots (number_of name) ≡ Some None
    → IsTable (table (slice_set slots s (Some (record { number = number; place = place }))) rest)
table_slot slots rest name place number s is e at empty =
    subst (λ m. IsTable (table (slice_set slots s (Some (record { number = m; place = place }))) rest)) (sym e)
    (subst (λ k. IsTable (table (slice_set slots k (Some (record { number = number_of name; place = place }))) rest)) (sym at) (table_with_slot slots rest (number_of name) place is empty))

pub no_slots : (slots : List (Option Kept)) → length slots ≡ 0 → slots ≡ []
no_slots [] e = refl
no_slots (k ∷ slots) e = absurd (omega arith)
