-- The call that a target names.
use Rattle.std.proofs.Common.{◌≡◌, ◌∙◌, ℕ, zero, suc, ◌-◌, ◌<◌, ◌≤◌, Bool, true, false, not, ◌||◌, ◌&&◌, ◌==◌, nat_lt, if◌then◌else◌, List, [], ◌∷◌, length, map, slice_get, find, refl, ap, sym, arith, Option, Some, None, subst}
use Rattle.std.proofs.lemmas.Bool.{and_parts, eqb-true, lt-ltb}
use Rattle.std.proofs.lemmas.Option.{slice_get_within}
use Rattle.std.specs.List.{filter, list_all}
use Rattle.std.specs.Option.{option_map}
use Rattle.std.specs.Str.{bytes_eq}
use Rattle.vm_model.specs.declared.calls.Call.{Call}
use Rattle.trace_text.specs.declared.progress.Progress.{Progress}
use Rattle.trace_text.specs.SpelledLines.{TargetName}
use Rattle.trace_text.specs.Reading.{Reading, Made, Named, AreNamed, aimed_at, calls_of, find_name}
use Rattle.trace_text.specs.Grammar.{aims, is_call_as}
use Rattle.trace_text.specs.Names.{place_of}
use Rattle.trace_text.specs.HeldLines.{IsHeld, call_at, has_size, sections_below, target_call}

-- the name by which a target's call is found
pub record IsAimed (r : Reading) (t : TargetName) (n : ℕ) (c : Call) : Type 0 where
  pub place : (not t.opening || nat_lt 0 r.caller) ≡ true
  pub named : Named
  pub found : aimed_at r t ≡ Some named
  pub number : named.number ≡ n
  pub call : named.call ≡ c

pub is_aimed : (r : Reading) (t : TargetName) (number : ℕ) (c : Call) → target_call r t ≡ Some (number, c) → IsAimed r t number c
is_aimed r t number c e = by_parts (not t.opening || nat_lt 0 r.caller) refl (aimed_at r t) refl e
  where
    by_parts : (b : Bool) → (not t.opening || nat_lt 0 r.caller) ≡ b → (o : Option Named) → aimed_at r t ≡ o → (if b then option_map {U = ℕ × Call} (λ (n : Named). (n.number, n.call)) o else None) ≡ Some (number, c) → IsAimed r t number c
    by_parts false place o found e = cc
    by_parts true place None found e = cc
    by_parts true place (Some n) found e =
        let same : ◌≡◌ {A = ℕ × Call} (n.number, n.call) (number, c) = cc in
        record { place = place; named = n; found = found; number = ap (λ (m : ℕ × Call). m.0) same; call = ap (λ (m : ℕ × Call). m.1) same }

-- what each name passes, the one that a test finds does
found_passes : (names : List Named) (test pass : Named → Bool) (n : Named) → list_all pass names ≡ true → find test names ≡ Some n → pass n ≡ true
found_passes [] test pass n h e = cc
found_passes (m ∷ names) test pass n h e = let parts = and_parts (pass m) (list_all pass names) h in by_test (test m) e parts.0 (found_passes names test pass n parts.1)
  where
    by_test : (b : Bool) → (if b then Some m else find test names) ≡ Some n → pass m ≡ true → (find test names ≡ Some n → pass n ≡ true) → pass n ≡ true
    by_test true e here later = let same : m ≡ n = cc in subst (λ (k : Named). pass k ≡ true) same here
    by_test false e here later = later e

-- an object that a target names asks for a number of bytes
pub sized_target : (p : Progress) (r : Reading) (t : TargetName) (number : ℕ) (c : Call) → IsHeld p r → target_call r t ≡ Some (number, c) → has_size c ≡ true
sized_target p r t number c held e =
    let aimed = is_aimed r t number c e in
    let size = found_passes r.names (λ (n : Named). n.caller == (if t.opening then 0 else r.caller) && bytes_eq n.name t.name) (λ (n : Named). has_size n.call) aimed.named held.sized aimed.found in
    sym (ap has_size aimed.call) ∙ size

-- a target that may be named has a call that may be
pub call_of_aim : (r : Reading) (t : TargetName) (test : Call → Bool) → aims r test t ≡ true → (number : ℕ) × (c : Call) × (target_call r t ≡ Some (number, c)) × (test c ≡ true)
call_of_aim r t test h = let parts = and_parts (not t.opening || nat_lt 0 r.caller) (is_call_as test (aimed_at r t)) h in by_named (aimed_at r t) refl parts.0 parts.1
  where
    by_named : (o : Option Named) → aimed_at r t ≡ o → (not t.opening || nat_lt 0 r.caller) ≡ true → is_call_as test o ≡ true → (number : ℕ) × (c : Call) × (target_call r t ≡ Some (number, c)) × (test c ≡ true)
    by_named None found place kind = cc
    by_named (Some n) found place kind = (n.number, n.call, rw (place, found) refl, kind)

-- the name that a test finds stands for a call of its section
found_named : (calls : List Made) (names : List Named) (test : Named → Bool) (n : Named) → AreNamed calls names → find test names ≡ Some n → (test n ≡ true) × (slice_get (calls_of n.caller calls) (n.number - 1) ≡ Some n.call)
found_named calls [] test n h e = cc
found_named calls (m ∷ names) test n (here, h) e = by_test (test m) refl e (found_named calls names test n h)
  where
    by_test : (b : Bool) → test m ≡ b → (if b then Some m else find test names) ≡ Some n → (find test names ≡ Some n → (test n ≡ true) × (slice_get (calls_of n.caller calls) (n.number - 1) ≡ Some n.call))
        → (test n ≡ true) × (slice_get (calls_of n.caller calls) (n.number - 1) ≡ Some n.call)
    by_test true passes e later = let same : m ≡ n = cc in subst (λ (k : Named). (test k ≡ true) × (slice_get (calls_of k.caller calls) (k.number - 1) ≡ Some k.call)) same (passes, here)
    by_test false passes e later = later e

pub named_call : (r : Reading) (caller : ℕ) (name : List ℕ) (n : Named) → AreNamed r.calls r.names → find_name r caller name ≡ Some n → slice_get (calls_of caller r.calls) (n.number - 1) ≡ Some n.call
named_call r caller name n h e =
    let found = found_named r.calls r.names (λ (n : Named). n.caller == caller && bytes_eq n.name name) n h e in
    let own : n.caller ≡ caller = eqb-true n.caller caller (and_parts (n.caller == caller) (bytes_eq n.name name) found.0).0 in
    subst (λ k. slice_get (calls_of k r.calls) (n.number - 1) ≡ Some n.call) own found.1

call_at-place : (calls : List Call) (place : Option ℕ) (named : Option Named) → option_map (λ k. suc k) place ≡ option_map (λ (n : Named). n.number) named → ((n : Named) → named ≡ Some n → slice_get calls (n.number - 1) ≡ Some n.call)
    → call_at calls place ≡ option_map {U = ℕ × Call} (λ (n : Named). (n.number, n.call)) named
call_at-place calls None None e h = refl
call_at-place calls None (Some n) e h = cc
call_at-place calls (Some k) None e h = cc
call_at-place calls (Some k) (Some n) e h =
    let number : suc k ≡ n.number = cc in
    let place : n.number - 1 ≡ k = omega arith in
    let found : slice_get calls k ≡ Some n.call = subst (λ i. slice_get calls i ≡ Some n.call) place (h n refl) in
    rw found (ap (λ m. Some (m, n.call)) number)

-- a name of the open section
pub own_target : (p : Progress) (r : Reading) (name : List ℕ) → IsHeld p r → call_at p.calls.items (place_of p.names name) ≡ target_call r (record { opening = false; name = name })
own_target p r name held =
    ap (λ calls. call_at calls (place_of p.names name)) held.calls
    ∙ call_at-place (calls_of r.caller r.calls) (place_of p.names name) (find_name r r.caller name) (held.names name) (λ n e. named_call r r.caller name n held.named e)

-- a name of the opening, whose section has ended
pub opening_target : (p : Progress) (r : Reading) (name : List ℕ) (calls : List Call) → IsHeld p r → slice_get p.closed.items 0 ≡ Some calls → call_at calls (place_of p.opening_names name) ≡ target_call r (record { opening = true; name = name })
opening_target p r name calls held first = by_caller r.caller refl (ap (λ sections. slice_get sections 0) (sym held.closed) ∙ first)
  where
    by_caller : (caller : ℕ) → r.caller ≡ caller → slice_get (sections_below r.caller r.calls) 0 ≡ Some calls → call_at calls (place_of p.opening_names name) ≡ target_call r (record { opening = true; name = name })
    by_caller zero e found = let none : slice_get (sections_below 0 r.calls) 0 ≡ Some calls = subst (λ k. slice_get (sections_below k r.calls) 0 ≡ Some calls) e found in cc
    by_caller (suc k) e found =
        let some : slice_get (sections_below (suc k) r.calls) 0 ≡ Some calls = subst (λ k. slice_get (sections_below k r.calls) 0 ≡ Some calls) e found in
        let own : calls_of 0 r.calls ≡ calls = cc in
        let opened : 0 < r.caller = omega arith in
        let at : nat_lt 0 r.caller ≡ true = lt-ltb 0 r.caller opened in
        rw at
        (ap (λ cs. call_at cs (place_of p.opening_names name)) (sym own)
        ∙ call_at-place (calls_of 0 r.calls) (place_of p.opening_names name) (find_name r 0 name) (held.opening_names opened name) (λ n e. named_call r 0 name n held.named e))

pub length-calls_of : (caller : ℕ) (calls : List Made) → length (calls_of caller calls) ≤ length calls
length-calls_of caller [] = omega arith
length-calls_of caller (m ∷ calls) = by_test (m.caller == caller) (length-calls_of caller calls)
  where
    by_test : (b : Bool) → length (calls_of caller calls) ≤ length calls → length (map (λ (m : Made). m.call) (if b then m ∷ filter (λ (m : Made). m.caller == caller) calls else filter (λ (m : Made). m.caller == caller) calls)) ≤ suc (length calls)
    by_test true h = omega arith
    by_test false h = omega arith

-- the call's number is at most that of the lines
pub number_within : (p : Progress) (r : Reading) (t : TargetName) (number : ℕ) (c : Call) → IsHeld p r → target_call r t ≡ Some (number, c) → number ≤ p.lines
number_within p r t number c held e =
    let aimed = is_aimed r t number c e in
    let within = slice_get_within (calls_of _ r.calls) (aimed.named.number - 1) aimed.named.call (named_call r _ t.name aimed.named held.named aimed.found) in
    let few = length-calls_of (if t.opening then 0 else r.caller) r.calls in
    let count = held.count in
    let number = aimed.number in
    omega arith
