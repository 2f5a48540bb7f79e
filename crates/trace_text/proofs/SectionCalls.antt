-- The calls of each section, after one more call and after a section's end.
use Rattle.std.proofs.Common.{◌≡◌, ◌≢◌, ◌∙◌, ℕ, zero, suc, ◌+◌, ◌-◌, ◌<◌, ◌≤◌, ◌==◌, List, [], ◌∷◌, ◌++◌, map, replicate, refl, ap, sym, arith, append_assoc}
use Rattle.std.proofs.lemmas.Bool.{eq-eqb, ne_eqb}
use Rattle.std.proofs.lemmas.List.{map-append, append-nil, replicate-append-replicate}
use Rattle.std.proofs.lemmas.List.Elements.{filter-append}
use Rattle.std.proofs.lemmas.List.FromFn.{map-range_with_len_more}
use Rattle.std.specs.List.{filter, range_with_len}
use Rattle.vm_model.specs.declared.calls.Call.{Call}
use Rattle.trace_text.specs.declared.progress.Progress.{Progress}
use Rattle.trace_text.specs.Reading.{Reading, Made, calls_of}
use Rattle.trace_text.specs.HeldLines.{IsHeld, sections_below}

-- the calls of a section after one more call of any section
pub calls_of-append : (caller : ℕ) (calls : List Made) (m : Made) → calls_of caller (calls ++ m ∷ []) ≡ calls_of caller calls ++ calls_of caller (m ∷ [])
calls_of-append caller calls m = ap (map (λ (m : Made). m.call)) (filter-append (λ (m : Made). m.caller == caller) calls (m ∷ [])) ∙ map-append (λ (m : Made). m.call) (filter (λ (m : Made). m.caller == caller) calls) (filter (λ (m : Made). m.caller == caller) (m ∷ []))

-- after one more of its own
pub own-append : (calls : List Made) (caller : ℕ) (c : Call) → calls_of caller (calls ++ record { caller = caller; call = c } ∷ []) ≡ calls_of caller calls ++ c ∷ []
own-append calls caller c = calls_of-append caller calls (record { caller = caller; call = c }) ∙ rw (eq-eqb caller caller refl) refl

-- after one more of another section
pub others-append : (calls : List Made) (caller other : ℕ) (c : Call) → caller ≢ other → calls_of other (calls ++ record { caller = caller; call = c } ∷ []) ≡ calls_of other calls
others-append calls caller other c apart = calls_of-append other calls (record { caller = caller; call = c }) ∙ rw (ne_eqb caller other apart) (append-nil (calls_of other calls))

below-append : (a n : ℕ) (calls : List Made) (caller : ℕ) (c : Call) → a + n ≤ caller
    → map (λ k. calls_of k (calls ++ record { caller = caller; call = c } ∷ [])) (range_with_len a n) ≡ map (λ k. calls_of k calls) (range_with_len a n)
below-append a zero calls caller c h = refl
below-append a (suc n) calls caller c h =
    let own = others-append calls caller a c (λ same. omega arith) in
    let more = below-append (a + 1) n calls caller c (omega arith) in
    cc

-- the sections below one after one more call of it
pub sections_below-append : (calls : List Made) (caller : ℕ) (c : Call) → sections_below caller (calls ++ record { caller = caller; call = c } ∷ []) ≡ sections_below caller calls
sections_below-append calls caller c = below-append 0 caller calls caller c (omega arith)

sections_more : (caller : ℕ) (calls : List Made) → sections_below (caller + 1) calls ≡ sections_below caller calls ++ calls_of caller calls ∷ []
sections_more caller calls = map-range_with_len_more (λ k. calls_of k calls) 0 caller caller (omega arith)

-- the sections up to one more than the last, where those behind the open one have no calls
sections_to : (calls : List Made) (caller n : ℕ) → ((k : ℕ) → caller < k → calls_of k calls ≡ []) → sections_below (caller + 1 + n) calls ≡ sections_below caller calls ++ calls_of caller calls ∷ replicate n []
sections_to calls caller zero none = let place : caller + 1 + 0 ≡ caller + 1 = omega arith in ap (λ k. sections_below k calls) place ∙ sections_more caller calls
sections_to calls caller (suc n) none =
    let last : calls_of (caller + 1 + n) calls ≡ [] = none (caller + 1 + n) (omega arith) in
    let place : caller + 1 + suc n ≡ caller + 1 + n + 1 = omega arith in
    let more : n + 1 ≡ suc n = omega arith in
    ap (λ k. sections_below k calls) place ∙ sections_more (caller + 1 + n) calls
    ∙ ap (λ cs. cs ++ calls_of (caller + 1 + n) calls ∷ []) (sections_to calls caller n none)
    ∙ ap (λ cs. (sections_below caller calls ++ calls_of caller calls ∷ replicate n []) ++ cs ∷ []) last
    ∙ append_assoc (sections_below caller calls) (calls_of caller calls ∷ replicate n []) ([] ∷ [])
    ∙ ap (λ cs. sections_below caller calls ++ calls_of caller calls ∷ cs) (replicate-append-replicate n 1 [] ∙ ap (λ k. replicate {A = List Call} k []) more)

sections-closed : (calls : List Made) (caller last : ℕ) → caller ≤ last → ((k : ℕ) → caller < k → calls_of k calls ≡ []) → sections_below caller calls ++ calls_of caller calls ∷ replicate (last - caller) [] ≡ sections_below (suc last) calls
sections-closed calls caller last h none = let place : caller + 1 + (last - caller) ≡ suc last = omega arith in sym (sections_to calls caller (last - caller) none) ∙ ap (λ k. sections_below k calls) place

-- what is held of the sections makes those up to the last, where callers behind the open section have none
pub held_sections : (p : Progress) (r : Reading) (last : ℕ) → IsHeld p r → r.caller ≤ last → p.closed.items ++ p.calls.items ∷ replicate (last - p.caller) [] ≡ sections_below (suc last) r.calls
held_sections p r last held h =
    let closed = held.closed in
    let calls = held.calls in
    let caller = held.caller in
    let same : p.closed.items ++ p.calls.items ∷ replicate (last - p.caller) [] ≡ sections_below r.caller r.calls ++ calls_of r.caller r.calls ∷ replicate (last - r.caller) [] = cc in
    same ∙ sections-closed r.calls r.caller last h held.uncalled
