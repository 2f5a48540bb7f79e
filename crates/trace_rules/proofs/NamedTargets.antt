-- What the target of a line that may stand names: an earlier call of its section or one of the opening, of the kind that the line asks for.
use Rattle.std.proofs.Common.{◌≡◌, ℕ, ◌-◌, ◌<◌, ◌≤◌, Bool, true, false, not, ◌||◌, nat_lt, if◌then◌else◌, find, List, [], ◌∷◌, ◌++◌, slice_get, Option, Some, None, refl, sym, ap, ◌∙◌, subst}
use Rattle.std.proofs.lemmas.Bool.{and_parts, ltb-true}
use Rattle.vm_model.specs.declared.calls.Call.{Call}
use Rattle.vm_model.specs.declared.calls.Call.TheVariants as call
use Rattle.vm_model.specs.Calls.{words_for}
use Rattle.vm_model.specs.Rules.{named_call, IsNamed, IsVmallocCall, IsMapRamCall, IsAllocCall}
use Rattle.trace_text.specs.SpelledLines.{TargetName}
use Rattle.trace_text.specs.Reading.{Reading, Named, AreNamed, calls_of, find_name, aimed_at, target_of, number_of}
use Rattle.trace_text.specs.Grammar.{aims, is_call_as, is_vmalloc, is_map_ram, is_object, has_word}
use Rattle.trace_text.proofs.TargetCalls as targets
use Rattle.trace_rules.proofs.AllSections.{opening_before, opening_from}

-- each name has a number from 1 on
abbrev pub AreNumbered : List Named → Type 0
AreNumbered [] = Unit {0}
AreNumbered (n ∷ names) = (1 ≤ n.number) × AreNumbered names

pub numbered-append : (names : List Named) (n : Named) → AreNumbered names → 1 ≤ n.number → AreNumbered (names ++ n ∷ [])
numbered-append [] n h low = (low, tt)
numbered-append (m ∷ names) n h low = (h.0, numbered-append names n h.1 low)

found_numbered : (names : List Named) (test : Named → Bool) (n : Named) → AreNumbered names → find test names ≡ Some n → 1 ≤ n.number
found_numbered [] test n h e = cc
found_numbered (m ∷ names) test n h e = by_test (test m) e (found_numbered names test n h.1)
  where
    by_test : (b : Bool) → (if b then Some m else find test names) ≡ Some n → (find test names ≡ Some n → 1 ≤ n.number) → 1 ≤ n.number
    by_test true e later = let same : m ≡ n = cc in subst (λ (k : Named). 1 ≤ k.number) same h.0
    by_test false e later = later e

-- the kinds of calls that lines ask for
pub vmalloc_is : (x : Call) → is_vmalloc x ≡ true → IsVmallocCall (Some x)
vmalloc_is (call.Vmalloc bytes align) e = tt
vmalloc_is _ e = cc

pub map_ram_is : (x : Call) → is_map_ram x ≡ true → IsMapRamCall (Some x)
map_ram_is (call.MapRam cpu pages) e = tt
map_ram_is _ e = cc

pub object_is : (x : Call) → is_object x ≡ true → IsAllocCall (λ bytes. Unit {0}) (Some x)
object_is (call.AllocPercpu bytes align) e = tt
object_is (call.AllocAtomic bytes align) e = tt
object_is _ e = cc

pub word_is : (index : ℕ) (x : Call) → has_word index x ≡ true → IsAllocCall (λ bytes. index < words_for bytes) (Some x)
word_is index (call.AllocPercpu bytes align) e = ltb-true index (words_for bytes) e
word_is index (call.AllocAtomic bytes align) e = ltb-true index (words_for bytes) e
word_is index _ e = cc

target_named : (P : Option Call → Type 0) (test : Call → Bool) → ((x : Call) → test x ≡ true → P (Some x)) → (r : Reading) (t : TargetName) → AreNamed r.calls r.names → AreNumbered r.names → (not t.opening || nat_lt 0 r.caller) ≡ true → (o : Option Named)
    → aimed_at r t ≡ o → is_call_as test o ≡ true → IsNamed (target_of r t) × P (named_call (opening_before r.caller r.calls) (calls_of r.caller r.calls) (target_of r t))
target_named P test passes r t named numbered place None e kind = cc
target_named P test passes r t named numbered place (Some n) e kind =
    (subst (λ (o : Option Named). 1 ≤ number_of o) (sym e) (found_numbered r.names _ n numbered e), by_opening t.opening refl)
  where
    by_opening : (b : Bool) → t.opening ≡ b → P (slice_get (if t.opening then opening_before r.caller r.calls else calls_of r.caller r.calls) (number_of (aimed_at r t) - 1))
    by_opening true is =
        let found : find_name r 0 t.name ≡ Some n = sym (ap (λ b. find_name r (if b then 0 else r.caller) t.name) is) ∙ e in
        let low : nat_lt 0 r.caller ≡ true = sym (ap (λ b. not b || nat_lt 0 r.caller) is) ∙ place in
        subst P
        (sym (ap (λ b. slice_get (if b then opening_before r.caller r.calls else calls_of r.caller r.calls) (number_of (aimed_at r t) - 1)) is
        ∙ ap (λ calls. slice_get calls (number_of (aimed_at r t) - 1)) (opening_from r.caller r.calls low) ∙ ap (λ o. slice_get (calls_of 0 r.calls) (number_of o - 1)) e
        ∙ targets.named_call r 0 t.name n named found))
        (passes n.call kind)
    by_opening false is =
        let found : find_name r r.caller t.name ≡ Some n = sym (ap (λ b. find_name r (if b then 0 else r.caller) t.name) is) ∙ e in
        subst P
        (sym (ap (λ b. slice_get (if b then opening_before r.caller r.calls else calls_of r.caller r.calls) (number_of (aimed_at r t) - 1)) is
        ∙ ap (λ o. slice_get (calls_of r.caller r.calls) (number_of o - 1)) e ∙ targets.named_call r r.caller t.name n named found))
        (passes n.call kind)

-- the target of a line that may stand
pub aimed : (P : Option Call → Type 0) (test : Call → Bool) → ((x : Call) → test x ≡ true → P (Some x)) → (r : Reading) (t : TargetName) → AreNamed r.calls r.names → AreNumbered r.names → aims r test t ≡ true
    → IsNamed (target_of r t) × P (named_call (opening_before r.caller r.calls) (calls_of r.caller r.calls) (target_of r t))
aimed P test passes r t named numbered h =
    let parts = and_parts (not t.opening || nat_lt 0 r.caller) (is_call_as test (aimed_at r t)) h in
    target_named P test passes r t named numbered parts.0 (aimed_at r t) refl parts.1
