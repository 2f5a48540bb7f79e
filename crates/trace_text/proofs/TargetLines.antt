-- Lines of a word, a target and maybe more fields: where they stand.
use Rattle.std.proofs.Common.{◌≡◌, ◌∙◌, ℕ, Bool, true, false, not, ◌||◌, ◌&&◌, nat_lt, List, [], ◌∷◌, ◌++◌, refl, ap, sym, codes, subst}
use Rattle.std.proofs.lemmas.Bool.{and_parts, and_from}
use Rattle.vm_model.specs.declared.calls.Call.{Call}
use Rattle.vm_model.specs.declared.calls.Call.TheVariants as call
use Rattle.vm_model.specs.declared.calls.Target.{Target}
use Rattle.trace_text.specs.declared.progress.Progress.{Progress}
use Rattle.vm_model.specs.Words.{fields, is_name}
use Rattle.trace_text.specs.SpelledLines.{Line, TargetName, Vfree, UnmapRam, spelled, is_spelt, target_text}
use Rattle.trace_text.specs.Reading.{Reading, aimed_at, number_of, target_of, with_call}
use Rattle.trace_text.specs.Grammar.{may_stand, follows, aims, is_call_as, is_vmalloc, is_map_ram, has_room, read}
use Rattle.trace_text.specs.HeldLines.{IsHeld, Steps, NamesCall, NamesNone, has_place}
use Rattle.trace_text.proofs.Split.{is_clean, split_at}
use Rattle.trace_text.proofs.Guess.{guess, target, target-text, nth}
use Rattle.trace_text.proofs.Exclusive.{spelt_in}
use Rattle.trace_text.proofs.LinesByWord.{line_by_word, behind}
use Rattle.trace_text.proofs.TargetCalls.{is_aimed, call_of_aim}

-- the word of such lines, what further fields say, and what the line asks: for the target's call, of these, and otherwise
pub record TargetWord (X : Type 0) : Type 0 where
  pub word : List ℕ
  pub make : TargetName → X → Line
  pub more : X → List (List ℕ)
  pub ask : Target → X → Call
  pub test : X → Call → Bool
  pub rule : Reading → TargetName → X → Bool

-- lines that are this word, a target and these fields, where they may stand, and what they ask
pub record AreTargetLines {X : Type 0} (w : TargetWord X) (r : Reading) : Type 0 where
  pub clean : is_clean w.word ≡ true
  pub from : List (List ℕ) → X
  pub guessed : (fs : List (List ℕ)) → guess (w.word ∷ fs) ≡ w.make (target (nth 0 fs)) (from fs)
  pub spells : (t : TargetName) (x : X) → spelled (w.make t x) ≡ w.word ∷ target_text t ∷ w.more x
  pub named : (t : TargetName) (x : X) → is_spelt (w.make t x) ≡ true → is_name t.name ≡ true
  pub stands : (t : TargetName) (x : X) → may_stand r (w.make t x) ≡ (is_spelt (w.make t x) && follows r.rank 10 && (w.rule r t x && (aims r (w.test x) t && has_room r)))
  pub reads : (t : TargetName) (x : X) → read r (w.make t x) ≡ record (with_call r (w.ask (target_of r t) x)) { rank = 10 }

abbrev pub vfree_word : TargetWord (Unit {0})
vfree_word = record { word = codes "vfree"; make = λ t x. Vfree t; more = λ x. []; ask = λ to x. call.Vfree to; test = λ x. is_vmalloc; rule = λ r t x. true }

pub vfree_lines : (r : Reading) → AreTargetLines vfree_word r
vfree_lines r = record { clean = refl; from = λ fs. tt; guessed = λ fs. refl; spells = λ t x. refl; named = λ t x h. h; stands = λ t x. refl; reads = λ t x. refl }

abbrev pub unmap_ram_word : TargetWord (Unit {0})
unmap_ram_word = record { word = codes "unmap_ram"; make = λ t x. UnmapRam t; more = λ x. []; ask = λ to x. call.UnmapRam to; test = λ x. is_map_ram; rule = λ r t x. true }

pub unmap_ram_lines : (r : Reading) → AreTargetLines unmap_ram_word r
unmap_ram_lines r = record { clean = refl; from = λ fs. tt; guessed = λ fs. refl; spells = λ t x. refl; named = λ t x h. h; stands = λ t x. refl; reads = λ t x. refl }

-- the text is this one, where a target may stand, and these fields; and it is so in no other way
pub record IsTargetText {X : Type 0} (w : TargetWord X) (text aim : List ℕ) (x : X) : Type 0 where
  pub spells : text ≡ fields (aim ∷ w.more x)
  pub only : (t : TargetName) (y : X) → is_spelt (w.make t y) ≡ true → text ≡ fields (target_text t ∷ w.more y) → (aim ≡ target_text t) × (y ≡ x)

-- no such line has this text, which is no target and fields that may stand
target_stuck : {X : Type 0} (w : TargetWord X) (q : Progress) (r : Reading) (text : List ℕ) → AreTargetLines w r
    → ((t : TargetName) (x : X) → is_spelt (w.make t x) ≡ true → text ≡ fields (target_text t ∷ w.more x) → has_place r ≡ true → w.rule r t x ≡ true → aims r (w.test x) t ≡ true → ⊥) → Steps r (w.word ++ 32 ∷ text) false q
target_stuck w q r text lines none = λ l s e.
    let t = target (nth 0 (split_at 32 text)) in
    let x = lines.from (split_at 32 text) in
    let made : l ≡ w.make t x = line_by_word l w.word text (spelt_in r l s) lines.clean e ∙ lines.guessed (split_at 32 text) in
    let stood = sym (lines.stands t x) ∙ subst (λ (m : Line). may_stand r m ≡ true) made s in
    let rules = and_parts (is_spelt (w.make t x) && follows r.rank 10) (w.rule r t x && (aims r (w.test x) t && has_room r)) stood in
    let place = and_parts (is_spelt (w.make t x)) (follows r.rank 10) rules.0 in
    let aimed = and_parts (w.rule r t x) (aims r (w.test x) t && has_room r) rules.1 in
    let room = and_parts (aims r (w.test x) t) (has_room r) aimed.1 in
    none t x place.0 (behind w.word text (fields (target_text t ∷ w.more x)) (e ∙ ap (λ (m : Line). fields (spelled m)) made ∙ ap fields (lines.spells t x))) (and_from (follows r.rank 10) (has_room r) place.1 room.1) aimed.0 room.0

-- none may where no call line may come
pub target_unplaced : {X : Type 0} (w : TargetWord X) (q : Progress) (r : Reading) (text : List ℕ) → AreTargetLines w r → has_place r ≡ false → Steps r (w.word ++ 32 ∷ text) false q
target_unplaced w q r text lines none = target_stuck w q r text lines (λ t x spelt spells place rules aimed. cc)

-- nor one whose text is no target and fields
pub no_target_text : {X : Type 0} (w : TargetWord X) (q : Progress) (r : Reading) (text : List ℕ) → AreTargetLines w r → ((t : TargetName) (x : X) → is_spelt (w.make t x) ≡ true → text ≡ fields (target_text t ∷ w.more x) → ⊥) → Steps r (w.word ++ 32 ∷ text) false q
no_target_text w q r text lines none = target_stuck w q r text lines (λ t x spelt spells place rules aimed. none t x spelt spells)

-- nor one whose target is none, or names no call
pub target_of_none : {X : Type 0} (w : TargetWord X) (q : Progress) (r : Reading) (text aim : List ℕ) (x : X) → AreTargetLines w r → IsTargetText w text aim x → NamesNone r aim → Steps r (w.word ++ 32 ∷ text) false q
target_of_none w q r text aim x lines is none =
    target_stuck w q r text lines (λ t y spelt spells place rules aimed.
    let (number, c, found, kind) = call_of_aim r t (w.test y) aimed in
    let missing = none t (lines.named t y spelt) (is.only t y spelt spells).0 in
    cc)

-- one text has one target
pub same_target : (text : List ℕ) (t u : TargetName) → is_name t.name ≡ true → is_name u.name ≡ true → text ≡ target_text t → text ≡ target_text u → t ≡ u
same_target text t u h k e f = sym (target-text t h) ∙ ap target (sym e ∙ f) ∙ target-text u k

-- nor one whose fields or target the rule refuses
pub target_ruled_out : {X : Type 0} (w : TargetWord X) (q : Progress) (r : Reading) (text aim : List ℕ) (x : X) → AreTargetLines w r → IsTargetText w text aim x
    → ((t : TargetName) → is_name t.name ≡ true → aim ≡ target_text t → w.rule r t x ≡ true → ⊥) → Steps r (w.word ++ 32 ∷ text) false q
target_ruled_out w q r text aim x lines is none =
    target_stuck w q r text lines (λ t y spelt spells place rules aimed.
    let same = is.only t y spelt spells in
    none t (lines.named t y spelt) same.0 (subst (λ z. w.rule r t z ≡ true) same.1 rules))

-- nor one that names a call of another kind
pub target_refused : {X : Type 0} (w : TargetWord X) (q : Progress) (r : Reading) (text aim : List ℕ) (x : X) (to : Target) (c : Call) → AreTargetLines w r → IsTargetText w text aim x → NamesCall r aim to c
    → w.test x c ≡ false → Steps r (w.word ++ 32 ∷ text) false q
target_refused w q r text aim x to c lines is names other =
    target_stuck w q r text lines (λ t y spelt spells place rules aimed.
    let parts = is.only t y spelt spells in
    let same : t ≡ names.aim = same_target aim t names.aim (lines.named t y spelt) names.name parts.0 names.spells in
    let here : aims r (w.test x) names.aim ≡ true = subst (λ (u : TargetName). aims r (w.test x) u ≡ true) same (subst (λ z. aims r (w.test z) t ≡ true) parts.1 aimed) in
    let (number, d, found, kind) = call_of_aim r names.aim (w.test x) here in
    let there = names.found in
    let pair : ◌≡◌ {A = ℕ × Call} (number, d) (to.call, c) = cc in
    let own = ap (λ (m : ℕ × Call). w.test x m.1) pair in
    cc)

-- one that names a call of the kind stands, where a call line may come and the rule allows it
pub target_stands : {X : Type 0} (w : TargetWord X) (q : Progress) (r : Reading) (text aim : List ℕ) (x : X) (to : Target) (c : Call) (lines : AreTargetLines w r) → IsTargetText w text aim x → (names : NamesCall r aim to c)
    → has_place r ≡ true → is_spelt (w.make names.aim x) ≡ true → w.rule r names.aim x ≡ true → w.test x c ≡ true → IsHeld q (record (with_call r (w.ask to x)) { rank = 10 }) → Steps r (w.word ++ 32 ∷ text) true q
target_stands w q r text aim x to c lines is names place spelt rules kind held =
    let t = names.aim in
    let aimed = is_aimed r t to.call c names.found in
    let parts = and_parts (follows r.rank 10) (has_room r) place in
    let may : aims r (w.test x) t ≡ true = and_from (not t.opening || nat_lt 0 r.caller) (is_call_as (w.test x) (aimed_at r t)) aimed.place (ap (is_call_as (w.test x)) aimed.found ∙ ap (w.test x) aimed.call ∙ kind) in
    let number : number_of (aimed_at r t) ≡ to.call = ap number_of aimed.found ∙ aimed.number in
    let same : target_of r t ≡ to = ap (λ k. record { opening = t.opening; call = k }) number ∙ ap (λ b. record { opening = b; call = to.call }) (sym names.opening) in (
      w.make t x,
      ap (λ u. w.word ++ 32 ∷ u) (is.spells ∙ ap (λ u. fields (u ∷ w.more x)) names.spells) ∙ ap fields (sym (lines.spells t x)),
      lines.stands t x
          ∙ and_from (is_spelt (w.make t x) && follows r.rank 10) (w.rule r t x && (aims r (w.test x) t && has_room r)) (and_from (is_spelt (w.make t x)) (follows r.rank 10) spelt parts.0)
          (and_from (w.rule r t x) (aims r (w.test x) t && has_room r) rules (and_from (aims r (w.test x) t) (has_room r) may parts.1)),
      subst (λ (s : Reading). IsHeld q s) (sym (lines.reads t x)) (subst (λ (u : Target). IsHeld q (record (with_call r (w.ask u x)) { rank = 10 })) (sym same) held),
    )

-- a text is a target alone in one way
pub target_alone : (w : TargetWord (Unit {0})) (text : List ℕ) → w.more tt ≡ [] → IsTargetText w text text tt
target_alone w text alone = record { spells = ap (λ more. fields (text ∷ more)) (sym alone); only = λ t y spelt spells. (spells ∙ ap (λ more. fields (target_text t ∷ more)) alone, refl) }
