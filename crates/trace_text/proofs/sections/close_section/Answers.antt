use Rattle.std.proofs.Common.{◌≡◌, ◌∙◌, ℕ, ◌-◌, ◌+◌, List, [], ◌∷◌, ◌++◌, replicate, ap, append_assoc, arith}
use Rattle.std.proofs.lemmas.List.{replicate-append-replicate}
use Rattle.vm_model.specs.declared.calls.Call.{Call}
use Rattle.trace_text.proofs.sections.close_section.Goals as goal

one_more : (old now new : List (List Call)) (section : List Call) (m n : ℕ) → now ≡ old ++ replicate m [] → new ≡ now ++ section ∷ [] → section ≡ [] → n ≡ m + 1 → new ≡ old ++ replicate n []
one_more old now new section m n so put none counted =
    put ∙ ap (λ s. now ++ s ∷ []) none ∙ ap (λ t. t ++ [] ∷ []) so ∙ append_assoc old (replicate m []) ([] ∷ [])
    ∙ ap (λ t. old ++ t) (replicate-append-replicate m 1 []) ∙ ap (λ k. old ++ replicate k []) (let same : m + 1 ≡ n = omega arith in same)

all : (old first now : List (List Call)) (calls section : List Call) (m n : ℕ) → first ≡ old ++ section ∷ [] → section ≡ calls → now ≡ first ++ replicate m [] → m ≡ n → now ≡ old ++ calls ∷ replicate n []
all old first now calls section m n put own so counted =
    so ∙ ap (λ t. t ++ replicate m []) put ∙ append_assoc old (section ∷ []) (replicate m []) ∙ ap (λ s. old ++ s ∷ replicate m []) own ∙ ap (λ k. old ++ calls ∷ replicate k []) counted

pub loop-later-preserved : goal.loop-later-preserved
loop-later-preserved c = record {
  put = one_more c.push.new.self.items c.loop-later.sections.items c.push-in-loop-later.new.self.items c.of-in-loop-later.result (c.loop-later._later - c.args.caller) (c.loop-later._later + 1 - c.args.caller) c.loop-later.invariant.put
      c.in_ok-push-2.ensures.items (c.of-in-loop-later.ensures ∙ c.new.ensures.items) (omega arith);
  few = omega arith;
}

pub returns : goal.returns
returns c = all c.args.sections.now.items c.push.new.self.items c.loop-later.sections.items c.args.calls.items c.of.result (c.loop-later._later - c.args.caller) (c.args.last - c.args.caller) c.in_ok-push.ensures.items c.of.ensures
    c.loop-later.invariant.put (let few = c.loop-later.invariant.few in omega arith)
