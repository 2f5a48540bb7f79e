-- Replies have their causes, and come wherever these are.
use Rattle.std.proofs.Common.{◌∷◌, take, sym, ◌∙◌, subst}
use Rattle.std.proofs.lemmas.Option.{same_Some}
use Rattle.vm_model.specs.PlainMap.{at_first}
use Rattle.vm_model.specs.History.{placing_calls}
use Rattle.call_laws.specs.Histories.{own_sections, sections, sections_for, IsNoAddress}
use Rattle.call_laws.specs.Causes.{RepliesHaveTheirCauses}
use Rattle.call_laws.specs.ExactReplies.{CausesBringReplies}
use Rattle.call_laws.proofs.Unusable.{unusable_target}
use Rattle.call_laws.proofs.CallWorlds.{histories_have_shapes}
use Rattle.call_laws.proofs.Causing.{HasCause, its_cause, replies_caused}
use Rattle.call_laws.proofs.Exactly.{comes_exactly}
use Rattle.call_laws.proofs.Targeting.{targets_are_got}

pub replies_have_causes : RepliesHaveTheirCauses
replies_have_causes c opening calls w trace reached k i l answer here at =
    let own = sections_for (own_sections k w.events) (take i l.answers) answer in
    let first = at_first c (placing_calls (opening ∷ calls)) in
    let caused = replies_caused c opening calls w trace reached k i l answer here at in
    its_cause c first w.events l.opening (take i l.answers) answer.call answer.reply own caused (λ e.
    let weak = subst (λ r. HasCause c first w.events l.opening (take i l.answers) answer.call r own) e caused in
    let named = unusable_target l.opening (take i l.answers) answer.call weak.0 in
    let got = targets_are_got c opening calls w trace reached k i l answer named.0 here at named.1 in
    record { target = named.0; named = named.1; answer = got.target; at = got.at; no_address = got.unbound e })

pub causes_bring_replies : CausesBringReplies
causes_bring_replies c opening calls w trace reached k i l answer here at =
    comes_exactly c (sections (sections_for (own_sections k w.events) (take i l.answers) answer)) l.opening (take i l.answers) answer.call answer.reply
    ((histories_have_shapes c opening calls w trace reached k l here).answers i answer at).shape
    (λ was.
    let got = targets_are_got c opening calls w trace reached k i l answer was.target here at was.named in
    got.else_bound (subst (λ a. IsNoAddress a.reply) (same_Some _ _ (sym was.at ∙ got.at)) was.no_address))
