-- The next area has at most eight times the number of all events as its serial, since a section settles at most eight.
use Rattle.std.proofs.Common.{◌≡◌, ℕ, suc, ◌+◌, ◌*◌, ◌≤◌, Bool, true, false, List, [], ◌∷◌, length, refl, ap, sym, subst, arith, length-append}
use Rattle.std.proofs.lemmas.List.{length-map}
use Rattle.vm_model.specs.declared.calls.Call.{Call}
use Rattle.vm_model.specs.declared.areas.Span.{Span}
use Rattle.vm_model.specs.Space.{span}
use Rattle.vm_model.specs.Setup.{Setup, groups_at}
use Rattle.vm_model.specs.PlainMap.{PlainMap}
use Rattle.vm_model.specs.Areas.{group_kinds, group_areas}
use Rattle.vm_model.specs.Events.{Section, Settle}
use Rattle.vm_model.specs.Places.{Place, SettlingArea, SettlingBlock, SettlingGroups, ask}
use Rattle.vm_model.specs.Legal.{IsLegalAs}
use Rattle.vm_model.specs.Effects.{effect_as}
use Rattle.vm_model.specs.LegalHistory.{IsReached, Meets}
use Rattle.vm_model.specs.History.{World}
use Rattle.vm_model.specs.Rules.{IsSetup}
use Rattle.map_laws.proofs.areas.AreaStarts.{is_settle, asks_settle, no_settle}
use Rattle.map_laws.proofs.areas.AreaWorlds.{IsLegallyLasting, legally_lasts}

-- how many areas a section settles
abbrev settled_by : Section → ℕ
settled_by (Settle areas first) = length areas
settled_by _ = 0

none_settled : (s : Section) → is_settle s ≡ false → settled_by s ≤ 8
none_settled (Settle areas first) h = cc
none_settled _ h = omega arith

length-group_kinds : (chunk group : ℕ) (spans : List Span) → length (group_kinds chunk group spans) ≡ length spans
length-group_kinds chunk group [] = refl
length-group_kinds chunk group (s ∷ spans) = ap suc (length-group_kinds chunk (suc group) spans)

few_groups : (c : Setup) (chunk base : ℕ) → length c.groups ≤ 8 → length (group_areas c chunk base) ≤ 8
few_groups c chunk base few =
    let kinds = length-group_kinds chunk 0 (groups_at c base) in
    let all = length-map c.groups (λ (g : Span). span (base + g.start) g.pages) in
    omega arith

module _ (c : Setup) (few : length c.groups ≤ 8) where
  few_by : (p : Place) (s : Section) (b : Bool) → asks_settle (ask c p) ≡ b → Meets c (ask c p) s → settled_by s ≤ 8
  few_by p s false e w = none_settled s (no_settle c (ask c p) s e w)
  few_by (SettlingArea place kd) s true e w = subst (λ x. settled_by x ≤ 8) (sym w.1) (omega arith)
  few_by (SettlingBlock place cpu pages) s true e w = subst (λ x. settled_by x ≤ 8) (sym w.1) (omega arith)
  few_by (SettlingGroups base chunk bytes align) s true e w = subst (λ x. settled_by x ≤ 8) (sym w.1) (few_groups c chunk base few)
  few_by _ s true e w = cc

raised : (c : Setup) (m : PlainMap) (k : ℕ) (s : Section) → IsLegalAs c m k s → (effect_as c m k s).next_area ≤ m.next_area + settled_by s
raised c m k (Settle areas first) legal = let e = legal.1 in omega arith
raised c m k _ legal = omega arith

abbrev pub AreFewAreas : World → Type 0
AreFewAreas w = w.map.next_area ≤ 1 + 8 * length w.events

few_last : (c : Setup) (calls : List (List Call)) → length c.groups ≤ 8 → IsLegallyLasting c calls AreFewAreas
few_last c calls groups = record {
  steps = λ w k l s framed few step.
      let own = framed.own k l step.step.here in
      let up = raised l.setup w.map l.caller s (subst (λ i. IsLegalAs l.setup w.map i s) (sym own.caller) step.legal) in
      let most = few_by l.setup (subst (λ (d : Setup). length d.groups ≤ 8) (sym own.setup) groups) l.place s (asks_settle (ask l.setup l.place)) refl step.meets in
      omega (arith, length-append w.events (record { caller = l.caller; section = s } ∷ []));
  joins = λ w framed one few over. few;
}

pub few_areas : (c : Setup) (opening : List Call) (calls : List (List Call)) (w : World) → IsSetup c → IsReached c opening calls w → AreFewAreas w
few_areas c opening calls w setup reached = (legally_lasts c calls AreFewAreas (few_last c calls setup.groups.few) opening (omega arith) w reached).1
