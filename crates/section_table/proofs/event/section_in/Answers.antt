use Rattle.std.proofs.Common.{rules, ◌≡◌, ℕ, ◌<◌, true, List, length, Some, None, [], ◌∷◌, ◌^◌, sym, ap, ◌∙◌, subst}
use Rattle.atomic_table.specs.Table.{rest}
use Rattle.section_table.specs.declared.parts.Turned.{Turned}
use Rattle.section_table.specs.Turn.{Answers}
use Rattle.section_table.specs.Shown.{held_of}
use Rattle.section_table.specs.PassViews.{holding, with_event}
use Rattle.section_table.proofs.ElementsByPlace.{head_or}
use Rattle.section_table.proofs.event.section_in.Goals as goal

pub draw-stamp-requires-clause-ready : goal.draw-stamp-requires-clause-ready
draw-stamp-requires-clause-ready g c = let hand = c.requires.hand in let x : g.row.P-Region.Denot = c.slot_mut-slot.result.now in
    let did = subst (Answers g.P.Parts.meaning c.args.mine.now.local x c.section.new.local c.section.new.region) c.in-Moved.is c.in_ok-section.ensures.answer in
    let same : x ≡ hand.0 = ap (λ (l : List (ℕ × g.row.P-Region.Denot)). (head_or (0, x) l).1) (sym c.slot_mut-slot.ensures.value ∙ hand.2) in
    let room : length c.args.mine.now.stamps.items < 2 ^ 58 = search rules in
    (held_of c.args.mine.now, c.args.region, hand.0, c.requires.wants.1, hand.1, c.requires.wants.0, subst (λ r. g.P.Parts.meaning.moves c.args.mine.now.local r ≡ true) same did.0, room)

pub returns-in-Moved-clause-hand : goal.returns-in-Moved-clause-hand
returns-in-Moved-clause-hand g c = let hand = c.requires.hand in let x : g.row.P-Region.Denot = c.slot_mut-slot.result.now in
    let did = subst (Answers g.P.Parts.meaning c.args.mine.now.local x c.section.new.local c.section.new.region) c.in-Moved.is c.in_ok-section.ensures.answer in
    let same : x ≡ hand.0 = ap (λ (l : List (ℕ × g.row.P-Region.Denot)). (head_or (0, x) l).1) (sym c.slot_mut-slot.ensures.value ∙ hand.2) in
    let left : (c.section.new.local, c.section.new.region) ≡ g.P.Parts.meaning.after c.args.mine.now.local hand.0 = subst (λ r. (c.section.new.local, c.section.new.region) ≡ g.P.Parts.meaning.after c.args.mine.now.local r) same did.1 in
    let view = c.draw-stamp.ensures.view (held_of c.args.mine.now) c.args.region hand.0 c.requires.wants.1 hand.1 in
    let slots = c.draw-stamp.ensures.slots ∙ ap (λ (l : List (ℕ × g.row.P-Region.Denot)). (c.args.region, c.section.new.region) ∷ rest l) hand.2 in
    (c.section.new.region, ap (λ v. v.hand) view ∙ ap (λ (p : g.row.P-Local.Denot × g.row.P-Region.Denot). Some (c.args.region, p.1)) (sym left), slots)

pub returns-in-Moved-clause-made : goal.returns-in-Moved-clause-made
returns-in-Moved-clause-made g c = let hand = c.requires.hand in let x : g.row.P-Region.Denot = c.slot_mut-slot.result.now in
    let h = held_of c.args.mine.now in
    let did = subst (Answers g.P.Parts.meaning c.args.mine.now.local x c.section.new.local c.section.new.region) c.in-Moved.is c.in_ok-section.ensures.answer in
    let same : x ≡ hand.0 = ap (λ (l : List (ℕ × g.row.P-Region.Denot)). (head_or (0, x) l).1) (sym c.slot_mut-slot.ensures.value ∙ hand.2) in
    let left : (c.section.new.local, c.section.new.region) ≡ g.P.Parts.meaning.after c.args.mine.now.local hand.0 = subst (λ r. (c.section.new.local, c.section.new.region) ≡ g.P.Parts.meaning.after c.args.mine.now.local r) same did.1 in
    let local : c.section.new.local ≡ (g.P.Parts.meaning.after c.args.mine.now.local hand.0).0 = ap (λ (p : g.row.P-Local.Denot × g.row.P-Region.Denot). p.0) left in
    let view = c.draw-stamp.ensures.view h c.args.region hand.0 c.requires.wants.1 hand.1 in
    let met = hand.3 g.C.Actor.caller h c.requires.wants.1 in record {
      region = hand.0;
      together = (met.0, met.1, g.C.Actor.caller, c.args.region, met.2, met.3, c.requires.wants.0, met.4);
      moves = subst (λ r. g.P.Parts.meaning.moves c.args.mine.now.local r ≡ true) same did.0;
      local = local;
      stamps = c.push_reserved.ensures.items;
      leaves = ap (holding None) view ∙ ap (λ (l : g.row.P-Local.Denot). holding None (with_event g.C.Actor.caller h l c.draw-stamp.result c.args.place.now.me.0)) (sym local);
      past = c.draw-stamp.ensures.past;
    }
