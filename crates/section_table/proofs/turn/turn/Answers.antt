use Rattle.std.proofs.Common.{rules, ◌≡◌, ℕ, ◌<◌, ◌≤◌, Some, None, Ok, true, Bool, sym, ap, ◌∙◌, subst, lt_of_lt_of_le}
use Rattle.std.specs.Prelude.{IfSome}
use Rattle.section_table.specs.declared.views.View.{View}
use Rattle.section_table.specs.PassViews.{IsWithin, flagged}
use Rattle.section_table.specs.Shown.{held_of}
use Rattle.section_table.specs.Acts.{HasMoved}
use Rattle.section_table.specs.Attempts.{IsEventOf}
use Rattle.section_table.proofs.Tries.{not_seen, unflagged, has_caller, reaches_after, has_moved, event_of}
use Rattle.section_table.proofs.turn.turn.Goals as goal

pub wish_of-requires : goal.wish_of-requires
wish_of-requires g c = let x = has_caller c.args.pass.now.place.me.0 c.args.pass.now.callers.items c.args.pass.now.same c.args.caller c.requires.has in (x.0, x.1)

pub returns-in_default-clause-tries : goal.returns-in_default-clause-tries
returns-in_default-clause-tries g c =
    let v : View g.row.P-Region.Denot g.row.P-Local.Denot = c.args.pass.now.place.me.0 in
    let x = has_caller v c.args.pass.now.callers.items c.args.pass.now.same c.args.caller c.requires.has in
    let unhalted = not_seen v.saw_halt c.is_halted.result c.is_halted.ensures.again c.if-is_halted.false in record {
      held = held_of x.0;
      has = x.2;
      ended = sym (c.wish_of.ensures x.0 x.1).0 ∙ c.in_default.is;
      same = ap (λ m. m.0) c.is_halted.ensures.view ∙ (ap (λ (b : Bool). flagged b v.made_halt v) c.if-is_halted.false ∙ unflagged v unhalted);
      unhalted = unhalted;
    }

pub try_caller-requires-clause-table : goal.try_caller-requires-clause-table
try_caller-requires-clause-table g c =
    let x = has_caller c.args.pass.now.place.me.0 c.args.pass.now.callers.items c.args.pass.now.same c.args.caller c.requires.has in
    let told = c.wish_of.ensures x.0 x.1 in
    let below : c.in-Some.region < g.P.Parts.meaning.reach x.0.local = subst (λ o. IfSome o (λ k. k < g.P.Parts.meaning.reach x.0.local)) c.in-Some.is told.1 in
    let reach : g.P.Parts.meaning.reach x.0.local ≤ c.args.pass.now.place.table_id.slots = c.args.pass.now.reaches c.args.caller (held_of x.0) x.2 in
    (c.is_halted.ensures.table.0 ∙ c.requires.table.0, subst (λ (z : ℕ). c.in-Some.region < z) (ap (λ z. z.slots) c.requires.table.0) (lt_of_lt_of_le below reach), c.requires.table.1)

pub try_caller-requires-clause-wants : goal.try_caller-requires-clause-wants
try_caller-requires-clause-wants g c =
    let x = has_caller c.args.pass.now.place.me.0 c.args.pass.now.callers.items c.args.pass.now.same c.args.caller c.requires.has in
    (x.0, x.1, sym (c.wish_of.ensures x.0 x.1).0 ∙ c.in-Some.is)

pub invariant_of-pass-in-Ok-1 : goal.invariant_of-pass-in-Ok-1
invariant_of-pass-in-Ok-1 g c =
    let v : View g.row.P-Region.Denot g.row.P-Local.Denot = c.args.pass.now.place.me.0 in
    let unhalted = not_seen v.saw_halt c.is_halted.result c.is_halted.ensures.again c.if-is_halted.false in
    let unchanged : c.is_halted.new.place.me.0 ≡ v = ap (λ m. m.0) c.is_halted.ensures.view ∙ (ap (λ (b : Bool). flagged b v.made_halt v) c.if-is_halted.false ∙ unflagged v unhalted) in record {
      rests = c.try_caller.ensures.rests;
      same = c.try_caller.ensures.same;
      reaches = subst (λ (n : ℕ). IsWithin g.P.Parts.meaning.reach n c.try_caller.new.place.me.0) (sym (ap (λ z. z.slots) (c.try_caller.ensures.table.0 ∙ c.is_halted.ensures.table.0)))
          (reaches_after g.P.Parts.meaning c.args.caller c.in-Some.region c.args.pass.now.place.table_id.slots c.is_halted.new.place.me.0 c.try_caller.new.place.me.0 c.try_caller.result
          (subst (IsWithin g.P.Parts.meaning.reach c.args.pass.now.place.table_id.slots) (sym unchanged) c.args.pass.now.reaches) c.try_caller.ensures.tried);
    }

pub returns-in-Ok-Some-clause-tries : goal.returns-in-Ok-Some-clause-tries
returns-in-Ok-Some-clause-tries g c =
    let v : View g.row.P-Region.Denot g.row.P-Local.Denot = c.args.pass.now.place.me.0 in
    let unhalted = not_seen v.saw_halt c.is_halted.result c.is_halted.ensures.again c.if-is_halted.false in
    let unchanged : c.is_halted.new.place.me.0 ≡ v = ap (λ m. m.0) c.is_halted.ensures.view ∙ (ap (λ (b : Bool). flagged b v.made_halt v) c.if-is_halted.false ∙ unflagged v unhalted) in
    let event : IsEventOf g.P.Parts.meaning c.args.caller c.in-Some.region c.is_halted.new.place.me.0 c.try_caller.new.place.me.0 c.in-Ok-Some.stamp = event_of g.P.Parts.meaning c.args.caller c.in-Some.region _ _ c.try_caller.result c.in-Ok-Some.stamp (c.in-Ok-Some.is ∙ ap (λ o. Ok o) c.in-Ok-Some.field-0-is) c.try_caller.ensures.tried in
    subst (HasMoved g.P.Parts.meaning c.args.caller v c.try_caller.new.place.me.0) (sym c.in-Ok-Some.stamp-is) (has_moved g.P.Parts.meaning c.args.caller c.in-Some.region v c.try_caller.new.place.me.0 c.in-Ok-Some.stamp unhalted
    (subst (λ (z : View g.row.P-Region.Denot g.row.P-Local.Denot). IsEventOf g.P.Parts.meaning c.args.caller c.in-Some.region z c.try_caller.new.place.me.0 c.in-Ok-Some.stamp) unchanged event))

pub returns-in-Err-clause-tries : goal.returns-in-Err-clause-tries
returns-in-Err-clause-tries g c =
    let v : View g.row.P-Region.Denot g.row.P-Local.Denot = c.args.pass.now.place.me.0 in
    let x = has_caller v c.args.pass.now.callers.items c.args.pass.now.same c.args.caller c.requires.has in
    let unhalted = not_seen v.saw_halt c.is_halted.result c.is_halted.ensures.again c.if-is_halted.false in
    let unchanged : c.is_halted.new.place.me.0 ≡ v = ap (λ m. m.0) c.is_halted.ensures.view ∙ (ap (λ (b : Bool). flagged b v.made_halt v) c.if-is_halted.false ∙ unflagged v unhalted) in record {
      held = held_of x.0;
      number = c.in-Some.region;
      has = x.2;
      wants = sym (c.wish_of.ensures x.0 x.1).0 ∙ c.in-Some.is;
      leaves = ap (λ m. m.0) c.halt.ensures.view ∙ ap (flagged true true) (c.in-Err.ensures.tried ∙ unchanged);
      unhalted = unhalted;
    }
