use Rattle.std.proofs.Common.{rules, ◌≡◌, List, map, set, Some, Option, slice_get, sym, ap, ◌∙◌, subst}
use lib.Seq.{map-set}
use Rattle.section_table.specs.declared.caller.Caller.{Caller}
use Rattle.section_table.specs.declared.views.Held.{Held}
use Rattle.section_table.specs.Shown.{shown_of, held_of}
use Rattle.section_table.specs.PassViews.{Has}
use Rattle.section_table.proofs.ElementsByPlace.{some_is, got_map}
use Rattle.section_table.proofs.Tries.{found, set_twice, held_after, attempted}
use Rattle.section_table.proofs.turn.try_caller.Goals as goal

pub returns-clause-same : goal.returns-clause-same
returns-clause-same g c =
    let w = c.requires.wants in
    let same : w.0 ≡ c.in-Some.mine = sym (some_is c.in-Some.mine w.0 (sym c.in-Some.is ∙ (c.take.ensures.value ∙ found c.args.callers.now.items c.args.caller _ _ w.1 c.index_mut.ensures.value))) in
    let has : Has c.args.place.now.me.0 c.args.caller (held_of c.in-Some.mine) = ap (λ (l : List (Option (Held g.row.P-Local.Denot))). slice_get l c.args.caller) c.requires.same
    ∙ (got_map shown_of c.args.callers.now.items c.args.caller (Some w.0) w.1 ∙ ap (λ (x : Caller g.row.P-Local.Denot). Some (Some (held_of x))) same) in
    held_after g.P.Parts.meaning c.args.caller c.args.region c.args.place.now.me.0 c.try_mine-done.new.place.me.0 (held_of c.in-Some.mine) (held_of c.try_mine-done.new.mine) c.try_mine-done.result has c.try_mine-done.ensures.tried
    ∙ (ap (λ (l : List (Option (Held g.row.P-Local.Denot))). set l c.args.caller (Some (held_of c.try_mine-done.new.mine))) c.requires.same
    ∙ (sym (map-set shown_of c.args.callers.now.items c.args.caller (Some c.try_mine-done.new.mine)) ∙ ap (map shown_of) (sym (set_twice c.args.callers.now.items c.args.caller c.take.new.self (Some c.try_mine-done.new.mine)))))

pub returns-clause-tried : goal.returns-clause-tried
returns-clause-tried g c =
    let w = c.requires.wants in
    let same : w.0 ≡ c.in-Some.mine = sym (some_is c.in-Some.mine w.0 (sym c.in-Some.is ∙ (c.take.ensures.value ∙ found c.args.callers.now.items c.args.caller _ _ w.1 c.index_mut.ensures.value))) in
    let has : Has c.args.place.now.me.0 c.args.caller (held_of c.in-Some.mine) = ap (λ (l : List (Option (Held g.row.P-Local.Denot))). slice_get l c.args.caller) c.requires.same
    ∙ (got_map shown_of c.args.callers.now.items c.args.caller (Some w.0) w.1 ∙ ap (λ (x : Caller g.row.P-Local.Denot). Some (Some (held_of x))) same) in
    attempted g.P.Parts.meaning c.args.caller c.args.region c.args.place.now.me.0 c.try_mine-done.new.place.me.0 (held_of c.in-Some.mine) (held_of c.try_mine-done.new.mine) c.try_mine-done.result has
    (ap (λ (x : Caller g.row.P-Local.Denot). g.P.Parts.meaning.wanted x.local) (sym same) ∙ w.2) c.requires.rests.0 c.try_mine-done.ensures.rests.0 c.try_mine-done.ensures.reach c.try_mine-done.ensures.tried
