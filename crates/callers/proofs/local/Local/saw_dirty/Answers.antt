use Rattle.std.proofs.Common.{◌≡◌, ◌≤◌, ◌++◌, suc, nat_lt, if◌then◌else◌, List, length, option_to_list, sym, ◌∙◌, ap, subst, arith}
use Rattle.std.specs.Arc.{arc_value}
use Rattle.unit_layout.specs.Config.{setup_of}
use Rattle.unit_layout.specs.declared.config.Config.{Config}
use Rattle.vm_model.specs.declared.areas.Span.{Span}
use Rattle.vm_model.specs.declared.calls.Reply.TheVariants as reply
use Rattle.vm_model.specs.Setup.{cpus}
use Rattle.vm_model.specs.Space.{hull}
use Rattle.vm_model.specs.Places as model
use Rattle.vm_model.specs.Places.{Place, ReplyWith}
use Rattle.vm_model.specs.History.{Local}
use Rattle.callers.specs.CarriedPlaces.{carried_at, IsWhole, IsExtra, AreRanges}
use Rattle.callers.specs.CallerParts.{local_of, carried_of}
use Rattle.callers.proofs.AnswersGiven.{more_to_answer, orderly_there, carrying}
use Rattle.callers.proofs.CarriedLists.{ranges_told, ranges_more}
use Rattle.callers.proofs.local.Local.saw_dirty.Goals as goal

pub invariant_of-self : goal.invariant_of-self
invariant_of-self c =
    let stands : (local_of c.self.inside).place ≡ model.LookingAtDirty c.args.cpu (carried_at c.args.self.now.place).ranges = ap (λ (l : Local). l.place) c.self.view_is ∙ c.requires.place in
    let told : c.self.inside.ranges.items ≡ (carried_at c.args.self.now.place).ranges = ranges_told c.self.inside.place (carried_of c.self.inside) c.args.cpu (carried_at c.args.self.now.place).ranges stands in
    let are : AreRanges (setup_of (arc_value c.self.inside.config)) c.args.cpu c.self.inside.ranges.items =
    subst (AreRanges (setup_of (arc_value c.self.inside.config)) c.args.cpu) (sym told) (subst (IsWhole (setup_of (arc_value c.self.inside.config))) stands c.self.invariant.whole) in
    let extra : IsExtra (setup_of (arc_value c.self.inside.config)).space c.args.range = subst (λ (l : Local). IsExtra l.setup.space c.args.range) (sym c.self.view_is) c.requires.range in
    let items : c.deref-2.result.now ≡ c.self.inside.ranges.items ++ option_to_list c.args.range = c.deref-2.ensures.value ∙ c.push_range.ensures.items in
    let many : c.cpus.result ≡ cpus (setup_of (arc_value c.self.inside.config)) = c.cpus.ensures ∙ ap (λ (x : Config). length x.layout.units) c.deref.ensures in
    let place = c.after_range-self-inside.ensures.place (carrying (setup_of (arc_value c.self.inside.config)) c.after_range-self-inside.result c.self.inside.gone c.self.inside.waited c.push_range.new.ranges) (sym c.deref-2.ensures.value) in
    orderly_there c.self.inside c.after_range-self-inside.result c.self.inside.gone c.self.inside.waited c.push_range.new.ranges c.self.invariant c.after_range-self-inside.ensures.sized
    (subst (IsWhole (setup_of (arc_value c.self.inside.config))) (sym (place ∙ ap (λ (rs : List Span). if nat_lt (suc c.args.cpu) c.cpus.result then model.LookingAtDirty (suc c.args.cpu) rs else model.PurgeTaking (hull rs) (ReplyWith reply.Done)) items))
    (ranges_more (setup_of (arc_value c.self.inside.config)) c.args.cpu c.cpus.result c.self.inside.ranges.items c.args.range many are extra))
    (let none = c.after_range-self-inside.ensures.unfilled in omega arith) (c.after_range-self-inside.ensures.at_hand _ _ (more_to_answer c.self.inside c.args.self.now c.self.invariant c.self.view_is c.requires.at_hand))
    (subst (λ n. cpus (setup_of (arc_value c.self.inside.config)) ≤ n) (sym c.push_range.ensures.capacity) c.self.invariant.range_room)
