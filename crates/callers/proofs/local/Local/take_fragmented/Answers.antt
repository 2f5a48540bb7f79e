use Rattle.std.proofs.Common.{◌≡◌, ◌≤◌, ◌<◌, ◌+◌, length, sym, ◌∙◌, ap, subst, arith}
use Rattle.std.specs.Arc.{arc_value}
use Rattle.std.specs.Vec.{vec_len, vec_capacity}
use Rattle.unit_layout.specs.Config.{setup_of}
use Rattle.unit_layout.specs.declared.config.Config.{Config}
use Rattle.vm_model.specs.Setup.{cpus}
use Rattle.vm_model.specs.Places as model
use Rattle.vm_model.specs.History.{Local}
use Rattle.callers.specs.CarriedPlaces.{carried_at, then_of, IsWhole, IsExtra}
use Rattle.callers.specs.CallerParts.{local_of}
use Rattle.callers.proofs.AnswersGiven.{more_to_answer, orderly_there, carrying}
use Rattle.map_blocks.specs.BlockRows as rows
use Rattle.callers.proofs.CarriedLists.{fragments_more}
use Rattle.callers.proofs.local.Local.take_fragmented.Goals as goal

pub invariant_of-self-2 : goal.invariant_of-self-2
invariant_of-self-2 c =
    let stands : (local_of c.self.inside).place ≡ model.PurgeFragmenting c.args.cpu (carried_at c.args.self.now.place).gone c.args.extra (then_of c.args.after) = ap (λ (l : Local). l.place) c.self.view_is ∙ c.requires.place in
    let whole : IsExtra (setup_of (arc_value c.self.inside.config)).space c.args.extra = (subst (IsWhole (setup_of (arc_value c.self.inside.config))) stands c.self.invariant.whole).1 in
    let many : c.cpus.result ≡ cpus (setup_of (arc_value c.self.inside.config)) = c.cpus.ensures ∙ ap (λ (x : Config). length x.layout.units) c.deref.ensures in
    let place = c.after_fragments-self-inside.ensures.place (carrying (setup_of (arc_value c.self.inside.config)) c.after_fragments-self-inside.result c.extend_from_slice.new.self c.self.inside.waited c.self.inside.ranges) (sym c.deref-2.ensures.value) in
    orderly_there c.self.inside c.after_fragments-self-inside.result c.extend_from_slice.new.self c.self.inside.waited c.self.inside.ranges c.self.invariant c.after_fragments-self-inside.ensures.sized
    (subst (IsWhole (setup_of (arc_value c.self.inside.config))) (sym place) (fragments_more (setup_of (arc_value c.self.inside.config)) c.args.cpu c.cpus.result c.deref-2.result.now c.args.extra (then_of c.args.after) many whole))
    (let none = c.after_fragments-self-inside.ensures.unfilled in omega arith) (c.after_fragments-self-inside.ensures.at_hand _ _ (more_to_answer c.self.inside c.args.self.now c.self.invariant c.self.view_is c.requires.at_hand)) c.self.invariant.range_room

-- there was room for the starts
pub returns-in_err-extend_from_slice-clause-err : goal.returns-in_err-extend_from_slice-clause-err
returns-in_err-extend_from_slice-clause-err c =
    let room : vec_len c.reserve.new.self + c.fragmented.result ≤ vec_capacity c.reserve.new.self = c.in_ok-reserve.ensures.ok in
    let full : vec_capacity c.reserve.new.self < vec_len c.reserve.new.self + length c.as_slice.result.now = c.in_err-extend_from_slice.ensures.full in
    let starts : length c.as_slice.result.now ≡ length (rows.fragmented c.args.blocks.now) = ap length (c.as_slice.ensures ∙ c.in_ok-starts.ensures.starts) in
    let count : c.fragmented.result ≡ length (rows.fragmented c.args.blocks.now) = c.fragmented.ensures in
    absurd (omega arith)
