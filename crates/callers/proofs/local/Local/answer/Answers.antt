use Rattle.std.proofs.Common.{false, length, map, ◌∙◌, ap, sym, subst, arith, slice_get, List}
use Rattle.std.specs.Arc.{arc_value}
use Rattle.vm_model.specs.declared.calls.Call.{Call}
use Rattle.vm_model.specs.Calls.{begin}
use Rattle.unit_layout.specs.Config.{setup_of}
use Rattle.unit_layout.specs.declared.config.Config.{Config}
use Rattle.vm_model.specs.History.{Local, moved_to}
use Rattle.vm_model.specs.Next.{Answer}
use Rattle.callers.specs.CarriedPlaces.{made_of, place_of, nothing, IsWhole}
use Rattle.callers.specs.declared.answers.Answered.{Answered as Code}
use Rattle.callers.specs.CallerParts.{HasCall, MadeBy, answer_of}
use Rattle.callers.proofs.FreedTold.{outcomes_then}
use Rattle.callers.proofs.AnswersGiven.{more_to_answer, answered_orderly, answered_view, has_call_at}
use Rattle.callers.proofs.local.Local.answer.Goals as goal

pub note-requires-clause-room : goal.note-requires-clause-room
note-requires-clause-room c = let more = more_to_answer c.self.inside c.args.self.now c.self.invariant c.self.view_is c.requires.at_hand in let room = c.self.invariant.room in omega arith

pub push_reserved-requires : goal.push_reserved-requires
push_reserved-requires c = let more = more_to_answer c.self.inside c.args.self.now c.self.invariant c.self.view_is c.requires.at_hand in let made = c.self.invariant.made in let room = c.self.invariant.made_room in let n = c.self.inside.outcomes.ok in omega arith

pub invariant_of-self : goal.invariant_of-self
invariant_of-self c =
    let at = has_call_at c.self.inside.calls (length c.self.inside.book.rows) (more_to_answer c.self.inside c.args.self.now c.self.invariant c.self.view_is c.requires.at_hand) in
    let pushed = outcomes_then c.self.inside.calls c.as_slice.result.now at.0 c.args.reply c.self.inside.outcomes.items c.deref_mut.result.now c.note_free.new.outcomes c.push_reserved.new.self.items c.self.inside.outcomes.len (record { made = c.args.made; freed = false })
    c.as_slice.ensures c.deref_mut.ensures.value c.note_free.ensures.freed (ap (slice_get c.self.inside.calls) c.self.invariant.made ∙ at.1) c.self.inside.outcomes.ok.0 c.push_reserved.ensures.items in
    answered_orderly c.self.inside c.self.invariant c.args.reply c.args.made at.0 at.1 c.note.new.self c.push_reserved.new.self c.place_before-self-inside.result c.clear.new.self c.note.ensures pushed c.clear.ensures.items c.clear.ensures.capacity
    (let room = c.self.invariant.made_room in let same = c.push_reserved.ensures.capacity in omega arith) c.place_before-self-inside.ensures.sized c.place_before-self-inside.ensures.empty_handed
    (subst (λ (x : Config). IsWhole (setup_of x) (place_of c.place_before-self-inside.result nothing)) c.deref.ensures c.place_before-self-inside.ensures.whole) c.place_before-self-inside.ensures.unfilled
    (subst (λ n. HasCall c.place_before-self-inside.result n c.self.inside.calls) (c.len.ensures ∙ c.push_reserved.new.self.ok.0) (subst (HasCall c.place_before-self-inside.result c.len.result) c.as_slice-2.ensures c.place_before-self-inside.ensures.at_hand))

pub returns : goal.returns
returns c =
    let at = has_call_at c.self.inside.calls (length c.self.inside.book.rows) (more_to_answer c.self.inside c.args.self.now c.self.invariant c.self.view_is c.requires.at_hand) in
    let pushed = outcomes_then c.self.inside.calls c.as_slice.result.now at.0 c.args.reply c.self.inside.outcomes.items c.deref_mut.result.now c.note_free.new.outcomes c.push_reserved.new.self.items c.self.inside.outcomes.len (record { made = c.args.made; freed = false })
    c.as_slice.ensures c.deref_mut.ensures.value c.note_free.ensures.freed (ap (slice_get c.self.inside.calls) c.self.invariant.made ∙ at.1) c.self.inside.outcomes.ok.0 c.push_reserved.ensures.items in
    answered_view c.self.inside c.self.invariant c.args.reply c.args.made at.0 at.1 c.note.new.self c.push_reserved.new.self c.place_before-self-inside.result c.clear.new.self c.note.ensures pushed c.clear.ensures.items c.clear.ensures.capacity
    c.place_before-self-inside.ensures.empty_handed
    (λ answers made.
    c.place_before-self-inside.ensures.place answers (subst (λ own. MadeBy own answers) (sym c.deref-3.ensures.value) made)
    ∙ ap (λ (x : Config). begin (setup_of x) (map answer_of c.as_slice-3.result.now) answers (slice_get c.as_slice-2.result.now c.len.result)) c.deref.ensures
    ∙ ap (λ (opening : List Code). begin (setup_of (arc_value c.self.inside.config)) (map answer_of opening) answers (slice_get c.as_slice-2.result.now c.len.result)) (c.as_slice-3.ensures ∙ c.deref-2.ensures)
    ∙ ap (λ n. begin (setup_of (arc_value c.self.inside.config)) (map answer_of (arc_value c.self.inside.opening)) answers (slice_get c.as_slice-2.result.now n)) (c.len.ensures ∙ c.push_reserved.new.self.ok.0)
    ∙ ap (λ (calls : List Call). begin (setup_of (arc_value c.self.inside.config)) (map answer_of (arc_value c.self.inside.opening)) answers (slice_get calls (length c.push_reserved.new.self.items))) c.as_slice-2.ensures)
    ∙ ap (λ (l : Local). moved_to l (Answer c.args.reply (made_of c.args.made))) c.self.view_is
