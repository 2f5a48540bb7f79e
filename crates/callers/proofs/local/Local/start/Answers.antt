use Rattle.std.proofs.Common.{[], length, map, List, sym, ◌∙◌, ap, refl, slice_get}
use Rattle.std.specs.Arc.{arc_value}
use Rattle.callers.specs.declared.answers.Answered.{Answered as Code}
use Rattle.callers.specs.CallerParts.{answer_of}
use Rattle.vm_model.specs.declared.calls.Call.{Call}
use Rattle.vm_model.specs.Calls.{begin}
use Rattle.vm_model.specs.History.{started}
use Rattle.unit_layout.specs.Config.{setup_of}
use Rattle.unit_layout.specs.declared.config.Config.{Config}
use Rattle.callers.proofs.AnswersGiven.{started_view}
use Rattle.callers.proofs.local.Local.start.Goals as goal

pub returns : goal.returns
returns c =
    started_view
    (record {
      alloc = c.args.alloc;
      config = c.args.config;
      caller = c.args.caller;
      opening = c.args.opening;
      calls = c.calls.inside.items.items;
      book = c.in_ok-with_room.field-0;
      outcomes = c.in_ok-with_capacity.field-0;
      events = 0;
      place = c.place_before-place.result;
      gone = c.new.result;
      waited = c.take.result;
      ranges = c.in_ok-ranges.ranges;
    })
    (c.in_ok-with_room.ensures ∙ ap (λ n. record { caller = c.args.caller; rows = []; spare = n }) (ap length (c.as_slice-count.ensures ∙ sym c.calls.view_is)))
    refl c.in_ok-ranges.ensures.items
    c.place_before-place.ensures.empty_handed
    (λ answers made.
    c.place_before-place.ensures.place answers made
    ∙ ap (λ (x : Config). begin (setup_of x) (map answer_of c.as_slice-2.result.now) answers (slice_get c.as_slice.result.now 0)) c.deref.ensures
    ∙ ap (λ (opening : List Code). begin (setup_of (arc_value c.args.config)) (map answer_of opening) answers (slice_get c.as_slice.result.now 0)) (c.as_slice-2.ensures ∙ c.deref-2.ensures)
    ∙ ap (λ (calls : List Call). begin (setup_of (arc_value c.args.config)) (map answer_of (arc_value c.args.opening)) answers (slice_get calls 0)) (c.as_slice.ensures ∙ sym c.calls.view_is))
    ∙ ap (started (setup_of (arc_value c.args.config)) (map answer_of (arc_value c.args.opening)) c.args.caller) c.calls.view_is
