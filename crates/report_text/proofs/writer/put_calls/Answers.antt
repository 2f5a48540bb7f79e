use Rattle.std.proofs.Common.{◌≡◌, ◌∙◌, ◌++◌, List, ap, append_assoc, subst, OnOk}
use Rattle.std.specs.List.{flat_map}
use Rattle.vm_model.specs.declared.calls.Entry.{Entry}
use Rattle.report_text.specs.Tally.{entry_line, tally_line}
use Rattle.report_text.specs.TableLines.{events_line}
use Rattle.report_text.proofs.JoinedTexts.{behind_both}
use Rattle.report_text.proofs.writer.put_calls.Goals as goal

pub returns : goal.returns
returns c =
    let t = c.args.tables.now in
    let front = flat_map entry_line t.entries ++ tally_line t.entries in
    let entries : c.put_rows.new.text.items ≡ c.args.text.now.items ++ flat_map entry_line t.entries = c.in_ok-put_rows.ensures ∙ ap (λ (es : List Entry). c.args.text.now.items ++ flat_map entry_line es) c.as_slice.ensures in
    let tally : c.put_tally.new.text.items ≡ c.put_rows.new.text.items ++ tally_line t.entries = c.in_ok-put_tally.ensures ∙ ap (λ (es : List Entry). c.put_rows.new.text.items ++ tally_line es) c.as_slice-2.ensures in
    subst (λ x. OnOk c.put_events.result (c.put_events.new.text.items ≡ x))
    (ap (λ x. x ++ events_line t.events) (behind_both c.args.text.now.items c.put_rows.new.text.items c.put_tally.new.text.items (flat_map entry_line t.entries) (tally_line t.entries) entries tally) ∙ append_assoc c.args.text.now.items front (events_line t.events))
    c.put_events.ensures
