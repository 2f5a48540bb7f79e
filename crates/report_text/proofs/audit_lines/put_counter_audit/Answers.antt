use Rattle.std.proofs.Common.{◌≡◌, ◌∙◌, ◌++◌, ◌∷◌, [], List, ℤ, ap, codes, decimal, map, subst, OnOk}
use Rattle.std.specs.Fmt.{signed_decimal}
use Rattle.vm_model.specs.Words.{fields}
use Rattle.text_lines.proofs.JoinedFields.{Puts, both, line_text}
use Rattle.report_text.proofs.audit_lines.put_counter_audit.Goals as goal

pub returns : goal.returns
returns c =
    let k = c.args.counter.now in
    let front = codes "counter" ∷ decimal c.args.number ∷ codes "count" ∷ signed_decimal k.count ∷ codes "cells" ∷ [] in
    let names : Puts c.put_field.new.text.items c.put_count.new.text.items front = record { text = c.in_ok-put_count.ensures } in
    let cells : Puts c.put_count.new.text.items c.put_cells.new.text.items (map signed_decimal k.cells) =
    record { text = c.in_ok-put_cells.ensures ∙ ap (λ (zs : List ℤ). c.put_count.new.text.items ++ fields ([] ∷ map signed_decimal zs)) c.as_slice.ensures } in
    subst (λ t. OnOk c.put_field-2.result (c.put_field-2.new.text.items ≡ t))
    (line_text c.args.text.now.items c.put_field.new.text.items c.put_cells.new.text.items (codes "audit") (front ++ map signed_decimal k.cells) c.in_ok-put_field.ensures (both names cells))
    c.put_field-2.ensures
