use Rattle.std.proofs.Common.{sym, ◌∙◌, ap, ◌&&◌, Bool, nat_le}
use Rattle.vm_model.proofs.Powers.{is_power_to-bits}
use Rattle.callers.proofs.begin.is_object_alignment.Goals as goal

pub returns-then-is_power_of_two : goal.returns-then-is_power_of_two
returns-then-is_power_of_two c = ap (λ (b : Bool). b && nat_le c.args.align 4096) (sym c.if-is_power_of_two.true ∙ c.is_power_of_two.ensures) ∙ sym (is_power_to-bits 12 c.args.align)

pub returns-else-is_power_of_two : goal.returns-else-is_power_of_two
returns-else-is_power_of_two c = c.if-is_power_of_two.false ∙ ap (λ (b : Bool). b && nat_le c.args.align 4096) (sym c.if-is_power_of_two.false ∙ c.is_power_of_two.ensures) ∙ sym (is_power_to-bits 12 c.args.align)
