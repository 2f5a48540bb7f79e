use Rattle.vm_model.proofs.LongestRun.{the_longest_run_is_longest, the_longest_run_is_the_only_one}
use Rattle.vm_model.proofs.HintProofs.{the_hint_is_the_only_one}
use Rattle.vm_model.proofs.SlotByRun.{the_slot_goes_by_the_run}
use Rattle.vm_model.proofs.laws.hints.Goals as goal

pub returns : goal.returns
returns c = record { longest = the_longest_run_is_longest; only_run = the_longest_run_is_the_only_one; only_hint = the_hint_is_the_only_one; slot = the_slot_goes_by_the_run }
