use Rattle.vm_model.proofs.Halves.{IsHalved}
use Rattle.vm_model.proofs.digits.binary_digits.Given as goal

abbrev pub invariant-loop-rest : goal.invariant-loop-rest
invariant-loop-rest l = IsHalved l.number l.digits l.rest

abbrev pub decreases-loop-rest : goal.decreases-loop-rest
decreases-loop-rest l = l.rest
