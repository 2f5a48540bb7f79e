-- What the traces show of the law of guards, computed.
use Rattle.std.proofs.Common.{refl}
use Rattle.law_tests.specs.GuardTests.{BareGuardsTested}

pub bare_guards : BareGuardsTested
bare_guards = record { worked = refl; drawn_areas = (refl, refl); drawn_calls = (refl, refl); mapped = refl; waiting = refl; taken = refl; dropped = refl; not_of_live_areas = (refl, refl) }
