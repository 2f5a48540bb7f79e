-- What a call's target made, where the call can't use it.
use Rattle.std.proofs.Common.{◌≡◌, List, Some, refl}
use Rattle.vm_model.specs.declared.calls.Target.{Target}
use Rattle.vm_model.specs.declared.calls.Call.{Call}
use Rattle.vm_model.specs.declared.calls.Call.TheVariants.{Vfree, UnmapRam, FreePercpu, Add, Sum}
use Rattle.vm_model.specs.Places.{Made, MadeArea, MadePart, MadeObject}
use Rattle.vm_model.specs.Calls.{Answered, target_of}
use Rattle.call_laws.specs.CallTargets.{target_in}

abbrev pub IsNoArea : Made → Type 0
IsNoArea (MadeArea start serial) = ⊥
IsNoArea _ = Unit {0}

abbrev pub IsNoMapping : Made → Type 0
IsNoMapping (MadeArea start serial) = ⊥
IsNoMapping (MadePart cpu page serial) = ⊥
IsNoMapping _ = Unit {0}

abbrev pub IsNoObject : Made → Type 0
IsNoObject (MadeObject at serial) = ⊥
IsNoObject _ = Unit {0}

-- the target's call made nothing that this call can use
abbrev pub IsUnusable : (opening before : List Answered) → Call → Type 0
IsUnusable opening before (Vfree t) = IsNoArea (target_of opening before t)
IsUnusable opening before (UnmapRam t) = IsNoMapping (target_of opening before t)
IsUnusable opening before (FreePercpu t) = IsNoObject (target_of opening before t)
IsUnusable opening before (Add t cpu index amount) = IsNoObject (target_of opening before t)
IsUnusable opening before (Sum t index) = IsNoObject (target_of opening before t)
IsUnusable opening before _ = ⊥

pub unusable_target : (opening before : List Answered) (call : Call) → IsUnusable opening before call → (t : Target) × (target_in call ≡ Some t)
unusable_target opening before (Vfree t) is = (t, refl)
unusable_target opening before (UnmapRam t) is = (t, refl)
unusable_target opening before (FreePercpu t) is = (t, refl)
unusable_target opening before (Add t cpu index amount) is = (t, refl)
unusable_target opening before (Sum t index) is = (t, refl)
unusable_target opening before _ is = absurd is
