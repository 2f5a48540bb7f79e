-- A pass's callers, as its view has them.
use Rattle.std.specs.Prelude.{Option, Some, None}
use Rattle.section_table.specs.declared.views.Held.{Held}
use Rattle.section_table.specs.declared.caller.Caller.{Caller}

abbrev pub held_of : {L : Type 0} → Caller L → Held L
held_of x = record { local = x.local; stamps = x.stamps.items }

abbrev pub shown_of : {L : Type 0} → Option (Caller L) → Option (Held L)
shown_of (Some x) = Some (held_of x)
shown_of None = None
