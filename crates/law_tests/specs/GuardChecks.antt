-- Guards stay bare until they are free: as a test on the whole run of a trace.
use Rattle.std.specs.Prelude.{ℕ, ◌-◌, Bool, true, not, ◌&&◌, List, [], ◌∷◌, ◌++◌, filter, flat_map}
use Rattle.std.specs.List.{list_all}
use Rattle.vm_model.specs.declared.areas.Span.{Span}
use Rattle.vm_model.specs.declared.areas.Area.{Area}
use Rattle.vm_model.specs.declared.areas.AreaKind.{AreaKind}
use Rattle.vm_model.specs.declared.areas.AreaKind.TheVariants as kind
use Rattle.vm_model.specs.Space.{end_of, pages_of}
use Rattle.vm_model.specs.Setup.{Setup}
use Rattle.vm_model.specs.PlainMap.{PlainMap, Free}
use Rattle.vm_model.specs.Events.{Section, Event, Settle}
use Rattle.vm_model.specs.Places.{Place, MappingArea, Dropping, SettlingArea, UnmappingArea}
use Rattle.vm_model.specs.History.{World, Local}
use Rattle.law_tests.specs.Machines.{Machine, first_of}
use Rattle.law_tests.specs.LawChecks.{Test, always, at_last}
use Rattle.law_tests.specs.PageChecks.{bare, marked}

abbrev pub guard_of : AreaKind → Span → List ℕ
guard_of kind.Vmalloc s = (end_of s - 1) ∷ []
guard_of _ s = []

-- of live areas, and of what a caller has in hand
abbrev pub guards_in_hand : Place → List ℕ
guards_in_hand (MappingArea s k) = guard_of k s
guards_in_hand (SettlingArea s k) = guard_of k s
guards_in_hand (Dropping s) = pages_of s
guards_in_hand (UnmappingArea area) = guard_of area.kind area.span
guards_in_hand _ = []

abbrev pub in_hand_bare : Setup → World → Bool
in_hand_bare c w = list_all (λ (a : Area). list_all (bare w.map) (guard_of a.kind a.span)) w.map.areas && list_all (λ (l : Local). list_all (bare w.map) (guards_in_hand l.place)) w.locals

-- the guards that were settled, and that weren't free since
abbrev pub settled_guards : Section → List ℕ
settled_guards (Settle areas first) = flat_map (λ (a : Span × AreaKind). guard_of a.1 a.0) areas
settled_guards _ = []

abbrev pub bare_until_free : Machine → Setup → PlainMap → List ℕ → List Event → Bool
bare_until_free d c m guards [] = true
bare_until_free d c m guards (e ∷ events) =
    let after : PlainMap = d.does c m e.caller e.section in
    let since : List ℕ = filter (λ page. not (marked after Free page)) (guards ++ settled_guards e.section) in
    list_all (bare after) since && bare_until_free d c after since events

abbrev pub guards_stay_bare : Test
guards_stay_bare d t run = always in_hand_bare d t run && at_last (λ c w. bare_until_free d c (first_of t).map [] w.events) d t run
