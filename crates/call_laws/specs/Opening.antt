-- The opening comes first: no other caller has an event before its calls are all answered.
use Rattle.std.specs.Prelude.{◌≡◌, ℕ, suc, ◌<◌, ◌≤◌, length, slice_get, Some}
use Rattle.vm_model.specs.Events.{Event}
use Rattle.vm_model.specs.History.{World, Local}
use Rattle.vm_model.specs.Laws.{Always}

pub record IsOpeningFirst (w : World) : Type 0 where
  -- where another caller is there at all, the opening's calls are answered
  pub answered : (k : ℕ) (l : Local) → slice_get w.locals (suc k) ≡ Some l → (first : Local) × (slice_get w.locals 0 ≡ Some first) × (length first.answers ≡ length first.calls)
  pub before : (i j : ℕ) (e other : Event) → slice_get w.events i ≡ Some e → slice_get w.events j ≡ Some other → e.caller ≡ 0 → 1 ≤ other.caller → i < j
  -- each event is that of a caller
  pub whose : (i : ℕ) (e : Event) → slice_get w.events i ≡ Some e → (l : Local) × (slice_get w.locals e.caller ≡ Some l)

abbrev pub TheOpeningComesFirst : Type 0
TheOpeningComesFirst = Always (λ c m w. IsOpeningFirst w)
