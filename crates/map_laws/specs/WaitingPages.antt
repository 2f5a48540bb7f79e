-- Pages wait before they are used again: what each page that becomes free has behind it.
use Rattle.std.specs.Prelude.{◌≡◌, ℕ, suc, true, ◌⊎◌, List}
use Rattle.vm_model.specs.declared.areas.Span.{Span}
use Rattle.vm_model.specs.Space.{covers}
use Rattle.vm_model.specs.Setup.{Setup}
use Rattle.vm_model.specs.PlainMap.{PlainMap}
use Rattle.vm_model.specs.Events.{Event, Wait}
use Rattle.vm_model.specs.Laws.{Always, IsEvent, IsTakenFrom, IsFreedAt, IsReturned, IsDropped}

-- event i makes the page wait
pub record IsWaitOf (events : List Event) (i page : ℕ) : Type 0 where
  pub caller : ℕ
  pub waiting : ℕ
  pub spans : List Span
  pub waits : IsEvent events i caller (Wait spans waiting)
  pub waited : covers spans page ≡ true

-- the page waited from event i on, and event k returns it after a flush
pub record HasWaited (c : Setup) (m : PlainMap) (events : List Event) (page i k : ℕ) : Type 0 where
  pub waits : IsWaitOf events i page
  pub since : IsTakenFrom c m events page (suc i) k
  pub returned : IsReturned events page i k

abbrev pub IsFreedWell : Setup → PlainMap → List Event → (page k : ℕ) → Type 0
IsFreedWell c m events page k = ((i : ℕ) × HasWaited c m events page i k) ⊎ IsDropped c m events page k

-- whatever becomes free has waited, or is dropped by the caller that carved it
abbrev pub FreedPagesHaveWaited : Type 0
FreedPagesHaveWaited = Always (λ c m w. (page k : ℕ) → IsFreedAt c m w.events page k → IsFreedWell c m w.events page k)
