-- Who has the two turns.
use Rattle.vm_model.specs.History.{World}
use Rattle.vm_model.specs.Carried.{IsTurnKept, has_purge, has_alloc}
use Rattle.vm_model.specs.Laws.{Always}

pub record AreTurnsKept (w : World) : Type 0 where
  pub purge : IsTurnKept w w.map.purge_turn has_purge
  pub alloc : IsTurnKept w w.map.alloc_turn has_alloc

abbrev pub TheTurnsAreKept : Type 0
TheTurnsAreKept = Always (λ c m w. AreTurnsKept w)
