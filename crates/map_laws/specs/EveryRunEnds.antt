-- Every run of a trace ends, after fewer events than a history may have.
use Rattle.std.specs.Prelude.{◌<◌, length}
use Rattle.vm_model.specs.History.{finish, most_events}
use Rattle.vm_model.specs.LegalHistory.{AllOver}
use Rattle.vm_model.specs.Laws.{Always}

-- from each reached world on, the lowest callers that can move lead to the end of all
abbrev pub EveryRunEnds : Type 0
EveryRunEnds = Always (λ c m w. AllOver (finish most_events w).locals)

abbrev pub HistoriesAreShort : Type 0
HistoriesAreShort = Always (λ c m w. length w.events < most_events)
