-- An add changes one word: of all words of all objects, also of those that callers have in hand.
use Rattle.std.specs.Prelude.{◌≡◌, ℕ, ◌*◌, ◌<◌, slice_get, Some, ℤ}
use Rattle.vm_model.specs.Setup.{Setup, cpus}
use Rattle.vm_model.specs.PlainMap.{Chunk, Object}
use Rattle.vm_model.specs.Chunks.{ObjectAt}
use Rattle.vm_model.specs.Events.{AddWord}
use Rattle.vm_model.specs.Effects.{effect}
use Rattle.vm_model.specs.History.{World}
use Rattle.vm_model.specs.LegalHistory.{IsNext}
use Rattle.vm_model.specs.Laws.{Always, object_at, word_of, is_word, grown_if}

pub record DoAddsChangeOneWord (c : Setup) (w : World) : Type 0 where
  pub words : (caller serial cpu index : ℕ) (at : ObjectAt) (amount : ℤ) → IsNext w (record { caller = caller; section = AddWord at serial cpu index amount })
      → (i j cpu' index' : ℕ) (h : Chunk) (o : Object) → slice_get w.map.chunks i ≡ Some h → slice_get h.objects j ≡ Some o → cpu' < cpus c → 4 * index' < o.bytes
      → word_of c (effect c w.map (record { caller = caller; section = AddWord at serial cpu index amount })) (object_at h o) cpu' index'
      ≡ grown_if (is_word at cpu index (object_at h o) cpu' index') (word_of c w.map (object_at h o) cpu' index') amount

abbrev pub AddsChangeOneWord : Type 0
AddsChangeOneWord = Always (λ c m w. DoAddsChangeOneWord c w)
