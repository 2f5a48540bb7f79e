-- Objects are mapped in every unit, and sums are the adds: as tests.
use Rattle.std.specs.Prelude.{ℕ, ◌+◌, ◌/◌, Bool, true, not, ◌&&◌, ◌||◌, nat_le, min, List, [], ◌∷◌, map, take, ℤ}
use Rattle.std.specs.List.{list_all}
use Rattle.vm_model.specs.declared.areas.Span.{Span}
use Rattle.vm_model.specs.Space.{times, count_from}
use Rattle.vm_model.specs.Setup.{Setup, cpus}
use Rattle.vm_model.specs.PlainMap.{PlainMap, Chunk, Object, is_live}
use Rattle.vm_model.specs.Chunks.{ObjectAt, pages_of_object, object_pages, object_bits, is_populated}
use Rattle.vm_model.specs.Events.{Section, Event, AddWord, SumWords}
use Rattle.vm_model.specs.Places.{Ask, AskAdd, ask}
use Rattle.vm_model.specs.History.{World, Local}
use Rattle.vm_model.specs.Laws.{object_at, all_copies, word_of, is_word, grown_if, added}
use Rattle.law_tests.specs.Machines.{Machine}
use Rattle.law_tests.specs.Same.{same_integer}
use Rattle.law_tests.specs.PageChecks.{mapped}

-- spans with pages are apart exactly where the start of each is in one of them alone
abbrev pub starts_once : List Span → Bool
starts_once spans = list_all (λ (s : Span). nat_le (times s.start spans) 1) spans

-- a live object's pages are populated, and mapped in every unit
abbrev pub is_object_mapped : Setup → PlainMap → Chunk → Object → Bool
is_object_mapped c m h o = not (is_live o.life) || (list_all (is_populated h) (pages_of_object (object_at h o)) && list_all (mapped m) (object_pages c (object_at h o)))

-- and no two objects share a bit, and no two copies a byte
abbrev pub objects_mapped : Setup → World → Bool
objects_mapped c w = list_all (λ (h : Chunk). list_all (is_object_mapped c w.map h) h.objects && starts_once (map object_bits h.objects)) w.map.chunks && starts_once (all_copies c w.map.chunks)

-- an add changes one of the words: of each live object these are tried, at each processor
abbrev pub tried_words : ObjectAt → List ℕ
tried_words at = count_from (min 4 (at.bytes / 4)) 0

abbrev pub is_word_right : Setup → PlainMap → PlainMap → (at : ObjectAt) (cpu index : ℕ) → ℤ → ObjectAt → (cpu' index' : ℕ) → Bool
is_word_right c m m' at cpu index amount own cpu' index' =
    same_integer (word_of c m' own cpu' index') (grown_if (is_word at cpu index own cpu' index') (word_of c m own cpu' index') amount)

abbrev pub are_words_right : Setup → PlainMap → PlainMap → (at : ObjectAt) (cpu index : ℕ) → ℤ → Chunk → Object → Bool
are_words_right c m m' at cpu index amount h o =
    not (is_live o.life) || list_all (λ cpu'. list_all (is_word_right c m m' at cpu index amount (object_at h o) cpu') (tried_words (object_at h o))) (count_from (cpus c) 0)

abbrev pub is_add_right : Machine → Setup → PlainMap → (caller : ℕ) → Ask → Bool
is_add_right d c m k (AskAdd at serial cpu index amount) =
    let m' : PlainMap = d.does c m k (AddWord at serial cpu index amount) in
    list_all (λ (h : Chunk). list_all (are_words_right c m m' at cpu index amount h) h.objects) m.chunks
is_add_right d c m k _ = true

abbrev pub adds_right : Machine → Setup → World → Bool
adds_right d c w = list_all (λ (l : Local). is_add_right d c w.map l.caller (ask l.setup l.place)) w.locals

-- a sum is what was added before it
abbrev pub is_sum_right : List Event → ℕ → Section → Bool
is_sum_right events i (SumWords at serial index total) = same_integer total (added serial index (take i events))
is_sum_right events i _ = true

abbrev pub are_sums_right : List Event → (i : ℕ) → List Event → Bool
are_sums_right all i [] = true
are_sums_right all i (e ∷ events) = is_sum_right all i e.section && are_sums_right all (i + 1) events

abbrev pub sums_right : World → Bool
sums_right w = are_sums_right w.events 0 w.events
