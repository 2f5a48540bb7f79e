-- Tests on pages of a map.
use Rattle.std.specs.Prelude.{ℕ, Bool, true, false, not, ◌&&◌, ◌||◌, ◌==◌, List, slice_get, Option, Some, None}
use Rattle.std.specs.List.{list_all}
use Rattle.vm_model.specs.declared.areas.Span.{Span}
use Rattle.vm_model.specs.Space.{covers, count_from}
use Rattle.vm_model.specs.Setup.{Setup}
use Rattle.vm_model.specs.PlainMap.{PlainMap, Mark, Free, Held, Live, Waits, Flushing}

-- a test on every page, and on each page of some spans
abbrev pub on_pages : Setup → (ℕ → Bool) → Bool
on_pages c test = list_all test (count_from c.space 0)

abbrev pub on_spans : Setup → List Span → (ℕ → Bool) → Bool
on_spans c spans test = on_pages c (λ page. not (covers spans page) || test page)

abbrev pub is_none_in : Option (Option ℕ) → Bool
is_none_in None = false
is_none_in (Some None) = true
is_none_in (Some (Some frame)) = false

abbrev pub is_some_in : Option (Option ℕ) → Bool
is_some_in None = false
is_some_in (Some None) = false
is_some_in (Some (Some frame)) = true

abbrev pub is_true_in : Option Bool → Bool
is_true_in None = false
is_true_in (Some b) = b

abbrev pub unmapped : PlainMap → ℕ → Bool
unmapped m page = is_none_in (slice_get m.frames page)

abbrev pub mapped : PlainMap → ℕ → Bool
mapped m page = is_some_in (slice_get m.frames page)

abbrev pub stale : PlainMap → ℕ → Bool
stale m page = is_true_in (slice_get m.stale page)

abbrev pub bare : PlainMap → ℕ → Bool
bare m page = unmapped m page && not (stale m page)

-- what a page is marked as
abbrev pub same_mark : Mark → Mark → Bool
same_mark Free Free = true
same_mark (Held caller) (Held own) = caller == own
same_mark (Live serial) (Live own) = serial == own
same_mark Waits Waits = true
same_mark (Flushing caller) (Flushing own) = caller == own
same_mark _ _ = false

abbrev pub is_mark : Mark → Option Mark → Bool
is_mark mark None = false
is_mark mark (Some own) = same_mark mark own

abbrev pub marked : PlainMap → Mark → ℕ → Bool
marked m mark page = is_mark mark (slice_get m.marks page)
