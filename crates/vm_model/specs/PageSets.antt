-- The pages of a unit that are in a set.
use Rattle.std.specs.Prelude.{ℕ, ◌==◌, Bool, List, filter}
use Rattle.std.specs.Int.{bit_at}
use Rattle.vm_model.specs.declared.areas.PageSet.{PageSet}
use Rattle.vm_model.specs.Space.{count_from}

-- whether the page is in the set
abbrev pub has_page : PageSet → ℕ → Bool
has_page pages page = bit_at pages.mask page == 1

-- the pages of a set by rising number; it does not open by itself, since 64 tests would be written out
unfoldable pub pages_in : PageSet → List ℕ
pages_in set = filter (has_page set) (count_from 64 0)
