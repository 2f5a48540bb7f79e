-- Spans that wait, as a set keeps them.
use Rattle.std.specs.Prelude.{◌≡◌, ℕ, ◌≤◌, List, All}
use Rattle.vm_model.specs.declared.areas.Span.{Span}
use Rattle.vm_model.specs.Space.{HasEnd, sum_of_pages}

abbrev pub HasPage : Span → Type 0
HasPage s = 1 ≤ s.pages

-- each span has a page, and an end
pub record AreWhole (spans : List Span) : Type 0 where
  pub some : All HasPage spans
  pub ends : All HasEnd spans

-- the pages of the spans are counted, and each span has one, and an end
pub record AreCounted (spans : List Span) (pages : ℕ) : Type 0 where
  pub count : pages ≡ sum_of_pages spans
  pub fits : pages ≤ 1048576
  pub some : All HasPage spans
  pub ends : All HasEnd spans
