-- Which callers a pass has.
use Rattle.std.specs.Prelude.{ℕ}
use Rattle.section_table.specs.declared.views.View.{View}
use Rattle.section_table.specs.PassViews.{HasCaller}

-- each caller that v has, w has too
abbrev pub KeepsCallers : {R L : Type 0} → View R L → View R L → Type 0
KeepsCallers v w = (caller : ℕ) → HasCaller caller v → HasCaller caller w
