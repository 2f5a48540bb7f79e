-- The pages of blocks and of their parts.
use Rattle.std.specs.Prelude.{ℕ, ◌+◌, ◌≤◌, List, map}
use Rattle.vm_model.specs.declared.areas.Span.{Span}
use Rattle.vm_model.specs.Space.{span, end_of, times}
use Rattle.vm_model.specs.PlainMap.{Block, Part}
use Rattle.vm_model.specs.Blocks.{size_of}

-- a block of so many pages, and its parts, each rounded up to a power of two
abbrev pub block_span : (pages : ℕ) → Block → Span
block_span pages b = span b.start pages

abbrev pub part_spans : Block → List Span
part_spans b = map (λ (p : Part). span (b.start + p.offset) (size_of p)) b.parts

-- no page is in two of the spans
abbrev pub ShareNoPage : List Span → Type 0
ShareNoPage spans = (page : ℕ) → times page spans ≤ 1

-- each page of the span is one of the outer span
abbrev pub LiesIn : (outer : Span) → Span → Type 0
LiesIn outer s = (outer.start ≤ s.start) × (end_of s ≤ end_of outer)
