-- Sections as they are written.
use Rattle.std.specs.Prelude.{◌≡◌, ℕ, List, [], ◌∷◌, ◌++◌, codes, decimal}
use Rattle.std.specs.List.{AllZip}
use Rattle.vm_model.specs.Words.{line}
use Rattle.trace_text.specs.SpelledLines.{text_of}
use Rattle.trace_maker.specs.declared.sections.SectionText.{SectionText}
use Rattle.trace_maker.specs.Generated.{Section, Step, Making}

-- the text is that of the section's lines, and the queues are its queues
pub record IsWritten (t : SectionText) (s : Section) : Type 0 where
  pub lines : t.lines.items ≡ text_of s.lines
  pub areas : t.areas.items ≡ s.areas
  pub parts : t.parts.items ≡ s.parts
  pub objects : t.objects.items ≡ s.objects

-- the section of a step is written, and this is the state that it left
pub record IsStep (t : SectionText) (left : ℕ) (step : Step) : Type 0 where
  pub section : IsWritten t step.section
  pub state : left ≡ step.state

-- the sections are written, and this is the state
pub record AreMade (texts : List SectionText) (left : ℕ) (m : Making) : Type 0 where
  pub sections : AllZip IsWritten texts m.sections
  pub state : left ≡ m.state

-- a line takes something under a new name, with two numbers, and the name goes to the end of its queue
pub record Takes (word letter : List ℕ) (number a b : ℕ) (old new names longer : List ℕ) : Type 0 where
  pub line : new ≡ old ++ line (word ∷ (letter ++ decimal number) ∷ decimal a ∷ decimal b ∷ [])
  pub queue : longer ≡ names ++ number ∷ []

-- a line frees the oldest name of a queue, which leaves it; where there is none, the line is a balance
abbrev pub Frees : (word letter old new queue shorter : List ℕ) → Type 0
Frees word letter old new [] shorter = (new ≡ old ++ line (codes "balance" ∷ [])) × (shorter ≡ [])
Frees word letter old new (oldest ∷ queue) shorter = (new ≡ old ++ line (word ∷ (letter ++ decimal oldest) ∷ [])) × (shorter ≡ queue)
