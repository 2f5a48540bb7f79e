-- What holds of the grammar.
use Rattle.std.specs.Prelude.{◌≡◌, ◌⊎◌, ℕ, List, ◌++◌, IsTrue, None}
use Rattle.vm_model.specs.Rules.{IsSetup}
use Rattle.unit_layout.specs.Config.{setup_of}
use Rattle.unit_layout.specs.Refusals.{refusal}
use Rattle.unit_layout.specs.declared.errors.LayoutError.{LayoutError}
use Rattle.trace_text.specs.SpelledLines.{Line, is_spelt, spelled, text_of_line}
use Rattle.trace_text.specs.Reading.{Reading, unread, AreNamed}
use Rattle.trace_text.specs.Grammar.{read_all, IsTraceOf, IsFirstBadLine}
use Rattle.trace_text.specs.ToldTraces.{LayoutStands, IsRefusedLayout, layout_spec, config_of}

-- no two lines have the same fields
abbrev pub FieldsTellLine : Type 0
FieldsTellLine = (l m : Line) → IsTrue (is_spelt l) → IsTrue (is_spelt m) → spelled l ≡ spelled m → l ≡ m

-- no line's text begins another's
abbrev pub TextTellsLine : Type 0
TextTellsLine = (l m : Line) (x y : List ℕ) → IsTrue (is_spelt l) → IsTrue (is_spelt m) → text_of_line l ++ x ≡ text_of_line m ++ y → (l ≡ m) × (x ≡ y)

-- a text is a trace or has a first bad line
abbrev pub TraceOrBadLine : Type 0
TraceOrBadLine = (bytes : List ℕ) → ((told : Reading) × IsTraceOf bytes told) ⊎ ((number : ℕ) × IsFirstBadLine bytes number)

-- and not both
abbrev pub NotBoth : Type 0
NotBoth = (bytes : List ℕ) (told : Reading) (number : ℕ) → IsTraceOf bytes told → IsFirstBadLine bytes number → ⊥

abbrev pub OneTrace : Type 0
OneTrace = (bytes : List ℕ) (told heard : Reading) → IsTraceOf bytes told → IsTraceOf bytes heard → told ≡ heard

abbrev pub OneBadLine : Type 0
OneBadLine = (bytes : List ℕ) (m n : ℕ) → IsFirstBadLine bytes m → IsFirstBadLine bytes n → m ≡ n

-- a layout stands or is refused, and for one reason
abbrev pub StandsOrRefused : Type 0
StandsOrRefused = (bytes : List ℕ) (e : LayoutError) → LayoutStands bytes → IsRefusedLayout bytes e → ⊥

abbrev pub OneRefusal : Type 0
OneRefusal = (bytes : List ℕ) (e f : LayoutError) → IsRefusedLayout bytes e → IsRefusedLayout bytes f → e ≡ f

-- the header of a trace gives a machine with numbers in their ranges, where its layout stands
abbrev pub TraceGivesSetup : Type 0
TraceGivesSetup = (bytes : List ℕ) (told : Reading) → IsTraceOf bytes told → refusal (layout_spec told.header) ≡ None → IsSetup (setup_of (config_of told.header))

-- each name stands for the call of its number in its section
abbrev pub NamesTellCalls : Type 0
NamesTellCalls = (lines : List Line) → AreNamed (read_all unread lines).calls (read_all unread lines).names
