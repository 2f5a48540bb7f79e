-- Texts whose lines all stand and whose layout is refused, each with the first reason.
use Rattle.std.specs.Prelude.{ℕ, List, [], ◌∷◌, codes}
use Rattle.unit_layout.specs.declared.errors.LayoutError.{LayoutError}
use Rattle.unit_layout.specs.declared.errors.LayoutError.TheVariants.{NoCpu, TooManyGroups, Overlap, TooWide}
use Rattle.trace_text.specs.ToldTraces.{IsRefusedLayout}

pub record RefusedText : Type 0 where
  pub text : List ℕ
  pub error : LayoutError

abbrev pub refused_texts : List RefusedText
refused_texts =
    record { text = codes "vmtrace 1\nspace 64\ngroup 1 0\ngroup 0 8\nend\n"; error = NoCpu 1 }  -- a group without a processor
    ∷ record { text = codes "vmtrace 1\nspace 64\ngroup 1 0\ngroup 1 8\ngroup 1 16\ngroup 1 24\ngroup 1 32\ngroup 1 40\ngroup 1 48\ngroup 1 56\ngroup 1 64\nend\n"; error = TooManyGroups 9 }  -- a ninth group
    ∷ record { text = codes "vmtrace 1\nspace 64\ngroup 1 0\ngroup 1 4\nend\n"; error = Overlap 0 1 }  -- groups that share pages
    ∷ record { text = codes "vmtrace 1\nspace 64\ngroup 1 0\ngroup 1 1048576\nend\n"; error = TooWide 1048584 }  -- a group beyond the largest space
    ∷ record { text = codes "vmtrace 1\nspace 64\ngroup 1 0\ngroup 1 4\ngroup 0 16\nend\n"; error = NoCpu 2 }  -- the processors are looked at before an overlap
    ∷ record { text = codes "vmtrace 1\nspace 64\ngroup 1 0\ngroup 1 1048576\ngroup 1 1048580\nend\n"; error = Overlap 1 2 }  -- and an overlap before the width
    ∷ []

abbrev pub AreRefused : List RefusedText → Type 0
AreRefused [] = Unit {0}
AreRefused (refused ∷ texts) = IsRefusedLayout refused.text refused.error × AreRefused texts

abbrev pub LayoutsAreRefused : Type 0
LayoutsAreRefused = AreRefused refused_texts
