-- What the layout of a trace that was read says of its bytes.
use Rattle.std.proofs.Common.{◌≡◌, ◌∙◌, ℕ, List, ap, sym, subst, Result, Ok, Err, IsErrAnd, Some, None}
use Rattle.unit_layout.specs.declared.errors.BuildError.{BuildError}
use Rattle.unit_layout.specs.declared.errors.BuildError.TheVariants as build
use Rattle.unit_layout.specs.declared.errors.LayoutError.{LayoutError}
use Rattle.unit_layout.specs.NumberRanges.{IsInRange}
use Rattle.unit_layout.specs.Refusals.{refusal}
use Rattle.trace_text.specs.declared.progress.Progress.{Progress}
use Rattle.trace_text.specs.declared.reader.TraceError.{TraceError}
use Rattle.trace_text.specs.declared.reader.TraceError.TheVariants as error
use Rattle.trace_text.specs.Reading.{Reading, Header}
use Rattle.trace_text.specs.Grammar.{IsTraceOf}
use Rattle.trace_text.specs.HeldLines.{IsHeld, header_of}
use Rattle.trace_text.specs.TraceError.{error_of}
use Rattle.trace_text.specs.ToldTraces.{layout_spec, LayoutStands, IsRefusedLayout}
use Rattle.trace_text.specs.GrammarLaws.{StandsOrRefused, OneRefusal}
use Rattle.trace_text.proofs.Exclusive.{one_trace}
use Rattle.trace_text.proofs.HeaderRanges.{header_in_range}

-- the bytes are a trace, and p holds what it told
abbrev pub IsReadTo : List ℕ → Progress → Type 0
IsReadTo bytes p = (r : Reading) × IsTraceOf bytes r × IsHeld p r

pub held_in_range : (bytes : List ℕ) (p : Progress) → IsReadTo bytes p → IsInRange (layout_spec (header_of p))
held_in_range bytes p (r, trace, held) = subst (λ (h : Header). IsInRange (layout_spec h)) held.header (header_in_range bytes r trace).layout

held_refusal : (p : Progress) (r : Reading) → IsHeld p r → refusal (layout_spec r.header) ≡ refusal (layout_spec (header_of p))
held_refusal p r held = ap (λ (h : Header). refusal (layout_spec h)) held.header

pub layout_stands : (bytes : List ℕ) (p : Progress) → IsReadTo bytes p → refusal (layout_spec (header_of p)) ≡ None → LayoutStands bytes
layout_stands bytes p (r, trace, held) none reading other =
    ap (λ (r : Reading). refusal (layout_spec r.header)) (one_trace bytes reading r other trace) ∙ held_refusal p r held ∙ none

pub layout_refused : (bytes : List ℕ) (p : Progress) (e : LayoutError) → IsReadTo bytes p → refusal (layout_spec (header_of p)) ≡ Some e → IsRefusedLayout bytes e
layout_refused bytes p e (r, trace, held) some = (r, trace, held_refusal p r held ∙ some)

-- the reader says what is wrong with a layout only where that is why none was
pub layout_failed : {T : Type 0} (result : Result T TraceError) (failed : BuildError) (e : LayoutError) → IsErrAnd result (λ f. f ≡ error_of failed) → result ≡ Err (error.Layout e) → failed ≡ build.Layout e
layout_failed {T = T} (Ok value) failed e says same = cc
layout_failed {T = T} (Err f) (build.Layout x) e says same = let own : x ≡ e = cc in ap build.Layout own
layout_failed {T = T} (Err f) build.OutOfMemory e says same = cc

pub stands_or_refused : StandsOrRefused
stands_or_refused bytes e stands (r, trace, some) = let none = stands r trace in cc

pub one_refusal : OneRefusal
one_refusal bytes e f (r, trace, some) (q, other, again) =
    let both : Some e ≡ Some f = sym some ∙ ap (λ (r : Reading). refusal (layout_spec r.header)) (one_trace bytes r q trace other) ∙ again in
    cc
