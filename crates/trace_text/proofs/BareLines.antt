-- Lines of a word alone: where they stand.
use Rattle.std.proofs.Common.{◌≡◌, ◌∙◌, ℕ, true, false, List, [], ◌∷◌, refl, ap, sym, codes, subst}
use Rattle.vm_model.specs.declared.calls.Call.{Call}
use Rattle.vm_model.specs.declared.calls.Call.TheVariants as call
use Rattle.trace_text.specs.declared.progress.Progress.{Progress}
use Rattle.vm_model.specs.Words.{fields}
use Rattle.trace_text.specs.SpelledLines.{Line, UnmapAliases, Balance, spelled}
use Rattle.trace_text.specs.Reading.{Reading, with_call}
use Rattle.trace_text.specs.Grammar.{may_stand, read}
use Rattle.trace_text.specs.HeldLines.{IsHeld, Steps, has_place}
use Rattle.trace_text.proofs.Exclusive.{spelt_in}
use Rattle.trace_text.proofs.Outcomes.{line_of, line_of-text}

-- a line that is this word, where it may stand, and what it asks
pub record IsBareLine (r : Reading) (word : List ℕ) (line : Line) (ask : Call) : Type 0 where
  pub guessed : line_of word ≡ line
  pub spells : spelled line ≡ word ∷ []
  pub stands : may_stand r line ≡ has_place r
  pub reads : read r line ≡ record (with_call r ask) { rank = 10 }

pub unmap_aliases_line : (r : Reading) → IsBareLine r (codes "unmap_aliases") UnmapAliases call.UnmapAliases
unmap_aliases_line r = record { guessed = refl; spells = refl; stands = refl; reads = refl }

pub balance_line : (r : Reading) → IsBareLine r (codes "balance") Balance call.Balance
balance_line r = record { guessed = refl; spells = refl; stands = refl; reads = refl }

-- it stands exactly where a call line may come
pub bare_refused : (q : Progress) (r : Reading) (word : List ℕ) (line : Line) (ask : Call) → IsBareLine r word line ask → has_place r ≡ false → Steps r word false q
bare_refused q r word line ask is none = λ l s e.
    let same : l ≡ line = sym (line_of-text word l (spelt_in r l s) e) ∙ is.guessed in
    let stood = sym is.stands ∙ subst (λ (m : Line). may_stand r m ≡ true) same s in
    cc

pub bare_stands : (q : Progress) (r : Reading) (word : List ℕ) (line : Line) (ask : Call) → IsBareLine r word line ask → has_place r ≡ true → IsHeld q (record (with_call r ask) { rank = 10 }) → Steps r word true q
bare_stands q r word line ask is place held = (line, ap fields (sym is.spells), is.stands ∙ place, subst (λ (s : Reading). IsHeld q s) (sym is.reads) held)
