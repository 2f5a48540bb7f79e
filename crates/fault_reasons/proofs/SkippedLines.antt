-- Lines that are skipped one after another.
use Rattle.std.proofs.Common.{◌≡◌, ◌<◌, ◌+◌, ◌-◌, ℕ, zero, suc, List, [], refl, ap, arith}
use Rattle.fault_reasons.specs.Quotes.{skip_lines, after_line}

pub skip_on : (n k : ℕ) (text : List ℕ) → k < n → skip_lines (n - k) text ≡ skip_lines (n - (k + 1)) (after_line text)
skip_on n k text lt =
    let e : n - k ≡ suc (n - (k + 1)) = omega arith in
    ap (λ m. skip_lines m text) e

pub skip_nothing : (n : ℕ) → skip_lines n [] ≡ []
skip_nothing zero = refl
skip_nothing (suc n) = skip_nothing n
