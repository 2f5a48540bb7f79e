-- A scan of bits from the front, from the end, and for the first free one; and the audit and the hints that it gives.
use Rattle.std.proofs.Common.{◌≡◌, ℕ, zero, suc, ◌+◌, ◌-◌, ◌*◌, ◌<◌, Bool, true, false, not, List, [], ◌∷◌, ◌++◌, length, map, take, drop, get_or, refl, ap, sym, ◌∙◌, append_assoc, add-one, arith}
use Rattle.std.proofs.lemmas.List.{drop_more, take_more, map-append}
use Rattle.vm_model.specs.declared.rows.Hint.{Hint}
use Rattle.vm_model.specs.declared.rows.HintRow.{HintRow}
use Rattle.vm_model.specs.declared.rows.ChunkAudit.{ChunkAudit}
use Rattle.vm_model.specs.Space.{begins_free, count_from}
use Rattle.vm_model.specs.Bits.{leading_free, hint_of, block_bits}
use Rattle.vm_model.specs.Tables.{hint_row}

-- all bits before the place are free
abbrev pub AreFreeTo : List Bool → ℕ → Type 0
AreFreeTo bits place = leading_free bits ≡ place + leading_free (drop place bits)

pub one_free : (bits : List Bool) (place : ℕ) (d : Bool) → place < length bits → get_or bits place d ≡ false → AreFreeTo bits place → AreFreeTo bits (place + 1)
one_free bits place d low free before =
    let next : leading_free (drop place bits) ≡ suc (leading_free (drop (place + 1) bits)) = ap leading_free (drop_more bits place d low ∙ ap (λ b. b ∷ drop (place + 1) bits) free) in
    omega (arith, before, next)

pub one_taken : (bits : List Bool) (place : ℕ) (d : Bool) → place < length bits → get_or bits place d ≡ true → AreFreeTo bits place → place ≡ leading_free bits
one_taken bits place d low taken before =
    let next : leading_free (drop place bits) ≡ 0 = ap leading_free (drop_more bits place d low ∙ ap (λ b. b ∷ drop (place + 1) bits) taken) in
    omega (arith, before, next)

-- one more bit of a list, from whether it is free
pub one_more : (bits : List Bool) (place : ℕ) (free : Bool) (plain : List Bool) → place < length bits → free ≡ begins_free 1 (drop place bits) → plain ≡ take place bits → plain ++ not free ∷ [] ≡ take (place + 1) bits
one_more bits place free plain low is before =
    ap (λ b. plain ++ not b ∷ []) (is ∙ ap (begins_free 1) (drop_more bits place false low))
    ∙ ap (λ b. plain ++ b ∷ []) (bit_of (get_or bits place false) (drop (place + 1) bits))
    ∙ ap (λ xs. xs ++ get_or bits place false ∷ []) before
    ∙ sym (take_more bits place false low)
  where
    bit_of : (b : Bool) (rest : List Bool) → not (begins_free 1 (b ∷ rest)) ≡ b
    bit_of true rest = refl
    bit_of false rest = refl

-- the hint of one more page
count_more : (n first : ℕ) → count_from (suc n) first ≡ count_from n first ++ (first + n) ∷ []
count_more zero first = ap (λ x. x ∷ []) (let e : first ≡ first + 0 = omega arith in e)
count_more (suc n) first = ap (λ xs. first ∷ xs) (count_more n (suc first)) ∙ ap (λ x. first ∷ count_from n (suc first) ++ x ∷ []) (let e : suc first + n ≡ first + suc n = omega arith in e)

pub one_hint : (number block : ℕ) (taken plain : List Bool) (kept scanned : Hint) (old rows new : List HintRow) → plain ≡ taken → kept ≡ hint_of (block_bits taken block)
    → scanned ≡ hint_of (take (1024 * block + 1024 - 1024 * block) (drop (1024 * block) plain)) → rows ≡ old ++ map (hint_row number taken) (count_from block 0)
    → new ≡ rows ++ record { chunk = number; block = block; kept = kept; plain = scanned } ∷ [] → new ≡ old ++ map (hint_row number taken) (count_from (block + 1) 0)
one_hint number block taken plain kept scanned old rows new same hint scan before pushed =
    let whole : 1024 * block + 1024 - 1024 * block ≡ 1024 = omega arith in
    let found : scanned ≡ hint_of (block_bits taken block) = scan ∙ ap (λ n. hint_of (take n (drop (1024 * block) plain))) whole ∙ ap (λ bits. hint_of (block_bits bits block)) same in
    let row : (let r : HintRow = record { chunk = number; block = block; kept = kept; plain = scanned } in r) ≡ hint_row number taken block = cc in
    let numbers : count_from block 0 ++ block ∷ [] ≡ count_from (block + 1) 0 =
    sym (count_more block 0 ∙ ap (λ n. count_from block 0 ++ n ∷ []) (let e : 0 + block ≡ block = omega arith in e)) ∙ ap (λ n. count_from n 0) (sym (add-one block)) in
    pushed ∙ ap (λ xs. xs ++ record { chunk = number; block = block; kept = kept; plain = scanned } ∷ []) before ∙ append_assoc old (map (hint_row number taken) (count_from block 0)) _
    ∙ ap (λ r. old ++ (map (hint_row number taken) (count_from block 0) ++ r ∷ [])) row
    ∙ ap (λ rs. old ++ rs) (sym (map-append (hint_row number taken) (count_from block 0) (block ∷ [])))
    ∙ ap (λ ns. old ++ map (hint_row number taken) ns) numbers

pub same_audit : (number start start' run run' slot slot' empty empty' : ℕ) → start ≡ start' → run ≡ run' → slot ≡ slot' → empty ≡ empty'
    → (let a : ChunkAudit = record { chunk = number; run_start = start; run = run; slot = slot; empty = empty } in a) ≡ record { chunk = number; run_start = start'; run = run'; slot = slot'; empty = empty' }
same_audit number start start' run run' slot slot' empty empty' a b d e = cc
