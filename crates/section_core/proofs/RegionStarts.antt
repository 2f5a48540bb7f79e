-- Where regions and callers start.
use Rattle.std.proofs.Common.{slice_index, ◌<◌, ◌≡◌, ℕ, zero, suc, ◌+◌, false, not, List, [], ◌∷◌, ◌++◌, map, replicate, refl, ap, sym, ◌∙◌, arith, append_assoc, add-one}
use Rattle.std.proofs.lemmas.List.{map-append}
use Rattle.vm_model.specs.Space.{runs, count_from}
use Rattle.vm_model.specs.Setup.{Setup, cpus}
use Rattle.vm_model.specs.PlainMap.{Free, is_free, at_first}
use Rattle.vm_model.specs.Parts.{Region, CpuBlocks, cpu_blocks}

map-replicate : {X Y : Type 0} (f : X → Y) (n : ℕ) (x : X) → map f (replicate n x) ≡ replicate n (f x)
map-replicate f zero x = refl
map-replicate f (suc n) x = ap (λ ys. f x ∷ ys) (map-replicate f n x)

-- every page is free at first
pub free_at_first : (n : ℕ) → runs (map (λ mark. not (is_free mark)) (replicate n Free)) ≡ runs (replicate n false)
free_at_first n = ap runs (map-replicate (λ mark. not (is_free mark)) n Free)

-- eight regions in a row, and more behind them
pub same_regions : (items items' more : List Region) (a b c d e f g h a' b' c' d' e' f' g' h' : Region) → items ≡ a ∷ b ∷ c ∷ d ∷ e ∷ f ∷ g ∷ h ∷ [] → items' ≡ items ++ more → a ≡ a' → b ≡ b' → c ≡ c' → d ≡ d' → e ≡ e' → f ≡ f' → g ≡ g' → h ≡ h'
    → items' ≡ a' ∷ b' ∷ c' ∷ d' ∷ e' ∷ f' ∷ g' ∷ h' ∷ more
same_regions items items' more a b c d e f g h a' b' c' d' e' f' g' h' same then_ p q r s t u v w =
    then_ ∙ ap (λ xs. xs ++ more) same ∙ ap (λ z. z ∷ b ∷ c ∷ d ∷ e ∷ f ∷ g ∷ h ∷ more) p ∙ ap (λ z. a' ∷ z ∷ c ∷ d ∷ e ∷ f ∷ g ∷ h ∷ more) q ∙ ap (λ z. a' ∷ b' ∷ z ∷ d ∷ e ∷ f ∷ g ∷ h ∷ more) r
    ∙ ap (λ z. a' ∷ b' ∷ c' ∷ z ∷ e ∷ f ∷ g ∷ h ∷ more) s ∙ ap (λ z. a' ∷ b' ∷ c' ∷ d' ∷ z ∷ f ∷ g ∷ h ∷ more) t ∙ ap (λ z. a' ∷ b' ∷ c' ∷ d' ∷ e' ∷ z ∷ g ∷ h ∷ more) u
    ∙ ap (λ z. a' ∷ b' ∷ c' ∷ d' ∷ e' ∷ f' ∷ z ∷ h ∷ more) v ∙ ap (λ z. a' ∷ b' ∷ c' ∷ d' ∷ e' ∷ f' ∷ g' ∷ z ∷ more) w

-- one number more
count_more : (n first : ℕ) → count_from (suc n) first ≡ count_from n first ++ (first + n) ∷ []
count_more zero first = ap (λ x. x ∷ []) (let e : first ≡ first + 0 = omega arith in e)
count_more (suc n) first = ap (λ xs. first ∷ xs) (count_more n (suc first)) ∙ ap (λ x. first ∷ count_from n (suc first) ++ x ∷ []) (let e : suc first + n ≡ first + suc n = omega arith in e)

first_number : (n cpu : ℕ) → cpu < n → slice_index (replicate n 1) cpu ≡ 1
first_number zero cpu low = absurd (omega arith)
first_number (suc n) zero low = refl
first_number (suc n) (suc cpu) low = first_number n cpu (omega arith)

-- one more processor, without blocks
pub blocks_pushed : (c : Setup) (old now new : List Region) (r : Region) (cpu : ℕ) → cpu < cpus c → now ≡ old ++ map (cpu_blocks (at_first c 0) c.block_pages) (count_from cpu 0) → r ≡ CpuBlocks cpu c.block_pages [] 1 → new ≡ now ++ r ∷ []
    → new ≡ old ++ map (cpu_blocks (at_first c 0) c.block_pages) (count_from (cpu + 1) 0)
blocks_pushed c old now new r cpu low had is pushed =
    let own : r ≡ cpu_blocks (at_first c 0) c.block_pages cpu = is ∙ ap (CpuBlocks cpu c.block_pages []) (sym (first_number (cpus c) cpu low)) in
    let numbers : count_from cpu 0 ++ cpu ∷ [] ≡ count_from (cpu + 1) 0 =
    sym (count_more cpu 0 ∙ ap (λ n. count_from cpu 0 ++ n ∷ []) (let e : 0 + cpu ≡ cpu = omega arith in e)) ∙ ap (λ n. count_from n 0) (sym (add-one cpu)) in
    let grown : map (cpu_blocks (at_first c 0) c.block_pages) (count_from cpu 0) ++ cpu_blocks (at_first c 0) c.block_pages cpu ∷ [] ≡ map (cpu_blocks (at_first c 0) c.block_pages) (count_from (cpu + 1) 0) =
    sym (map-append (cpu_blocks (at_first c 0) c.block_pages) (count_from cpu 0) (cpu ∷ [])) ∙ ap (map (cpu_blocks (at_first c 0) c.block_pages)) numbers in
    pushed ∙ ap (λ xs. xs ++ r ∷ []) had ∙ append_assoc old (map (cpu_blocks (at_first c 0) c.block_pages) (count_from cpu 0)) (r ∷ [])
    ∙ ap (λ x. old ++ (map (cpu_blocks (at_first c 0) c.block_pages) (count_from cpu 0) ++ x ∷ [])) own ∙ ap (λ xs. old ++ xs) grown
