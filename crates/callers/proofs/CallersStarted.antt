-- Callers that start one after another.
use Rattle.std.proofs.Common.{◌≡◌, suc, ◌+◌, List, [], ◌∷◌, ◌++◌, length, remove, slice_get, Some, ap, sym, ◌∙◌, append_assoc, length-append, add-one}
use Rattle.vm_model.specs.declared.calls.Call.{Call}
use Rattle.vm_model.specs.Setup.{Setup}
use Rattle.vm_model.specs.Calls.{Answered}
use Rattle.vm_model.specs.History.{Local, started, callers_from}

-- the first of a list, and the others
pub removed_first : {X : Type 0} (xs ys : List X) (x : X) → ys ≡ remove xs 0 → slice_get xs 0 ≡ Some x → xs ≡ x ∷ ys
removed_first [] ys x e h = cc
removed_first (z ∷ xs) ys x e h = let same : z ≡ x = cc in ap (λ w. w ∷ xs) same ∙ ap (λ w. x ∷ w) (sym e)

pub callers_next : (c : Setup) (answers : List Answered) (callers callers' : List Local) (rest rest' : List (List Call)) (calls : List Call) → rest ≡ calls ∷ rest' → callers' ≡ callers ++ started c answers (length callers + 1) calls ∷ []
    → callers ++ callers_from c answers (suc (length callers)) rest ≡ callers' ++ callers_from c answers (suc (length callers')) rest'
callers_next c answers callers callers' rest rest' calls e pushed =
    let more : length callers' ≡ suc (length callers) = ap length pushed ∙ length-append callers (started c answers (length callers + 1) calls ∷ []) ∙ add-one (length callers) in
    ap (λ r. callers ++ callers_from c answers (suc (length callers)) r) e
    ∙ ap (λ n. callers ++ started c answers n calls ∷ callers_from c answers (suc (suc (length callers))) rest') (sym (add-one (length callers)))
    ∙ sym (append_assoc callers (started c answers (length callers + 1) calls ∷ []) (callers_from c answers (suc (suc (length callers))) rest'))
    ∙ ap (λ xs. xs ++ callers_from c answers (suc (suc (length callers))) rest') (sym pushed)
    ∙ ap (λ n. callers' ++ callers_from c answers (suc n) rest') (sym more)
