-- Picks one after another, and the steps of an end.
use Rattle.std.proofs.Common.{◌+◌, ◌<◌, length, take, get_or, add-one, ◌≡◌, ℕ, List, [], ◌∷◌, ◌++◌, refl, ap, sym, ◌∙◌, suc, zero, Option, Some, None}
use Rattle.std.proofs.Math.Seq.{take-suc}
use Rattle.vm_model.specs.History.{World, step, pick_all, finish, first_mover}
use Rattle.map_laws.proofs.EndProofs.{finish_zero, finish_some, finish_stays}

pub pick_all-append : (w : World) (xs ys : List ℕ) → pick_all w (xs ++ ys) ≡ pick_all (pick_all w xs) ys
pick_all-append w [] ys = refl
pick_all-append w (x ∷ xs) ys = pick_all-append (step w x) xs ys

pub pick_all-next : (w : World) (xs : List ℕ) (i d : ℕ) → i < length xs → step (pick_all w (take i xs)) (get_or xs i d) ≡ pick_all w (take (i + 1) xs)
pick_all-next w xs i d h =
    sym (pick_all-append w (take i xs) (get_or xs i d ∷ []))
    ∙ ap (pick_all w) (sym (ap (λ n. take n xs) (add-one i) ∙ take-suc xs i d h))

-- one step more
finish_next_by : (n : ℕ) (w : World) (k : ℕ) (first : Option ℕ) → first_mover w ≡ first → ((v : World) → first_mover (finish n v) ≡ Some k → finish (suc n) v ≡ step (finish n v) k) → first_mover (finish (suc n) w) ≡ Some k → finish (suc (suc n)) w ≡ step (finish (suc n) w) k
finish_next_by n w k None e before h = let no : None ≡ Some k = sym e ∙ sym (ap first_mover (finish_stays (suc n) w e)) ∙ h in cc
finish_next_by n w k (Some j) e before h =
    finish_some (suc n) w j e
    ∙ before (step w j) (ap first_mover (sym (finish_some n w j e)) ∙ h)
    ∙ ap (λ v. step v k) (sym (finish_some n w j e))

finish_next_suc : (n : ℕ) (w : World) (k : ℕ) → first_mover (finish n w) ≡ Some k → finish (suc n) w ≡ step (finish n w) k
finish_next_suc zero w k h =
    finish_some 0 w k (ap first_mover (sym (finish_zero w)) ∙ h)
    ∙ finish_zero (step w k)
    ∙ ap (λ v. step v k) (sym (finish_zero w))
finish_next_suc (suc n) w k h = finish_next_by n w k (first_mover w) refl (λ v. finish_next_suc n v k) h

pub finish_next : (n : ℕ) (w : World) (k : ℕ) → first_mover (finish n w) ≡ Some k → finish (n + 1) w ≡ step (finish n w) k
finish_next n w k h = ap (λ i. finish i w) (add-one n) ∙ finish_next_suc n w k h
