-- Shares and workers by their numbers.
use Rattle.std.proofs.Common.{All, ◌≡◌, ℕ, suc, ◌+◌, ◌<◌, ◌++◌, List, [], ◌∷◌, length, map, get_or, flat_map, refl, sym, ap, ◌∙◌, subst, arith, append_assoc}
use Rattle.std.specs.List.{range_with_len}
use Rattle.std.proofs.lemmas.List.{map-append, length-map}
use Rattle.count_lines.specs.declared.share.Share.{Share}
use Rattle.vm_model.specs.declared.calls.CountLine.{CountLine}
use Rattle.std.proofs.lemmas.List.Elements.{All-nil, All-cons, All-head, All-tail}
use Rattle.count_lines.specs.Shares.{caller_of, lines_in, HasSameLines}
use Rattle.caller_threads.specs.declared.worker.Worker.{Worker}
use Rattle.caller_threads.specs.Workers.{AreNumbered, share_of}

pub first_is : (n : ℕ) (s : Share) (all rest : List Share) → all ≡ s ∷ rest → AreNumbered n all → caller_of s ≡ n
first_is n s all rest e numbered = let h : AreNumbered n (s ∷ rest) = subst (AreNumbered n) e numbered in cc

pub rest_is : (n : ℕ) (s : Share) (all rest : List Share) → all ≡ s ∷ rest → AreNumbered n all → AreNumbered (n + 1) rest
rest_is n s all rest e numbered = let h : AreNumbered n (s ∷ rest) = subst (AreNumbered n) e numbered in cc

-- one share more, off the front of those that are left
pub one_more : (made all : List Share) (s : Share) (items rest : List Share) → items ≡ s ∷ rest → made ++ items ≡ all → (made ++ s ∷ []) ++ rest ≡ all
one_more made all s items rest e so_far = append_assoc made (s ∷ []) rest ∙ ap (λ (xs : List Share). made ++ xs) (sym e) ∙ so_far

pub pushed : (made new : List Worker) (w : Worker) → new ≡ made ++ w ∷ [] → map share_of new ≡ map share_of made ++ share_of w ∷ []
pushed made new w e = ap (map share_of) e ∙ map-append share_of made (w ∷ [])

-- workers whose shares have the same callers and lines, one by one
pub same_callers : (old new : List Worker) → length new ≡ length old → ((k : ℕ) (d : Worker) → k < length old → HasSameLines (get_or old k d).share (get_or new k d).share) → map caller_of (map share_of new) ≡ map caller_of (map share_of old)
same_callers [] [] many same = refl
same_callers [] (w ∷ new) many same = absurd (omega arith)
same_callers (v ∷ old) [] many same = absurd (omega arith)
same_callers (v ∷ old) (w ∷ new) many same =
    ap (λ k. k ∷ map caller_of (map share_of new)) (same 0 v (omega arith)).caller
    ∙ ap (λ (ks : List ℕ). caller_of v.share ∷ ks) (same_callers old new (omega arith) (λ k d low. same (suc k) d (omega arith)))

pub still_numbered : (n : ℕ) (old new : List Worker) (shares : List Share) → map share_of old ≡ shares → length new ≡ length old
    → ((k : ℕ) (d : Worker) → k < length old → HasSameLines (get_or old k d).share (get_or new k d).share) → AreNumbered n shares → AreNumbered n (map share_of new)
still_numbered n old new shares of many same numbered =
    same_callers old new many same
    ∙ ap (map caller_of) of
    ∙ numbered
    ∙ ap (range_with_len n) (sym (ap length of) ∙ length-map old share_of ∙ sym many ∙ sym (length-map new share_of))

pub same_lines : (old new : List Worker) → length new ≡ length old → ((k : ℕ) (d : Worker) → k < length old → HasSameLines (get_or old k d).share (get_or new k d).share) → flat_map lines_in (map share_of new) ≡ flat_map lines_in (map share_of old)
same_lines [] [] many same = refl
same_lines [] (w ∷ new) many same = absurd (omega arith)
same_lines (v ∷ old) [] many same = absurd (omega arith)
same_lines (v ∷ old) (w ∷ new) many same =
    ap (λ (ls : List CountLine). ls ++ flat_map lines_in (map share_of new)) (same 0 v (omega arith)).lines
    ∙ ap (λ (ls : List CountLine). lines_in v.share ++ ls) (same_lines old new (omega arith) (λ k d low. same (suc k) d (omega arith)))

-- what holds of each worker's share holds of each share
pub each_share : (P : Share → Type 0) (workers : List Worker) → All (λ (w : Worker). P w.share) workers → All P (map share_of workers)
each_share P [] each = All-nil P
each_share P (w ∷ workers) each = All-cons P w.share (map share_of workers) (All-head (λ (w : Worker). P w.share) w workers each) (each_share P workers (All-tail (λ (w : Worker). P w.share) w workers each))
