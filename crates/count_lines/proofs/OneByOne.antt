-- Shares that are made one by one.
use Rattle.std.proofs.Common.{All, ◌≡◌, ℕ, zero, suc, ◌+◌, ◌<◌, ◌≤◌, List, [], ◌∷◌, ◌++◌, length, map, refl, flat_map, get_or, sym, ap, ◌∙◌, append_assoc, arith, length-append}
use Rattle.std.specs.List.{range_with_len}
use Rattle.std.proofs.lemmas.List.{map-append}
use Rattle.std.proofs.lemmas.List.Concat.{flat_map-append}
use Rattle.vm_model.specs.declared.calls.CountLine.{CountLine}
use Rattle.count_lines.specs.declared.share.Share.{Share}
use Rattle.count_lines.specs.LinesOfCaller.{added_by, lines_by}
use Rattle.count_lines.specs.Shares.{caller_of, lines_in}
use Rattle.count_lines.proofs.SharedLines.{lines_from, few_from}

range_more : (n first : ℕ) → range_with_len first (n + 1) ≡ range_with_len first n ++ ((first + n) ∷ [])
range_more zero first = ap (λ (k : ℕ). k ∷ []) (let e : first ≡ first + 0 = omega arith in e)
range_more (suc n) first =
    ap (range_with_len first) (let e : suc n + 1 ≡ suc (n + 1) = omega arith in e)
    ∙ ap (λ (ks : List ℕ). first ∷ ks) (range_more n (first + 1))
    ∙ ap (λ (k : ℕ). first ∷ (range_with_len (first + 1) n ++ k ∷ [])) (let e : first + 1 + n ≡ first + suc n = omega arith in e)

pub callers_more : (shares new : List Share) (share : Share) (n : ℕ) → map caller_of shares ≡ range_with_len 1 n → new ≡ shares ++ share ∷ [] → caller_of share ≡ n + 1 → map caller_of new ≡ range_with_len 1 (n + 1)
callers_more shares new share n so_far more here =
    ap (map caller_of) more
    ∙ map-append caller_of shares (share ∷ [])
    ∙ ap (λ (ks : List ℕ). ks ++ caller_of share ∷ []) so_far
    ∙ ap (λ (k : ℕ). range_with_len 1 n ++ k ∷ []) (let e : caller_of share ≡ 1 + n = omega arith in e)
    ∙ sym (range_more n 1)

from_more : (lines : List CountLine) (n : ℕ) → lines_from 1 (n + 1) lines ≡ lines_from 1 n lines ++ (lines_by (1 + n) lines ++ [])
from_more lines n = ap (flat_map (λ k. lines_by k lines)) (range_more n 1) ∙ flat_map-append (λ k. lines_by k lines) (range_with_len 1 n) ((1 + n) ∷ [])

pub lines_more : (lines : List CountLine) (shares new : List Share) (share : Share) (n : ℕ) → flat_map lines_in shares ≡ lines_from 1 n lines → new ≡ shares ++ share ∷ [] → lines_in share ≡ lines_by (n + 1) lines
    → flat_map lines_in new ≡ lines_from 1 (n + 1) lines
lines_more lines shares new share n so_far more here =
    ap (flat_map lines_in) more
    ∙ flat_map-append lines_in shares (share ∷ [])
    ∙ ap (λ (ls : List CountLine). ls ++ (lines_in share ++ [])) so_far
    ∙ ap (λ (ls : List CountLine). lines_from 1 n lines ++ (ls ++ [])) (here ∙ ap (λ k. lines_by k lines) (let e : n + 1 ≡ 1 + n = omega arith in e))
    ∙ sym (from_more lines n)

pub count_more : (shares new : List Share) (share : Share) → new ≡ shares ++ share ∷ [] → length (flat_map lines_in new) ≡ length (flat_map lines_in shares) + length (lines_in share)
count_more shares new share more =
    let all = ap (λ (ss : List Share). length (flat_map lines_in ss)) more ∙ ap length (flat_map-append lines_in shares (share ∷ [])) ∙ length-append (flat_map lines_in shares) (lines_in share ++ []) in
    let own = length-append (lines_in share) [] in
    omega arith

-- the lines of the next caller have room
pub room_for_next : (lines : List CountLine) (n : ℕ) → length (lines_by 0 lines) + length (lines_from 1 n lines) + length (lines_by (n + 1) lines) ≤ length lines
room_for_next lines n =
    let few : length (lines_by 0 lines ++ lines_from 1 (n + 1) lines) ≤ length lines = few_from (suc (n + 1)) lines in
    let first = length-append (lines_by 0 lines) (lines_from 1 (n + 1) lines) in
    let next = ap length (from_more lines n) in
    let parts = length-append (lines_from 1 n lines) (lines_by (1 + n) lines ++ []) in
    let own = length-append (lines_by (1 + n) lines) [] in
    let same : length (lines_by (n + 1) lines) ≡ length (lines_by (1 + n) lines) = ap (λ k. length (lines_by k lines)) (let e : n + 1 ≡ 1 + n = omega arith in e) in
    omega arith

-- the adds of one share more
pub joined_more : (adds new all : List CountLine) (share : Share) (items rest : List Share) → items ≡ share ∷ rest → new ≡ adds ++ map added_by (lines_in share)
    → adds ++ map added_by (flat_map lines_in items) ≡ all → new ++ map added_by (flat_map lines_in rest) ≡ all
joined_more adds new all share items rest next more so_far =
    ap (λ (done : List CountLine). done ++ map added_by (flat_map lines_in rest)) more
    ∙ append_assoc adds (map added_by (lines_in share)) (map added_by (flat_map lines_in rest))
    ∙ ap (λ (more : List CountLine). adds ++ more) (sym (map-append added_by (lines_in share) (flat_map lines_in rest)))
    ∙ ap (λ (ss : List Share). adds ++ map added_by (flat_map lines_in ss)) (sym next)
    ∙ so_far

-- shares with the same lines, one by one
pub same_lines : (given left : List Share) → length left ≡ length given → ((k : ℕ) (d : Share) → k < length given → lines_in (get_or left k d) ≡ lines_in (get_or given k d)) → flat_map lines_in left ≡ flat_map lines_in given
same_lines [] [] many same = refl
same_lines [] (s ∷ left) many same = absurd (omega arith)
same_lines (s ∷ given) [] many same = absurd (omega arith)
same_lines (s ∷ given) (t ∷ left) many same =
    ap (λ (ls : List CountLine). ls ++ flat_map lines_in left) (same 0 s (omega arith))
    ∙ ap (λ (ls : List CountLine). lines_in s ++ ls) (same_lines given left (omega arith) (λ k d low. same (suc k) d (omega arith)))
