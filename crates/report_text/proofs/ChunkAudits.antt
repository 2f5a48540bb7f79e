-- The audit lines of the chunks, one chunk after another.
use Rattle.std.proofs.Common.{◌≡◌, ◌∙◌, ℕ, suc, ◌+◌, ◌<◌, ◌≤◌, ◌⊎◌, inl, inr, min, List, [], ◌∷◌, ◌++◌, length, take, drop, get_or, refl, ap, sym, arith, append_assoc, drop-cons}
use Rattle.std.proofs.Math.ListN.{drop_of_length-le}
use Rattle.std.proofs.lemmas.List.{append-nil}
use Rattle.std.specs.List.{flat_map}
use Rattle.vm_model.specs.declared.rows.ChunkRow.{ChunkRow}
use Rattle.vm_model.specs.declared.rows.ChunkAudit.{ChunkAudit}
use Rattle.vm_model.specs.declared.rows.HintRow.{HintRow}
use Rattle.report_text.specs.AuditLines.{chunk_audit, chunk_audits, hint_audit, own_hints}

-- a chunk's line and the lines of its hints, before those of the chunks that are left
one_written : (t t1 t2 whole : List ℕ) (c : ChunkRow) (plain : ChunkAudit) (chunks : List ChunkRow) (plains : List ChunkAudit) (hints : List HintRow) → t1 ≡ t ++ chunk_audit c plain
    → t2 ≡ t1 ++ flat_map hint_audit (take (own_hints c.chunk hints) hints) → t ++ chunk_audits (c ∷ chunks) (plain ∷ plains) hints ≡ whole → t2 ++ chunk_audits chunks plains (drop (own_hints c.chunk hints) hints) ≡ whole
one_written t t1 t2 whole c plain chunks plains hints line more left =
    let own : List ℕ = flat_map hint_audit (take (own_hints c.chunk hints) hints) in
    let others : List ℕ = chunk_audits chunks plains (drop (own_hints c.chunk hints) hints) in
    ap (λ x. x ++ others) (more ∙ ap (λ x. x ++ own) line ∙ append_assoc t (chunk_audit c plain) own) ∙ append_assoc t (chunk_audit c plain ++ own) others ∙ left

pub audits_step : (t t1 t2 whole : List ℕ) (chunks : List ChunkRow) (plains : List ChunkAudit) (hints own others : List HintRow) (i mid : ℕ) (d : ChunkRow) (e : ChunkAudit) → i < length chunks → i < length plains
    → t1 ≡ t ++ chunk_audit (get_or chunks i d) (get_or plains i e) → mid ≡ own_hints (get_or chunks i d).chunk hints → own ≡ take mid hints → others ≡ drop mid hints → t2 ≡ t1 ++ flat_map hint_audit own
    → t ++ chunk_audits (drop i chunks) (drop i plains) hints ≡ whole → t2 ++ chunk_audits (drop (i + 1) chunks) (drop (i + 1) plains) others ≡ whole
audits_step t t1 t2 whole chunks plains hints own others i mid d e l m line cut front back more left =
    let c = get_or chunks i d in
    let plain = get_or plains i e in
    let next : suc i ≡ i + 1 = omega arith in
    let first : drop i chunks ≡ c ∷ drop (i + 1) chunks = drop-cons chunks i d l ∙ ap (λ n. c ∷ drop n chunks) next in
    let second : drop i plains ≡ plain ∷ drop (i + 1) plains = drop-cons plains i e m ∙ ap (λ n. plain ∷ drop n plains) next in
    let whole_left : t ++ chunk_audits (c ∷ drop (i + 1) chunks) (plain ∷ drop (i + 1) plains) hints ≡ whole
    = ap (λ (ps : List ChunkAudit). t ++ chunk_audits (c ∷ drop (i + 1) chunks) ps hints) (sym second) ∙ ap (λ (cs : List ChunkRow). t ++ chunk_audits cs (drop i plains) hints) (sym first) ∙ left in
    ap (λ (hs : List HintRow). t2 ++ chunk_audits (drop (i + 1) chunks) (drop (i + 1) plains) hs) (back ∙ ap (λ n. drop n hints) cut)
    ∙ one_written t t1 t2 whole c plain (drop (i + 1) chunks) (drop (i + 1) plains) hints line (more ∙ ap (λ (hs : List HintRow). t1 ++ flat_map hint_audit hs) (front ∙ ap (λ n. take n hints) cut)) whole_left

no_plains : (chunks : List ChunkRow) (hints : List HintRow) → chunk_audits chunks [] hints ≡ []
no_plains [] hints = refl
no_plains (c ∷ chunks) hints = refl

-- nothing is left where one of the lists has ended
pub audits_end : (t whole : List ℕ) (chunks : List ChunkRow) (plains : List ChunkAudit) (hints : List HintRow) (i : ℕ) → min (length chunks) (length plains) ≤ i → t ++ chunk_audits (drop i chunks) (drop i plains) hints ≡ whole → t ≡ whole
audits_end t whole chunks plains hints i h left = sym (append-nil t) ∙ ap (λ x. t ++ x) (sym (by_end ends)) ∙ left
  where
    ends : (length chunks ≤ i) ⊎ (length plains ≤ i)
    ends = grind arith

    by_end : (length chunks ≤ i) ⊎ (length plains ≤ i) → chunk_audits (drop i chunks) (drop i plains) hints ≡ []
    by_end (inl l) = ap (λ (cs : List ChunkRow). chunk_audits cs (drop i plains) hints) (drop_of_length-le chunks {i = i} l)
    by_end (inr l) = ap (λ (ps : List ChunkAudit). chunk_audits (drop i chunks) ps hints) (drop_of_length-le plains {i = i} l) ∙ no_plains (drop i chunks) hints
