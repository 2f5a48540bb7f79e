-- The kept numbers, each beside that of a plain scan.
use Rattle.std.specs.Prelude.{ℕ, Bool, ◌==◌, List, [], ◌∷◌, ◌++◌, map, take, drop, codes, decimal}
use Rattle.std.specs.List.{flat_map, prefix_len}
use Rattle.std.specs.Fmt.{signed_decimal}
use Rattle.vm_model.specs.declared.rows.ChunkRow.{ChunkRow}
use Rattle.vm_model.specs.declared.rows.ChunkAudit.{ChunkAudit}
use Rattle.vm_model.specs.declared.rows.Hint.{Hint}
use Rattle.vm_model.specs.declared.rows.HintRow.{HintRow}
use Rattle.vm_model.specs.declared.rows.CounterRow.{CounterRow}
use Rattle.vm_model.specs.declared.tables.Tables.{Tables}
use Rattle.vm_model.specs.Words.{line, numbered}
use Rattle.report_text.specs.Numerals.{run}

abbrev pub tree_audit : Tables → List ℕ
tree_audit t = line (codes "audit" ∷ codes "tree" ∷ codes "blocks" ∷ decimal t.tree_blocks ∷ codes "largest" ∷ decimal t.tree_largest ∷ codes "plain" ∷ decimal t.plain_largest ∷ [])

abbrev pub chunk_audit : ChunkRow → ChunkAudit → List ℕ
chunk_audit c plain = line (codes "audit" ∷ codes "chunk" ∷ decimal c.chunk ∷ codes "run" ∷ run c.run_start c.run ∷ codes "plain" ∷ run plain.run_start plain.run
    ∷ codes "slot" ∷ decimal c.slot ∷ codes "plain" ∷ decimal plain.slot ∷ codes "empty" ∷ decimal c.empty ∷ codes "plain" ∷ decimal plain.empty ∷ [])

abbrev pub hint_numbers : Hint → List (List ℕ)
hint_numbers h = run h.run_start h.run ∷ codes "left" ∷ decimal h.left ∷ codes "right" ∷ decimal h.right ∷ codes "first" ∷ decimal h.first ∷ []

abbrev pub hint_audit : HintRow → List ℕ
hint_audit h = line ((codes "audit" ∷ codes "hint" ∷ decimal h.chunk ∷ decimal h.block ∷ codes "run" ∷ hint_numbers h.kept) ++ codes "plain" ∷ hint_numbers h.plain)

abbrev pub is_of : ℕ → HintRow → Bool
is_of chunk h = h.chunk == chunk

-- how many hints at the front are this chunk's
abbrev pub own_hints : ℕ → List HintRow → ℕ
own_hints chunk hints = prefix_len (is_of chunk) hints

-- each chunk's line, and then those of its hints, which stand in the order of the chunks
abbrev pub chunk_audits : List ChunkRow → List ChunkAudit → List HintRow → List ℕ
chunk_audits [] plains hints = []
chunk_audits (c ∷ chunks) [] hints = []
chunk_audits (c ∷ chunks) (plain ∷ plains) hints =
    chunk_audit c plain ++ flat_map hint_audit (take (own_hints c.chunk hints) hints) ++ chunk_audits chunks plains (drop (own_hints c.chunk hints) hints)

abbrev pub counter_audit : ℕ → CounterRow → List ℕ
counter_audit k c = line ((codes "audit" ∷ codes "counter" ∷ decimal k ∷ codes "count" ∷ signed_decimal c.count ∷ codes "cells" ∷ []) ++ map signed_decimal c.cells)

abbrev pub counter_audits : List CounterRow → List ℕ
counter_audits counters = numbered counter_audit 0 counters

abbrev pub audit_lines : Tables → List CounterRow → List ℕ
audit_lines t counters = tree_audit t ++ chunk_audits t.chunks t.chunk_audit t.hints ++ counter_audits counters
