-- Lines behind those of a section.
use Rattle.std.proofs.Common.{◌≡◌, ◌∙◌, ℕ, List, None, arith, [], ◌∷◌, ◌++◌, ◌<◌, ◌≤◌, ◌%◌, ap, sym, subst, refl, codes, decimal, true, false}
use Rattle.std.specs.Prelude.{nat_lt}
use Rattle.std.specs.List.{last_or}
use Rattle.std.proofs.lemmas.Bool.{lt-ltb, le-ltb}
use Rattle.std.proofs.lemmas.List.{flat_map_more}
use Rattle.std.specs.Prelude.{ℤ}
use Rattle.std.specs.Fmt.{signed_decimal}
use Rattle.vm_model.specs.Words.{line}
use Rattle.trace_text.specs.SpelledLines.{Line, Count, Balance, Vfree, UnmapRam, FreePercpu, text_of, text_of_line}
use Rattle.trace_maker.specs.declared.sections.SectionText.{SectionText}
use Rattle.trace_maker.specs.Generated.{Section, next, drawn, own, undrawn, takes_area, takes_part, takes_object, frees_area, frees_part, frees_object, adds_to, counts, step_of}
use Rattle.trace_maker.specs.WrittenSections.{IsWritten, Takes, Frees}

-- a line behind written ones
pub line_more : (lines : List Line) (l : Line) {old new : List ℕ} → old ≡ text_of lines → new ≡ old ++ text_of_line l → new ≡ text_of (lines ++ l ∷ [])
line_more lines l written put = put ∙ ap (λ t. t ++ text_of_line l) written ∙ flat_map_more text_of_line [] lines l

-- a name behind those of a queue
pub queue_more : (n : ℕ) {queue longer names : List ℕ} → queue ≡ names → longer ≡ queue ++ n ∷ [] → longer ≡ names ++ n ∷ []
queue_more n same put = put ∙ ap (λ q. q ++ n ∷ []) same

-- the numbers by other names
pub takes_same : {word letter old new names longer : List ℕ} {number a b c d : ℕ} → a ≡ c → b ≡ d → Takes word letter number a b old new names longer → Takes word letter number c d old new names longer
takes_same {word = word} {letter = letter} {old = old} {new = new} {names = names} {longer = longer} {number = number} {a = a} {d = d} p q t =
    subst (λ n. Takes word letter number n d old new names longer) p (subst (λ n. Takes word letter number a n old new names longer) q t)

pub area_freed : (s : Section) (old new : SectionText) → IsWritten old s → Frees (codes "vfree") (codes "a") old.lines.items new.lines.items old.areas.items new.areas.items → new.parts.items ≡ old.parts.items → new.objects.items ≡ old.objects.items
    → IsWritten new (frees_area s s.areas)
area_freed s old new w f parts objects = by_queue old.areas.items w.areas f
  where
    by_queue : (queue : List ℕ) → queue ≡ s.areas → Frees (codes "vfree") (codes "a") old.lines.items new.lines.items queue new.areas.items → IsWritten new (frees_area s s.areas)
    by_queue [] e h = subst (λ q. IsWritten new (frees_area s q)) e (record { lines = line_more s.lines Balance w.lines h.0; areas = h.1 ∙ e; parts = parts ∙ w.parts; objects = objects ∙ w.objects })
    by_queue (x ∷ queue) e h = subst (λ q. IsWritten new (frees_area s q)) e (record { lines = line_more s.lines (Vfree (own (codes "a") x)) w.lines h.0; areas = h.1; parts = parts ∙ w.parts; objects = objects ∙ w.objects })

pub part_freed : (s : Section) (old new : SectionText) → IsWritten old s → Frees (codes "unmap_ram") (codes "r") old.lines.items new.lines.items old.parts.items new.parts.items → new.areas.items ≡ old.areas.items → new.objects.items ≡ old.objects.items
    → IsWritten new (frees_part s s.parts)
part_freed s old new w f areas objects = by_queue old.parts.items w.parts f
  where
    by_queue : (queue : List ℕ) → queue ≡ s.parts → Frees (codes "unmap_ram") (codes "r") old.lines.items new.lines.items queue new.parts.items → IsWritten new (frees_part s s.parts)
    by_queue [] e h = subst (λ q. IsWritten new (frees_part s q)) e (record { lines = line_more s.lines Balance w.lines h.0; areas = areas ∙ w.areas; parts = h.1 ∙ e; objects = objects ∙ w.objects })
    by_queue (x ∷ queue) e h = subst (λ q. IsWritten new (frees_part s q)) e (record { lines = line_more s.lines (UnmapRam (own (codes "r") x)) w.lines h.0; areas = areas ∙ w.areas; parts = h.1; objects = objects ∙ w.objects })

pub object_freed : (s : Section) (old new : SectionText) → IsWritten old s → Frees (codes "free_percpu") (codes "p") old.lines.items new.lines.items old.objects.items new.objects.items → new.areas.items ≡ old.areas.items → new.parts.items ≡ old.parts.items
    → IsWritten new (frees_object s s.objects)
object_freed s old new w f areas parts = by_queue old.objects.items w.objects f
  where
    by_queue : (queue : List ℕ) → queue ≡ s.objects → Frees (codes "free_percpu") (codes "p") old.lines.items new.lines.items queue new.objects.items → IsWritten new (frees_object s s.objects)
    by_queue [] e h = subst (λ q. IsWritten new (frees_object s q)) e (record { lines = line_more s.lines Balance w.lines h.0; areas = areas ∙ w.areas; parts = parts ∙ w.parts; objects = h.1 ∙ e })
    by_queue (x ∷ queue) e h = subst (λ q. IsWritten new (frees_object s q)) e (record { lines = line_more s.lines (FreePercpu (own (codes "p") x)) w.lines h.0; areas = areas ∙ w.areas; parts = parts ∙ w.parts; objects = h.1 })

-- what a draw adds
pub step_area : (kind state i : ℕ) (s : Section) → kind < 3 → step_of kind state i s ≡ takes_area state i s
step_area kind state i s h = let e : nat_lt kind 3 ≡ true = lt-ltb kind 3 h in rw e refl

pub step_free_area : (kind state i : ℕ) (s : Section) → 3 ≤ kind → kind < 6 → step_of kind state i s ≡ undrawn state (frees_area s s.areas)
step_free_area kind state i s l h = let a : nat_lt kind 3 ≡ false = le-ltb kind 3 l in let e : nat_lt kind 6 ≡ true = lt-ltb kind 6 h in rw (a, e) refl

pub step_part : (kind state i : ℕ) (s : Section) → 6 ≤ kind → kind < 8 → step_of kind state i s ≡ takes_part state i s
step_part kind state i s l h =
    let a : nat_lt kind 3 ≡ false = le-ltb kind 3 (omega arith) in let b : nat_lt kind 6 ≡ false = le-ltb kind 6 l in let e : nat_lt kind 8 ≡ true = lt-ltb kind 8 h in rw (a, b, e) refl

pub step_free_part : (kind state i : ℕ) (s : Section) → 8 ≤ kind → kind < 10 → step_of kind state i s ≡ undrawn state (frees_part s s.parts)
step_free_part kind state i s l h =
    let a : nat_lt kind 3 ≡ false = le-ltb kind 3 (omega arith) in let b : nat_lt kind 6 ≡ false = le-ltb kind 6 (omega arith) in let d : nat_lt kind 8 ≡ false = le-ltb kind 8 l in
    let e : nat_lt kind 10 ≡ true = lt-ltb kind 10 h in rw (a, b, d, e) refl

pub step_object : (kind state i : ℕ) (s : Section) → 10 ≤ kind → kind < 12 → step_of kind state i s ≡ takes_object state i s
step_object kind state i s l h =
    let a : nat_lt kind 3 ≡ false = le-ltb kind 3 (omega arith) in let b : nat_lt kind 6 ≡ false = le-ltb kind 6 (omega arith) in let d : nat_lt kind 8 ≡ false = le-ltb kind 8 (omega arith) in
    let f : nat_lt kind 10 ≡ false = le-ltb kind 10 l in let e : nat_lt kind 12 ≡ true = lt-ltb kind 12 h in rw (a, b, d, f, e) refl

pub step_free_object : (kind state i : ℕ) (s : Section) → 12 ≤ kind → kind < 14 → step_of kind state i s ≡ undrawn state (frees_object s s.objects)
step_free_object kind state i s l h =
    let a : nat_lt kind 3 ≡ false = le-ltb kind 3 (omega arith) in let b : nat_lt kind 6 ≡ false = le-ltb kind 6 (omega arith) in let d : nat_lt kind 8 ≡ false = le-ltb kind 8 (omega arith) in
    let f : nat_lt kind 10 ≡ false = le-ltb kind 10 (omega arith) in let g : nat_lt kind 12 ≡ false = le-ltb kind 12 l in let e : nat_lt kind 14 ≡ true = lt-ltb kind 14 h in rw (a, b, d, f, g, e) refl

pub step_add : (kind state i : ℕ) (s : Section) → 14 ≤ kind → kind < 15 → step_of kind state i s ≡ adds_to state s (last_or None s.objects)
step_add kind state i s l h =
    let a : nat_lt kind 3 ≡ false = le-ltb kind 3 (omega arith) in let b : nat_lt kind 6 ≡ false = le-ltb kind 6 (omega arith) in let d : nat_lt kind 8 ≡ false = le-ltb kind 8 (omega arith) in
    let f : nat_lt kind 10 ≡ false = le-ltb kind 10 (omega arith) in let g : nat_lt kind 12 ≡ false = le-ltb kind 12 (omega arith) in let j : nat_lt kind 14 ≡ false = le-ltb kind 14 l in
    let e : nat_lt kind 15 ≡ true = lt-ltb kind 15 h in rw (a, b, d, f, g, j, e) refl

pub step_count : (kind state i : ℕ) (s : Section) → 15 ≤ kind → step_of kind state i s ≡ counts state s
step_count kind state i s l =
    let a : nat_lt kind 3 ≡ false = le-ltb kind 3 (omega arith) in let b : nat_lt kind 6 ≡ false = le-ltb kind 6 (omega arith) in let d : nat_lt kind 8 ≡ false = le-ltb kind 8 (omega arith) in
    let f : nat_lt kind 10 ≡ false = le-ltb kind 10 (omega arith) in let g : nat_lt kind 12 ≡ false = le-ltb kind 12 (omega arith) in let j : nat_lt kind 14 ≡ false = le-ltb kind 14 (omega arith) in
    let e : nat_lt kind 15 ≡ false = le-ltb kind 15 l in rw (a, b, d, f, g, j, e) refl

-- what is drawn from the state before
pub drawn_kind : (kind after state number : ℕ) (s : Section) → after ≡ next state → kind ≡ drawn after % 16 → step_of (drawn (next state) % 16) (next state) number s ≡ step_of kind after number s
drawn_kind kind after state number s draw is = ap (λ k. step_of (drawn k % 16) k number s) (sym draw) ∙ ap (λ k. step_of k after number s) (sym is)

-- a count line, with its numbers by other names
pub count_text : {a b c d : ℕ} {y z : ℤ} → a ≡ c → b ≡ d → y ≡ z → line (codes "count" ∷ decimal a ∷ decimal b ∷ signed_decimal y ∷ []) ≡ text_of_line (Count c d z)
count_text {b = b} {c = c} {d = d} {y = y} p q r =
    ap (λ n. line (codes "count" ∷ decimal n ∷ decimal b ∷ signed_decimal y ∷ [])) p ∙ ap (λ n. line (codes "count" ∷ decimal c ∷ decimal n ∷ signed_decimal y ∷ [])) q ∙ ap (λ n. line (codes "count" ∷ decimal c ∷ decimal d ∷ signed_decimal n ∷ [])) r
