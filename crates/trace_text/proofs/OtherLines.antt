-- A text that begins like no line is none.
use Rattle.std.proofs.Common.{◌≡◌, ◌≢◌, ℕ, Bool, true, false, ◌&&◌, List, [], ◌∷◌, take, ap, refl, codes, Result, Ok, Err, IfOk}
use Rattle.std.proofs.lemmas.Bool.{and_parts}
use Rattle.std.specs.List.{list_all}
use Rattle.std.specs.Str.{bytes_eq}
use Rattle.trace_text.specs.declared.progress.Progress.{Progress}
use Rattle.vm_model.specs.Words.{fields, within, is_number}
use Rattle.trace_text.specs.SpelledLines.{Line, Version, Space, Frames, Lazy, Blocks, Units, GroupOf, Callers, Counters, Caller, Vmalloc, Vfree, MapRam, UnmapRam, UnmapAliases, AllocPercpu, AllocAtomic, FreePercpu, Add, Sum, Balance, Count, Order, End, spelled, word_of}
use Rattle.trace_text.specs.Reading.{Reading}
use Rattle.trace_text.specs.Grammar.{may_stand, follows}
use Rattle.trace_text.specs.LineWords.{is_percpu_or_header, one_of, words_of_header}
use Rattle.trace_text.specs.HeldLines.{IsHeld, Steps, StepsIn}

pub record BeginsNoHeader (text : List ℕ) : Type 0 where
  pub callers : bytes_eq (take 8 text) (codes "callers ") ≡ false
  pub frames : bytes_eq (take 7 text) (codes "frames ") ≡ false
  pub block : bytes_eq (take 6 text) (codes "block ") ≡ false
  pub lazy : bytes_eq (take 5 text) (codes "lazy ") ≡ false
  pub space : bytes_eq (take 6 text) (codes "space ") ≡ false
  pub unit : bytes_eq (take 5 text) (codes "unit ") ≡ false
  pub counters : bytes_eq (take 9 text) (codes "counters ") ≡ false
  pub version : bytes_eq text (codes "vmtrace 1") ≡ false

pub no_header_line : (r : Reading) (text : List ℕ) (l : Line) → one_of words_of_header (word_of l) ≡ true → may_stand r l ≡ true → text ≡ fields (spelled l) → BeginsNoHeader text → ⊥
no_header_line r text Version known s e other = let begins = other.version in let own = ap (λ t. bytes_eq t (codes "vmtrace 1")) e in cc
no_header_line r text (Space pages) known s e other = let begins = other.space in let own = ap (λ t. bytes_eq (take 6 t) (codes "space ")) e in cc
no_header_line r text (Frames frames) known s e other = let begins = other.frames in let own = ap (λ t. bytes_eq (take 7 t) (codes "frames ")) e in cc
no_header_line r text (Lazy pages) known s e other = let begins = other.lazy in let own = ap (λ t. bytes_eq (take 5 t) (codes "lazy ")) e in cc
no_header_line r text (Blocks pages part_limit) known s e other = let begins = other.block in let own = ap (λ t. bytes_eq (take 6 t) (codes "block ")) e in cc
no_header_line r text (Units pages atom) known s e other = let begins = other.unit in let own = ap (λ t. bytes_eq (take 5 t) (codes "unit ")) e in cc
no_header_line r text (Callers callers) known s e other = let begins = other.callers in let own = ap (λ t. bytes_eq (take 8 t) (codes "callers ")) e in cc
no_header_line r text (Counters counters batch) known s e other = let begins = other.counters in let own = ap (λ t. bytes_eq (take 9 t) (codes "counters ")) e in cc
no_header_line r text _ known s e other = cc

pub record BeginsNoPercpu (text : List ℕ) : Type 0 where
  pub alloc_percpu : bytes_eq (take 13 text) (codes "alloc_percpu ") ≡ false
  pub alloc_atomic : bytes_eq (take 13 text) (codes "alloc_atomic ") ≡ false
  pub free_percpu : bytes_eq (take 12 text) (codes "free_percpu ") ≡ false
  pub add : bytes_eq (take 4 text) (codes "add ") ≡ false
  pub sum : bytes_eq (take 4 text) (codes "sum ") ≡ false
  pub count : bytes_eq (take 6 text) (codes "count ") ≡ false
  pub balance : bytes_eq text (codes "balance") ≡ false

no_percpu_line : (r : Reading) (text : List ℕ) (l : Line) → is_percpu_or_header (word_of l) ≡ true → may_stand r l ≡ true → text ≡ fields (spelled l) → BeginsNoPercpu text
    → ((m : Line) → one_of words_of_header (word_of m) ≡ true → may_stand r m ≡ true → text ≢ fields (spelled m)) → ⊥
no_percpu_line r text Version known s e other none = none Version refl s e
no_percpu_line r text (Space pages) known s e other none = none (Space pages) refl s e
no_percpu_line r text (Frames frames) known s e other none = none (Frames frames) refl s e
no_percpu_line r text (Lazy pages) known s e other none = none (Lazy pages) refl s e
no_percpu_line r text (Blocks pages part_limit) known s e other none = none (Blocks pages part_limit) refl s e
no_percpu_line r text (Units pages atom) known s e other none = none (Units pages atom) refl s e
no_percpu_line r text (Callers callers) known s e other none = none (Callers callers) refl s e
no_percpu_line r text (Counters counters batch) known s e other none = none (Counters counters batch) refl s e
no_percpu_line r text (AllocPercpu name bytes align) known s e other none = let begins = other.alloc_percpu in let own = ap (λ t. bytes_eq (take 13 t) (codes "alloc_percpu ")) e in cc
no_percpu_line r text (AllocAtomic name bytes align) known s e other none = let begins = other.alloc_atomic in let own = ap (λ t. bytes_eq (take 13 t) (codes "alloc_atomic ")) e in cc
no_percpu_line r text (FreePercpu target) known s e other none = let begins = other.free_percpu in let own = ap (λ t. bytes_eq (take 12 t) (codes "free_percpu ")) e in cc
no_percpu_line r text (Add target cpu index amount) known s e other none = let begins = other.add in let own = ap (λ t. bytes_eq (take 4 t) (codes "add ")) e in cc
no_percpu_line r text (Sum target index) known s e other none = let begins = other.sum in let own = ap (λ t. bytes_eq (take 4 t) (codes "sum ")) e in cc
no_percpu_line r text (Count counter cpu amount) known s e other none = let begins = other.count in let own = ap (λ t. bytes_eq (take 6 t) (codes "count ")) e in cc
no_percpu_line r text Balance known s e other none = let begins = other.balance in let own = ap (λ t. bytes_eq t (codes "balance")) e in cc
no_percpu_line r text _ known s e other none = cc

-- where a text begins no line of per-CPU objects or counters, a line with this text is one of the header
pub steps_header : (r : Reading) (text : List ℕ) (b : Bool) (q : Progress) → BeginsNoPercpu text → StepsIn (one_of words_of_header) r text b q → StepsIn is_percpu_or_header r text b q
steps_header r text true q other steps = steps
steps_header r text false q other none = λ l known s e. no_percpu_line r text l known s e other none

pub record BeginsNoCall (text : List ℕ) : Type 0 where
  pub vmalloc : bytes_eq (take 8 text) (codes "vmalloc ") ≡ false
  pub vfree : bytes_eq (take 6 text) (codes "vfree ") ≡ false
  pub map_ram : bytes_eq (take 8 text) (codes "map_ram ") ≡ false
  pub unmap_ram : bytes_eq (take 10 text) (codes "unmap_ram ") ≡ false
  pub unmap_aliases : bytes_eq text (codes "unmap_aliases") ≡ false
  pub order : bytes_eq (take 6 text) (codes "order ") ≡ false
  pub caller : bytes_eq (take 7 text) (codes "caller ") ≡ false
  pub group : bytes_eq (take 6 text) (codes "group ") ≡ false
  pub end : bytes_eq text (codes "end") ≡ false

no_order : (r : Reading) → may_stand r (Order []) ≡ true → ⊥
no_order r s =
    let rules = (and_parts (list_all is_number [] && follows r.rank 11) (within 1 64 0 && list_all (within 1 r.header.callers) []) s).1 in
    let some = (and_parts (within 1 64 0) (list_all (within 1 r.header.callers) []) rules).0 in
    cc

no_line : (r : Reading) (text : List ℕ) (l : Line) → may_stand r l ≡ true → text ≡ fields (spelled l) → BeginsNoCall text → ((m : Line) → is_percpu_or_header (word_of m) ≡ true → may_stand r m ≡ true → text ≢ fields (spelled m)) → ⊥
no_line r text Version s e other none = none Version refl s e
no_line r text (Space pages) s e other none = none (Space pages) refl s e
no_line r text (Frames frames) s e other none = none (Frames frames) refl s e
no_line r text (Lazy pages) s e other none = none (Lazy pages) refl s e
no_line r text (Blocks pages part_limit) s e other none = none (Blocks pages part_limit) refl s e
no_line r text (Units pages atom) s e other none = none (Units pages atom) refl s e
no_line r text (GroupOf cpus offset) s e other none = let begins = other.group in let own = ap (λ t. bytes_eq (take 6 t) (codes "group ")) e in cc
no_line r text (Callers callers) s e other none = none (Callers callers) refl s e
no_line r text (Counters counters batch) s e other none = none (Counters counters batch) refl s e
no_line r text (Caller caller) s e other none = let begins = other.caller in let own = ap (λ t. bytes_eq (take 7 t) (codes "caller ")) e in cc
no_line r text (Vmalloc name bytes align) s e other none = let begins = other.vmalloc in let own = ap (λ t. bytes_eq (take 8 t) (codes "vmalloc ")) e in cc
no_line r text (Vfree target) s e other none = let begins = other.vfree in let own = ap (λ t. bytes_eq (take 6 t) (codes "vfree ")) e in cc
no_line r text (MapRam name cpu pages) s e other none = let begins = other.map_ram in let own = ap (λ t. bytes_eq (take 8 t) (codes "map_ram ")) e in cc
no_line r text (UnmapRam target) s e other none = let begins = other.unmap_ram in let own = ap (λ t. bytes_eq (take 10 t) (codes "unmap_ram ")) e in cc
no_line r text UnmapAliases s e other none = let begins = other.unmap_aliases in let own = ap (λ t. bytes_eq t (codes "unmap_aliases")) e in cc
no_line r text (Order []) s e other none = no_order r s
no_line r text (Order (n ∷ picks)) s e other none = let begins = other.order in let own = ap (λ t. bytes_eq (take 6 t) (codes "order ")) e in cc
no_line r text End s e other none = let begins = other.end in let own = ap (λ t. bytes_eq t (codes "end")) e in cc
no_line r text (AllocPercpu name bytes align) s e other none = none (AllocPercpu name bytes align) refl s e
no_line r text (AllocAtomic name bytes align) s e other none = none (AllocAtomic name bytes align) refl s e
no_line r text (FreePercpu target) s e other none = none (FreePercpu target) refl s e
no_line r text (Add target cpu index amount) s e other none = none (Add target cpu index amount) refl s e
no_line r text (Sum target index) s e other none = none (Sum target index) refl s e
no_line r text (Count counter cpu amount) s e other none = none (Count counter cpu amount) refl s e
no_line r text Balance s e other none = none Balance refl s e

-- where a text begins no line of the other words, a line with this text is one of per-CPU objects or counters, or of the header
steps_late : (r : Reading) (text : List ℕ) (b : Bool) (q : Progress) → BeginsNoCall text → StepsIn is_percpu_or_header r text b q → Steps r text b q
steps_late r text true q other steps = steps
steps_late r text false q other none = λ l s e. no_line r text l s e other none

-- and where reading it may have met no memory
pub steps_late_if_ok : {E : Type 0} (text : List ℕ) (result : Result Bool E) (p q : Progress) → BeginsNoCall text
    → IfOk result (λ stood. (r : Reading) → IsHeld p r → StepsIn is_percpu_or_header r text stood q) → IfOk result (λ stood. (r : Reading) → IsHeld p r → Steps r text stood q)
steps_late_if_ok {E = E} text (Ok stood) p q other steps = λ r held. steps_late r text stood q other (steps r held)
steps_late_if_ok {E = E} text (Err failed) p q other steps = steps
