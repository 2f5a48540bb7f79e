-- What is held after a line of the header.
use Rattle.std.proofs.Common.{◌≡◌, ◌∙◌, ℕ, ◌*◌, ◌/◌, ◌<◌, ◌≤◌, true, false, ◌&&◌, List, [], ◌∷◌, ◌++◌, refl, ap, sym, arith, codes, decimal}
use Rattle.std.proofs.lemmas.Bool.{and_parts, and_from}
use Rattle.std.proofs.lemmas.Bool.Decides.{nat_tests}
use Rattle.std.specs.Int.{is_power_of_two}
use Rattle.vm_model.specs.Rules.{IsPower}
use Rattle.trace_text.specs.declared.progress.Progress.{Progress}
use Rattle.unit_layout.specs.LayoutRule.{processors}
use Rattle.vm_model.specs.Words.{fields, is_number, within}
use Rattle.trace_text.specs.SpelledLines.{Space, Frames, Lazy, Blocks, Units, Callers, Counters}
use Rattle.trace_text.specs.Reading.{Reading, Header}
use Rattle.trace_text.specs.Grammar.{follows, is_allowed}
use Rattle.trace_text.specs.HeldLines.{IsHeld, Steps, named_header}
use Rattle.trace_text.proofs.PowersOfTwo.{power_of_two}
use Rattle.trace_text.proofs.NumberLines.{space_lines, frames_lines, lazy_lines, callers_lines, number_refused, number_stands}
use Rattle.trace_text.proofs.PairLines.{block_lines, counters_lines, unit_lines, pair_refused, pair_stands}

space_at : (rank : ℕ) → follows rank 2 ≡ true → rank ≡ 1
space_at rank h = grind (arith, nat_tests)

follows_one : (rank : ℕ) → rank ≡ 1 → follows rank 2 ≡ true
follows_one rank h = grind (arith, nat_tests)

frames_at : (rank : ℕ) → follows rank 3 ≡ true → (2 ≤ rank) × (rank < 3)
frames_at rank h = grind (arith, nat_tests)

frames_follow : (rank : ℕ) → 2 ≤ rank → rank < 3 → follows rank 3 ≡ true
frames_follow rank low high = grind (arith, nat_tests)

lazy_at : (rank : ℕ) → follows rank 4 ≡ true → (2 ≤ rank) × (rank < 4)
lazy_at rank h = grind (arith, nat_tests)

lazy_follows : (rank : ℕ) → 2 ≤ rank → rank < 4 → follows rank 4 ≡ true
lazy_follows rank low high = grind (arith, nat_tests)

callers_at : (rank : ℕ) → follows rank 8 ≡ true → (2 ≤ rank) × (rank < 8)
callers_at rank h = grind (arith, nat_tests)

callers_follow : (rank : ℕ) → 2 ≤ rank → rank < 8 → follows rank 8 ≡ true
callers_follow rank low high = grind (arith, nat_tests)

pub in_range : (low high n : ℕ) → within low high n ≡ true → (low ≤ n) × (n ≤ high)
in_range low high n h = grind (arith, nat_tests)

is_within : (low high n : ℕ) → low ≤ n → n ≤ high → within low high n ≡ true
is_within low high n h k = grind (arith, nat_tests)

-- what is held after a line that changes the rank and the header alone
pub held_with_header : (p : Progress) (r : Reading) (h : Header) (rank space frames lazy block_pages part_limit unit_pages atom callers counters batch : ℕ) → IsHeld p r
    → h ≡ named_header space frames lazy block_pages part_limit unit_pages atom p.groups.items callers counters batch → r.caller ≤ h.callers → (rank < 10 → r.caller ≡ 0)
    → IsHeld (record p { rank = rank; space = space; frames = frames; lazy = lazy; block_pages = block_pages; part_limit = part_limit; unit_pages = unit_pages; atom = atom; callers = callers; counters = counters; batch = batch })
    (record r { rank = rank; header = h })
held_with_header p r h rank space frames lazy block_pages part_limit unit_pages atom callers counters batch held says among opening = record {
  rank = refl;
  header = says;
  cpus = held.cpus ∙ ap (λ (header : Header). processors header.groups) held.header ∙ sym (ap (λ (header : Header). processors header.groups) says);
  caller = held.caller;
  among = among;
  opening = opening;
  closed = held.closed;
  calls = held.calls;
  uncalled = held.uncalled;
  count = held.count;
  counts = held.counts;
  picks = held.picks;
  names = held.names;
  opening_names = held.opening_names;
  named = held.named;
  sized = held.sized;
  unnamed = held.unnamed;
}

pub space_refused : (p q : Progress) (r : Reading) (text : List ℕ) (n : ℕ) → IsHeld p r → is_number n ≡ true → text ≡ decimal n → (p.rank ≡ 1 → 1 ≤ n → n ≤ 1048576 → ⊥) → Steps r (codes "space " ++ text) false q
space_refused p q r text n held wide e none =
    number_refused q r (codes "space") text Space 2 (within 1 1048576) n (space_lines r) wide e (λ place rules.
    let range = in_range 1 1048576 n rules in
    none (held.rank ∙ space_at r.rank place) range.0 range.1)

pub space_stands : (p : Progress) (r : Reading) (text : List ℕ) (n : ℕ) → IsHeld p r → is_number n ≡ true → text ≡ decimal n → p.rank ≡ 1 → 1 ≤ n → n ≤ 1048576 → Steps r (codes "space " ++ text) true (record p { rank = 2; space = n })
space_stands p r text n held wide e rank low high =
    let first : r.rank ≡ 1 = sym held.rank ∙ rank in
    number_stands _ r (codes "space") text Space 2 (within 1 1048576) n (space_lines r) wide e (follows_one r.rank first) (is_within 1 1048576 n low high)
    (held_with_header p r _ 2 n p.frames p.lazy p.block_pages p.part_limit p.unit_pages p.atom p.callers p.counters p.batch held (ap (λ (header : Header). record header { space = n }) held.header) held.among (λ early. held.opening (omega arith)))

pub frames_refused : (p q : Progress) (r : Reading) (text : List ℕ) (n : ℕ) → IsHeld p r → is_number n ≡ true → text ≡ decimal n → (2 ≤ p.rank → p.rank < 3 → n ≤ 8192 → ⊥) → Steps r (codes "frames " ++ text) false q
frames_refused p q r text n held wide e none =
    number_refused q r (codes "frames") text Frames 3 (within 0 8192) n (frames_lines r) wide e (λ place rules.
    let range = in_range 0 8192 n rules in
    let at = frames_at r.rank place in
    let same = held.rank in
    none (omega arith) (omega arith) range.1)

pub frames_stands : (p : Progress) (r : Reading) (text : List ℕ) (n : ℕ) → IsHeld p r → is_number n ≡ true → text ≡ decimal n → 2 ≤ p.rank → p.rank < 3 → n ≤ 8192 → Steps r (codes "frames " ++ text) true (record p { rank = 3; frames = n })
frames_stands p r text n held wide e after before high =
    let same = held.rank in
    number_stands _ r (codes "frames") text Frames 3 (within 0 8192) n (frames_lines r) wide e (frames_follow r.rank (omega arith) (omega arith)) (is_within 0 8192 n (omega arith) high)
    (held_with_header p r _ 3 p.space n p.lazy p.block_pages p.part_limit p.unit_pages p.atom p.callers p.counters p.batch held (ap (λ (header : Header). record header { frames = n }) held.header) held.among (λ early. held.opening (omega arith)))

pub lazy_refused : (p q : Progress) (r : Reading) (text : List ℕ) (n : ℕ) → IsHeld p r → is_number n ≡ true → text ≡ decimal n → (2 ≤ p.rank → p.rank < 4 → n ≤ 1048576 → ⊥) → Steps r (codes "lazy " ++ text) false q
lazy_refused p q r text n held wide e none =
    number_refused q r (codes "lazy") text Lazy 4 (within 0 1048576) n (lazy_lines r) wide e (λ place rules.
    let range = in_range 0 1048576 n rules in
    let at = lazy_at r.rank place in
    let same = held.rank in
    none (omega arith) (omega arith) range.1)

pub lazy_stands : (p : Progress) (r : Reading) (text : List ℕ) (n : ℕ) → IsHeld p r → is_number n ≡ true → text ≡ decimal n → 2 ≤ p.rank → p.rank < 4 → n ≤ 1048576 → Steps r (codes "lazy " ++ text) true (record p { rank = 4; lazy = n })
lazy_stands p r text n held wide e after before high =
    let same = held.rank in
    number_stands _ r (codes "lazy") text Lazy 4 (within 0 1048576) n (lazy_lines r) wide e (lazy_follows r.rank (omega arith) (omega arith)) (is_within 0 1048576 n (omega arith) high)
    (held_with_header p r _ 4 p.space p.frames n p.block_pages p.part_limit p.unit_pages p.atom p.callers p.counters p.batch held (ap (λ (header : Header). record header { lazy = n }) held.header) held.among (λ early. held.opening (omega arith)))

block_at : (rank : ℕ) → follows rank 5 ≡ true → (2 ≤ rank) × (rank < 5)
block_at rank h = grind (arith, nat_tests)

block_follows : (rank : ℕ) → 2 ≤ rank → rank < 5 → follows rank 5 ≡ true
block_follows rank low high = grind (arith, nat_tests)

-- the numbers of a block line
pub record AreBlockSizes (pages part_limit : ℕ) : Type 0 where
  pub low : 8 ≤ pages
  pub high : pages ≤ 1024
  pub block : IsPower pages
  pub part : IsPower part_limit
  pub part_high : 2 * part_limit ≤ pages

pub block_sizes : (r : Reading) (pages part_limit : ℕ) → is_allowed r (Blocks pages part_limit) ≡ true → AreBlockSizes pages part_limit
block_sizes r pages part_limit h =
    let all = and_parts (is_power_of_two pages && within 8 1024 pages && is_power_of_two part_limit) (within 1 (pages / 2) part_limit) h in
    let parts = and_parts (is_power_of_two pages && within 8 1024 pages) (is_power_of_two part_limit) all.0 in
    let block = and_parts (is_power_of_two pages) (within 8 1024 pages) parts.0 in
    let range = in_range 8 1024 pages block.1 in
    let limit = in_range 1 (pages / 2) part_limit all.1 in
    record { low = range.0; high = range.1; block = power_of_two pages block.0; part = power_of_two part_limit parts.1; part_high = omega arith }

pub block_refused : (p q : Progress) (r : Reading) (text : List ℕ) (a b : ℕ) → IsHeld p r → is_number a ≡ true → is_number b ≡ true → text ≡ fields (decimal a ∷ decimal b ∷ [])
    → (2 ≤ p.rank → p.rank < 5 → is_allowed r (Blocks a b) ≡ true → ⊥) → Steps r (codes "block " ++ text) false q
block_refused p q r text a b held wide long e none =
    pair_refused q r (codes "block") text Blocks 5 (λ a b. is_allowed r (Blocks a b)) a b (block_lines r) wide long e (λ place rules.
    let at = block_at r.rank place in
    let same = held.rank in
    none (omega arith) (omega arith) rules)

pub block_stands : (p : Progress) (r : Reading) (text : List ℕ) (a b : ℕ) → IsHeld p r → is_number a ≡ true → is_number b ≡ true → text ≡ fields (decimal a ∷ decimal b ∷ []) → 2 ≤ p.rank → p.rank < 5 → is_allowed r (Blocks a b) ≡ true
    → Steps r (codes "block " ++ text) true (record p { rank = 5; block_pages = a; part_limit = b })
block_stands p r text a b held wide long e after before rules =
    let same = held.rank in
    pair_stands _ r (codes "block") text Blocks 5 (λ a b. is_allowed r (Blocks a b)) a b (block_lines r) wide long e (block_follows r.rank (omega arith) (omega arith)) rules
    (held_with_header p r _ 5 p.space p.frames p.lazy a b p.unit_pages p.atom p.callers p.counters p.batch held (ap (λ (header : Header). record header { block_pages = a; part_limit = b }) held.header) held.among (λ early. held.opening (omega arith)))

pub unit_at : (rank : ℕ) → follows rank 6 ≡ true → (2 ≤ rank) × (rank < 6)
unit_at rank h = grind (arith, nat_tests)

unit_follows : (rank : ℕ) → 2 ≤ rank → rank < 6 → follows rank 6 ≡ true
unit_follows rank low high = grind (arith, nat_tests)

-- the numbers of a unit line
pub record AreUnitSizes (pages atom : ℕ) : Type 0 where
  pub low : 8 ≤ pages
  pub high : pages ≤ 64
  pub power : IsPower atom
  pub small : atom ≤ 64

pub unit_sizes : (r : Reading) (pages atom : ℕ) → is_allowed r (Units pages atom) ≡ true → AreUnitSizes pages atom
unit_sizes r pages atom h =
    let all = and_parts (within 8 64 pages && is_power_of_two atom) (within 1 64 atom) h in
    let first = and_parts (within 8 64 pages) (is_power_of_two atom) all.0 in
    let unit = in_range 8 64 pages first.0 in
    record { low = unit.0; high = unit.1; power = power_of_two atom first.1; small = (in_range 1 64 atom all.1).1 }

pub unit_refused : (p q : Progress) (r : Reading) (text : List ℕ) (a b : ℕ) → IsHeld p r → is_number a ≡ true → is_number b ≡ true → text ≡ fields (decimal a ∷ decimal b ∷ [])
    → (2 ≤ p.rank → p.rank < 6 → is_allowed r (Units a b) ≡ true → ⊥) → Steps r (codes "unit " ++ text) false q
unit_refused p q r text a b held wide long e none =
    pair_refused q r (codes "unit") text Units 6 (λ a b. is_allowed r (Units a b)) a b (unit_lines r) wide long e (λ place rules.
    let at = unit_at r.rank place in
    let same = held.rank in
    none (omega arith) (omega arith) rules)

pub unit_stands : (p : Progress) (r : Reading) (text : List ℕ) (a b : ℕ) → IsHeld p r → is_number a ≡ true → is_number b ≡ true → text ≡ fields (decimal a ∷ decimal b ∷ []) → 2 ≤ p.rank → p.rank < 6 → is_allowed r (Units a b) ≡ true
    → Steps r (codes "unit " ++ text) true (record p { rank = 6; unit_pages = a; atom = b })
unit_stands p r text a b held wide long e after before rules =
    let same = held.rank in
    pair_stands _ r (codes "unit") text Units 6 (λ a b. is_allowed r (Units a b)) a b (unit_lines r) wide long e (unit_follows r.rank (omega arith) (omega arith)) rules
    (held_with_header p r _ 6 p.space p.frames p.lazy p.block_pages p.part_limit a b p.callers p.counters p.batch held (ap (λ (header : Header). record header { unit_pages = a; atom = b }) held.header) held.among (λ early. held.opening (omega arith)))

pub callers_refused : (p q : Progress) (r : Reading) (text : List ℕ) (n : ℕ) → IsHeld p r → is_number n ≡ true → text ≡ decimal n → (2 ≤ p.rank → p.rank < 8 → 1 ≤ n → n ≤ 16 → ⊥) → Steps r (codes "callers " ++ text) false q
callers_refused p q r text n held wide e none =
    number_refused q r (codes "callers") text Callers 8 (within 1 16) n (callers_lines r) wide e (λ place rules.
    let range = in_range 1 16 n rules in
    let at = callers_at r.rank place in
    let same = held.rank in
    none (omega arith) (omega arith) range.0 range.1)

pub callers_stands : (p : Progress) (r : Reading) (text : List ℕ) (n : ℕ) → IsHeld p r → is_number n ≡ true → text ≡ decimal n → 2 ≤ p.rank → p.rank < 8 → 1 ≤ n → n ≤ 16
    → Steps r (codes "callers " ++ text) true (record p { rank = 8; callers = n })
callers_stands p r text n held wide e after before low high =
    let same = held.rank in
    let opens : r.caller ≡ 0 = held.opening (omega arith) in
    number_stands _ r (codes "callers") text Callers 8 (within 1 16) n (callers_lines r) wide e (callers_follow r.rank (omega arith) (omega arith)) (is_within 1 16 n low high)
    (held_with_header p r _ 8 p.space p.frames p.lazy p.block_pages p.part_limit p.unit_pages p.atom n p.counters p.batch held (ap (λ (header : Header). record header { callers = n }) held.header) (omega arith) (λ early. opens))

counters_at : (rank : ℕ) → follows rank 9 ≡ true → (2 ≤ rank) × (rank < 9)
counters_at rank h = grind (arith, nat_tests)

counters_follow : (rank : ℕ) → 2 ≤ rank → rank < 9 → follows rank 9 ≡ true
counters_follow rank low high = grind (arith, nat_tests)

pub counters_refused : (p q : Progress) (r : Reading) (text : List ℕ) (a b : ℕ) → IsHeld p r → is_number a ≡ true → is_number b ≡ true → text ≡ fields (decimal a ∷ decimal b ∷ [])
    → (2 ≤ p.rank → p.rank < 9 → a ≤ 256 → 1 ≤ b → b ≤ 1000000 → ⊥) → Steps r (codes "counters " ++ text) false q
counters_refused p q r text a b held wide long e none =
    pair_refused q r (codes "counters") text Counters 9 (λ a b. is_allowed r (Counters a b)) a b (counters_lines r) wide long e (λ place rules.
    let at = counters_at r.rank place in
    let same = held.rank in
    let parts = and_parts (within 0 256 a) (within 1 1000000 b) rules in
    let batch = in_range 1 1000000 b parts.1 in
    none (omega arith) (omega arith) (in_range 0 256 a parts.0).1 batch.0 batch.1)

pub counters_stands : (p : Progress) (r : Reading) (text : List ℕ) (a b : ℕ) → IsHeld p r → is_number a ≡ true → is_number b ≡ true → text ≡ fields (decimal a ∷ decimal b ∷ []) → 2 ≤ p.rank → p.rank < 9 → a ≤ 256 → 1 ≤ b → b ≤ 1000000
    → Steps r (codes "counters " ++ text) true (record p { rank = 9; counters = a; batch = b })
counters_stands p r text a b held wide long e after before few low high =
    let same = held.rank in
    pair_stands _ r (codes "counters") text Counters 9 (λ a b. is_allowed r (Counters a b)) a b (counters_lines r) wide long e (counters_follow r.rank (omega arith) (omega arith))
    (and_from (within 0 256 a) (within 1 1000000 b) (is_within 0 256 a (omega arith) few) (is_within 1 1000000 b low high))
    (held_with_header p r _ 9 p.space p.frames p.lazy p.block_pages p.part_limit p.unit_pages p.atom p.callers a b held (ap (λ (header : Header). record header { counters = a; batch = b }) held.header) held.among (λ early. held.opening (omega arith)))
