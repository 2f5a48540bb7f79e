-- Parts that lie one behind the other.
use Rattle.std.proofs.Common.{◌≡◌, ◌≢◌, ℕ, zero, suc, ◌+◌, ◌<◌, ◌≤◌, Bool, true, false, ◌==◌, if◌then◌else◌, cond, List, [], ◌∷◌, ◌++◌, length, map, filter, find, slice_get, set, Some, None, refl, sym, ap, subst, ◌∙◌, arith}
use Rattle.std.proofs.lemmas.Bool.Decides.{nat_tests}
use Rattle.std.proofs.lemmas.List.Sums.{sum_by-cons, sum_by-append}
use Rattle.std.proofs.lemmas.List.Elements.{filter-append}
use Rattle.std.proofs.lemmas.List.{append-nil}
use Rattle.vm_model.specs.declared.areas.Span.{Span}
use Rattle.vm_model.specs.Space.{span}
use Rattle.vm_model.specs.PlainMap.{Part, Life, is_ended}
use Rattle.vm_model.specs.Blocks.{size_of, parts_size}
use Rattle.map_blocks.specs.KeptBlocks.{ArePacked}

-- the ended ones, and their spans
abbrev pub ended_in : List Part → List Part
ended_in ps = filter (λ (p : Part). is_ended p.life) ps

abbrev pub ended_spans : List Part → List Span
ended_spans ps = map (λ (p : Part). span p.offset (size_of p)) (ended_in ps)

-- with a life at an offset
abbrev pub lived : ℕ → Life → List Part → List Part
lived offset life ps = map (λ (p : Part). if p.offset == offset then record p { life = life } else p) ps

pub size_cons : (p : Part) (ps : List Part) → parts_size (p ∷ ps) ≡ size_of p + parts_size ps
size_cons p ps = sum_by-cons size_of p ps

pub to_same : (a b : ℕ) → (a == b) ≡ true → a ≡ b
to_same a b h = grind (arith, nat_tests)

pub same_test : (n : ℕ) → (n == n) ≡ true
same_test n = grind (arith, nat_tests)

pub other_test : (a b : ℕ) → a ≢ b → (a == b) ≡ false
other_test a b n = grind (arith, nat_tests)

-- there are no more parts than pages in them
pub length_le_size : (off : ℕ) (ps : List Part) → ArePacked off ps → length ps ≤ parts_size ps
length_le_size off [] packed = omega arith
length_le_size off (p ∷ ps) packed = omega (arith, size_cons p ps, packed.1, packed.2, length_le_size (off + size_of p) ps packed.3)

-- a part lies in the pages of them all
pub part_within : (off : ℕ) (ps : List Part) (i : ℕ) (p : Part) → ArePacked off ps → slice_get ps i ≡ Some p → (off ≤ p.offset) × (p.offset + size_of p ≤ off + parts_size ps)
part_within off [] i p packed h = cc
part_within off (q ∷ ps) zero p packed h =
    let same : q ≡ p = cc in
    let start : p.offset ≡ off = ap (λ (x : Part). x.offset) (sym same) ∙ packed.0 in
    (omega arith, omega (arith, size_cons q ps, ap size_of same))
part_within off (q ∷ ps) (suc i) p packed h =
    let rest = part_within (off + size_of q) ps i p packed.3 h in
    (omega (arith, rest.0), omega (arith, size_cons q ps, rest.1))

-- each has a page
pub part_some : (off : ℕ) (ps : List Part) (i : ℕ) (p : Part) → ArePacked off ps → slice_get ps i ≡ Some p → (1 ≤ p.pages) × (p.pages ≤ size_of p)
part_some off [] i p packed h = cc
part_some off (q ∷ ps) zero p packed h = let same : q ≡ p = cc in let a = packed.1 in let b = packed.2 in (omega (arith, ap (λ (x : Part). x.pages) same), omega (arith, ap (λ (x : Part). x.pages) same, ap size_of same))
part_some off (q ∷ ps) (suc i) p packed h = part_some (off + size_of q) ps i p packed.3 h

-- they rise
pub rising : (off : ℕ) (ps : List Part) (i j : ℕ) (p q : Part) → ArePacked off ps → i < j → slice_get ps i ≡ Some p → slice_get ps j ≡ Some q → p.offset < q.offset
rising off [] i j p q packed l h g = cc
rising off (x ∷ ps) i zero p q packed l h g = absurd (omega arith)
rising off (x ∷ ps) zero (suc j) p q packed l h g =
    let same : x ≡ p = cc in
    let start : p.offset ≡ off = ap (λ (x : Part). x.offset) (sym same) ∙ packed.0 in
    omega (arith, (part_within (off + size_of x) ps j q packed.3 g).0, packed.1, packed.2)
rising off (x ∷ ps) (suc i) (suc j) p q packed l h g = rising (off + size_of x) ps i j p q packed.3 (omega arith) h g

-- Looking for an offset.

-- behind an offset none is at it
find_behind : (off : ℕ) (ps : List Part) (offset : ℕ) → ArePacked off ps → offset < off → find (λ (p : Part). p.offset == offset) ps ≡ None
find_behind off [] offset packed l = refl
find_behind off (p ∷ ps) offset packed l =
    let no : (p.offset == offset) ≡ false = other_test p.offset offset (λ e. omega (arith, packed.0)) in
    ap (λ b. cond b (Some p) (find (λ (p : Part). p.offset == offset) ps)) no ∙ find_behind (off + size_of p) ps offset packed.3 (omega arith)

-- the part at a place is the one that is found
pub find_part_at : (off : ℕ) (ps : List Part) (i : ℕ) (p : Part) → ArePacked off ps → slice_get ps i ≡ Some p → find (λ (q : Part). q.offset == p.offset) ps ≡ Some p
find_part_at off [] i p packed h = cc
find_part_at off (q ∷ ps) zero p packed h =
    let same : q ≡ p = cc in
    ap (λ b. cond b (Some q) (find (λ (x : Part). x.offset == p.offset) ps)) (ap (λ (x : Part). x.offset == p.offset) same ∙ same_test p.offset) ∙ ap (λ (x : Part). Some x) same
find_part_at off (q ∷ ps) (suc i) p packed h =
    let no : (q.offset == p.offset) ≡ false = other_test q.offset p.offset (λ e. omega (arith, rising off (q ∷ ps) 0 (suc i) q p packed (omega arith) refl h)) in
    ap (λ b. cond b (Some q) (find (λ (x : Part). x.offset == p.offset) ps)) no ∙ find_part_at (off + size_of q) ps i p packed.3 h

found_by : (offset : ℕ) (q : Part) (ps : List Part) (p : Part) (b : Bool) → (q.offset == offset) ≡ b → cond b (Some q) (find (λ (x : Part). x.offset == offset) ps) ≡ Some p
    → (find (λ (x : Part). x.offset == offset) ps ≡ Some p → (i : ℕ) × (slice_get ps i ≡ Some p) × (p.offset ≡ offset)) → (i : ℕ) × (slice_get (q ∷ ps) i ≡ Some p) × (p.offset ≡ offset)
found_by offset q ps p true e h more = let same : q ≡ p = cc in (0, h, ap (λ (x : Part). x.offset) (sym same) ∙ to_same q.offset offset e)
found_by offset q ps p false e h more = let is = more h in (suc is.0, is.1, is.2)

pub found_at : (offset : ℕ) (ps : List Part) (p : Part) → find (λ (x : Part). x.offset == offset) ps ≡ Some p → (i : ℕ) × (slice_get ps i ≡ Some p) × (p.offset ≡ offset)
found_at offset [] p h = cc
found_at offset (q ∷ ps) p h = found_by offset q ps p (q.offset == offset) refl h (found_at offset ps p)

-- Another life.

lived_behind : (off : ℕ) (ps : List Part) (offset : ℕ) (life : Life) → ArePacked off ps → offset < off → lived offset life ps ≡ ps
lived_behind off [] offset life packed l = refl
lived_behind off (p ∷ ps) offset life packed l =
    let no : (p.offset == offset) ≡ false = other_test p.offset offset (λ e. omega (arith, packed.0)) in
    ap (λ b. (if b then record p { life = life } else p) ∷ lived offset life ps) no ∙ ap (λ xs. p ∷ xs) (lived_behind (off + size_of p) ps offset life packed.3 (omega arith))

pub lived_set : (off : ℕ) (ps : List Part) (i : ℕ) (p : Part) (life : Life) → ArePacked off ps → slice_get ps i ≡ Some p → lived p.offset life ps ≡ set ps i (record p { life = life })
lived_set off [] i p life packed h = cc
lived_set off (q ∷ ps) zero p life packed h =
    let same : q ≡ p = cc in
    let start : p.offset ≡ off = ap (λ (x : Part). x.offset) (sym same) ∙ packed.0 in
    ap (λ b. (if b then record q { life = life } else q) ∷ lived p.offset life ps) (ap (λ (x : Part). x.offset == p.offset) same ∙ same_test p.offset)
    ∙ ap (λ xs. record q { life = life } ∷ xs) (lived_behind (off + size_of q) ps p.offset life packed.3 (omega (arith, packed.1, packed.2)))
    ∙ ap (λ (x : Part). record x { life = life } ∷ ps) same
lived_set off (q ∷ ps) (suc i) p life packed h =
    let no : (q.offset == p.offset) ≡ false = other_test q.offset p.offset (λ e. omega (arith, rising off (q ∷ ps) 0 (suc i) q p packed (omega arith) refl h)) in
    ap (λ b. (if b then record q { life = life } else q) ∷ lived p.offset life ps) no ∙ ap (λ xs. q ∷ xs) (lived_set (off + size_of q) ps i p life packed.3 h)

-- the offsets and pages stay
pub set_packed : (off : ℕ) (ps : List Part) (i : ℕ) (p : Part) (life : Life) → ArePacked off ps → slice_get ps i ≡ Some p → ArePacked off (set ps i (record p { life = life }))
set_packed off [] i p life packed h = cc
set_packed off (q ∷ ps) zero p life packed h = let same : q ≡ p = cc in
    (ap (λ (x : Part). x.offset) (sym same) ∙ packed.0, omega (arith, packed.1, ap (λ (x : Part). x.pages) same), omega (arith, packed.2, ap (λ (x : Part). x.pages) same, ap size_of same), subst (λ n. ArePacked (off + n) ps) (ap size_of same) packed.3)
set_packed off (q ∷ ps) (suc i) p life packed h = (packed.0, packed.1, packed.2, set_packed (off + size_of q) ps i p life packed.3 h)

pub set_size : (ps : List Part) (i : ℕ) (p : Part) (life : Life) → slice_get ps i ≡ Some p → parts_size (set ps i (record p { life = life })) ≡ parts_size ps
set_size [] i p life h = cc
set_size (q ∷ ps) zero p life h = let same : q ≡ p = cc in size_cons (record p { life = life }) ps ∙ ap (λ (x : Part). size_of x + parts_size ps) (sym same) ∙ sym (size_cons q ps)
set_size (q ∷ ps) (suc i) p life h = omega (arith, size_cons q ps, size_cons q (set ps i (record p { life = life })), set_size ps i p life h)

-- between two lives that haven't ended nothing ends
same_ended_by : (ps qs : List Part) (q : Part) (b : Bool) → ended_in ps ≡ ended_in qs → cond b (q ∷ ended_in ps) (ended_in ps) ≡ cond b (q ∷ ended_in qs) (ended_in qs)
same_ended_by ps qs q b e = ap (λ xs. cond b (q ∷ xs) xs) e

pub set_ended_same : (ps : List Part) (i : ℕ) (p : Part) (life : Life) → slice_get ps i ≡ Some p → is_ended p.life ≡ false → is_ended life ≡ false → ended_in (set ps i (record p { life = life })) ≡ ended_in ps
set_ended_same [] i p life h old new = cc
set_ended_same (q ∷ ps) zero p life h old new =
    let same : q ≡ p = cc in
    let was : is_ended q.life ≡ false = ap (λ (x : Part). is_ended x.life) same ∙ old in
    ap (λ b. cond b (record p { life = life } ∷ ended_in ps) (ended_in ps)) new ∙ sym (ap (λ b. cond b (q ∷ ended_in ps) (ended_in ps)) was)
set_ended_same (q ∷ ps) (suc i) p life h old new = same_ended_by (set ps i (record p { life = life })) ps q (is_ended q.life) (set_ended_same ps i p life h old new)

-- One more part behind.

pub packed_more : (off : ℕ) (ps : List Part) (p : Part) → ArePacked off ps → p.offset ≡ off + parts_size ps → 1 ≤ p.pages → p.pages ≤ size_of p → ArePacked off (ps ++ p ∷ [])
packed_more off [] p packed e some less = (e ∙ omega arith, some, less, tt)
packed_more off (q ∷ ps) p packed e some less = (packed.0, packed.1, packed.2, packed_more (off + size_of q) ps p packed.3 (omega (arith, size_cons q ps)) some less)

pub size_more : (ps : List Part) (p : Part) → parts_size (ps ++ p ∷ []) ≡ parts_size ps + size_of p
size_more ps p = omega (arith, sum_by-append size_of ps (p ∷ []), size_cons p [])

pub ended_more : (ps : List Part) (p : Part) → is_ended p.life ≡ false → ended_in (ps ++ p ∷ []) ≡ ended_in ps
ended_more ps p e = filter-append (λ (q : Part). is_ended q.life) ps (p ∷ []) ∙ ap (λ b. ended_in ps ++ cond b (p ∷ []) []) e ∙ append-nil (ended_in ps)
