-- Blocks that are mended one after another, where bits of several of them were taken or freed at once.
use Rattle.std.proofs.Common.{◌≡◌, ◌≢◌, ℕ, ◌+◌, ◌-◌, ◌*◌, ◌/◌, ◌<◌, ◌≤◌, ◌⊎◌, inl, inr, min, max, Bool, true, false, not, ◌&&◌, if◌then◌else◌, List, length, drop, get_or, slice_get, slice_set, Option, Some, None, option_map, refl, ap, sym, ◌∙◌, subst, arith}
use Rattle.std.proofs.lemmas.Bool.{cases_lt, cases_eq}
use Rattle.std.proofs.lemmas.Bool.Decides.{nat_tests}
use Rattle.std.proofs.lemmas.List.{length-set}
use Rattle.std.proofs.lemmas.Option.{slice_get-get_or}
use Rattle.vm_model.specs.Space.{span, holds, paint, is_free_at, is_open, begins_free}
use Rattle.vm_model.proofs.Elements.{slice_get-set_other, slice_get-set_same}
use Rattle.vm_model.proofs.FreePlaces.{are_free, free_test}
use Rattle.vm_model.proofs.Paint.{slice_get-paint}
use Rattle.vm_model.proofs.PaintRuns.{length-paint, paint_twice, paint_there}
use Rattle.chunk_bitmaps.specs.Bitmap.{IsNextBit}
use Rattle.block_hints.specs.declared.block_scan.Block.{Block}
use Rattle.block_hints.specs.Freed.{IsRunAround, block_with}
use Rattle.block_hints.specs.KeptHints.{AreHints, IsBlockIn}
use Rattle.block_hints.specs.Taken.{WasBlockIn}
use Rattle.block_hints.proofs.BlockHints.{no_block}
use Rattle.block_hints.proofs.HintsAround.{AreTakenNow, painted_taken}
use Rattle.block_hints.proofs.HintsFreed.{AreFreeNow, painted_free, freed_is_free, freed_block}
use Rattle.block_hints.proofs.KeptHintProofs.{others_kept, unpainted}
use Rattle.block_hints.proofs.LowestFit.{AreAlikeIn, block_alike, get_taken}

-- what is kept is true of each block before one, and those from there on are as they were
pub record AreMendedUpTo (bits : List Bool) (initial blocks : List Block) (block : ℕ) : Type 0 where
  pub size : length blocks ≡ length initial
  pub hints : (other : ℕ) (b : Block) → slice_get blocks other ≡ Some b → other < block → IsBlockIn bits (1024 * other) (1024 * other + 1024) b
  pub rest : (other : ℕ) → block ≤ other → slice_get blocks other ≡ slice_get initial other

pub mended_before : (old now : List Bool) (blocks : List Block) (at count : ℕ) (x : Bool) → now ≡ paint (holds (span at count)) x old → AreHints old blocks → AreMendedUpTo now blocks blocks (at / 1024)
mended_before old now blocks at count x is are = record {
  size = refl;
  hints = λ other b e before. others_kept old now blocks at count x is are other b e (inl (omega arith));
  rest = λ other from. refl;
}

pub mended_more : (bits : List Bool) (initial blocks : List Block) (block : ℕ) (b : Block) → block < length blocks → AreMendedUpTo bits initial blocks block → IsBlockIn bits (1024 * block) (1024 * block + 1024) b
    → AreMendedUpTo bits initial (slice_set blocks block b) (block + 1)
mended_more bits initial blocks block b within are is = record {
  size = length-set blocks block b ∙ are.size;
  hints = λ other h e before. by_cases other h e before (cases_eq block other);
  rest = λ other from. slice_get-set_other blocks block other b (λ same. absurd (omega arith)) ∙ are.rest other (omega arith);
}
  where
    by_cases : (other : ℕ) (h : Block) → slice_get (slice_set blocks block b) other ≡ Some h → other < block + 1 → (block ≡ other) ⊎ (block ≢ other) → IsBlockIn bits (1024 * other) (1024 * other + 1024) h
    by_cases other h e before (inl same) =
        let there = slice_get-set_same blocks block b (get_or blocks block no_block) (slice_get-get_or blocks block no_block within) in
        let it : b ≡ h = (let f = ap (slice_get (slice_set blocks block b)) same in cc) in
        subst (λ n. IsBlockIn bits (1024 * n) (1024 * n + 1024) h) same (subst (IsBlockIn bits (1024 * block) (1024 * block + 1024)) it is)
    by_cases other h e before (inr apart) = are.hints other h (sym (slice_get-set_other blocks block other b apart) ∙ e) (omega arith)

pub mended_all : (old now : List Bool) (initial blocks : List Block) (at count block : ℕ) (x : Bool) → now ≡ paint (holds (span at count)) x old → AreHints old initial → AreMendedUpTo now initial blocks block → at + count ≤ 1024 * block → AreHints now blocks
mended_all old now initial blocks at count block x is were are end other b e = by_cases (cases_lt other block)
  where
    by_cases : (other < block) ⊎ (block ≤ other) → IsBlockIn now (1024 * other) (1024 * other + 1024) b
    by_cases (inl before) = are.hints other b e before
    by_cases (inr from) = others_kept old now initial at count x is were other b (sym (are.rest other from) ∙ e) (inr (omega arith))

-- the next block is as it was
pub kept_still : (old now : List Bool) (initial blocks : List Block) (block : ℕ) → AreHints old initial → AreMendedUpTo now initial blocks block → block < length blocks → IsBlockIn old (1024 * block) (1024 * block + 1024) (get_or blocks block no_block)
kept_still old now initial blocks block were are within =
    were block (get_or blocks block no_block) (sym (are.rest block (omega arith)) ∙ slice_get-get_or blocks block no_block within)

-- Bits of one block and of others that were taken.

taken_value : (o : Option Bool) (y : Bool) → o ≡ Some y → is_open o ≡ false → y ≡ true
taken_value o true e h = refl
taken_value o false e h = let yes = ap is_open e in cc

pub part_taken : (old now : List Bool) (low at count : ℕ) (b : Block) → now ≡ paint (holds (span at count)) true old → begins_free count (drop at old) ≡ true → 1 ≤ count → low < at + count → at < low + 1024 → IsBlockIn old low (low + 1024) b
    → WasBlockIn now low (low + 1024) (max at low) (min (at + count) (low + 1024) - max at low) b
part_taken old now low at count b is free some over under kept = record { old = was; taken = taken; free = free_was; kept = block_alike old was low (low + 1024) b alike kept }
  where
    from : ℕ
    from = max at low

    n : ℕ
    n = min (at + count) (low + 1024) - from

    was : List Bool
    was = paint (holds (span from n)) false now

    are : AreTakenNow old now at count
    are = subst (λ bits. AreTakenNow old bits at count) (sym is) (painted_taken old at count some free)

    long : at + count ≤ length now
    long = let within = (are_free old at count some free).within in omega (arith, within, ap length is ∙ length-paint (holds (span at count)) true old)

    ends : (from + n ≤ at + count) × ((from + n ≤ low + 1024) × (1 ≤ n))
    ends = (omega arith, (omega arith, omega arith))

    inside : (place : ℕ) → holds (span from n) place ≡ true → (at ≤ place) × (place < at + count)
    inside place e =
        let bounds : (from ≤ place) × (place < from + n) = (grind (arith, nat_tests), grind (arith, nat_tests)) in
        (omega (arith, bounds.0), omega (arith, bounds.1, ends.0))

    taken : now ≡ paint (holds (span from n)) true was
    taken = sym (paint_twice (holds (span from n)) true false now ∙ paint_there (holds (span from n)) true now (λ place y e within. (let i = inside place within in taken_value (slice_get now place) y e (are.are_taken place i.0 i.1))))

    is_free : (place : ℕ) → from ≤ place → place < from + n → slice_get was place ≡ Some false
    is_free place a c =
        let within : holds (span from n) place ≡ true = grind (arith, nat_tests) in
        let i = inside place within in
        slice_get-paint (holds (span from n)) false now place
        ∙ ap (option_map (λ y. if holds (span from n) place then false else y)) (get_taken now place (are.are_taken place i.0 i.1) (omega (arith, i.1, long)))
        ∙ ap (λ test. Some (if test then false else true)) within

    free_was : begins_free n (drop from was) ≡ true
    free_was = free_test was from n (record { within = omega (arith, ends.0, long, length-paint (holds (span from n)) false now); free = is_free })

    freed : AreFreeNow now was from n
    freed = painted_free now was from n refl ends.1.1 (λ place a c. ap is_open (is_free place a c))

    alike : AreAlikeIn old was low (low + 1024)
    alike place a c = by_cases (cases_lt place from) (cases_lt place (from + n))
      where
        by_cases : (place < from) ⊎ (from ≤ place) → (place < from + n) ⊎ (from + n ≤ place) → is_free_at was place ≡ is_free_at old place
        by_cases (inl before) end = freed.before place before ∙ are.before place (omega arith)
        by_cases (inr after) (inl within) = freed.are_free place after within ∙ sym (are.were_free place (omega arith) (omega (arith, ends.0)))
        by_cases (inr after) (inr past) = freed.behind place past ∙ are.behind place (omega arith)

-- the next bit behind what was taken, before and after
pub next_was : (old now : List Bool) (at count from end next : ℕ) → now ≡ paint (holds (span at count)) true old → at + count ≤ from → IsNextBit now false from end next → IsNextBit old false from end next
next_was old now at count from end next is past found = record {
  after = found.after;
  within = found.within;
  others = λ other a b. same other a ∙ found.others other a b;
  here = λ more. same next found.after ∙ found.here more;
}
  where
    same : (place : ℕ) → from ≤ place → slice_get old place ≡ slice_get now place
    same place a =
        let apart : holds (span at count) place ≡ false = grind (arith, nat_tests) in
        sym (ap (λ bits. slice_get bits place) is ∙ slice_get-paint (holds (span at count)) true old place ∙ unpainted (holds (span at count) place) true (slice_get old place) apart)

-- And that were freed.

pub part_freed : (old now : List Bool) (low at count bits start stop : ℕ) (b : Block) → now ≡ paint (holds (span at count)) false old → 1 ≤ count → at + count ≤ length now → low < at + count → at < low + 1024 → low + 1024 ≤ bits
    → IsRunAround now 0 bits at (at + count) start stop → IsBlockIn old low (low + 1024) b
    → IsBlockIn now low (low + 1024) (block_with 1024 (max at low - low) (max start low - low) (min stop (low + 1024) - low) b)
part_freed old now low at count bits start stop b is some long over under inside run kept =
    let all : low + 1024 - low ≡ 1024 = omega arith in
    subst (λ k. IsBlockIn now low (low + 1024) (block_with k (from - low) (max start low - low) (min stop (low + 1024) - low) b)) all
    (freed_block was now low (low + 1024) from n (max start low) (min stop (low + 1024)) b part around (block_alike old was low (low + 1024) b alike kept))
  where
    from : ℕ
    from = max at low

    n : ℕ
    n = min (at + count) (low + 1024) - from

    ends : (from + n ≤ at + count) × ((from + n ≤ low + 1024) × (1 ≤ n))
    ends = (omega arith, (omega arith, omega arith))

    elsewhere : ℕ → Bool
    elsewhere place = holds (span at count) place && not (holds (span low 1024) place)

    was : List Bool
    was = paint elsewhere false old

    are : AreFreeNow old now at count
    are = painted_free old now at count is some (λ place a c. freed_is_free old now at count place is (omega arith) a c)

    as_old : (place : ℕ) → elsewhere place ≡ false → is_free_at was place ≡ is_free_at old place
    as_old place e = ap is_open (slice_get-paint elsewhere false old place ∙ unpainted (elsewhere place) false (slice_get old place) e)

    free_by : (o : Option Bool) (test : Bool) → test ≡ true → (o ≡ None → ⊥) → is_open (option_map (λ y. if test then false else y) o) ≡ true
    free_by None test e there = absurd (there refl)
    free_by (Some y) true e there = refl
    free_by (Some y) false e there = cc

    there : (place : ℕ) → place < length now → slice_get old place ≡ None → ⊥
    there place within none = let same = slice_get-get_or old place false (omega (arith, ap length is ∙ length-paint (holds (span at count)) false old)) in cc

    as_free : (place : ℕ) → place < length now → elsewhere place ≡ true → is_free_at was place ≡ true
    as_free place within e = ap is_open (slice_get-paint elsewhere false old place) ∙ free_by (slice_get old place) (elsewhere place) e (there place within)

    alike : AreAlikeIn old was low (low + 1024)
    alike place a c = as_old place (let e : elsewhere place ≡ false = grind (arith, nat_tests) in e)

    before : (place : ℕ) → place < from → (place < at) ⊎ (at ≤ place) → is_free_at now place ≡ is_free_at was place
    before place below (inl first) = are.before place first ∙ sym (as_old place (let e : elsewhere place ≡ false = grind (arith, nat_tests) in e))
    before place below (inr after) =
        let under_low : place < low = omega arith in
        are.are_free place after (omega arith) ∙ sym (as_free place (omega arith) (let e : elsewhere place ≡ true = grind (arith, nat_tests) in e))

    behind : (place : ℕ) → from + n ≤ place → (place < at + count) ⊎ (at + count ≤ place) → is_free_at now place ≡ is_free_at was place
    behind place past (inl within) =
        let over_high : low + 1024 ≤ place = omega arith in
        let after : at ≤ place = omega arith in
        are.are_free place after within ∙ sym (as_free place (omega arith) (let e : elsewhere place ≡ true = grind (arith, nat_tests) in e))
    behind place past (inr beyond) = are.behind place beyond ∙ sym (as_old place (let e : elsewhere place ≡ false = grind (arith, nat_tests) in e))

    part : AreFreeNow was now from n
    part = record {
      some = ends.1.1;
      are_free = λ place a c. are.are_free place (omega arith) (omega (arith, ends.0));
      before = λ place below. before place below (cases_lt place at);
      behind = λ place past. behind place past (cases_lt place (at + count));
    }

    around : IsRunAround now low (low + 1024) from (from + n) (max start low) (min stop (low + 1024))
    around =
        let first = run.before in let last = run.behind in
        record {
          after = omega arith;
          before = omega arith;
          behind = omega arith;
          within = omega arith;
          free = λ place a c. run.free place (omega arith) (omega arith);
          left = λ more. let e : max start low ≡ start = omega arith in ap (λ k. is_free_at now (k - 1)) e ∙ run.left (omega arith);
          right = λ more. let e : min stop (low + 1024) ≡ stop = omega arith in ap (is_free_at now) e ∙ run.right (omega arith);
        }
