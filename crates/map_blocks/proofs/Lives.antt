-- A block with another life of one of its parts.
use Rattle.std.proofs.Common.{◌≡◌, ℕ, zero, suc, ◌+◌, ◌<◌, ◌≤◌, Bool, true, false, ◌&&◌, ◌==◌, cond, List, [], ◌∷◌, length, map, filter, find, slice_get, get_or, set, Option, Some, None, IsSome, option_map, refl, sym, ap, subst, ◌∙◌, arith}
use Rattle.vm_model.specs.declared.areas.Span.{Span}
use Rattle.vm_model.specs.Space.{span, wider, hull}
use Rattle.vm_model.specs.PlainMap.{Block, Part, Life, InHand, Lives, Ended, is_ended, lives_as}
use Rattle.vm_model.specs.Blocks.{size_of, parts_size}
use Rattle.map_blocks.specs.KeptBlocks.{ArePacked, IsKept, IsInHand, part_in, parts_named, part_of}
use Rattle.map_blocks.proofs.PartsInRow.{ended_in, lived, lived_set, set_packed, set_size, set_ended_same, part_within, part_some, find_part_at, found_at, same_test, other_test, to_same}
use Rattle.map_blocks.proofs.EndedHull.{hull_ended, dirty_ended, ended_within}
use Rattle.map_blocks.proofs.Between.{read_at}

-- the part at an offset hasn't ended, and stands at a place
pub record IsOpenAt (offset : ℕ) (b : Block) (place : ℕ) (p : Part) : Type 0 where
  pub at : slice_get b.parts place ≡ Some p
  pub here : p.offset ≡ offset
  pub lives : is_ended p.life ≡ false

pub some_in : (offset : ℕ) (b : Block) (caller : ℕ) → option_map (λ (p : Part). p.life) (part_in offset b) ≡ Some (InHand caller) → IsSome (part_in offset b)
some_in offset b caller h = by_found (part_in offset b) h
  where
    by_found : (o : Option Part) → option_map (λ (p : Part). p.life) o ≡ Some (InHand caller) → IsSome o
    by_found None e = cc
    by_found (Some p) e = refl

-- a block with a part has one
pub some_parts : (offset : ℕ) (b : Block) → IsSome (part_in offset b) → 1 ≤ length b.parts
some_parts offset b some = by_parts b.parts some
  where
    by_parts : (ps : List Part) → IsSome (find (λ (p : Part). p.offset == offset) ps) → 1 ≤ length ps
    by_parts [] h = cc
    by_parts (p ∷ ps) h = omega arith

pub hand_at : (offset : ℕ) (b : Block) (place : ℕ) (x : Part) → IsInHand offset b → (IsSome (part_in offset b) → slice_get b.parts place ≡ part_in offset b) → place < length b.parts → x ≡ get_or b.parts place x → IsOpenAt offset b place x
hand_at offset b place x hand found inside read =
    let at : slice_get b.parts place ≡ Some x = read_at b.parts place x inside read in
    let is : part_in offset b ≡ Some x = sym (found (some_in offset b hand.0 hand.1)) ∙ at in
    let there = found_at offset b.parts x is in
    let life : Some x.life ≡ Some (InHand hand.0) = ap (option_map (λ (p : Part). p.life)) (sym is) ∙ hand.1 in
    let same : x.life ≡ InHand hand.0 = cc in
    record { at = at; here = there.2; lives = ap is_ended same }

module _ (b : Block) (pages free dirty : ℕ) (range : Option Span) (room : ℕ) (kept : IsKept b pages free dirty range room) (offset place : ℕ) (p : Part) (open_at : IsOpenAt offset b place p) where
  pub open_some : 1 ≤ p.pages
  open_some = (part_some 0 b.parts place p kept.packed open_at.at).0

  pub open_most : p.pages ≤ 1024
  open_most = omega (arith, (part_some 0 b.parts place p kept.packed open_at.at).1, (part_within 0 b.parts place p kept.packed open_at.at).1, kept.given, kept.most)

  pub open_end : offset + size_of p ≤ pages
  open_end = omega (arith, (part_within 0 b.parts place p kept.packed open_at.at).1, kept.given, open_at.here)

  -- what is kept stays, where the part doesn't end
  pub lived_kept : (life : Life) (new : Part) → new ≡ record p { life = life } → is_ended life ≡ false → IsKept (record { start = b.start; cpu = b.cpu; parts = set b.parts place new }) pages free dirty range room
  lived_kept life new is lives =
      let same : ended_in (set b.parts place new) ≡ ended_in b.parts = ap (λ q. ended_in (set b.parts place q)) is ∙ set_ended_same b.parts place p life open_at.at open_at.lives lives in
      record {
        packed = subst (λ q. ArePacked 0 (set b.parts place q)) (sym is) (set_packed 0 b.parts place p life kept.packed open_at.at);
        given = ap (λ q. free + parts_size (set b.parts place q)) is ∙ ap (λ n. free + n) (set_size b.parts place p life open_at.at) ∙ kept.given;
        ended = kept.ended ∙ ap parts_size (sym same);
        hull = kept.hull ∙ ap hull (ap (λ ps. map (λ (p : Part). span p.offset (size_of p)) ps) (sym same));
        reserved = kept.reserved;
        least = kept.least;
        most = kept.most;
        end = kept.end;
      }

  pub dirty_more : dirty + size_of p ≤ pages
  dirty_more = omega (arith, kept.ended, kept.given, sym (dirty_ended b.parts place p open_at.at open_at.lives), set_size b.parts place p Ended open_at.at, ended_within (set b.parts place (record p { life = Ended })))

  pub ended_kept : (new : Part) (size : ℕ) (wide : Span) → new ≡ record p { life = Ended } → size ≡ size_of p → wide ≡ wider (span offset size) range → IsKept (record { start = b.start; cpu = b.cpu; parts = set b.parts place new }) pages free (dirty + size) (Some wide) room
  ended_kept new size wide is sized wides = record {
    packed = subst (λ q. ArePacked 0 (set b.parts place q)) (sym is) (set_packed 0 b.parts place p Ended kept.packed open_at.at);
    given = ap (λ q. free + parts_size (set b.parts place q)) is ∙ ap (λ n. free + n) (set_size b.parts place p Ended open_at.at) ∙ kept.given;
    ended = ap (λ n. n + size) kept.ended ∙ ap (λ n. parts_size (ended_in b.parts) + n) sized ∙ sym (dirty_ended b.parts place p open_at.at open_at.lives) ∙ ap (λ q. parts_size (ended_in (set b.parts place q))) (sym is);
    hull = ap (λ s. Some s) (wides ∙ ap (λ n. wider (span offset n) range) sized ∙ ap (λ n. wider (span n (size_of p)) range) (sym open_at.here) ∙ ap (λ o. wider (span p.offset (size_of p)) o) kept.hull)
        ∙ sym (hull_ended b.parts place p open_at.at open_at.lives) ∙ ap (λ q. hull (map (λ (p : Part). span p.offset (size_of p)) (ended_in (set b.parts place q)))) (sym is);
    reserved = kept.reserved;
    least = kept.least;
    most = kept.most;
    end = kept.end;
  }

  -- the parts are those with the life at the offset
  pub lived_is : (life : Life) (new : Part) → new ≡ record p { life = life } → set b.parts place new ≡ lived offset life b.parts
  lived_is life new is = ap (set b.parts place) is ∙ sym (lived_set 0 b.parts place p life kept.packed open_at.at) ∙ ap (λ o. lived o life b.parts) open_at.here

-- Parts by offset and serial.

named_none_by : (start offset serial : ℕ) (p : Part) (ps : List Part) (t : Bool) → (start + p.offset == start + offset) ≡ t → (p.offset ≡ offset → lives_as serial p.life ≡ false)
    → filter (λ (q : Part). (start + q.offset == start + offset) && lives_as serial q.life) ps ≡ [] → cond (t && lives_as serial p.life) (p ∷ filter (λ (q : Part). (start + q.offset == start + offset) && lives_as serial q.life) ps) (filter (λ (q : Part). (start + q.offset == start + offset) && lives_as serial q.life) ps) ≡ []
named_none_by start offset serial p ps true e never more =
    let same : p.offset ≡ offset = (let is = to_same (start + p.offset) (start + offset) e in omega arith) in
    ap (λ t. cond t (p ∷ filter (λ (q : Part). (start + q.offset == start + offset) && lives_as serial q.life) ps) (filter (λ (q : Part). (start + q.offset == start + offset) && lives_as serial q.life) ps)) (never same) ∙ more
named_none_by start offset serial p ps false e never more = more

pub named_none : (start offset serial : ℕ) (ps : List Part) → ((i : ℕ) (p : Part) → slice_get ps i ≡ Some p → p.offset ≡ offset → lives_as serial p.life ≡ false)
    → filter (λ (q : Part). (start + q.offset == start + offset) && lives_as serial q.life) ps ≡ []
named_none start offset serial [] never = refl
named_none start offset serial (p ∷ ps) never = named_none_by start offset serial p ps (start + p.offset == start + offset) refl (never 0 p refl) (named_none start offset serial ps (λ i q h. never (suc i) q h))

named_behind : (start offset serial off : ℕ) (ps : List Part) → ArePacked off ps → offset < off → filter (λ (q : Part). (start + q.offset == start + offset) && lives_as serial q.life) ps ≡ []
named_behind start offset serial off ps packed l = named_none start offset serial ps (λ i p h e. absurd (omega (arith, (part_within off ps i p packed h).0)))

pub named_one : (start offset serial off : ℕ) (ps : List Part) (i : ℕ) (p : Part) → ArePacked off ps → slice_get ps i ≡ Some p → p.offset ≡ offset → lives_as serial p.life ≡ true
    → filter (λ (q : Part). (start + q.offset == start + offset) && lives_as serial q.life) ps ≡ p ∷ []
named_one start offset serial off [] i p packed h here lives = cc
named_one start offset serial off (q ∷ ps) zero p packed h here lives =
    let same : q ≡ p = cc in
    let at : (start + q.offset == start + offset) ≡ true = ap (λ n. start + n == start + offset) (ap (λ (x : Part). x.offset) same ∙ here) ∙ same_test (start + offset) in
    let named : ((start + q.offset == start + offset) && lives_as serial q.life) ≡ true = ap (λ t. t && lives_as serial q.life) at ∙ ap (λ (x : Part). lives_as serial x.life) same ∙ lives in
    let behind = named_behind start offset serial (off + size_of q) ps packed.3 (omega (arith, packed.0, packed.1, packed.2, ap (λ (x : Part). x.offset) same)) in
    ap (λ t. cond t (q ∷ filter (λ (x : Part). (start + x.offset == start + offset) && lives_as serial x.life) ps) (filter (λ (x : Part). (start + x.offset == start + offset) && lives_as serial x.life) ps)) named
    ∙ ap (λ xs. q ∷ xs) behind ∙ ap (λ x. x ∷ []) same
named_one start offset serial off (q ∷ ps) (suc i) p packed h here lives =
    let low = (part_within (off + size_of q) ps i p packed.3 h).0 in
    let other : (start + q.offset == start + offset) ≡ false = other_test (start + q.offset) (start + offset) (λ e. omega (arith, packed.0, packed.1, packed.2)) in
    ap (λ t. cond (t && lives_as serial q.life) (q ∷ filter (λ (x : Part). (start + x.offset == start + offset) && lives_as serial x.life) ps) (filter (λ (x : Part). (start + x.offset == start + offset) && lives_as serial x.life) ps)) other
    ∙ named_one start offset serial (off + size_of q) ps i p packed.3 h here lives

-- where the part at the place isn't the one that is named, none is
pub none_named : (offset serial : ℕ) (b : Block) (place : ℕ) (x : Part) → ArePacked 0 b.parts → (IsSome (part_in offset b) → slice_get b.parts place ≡ part_in offset b) → place < length b.parts → x ≡ get_or b.parts place x
    → (x.offset ≡ offset → lives_as serial x.life ≡ false) → parts_named offset serial b ≡ []
none_named offset serial b place x packed found inside read never =
    let at : slice_get b.parts place ≡ Some x = read_at b.parts place x inside read in
    ap (λ ps. map (λ (p : Part). part_of p.offset p.pages b) ps)
    (named_none b.start offset serial b.parts (λ i p h here.
    let is : part_in offset b ≡ Some p = ap (λ o. find (λ (q : Part). q.offset == o) b.parts) (sym here) ∙ find_part_at 0 b.parts i p packed h in
    let one : Some x ≡ Some p = sym at ∙ found (subst (λ (o : Option Part). IsSome o) (sym is) refl) ∙ is in
    let same : x ≡ p = cc in
    ap (λ (q : Part). lives_as serial q.life) (sym same) ∙ never (ap (λ (q : Part). q.offset) same ∙ here)))

pub one_named : (offset serial : ℕ) (b : Block) (place : ℕ) (x : Part) → ArePacked 0 b.parts → place < length b.parts → x ≡ get_or b.parts place x → x.offset ≡ offset → lives_as serial x.life ≡ true
    → parts_named offset serial b ≡ part_of offset x.pages b ∷ []
one_named offset serial b place x packed inside read here lives =
    ap (λ ps. map (λ (p : Part). part_of p.offset p.pages b) ps) (named_one b.start offset serial 0 b.parts place x packed (read_at b.parts place x inside read) here lives) ∙ ap (λ n. part_of n x.pages b ∷ []) here

living : (serial : ℕ) (life : Life) → lives_as serial life ≡ true → is_ended life ≡ false
living serial (InHand k) h = cc
living serial (Lives own) h = refl
living serial Ended h = cc

pub live_at : (offset serial : ℕ) (b : Block) (place : ℕ) (x : Part) → place < length b.parts → x ≡ get_or b.parts place x → x.offset ≡ offset → lives_as serial x.life ≡ true → IsOpenAt offset b place x
live_at offset serial b place x inside read here lives = record { at = read_at b.parts place x inside read; here = here; lives = living serial x.life lives }
