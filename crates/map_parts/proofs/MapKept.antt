-- What each kind of section keeps of the map by itself, of serials that were given, and of parts that others have in hand.
use Rattle.std.proofs.Common.{◌≡◌, ◌≢◌, ℕ, suc, ◌<◌, ◌≤◌, inl, inr, Bool, true, not, ◌&&◌, ◌==◌, List, [], ◌∷◌, ◌++◌, length, slice_get, Some, refl, ap, sym, ◌∙◌, subst, arith}
use Rattle.std.proofs.lemmas.Bool.Decides.{nat_tests}
use Rattle.std.proofs.lemmas.List.{length-set}
use Rattle.vm_model.specs.declared.areas.Span.{Span}
use Rattle.vm_model.specs.declared.areas.Area.{Area}
use Rattle.vm_model.specs.declared.areas.AreaKind.{AreaKind}
use Rattle.vm_model.specs.Space.{holds, paint, is_among}
use Rattle.vm_model.specs.Setup.{Setup}
use Rattle.vm_model.specs.PlainMap.{PlainMap, Mark, Live, Block, InHand, Lives, Ended}
use Rattle.vm_model.specs.Areas.{areas_of, mark_live}
use Rattle.vm_model.specs.Blocks.{PartAt, rounded, part_to_cut, fragmented, with_part}
use Rattle.vm_model.specs.Events.{Settle, CutPart, AddBlock, SettlePart, BeginUnmap, Retire, Fragment}
use Rattle.vm_model.specs.Effects.{effect_as}
use Rattle.vm_model.specs.Rules.{IsSetup}
use Rattle.vm_model.proofs.PaintRuns.{length-paint}
use Rattle.map_parts.specs.Owners.{is_plain}
use Rattle.map_parts.specs.KeptByEvents.{IsBlockWhole, HasPart, IsPlainSerial, IsWhole}
use Rattle.map_parts.proofs.Filters.{single, append_cases, append_first, append_last}
use Rattle.map_parts.proofs.PartRows.{whole_push}
use Rattle.map_parts.proofs.PoolParts.{areas_then, areas_of_were}
use Rattle.map_parts.proofs.WholeBlocks.{AreWhole, AreOnce, cut_whole, cut_others, life_whole, life_others, filter_whole, fragment_has, retire_whole, retire_others}

-- what a section of one caller keeps
pub record KeepsMap (c : Setup) (m : PlainMap) (k : ℕ) (m' : PlainMap) : Type 0 where
  pub whole : IsWhole c m'
  pub serials : (serial : ℕ) → IsPlainSerial m serial → IsPlainSerial m' serial
  pub hands : (j : ℕ) (at : PartAt) → j ≢ k → HasPart m.blocks at (InHand j) → HasPart m'.blocks at (InHand j)

module _ (c : Setup) (m : PlainMap) (k : ℕ) (whole : IsWhole c m) where
  -- the areas, blocks and serials stay
  pub keeps_lists : (m' : PlainMap) → length m'.marks ≡ length m.marks → m'.next_part ≡ m.next_part → m'.areas ≡ m.areas → m'.next_area ≡ m.next_area → m'.blocks ≡ m.blocks → KeepsMap c m k m'
  keeps_lists m' marks nexts areas next blocks = record {
    whole = record {
      marks = marks ∙ whole.marks;
      next_parts = ap length nexts ∙ whole.next_parts;
      serials = λ i a at. subst (λ n. a.serial < n) (sym next) (whole.serials i a (ap (λ list. slice_get list i) (sym areas) ∙ at));
      blocks = λ i b at. whole.blocks i b (ap (λ bs. slice_get bs i) (sym blocks) ∙ at);
    };
    serials = λ serial plain. record {
      given = subst (λ n. serial < n) (sym next) plain.given;
      plain = λ i a at. plain.plain i a (ap (λ list. slice_get list i) (sym areas) ∙ at);
    };
    hands = λ j at n has. subst (λ bs. HasPart bs at (InHand j)) (sym blocks) has;
  }

  -- fewer areas
  pub keeps_fewer : (m' : PlainMap) → length m'.marks ≡ length m.marks → m'.next_part ≡ m.next_part → m'.next_area ≡ m.next_area → m'.blocks ≡ m.blocks
      → ((i : ℕ) (a : Area) → slice_get m'.areas i ≡ Some a → (j : ℕ) × (slice_get m.areas j ≡ Some a)) → KeepsMap c m k m'
  keeps_fewer m' marks nexts next blocks were = record {
    whole = record {
      marks = marks ∙ whole.marks;
      next_parts = ap length nexts ∙ whole.next_parts;
      serials = λ i a at. let w = were i a at in subst (λ n. a.serial < n) (sym next) (whole.serials w.0 a w.1);
      blocks = λ i b at. whole.blocks i b (ap (λ bs. slice_get bs i) (sym blocks) ∙ at);
    };
    serials = λ serial plain. record {
      given = subst (λ n. serial < n) (sym next) plain.given;
      plain = λ i a at. let w = were i a at in plain.plain w.0 a w.1;
    };
    hands = λ j at n has. subst (λ bs. HasPart bs at (InHand j)) (sym blocks) has;
  }

  -- the next areas
  length-mark_live : (areas : List Area) (marks : List Mark) → length (mark_live areas marks) ≡ length marks
  length-mark_live [] marks = refl
  length-mark_live (a ∷ areas) marks = length-mark_live areas (paint (holds a.span) (Live a.serial) marks) ∙ length-paint (holds a.span) (Live a.serial) marks

  pub keeps_settled : (ps : List (Span × AreaKind)) → KeepsMap c m k (effect_as c m k (Settle ps m.next_area))
  keeps_settled ps =
      let new : List Area = areas_of k m.next_area ps in
      record {
        whole = record {
          marks = length-mark_live new m.marks ∙ whole.marks;
          next_parts = whole.next_parts;
          serials = λ i a at. elim (areas_then new m.areas i a at) [
            | inl w ↦ let is = areas_of_were k m.next_area ps w.0 a w.1 in is.5
            | inr w ↦ let below = whole.serials w.0 a w.1 in omega arith
          ];
          blocks = whole.blocks;
        };
        serials = λ serial plain. record {
          given = (let below = plain.given in omega arith);
          plain = λ i a at e. elim (areas_then new m.areas i a at) [
            | inl w ↦ let is = areas_of_were k m.next_area ps w.0 a w.1 in let from = is.4 in let below = plain.given in absurd (omega arith)
            | inr w ↦ plain.plain w.0 a w.1 e
          ];
        };
        hands = λ j at n has. has;
      }

  -- the serial of an area that was just settled
  pub settled_plain : (s : Span) (kd : AreaKind) → is_plain kd ≡ true → IsPlainSerial (effect_as c m k (Settle ((s, kd) ∷ []) m.next_area)) m.next_area
  settled_plain s kd plain = record {
    given = omega arith;
    plain = λ i a at e. elim (areas_then (areas_of k m.next_area ((s, kd) ∷ [])) m.areas i a at) [
      | inl w ↦
          let is = areas_of_were k m.next_area ((s, kd) ∷ []) w.0 a w.1 in
          ap is_plain (is.3 ∙ ap (λ (p : Span × AreaKind). p.1) (single (s, kd) w.0 is.0 is.1)) ∙ plain
      | inr w ↦ let below = whole.serials w.0 a w.1 in absurd (omega arith)
    ];
  }

  -- other blocks, where the areas stay
  pub keeps_blocks : (m' : PlainMap) → m'.marks ≡ m.marks → length m'.next_part ≡ length m.next_part → m'.areas ≡ m.areas → m'.next_area ≡ m.next_area → AreWhole c m'.blocks
      → ((j : ℕ) (at : PartAt) → j ≢ k → HasPart m.blocks at (InHand j) → HasPart m'.blocks at (InHand j)) → KeepsMap c m k m'
  keeps_blocks m' marks nexts areas next blocks hands = grind (arith, nat_tests)

  module _ (is : IsSetup c) (once : AreOnce c m.blocks) where
    some_pages : 1 ≤ c.block_pages
    some_pages = let low = is.block_low in omega arith

    other_hand : (j : ℕ) → j ≢ k → InHand j ≢ InHand k
    other_hand j n e = n (let same : j ≡ k = cc in same)

    pub keeps_cut : (cpu pages : ℕ) (at : PartAt) → part_to_cut c cpu pages m.blocks ≡ Some at → KeepsMap c m k (effect_as c m k (CutPart at))
    keeps_cut cpu pages at e =
        keeps_blocks _ refl refl refl refl (cut_whole c m.blocks some_pages once k cpu pages at e whole.blocks) (λ j at' n has. cut_others c m.blocks some_pages once k at at' (InHand j) has)

    -- a block that is added, with its first part
    empty_whole : (at : PartAt) → IsBlockWhole c (record { start = at.block; cpu = at.cpu; parts = [] })
    empty_whole at = grind (arith, some_pages, nat_tests)

    added_whole : (at : PartAt) → at.offset ≡ 0 → rounded at.pages ≤ c.block_pages → AreWhole c (m.blocks ++ with_part k at (record { start = at.block; cpu = at.cpu; parts = [] }) ∷ [])
    added_whole at offset room i b there =
        let new : Block = with_part k at (record { start = at.block; cpu = at.cpu; parts = [] }) in
        elim (append_cases m.blocks (new ∷ []) i b there) [
          | inl w ↦ whole.blocks w.0 b w.1
          | inr w ↦ subst (IsBlockWhole c) (sym (single new w.0 b w.1)) (whole_push c k at (record { start = at.block; cpu = at.cpu; parts = [] }) (empty_whole at) offset (omega arith))
        ]

    pub keeps_added : (at : PartAt) → at.offset ≡ 0 → rounded at.pages ≤ c.block_pages → KeepsMap c m k (effect_as c m k (AddBlock at))
    keeps_added at offset room = keeps_blocks _ refl refl refl refl (added_whole at offset room) (λ j at' n has. record {
      block = has.block;
      number = has.number;
      there = append_first m.blocks (with_part k at (record { start = at.block; cpu = at.cpu; parts = [] }) ∷ []) has.number has.block has.there;
      start = has.start;
      cpu = has.cpu;
      part = has.part;
      place = has.place;
      within = has.within;
      offset = has.offset;
      pages = has.pages;
      lives = has.lives;
    })

    pub added_own : (at : PartAt) → HasPart (effect_as c m k (AddBlock at)).blocks at (InHand k)
    added_own at =
        let new : Block = with_part k at (record { start = at.block; cpu = at.cpu; parts = [] }) in
        record {
          block = new;
          number = length m.blocks;
          there = append_last m.blocks new;
          start = refl;
          cpu = refl;
          part = record { offset = at.offset; pages = at.pages; caller = k; life = InHand k };
          place = 0;
          within = refl;
          offset = refl;
          pages = refl;
          lives = refl;
        }

    pub keeps_settled_part : (at : PartAt) (serial : ℕ) → HasPart m.blocks at (InHand k) → KeepsMap c m k (effect_as c m k (SettlePart at serial))
    keeps_settled_part at serial has =
        keeps_blocks _ refl (length-set m.next_part at.cpu (suc serial)) refl refl (life_whole c m.blocks some_pages once whole.blocks at (InHand k) (Lives serial) has refl refl)
        (λ j at' n has'. life_others c m.blocks some_pages once whole.blocks at at' (InHand k) (Lives serial) (InHand j) has (other_hand j n) has')

    pub keeps_begun : (at : PartAt) (serial : ℕ) → HasPart m.blocks at (Lives serial) → KeepsMap c m k (effect_as c m k (BeginUnmap at serial))
    keeps_begun at serial has =
        keeps_blocks _ refl refl refl refl (life_whole c m.blocks some_pages once whole.blocks at (Lives serial) (InHand k) has refl refl)
        (λ j at' n has'. life_others c m.blocks some_pages once whole.blocks at at' (Lives serial) (InHand k) (InHand j) has (λ e. absurd cc) has')

    pub keeps_retired : (at : PartAt) (spent : Bool) → HasPart m.blocks at (InHand k) → KeepsMap c m k (effect_as c m k (Retire at spent))
    keeps_retired at spent has =
        keeps_blocks _ refl refl refl refl (retire_whole c m.blocks some_pages once at Ended whole.blocks)
        (λ j at' n has'. retire_others c m.blocks some_pages once at at' (InHand k) (InHand j) whole.blocks has (other_hand j n) refl has')

    pub keeps_fragmented : (cpu : ℕ) → KeepsMap c m k (effect_as c m k (Fragment cpu (fragmented c cpu m.blocks)))
    keeps_fragmented cpu =
        keeps_blocks _ refl refl refl refl (filter_whole c m.blocks some_pages once (λ (b : Block). not ((b.cpu == cpu) && is_among (fragmented c cpu m.blocks) b.start)) whole.blocks)
        (λ j at' n has'. fragment_has c m.blocks some_pages once whole.blocks cpu at' (InHand j) refl has')
