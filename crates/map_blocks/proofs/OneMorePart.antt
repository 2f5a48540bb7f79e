-- A block with one more part.
use Rattle.std.proofs.Common.{◌≡◌, ℕ, ◌+◌, ◌-◌, ◌<◌, ◌≤◌, ◌^◌, List, [], ◌∷◌, ◌++◌, length, map, Option, refl, sym, ap, subst, ◌∙◌, arith}
use Rattle.vm_model.specs.declared.areas.Span.{Span}
use Rattle.vm_model.specs.Space.{span, hull}
use Rattle.vm_model.specs.PlainMap.{Block, Part, InHand}
use Rattle.vm_model.specs.Blocks.{rounded, size_of, parts_size}
use Rattle.map_blocks.specs.KeptBlocks.{ArePacked, IsKept}
use Rattle.vm_model.proofs.RoundedPages.{rounded_low}
use Rattle.map_blocks.proofs.PartsInRow.{length_le_size, packed_more, size_more, ended_more, ended_in}

-- there is room for a part where there are pages for it
pub room_more : (b : Block) (pages free dirty : ℕ) (range : Option Span) (room asked : ℕ) → IsKept b pages free dirty range room → 1 ≤ asked → rounded asked ≤ free → asked < 2 ^ 32 → length b.parts < room
room_more b pages free dirty range room asked kept some fits word = omega (arith, length_le_size 0 b.parts kept.packed, rounded_low asked (omega arith), kept.given, kept.reserved)

pub few_pages : (b : Block) (pages free dirty : ℕ) (range : Option Span) (room asked : ℕ) → IsKept b pages free dirty range room → rounded asked ≤ free → asked < 2 ^ 32 → asked ≤ 1024
few_pages b pages free dirty range room asked kept fits word = omega (arith, rounded_low asked (omega arith), kept.given, kept.most)

pub cut_kept : (b : Block) (pages free dirty : ℕ) (range : Option Span) (room asked caller : ℕ) (parts : List Part) → IsKept b pages free dirty range room → 1 ≤ asked → rounded asked ≤ free → asked < 2 ^ 32
    → parts ≡ b.parts ++ record { offset = pages - free; pages = asked; caller = caller; life = InHand caller } ∷ []
    → IsKept (record { start = b.start; cpu = b.cpu; parts = parts }) pages (free - rounded asked) dirty range room
cut_kept b pages free dirty range room asked caller parts kept some fits word is =
    let new : Part = record { offset = pages - free; pages = asked; caller = caller; life = InHand caller } in
    let ended : ended_in parts ≡ ended_in b.parts = ap ended_in is ∙ ended_more b.parts (record { offset = pages - free; pages = asked; caller = caller; life = InHand caller }) refl in
    let size : parts_size parts ≡ parts_size b.parts + rounded asked = ap parts_size is ∙ size_more b.parts (record { offset = pages - free; pages = asked; caller = caller; life = InHand caller }) in
    let given = kept.given in
    record {
      packed = subst (λ ps. ArePacked 0 ps) (sym is) (packed_more 0 b.parts (record { offset = pages - free; pages = asked; caller = caller; life = InHand caller }) kept.packed (omega arith) some (rounded_low asked (omega arith)));
      given = omega arith;
      ended = kept.ended ∙ ap parts_size (sym ended);
      hull = kept.hull ∙ ap hull (ap (λ ps. map (λ (p : Part). span p.offset (size_of p)) ps) (sym ended));
      reserved = kept.reserved;
      least = kept.least;
      most = kept.most;
      end = kept.end;
    }
